use Rattle.std.proofs.Common.{◌∷◌, [], length}
use Rattle.aq_grammar.specs.Terminals.{PlainName}
use Rattle.aq_grammar.specs.Nonterminals.{reads}
use Rattle.aq_grammar.proofs.Loops.{Stands}
use Rattle.aq_script.specs.Sections.{item, items}
use Rattle.aq_script.proofs.items.items.Given as goal

abbrev pub invariant-items : goal.invariant-items
invariant-items l = Stands (PlainName ∷ []) [] (reads item) l.found l.rest (reads items l.fn.tokens)

abbrev pub decreases-items : goal.decreases-items
decreases-items l = length l.rest
