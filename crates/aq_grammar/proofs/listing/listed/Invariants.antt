use Rattle.std.proofs.Common.{◌∷◌, [], length}
use Rattle.aq_lex.specs.declared.token.Symbol.TheVariants.{Comma}
use Rattle.aq_grammar.specs.Terminals.{Sign}
use Rattle.aq_grammar.specs.Steps.{read_next, read_listed}
use Rattle.aq_grammar.proofs.Loops.{Stands}
use Rattle.aq_grammar.proofs.listing.listed.Given as goal

abbrev pub invariant-trees : goal.invariant-trees
invariant-trees g l = Stands (Sign Comma ∷ []) [] (read_next (g.F.Form.reading l.form)) l.trees l.rest (read_listed (g.F.Form.reading l.fn.form) l.fn.tokens)

abbrev pub decreases-trees : goal.decreases-trees
decreases-trees g l = length l.rest
