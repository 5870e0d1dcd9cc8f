-- Parts of the rules of triggers that have a function of their own.
use Rattle.std.specs.Prelude.{[], ◌∷◌, codes}
use Rattle.aq_grammar.specs.Terminals.{Keyword}
use Rattle.aq_grammar.specs.Rules.{Rule, Either}
use Rattle.aq_grammar.specs.Forms.{word}
use Rattle.aq_grammar.specs.Triggers.{Fired}
use Rattle.aq_parse.specs.declared.triggers.Action.{Action}

abbrev pub function_word : Rule (Unit {0})
function_word = Either (Keyword (codes "function") ∷ []) (word (codes "function")) (word (codes "procedure"))

-- how the grammar sees what a function returned
abbrev pub fired_view : Action → Fired
fired_view fired = record { condition = fired.condition; function = fired.function }
