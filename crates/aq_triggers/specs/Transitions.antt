-- The names of transition tables.
use Rattle.std.specs.Prelude.{List, [], ◌∷◌, if◌then◌else◌}
use Rattle.std.specs.List.{flat_map}
use Rattle.aq_base.specs.Names.{Text}
use Rattle.aq_base.specs.declared.trigger.TransitionTable.{TransitionTable}
use Rattle.aq_setup.specs.Triggers.{is_old}

abbrev pub olds : List TransitionTable → List Text
olds transitions = flat_map (λ t. if is_old t.transition then t.name ∷ [] else []) transitions

abbrev pub news : List TransitionTable → List Text
news transitions = flat_map (λ t. if is_old t.transition then [] else t.name ∷ []) transitions
