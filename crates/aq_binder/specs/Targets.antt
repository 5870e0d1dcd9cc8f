-- What the values of an INSERT go to: columns, or names of columns.
use Rattle.std.specs.Prelude.{List, [], ◌∷◌, Option}
use Rattle.std.specs.List.{flat_map}
use Rattle.aq_base.specs.Names.{Text}
use Rattle.aq_base.specs.declared.script.Kind.{Kind}

-- each with its name and the kind that it wants
abbrev pub targets_of : {T : Type 0} → (T → Text) → (T → Option Kind) → List T → List (Text × Option Kind)
targets_of named wanted into = flat_map (λ target. (named target, wanted target) ∷ []) into
