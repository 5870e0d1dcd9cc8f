-- The faults of elements that stand one behind the other, each with regard to those before it.
use Rattle.std.specs.Prelude.{List, [], ◌∷◌, ◌++◌, if◌then◌else◌}
use Rattle.std.specs.List.{list_any}
use Rattle.aq_base.specs.Names.{Text, same_text}
use Rattle.aq_base.specs.declared.fault.SqlFault.{SqlFault}
use Rattle.aq_base.specs.declared.data.Assignment.{Assignment}
use Rattle.aq_base.specs.declared.catalog.Column.{Column}
use Rattle.aq_setup.specs.Names.{target_faults}
use Rattle.aq_refusals.specs.Faults.{column_twice, assigned_twice}

abbrev pub faults_behind : {X : Type 0} → (List X → X → List SqlFault) → List X → List X → List SqlFault
faults_behind step before [] = []
faults_behind step before (x ∷ xs) = step before x ++ faults_behind step (before ++ x ∷ []) xs

-- a name that stands before
abbrev pub repeated : (Text → SqlFault) → List Text → Text → List SqlFault
repeated fault before name = if list_any (same_text name) before then fault name ∷ [] else []

-- of a target column of an INSERT
abbrev pub column_faults : Text → List Column → List Text → Text → List SqlFault
column_faults table cols before column = target_faults table cols column ++ repeated column_twice before column

-- of an assignment of an UPDATE
abbrev pub assignment_repeated : List Assignment → Assignment → List SqlFault
assignment_repeated before a = if list_any (λ (b : Assignment). same_text a.column b.column) before then assigned_twice a.column ∷ [] else []
