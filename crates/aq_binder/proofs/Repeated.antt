-- Names that stand before, in the order in which they stand or in the reverse one.
use Rattle.std.proofs.Common.{◌≡◌, refl, ap, sym, ◌∙◌, Bool, true, false, ◌||◌, List, [], ◌∷◌, ◌++◌, append_assoc, map}
use Rattle.std.specs.Prelude.{if◌then◌else◌}
use Rattle.std.specs.List.{list_any}
use Rattle.std.proofs.lemmas.List.Folds.{list_any-append}
use Rattle.aq_base.specs.Names.{Text, same_text}
use Rattle.aq_base.specs.declared.fault.SqlFault.{SqlFault}
use Rattle.aq_base.specs.declared.data.Assignment.{Assignment}
use Rattle.aq_base.specs.declared.data.Update.{Update}
use Rattle.aq_base.specs.declared.catalog.Column.{Column}
use Rattle.aq_setup.specs.Names.{target_faults, insert_columns}
use Rattle.aq_setup.specs.Lengths.{update_lengths}
use Rattle.aq_setup.specs.Scopes.{repeats_behind}
use Rattle.aq_refusals.specs.Faults.{column_twice, assigned_twice}
use Rattle.aq_binder.specs.Repeating.{faults_behind, repeated, column_faults, assignment_repeated}

either_order : (a b : Bool) → (a || b) ≡ (b || (a || false))
either_order true true = refl
either_order true false = refl
either_order false true = refl
either_order false false = refl

any_pushed : {X : Type 0} (p : X → Bool) (x : X) (xs : List X) (b : Bool) → b ≡ list_any p xs → (p x || b) ≡ list_any p (xs ++ x ∷ [])
any_pushed p x xs b alike = ap (λ r. p x || r) alike ∙ either_order (p x) (list_any p xs) ∙ sym (list_any-append p xs (x ∷ []))

pub columns_are : (table : Text) (cols : List Column) (reversed before columns : List Text)
    → ((p : Text → Bool) → list_any p reversed ≡ list_any p before)
    → insert_columns table cols reversed columns ≡ faults_behind (column_faults table cols) before columns
columns_are table cols reversed before [] alike = refl
columns_are table cols reversed before (c ∷ columns) alike =
    ap (λ (b : Bool). target_faults table cols c ++ ((if b then column_twice c ∷ [] else []) ++ insert_columns table cols (c ∷ reversed) columns)) (alike (same_text c))
    ∙ ap (λ (l : List SqlFault). target_faults table cols c ++ (repeated column_twice before c ++ l))
    (columns_are table cols (c ∷ reversed) (before ++ c ∷ []) columns (λ p. any_pushed p c before (list_any p reversed) (alike p)))
    ∙ sym (append_assoc (target_faults table cols c) (repeated column_twice before c) (faults_behind (column_faults table cols) (before ++ c ∷ []) columns))

mapped_if : (f : Text → SqlFault) (b : Bool) (x : Text) (xs : List Text) → map f (if b then x ∷ xs else xs) ≡ (if b then f x ∷ [] else []) ++ map f xs
mapped_if f true x xs = refl
mapped_if f false x xs = refl

abbrev pub columns_of : List Assignment → List Text
columns_of assignments = map (λ a. a.column) assignments

pub assignments_are : (reversed : List Text) (before assignments : List Assignment)
    → ((p : Text → Bool) → list_any p reversed ≡ list_any (λ (b : Assignment). p b.column) before)
    → map assigned_twice (repeats_behind reversed (columns_of assignments)) ≡ faults_behind assignment_repeated before assignments
assignments_are reversed before [] alike = refl
assignments_are reversed before (a ∷ assignments) alike =
    mapped_if assigned_twice (list_any (same_text a.column) reversed) a.column (repeats_behind (a.column ∷ reversed) (columns_of assignments))
    ∙ ap (λ (b : Bool). (if b then assigned_twice a.column ∷ [] else []) ++ map assigned_twice (repeats_behind (a.column ∷ reversed) (columns_of assignments))) (alike (same_text a.column))
    ∙ ap (λ (l : List SqlFault). assignment_repeated before a ++ l)
    (assignments_are (a.column ∷ reversed) (before ++ a ∷ []) assignments (λ p. any_pushed (λ (b : Assignment). p b.column) a before (list_any p reversed) (alike p)))

pub assigned_are : (s : Update) (assignments : List Assignment) → assignments ≡ s.assignments → update_lengths s ≡ faults_behind assignment_repeated [] assignments
assigned_are s assignments is = assignments_are [] [] s.assignments (λ p. refl) ∙ ap (faults_behind assignment_repeated []) (sym is)
