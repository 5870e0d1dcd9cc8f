-- A foreign key is added as the definition adds it.
use Rattle.std.proofs.Common.{◌≡◌, ℕ, List, [], ◌∷◌, ◌++◌, ◌∙◌, Result, Ok, Err, OnOk}
use Rattle.aq_base.specs.declared.catalog.ForeignKey.{ForeignKey}
use Rattle.aq_base.specs.declared.catalog.Constraint.{Constraint}
use Rattle.aq_base.specs.declared.catalog.Trigger.{Trigger}
use Rattle.aq_catalog.specs.Catalogs.{Catalog}
use Rattle.aq_setup.specs.Tables.{Referring, with_reference}
use Rattle.aq_additions.specs.Steps.{made_fk, made_triggers}

pub reference_as_defined : (child : ℕ) (f : Referring) (cat new : Catalog) (fk : ForeignKey) (con : Constraint) (made : List Trigger)
    → fk ≡ made_fk child f cat → con ≡ record { name = f.name; table = child; decl = f.reference.timing } → made ≡ made_triggers child f cat
    → new ≡ record cat { fks = cat.fks ++ fk ∷ []; constraints = cat.constraints ++ con ∷ []; triggers = cat.triggers ++ made }
    → new ≡ with_reference child f cat
reference_as_defined child f cat new fk con made a b d e =
    e ∙ (λ i. record cat { fks = cat.fks ++ a i ∷ []; constraints = cat.constraints ++ b i ∷ []; triggers = cat.triggers ++ d i })

-- what follows where a call answers Ok
pub on_ok : {T E : Type 0} (result : Result T E) (P Q : Type 0) → (P → Q) → OnOk result P → OnOk result Q
on_ok (Ok x) P Q f holds = f holds
on_ok (Err e) P Q f holds = tt
