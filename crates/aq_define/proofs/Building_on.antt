-- A setup, statement after statement.
use Rattle.std.proofs.Common.{◌≡◌, ℕ, ◌+◌, ◌<◌, List, ◌∷◌, Result, Ok, Err, length, drop, get_or, refl, ap, sym, ◌∙◌, subst}
use Rattle.aq_base.specs.declared.fault.SqlFault.{SqlFault}
use Rattle.aq_base.specs.declared.script.Placed.{Placed}
use Rattle.aq_base.specs.declared.catalog.NativeName.{NativeName}
use Rattle.aq_catalog.specs.Catalogs.{Catalog, no_tables}
use Rattle.aq_setup.specs.Setup.{RefusedSetup, define, setup_from}
use Rattle.aq_refusals.specs.declared.fault.CatFault.{CatFault}
use Rattle.aq_refusals.specs.declared.fault.CatFault.TheVariants as told
use Rattle.aq_define.specs.declared.building.BuildFault.{BuildFault}
use Rattle.aq_define.specs.declared.building.BuildFault.TheVariants.{NoMemory, Setup}
use Rattle.aq_refusals.specs.Answers.{IsRefusal}
use Rattle.aq_define.specs.Built.{IsAtLine, IsRefusedAt, IsSetupFault}
use Rattle.aq_refusals.proofs.Loops.{drop_here}

pub refused_at : (answer : Result Catalog SqlFault) (line : ℕ) (e : CatFault) (b : BuildFault) → IsRefusal answer e → IsAtLine line e b → IsRefusedAt answer line b
unfolding IsRefusal IsRefusedAt
refused_at answer line told.NoMemory b h at = subst (IsRefusedAt answer line) (sym at) tt
refused_at answer line (told.Sql fault) b h at = subst (IsRefusedAt answer line) (sym at) (h, refl)

step_ok : (natives : List NativeName) (cat next : Catalog) (x : Placed) (others : List Placed) → define natives cat x.statement ≡ Ok next → setup_from natives cat (x ∷ others) ≡ setup_from natives next others
step_ok natives cat next x others h =
    ap (λ (answer : Result Catalog SqlFault). elim answer as (λ a. Result Catalog RefusedSetup) [ Ok made ↦ setup_from natives made others | Err fault ↦ Err (record { line = x.line; fault = fault }) ]) h

step_err : (natives : List NativeName) (cat : Catalog) (x : Placed) (others : List Placed) (fault : SqlFault) → define natives cat x.statement ≡ Err fault → setup_from natives cat (x ∷ others) ≡ Err (record { line = x.line; fault = fault })
step_err natives cat x others fault h =
    ap (λ (answer : Result Catalog SqlFault). elim answer as (λ a. Result Catalog RefusedSetup) [ Ok made ↦ setup_from natives made others | Err fault ↦ Err (record { line = x.line; fault = fault }) ]) h

pub built_on : (natives : List NativeName) (all : List Placed) (i : ℕ) (x : Placed) (cat next : Catalog) → i < length all → x ≡ get_or all i x → setup_from natives cat (drop i all) ≡ setup_from natives no_tables all → define natives cat x.statement ≡ Ok next → setup_from natives next (drop (i + 1) all) ≡ setup_from natives no_tables all
built_on natives all i x cat next within is left h =
    sym (step_ok natives cat next x (drop (i + 1) all) h) ∙ sym (ap (setup_from natives cat) (drop_here all i x within is)) ∙ left

pub refused_here : (natives : List NativeName) (all : List Placed) (i : ℕ) (x : Placed) (cat : Catalog) (b : BuildFault) → i < length all → x ≡ get_or all i x → setup_from natives cat (drop i all) ≡ setup_from natives no_tables all → IsRefusedAt (define natives cat x.statement) x.line b → IsSetupFault (setup_from natives no_tables all) b
unfolding IsRefusedAt IsSetupFault
refused_here natives all i x cat NoMemory within is left h = tt
refused_here natives all i x cat (Setup at fault) within is left h =
    sym left
    ∙ ap (setup_from natives cat) (drop_here all i x within is)
    ∙ step_err natives cat x (drop (i + 1) all) fault h.0
    ∙ ap (λ (k : ℕ). Err (record { line = k; fault = fault })) (sym h.1)
