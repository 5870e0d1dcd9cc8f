-- What was added behind a mark is not in the catalog that is shortened to it.
use Rattle.std.proofs.Common.{◌≡◌, ◌≤◌, [], ◌∷◌, ◌++◌, length, ap}
use Rattle.std.proofs.lemmas.List.{take-append-le}
use Rattle.std.proofs.Math.Seq.{take-length}
use Rattle.aq_base.specs.declared.catalog.Trigger.{Trigger}
use Rattle.aq_catalog.specs.Catalogs.{Catalog}
use Rattle.aq_catalog.specs.declared.mark.Mark.{Mark}
use Rattle.aq_catalog.specs.Marks.{mark_of, shortened}

pub shortened_trigger : (m : Mark) (cat : Catalog) (x : Trigger) → m.triggers ≤ length cat.triggers → shortened m (record cat { triggers = cat.triggers ++ x ∷ [] }) ≡ shortened m cat
shortened_trigger m cat x h = ap (λ l. record (shortened m cat) { triggers = l }) (take-append-le m.triggers cat.triggers (x ∷ []) h)

-- at its own mark a catalog is whole
pub shortened_not : (cat : Catalog) → shortened (mark_of cat) cat ≡ cat
shortened_not cat =
    let a = take-length cat.tables in
    let b = take-length cat.keys in
    let c = take-length cat.primaries in
    let d = take-length cat.fks in
    let e = take-length cat.constraints in
    let f = take-length cat.functions in
    let g = take-length cat.triggers in
    λ i. record { tables = a i; keys = b i; primaries = c i; fks = d i; constraints = e i; functions = f i; triggers = g i }
