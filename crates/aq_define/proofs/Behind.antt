-- The way back from a catalog that was added to.
use Rattle.std.proofs.Common.{◌≡◌, ℕ, List, [], ◌∷◌, ◌++◌, length, ap, subst, ◌∙◌, Result, Ok, Err}
use Rattle.std.specs.Prelude.{OnErr}
use Rattle.std.proofs.Math.Seq.{take-length, take-append_seam}
use Rattle.aq_base.specs.declared.catalog.Table.{Table}
use Rattle.aq_catalog.specs.Catalogs.{Catalog}
use Rattle.aq_additions.specs.Steps.{Follows, Extends}
use Rattle.aq_base.specs.declared.fault.SqlFault.{SqlFault}
use Rattle.aq_setup.specs.Binding.{unless_faulty}
use Rattle.aq_catalog.specs.declared.mark.Mark.{Mark}
use Rattle.aq_refusals.specs.declared.fault.CatFault.{CatFault}
use Rattle.aq_refusals.specs.declared.fault.CatFault.TheVariants.{NoMemory, Sql}
use Rattle.aq_refusals.specs.Answers.{IsFault, IsRefusal}
use Rattle.aq_catalog.specs.Marks.{mark_of, shortened}
use Rattle.aq_define.specs.Stages.{IsBehind}
use Rattle.aq_catalog.proofs.Shortening.{shortened_not}

pub behind_itself : (cat : Catalog) → IsBehind cat cat
unfolding IsBehind
behind_itself cat = shortened_not cat

pub behind_followed : (cat : Catalog) (table : Table) (new : Catalog) → Follows (length cat.tables) (record cat { tables = cat.tables ++ table ∷ [] }) new → IsBehind cat new
unfolding IsBehind
behind_followed cat table new h =
    let a = h.tables ∙ take-append_seam cat.tables (table ∷ []) in
    let b = h.keys in
    let c = h.primaries in
    let d = h.fks in
    let e = h.constraints in
    let f = h.functions in
    let g = h.triggers in
    λ i. record { tables = a i; keys = b i; primaries = c i; fks = d i; constraints = e i; functions = f i; triggers = g i }

pub behind_extended : (cat new : Catalog) → Extends cat new → IsBehind cat new
unfolding IsBehind Extends
behind_extended cat new h =
    let f0 = h (length cat.tables) in
    let a = f0.tables ∙ take-length cat.tables in
    let b = f0.keys in
    let c = f0.primaries in
    let d = f0.fks in
    let e = f0.constraints in
    let f = f0.functions in
    let g = f0.triggers in
    λ i. record { tables = a i; keys = b i; primaries = c i; fks = d i; constraints = e i; functions = f i; triggers = g i }

pub behind_filled : (n : ℕ) (cat mid new : Catalog) (table : Table) → n ≡ length cat.tables → mid ≡ record cat { tables = cat.tables ++ table ∷ [] } → Follows n mid new → IsBehind cat new
behind_filled n cat mid new table count pushed h =
    behind_followed cat table new (subst (λ k. Follows k (record cat { tables = cat.tables ++ table ∷ [] }) new) count (subst (λ c. Follows n c new) pushed h))

pub back_again : (m : Mark) (old mid new : Catalog) → m ≡ mark_of old → new ≡ shortened m mid → IsBehind old mid → new ≡ old
unfolding IsBehind
back_again m old mid new at back h = back ∙ ap (λ k. shortened k mid) at ∙ h

pub refused : {A : Type 0} (faults : List SqlFault) (x : A) (e : CatFault) → IsFault faults e → IsRefusal (unless_faulty faults x) e
unfolding IsFault IsRefusal
refused faults x (Sql fault) h = ap (λ l. unless_faulty l x) h.1
refused faults x NoMemory h = tt

pub on_err : {T : Type 0} (r : Result T CatFault) (P Q : Type 0) → (P → Q) → OnErr r P → OnErr r Q
on_err (Ok x) P Q f h = tt
on_err (Err e) P Q f h = f h
