use Rattle.std.proofs.Common.{ℕ, ◌≡◌, ◌==◌, ◌++◌, [], ◌∷◌, if◌then◌else◌, ap, sym, subst, ◌∙◌, arith}
use Rattle.aq_catalog.specs.Listed.{IsKept, listed_at, with_trigger_listed}
use Rattle.aq_catalog.proofs.Kept.{kept_trigger}
use Rattle.aq_catalog.proofs.catalog.Catalog.push_trigger.Goals as goal

pub invariant_of-self-2 : goal.invariant_of-self-2
invariant_of-self-2 c =
    let s = c.self.inside in
    let table = c.from-table.result in
    let pushed : c.push_reserved.new.self.items ≡ s.triggers.items ++ c.args.trigger ∷ [] = c.push_reserved.ensures.items ∙ ap (λ l. l ++ c.args.trigger ∷ []) c.in_ok-reserve.ensures.items in
    let added : (t : ℕ) → listed_at c.add_trigger.new.rows.items t ≡ (if table == t then with_trigger_listed s.triggers.items c.args.trigger c.new-place.result (listed_at s.by_table.items t) else listed_at s.by_table.items t) =
    subst (λ ts. (t : ℕ) → listed_at c.add_trigger.new.rows.items t ≡ (if table == t then with_trigger_listed ts c.args.trigger c.new-place.result (listed_at s.by_table.items t) else listed_at s.by_table.items t)) (c.as_slice.ensures.value ∙ c.in_ok-reserve.ensures.items) c.in_ok-add_trigger.ensures.ok in (
      subst (λ l. IsKept s.tables.items s.keys.items s.fks.items l c.add_trigger.new.rows.items) (sym pushed)
          (kept_trigger s.tables.items s.keys.items s.fks.items s.triggers.items s.by_table.items c.add_trigger.new.rows.items c.self.invariant.0 c.args.trigger table c.new-place.result
          (c.from-table.ensures ∙ c.get.ensures) (omega (arith, c.new-place.ensures, c.in_ok-in_16_bits.ensures.ok, c.len.ensures, s.triggers.ok.0)) added),
      c.self.invariant.1,
      c.self.invariant.2,
      c.self.invariant.3,
      c.self.invariant.4,
    )
