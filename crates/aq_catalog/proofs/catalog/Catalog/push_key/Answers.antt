use Rattle.std.proofs.Common.{◌≡◌, ◌++◌, [], ◌∷◌, ap, sym, subst, ◌∙◌, arith}
use Rattle.aq_catalog.specs.Listed.{IsKept}
use Rattle.aq_catalog.proofs.Kept.{kept_key}
use Rattle.aq_catalog.proofs.catalog.Catalog.push_key.Goals as goal

pub invariant_of-self-2 : goal.invariant_of-self-2
invariant_of-self-2 c =
    let s = c.self.inside in
    let pushed : c.push_reserved.new.self.items ≡ s.keys.items ++ c.args.key ∷ [] = c.push_reserved.ensures.items ∙ ap (λ l. l ++ c.args.key ∷ []) c.in_ok-reserve.ensures.items in (
      subst (λ l. IsKept s.tables.items l s.fks.items s.triggers.items c.add_key.new.rows.items) (sym pushed)
          (kept_key s.tables.items s.keys.items s.fks.items s.triggers.items s.by_table.items c.add_key.new.rows.items c.self.invariant.0 c.args.key c.from-table.result c.new-place.result
          (c.from-table.ensures ∙ c.get.ensures) (omega (arith, c.new-place.ensures, c.in_ok-in_16_bits.ensures.ok, c.len.ensures, s.keys.ok.0)) c.in_ok-add_key.ensures.ok),
      c.self.invariant.1,
      c.self.invariant.2,
      c.self.invariant.3,
      c.self.invariant.4,
    )
