use Rattle.std.proofs.Common.{ℕ, ◌≤◌, ◌≡◌, ◌++◌, List, length, map, take, drop, slice_set, ap, sym, ◌∙◌, arith}
use Rattle.std.proofs.lemmas.List.{append-nil, take_all, take_at, drop_all}
use Rattle.std.proofs.lemmas.List.Edits.{map_over_more}
use Rattle.aq_catalog.specs.Listed.{listed_at, listed_below}
use Rattle.aq_catalog.proofs.Rows.{listed_at-below}
use Rattle.aq_catalog.proofs.of_tables.keep.Goals as goal

pub loop-row-preserved : goal.loop-row-preserved
loop-row-preserved c =
    ap (slice_set c.loop-row.row-items c.loop-row.row-index) (c.keep.ensures ∙ ap (listed_below c.args.keys c.args.triggers) (sym c.row-item.is))
    ∙ map_over_more (listed_below c.args.keys c.args.triggers) c.args.rows.now.items c.loop-row.row-items c.loop-row.row-index c.row-item.result (omega arith) c.loop-row.invariant c.row-item.is

whole : {X : Type 0} (f : X → X) (xs : List X) (i : ℕ) → length xs ≤ i → map f (take i xs) ++ drop i xs ≡ map f xs
whole f xs i h = ap (λ l. map f (take i xs) ++ l) (drop_all i xs h) ∙ (append-nil (map f (take i xs)) ∙ ap (map f) (take_all i xs h))

pub returns : goal.returns
returns c = λ t.
    let rows = c.args.rows.now in
    ap (λ l. listed_at l t)
    (take_at c.loop-row.row-items (drop (length c.loop-row.row-items) rows.items) rows.len (omega (arith, rows.ok.0, ap length c.deref_mut-row-items.ensures.value))
    ∙ (c.loop-row.invariant ∙ whole (listed_below c.args.keys c.args.triggers) rows.items c.loop-row.row-index (omega (arith, ap length c.deref_mut-row-items.ensures.value))))
    ∙ listed_at-below c.args.keys c.args.triggers rows.items t
