use Rattle.std.proofs.Common.{ap, ◌∙◌, ◌++◌, [], ◌∷◌}
use Rattle.aq_catalog.specs.Listed.{listed_at}
use Rattle.aq_catalog.proofs.Rows.{listed_at-reach}
use Rattle.aq_catalog.proofs.of_tables.reach.Goals as goal

pub rows-preserved : goal.rows-preserved
rows-preserved c = λ t.
    ap (λ l. listed_at l t) c.in_ok-push.ensures.items
    ∙ (ap (λ l. listed_at (c.rows.rows.items ++ l ∷ []) t) c.new.ensures
    ∙ (listed_at-reach c.rows.rows.items t ∙ c.rows.invariant t))
