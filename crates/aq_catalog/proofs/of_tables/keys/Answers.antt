use Rattle.std.proofs.Common.{ap, sym, ◌∙◌}
use Rattle.aq_catalog.proofs.Rows.{listed_at-found, listed_at-none}
use Rattle.aq_catalog.proofs.of_tables.keys.Goals as goal

pub returns-in-None : goal.returns-in-None
returns-in-None c = ap (λ l. l.keys) (listed_at-none c.args.rows.now c.args.table (sym c.in-None.ensures))

pub returns-in-Some : goal.returns-in-Some
returns-in-Some c = c.keys.ensures ∙ ap (λ l. l.keys) (listed_at-found c.args.rows.now c.args.table c.in-Some.row.now (sym c.in-Some.ensures))
