use Rattle.std.proofs.Common.{arith}
use Rattle.aq_catalog.specs.Listed.{with_trigger_listed}
use Rattle.aq_catalog.proofs.Rows.{listed_at-added}
use Rattle.aq_catalog.proofs.of_tables.add_trigger.Goals as goal

pub returns-clause-ok : goal.returns-clause-ok
returns-clause-ok c = listed_at-added c.args.rows.now.items c.reach.new.rows.items c.args.table (with_trigger_listed c.args.triggers.now c.args.trigger.now c.args.number) c.index_mut-row.result.now c.put_trigger.new.self c.in_ok-reach.ensures.same (omega (arith, c.reach.new.rows.ok.0, c.in_ok-reach.ensures.ok)) c.index_mut-row.ensures.value c.in_ok-put_trigger.ensures.ok
