use Rattle.std.proofs.Common.{◌+◌, ap, sym, ◌∙◌, drop}
use Rattle.aq_setup.specs.Tables.{with_keys}
use Rattle.aq_refusals.proofs.Loops.{drop_here}
use Rattle.aq_additions.proofs.Extending.{follows_after}
use Rattle.aq_additions.proofs.steps.add_keys.Goals as goal

pub returns-in_err-add_constraint_key-clause-kept : goal.returns-in_err-add_constraint_key-clause-kept
returns-in_err-add_constraint_key-clause-kept c =
    follows_after c.args.table c.args.catalog.now c.loop-n.catalog c.add_constraint_key.new.catalog c.loop-n.invariant.1 c.in_err-add_constraint_key.ensures.kept

pub loop-n-preserved : goal.loop-n-preserved
loop-n-preserved c = (
  ap (with_keys c.args.table (drop (c.loop-n.n-index + 1) c.args.all.now)) c.in_ok-add_constraint_key.ensures.ok
      ∙ sym (ap (λ l. with_keys c.args.table l c.loop-n.catalog) (drop_here c.args.all.now c.loop-n.n-index c.n-item.result c.loop-n-test.true c.n-item.is))
      ∙ c.loop-n.invariant.0,
  follows_after c.args.table c.args.catalog.now c.loop-n.catalog c.add_constraint_key.new.catalog c.loop-n.invariant.1 c.in_ok-add_constraint_key.ensures.kept,
)
