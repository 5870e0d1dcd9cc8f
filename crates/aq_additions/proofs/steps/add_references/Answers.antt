use Rattle.std.proofs.Common.{◌+◌, ap, sym, ◌∙◌, drop}
use Rattle.aq_setup.specs.Tables.{with_references}
use Rattle.aq_refusals.proofs.Loops.{drop_here}
use Rattle.aq_additions.proofs.Extending.{extends_after}
use Rattle.aq_additions.proofs.steps.add_references.Goals as goal

pub returns-in_err-add_reference-clause-kept : goal.returns-in_err-add_reference-clause-kept
returns-in_err-add_reference-clause-kept c =
    extends_after c.args.catalog.now c.loop-f.catalog c.add_reference.new.catalog c.loop-f.invariant.1 c.in_err-add_reference.ensures.kept

pub loop-f-preserved : goal.loop-f-preserved
loop-f-preserved c = (
  ap (with_references c.args.child (drop (c.loop-f.f-index + 1) c.args.all.now)) c.in_ok-add_reference.ensures.ok
      ∙ sym (ap (λ l. with_references c.args.child l c.loop-f.catalog) (drop_here c.args.all.now c.loop-f.f-index c.f-item.result c.loop-f-test.true c.f-item.is))
      ∙ c.loop-f.invariant.0,
  extends_after c.args.catalog.now c.loop-f.catalog c.add_reference.new.catalog c.loop-f.invariant.1 c.in_ok-add_reference.ensures.kept,
)
