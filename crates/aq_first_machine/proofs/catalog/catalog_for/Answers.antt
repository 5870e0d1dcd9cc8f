use Rattle.std.proofs.Common.{sym, ◌∙◌}
use Rattle.aq_first_machine.proofs.Setups.{setup-first, can-first}
use Rattle.aq_first_machine.proofs.catalog.catalog_for.Goals as goal

pub define-requires : goal.define-requires
define-requires c =
    (can-first c.setup.catalog c.args.script.now.setup c.setup.placed-index c.placed-item.result (rw c.as_slice-placed-items.ensures at c.setup-test.true) (rw c.as_slice-placed-items.ensures at c.placed-item.is) c.setup.invariant.can).0

pub setup-preserved : goal.setup-preserved
setup-preserved c =
    let within = rw c.as_slice-placed-items.ensures at c.setup-test.true in
    let is = rw c.as_slice-placed-items.ensures at c.placed-item.is in
    rw c.in_ok-define.ensures (record {
      made = sym (setup-first c.setup.catalog c.args.script.now.setup c.setup.placed-index c.placed-item.result within is) ∙ c.setup.invariant.made;
      can = (can-first c.setup.catalog c.args.script.now.setup c.setup.placed-index c.placed-item.result within is c.setup.invariant.can).1;
    })
