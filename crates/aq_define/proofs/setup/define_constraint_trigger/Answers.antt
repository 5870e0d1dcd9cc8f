use Rattle.std.proofs.Common.{◌≡◌, subst}
use Rattle.aq_setup.specs.Triggers.{Wanted, create_trigger_faults, with_trigger}
use Rattle.aq_setup.specs.Order.{in_order}
use Rattle.std.specs.Prelude.{OnOk}
use Rattle.aq_refusals.specs.Answers.{Tells}
use Rattle.aq_define.proofs.setup.define_constraint_trigger.Goals as goal

pub returns-clause-told : goal.returns-clause-told
returns-clause-told c =
    subst (λ (w : Wanted). Tells (in_order (create_trigger_faults c.args.catalog.now c.args.natives.now w)) c.create_trigger.result) c.constraint_trigger.ensures c.create_trigger.ensures.told

pub returns-clause-made : goal.returns-clause-made
returns-clause-made c =
    subst (λ (w : Wanted). OnOk c.create_trigger.result (c.create_trigger.new.catalog ≡ with_trigger w c.args.catalog.now)) c.constraint_trigger.ensures c.create_trigger.ensures.ok
