use Rattle.std.proofs.Common.{sym, ap, ◌∙◌}
use Rattle.aq_setup.specs.Triggers.{Wanted}
use Rattle.aq_additions.proofs.AddedReferences.{on_ok}
use Rattle.aq_triggers.proofs.MadeTriggers.{adds_trigger, adds_both}
use Rattle.aq_triggers.proofs.triggers.add_trigger.Goals as goal

pub returns-in-None : goal.returns-in-None
returns-in-None c =
    record {
      ok =
          on_ok c.push_trigger.result _ _
          (adds_trigger c.args.w.now c.args.catalog.now c.push_trigger.new.self c.in_ok-trigger.trigger (ap (λ (w : Wanted). w.timing) (sym c.w.view_is) ∙ c.in-None.is) c.in_ok-trigger.ensures)
          c.push_trigger.ensures.ok;
      err = c.push_trigger.ensures.err;
    }

pub returns-in_ok-constraint-in-Some : goal.returns-in_ok-constraint-in-Some
returns-in_ok-constraint-in-Some c =
    record {
      ok =
          on_ok c.push_both.result _ _
          (adds_both c.args.w.now c.args.catalog.now c.push_both.new.catalog c.in_ok-trigger.trigger c.in_ok-constraint-in-Some.constraint c.in-Some.decl
          (ap (λ (w : Wanted). w.timing) (sym c.w.view_is) ∙ c.in-Some.is) c.in_ok-trigger.ensures c.in_ok-constraint-in-Some.ensures)
          c.push_both.ensures.ok;
      err = c.push_both.ensures.err;
    }
