use Rattle.aq_triggers.proofs.PutBack.{put_back}
use Rattle.aq_triggers.proofs.triggers.push_both.Goals as goal

pub returns-in-Err : goal.returns-in-Err
returns-in-Err c =
    record {
      ok = tt;
      err = put_back c.args.catalog.now c.push_trigger.new.self c.push_constraint.new.self c.back_to.new.self c.mark-mark.result c.args.trigger
          c.mark-mark.ensures c.in_ok-push_trigger.ensures.ok c.in-Err.ensures.err c.back_to.ensures;
    }
