use Rattle.std.proofs.Common.{◌≡◌, length, ap, ◌∙◌, arith}
use Rattle.aq_locks.specs.Rows.{items_of, returned_items}
use Rattle.aq_locks.proofs.Sessions.{cut_more, cut_whole, length_items}
use Rattle.aq_locks.proofs.log.return_all.Goals as goal

pub loop-session-preserved : goal.loop-session-preserved
loop-session-preserved c =
    let long : length (items_of c.args.logs.now) ≡ 16 = length_items c.args.logs.now ∙ c.told-logs in
    record {
      locks = c.return_one.ensures.locks;
      logs = c.return_one.ensures.logs ∙ (ap (returned_items c.loop-session.session _) c.loop-session.invariant.logs
          ∙ cut_more c.args.lens.now (items_of c.args.logs.now) c.loop-session.session (omega arith) (omega arith));
    }

pub returns-clause-logs : goal.returns-clause-logs
returns-clause-logs c = c.loop-session.invariant.logs ∙ cut_whole c.args.lens.now (items_of c.args.logs.now) c.loop-session.session (omega arith)
