use Rattle.std.proofs.Common.{sym, ◌∙◌, arith}
use Rattle.aq_locks.specs.Rows.{items_of}
use Rattle.aq_locks.proofs.Sessions.{lengths_by}
use Rattle.aq_locks.proofs.locks.lengths.Goals as goal

pub returns : goal.returns
returns c =
    let long = c.requires in
    lengths_by (items_of c.args.logs.now) c.loop-n.lens (c.loop-n.invariant.long ∙ sym long) (λ k h. c.loop-n.invariant.each k (omega arith))
