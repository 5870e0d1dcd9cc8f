use Rattle.std.proofs.Common.{refl}
use Rattle.aq_xids.proofs.Shown.{all_shown-empty}
use Rattle.aq_xids.proofs.xids.Xids.new.Goals as goal

pub returns : goal.returns
returns c = rw (c.in_ok-with_capacity.ensures.items, all_shown-empty) refl
