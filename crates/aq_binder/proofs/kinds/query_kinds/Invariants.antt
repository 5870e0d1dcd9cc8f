use Rattle.std.proofs.Common.{◌≡◌, length}
use Rattle.aq_setup.specs.Kinds.{query_kinds}
use Rattle.aq_binder.specs.Targets.{targets_of}
use Rattle.aq_binder.proofs.kinds.query_kinds.Given as goal

abbrev pub invariant-values : goal.invariant-values
invariant-values g l =
    query_kinds l.scope (targets_of g.T.Target.named (g.T.Target.wanted l.cols) l.targets) l.values
    ≡ query_kinds l.scope (targets_of g.T.Target.named (g.T.Target.wanted l.cols) l.into) l.found

abbrev pub decreases-values : goal.decreases-values
decreases-values g l = length l.values
