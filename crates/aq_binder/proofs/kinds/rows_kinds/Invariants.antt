use Rattle.std.proofs.Common.{◌≡◌, drop}
use Rattle.std.specs.List.{flat_map}
use Rattle.aq_setup.specs.Kinds.{row_kinds}
use Rattle.aq_binder.specs.Targets.{targets_of}
use Rattle.aq_binder.proofs.kinds.rows_kinds.Given as goal

abbrev pub invariant-loop-row : goal.invariant-loop-row
invariant-loop-row g l =
    flat_map (row_kinds l.scope (targets_of g.T.Target.named (g.T.Target.wanted l.cols) l.into)) (drop l.row-index l.rows) ≡ flat_map (row_kinds l.scope (targets_of g.T.Target.named (g.T.Target.wanted l.cols) l.into)) l.rows
