use Rattle.std.proofs.Common.{◌≡◌, drop}
use Rattle.std.specs.List.{flat_map}
use Rattle.aq_setup.specs.Bodies.{faults_in, else_if_faults, handler_faults}
use Rattle.aq_binder.proofs.refused_bodies.+body_faults.Given as goal

abbrev pub invariant-statements_faults-loop-s : goal.invariant-statements_faults-loop-s
invariant-statements_faults-loop-s l = flat_map (faults_in l.setting) (drop l.s-index l.s-items) ≡ flat_map (faults_in l.setting) l.s-items

abbrev pub invariant-else_ifs_faults-loop-branch : goal.invariant-else_ifs_faults-loop-branch
invariant-else_ifs_faults-loop-branch l =
    flat_map (else_if_faults l.setting) (drop l.branch-index l.branch-items) ≡ flat_map (else_if_faults l.setting) l.branch-items

abbrev pub invariant-handlers_faults-loop-handler : goal.invariant-handlers_faults-loop-handler
invariant-handlers_faults-loop-handler l =
    flat_map (handler_faults l.setting) (drop l.handler-index l.handler-items) ≡ flat_map (handler_faults l.setting) l.handler-items
