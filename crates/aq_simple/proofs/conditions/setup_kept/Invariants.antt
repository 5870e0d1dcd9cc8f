use Rattle.std.proofs.Common.{◌≡◌, [], take, drop}
use Rattle.aq_simple.specs.Conditions.{setup_kept}
use Rattle.aq_simple.proofs.conditions.setup_kept.Given as goal

abbrev pub invariant-setup : goal.invariant-setup
invariant-setup l = setup_kept (take l.at l.setup) (drop l.at l.setup) ≡ setup_kept [] l.setup
