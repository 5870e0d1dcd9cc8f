use Rattle.std.proofs.Common.{◌≡◌, map}
use Rattle.aq_first_run.specs.Effects.{given}
use Rattle.aq_first_machine.specs.Givens.{given_shown}
use Rattle.aq_first_machine.proofs.replies.given_lines.Given as goal

abbrev pub invariant-lines : goal.invariant-lines
invariant-lines l = map given_shown l.made ≡ given l.session.0 l.statement l.yielded
