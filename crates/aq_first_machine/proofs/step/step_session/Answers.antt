use Rattle.std.proofs.Common.{◌≡◌, [], rules}
use Rattle.std.specs.Option.{option_copied}
use Rattle.aq_first_machine.proofs.Standing.{stands-start}
use Rattle.aq_first_machine.proofs.step.step_session.Goals as goal

pub returns-then-is_between-clause-stands : goal.returns-then-is_between-clause-stands
returns-then-is_between-clause-stands c =
    let none : c.args.session.now.tasks ≡ [] = search rules in
    stands-start c.args.catalog.now c.args.s.0 (option_copied c.get-statement.result) c.args.world.now c.args.session.now c.start.new.world c.start.new.session
    c.requires.stands c.requires.live none c.in_ok-start.ensures.ok
