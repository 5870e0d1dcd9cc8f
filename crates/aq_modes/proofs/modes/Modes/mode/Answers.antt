use Rattle.std.proofs.Common.{arith}
use Rattle.std.proofs.lemmas.Grind.{common_steps}
use Rattle.aq_modes.proofs.Logs.{lookup-at}
use Rattle.aq_modes.proofs.modes.Modes.mode.Goals as goal

pub returns-in-Some : goal.returns-in-Some
returns-in-Some c =
    let e = lookup-at c.args.con c.self.inside.present.own.entries in
    rw (← c.self.view_is) (grind (arith, common_steps, e))

pub returns-in-None : goal.returns-in-None
returns-in-None c =
    let e = lookup-at c.args.con c.self.inside.present.own.entries in
    rw (← c.self.view_is) (grind (arith, common_steps, e))
