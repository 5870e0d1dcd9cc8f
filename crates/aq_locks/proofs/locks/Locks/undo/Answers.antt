use Rattle.std.proofs.Common.{map, refl, ap, ◌∙◌}
use Rattle.aq_locks.specs.Rows.{items_of, locks_of}
use Rattle.aq_locks.proofs.Sessions.{shown_cut}
use Rattle.aq_locks.proofs.locks.Locks.undo.Goals as goal

pub returns-in-Some : goal.returns-in-Some
returns-in-Some c =
    let shown = ap (map locks_of) c.return_all.ensures.logs ∙ shown_cut c.in-Some.lens (items_of c.self.inside.logs) in
    rw (← c.self.view_is, c.in-Some.is) (rw shown refl)
