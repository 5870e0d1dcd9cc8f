use Rattle.std.proofs.Common.{◌≡◌, ◌++◌, ◌∷◌, [], length, ◌≤◌, take, sym, ap, ◌∙◌, arith, length-append}
use Rattle.std.proofs.lemmas.List.{take-append-le}
use Rattle.aq_locks.specs.Rows.{IsHeldBy, IsLogged}
use Rattle.aq_locks.proofs.Held.{held_less, logged_less, last_there}
use Rattle.aq_locks.proofs.log.return_to.Goals as goal

pub set_mode-requires-clause-there : goal.set_mode-requires-clause-there
set_mode-requires-clause-there c =
    let held : IsHeldBy c.locks.rows c.args.session (c.pop.new.self.items ++ c.in-Some.taken ∷ []) = rw (← c.in-Some.ensures.items) c.locks.invariant.held in
    last_there c.locks.rows c.args.session c.pop.new.self.items c.in-Some.taken held

pub locks-preserved-in-Some : goal.locks-preserved-in-Some
locks-preserved-in-Some c =
    let one : length c.locks.log.items ≡ length (c.pop.new.self.items ++ c.in-Some.taken ∷ []) = ap length c.in-Some.ensures.items in
    let long : c.args.len ≤ length c.pop.new.self.items = omega (arith, one, length-append c.pop.new.self.items (c.in-Some.taken ∷ []), c.locks-test.true, c.in-Some.ensures.cases) in
    let held : IsHeldBy c.locks.rows c.args.session (c.pop.new.self.items ++ c.in-Some.taken ∷ []) = rw (← c.in-Some.ensures.items) c.locks.invariant.held in
    let logged : IsLogged (c.pop.new.self.items ++ c.in-Some.taken ∷ []) = rw (← c.in-Some.ensures.items) c.locks.invariant.logged in
    record {
      front = sym (take-append-le c.args.len c.pop.new.self.items (c.in-Some.taken ∷ []) long) ∙ (ap (take c.args.len) (sym c.in-Some.ensures.items) ∙ c.locks.invariant.front);
      held = held_less c.locks.rows c.set_mode.new.rows c.args.session c.pop.new.self.items c.in-Some.taken c.set_mode.ensures held logged;
      logged = logged_less c.pop.new.self.items c.in-Some.taken logged;
      others = λ row other apart. c.set_mode.ensures.others row other apart ∙ c.locks.invariant.others row other apart;
    }
