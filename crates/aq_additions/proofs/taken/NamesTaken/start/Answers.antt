use Rattle.std.proofs.Common.{sym, subst}
use Rattle.aq_catalog.specs.Numbered.{AreTaken}
use Rattle.aq_additions.proofs.taken.NamesTaken.start.Goals as goal

pub returns-in-Some-clause-positive : goal.returns-in-Some-clause-positive
returns-in-Some-clause-positive c =
    (c.self.invariant.1 c.args.name.now c.in-Some.number.now (sym c.in-Some.ensures.value)).0

pub returns-in-Some-clause-lesser : goal.returns-in-Some-clause-lesser
returns-in-Some-clause-lesser c =
    subst (λ taken. AreTaken taken c.args.name.now c.in-Some.number.now) c.self.view_is
    (c.self.invariant.1 c.args.name.now c.in-Some.number.now (sym c.in-Some.ensures.value)).1
