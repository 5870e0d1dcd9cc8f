use Rattle.aq_catalog.specs.Catalogs.{names_taken}
use Rattle.aq_additions.proofs.TakenNames.{added_or_not}
use Rattle.aq_additions.proofs.taken.NamesTaken.add.Goals as goal

pub invariant_of-self : goal.invariant_of-self
invariant_of-self c =
    let n = c.self.inside in
    added_or_not c.add_to.result n.next.entries c.add_to.new.next.entries (names_taken n.catalog.now n.table) n.added c.add_to.new.added c.args.name.now
    c.self.invariant.0 c.self.invariant.1 c.add_to.ensures.ok c.add_to.ensures.indexed c.add_to.ensures.err
