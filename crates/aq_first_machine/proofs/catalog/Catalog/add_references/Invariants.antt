use Rattle.std.proofs.Common.{◌≡◌, ◌+◌, ◌≤◌, drop, length}
use Rattle.aq_first_base.specs.Setup.{adds_references}
use Rattle.aq_first_machine.proofs.catalog.Catalog.add_references.Given as goal

abbrev pub invariant-items : goal.invariant-items
invariant-items l = record {
  added : adds_references l.number l.table l.col (drop l.col l.items) l.self ≡ adds_references l.fn.number l.fn.table 0 l.fn.items l.fn.self;
  count : length l.self.fks ≤ length l.fn.self.fks + l.col;
}
