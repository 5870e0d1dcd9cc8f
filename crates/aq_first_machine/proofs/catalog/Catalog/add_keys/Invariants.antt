use Rattle.std.proofs.Common.{◌≡◌, drop}
use Rattle.aq_first_base.specs.Setup.{adds_keys}
use Rattle.aq_first_machine.proofs.catalog.Catalog.add_keys.Given as goal

abbrev pub invariant-items : goal.invariant-items
invariant-items l = adds_keys l.number l.table l.col (drop l.col l.items) l.self ≡ adds_keys l.fn.number l.fn.table 0 l.fn.items l.fn.self
