use Rattle.std.proofs.Common.{◌≡◌, drop}
use Rattle.std.specs.Prelude.{position}
use Rattle.std.specs.List.{position_from}
use Rattle.aq_base.specs.Names.{same_text}
use Rattle.aq_first_machine.proofs.catalog.table_at.Given as goal

abbrev pub invariant-tables : goal.invariant-tables
invariant-tables l = position_from (λ table. same_text table.name l.name) l.at (drop l.at l.tables) ≡ position (λ table. same_text table.name l.fn.name) l.fn.tables
