use Rattle.std.proofs.Common.{◌≡◌, take, vec_len}
use Rattle.aq_catalog.specs.Indexed.{IsIndexed}
use Rattle.aq_catalog.proofs.changes.shorten_tables.Given as goal

abbrev pub invariant-tables : goal.invariant-tables
invariant-tables l = IsIndexed (λ table. table.name) l.tables.items l.names × (take l.len l.tables.items ≡ take l.len l.fn.tables.items)

abbrev pub decreases-tables : goal.decreases-tables
decreases-tables l = vec_len l.tables
