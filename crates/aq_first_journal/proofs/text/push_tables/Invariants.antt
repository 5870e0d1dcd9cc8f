use Rattle.std.proofs.Common.{◌≡◌, ◌++◌, length}
use Rattle.aq_first_run.specs.States.{last_database}
use Rattle.aq_first_run.specs.Texts.{tables_text}
use Rattle.aq_first_journal.proofs.text.push_tables.Given as goal

abbrev pub invariant-tables : goal.invariant-tables
invariant-tables l = l.out.items ++ tables_text l.number l.left (last_database l.machine.state.world) ≡ l.fn.out.items ++ tables_text 0 l.fn.tables (last_database l.machine.state.world)

abbrev pub decreases-tables : goal.decreases-tables
decreases-tables l = length l.left
