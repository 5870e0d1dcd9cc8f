-- What is left of the stack once the loan of its last list has ended.
use Rattle.std.specs.Prelude.{◌-◌, List, length, Option, slice_set}
use Rattle.std.specs.Borrow.{LendsIf, MutBor, Fml}
use Rattle.aq_events.specs.declared.entries.Entry.{Entry}
use Rattle.aq_events.specs.contracts.list.EventList.{the_row as list_row}
use Rattle.aq_levels.specs.contracts.levels.Levels.{the_row as levels_row}

abbrev pub LendsTop : MutBor (List (List Entry)) → Option (MutBor (List Entry)) → Fml
LendsTop s r = LendsIf levels_row list_row s r (λ list. slice_set s.now (length s.now - 1) list) s.now
