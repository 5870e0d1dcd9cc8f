-- What a session is answered that asks for a row.
use Rattle.std.specs.Prelude.{◌≡◌, ◌≢◌, ℕ, List, []}
use Rattle.aq_xids.specs.Sets.{members}
use Rattle.aq_locks.specs.Logs.{Logs}
use Rattle.aq_locks.specs.declared.locks.Asked.{Asked}
use Rattle.aq_locks.specs.declared.locks.Asked.TheVariants.{Got, Held}

-- by those who stand in the way, what was, what is if the row is got, and what is now
abbrev pub IsAnswer : List ℕ → Logs → Logs → Logs → Asked → Type 0
IsAnswer blockers old with_row new Got = (blockers ≡ []) × (new ≡ with_row)
IsAnswer blockers old with_row new (Held by) = (members by.0 ≡ blockers) × (blockers ≢ []) × (new ≡ old)
