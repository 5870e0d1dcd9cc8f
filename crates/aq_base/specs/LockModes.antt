-- The modes in which a row is locked, and which of them conflict (PostgreSQL manual, section "Row-Level Locks").
use Rattle.std.specs.Prelude.{ℕ, ◌+◌, Bool, false, List, Option, Some, None, nat_le, if◌then◌else◌}
use Rattle.aq_base.specs.Maps.{at, with_at}
use Rattle.aq_base.specs.declared.data.LockMode.{LockMode}
use Rattle.aq_base.specs.declared.data.LockMode.TheVariants.{Update, NoKeyUpdate, Share, KeyShare}

abbrev pub strength : LockMode → ℕ
strength KeyShare = 0
strength Share = 1
strength NoKeyUpdate = 2
strength Update = 3

-- KEY SHARE conflicts with UPDATE alone, SHARE with both that change rows, and these with each other
abbrev pub conflict : LockMode → LockMode → Bool
conflict a b = nat_le 3 (strength a + strength b)

abbrev pub stronger : LockMode → LockMode → LockMode
stronger a b = if nat_le (strength a) (strength b) then b else a

-- for each row the strongest mode in which a transaction holds it
abbrev pub Holdings : Type 0
Holdings = List (ℕ × LockMode)

abbrev pub beside : LockMode → Option LockMode → LockMode
beside mode None = mode
beside mode (Some held) = stronger held mode

abbrev pub locked : ℕ → LockMode → Holdings → Holdings
locked row mode holdings = with_at row (beside mode (at row holdings)) holdings

abbrev pub conflicts_with : LockMode → Option LockMode → Bool
conflicts_with mode None = false
conflicts_with mode (Some held) = conflict held mode
