-- Sets of sessions as numbers: a session is in where its bit is set.
use Rattle.std.specs.Prelude.{ℕ, Bool, true, false, ◌==◌, List, [], ◌∷◌}
use Rattle.std.specs.List.{filter, range_with_len}
use Rattle.std.specs.Int.{bit_at}

abbrev pub has : ℕ → ℕ → Bool
has bits session = bit_at bits session == 1

-- the numbers that a session may have
unfoldable pub all_sessions : List ℕ
all_sessions = range_with_len 0 16

-- those that are in, the lowest first
unfoldable pub members : ℕ → List ℕ
members bits = filter (has bits) all_sessions

abbrev pub is_nil : List ℕ → Bool
is_nil [] = true
is_nil (n ∷ ns) = false
