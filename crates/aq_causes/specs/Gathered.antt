use Rattle.std.specs.Prelude.{◌≡◌, ℕ, ◌<◌, ◌≤◌, List, [], length, Some}
use Rattle.std.specs.declared.option.Option.{Option}
use Rattle.std.specs.Io.KnownBytes.{Consumes, IsAtEnd}
use Rattle.aq_causes.specs.Counts.{Rose}
use Rattle.aq_causes.specs.declared.reading.Gathered.{Gathered}
use Rattle.aq_causes.specs.declared.reading.Gathered.TheVariants.{All, Failed, TooLong}

-- the source gave some bytes, as many as P says
abbrev pub Gave : Option (List ℕ) → Option (List ℕ) → (ℕ → Type 0) → Type 0
Gave left after P = (given : List ℕ) × P (length given) × Consumes left after given

-- what an answer of a reading up to a limit says of the count of faults and of the bytes that were and are left
abbrev pub GatheredCases : ℕ → ℕ → ℕ → Option (List ℕ) → Option (List ℕ) → Gathered → Type 0
GatheredCases limit before now left after (All bytes) = (length bytes ≤ limit) × Consumes left after bytes × IsAtEnd after
GatheredCases limit before now left after Failed = Rose before now × Gave left after (λ n. n ≤ limit)
GatheredCases limit before now left after TooLong = Gave left after (λ n. limit < n)

-- the same where the source told the bytes that were left: all of them or more than the limit
abbrev pub ToldCases : ℕ → List ℕ → Option (List ℕ) → Gathered → Type 0
ToldCases limit left after (All bytes) = (bytes ≡ left) × (length left ≤ limit) × (after ≡ Some [])
ToldCases limit left after Failed = Unit {0}
ToldCases limit left after TooLong = limit < length left
