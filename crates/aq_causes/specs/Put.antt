use Rattle.std.specs.Prelude.{ℕ, ◌≤◌, List, length, take}
use Rattle.std.specs.declared.option.Option.{Option}
use Rattle.std.specs.Io.KnownBytes.{Keeps, Appends}
use Rattle.aq_causes.specs.Counts.{Rose, one_more}
use Rattle.aq_causes.specs.declared.sink.Put.{Put}
use Rattle.aq_causes.specs.declared.sink.Put.TheVariants.{Took, Failed}

-- what an answer of a write says of the count of faults, of the bytes written before and after, and of the piece
abbrev pub PutCases : ℕ → ℕ → Option (List ℕ) → Option (List ℕ) → List ℕ → Put → Type 0
PutCases before now written after piece (Took n) = (1 ≤ n) × (n ≤ length piece) × Appends written after (take n piece)
PutCases before now written after piece Failed = Rose before now × Keeps written after

-- the count of faults after a write with that answer, where each fault is counted once
abbrev pub faults_after_write : ℕ → Put → ℕ
faults_after_write faults (Took n) = faults
faults_after_write faults Failed = one_more faults
