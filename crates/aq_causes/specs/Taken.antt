use Rattle.std.specs.Prelude.{ℕ, ◌≤◌, List, length, take}
use Rattle.std.specs.declared.option.Option.{Option}
use Rattle.std.specs.Io.KnownBytes.{Keeps, Consumes, IsAtEnd}
use Rattle.aq_causes.specs.Counts.{Rose, one_more}
use Rattle.aq_causes.specs.declared.source.Taken.{Taken}
use Rattle.aq_causes.specs.declared.source.Taken.TheVariants.{Got, End, Failed}

-- what an answer of a read says of the count of faults, of the bytes that were and are left, and of the buffer
abbrev pub TakenCases : ℕ → ℕ → Option (List ℕ) → Option (List ℕ) → List ℕ → Taken → Type 0
TakenCases before now left after buf (Got n) = (1 ≤ n) × (n ≤ length buf) × Consumes left after (take n buf)
TakenCases before now left after buf End = Keeps left after × IsAtEnd after
TakenCases before now left after buf Failed = Rose before now × Keeps left after

-- the count of faults after a read with that answer, where each fault is counted once
abbrev pub faults_after_read : ℕ → Taken → ℕ
faults_after_read faults (Got n) = faults
faults_after_read faults End = faults
faults_after_read faults Failed = one_more faults
