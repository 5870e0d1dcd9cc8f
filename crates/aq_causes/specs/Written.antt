use Rattle.std.specs.Prelude.{ℕ, ◌<◌, List, length, take}
use Rattle.std.specs.declared.option.Option.{Option}
use Rattle.std.specs.Io.KnownBytes.{Appends}
use Rattle.aq_causes.specs.Counts.{Rose}
use Rattle.aq_causes.specs.declared.writing.Written.{Written}
use Rattle.aq_causes.specs.declared.writing.Written.TheVariants.{Done, Failed}

-- what an answer of writing all bytes says of the count of faults and of the bytes written before and after
abbrev pub WrittenCases : ℕ → ℕ → Option (List ℕ) → Option (List ℕ) → List ℕ → Written → Type 0
WrittenCases before now written after bytes Done = Appends written after bytes
WrittenCases before now written after bytes Failed =
    Rose before now × ((n : ℕ) × (n < length bytes) × Appends written after (take n bytes))
