use Rattle.std.specs.Prelude.{ℕ, List, ◌++◌, ◌==◌, length, min, take, drop, if◌then◌else◌}
use Rattle.std.specs.List.{list_any}
use Rattle.aq_causes.specs.Counts.{one_more}
use Rattle.aq_causes.specs.declared.source.Taken.{Taken}
use Rattle.aq_causes.specs.declared.source.Taken.TheVariants.{Got, End, Failed}

-- a source in memory: the bytes still to come, the most that a read gives, the numbers of the reads that fail,
-- and how many reads and faults there were
pub record SourceState : Type 0 where
  pub left : List ℕ
  pub piece : ℕ
  pub fail : List ℕ
  pub calls : ℕ
  pub faults : ℕ

-- what the next read into a buffer of that length answers
abbrev pub read_answer : SourceState → ℕ → Taken
read_answer source room =
    if list_any (λ k. k == one_more source.calls) source.fail then Failed else
    (if length source.left == 0 then End else Got (min source.piece (min room (length source.left))))

-- the source after a read with that answer
abbrev pub after_read : SourceState → Taken → SourceState
after_read source (Got n) = record source { left = drop n source.left; calls = one_more source.calls }
after_read source End = record source { calls = one_more source.calls }
after_read source Failed = record source { calls = one_more source.calls; faults = one_more source.faults }

-- the buffer after a read with that answer
abbrev pub buffer_after : SourceState → Taken → List ℕ → List ℕ
buffer_after source (Got n) buf = take n source.left ++ drop n buf
buffer_after source End buf = buf
buffer_after source Failed buf = buf
