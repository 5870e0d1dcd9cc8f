use Rattle.std.specs.Prelude.{ℕ, List, ◌++◌, ◌-◌, ◌==◌, length, min, take, if◌then◌else◌}
use Rattle.std.specs.List.{list_any}
use Rattle.aq_causes.specs.Counts.{one_more}
use Rattle.aq_causes.specs.declared.sink.Put.{Put}
use Rattle.aq_causes.specs.declared.sink.Put.TheVariants.{Took, Failed}

-- a sink in memory: the bytes taken, the most that it takes in all, the numbers of the writes that fail,
-- and how many writes and faults there were
pub record SinkState : Type 0 where
  pub written : List ℕ
  pub room : ℕ
  pub fail : List ℕ
  pub calls : ℕ
  pub faults : ℕ

-- what the next write of a piece answers
abbrev pub write_answer : SinkState → List ℕ → Put
write_answer sink piece =
    if list_any (λ k. k == one_more sink.calls) sink.fail then Failed else
    (if sink.room - length sink.written == 0 then Failed else Took (min (length piece) (sink.room - length sink.written)))

-- the sink after a write of the piece with that answer
abbrev pub after_write : SinkState → List ℕ → Put → SinkState
after_write sink piece (Took n) = record sink { written = sink.written ++ take n piece; calls = one_more sink.calls }
after_write sink piece Failed = record sink { calls = one_more sink.calls; faults = one_more sink.faults }
