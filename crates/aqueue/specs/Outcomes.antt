-- What the words and the input come to before anything is written.
use Rattle.std.specs.Prelude.{◌≡◌, ℕ, true, List, Option}
use Rattle.aq_base.specs.Names.{Text}
use Rattle.aq_causes.specs.Counts.{Rose}
use Rattle.aqueue.specs.declared.program.Outcome.{Outcome}
use Rattle.aqueue.specs.declared.program.Outcome.TheVariants.{Writes, ReadFailed}
use Rattle.aqueue.specs.Answers.{is_task, IsAnswer}

-- an answer to the words and the input that were there; or the source failed, whose count was one number and is another
abbrev pub OutcomeCases : List Text → Option (List ℕ) → ℕ → ℕ → Outcome → Type 0
OutcomeCases words input before now (Writes status text) = IsAnswer words input status text
OutcomeCases words input before now ReadFailed = (is_task words ≡ true) × Rose before now
