-- What the program answers to its words and its input, and the line or text that it writes.
use Rattle.std.specs.Prelude.{◌≡◌, ℕ, ◌<◌, ◌≤◌, Bool, true, false, ◌==◌, List, [], ◌++◌, length, take, Option, Some, None, is_some, IfSome, Ok, Err, codes}
use Rattle.std.specs.Fmt.{decimal}
use Rattle.std.specs.List.{list_any}
use Rattle.std.specs.Io.KnownBytes.{Appends}
use Rattle.aq_base.specs.Names.{Text}
use Rattle.aq_first_base.specs.Setup.{program_of}
use Rattle.aq_base.specs.declared.fault.SqlFault.{SqlFault}
use Rattle.aq_base.specs.declared.script.Script.{Script}
use Rattle.aq_first_base.specs.declared.simple.SimpleScript.{SimpleScript}
use Rattle.aq_catalog.specs.Catalogs.{Catalog}
use Rattle.aq_setup.specs.Setup.{RefusedSetup, setup}
use Rattle.aq_texts.specs.Canon.{canon}
use Rattle.aq_words.specs.Commands.{command_of}
use Rattle.aq_words.specs.declared.command.Command.{Command}
use Rattle.aq_words.specs.declared.command.Command.TheVariants as commands
use Rattle.aqueue.specs.declared.task.Task.{Task}
use Rattle.aqueue.specs.declared.task.Task.TheVariants.{Replay, Check}
use Rattle.aq_script.specs.Reading.{Reads, IsRefusedLine}
use Rattle.aq_simple.specs.Simple.{Runs, not_built_line}
use Rattle.aq_first_run.specs.Runs.{Schedule, run, IsComplete, IsDefaultSchedule}
use Rattle.aq_first_run.specs.Texts.{text}
use Rattle.aq_texts.specs.Rows.{line}
use Rattle.aq_first_run.specs.Told.{TellsSchedule, CanBeTold}
use Rattle.aq_first_laws.specs.Committed.{DatabasesStand}

-- ---- the words, and the lines that are no text

-- what is built of the commands
abbrev pub built : Option Command → Option Task
built (Some (commands.Replay false)) = Some Replay
built (Some commands.Check) = Some Check
built _ = None

-- what the words ask for; none where they are no list that is built
abbrev pub task_of : List Text → Option Task
task_of words = built (command_of words)

abbrev pub is_task : List Text → Bool
is_task words = is_some (task_of words)

-- the most bytes that a script may have
abbrev pub script_limit : ℕ
script_limit = 16777216

abbrev pub usage_line : Text
usage_line = line (codes "aqueue: usage: aqueue run [--trace] | replay [--trace] | check | drill --rows N")

abbrev pub too_long_line : Text
too_long_line = line (codes "aqueue: script longer than 16777216 bytes")

-- `aqueue: line L: CODE TEXT`
abbrev pub refusal_line : ℕ → SqlFault → Text
refusal_line number fault = line (codes "aqueue: line " ++ decimal number ++ codes ": " ++ fault.code.0 ++ codes " " ++ fault.text)

-- ---- the text of a run

-- The output is the text of the script's run by the default schedule. Its last line tells that schedule, after which all
-- sessions have ended; and every database of the run satisfies every foreign key and every unique key.
pub record IsTextOf (script : SimpleScript) (output : Text) : Type 0 where
  pub schedule : Schedule
  pub by_default : IsDefaultSchedule (program_of script) schedule
  pub printed : output ≡ text (program_of script) schedule
  pub told : TellsSchedule (program_of script).names output schedule
  -- and no other schedule
  pub only : (other : Schedule) → CanBeTold (program_of script).names other → TellsSchedule (program_of script).names output other → other ≡ schedule
  pub complete : IsComplete (program_of script) schedule
  pub stand : DatabasesStand (program_of script) (run (program_of script) schedule)

-- the setup of the script makes this catalog; no trigger may name a rule of the program yet
abbrev pub SetsUp : Script → Catalog → Type 0
SetsUp script catalog = setup [] script ≡ Ok catalog

-- the bytes are this script, and no statement of its setup is refused
pub record IsSetUp (bytes : List ℕ) (script : Script) : Type 0 where
  pub read : Reads bytes script
  pub catalog : Catalog
  pub sets_up : SetsUp script catalog

-- the bytes are a script that runs, and this is what runs of it
pub record RunsAs (bytes : List ℕ) (simple : SimpleScript) : Type 0 where
  pub script : Script
  pub is_set_up : IsSetUp bytes script
  pub runs : Runs script simple

-- the output is the text of a run of the script that the bytes are
pub record IsReplay (bytes : List ℕ) (output : Text) : Type 0 where
  pub simple : SimpleScript
  pub runs : RunsAs bytes simple
  pub is_text : IsTextOf simple output

-- ---- the canonical text

-- the output is the script that the bytes are, in canonical form
pub record IsChecked (bytes : List ℕ) (output : Text) : Type 0 where
  pub script : Script
  pub is_set_up : IsSetUp bytes script
  pub printed : output ≡ canon script

-- ---- what is done

-- the bytes are a script with which this can be done
abbrev pub CanBeDone : Task → List ℕ → Type 0
CanBeDone Replay bytes = (simple : SimpleScript) × RunsAs bytes simple
CanBeDone Check bytes = (script : Script) × IsSetUp bytes script

abbrev pub CannotBeDone : Task → List ℕ → Type 0
CannotBeDone task bytes = CanBeDone task bytes → ⊥

-- the output is what is asked for
abbrev pub IsDone : Task → List ℕ → Text → Type 0
IsDone Replay bytes output = IsReplay bytes output
IsDone Check bytes output = IsChecked bytes output

-- ---- the line that is refused

-- the fault of a statement that the machine doesn't run yet
abbrev pub not_built : SqlFault
not_built = record { code = record { 0 = codes "0A000" }; text = codes "this form is not built"; detail = None }

-- The line that is refused, with its fault: the first of bytes that are no script; or that of the first statement of the setup that is
-- refused; or, where the script is to run, the first with which it leaves what runs.
pub data IsRefusal (bytes : List ℕ) : Task → ℕ → SqlFault → Type 0 where
  Not_read : (task : Task) (line : ℕ) (fault : SqlFault) → IsRefusedLine bytes line fault → IsRefusal bytes task line fault
  Not_set_up : (task : Task) (script : Script) (refused : RefusedSetup) → Reads bytes script → setup [] script ≡ Err refused
      → IsRefusal bytes task refused.line refused.fault
  Not_run : (script : Script) → IsSetUp bytes script → ((simple : SimpleScript) → Runs script simple → ⊥)
      → IsRefusal bytes Replay (not_built_line script) not_built

-- ---- the status, with what is written where the sink takes all of it

pub data IsAnswer : List Text → Option (List ℕ) → ℕ → Text → Type 0 where
  Usage : (words : List Text) (input : Option (List ℕ)) → task_of words ≡ None → IsAnswer words input 1 usage_line
  Too_long : (words : List Text) (input : Option (List ℕ)) → is_task words ≡ true → IfSome input (λ bytes. script_limit < length bytes) →
      IsAnswer words input 7 too_long_line
  Refused : (words : List Text) (input : Option (List ℕ)) (task : Task) (number : ℕ) (fault : SqlFault) → task_of words ≡ Some task →
      IfSome input (λ bytes. (length bytes ≤ script_limit) × IsRefusal bytes task number fault × CannotBeDone task bytes)
      → IsAnswer words input 2 (refusal_line number fault)
  Done : (words : List Text) (input : Option (List ℕ)) (task : Task) (output : Text) → task_of words ≡ Some task →
      IfSome input (λ bytes. (length bytes ≤ script_limit) × IsDone task bytes output) → IsAnswer words input 0 output

-- one of these statuses
abbrev pub is_one_of : List ℕ → ℕ → Bool
is_one_of statuses status = list_any (λ s. s == status) statuses

-- What the sink took is what is asked for, of all bytes of a source that tells them.
abbrev pub WroteDone : List Text → Option (List ℕ) → Option (List ℕ) → Option (List ℕ) → Type 0
WroteDone words input written after =
    (task : Task) × (task_of words ≡ Some task) × IfSome input (λ bytes. (length bytes ≤ script_limit) × ((output : Text) × IsDone task bytes output × Appends written after output))

-- What the sink took is the line of a refusal of all bytes of a source that tells them.
abbrev pub WroteRefusal : List Text → Option (List ℕ) → Option (List ℕ) → Option (List ℕ) → Type 0
WroteRefusal words input written after =
    (task : Task)
    × (task_of words ≡ Some task)
    × ((number : ℕ) × ((fault : SqlFault) × IfSome input (λ bytes. IsRefusal bytes task number fault × CannotBeDone task bytes) × Appends written after (refusal_line number fault)))

-- What the sink took is a beginning of an answer to the words and the input.
abbrev pub WroteBeginning : List Text → Option (List ℕ) → Option (List ℕ) → Option (List ℕ) → Type 0
WroteBeginning words input written after =
    (status : ℕ) × ((output : Text) × IsAnswer words input status output × ((n : ℕ) × (n < length output) × Appends written after (take n output)))
