-- What holds of canonical texts.
use Rattle.std.specs.Prelude.{◌≡◌, ℕ, List, codes}
use Rattle.aq_base.specs.declared.fault.SqlFault.{SqlFault}
use Rattle.aq_base.specs.declared.script.Script.{Script}
use Rattle.aq_script.specs.Reading.{Reads, IsRefusedLine}
use Rattle.aq_texts.specs.Canon.{canon}
use Rattle.aq_canon.specs.Same.{AreSame}

-- the bytes are not refused for a limit, as an expression may be that its parentheses made longer
abbrev pub PassesNoLimit : List ℕ → Type 0
PassesNoLimit bytes = (line : ℕ) (fault : SqlFault) → IsRefusedLine bytes line fault → fault.code.0 ≡ codes "54000" → ⊥

-- a script that bytes are is the reading of its canonical text, but for the lines of its statements
abbrev pub ReadsBack : Type 0
ReadsBack =
    (bytes : List ℕ) (script : Script) → Reads bytes script → PassesNoLimit (canon script) → (again : Script) × Reads (canon script) again × AreSame again script

-- scripts with one canonical text are the same but for the lines of their statements
abbrev pub OneScript : Type 0
OneScript =
    (bytes others : List ℕ) (a b : Script) → Reads bytes a → Reads others b → PassesNoLimit (canon a) → canon a ≡ canon b → AreSame a b

-- scripts that are the same but for the lines of their statements have one canonical text
abbrev pub OneText : Type 0
OneText = (a b : Script) → AreSame a b → canon a ≡ canon b
