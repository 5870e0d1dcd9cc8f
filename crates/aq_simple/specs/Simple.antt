-- Which script of the forms that the machine runs a script is, and the line at which it leaves them.
use Rattle.std.specs.Prelude.{◌≡◌, ℕ, ◌+◌, Bool, true, false, ◌&&◌, List, [], ◌∷◌, ◌++◌, Option, Some, None, option_map, option_and_then, unwrap_or, sum_by, nat_le, slice_get, if◌then◌else◌}
use Rattle.std.specs.Option.{option_or, option_map_or}
use Rattle.aq_first_base.specs.Scripts.{rows_in, fits_first_language}
use Rattle.aq_base.specs.declared.script.Placed.{Placed}
use Rattle.aq_base.specs.declared.script.SessionText.{SessionText}
use Rattle.aq_base.specs.declared.script.Script.{Script}
use Rattle.aq_first_base.specs.declared.simple.SimpleStatement.{SimpleStatement}
use Rattle.aq_first_base.specs.declared.simple.SimplePlaced.{SimplePlaced}
use Rattle.aq_first_base.specs.declared.simple.SimpleScript.{SimpleScript}
pub use Rattle.aq_simple.specs.Forms.{simple_statement, simple_statements, simple_script}
use Rattle.aq_simple.specs.Conditions.{definition_kept, run_kept}

-- a script has the forms, names and limits of the scripts that the machine runs, and is this one of them
abbrev pub Runs : Script → SimpleScript → Type 0
Runs script simple = (simple_script script ≡ Some simple) × (fits_first_language simple ≡ true)

-- the script of those forms, where its names and limits are kept
abbrev pub running : Script → Option SimpleScript
running script = option_and_then (λ simple. if fits_first_language simple then Some simple else None) (simple_script script)

-- the line of a statement that does not keep to the forms
abbrev pub line_unless : Bool → Placed → Option ℕ
line_unless keeps placed = if keeps then None else Some placed.line

-- the line of the first statement that does not keep to the forms, by a test that is told the statements before it
abbrev pub line_not : (List Placed → Placed → Bool) → List Placed → List Placed → Option ℕ
line_not keeps earlier [] = None
line_not keeps earlier (placed ∷ others) = option_or (line_unless (keeps earlier placed) placed) (line_not keeps (earlier ++ placed ∷ []) others)

-- a statement is simple, and passes a test
abbrev pub is_simple_and : (SimpleStatement → Bool) → Placed → Bool
is_simple_and test placed = option_map_or test (simple_statement placed.statement) false

-- a statement of the setup is simple, and may be defined after those before it
abbrev pub keeps_setup : List Placed → Placed → Bool
keeps_setup earlier placed = option_map_or (λ before. is_simple_and (definition_kept before) placed) (simple_statements earlier) false

-- the line with which the setup leaves the forms
abbrev pub setup_line : List Placed → Option ℕ
setup_line setup = line_not keeps_setup [] setup

-- the rows of values that a statement inserts
abbrev pub rows_of : Placed → ℕ
rows_of placed = option_map_or rows_in (simple_statement placed.statement) 0

-- a statement of the first session is simple and runs on the setup, and inserts with those before it 1,000 rows of values at the most
abbrev pub keeps_session : List SimplePlaced → List Placed → Placed → Bool
keeps_session setup earlier placed = is_simple_and (run_kept setup) placed && nat_le (sum_by rows_of earlier + rows_of placed) 1000

-- the line of the first statement of sessions
abbrev pub first_line : List SessionText → Option ℕ
first_line [] = None
first_line (session ∷ others) = option_or (option_map (λ placed. placed.line) (slice_get session.statements 0)) (first_line others)

-- the line with which the sessions leave the forms: no session but the first has a statement
abbrev pub sessions_line : List SimplePlaced → List SessionText → Option ℕ
sessions_line setup [] = None
sessions_line setup (session ∷ others) = option_or (line_not (keeps_session setup) [] session.statements) (first_line others)

-- the line of the first statement with which a script leaves the forms: in the setup, and then in the sessions in order
abbrev pub statement_line : Script → Option ℕ
statement_line script = option_or (setup_line script.setup) (option_and_then (λ setup. sessions_line setup script.sessions) (simple_statements script.setup))

-- that line, and 1 where no statement leaves the forms by itself
abbrev pub not_built_line : Script → ℕ
not_built_line script = unwrap_or (statement_line script) 1
