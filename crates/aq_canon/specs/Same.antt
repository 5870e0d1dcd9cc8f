-- Two scripts that differ in nothing but the lines of their statements.
use Rattle.std.specs.Prelude.{◌≡◌, map}
use Rattle.aq_base.specs.declared.script.Placed.{Placed}
use Rattle.aq_base.specs.declared.script.SessionText.{SessionText}
use Rattle.aq_base.specs.declared.script.Script.{Script}

abbrev pub statement_alone : Placed → Placed
statement_alone placed = record placed { line = 0 }

abbrev pub session_alone : SessionText → SessionText
session_alone session = record session { statements = map statement_alone session.statements }

-- the script, each of its statements on line 0
abbrev pub script_alone : Script → Script
script_alone script = record script { setup = map statement_alone script.setup; sessions = map session_alone script.sessions }

abbrev pub AreSame : Script → Script → Type 0
AreSame a b = script_alone a ≡ script_alone b
