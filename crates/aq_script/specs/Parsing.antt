-- Reading a script from left to right.
use Rattle.std.specs.Prelude.{ℕ, zero, suc, ◌+◌, List, [], ◌∷◌, ◌++◌, length, if◌then◌else◌}
use Rattle.aq_base.specs.Names.{Text as Bytes}
use Rattle.aq_base.specs.declared.script.Placed.{Placed}
use Rattle.aq_base.specs.declared.script.SessionText.{SessionText}
use Rattle.aq_base.specs.declared.script.Script.{Script}
use Rattle.aq_lex.specs.declared.token.Directive.TheVariants.{Setup, Session}
use Rattle.aq_lex.specs.Lexemes.{PlacedLexeme}
use Rattle.aq_grammar.specs.Terminals.{Terminal, Heading, begins}
use Rattle.aq_grammar.specs.Rules.{Refusal, refused}
use Rattle.aq_grammar.specs.Reading.{Outcome, Read, Stop, Syntax, Reader, ◌>>=◌, stop_or, read_both, read_either, read_unless}
use Rattle.aq_grammar.specs.Nonterminals.{reads}
use Rattle.aq_parse.specs.declared.statements.Place.{Place}
use Rattle.aq_parse.specs.declared.statements.Place.TheVariants as places
use Rattle.aq_script.specs.Sections.{Section, in_setup, in_session, kinds_of, ended, heading, session_name, schedule, script_of, refused_statements, refused_sessions, refused_names}

-- the section of a place
abbrev pub section_of : Place → Section
section_of places.Setup = in_setup
section_of places.Session = in_session

-- Any number of them, where what is refused and how one is read hangs on those before it: on a state that each of them changes.
-- So many of them at the most, which is no bound where it is the number of tokens.
abbrev pub read_each_behind : {S A : Type 0} → List Terminal → (S → List Refusal) → (S → Reader A) → (S → A → S) → ℕ → S → Reader (List A)
read_each_behind kinds refusals reader next zero state tokens = stop_or (refused (refusals state) tokens) tokens (Read [] tokens)
read_each_behind kinds refusals reader next (suc most) state tokens =
    stop_or (refused (refusals state) tokens) tokens
    (if begins kinds tokens
    then read_both (λ x others. x ∷ others) (reader state) (λ x. read_each_behind kinds refusals reader next most (next state x)) tokens
    else Read [] tokens)

abbrev pub line_of : List PlacedLexeme → ℕ
line_of [] = 0
line_of (token ∷ tokens) = token.line

-- a statement with its `;`, and the line of its first token
abbrev pub read_placed : Section → Reader Placed
read_placed section tokens = reads (ended section) tokens >>= λ statement rest. Read (record { line = line_of tokens; statement = statement }) rest

-- what is refused where a statement may stand, behind so many of them
abbrev pub refused_behind : Section → ℕ → List Refusal
refused_behind section statements = refused_statements statements section ++ section.refused

-- statements behind so many of them
abbrev pub read_statements : Section → ℕ → ℕ → Reader (List Placed)
read_statements section most statements =
    read_each_behind (kinds_of section) (refused_behind section) (λ before. read_placed section) (λ before placed. before + 1) most statements

-- as many as there are
abbrev pub read_all_statements : Section → ℕ → Reader (List Placed)
read_all_statements section statements tokens = read_statements section (length tokens) statements tokens

abbrev pub read_setup : Reader (List Placed)
read_setup =
    read_either (Heading Setup ∷ []) (read_both (λ said statements. statements) (reads (heading Setup)) (λ said. read_all_statements in_setup 0)) (λ tokens. Read [] tokens)

-- the heading of a session, whose name is none of these
abbrev pub read_name : List Bytes → Reader Bytes
read_name names = read_both (λ said name. name) (reads (heading Session)) (λ said. read_unless (refused_names names) (reads session_name))

-- a session behind so many statements and sessions of these names
abbrev pub read_session : ℕ → List Bytes → Reader SessionText
read_session statements names =
    read_both (λ name found. record { name = name; statements = found }) (read_name names) (λ name. read_all_statements in_session statements)

-- the statements so far, and the names of the sessions
pub record Before : Type 0 where
  pub statements : ℕ
  pub names : List Bytes

abbrev pub and_session : Before → SessionText → Before
and_session before session = record { statements = before.statements + length session.statements; names = before.names ++ session.name ∷ [] }

-- sessions behind so many statements and sessions of these names
abbrev pub read_sessions : ℕ → ℕ → List Bytes → Reader (List SessionText)
read_sessions most statements names =
    read_each_behind (Heading Session ∷ []) (λ before. refused_sessions (length before.names)) (λ before. read_session before.statements before.names) and_session most
    (record { statements = statements; names = names })

abbrev pub read_all_sessions : ℕ → Reader (List SessionText)
read_all_sessions statements tokens = read_sessions (length tokens) statements [] tokens

abbrev pub read_script : Reader Script
read_script =
    read_both script_of read_setup
    (λ setup. read_both (λ sessions items. (sessions, items)) (read_all_sessions (length setup)) (λ sessions. reads schedule))

-- nothing may come behind a script
abbrev pub at_end : {A : Type 0} → A → List PlacedLexeme → Outcome A
at_end x [] = Read x []
at_end x (token ∷ rest) = Stop Syntax (token ∷ rest)

abbrev pub whole_script : List PlacedLexeme → Outcome Script
whole_script tokens = read_script tokens >>= at_end
