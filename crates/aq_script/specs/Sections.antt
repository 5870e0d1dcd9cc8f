-- The sections of a script, with its limits.
--     script  = [\setup {statement ;}] {session} [\schedule {item}]
--     session = \session name {statement ;}         item = name [* count]
use Rattle.std.specs.Prelude.{◌≡◌, ℕ, ◌+◌, List, [], ◌∷◌, ◌++◌, length, map, sum_by, Option, Some, None, codes, nat_lt, if◌then◌else◌, ◌⊎◌}
use Rattle.aq_base.specs.Names.{Text as Bytes}
use Rattle.aq_base.specs.declared.fault.SqlFault.{SqlFault}
use Rattle.aq_base.specs.declared.statement.Statement.{Statement}
use Rattle.aq_base.specs.declared.script.Placed.{Placed}
use Rattle.aq_base.specs.declared.script.SessionText.{SessionText}
use Rattle.aq_base.specs.declared.script.Item.{Item}
use Rattle.aq_base.specs.declared.script.Script.{Script}
use Rattle.aq_lex.specs.declared.token.Symbol.TheVariants.{Semicolon, Times}
use Rattle.aq_lex.specs.declared.token.Directive.{Directive}
use Rattle.aq_lex.specs.declared.token.Directive.TheVariants.{Setup, Session, Schedule}
use Rattle.aq_lex.specs.Lexemes.{PlacedLexeme, first_line}
use Rattle.aq_grammar.specs.Terminals.{Terminal, Keyword, PlainName, Count, Sign, Heading, text_of, number_of}
use Rattle.aq_grammar.specs.Rules.{Rule, Refusal, Done, Token, Both, Either, Many, Form, Bar, SpellsBoth, SpellsEach, BarsNone, BarsHere, BarsBoth}
use Rattle.aq_grammar.specs.Forms.{sign, ◌▸◌, ◌◂◌, optional, limit}
use Rattle.aq_grammar.specs.Nonterminals.{Spells, Bars}
use Rattle.aq_grammar.specs.Statements.{supported_in_setup, supported_in_session, refused_in_setup, refused_in_session, session_words}

abbrev pub heading : Directive → Rule (Unit {0})
heading directive = Token (Heading directive) (λ token. tt)

-- which statements stand in a section: their rule, the words with which they begin, and what is refused in their place
pub record Section : Type 1 where
  pub statement : Rule Statement
  pub words : List Bytes
  pub refused : List Refusal

abbrev pub in_setup : Section
in_setup = record { statement = supported_in_setup; words = codes "create" ∷ codes "alter" ∷ []; refused = refused_in_setup }

abbrev pub in_session : Section
in_session = record { statement = supported_in_session; words = session_words; refused = refused_in_session }

abbrev pub kinds_of : Section → List Terminal
kinds_of section = map (λ text. Keyword text) section.words

-- a statement with the `;` behind it
abbrev pub ended : Section → Rule Statement
ended section = section.statement ◂ sign Semicolon

-- such a statement, with the line on which it begins
abbrev pub SpellsPlaced : Section → Form Placed
SpellsPlaced section placed u = Spells (ended section) placed.statement u × (first_line u ≡ Some placed.line)

abbrev pub SpellsStatements : Section → Form (List Placed)
SpellsStatements section = SpellsEach (SpellsPlaced section)

-- the setup section, which may be left out
abbrev pub SpellsSetup : Form (List Placed)
SpellsSetup setup u =
    ((setup ≡ []) × (u ≡ [])) ⊎ SpellsBoth (λ said statements. statements) (Spells (heading Setup)) (λ said. SpellsStatements in_setup) setup u

abbrev pub session_name : Rule Bytes
session_name = Token PlainName text_of

abbrev pub SpellsSession : Form SessionText
SpellsSession =
    SpellsBoth (λ name statements. record { name = name; statements = statements }) (Spells (heading Session ▸ session_name)) (λ name. SpellsStatements in_session)

abbrev pub SpellsSessions : Form (List SessionText)
SpellsSessions = SpellsEach SpellsSession

unfoldable pub item : Rule Item
item =
    Both (λ name count. record { name = name; count = count }) session_name
    (Either (Sign Times ∷ []) (sign Times ▸ Token Count number_of) (Done 1))

abbrev pub items : Rule (List Item)
items = Many (PlainName ∷ []) [] (λ items. items) item

unfoldable pub schedule : Rule (Option (List Item))
schedule = optional (Heading Schedule ∷ []) (heading Schedule ▸ items)

abbrev pub script_of : List Placed → List SessionText × Option (List Item) → Script
script_of setup (sessions, schedule) = record { setup = setup; sessions = sessions; schedule = schedule }

-- the tokens are the script, by the grammar alone
abbrev pub SpellsScript : Form Script
SpellsScript = SpellsBoth script_of SpellsSetup (λ setup. SpellsBoth (λ sessions schedule. (sessions, schedule)) SpellsSessions (λ sessions. Spells schedule))

-- ---- limits and names

abbrev pub statement_limit : ℕ
statement_limit = 65536

abbrev pub session_limit : ℕ
session_limit = 16

-- a statement behind as many as there may be
abbrev pub refused_statements : ℕ → Section → List Refusal
refused_statements statements section =
    if nat_lt statements statement_limit then []
    else map (λ kind. record { words = kind ∷ []; fault = limit (codes "more than 65536 statements") }) (kinds_of section)

abbrev pub refused_sessions : ℕ → List Refusal
refused_sessions sessions =
    if nat_lt sessions session_limit then [] else record { words = Heading Session ∷ []; fault = limit (codes "more than 16 sessions") } ∷ []

-- `session "NAME" already exists`
abbrev pub repeated_name : Bytes → SqlFault
repeated_name name = record { code = record { 0 = codes "42710" }; text = codes "session " ++ 34 ∷ (name ++ 34 ∷ codes " already exists"); detail = None }

-- the name of a session before
abbrev pub refused_names : List Bytes → List Refusal
refused_names names = map (λ name. record { words = Keyword name ∷ []; fault = repeated_name name }) names

-- behind so many statements: within the next one, or where it begins
abbrev pub BarsStatement : Section → ℕ → Bar
BarsStatement section statements u rest fault =
    Bars (ended section) u rest fault ⊎ BarsHere (refused_statements statements section ++ section.refused) u rest fault

-- behind so many statements, and further ones
abbrev pub BarsStatements : Section → ℕ → Bar
BarsStatements section statements u rest fault =
    (front : List PlacedLexeme) × (behind : List PlacedLexeme) × (others : List Placed) × SpellsStatements section others front × (u ≡ front ++ behind)
    × BarsStatement section (statements + length others) behind rest fault

abbrev pub BarsSetup : Bar
BarsSetup = BarsBoth (Spells (heading Setup)) BarsNone (λ said. BarsStatements in_setup 0)

-- a name that a session before has
abbrev pub BarsName : List Bytes → Bar
BarsName names = BarsBoth (Spells (heading Session)) BarsNone (λ said. BarsHere (refused_names names))

-- behind so many statements and sessions of these names: within the next session, or where it begins
abbrev pub BarsSession : ℕ → List Bytes → Bar
BarsSession statements names u rest fault =
    BarsBoth (Spells (heading Session ▸ session_name)) (BarsName names) (λ name. BarsStatements in_session statements) u rest fault
    ⊎ BarsHere (refused_sessions (length names)) u rest fault

abbrev pub statements_in : List SessionText → ℕ
statements_in sessions = sum_by (λ session. length session.statements) sessions

abbrev pub names_of : List SessionText → List Bytes
names_of sessions = map (λ session. session.name) sessions

-- behind so many statements of the setup, and sessions
abbrev pub BarsSessions : ℕ → Bar
BarsSessions statements u rest fault =
    (front : List PlacedLexeme) × (behind : List PlacedLexeme) × (sessions : List SessionText) × SpellsSessions sessions front × (u ≡ front ++ behind)
    × BarsSession (statements + statements_in sessions) (names_of sessions) behind rest fault

-- a place in a script at which a limit is passed, a session's name is repeated or a form is refused
abbrev pub BarsScript : Bar
BarsScript = BarsBoth SpellsSetup BarsSetup (λ setup. BarsSessions (length setup))
