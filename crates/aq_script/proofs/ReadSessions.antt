-- How the loop over the sessions of a script stands.
use Rattle.std.proofs.Common.{◌≡◌, ℕ, ◌+◌, ◌≤◌, true, false, List, [], ◌∷◌, ◌++◌, length, ◌⊎◌, inl, inr, None, Result, Ok, Err, refl, sym, ap, subst, Fits, w64, arith}
use Rattle.aq_base.specs.Names.{Text as Bytes}
use Rattle.aq_base.specs.declared.script.Placed.{Placed}
use Rattle.aq_base.specs.declared.script.SessionText.{SessionText}
use Rattle.aq_lex.specs.declared.token.Directive.TheVariants.{Session}
use Rattle.aq_lex.specs.Lexemes.{PlacedLexeme}
use Rattle.aq_grammar.specs.Terminals.{Heading, begins}
use Rattle.aq_grammar.specs.Rules.{refused}
use Rattle.aq_grammar.specs.Reading.{Outcome, Read, Stop, ◌>>=◌}
use Rattle.aq_grammar.specs.Steps.{Fails, RefusesSo}
use Rattle.aq_grammar.specs.declared.fault.ReadFault.{ReadFault}
use Rattle.aq_script.specs.Sections.{in_session, statement_limit, refused_sessions, names_of}
use Rattle.aq_script.specs.Parsing.{Before, and_session, read_all_statements, read_name, read_session, read_all_sessions}
use Rattle.aq_script.proofs.Loops.{StandsBehind, begun_behind, goes_on_behind, fails_behind, ends_behind, is_free_behind, refuses_behind}
use Rattle.aq_script.proofs.Names.{names_and_one, as_many_names}
use Rattle.aq_script.proofs.ReadStatements.{statements_within}
use Rattle.aq_script.proofs.Shorter.{session_is_shorter}

-- ---- the number of statements

-- with the statements before, those of the session are no more than there may be, or there are none
abbrev IsWithin : ℕ → Outcome SessionText → Type 0
IsWithin statements (Read session rest) = (session.statements ≡ []) ⊎ (statements + length session.statements ≤ statement_limit)
IsWithin statements (Stop reason rest) = Unit {0}

named_within : (statements : ℕ) (name : Bytes) (outcome : Outcome (List Placed))
    → ((found : List Placed) (rest : List PlacedLexeme) → outcome ≡ Read found rest → (found ≡ []) ⊎ (statements + length found ≤ statement_limit))
    → IsWithin statements (outcome >>= λ found rest. Read (record { name = name; statements = found }) rest)
named_within statements name (Read found rest) within = within found rest refl
named_within statements name (Stop reason rest) within = tt

behind_name : (statements : ℕ) (name : Outcome Bytes)
    → IsWithin statements (name >>= λ text rest. read_all_statements in_session statements rest >>= λ found last. Read (record { name = text; statements = found }) last)
behind_name statements (Read text rest) =
    named_within statements text (read_all_statements in_session statements rest) (λ found last read. statements_within in_session statements rest last found read)
behind_name statements (Stop reason rest) = tt

session_within : (statements : ℕ) (names : List Bytes) (tokens rest : List PlacedLexeme) (session : SessionText) → read_session statements names tokens ≡ Read session rest
    → (session.statements ≡ []) ⊎ (statements + length session.statements ≤ statement_limit)
session_within statements names tokens rest session read = subst (IsWithin statements) read (behind_name statements (read_name names tokens))

fits_if_within : (statements more : ℕ) (found : List Placed) → Fits w64 statements → more ≡ length found → (found ≡ []) ⊎ (statements + length found ≤ statement_limit)
    → Fits w64 (statements + more)
fits_if_within statements more found fits is_length (inl none) = let no_more : length found ≡ 0 = ap length none in omega (arith, fits, is_length, no_more)
fits_if_within statements more found fits is_length (inr within) = omega (arith, is_length, within)

pub session_fits_in : (statements more : ℕ) (sessions : List SessionText) (tokens rest : List PlacedLexeme) (session : SessionText) → Fits w64 statements
    → more ≡ length session.statements → read_session statements (names_of sessions) tokens ≡ Read session rest → Fits w64 (statements + more)
session_fits_in statements more sessions tokens rest session fits is_length read =
    fits_if_within statements more session.statements fits is_length (session_within statements (names_of sessions) tokens rest session read)

-- ---- the loop

abbrev behind : ℕ → List SessionText → Before
behind statements found = record { statements = statements; names = names_of found }

-- these sessions are read, behind so many statements in all, and others may stand behind them
abbrev pub AreSessions : ℕ → List SessionText → List PlacedLexeme → Outcome (List SessionText) → Type 0
AreSessions statements found rest total =
    StandsBehind (Heading Session ∷ []) (λ before. refused_sessions (length before.names)) (λ before. read_session before.statements before.names) and_session found
    (behind statements found) rest total

pub sessions_begin : (statements : ℕ) (tokens : List PlacedLexeme) → AreSessions statements [] tokens (read_all_sessions statements tokens)
sessions_begin statements tokens =
    begun_behind (Heading Session ∷ []) (λ before. refused_sessions (length before.names)) (λ before. read_session before.statements before.names) and_session
    (behind statements []) tokens

refuses_by_names : (statements : ℕ) (found : List SessionText) (result : Result (Unit {0}) ReadFault) (tokens : List PlacedLexeme)
    → RefusesSo (refused_sessions (length found)) result tokens → RefusesSo (refused_sessions (length (behind statements found).names)) result tokens
refuses_by_names statements found result tokens refuses = subst (λ (n : ℕ). RefusesSo (refused_sessions n) result tokens) (sym (as_many_names found)) refuses

pub sessions_refuse : (fault : ReadFault) (statements : ℕ) (found : List SessionText) (rest : List PlacedLexeme) (total : Outcome (List SessionText))
    → AreSessions statements found rest total → RefusesSo (refused_sessions (length found)) (Err fault) rest → Fails fault total
sessions_refuse fault statements found rest total so_far refuses =
    refuses_behind (Heading Session ∷ []) (λ before. refused_sessions (length before.names)) (λ before. read_session before.statements before.names) and_session fault found
    (behind statements found) rest total so_far (refuses_by_names statements found (Err fault) rest refuses)

free_of : (x : Unit {0}) (statements : ℕ) (found : List SessionText) (tokens : List PlacedLexeme) → RefusesSo (refused_sessions (length found)) (Ok x) tokens
    → refused (refused_sessions (length (behind statements found).names)) tokens ≡ None
free_of x statements found tokens refuses =
    is_free_behind (Heading Session ∷ []) (λ before. refused_sessions (length before.names)) (λ before. read_session before.statements before.names) and_session x
    (behind statements found) tokens (refuses_by_names statements found (Ok x) tokens refuses)

pub sessions_fail : (fault : ReadFault) (x : Unit {0}) (statements : ℕ) (found : List SessionText) (rest : List PlacedLexeme) (total : Outcome (List SessionText))
    → AreSessions statements found rest total → RefusesSo (refused_sessions (length found)) (Ok x) rest → begins (Heading Session ∷ []) rest ≡ true
    → Fails fault (read_session statements (names_of found) rest) → Fails fault total
sessions_fail fault x statements found rest total so_far refuses begun fails =
    fails_behind (Heading Session ∷ []) (λ before. refused_sessions (length before.names)) (λ before. read_session before.statements before.names) and_session fault found
    (behind statements found) rest total so_far (free_of x statements found rest refuses) begun fails

pub sessions_go_on : (x : Unit {0}) (statements : ℕ) (found : List SessionText) (next : SessionText) (rest after : List PlacedLexeme) (total : Outcome (List SessionText))
    → AreSessions statements found rest total → RefusesSo (refused_sessions (length found)) (Ok x) rest → begins (Heading Session ∷ []) rest ≡ true
    → read_session statements (names_of found) rest ≡ Read next after → AreSessions (statements + length next.statements) (found ++ next ∷ []) after total
sessions_go_on x statements found next rest after total so_far refuses begun read =
    subst
    (λ (names : List Bytes).
    StandsBehind (Heading Session ∷ []) (λ before. refused_sessions (length before.names)) (λ before. read_session before.statements before.names) and_session (found ++ next ∷ [])
    (record { statements = statements + length next.statements; names = names }) after total)
    (sym (names_and_one found next))
    (goes_on_behind (Heading Session ∷ []) (λ before. refused_sessions (length before.names)) (λ before. read_session before.statements before.names) and_session found
    (behind statements found) rest after next total (session_is_shorter statements (names_of found) rest after next read) so_far (free_of x statements found rest refuses) begun read)

pub sessions_end : (x : Unit {0}) (statements : ℕ) (found : List SessionText) (rest : List PlacedLexeme) (total : Outcome (List SessionText)) → AreSessions statements found rest total
    → RefusesSo (refused_sessions (length found)) (Ok x) rest → begins (Heading Session ∷ []) rest ≡ false → total ≡ Read found rest
sessions_end x statements found rest total so_far refuses ended =
    ends_behind (Heading Session ∷ []) (λ before. refused_sessions (length before.names)) (λ before. read_session before.statements before.names) and_session found
    (behind statements found) rest total so_far (free_of x statements found rest refuses) ended
