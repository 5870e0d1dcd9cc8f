-- A statement with its `;` at its place, where it isn't refused.
use Rattle.std.proofs.Common.{◌≡◌, ℕ, List, [], ◌∷◌, Option, None, Result, unwrap_or, refl, sym, ap, ◌∙◌, subst}
use Rattle.aq_base.specs.declared.fault.SqlFault.{SqlFault}
use Rattle.aq_base.specs.declared.statement.Statement.{Statement}
use Rattle.aq_base.specs.declared.script.Placed.{Placed}
use Rattle.aq_lex.specs.declared.token.Symbol.TheVariants.{Semicolon}
use Rattle.aq_lex.specs.Lexemes.{PlacedLexeme, first_line}
use Rattle.aq_grammar.specs.Rules.{refused}
use Rattle.aq_grammar.specs.Forms.{sign}
use Rattle.aq_grammar.specs.Reading.{Outcome, Read, Stop, ◌>>=◌, stop_or, read_both}
use Rattle.aq_grammar.specs.Nonterminals.{reads}
use Rattle.aq_grammar.specs.Statements.{setup_statement, session_statement}
use Rattle.aq_grammar.specs.Steps.{Fails, Gives}
use Rattle.aq_grammar.specs.declared.fault.ReadFault.{ReadFault}
use Rattle.aq_grammar.proofs.Loops.{fails_on, fails_as}
use Rattle.aq_parse.specs.Statements.{statement_of}
use Rattle.aq_parse.specs.declared.statements.Place.{Place}
use Rattle.aq_parse.specs.declared.statements.Place.TheVariants.{Setup, Session}
use Rattle.aq_script.specs.Sections.{ended}
use Rattle.aq_script.specs.Parsing.{section_of, line_of, read_placed}

-- it is read as by the rule of its section
statement_is : (place : Place) (tokens : List PlacedLexeme) → refused (section_of place).refused tokens ≡ None
    → reads (statement_of place) tokens ≡ reads (section_of place).statement tokens
unfolding setup_statement session_statement
statement_is Setup tokens free = ap (λ (o : Option SqlFault). stop_or o tokens (reads (section_of Setup).statement tokens)) free
statement_is Session tokens free = ap (λ (o : Option SqlFault). stop_or o tokens (reads (section_of Session).statement tokens)) free

pub line_is : (tokens : List PlacedLexeme) → unwrap_or (first_line tokens) 0 ≡ line_of tokens
line_is [] = refl
line_is (token ∷ tokens) = refl

pub placed_fails : (place : Place) (fault : ReadFault) (tokens : List PlacedLexeme) → refused (section_of place).refused tokens ≡ None
    → Fails fault (reads (statement_of place) tokens) → Fails fault (read_placed (section_of place) tokens)
placed_fails place fault tokens free fails =
    fails_on fault (reads (ended (section_of place)) tokens) _
    (fails_on fault (reads (section_of place).statement tokens) _ (fails_as fault _ _ (statement_is place tokens free) fails))

-- what is read, where a `;` stands behind it
abbrev pub then_ended : {A : Type 0} → A → List PlacedLexeme → Outcome A
then_ended x tokens = read_both (λ said y. y) (reads (sign Semicolon)) (λ said rest. Read x rest) tokens

abbrev with_line : ℕ → Statement → Placed
with_line line statement = record { line = line; statement = statement }

ended_with : (line : ℕ) (statement : Statement) (said : Outcome (Unit {0}))
    → (said >>= (λ x rest. Read statement rest) >>= λ y rest. Read (with_line line y) rest)
    ≡ (said >>= λ x rest. Read (with_line line statement) rest >>= λ y last. Read y last)
ended_with line statement (Read x rest) = refl
ended_with line statement (Stop reason rest) = refl

placed_is : (place : Place) (statement : Statement) (tokens rest : List PlacedLexeme) → refused (section_of place).refused tokens ≡ None
    → reads (statement_of place) tokens ≡ Read statement rest → read_placed (section_of place) tokens ≡ then_ended (with_line (line_of tokens) statement) rest
placed_is place statement tokens rest free read =
    ap (λ (o : Outcome Statement). o >>= (λ s behind. reads (sign Semicolon) behind >>= λ said last. Read s last) >>= λ s last. Read (with_line (line_of tokens) s) last)
    (sym (statement_is place tokens free) ∙ read)
    ∙ ended_with (line_of tokens) statement (reads (sign Semicolon) rest)

pub placed_gives : (place : Place) (statement : Statement) (line : ℕ) (tokens rest : List PlacedLexeme) (result : Result (Placed × List PlacedLexeme) ReadFault)
    → refused (section_of place).refused tokens ≡ None → reads (statement_of place) tokens ≡ Read statement rest → line ≡ line_of tokens
    → Gives (λ x. x) result (then_ended (with_line line statement) rest) → Gives (λ x. x) result (read_placed (section_of place) tokens)
placed_gives place statement line tokens rest result free read is_line gives =
    subst (λ (o : Outcome Placed). Gives (λ x. x) result o)
    (ap (λ (n : ℕ). then_ended (with_line n statement) rest) is_line ∙ sym (placed_is place statement tokens rest free read)) gives
