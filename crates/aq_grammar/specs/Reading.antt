-- Reading a rule from left to right.
use Rattle.std.specs.Prelude.{ℕ, zero, suc, ◌-◌, List, [], ◌∷◌, length, take, drop, Option, Some, None, if◌then◌else◌, nat_le}
use Rattle.aq_base.specs.Names.{Text as Bytes}
use Rattle.aq_base.specs.declared.fault.SqlFault.{SqlFault}
use Rattle.aq_lex.specs.Lexemes.{PlacedLexeme}
use Rattle.aq_grammar.specs.Terminals.{Terminal, NameBut, fits, begins, text_of}
use Rattle.aq_grammar.specs.Rules.{Nonterminal, ValueOf, Refusal, Rule, Done, Token, Both, Either, Many, Differing, Call, Unless, Limited, refused}

-- why reading stops: no rule goes on with what comes, or it is refused
pub data Reason : Type 0 where
  Syntax : Reason
  Refused : SqlFault → Reason

-- a tree with the tokens behind it, or the place that is refused, as the tokens from there on
pub data Outcome (A : Type 0) : Type 0 where
  Read : A → List PlacedLexeme → Outcome A
  Stop : Reason → List PlacedLexeme → Outcome A

infixl 10 ◌>>=◌
abbrev pub ◌>>=◌ : {A B : Type 0} → Outcome A → (A → List PlacedLexeme → Outcome B) → Outcome B
(Read x rest) >>= f = f x rest
(Stop reason rest) >>= f = Stop reason rest

abbrev pub Reader : Type 0 → Type 0
Reader A = List PlacedLexeme → Outcome A

abbrev pub read_token : {A : Type 0} → Terminal → (PlacedLexeme → A) → Reader A
read_token kind f [] = Stop Syntax []
read_token kind f (token ∷ rest) = if fits kind token then Read (f token) rest else Stop Syntax (token ∷ rest)

abbrev pub read_both : {A B C : Type 0} → (A → B → C) → Reader A → (A → Reader B) → Reader C
read_both f first second tokens = first tokens >>= λ a rest. second a rest >>= λ b last. Read (f a b) last

abbrev pub read_either : {A : Type 0} → List Terminal → Reader A → Reader A → Reader A
read_either kinds first second tokens = if begins kinds tokens then first tokens else second tokens

abbrev pub stop_or : {A : Type 0} → Option SqlFault → List PlacedLexeme → Outcome A → Outcome A
stop_or None tokens outcome = outcome
stop_or (Some fault) tokens outcome = Stop (Refused fault) tokens

abbrev pub read_unless : {A : Type 0} → List Refusal → Reader A → Reader A
read_unless refusals reader tokens = stop_or (refused refusals tokens) tokens (reader tokens)

-- so many of them at the most, which is no bound where it is the number of tokens
abbrev pub read_each : {A : Type 0} → ℕ → List Terminal → List Refusal → Reader A → Reader (List A)
read_each zero kinds refusals reader tokens = stop_or (refused refusals tokens) tokens (Read [] tokens)
read_each (suc most) kinds refusals reader tokens =
    stop_or (refused refusals tokens) tokens
    (if begins kinds tokens then read_both (λ x others. x ∷ others) reader (λ x. read_each most kinds refusals reader) tokens else Read [] tokens)

abbrev pub read_many : {A B : Type 0} → List Terminal → List Refusal → (List A → B) → Reader A → Reader B
read_many kinds refusals f reader tokens = read_each (length tokens) kinds refusals reader tokens >>= λ xs rest. Read (f xs) rest

abbrev pub read_other : {B : Type 0} → List Terminal → Reader B → Bytes → Reader (Option Bytes)
read_other kinds reader name = read_either kinds (read_both (λ b text. Some text) reader (λ b. read_token (NameBut name) text_of)) (λ tokens. Read None tokens)

abbrev pub read_called : {A B : Type 0} → (A → B) → Reader A → Reader B
read_called f reader tokens = reader tokens >>= λ x rest. Read (f x) rest

-- what is read of one token more than there may be, against all tokens
abbrev pub within : {A : Type 0} → ℕ → SqlFault → List PlacedLexeme → List PlacedLexeme → Outcome A → Outcome A
within most fault tokens front (Read x rest) =
    if nat_le (length front - length rest) most then Read x (drop (length front - length rest) tokens) else Stop (Refused fault) (drop most tokens)
within most fault tokens front (Stop reason rest) =
    if nat_le (length front - length rest) most then Stop reason (drop (length front - length rest) tokens) else Stop (Refused fault) (drop most tokens)

abbrev pub read_limited : {A : Type 0} → ℕ → SqlFault → Reader A → Reader A
read_limited most fault reader tokens = within most fault tokens (take (suc most) tokens) (reader (take (suc most) tokens))

abbrev pub read_by : ((n : Nonterminal) → Reader (ValueOf n)) → {A : Type 0} → Rule A → Reader A
read_by calls (Done x) tokens = Read x tokens
read_by calls (Token kind f) tokens = read_token kind f tokens
read_by calls (Both f a b) tokens = read_both f (read_by calls a) (λ x. read_by calls b) tokens
read_by calls (Either kinds a b) tokens = read_either kinds (read_by calls a) (read_by calls b) tokens
read_by calls (Many kinds refusals f a) tokens = read_many kinds refusals f (read_by calls a) tokens
read_by calls (Differing f a name kinds b) tokens = read_both f (read_by calls a) (λ x. read_other kinds (read_by calls b) (name x)) tokens
read_by calls (Call nonterminal f) tokens = read_called f (calls nonterminal) tokens
read_by calls (Unless refusals a) tokens = read_unless refusals (read_by calls a) tokens
read_by calls (Limited most fault a) tokens = read_limited most fault (read_by calls a) tokens
