-- What a function of the parser returned, against what is read by a rule.
use Rattle.std.specs.Prelude.{◌≡◌, ℕ, Bool, true, false, ◌&&◌, ◌||◌, List, [], ◌∷◌, length, drop, Option, Some, None, Result, Ok, Err, codes, if◌then◌else◌}
use Rattle.aq_base.specs.Names.{Text as Bytes}
use Rattle.aq_base.specs.declared.fault.Code.{Code}
use Rattle.aq_base.specs.declared.fault.SqlFault.{SqlFault}
use Rattle.aq_lex.specs.Lexemes.{PlacedLexeme, first_text}
use Rattle.aq_lex.specs.declared.token.Symbol.TheVariants.{Comma, Dot}
use Rattle.aq_grammar.specs.Terminals.{Terminal, Keyword, Name, NameOf, Sign, Count, StateCode, begins, begin_with, fits, number_of, text_of}
use Rattle.aq_grammar.specs.Rules.{Refusal, refused}
use Rattle.aq_grammar.specs.Forms.{sign}
use Rattle.aq_grammar.specs.Nonterminals.{reads}
use Rattle.aq_grammar.specs.Reading.{Outcome, Read, Stop, Reader, read_both, read_many, Syntax as Syntax_, Refused as Refused_}
use Rattle.aq_grammar.specs.declared.fault.ReadFault.{ReadFault}
use Rattle.aq_grammar.specs.declared.fault.ReadFault.TheVariants.{NoMemory, Syntax, Refused}

-- a fault but want of memory says where reading stops, and why
abbrev pub Fails : {Y : Type 0} → ReadFault → Outcome Y → Type 0
Fails NoMemory outcome = Unit {0}
Fails (Syntax left) outcome = (rest : List PlacedLexeme) × (outcome ≡ Stop Syntax_ rest) × (left ≡ length rest)
Fails (Refused left fault) outcome = (rest : List PlacedLexeme) × (outcome ≡ Stop (Refused_ fault) rest) × (left ≡ length rest)

-- a tree, seen by a view, and the tokens behind it are what is read, unless memory ran out
abbrev pub Gives : {X Y : Type 0} → (X → Y) → Result (X × List PlacedLexeme) ReadFault → Outcome Y → Type 0
Gives view (Ok x) outcome = outcome ≡ Read (view x.0) x.1
Gives view (Err fault) outcome = Fails fault outcome

-- one more behind a comma
abbrev pub read_next : {A : Type 0} → Reader A → Reader A
read_next reader tokens = read_both (λ x y. y) (reads (sign Comma)) (λ x. reader) tokens

-- at least one, with commas between them
unfoldable pub read_listed : {A : Type 0} → Reader A → Reader (List A)
read_listed reader tokens =
    read_both (λ x others. x ∷ others) reader (λ x. read_many (Sign Comma ∷ []) [] (λ others. others) (read_next reader)) tokens

-- the text of the first token, where it is of a kind
abbrev pub first_text_of : Terminal → List PlacedLexeme → Option Bytes
first_text_of kind tokens = if begins (kind ∷ []) tokens then first_text tokens else None

-- the number of the first token, where it is one that isn't 0
abbrev pub first_count : List PlacedLexeme → Option ℕ
first_count [] = None
first_count (token ∷ tokens) = if fits Count token then Some (number_of token) else None

-- the code that the text of the first token is
abbrev pub first_code : List PlacedLexeme → Option Code
first_code [] = None
first_code (token ∷ tokens) = if fits StateCode token then Some (record { 0 = text_of token }) else None

-- a text and the tokens behind the first
abbrev pub text_then : Option Bytes → Reader Bytes
text_then None tokens = Stop Syntax_ tokens
text_then (Some text) tokens = Read text (drop 1 tokens)

-- the text of the first token is read, where the token has passed a test
abbrev pub read_text : Bool → Reader Bytes
read_text false tokens = Stop Syntax_ tokens
read_text true tokens = text_then (first_text tokens) tokens

-- the tokens are refused where they begin, unless memory ran out
abbrev pub IsFaultOr : SqlFault → List PlacedLexeme → ReadFault → Type 0
IsFaultOr fault tokens NoMemory = Unit {0}
IsFaultOr fault tokens (Syntax left) = ⊥
IsFaultOr fault tokens (Refused left said) = (left ≡ length tokens) × (said ≡ fault)

-- a fault but want of memory is the refusal that begins the tokens
abbrev pub IsRefusalOf : List Refusal → List PlacedLexeme → ReadFault → Type 0
IsRefusalOf refusals tokens NoMemory = Unit {0}
IsRefusalOf refusals tokens (Syntax left) = ⊥
IsRefusalOf refusals tokens (Refused left said) = (left ≡ length tokens) × (refused refusals tokens ≡ Some said)

-- a function returns where none of the refusals begins the tokens, and otherwise the first that does, unless memory ran out
unfoldable pub RefusesSo : List Refusal → Result (Unit {0}) ReadFault → List PlacedLexeme → Type 0
RefusesSo refusals (Ok x) tokens = refused refusals tokens ≡ None
RefusesSo refusals (Err fault) tokens = IsRefusalOf refusals tokens fault

-- a table, before which ONLY may not stand, and then a word
abbrev pub table_then : Bytes → List PlacedLexeme → Bool
table_then last tokens =
    begin_with (Name ∷ Keyword last ∷ []) tokens || begin_with (NameOf (codes "public") ∷ Sign Dot ∷ Name ∷ Keyword last ∷ []) tokens

-- ALTER TABLE and a table, before which ONLY may stand, and then a word
abbrev pub alters : Bytes → List PlacedLexeme → Bool
alters last tokens =
    begin_with (Keyword (codes "alter") ∷ Keyword (codes "table") ∷ []) tokens
    && (table_then last (drop 1 (drop 1 tokens))
    || (begin_with (Keyword (codes "only") ∷ []) (drop 1 (drop 1 tokens)) && table_then last (drop 1 (drop 1 (drop 1 tokens)))))
