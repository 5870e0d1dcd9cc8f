-- What tokens are to a parser: their values, and the lines on which they begin.
use Rattle.std.specs.Prelude.{◌≡◌, ℕ, ◌+◌, ◌-◌, ◌*◌, Bool, false, ◌==◌, List, [], ◌∷◌, length, map, take, drop, count_by, fold, Option, Some, None, ℤ, pos, IsUtf8, nat_le, if◌then◌else◌}
use Rattle.std.specs.Char.{to_ascii_lowercase}
use Rattle.std.specs.List.{AllByRecursion}
use Rattle.aq_base.specs.Names.{same_text}
use Rattle.aq_lex.specs.declared.token.Symbol.{Symbol as SymbolName}
use Rattle.aq_lex.specs.declared.token.Symbol.TheVariants.{OpenParen, CloseParen, Comma, Semicolon, Dot, Plus, Minus, Times, Equal, Unequal, Less, AtMost, Greater, AtLeast, DollarQuote}
use Rattle.aq_lex.specs.declared.token.Directive.{Directive as DirectiveName}
use Rattle.aq_lex.specs.declared.token.Directive.TheVariants.{Setup, Session, Schedule}
use Rattle.aq_lex.specs.declared.token.TokenKind.{TokenKind}
use Rattle.aq_lex.specs.declared.token.TokenKind.TheVariants as kinds
use Rattle.aq_lex.specs.declared.token.Token.{Token}
use Rattle.aq_lex.specs.Tokens.{SpellsToken}

pub data Lexeme : Type 0 where
  Word : (text : List ℕ) → Lexeme
  QuotedName : (text : List ℕ) → Lexeme
  Integer : (number : ℕ) → Lexeme
  Text : (text : List ℕ) → Lexeme
  Symbol : (symbol : SymbolName) → Lexeme
  Directive : (directive : DirectiveName) → Lexeme

-- a lexeme and its line, counted from 1
pub record PlacedLexeme : Type 0 where
  pub line : ℕ
  pub lexeme : Lexeme

-- each two quotes that stand together as one
abbrev pub undoubled : ℕ → List ℕ → List ℕ
undoubled quote [] = []
undoubled quote (byte ∷ []) = byte ∷ []
undoubled quote (byte ∷ next ∷ bytes) = if byte == quote then byte ∷ undoubled quote bytes else byte ∷ undoubled quote (next ∷ bytes)

-- the text between two quotes
abbrev pub unquoted : ℕ → List ℕ → List ℕ
unquoted quote bytes = undoubled quote (take (length bytes - 2) (drop 1 bytes))

-- the number that digits write
abbrev pub number_of : List ℕ → ℕ
number_of digits = fold (λ number digit. 10 * number + (digit - 48)) 0 digits

-- the value of a token of a kind, by its bytes: the letters of a word are folded to lower case
abbrev pub lexeme_of : TokenKind → List ℕ → Lexeme
lexeme_of kinds.Word bytes = Word (map to_ascii_lowercase bytes)
lexeme_of kinds.QuotedName bytes = QuotedName (unquoted 34 bytes)
lexeme_of kinds.Integer bytes = Integer (number_of bytes)
lexeme_of kinds.Text bytes = Text (unquoted 39 bytes)
lexeme_of (kinds.Symbol symbol) bytes = Symbol symbol
lexeme_of (kinds.Directive directive) bytes = Directive directive

-- the bytes of a token among all bytes
abbrev pub token_bytes : List ℕ → Token → List ℕ
token_bytes bytes token = take (token.to - token.from) (drop token.from bytes)

abbrev pub lexeme : List ℕ → Token → Lexeme
lexeme bytes token = lexeme_of token.kind (token_bytes bytes token)

-- the line of a place: lines are counted from 1 by the LFs before it
abbrev pub line_at : List ℕ → ℕ → ℕ
line_at bytes at = count_by (λ byte. byte == 10) (take at bytes) + 1

abbrev pub placed : List ℕ → Token → PlacedLexeme
placed bytes token = record { line = line_at bytes token.from; lexeme = lexeme bytes token }

-- the tokens of bytes as lexemes with their lines
abbrev pub lexemes : List ℕ → List Token → List PlacedLexeme
lexemes bytes tokens = map (placed bytes) tokens

-- the text of a word, of a quoted name or of a text
abbrev pub text_of : Lexeme → Option (List ℕ)
text_of (Word text) = Some text
text_of (QuotedName text) = Some text
text_of (Integer number) = None
text_of (Text text) = Some text
text_of (Symbol symbol) = None
text_of (Directive directive) = None

abbrev pub kind_of : Lexeme → TokenKind
kind_of (Word text) = kinds.Word
kind_of (QuotedName text) = kinds.QuotedName
kind_of (Integer number) = kinds.Integer
kind_of (Text text) = kinds.Text
kind_of (Symbol symbol) = kinds.Symbol symbol
kind_of (Directive directive) = kinds.Directive directive

-- the lexeme is this word
abbrev pub is_word : List ℕ → Lexeme → Bool
is_word word (Word text) = same_text text word
is_word word (QuotedName text) = false
is_word word (Integer number) = false
is_word word (Text text) = false
is_word word (Symbol symbol) = false
is_word word (Directive directive) = false

-- symbols and directives are told apart by a number for each
abbrev pub symbol_number : SymbolName → ℕ
symbol_number OpenParen = 0
symbol_number CloseParen = 1
symbol_number Comma = 2
symbol_number Semicolon = 3
symbol_number Dot = 4
symbol_number Plus = 5
symbol_number Minus = 6
symbol_number Times = 7
symbol_number Equal = 8
symbol_number Unequal = 9
symbol_number Less = 10
symbol_number AtMost = 11
symbol_number Greater = 12
symbol_number AtLeast = 13
symbol_number DollarQuote = 14

abbrev pub directive_number : DirectiveName → ℕ
directive_number Setup = 0
directive_number Session = 1
directive_number Schedule = 2

-- the lexeme is this symbol
abbrev pub is_symbol : SymbolName → Lexeme → Bool
is_symbol symbol (Word text) = false
is_symbol symbol (QuotedName text) = false
is_symbol symbol (Integer number) = false
is_symbol symbol (Text text) = false
is_symbol symbol (Symbol found) = symbol_number found == symbol_number symbol
is_symbol symbol (Directive directive) = false

-- the lexeme is this directive
abbrev pub is_directive : DirectiveName → Lexeme → Bool
is_directive directive (Word text) = false
is_directive directive (QuotedName text) = false
is_directive directive (Integer number) = false
is_directive directive (Text text) = false
is_directive directive (Symbol symbol) = false
is_directive directive (Directive found) = directive_number found == directive_number directive

-- a number that 64 bits with a sign have
abbrev pub small : ℕ → Option ℤ
small number = if nat_le number 9223372036854775807 then Some (pos number) else None

abbrev pub integer_of : Lexeme → Option ℤ
integer_of (Word text) = None
integer_of (QuotedName text) = None
integer_of (Integer number) = small number
integer_of (Text text) = None
integer_of (Symbol symbol) = None
integer_of (Directive directive) = None

-- ---- of the first of several lexemes

abbrev pub first_line : List PlacedLexeme → Option ℕ
first_line [] = None
first_line (first ∷ others) = Some first.line

abbrev pub first_kind : List PlacedLexeme → Option TokenKind
first_kind [] = None
first_kind (first ∷ others) = Some (kind_of first.lexeme)

abbrev pub first_text : List PlacedLexeme → Option (List ℕ)
first_text [] = None
first_text (first ∷ others) = text_of first.lexeme

abbrev pub first_integer : List PlacedLexeme → Option ℤ
first_integer [] = None
first_integer (first ∷ others) = integer_of first.lexeme

abbrev pub first_is_word : List ℕ → List PlacedLexeme → Bool
first_is_word word [] = false
first_is_word word (first ∷ others) = is_word word first.lexeme

abbrev pub first_is_symbol : SymbolName → List PlacedLexeme → Bool
first_is_symbol symbol [] = false
first_is_symbol symbol (first ∷ others) = is_symbol symbol first.lexeme

abbrev pub first_is_directive : DirectiveName → List PlacedLexeme → Bool
first_is_directive directive [] = false
first_is_directive directive (first ∷ others) = is_directive directive first.lexeme

-- ---- what holds of the tokens of bytes

-- the bytes of a token spell it, in front of those behind it
abbrev pub IsSpelled : List ℕ → Token → Type 0
IsSpelled bytes token = (is_first : Bool) × SpellsToken is_first token.kind (token_bytes bytes token) (drop token.to bytes)

abbrev pub IsText : Option (List ℕ) → Type 0
IsText None = Unit {0}
IsText (Some text) = IsUtf8 text

-- the texts of all tokens are UTF-8
abbrev pub AreTexts : List ℕ → List Token → Type 0
AreTexts bytes tokens = AllByRecursion (λ token. IsText (text_of (lexeme bytes token))) tokens

-- the line where the first of several tokens begins
abbrev pub IsFirstLine : List ℕ → List Token → ℕ → Type 0
IsFirstLine bytes [] line = Unit {0}
IsFirstLine bytes (token ∷ tokens) line = line ≡ line_at bytes token.from
