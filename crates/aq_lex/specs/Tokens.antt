-- The tokens of a script, and the bytes that are a list of them (PostgreSQL manual, section "Lexical Structure").
use Rattle.std.specs.Prelude.{◌≡◌, ◌≢◌, ℕ, ◌+◌, Bool, true, false, not, ◌&&◌, ◌||◌, ◌==◌, ◌⊎◌, List, [], ◌∷◌, ◌++◌, length, flat_map, codes, IsTrue, IsUtf8, if◌then◌else◌}
use Rattle.std.specs.List.{list_all}
use Rattle.std.specs.Char.{is_ascii_alphabetic, is_ascii_alphanumeric, is_ascii_digit}
use Rattle.aq_lex.specs.declared.token.Symbol.{Symbol as SymbolName}
use Rattle.aq_lex.specs.declared.token.Symbol.TheVariants.{OpenParen, CloseParen, Comma, Semicolon, Dot, Plus, Minus, Times, Equal, Unequal, Less, AtMost, Greater, AtLeast, DollarQuote}
use Rattle.aq_lex.specs.declared.token.Directive.{Directive as DirectiveName}
use Rattle.aq_lex.specs.declared.token.Directive.TheVariants.{Setup, Session, Schedule}
use Rattle.aq_lex.specs.declared.token.TokenKind.{TokenKind}
use Rattle.aq_lex.specs.declared.token.TokenKind.TheVariants.{Word, QuotedName, Integer, Text, Symbol, Directive}
use Rattle.aq_lex.specs.declared.token.Token.{Token}
use Rattle.aq_lex.specs.declared.fault.LexFault.{LexFault}
use Rattle.aq_lex.specs.declared.fault.LexFault.TheVariants.{NoMemory, BadToken}

-- space, tab, CR or LF
abbrev pub is_blank : ℕ → Bool
is_blank byte = byte == 32 || byte == 9 || byte == 13 || byte == 10

-- a letter of either case or `_`
abbrev pub begins_word : ℕ → Bool
begins_word byte = is_ascii_alphabetic byte || byte == 95

-- a letter of either case, a digit, `_` or `$`
abbrev pub goes_on_in_word : ℕ → Bool
goes_on_in_word byte = is_ascii_alphanumeric byte || byte == 95 || byte == 36

-- any byte but an LF
abbrev pub is_in_line : ℕ → Bool
is_in_line byte = not (byte == 10)

-- a byte that passes the test doesn't come first
abbrev pub begins_otherwise : (ℕ → Bool) → List ℕ → Bool
begins_otherwise test [] = true
begins_otherwise test (byte ∷ bytes) = not (test byte)

-- a word of letters of either case
abbrev pub is_word : List ℕ → Bool
is_word [] = false
is_word (byte ∷ bytes) = begins_word byte && list_all goes_on_in_word bytes

-- at least one digit, and nothing else
abbrev pub are_digits : List ℕ → Bool
are_digits [] = false
are_digits (byte ∷ bytes) = is_ascii_digit byte && list_all is_ascii_digit bytes

-- a text, each quote in it written twice
abbrev pub doubled : ℕ → List ℕ → List ℕ
doubled quote text = flat_map (λ byte. if byte == quote then quote ∷ quote ∷ [] else byte ∷ []) text

-- a text between quotes
abbrev pub quoted : ℕ → List ℕ → List ℕ
quoted quote text = quote ∷ (doubled quote text ++ quote ∷ [])

-- the bytes are a text between quotes, the second of which is not the first half of a quote in the text
pub record Quotes (quote : ℕ) (text bytes behind : List ℕ) : Type 0 where
  pub spelled : bytes ≡ quoted quote text
  pub utf8 : IsUtf8 text
  pub ends : IsTrue (begins_otherwise (λ byte. byte == quote) behind)

-- the bytes of a symbol
abbrev pub SpellsSymbol : SymbolName → List ℕ → Type 0
SpellsSymbol OpenParen bytes = bytes ≡ codes "("
SpellsSymbol CloseParen bytes = bytes ≡ codes ")"
SpellsSymbol Comma bytes = bytes ≡ codes ","
SpellsSymbol Semicolon bytes = bytes ≡ codes ";"
SpellsSymbol Dot bytes = bytes ≡ codes "."
SpellsSymbol Plus bytes = bytes ≡ codes "+"
SpellsSymbol Minus bytes = bytes ≡ codes "-"
SpellsSymbol Times bytes = bytes ≡ codes "*"
SpellsSymbol Equal bytes = bytes ≡ codes "="
SpellsSymbol Unequal bytes = (bytes ≡ codes "<>") ⊎ (bytes ≡ codes "!=")
SpellsSymbol Less bytes = bytes ≡ codes "<"
SpellsSymbol AtMost bytes = bytes ≡ codes "<="
SpellsSymbol Greater bytes = bytes ≡ codes ">"
SpellsSymbol AtLeast bytes = bytes ≡ codes ">="
SpellsSymbol DollarQuote bytes = bytes ≡ codes "$$"

-- a byte that makes a longer symbol, or a comment, of a symbol
abbrev pub goes_on_in_symbol : SymbolName → ℕ → Bool
goes_on_in_symbol OpenParen byte = false
goes_on_in_symbol CloseParen byte = false
goes_on_in_symbol Comma byte = false
goes_on_in_symbol Semicolon byte = false
goes_on_in_symbol Dot byte = false
goes_on_in_symbol Plus byte = false
goes_on_in_symbol Minus byte = byte == 45
goes_on_in_symbol Times byte = false
goes_on_in_symbol Equal byte = false
goes_on_in_symbol Unequal byte = false
goes_on_in_symbol Less byte = byte == 61 || byte == 62
goes_on_in_symbol AtMost byte = false
goes_on_in_symbol Greater byte = byte == 61
goes_on_in_symbol AtLeast byte = false
goes_on_in_symbol DollarQuote byte = false

abbrev pub directive_bytes : DirectiveName → List ℕ
directive_bytes Setup = codes "\\setup"
directive_bytes Session = codes "\\session"
directive_bytes Schedule = codes "\\schedule"

-- The bytes that spell a token of a kind, with what stands behind them: each token goes on as long as it can, and a
-- directive is the first token of its line.
abbrev pub SpellsToken : Bool → TokenKind → List ℕ → List ℕ → Type 0
SpellsToken is_first Word bytes behind = IsTrue (is_word bytes) × IsTrue (begins_otherwise goes_on_in_word behind)
SpellsToken is_first QuotedName bytes behind = (text : List ℕ) × (text ≢ []) × Quotes 34 text bytes behind
SpellsToken is_first Integer bytes behind = IsTrue (are_digits bytes) × IsTrue (begins_otherwise is_ascii_digit behind)
SpellsToken is_first Text bytes behind = (text : List ℕ) × Quotes 39 text bytes behind
SpellsToken is_first (Symbol symbol) bytes behind = SpellsSymbol symbol bytes × IsTrue (begins_otherwise (goes_on_in_symbol symbol) behind)
SpellsToken is_first (Directive directive) bytes behind = (bytes ≡ directive_bytes directive) × IsTrue is_first

-- the bytes of a comment, with what stands behind them: it ends before the next LF or at the end of the bytes
pub record IsComment (bytes behind : List ℕ) : Type 0 where
  pub text : List ℕ
  pub spelled : bytes ≡ codes "--" ++ text
  pub in_line : IsTrue (list_all is_in_line text)
  pub utf8 : IsUtf8 text
  pub ends : IsTrue (begins_otherwise is_in_line behind)

-- a place between tokens: the number of bytes before it, and that no token stands before it on its line
pub record Place : Type 0 where
  pub at : ℕ
  pub is_first : Bool

abbrev pub beginning : Place
beginning = record { at = 0; is_first = true }

-- a line ends at its LF
abbrev pub behind_blank : ℕ → Place → Place
behind_blank byte place = record { at = place.at + 1; is_first = place.is_first || byte == 10 }

abbrev pub behind_comment : List ℕ → Place → Place
behind_comment bytes place = record { at = place.at + length bytes; is_first = place.is_first }

-- a token stands before it on the line on which the token ends
abbrev pub behind_token : List ℕ → Place → Place
behind_token bytes place = record { at = place.at + length bytes; is_first = false }

abbrev pub token_at : TokenKind → List ℕ → Place → Token
token_at kind bytes place = record { kind = kind; from = place.at; to = place.at + length bytes }

-- The bytes before a place are these tokens, each with where it stands, and blanks and comments. The last list is of the
-- bytes behind the place.
pub data LexesTo (bytes : List ℕ) : List Token → Place → List ℕ → Type 0 where
  Starts : LexesTo bytes [] beginning bytes
  BehindBlank : (tokens : List Token) (place : Place) (byte : ℕ) (behind : List ℕ) → LexesTo bytes tokens place (byte ∷ behind) →
      IsTrue (is_blank byte) → LexesTo bytes tokens (behind_blank byte place) behind
  BehindComment : (tokens : List Token) (place : Place) (spelling behind : List ℕ) → LexesTo bytes tokens place (spelling ++ behind) →
      IsComment spelling behind → LexesTo bytes tokens (behind_comment spelling place) behind
  BehindToken : (tokens : List Token) (place : Place) (kind : TokenKind) (spelling behind : List ℕ) → LexesTo bytes tokens place (spelling ++ behind) →
      SpellsToken place.is_first kind spelling behind → LexesTo bytes (tokens ++ token_at kind spelling place ∷ []) (behind_token spelling place) behind

-- all of the bytes are these tokens, and blanks and comments
pub record Lexes (bytes : List ℕ) (tokens : List Token) : Type 0 where
  pub place : Place
  pub lexes : LexesTo bytes tokens place []

-- the bytes, of which there is one, begin with no blank, no comment and no token
pub record BeginsNothing (is_first : Bool) (bytes : List ℕ) : Type 0 where
  pub some : bytes ≢ []
  pub no_blank : IsTrue (begins_otherwise is_blank bytes)
  pub no_comment : (spelling behind : List ℕ) → bytes ≡ spelling ++ behind → IsComment spelling behind → ⊥
  pub no_token : (kind : TokenKind) (spelling behind : List ℕ) → bytes ≡ spelling ++ behind → SpellsToken is_first kind spelling behind → ⊥

-- the bytes before a place, counted from 0, are tokens, blanks and comments, and at the byte at that place none of them begins
pub record NoTokenAt (bytes : List ℕ) (at : ℕ) : Type 0 where
  pub tokens : List Token
  pub place : Place
  pub behind : List ℕ
  pub lexes : LexesTo bytes tokens place behind
  pub here : place.at ≡ at
  pub nothing : BeginsNothing place.is_first behind

-- a fact of the place of a fault that is not want of memory
abbrev pub IfBadToken : LexFault → (ℕ → Type 0) → Type 0
IfBadToken NoMemory P = Unit {0}
IfBadToken (BadToken at) P = P at
