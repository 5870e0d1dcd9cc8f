-- Printed tokens as lexemes, on any lines.
use Rattle.std.proofs.Common.{◌≡◌, ℕ, suc, List, [], ◌∷◌, ◌++◌, map, if◌then◌else◌, refl, ap}
use Rattle.std.specs.Char.{to_ascii_lowercase}
use Rattle.aq_lex.specs.declared.token.Symbol.TheVariants.{OpenParen, Minus, Times}
use Rattle.aq_lex.specs.Lexemes.{PlacedLexeme, Lexeme, Word, QuotedName, Integer, Text, Symbol, Directive}
use Rattle.aq_texts.specs.Written.{Written, Said, Heading, Name, Number, Literal, Mark, Sign, Call, Repeat, is_bare}

abbrev pub lexeme_of : Written → Lexeme
lexeme_of (Said text) = Word (map to_ascii_lowercase text)
lexeme_of (Heading directive) = Directive directive
lexeme_of (Name name) = if is_bare name then Word name else QuotedName name
lexeme_of (Number number) = Integer number
lexeme_of (Literal text) = Text text
lexeme_of (Mark symbol) = Symbol symbol
lexeme_of Sign = Symbol Minus
lexeme_of Call = Symbol OpenParen
lexeme_of Repeat = Symbol Times

-- the tokens, of which the one with the number `at` is on the line `lines at`
abbrev pub laid : (ℕ → ℕ) → ℕ → List Written → List PlacedLexeme
laid lines at [] = []
laid lines at (token ∷ tokens) = record { line = lines at; lexeme = lexeme_of token } ∷ laid lines (suc at) tokens

-- the number of the token behind these
abbrev pub past : ℕ → List Written → ℕ
past at [] = at
past at (token ∷ tokens) = past (suc at) tokens

pub laid_append : (lines : ℕ → ℕ) (at : ℕ) (a b : List Written) → laid lines at (a ++ b) ≡ laid lines at a ++ laid lines (past at a) b
laid_append lines at [] b = refl
laid_append lines at (token ∷ a) b = ap (λ (tokens : List PlacedLexeme). record { line = lines at; lexeme = lexeme_of token } ∷ tokens) (laid_append lines (suc at) a b)
