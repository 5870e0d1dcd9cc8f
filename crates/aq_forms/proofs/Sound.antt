-- Which lexemes a statement may be printed with: those that tokens of a statement have.
use Rattle.std.specs.Prelude.{◌≡◌, ◌≢◌, ℕ, ◌^◌, Bool, true, ◌&&◌, List, [], ◌∷◌, map, nat_lt, IsUtf8}
use Rattle.std.specs.Char.{to_ascii_lowercase}
use Rattle.aq_base.specs.Names.{same_text}
use Rattle.aq_lex.specs.Tokens.{is_word}
use Rattle.aq_lex.specs.Lexemes.{PlacedLexeme, Lexeme, Word, QuotedName, Integer, Text, Symbol, Directive}

-- a word of lower case letters
abbrev pub is_folded_word : List ℕ → Bool
is_folded_word text = is_word text && same_text (map to_ascii_lowercase text) text

-- the text of a lexeme is one that a token can have
abbrev pub HasText : Lexeme → Type 0
HasText (Word text) = is_folded_word text ≡ true
HasText (QuotedName text) = (text ≢ []) × IsUtf8 text
HasText (Integer number) = Unit {0}
HasText (Text text) = IsUtf8 text
HasText (Symbol symbol) = Unit {0}
HasText (Directive directive) = Unit {0}

-- the lexeme can be printed within a statement
abbrev pub IsSound : Lexeme → Type 0
IsSound (Word text) = is_folded_word text ≡ true
IsSound (QuotedName text) = (text ≢ []) × IsUtf8 text
IsSound (Integer number) = nat_lt number (2 ^ 63) ≡ true
IsSound (Text text) = IsUtf8 text
IsSound (Symbol symbol) = Unit {0}
IsSound (Directive directive) = ⊥

abbrev pub HaveTexts : List PlacedLexeme → Type 0
HaveTexts [] = Unit {0}
HaveTexts (token ∷ tokens) = HasText token.lexeme × HaveTexts tokens

abbrev pub AreSound : List PlacedLexeme → Type 0
AreSound [] = Unit {0}
AreSound (token ∷ tokens) = IsSound token.lexeme × AreSound tokens
