-- The kinds of tokens that the rules of the grammar name.
use Rattle.std.specs.Prelude.{ℕ, Bool, true, false, not, ◌&&◌, ◌||◌, ◌==◌, ◌^◌, List, [], ◌∷◌, length, drop, nat_le, nat_lt, nat_eq, codes}
use Rattle.std.specs.List.{list_any, list_all, starts_with}
use Rattle.aq_base.specs.Names.{Text as Bytes, same_text, is_reserved, is_short}
use Rattle.aq_lex.specs.declared.token.Symbol.{Symbol}
use Rattle.aq_lex.specs.declared.token.Symbol.TheVariants.{OpenParen, CloseParen, Comma, Semicolon, Dot, Plus, Minus, Times, Equal, Unequal, Less, AtMost, Greater, AtLeast, DollarQuote}
use Rattle.aq_lex.specs.declared.token.Directive.{Directive as DirectiveName}
use Rattle.aq_lex.specs.declared.token.Directive.TheVariants.{Setup, Session, Schedule}
use Rattle.aq_lex.specs.Lexemes.{PlacedLexeme, Lexeme, Word, QuotedName, Integer, Text, Symbol as Mark, Directive, is_word}

pub data Terminal : Type 0 where
  -- a word that isn't quoted, in lower case
  Keyword : Bytes → Terminal
  -- an unreserved word, or a quoted name
  Name : Terminal
  -- a name with this text, and a name with another
  NameOf : Bytes → Terminal
  NameBut : Bytes → Terminal
  -- an unreserved word
  PlainName : Terminal
  -- a whole number, and one that isn't 0
  Number : Terminal
  Count : Terminal
  -- a text; a text within the code of a function, which holds no `$$`; and a message there, which holds no `%` either
  Literal : Terminal
  LiteralInCode : Terminal
  Message : Terminal
  -- a text that is the code of an error
  StateCode : Terminal
  Sign : Symbol → Terminal
  Heading : DirectiveName → Terminal

abbrev pub symbol_number : Symbol → ℕ
symbol_number OpenParen = 0
symbol_number CloseParen = 1
symbol_number Comma = 2
symbol_number Semicolon = 3
symbol_number Dot = 4
symbol_number Plus = 5
symbol_number Minus = 6
symbol_number Times = 7
symbol_number Equal = 8
symbol_number Unequal = 9
symbol_number Less = 10
symbol_number AtMost = 11
symbol_number Greater = 12
symbol_number AtLeast = 13
symbol_number DollarQuote = 14

abbrev pub same_symbol : Symbol → Symbol → Bool
same_symbol a b = symbol_number a == symbol_number b

abbrev pub directive_number : DirectiveName → ℕ
directive_number Setup = 0
directive_number Session = 1
directive_number Schedule = 2

abbrev pub same_directive : DirectiveName → DirectiveName → Bool
same_directive a b = directive_number a == directive_number b

-- a name has 63 bytes at the most, a text 1,000, and a number is 2 ^ 63 - 1 at the most
abbrev pub is_name_word : Bytes → Bool
is_name_word word = is_short word && not (is_reserved word)

abbrev pub is_literal : Bytes → Bool
is_literal text = nat_le (length text) 1000

-- the bytes stand in the text
abbrev pub holds : Bytes → Bytes → Bool
holds part [] = false
holds part (byte ∷ text) = starts_with nat_eq (byte ∷ text) part || holds part text

abbrev pub is_literal_in_code : Bytes → Bool
is_literal_in_code text = is_literal text && not (holds (codes "$$") text)

abbrev pub is_message : Bytes → Bool
is_message text = is_literal_in_code text && not (holds (codes "%") text)

-- a digit or an upper-case letter
abbrev pub is_code_byte : ℕ → Bool
is_code_byte byte = (nat_le 48 byte && nat_le byte 57) || (nat_le 65 byte && nat_le byte 90)

-- five digits and upper-case letters that don't end in `000`
abbrev pub is_state_code : Bytes → Bool
is_state_code text = (length text == 5) && (list_all is_code_byte text && not (same_text (drop 2 text) (codes "000")))

abbrev pub is_plain_name : Lexeme → Bool
is_plain_name (Word text) = is_name_word text
is_plain_name (QuotedName text) = false
is_plain_name (Integer number) = false
is_plain_name (Text text) = false
is_plain_name (Mark symbol) = false
is_plain_name (Directive directive) = false

-- the text of a name that passes a test
abbrev pub name_is : (Bytes → Bool) → Lexeme → Bool
name_is test (Word text) = is_name_word text && test text
name_is test (QuotedName text) = is_short text && test text
name_is test (Integer number) = false
name_is test (Text text) = false
name_is test (Mark symbol) = false
name_is test (Directive directive) = false

abbrev pub number_is : (ℕ → Bool) → Lexeme → Bool
number_is test (Word text) = false
number_is test (QuotedName text) = false
number_is test (Integer number) = test number
number_is test (Text text) = false
number_is test (Mark symbol) = false
number_is test (Directive directive) = false

abbrev pub text_is : (Bytes → Bool) → Lexeme → Bool
text_is test (Word text) = false
text_is test (QuotedName text) = false
text_is test (Integer number) = false
text_is test (Text text) = test text
text_is test (Mark symbol) = false
text_is test (Directive directive) = false

abbrev pub symbol_is : Symbol → Lexeme → Bool
symbol_is sign (Word text) = false
symbol_is sign (QuotedName text) = false
symbol_is sign (Integer number) = false
symbol_is sign (Text text) = false
symbol_is sign (Mark symbol) = same_symbol symbol sign
symbol_is sign (Directive directive) = false

abbrev pub directive_is : DirectiveName → Lexeme → Bool
directive_is heading (Word text) = false
directive_is heading (QuotedName text) = false
directive_is heading (Integer number) = false
directive_is heading (Text text) = false
directive_is heading (Mark symbol) = false
directive_is heading (Directive directive) = same_directive directive heading

-- the lexeme is of the kind
abbrev pub is_of_kind : Terminal → Lexeme → Bool
is_of_kind (Keyword word) lexeme = is_word word lexeme
is_of_kind Name lexeme = name_is (λ text. true) lexeme
is_of_kind (NameOf name) lexeme = name_is (λ text. same_text text name) lexeme
is_of_kind (NameBut other) lexeme = name_is (λ text. not (same_text text other)) lexeme
is_of_kind PlainName lexeme = is_plain_name lexeme
is_of_kind Count lexeme = number_is (λ number. nat_lt 0 number && nat_lt number (2 ^ 63)) lexeme
is_of_kind (Heading directive) lexeme = directive_is directive lexeme
is_of_kind Number lexeme = number_is (λ number. nat_lt number (2 ^ 63)) lexeme
is_of_kind Literal lexeme = text_is is_literal lexeme
is_of_kind LiteralInCode lexeme = text_is is_literal_in_code lexeme
is_of_kind Message lexeme = text_is is_message lexeme
is_of_kind StateCode lexeme = text_is is_state_code lexeme
is_of_kind (Sign symbol) lexeme = symbol_is symbol lexeme

-- the token is of the kind
abbrev pub fits : Terminal → PlacedLexeme → Bool
fits kind token = is_of_kind kind token.lexeme

-- the token is of one of the kinds
abbrev pub is_of : List Terminal → PlacedLexeme → Bool
is_of kinds token = list_any (λ kind. fits kind token) kinds

-- a token is of one of the kinds and comes first
abbrev pub begins : List Terminal → List PlacedLexeme → Bool
begins kinds [] = false
begins kinds (token ∷ tokens) = is_of kinds token

-- the tokens begin with these kinds, one after the other
abbrev pub begin_with : List Terminal → List PlacedLexeme → Bool
begin_with [] tokens = true
begin_with (kind ∷ kinds) [] = false
begin_with (kind ∷ kinds) (token ∷ tokens) = fits kind token && begin_with kinds tokens

abbrev pub lexeme_text : Lexeme → Bytes
lexeme_text (Word text) = text
lexeme_text (QuotedName text) = text
lexeme_text (Integer number) = []
lexeme_text (Text text) = text
lexeme_text (Mark symbol) = []
lexeme_text (Directive directive) = []

-- the text of a word, a quoted name or a text
abbrev pub text_of : PlacedLexeme → Bytes
text_of token = lexeme_text token.lexeme

abbrev pub lexeme_number : Lexeme → ℕ
lexeme_number (Word text) = 0
lexeme_number (QuotedName text) = 0
lexeme_number (Integer number) = number
lexeme_number (Text text) = 0
lexeme_number (Mark symbol) = 0
lexeme_number (Directive directive) = 0

abbrev pub number_of : PlacedLexeme → ℕ
number_of token = lexeme_number token.lexeme
