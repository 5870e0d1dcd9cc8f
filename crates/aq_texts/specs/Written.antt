-- Tokens as they are printed, and the blanks between them.
use Rattle.std.specs.Prelude.{ℕ, Bool, true, false, not, ◌&&◌, ◌||◌, List, [], ◌∷◌, ◌++◌, map, codes, if◌then◌else◌}
use Rattle.std.specs.Char.{to_ascii_lowercase}
use Rattle.std.specs.Fmt.{decimal}
use Rattle.aq_base.specs.Names.{Text, same_text, is_reserved}
use Rattle.aq_lex.specs.Tokens.{is_word, quoted, directive_bytes}
use Rattle.aq_lex.specs.declared.token.Directive.{Directive}
use Rattle.aq_lex.specs.declared.token.Symbol.{Symbol}
use Rattle.aq_lex.specs.declared.token.Symbol.TheVariants.{OpenParen, CloseParen, Comma, Semicolon, Dot, Plus, Minus, Times, Equal, Unequal, Less, AtMost, Greater, AtLeast, DollarQuote}

pub data Written : Type 0 where
  -- a word of the language, by its letters
  Said : Text → Written
  Heading : Directive → Written
  -- a name: bare where it reads back as the same unreserved word, and else between quotes
  Name : Text → Written
  Number : ℕ → Written
  -- a text between quotes
  Literal : Text → Written
  Mark : Symbol → Written
  -- the sign of an operand, or of a constant
  Sign : Written
  -- the `(` behind the name of a function
  Call : Written
  -- the `*` between a session and its number of steps
  Repeat : Written

abbrev pub symbol_text : Symbol → Text
symbol_text OpenParen = codes "("
symbol_text CloseParen = codes ")"
symbol_text Comma = codes ","
symbol_text Semicolon = codes ";"
symbol_text Dot = codes "."
symbol_text Plus = codes "+"
symbol_text Minus = codes "-"
symbol_text Times = codes "*"
symbol_text Equal = codes "="
symbol_text Unequal = codes "<>"
symbol_text Less = codes "<"
symbol_text AtMost = codes "<="
symbol_text Greater = codes ">"
symbol_text AtLeast = codes ">="
symbol_text DollarQuote = codes "$$"

-- the name reads back as the same unreserved word
abbrev pub is_bare : Text → Bool
is_bare name = is_word name && same_text (map to_ascii_lowercase name) name && not (is_reserved name)

abbrev pub name_text : Text → Text
name_text name = if is_bare name then name else quoted 34 name

abbrev pub token_text : Written → Text
token_text (Said text) = text
token_text (Heading directive) = directive_bytes directive
token_text (Name name) = name_text name
token_text (Number number) = decimal number
token_text (Literal text) = quoted 39 text
token_text (Mark symbol) = symbol_text symbol
token_text Sign = codes "-"
token_text Call = codes "("
token_text Repeat = codes "*"

-- no blank stands behind it: behind `(`, `.`, the sign of an operand and the `*` of a schedule
abbrev pub joins_next : Written → Bool
joins_next (Said text) = false
joins_next (Heading directive) = false
joins_next (Name name) = false
joins_next (Number number) = false
joins_next (Literal text) = false
joins_next (Mark OpenParen) = true
joins_next (Mark Dot) = true
joins_next (Mark other) = false
joins_next Sign = true
joins_next Call = true
joins_next Repeat = true

-- no blank stands before it: before `)`, `,`, `;`, `.`, the parentheses of a function and the `*` of a schedule
abbrev pub joins_last : Written → Bool
joins_last (Said text) = false
joins_last (Heading directive) = false
joins_last (Name name) = false
joins_last (Number number) = false
joins_last (Literal text) = false
joins_last (Mark CloseParen) = true
joins_last (Mark Comma) = true
joins_last (Mark Semicolon) = true
joins_last (Mark Dot) = true
joins_last (Mark other) = false
joins_last Sign = false
joins_last Call = true
joins_last Repeat = true

-- a minus sign
abbrev pub is_minus : Written → Bool
is_minus (Said text) = false
is_minus (Heading directive) = false
is_minus (Name name) = false
is_minus (Number number) = false
is_minus (Literal text) = false
is_minus (Mark symbol) = same_text (symbol_text symbol) (codes "-")
is_minus Sign = true
is_minus Call = false
is_minus Repeat = false

-- Two signs that join would begin a comment. No expression that was read is printed with two of them in a row.
abbrev pub blank_between : Written → Written → Text
blank_between first second = if (joins_next first && not (is_minus first && is_minus second)) || joins_last second then [] else 32 ∷ []

-- what stands behind a token
abbrev pub text_behind : Written → List Written → Text
text_behind before [] = []
text_behind before (token ∷ tokens) = blank_between before token ++ (token_text token ++ text_behind token tokens)

-- tokens with one blank between two of them, but where one joins the other
abbrev pub written : List Written → Text
written [] = []
written (token ∷ tokens) = token_text token ++ text_behind token tokens

-- ---- parts that many forms have

abbrev pub say : Text → Written
say = Said

-- with a token between two of them
abbrev pub separated : {A : Type 0} → Written → (A → List Written) → List A → List Written
separated between print [] = []
separated between print (x ∷ []) = print x
separated between print (x ∷ next ∷ others) = print x ++ between ∷ separated between print (next ∷ others)

abbrev pub listed : {A : Type 0} → (A → List Written) → List A → List Written
listed print xs = separated (Mark Comma) print xs

abbrev pub in_parentheses : List Written → List Written
in_parentheses tokens = Mark OpenParen ∷ (tokens ++ Mark CloseParen ∷ [])

abbrev pub names : List Text → List Written
names xs = listed (λ name. Name name ∷ []) xs

abbrev pub columns : List Text → List Written
columns xs = in_parentheses (names xs)
