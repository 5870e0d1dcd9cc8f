-- What the first token is, and how it is read.
use Rattle.std.proofs.Common.{◌≡◌, ℕ, ◌^◌, Bool, true, false, not, ◌&&◌, ◌||◌, ◌==◌, List, [], ◌∷◌, length, drop, map, Option, Some, None, ℤ, pos, nat_abs, refl, sym, ap, ◌∙◌, nat_le, nat_lt, codes, if◌then◌else◌, arith}
use Rattle.std.specs.List.{list_any, list_all}
use Rattle.std.proofs.lemmas.Bool.{and_parts, eqb-true}
use Rattle.aq_base.specs.declared.fault.Code.{Code}
use Rattle.std.specs.Int.Signed.{lt_z}
use Rattle.std.specs.Option.{is_some}
use denote.Enum.Bare.{sameb}
use denote.Enum.Declared.{tag_of}
use Rattle.aq_lex.specs.contracts.token.Symbol as symbol_contracts
use Rattle.aq_lex.specs.contracts.token.Directive as directive_contracts
use Rattle.std.proofs.lemmas.Grind.{common_steps}
use Rattle.aq_base.specs.Names.{Text as Bytes, same_text, is_short}
use Rattle.aq_lex.specs.declared.token.Symbol.{Symbol as SymbolName}
use Rattle.aq_lex.specs.declared.token.Symbol.TheVariants.{OpenParen, CloseParen, Comma, Semicolon, Dot, Plus, Minus, Times, Equal, Unequal, Less, AtMost, Greater, AtLeast, DollarQuote}
use Rattle.aq_lex.specs.declared.token.Directive.{Directive as DirectiveName}
use Rattle.aq_lex.specs.declared.token.Directive.TheVariants.{Setup, Session, Schedule}
use Rattle.aq_lex.specs.declared.token.TokenKind.TheVariants as kinds
use Rattle.aq_lex.specs.Lexemes.{PlacedLexeme, Lexeme, Word, QuotedName, Integer, Text, Symbol, Directive, first_kind, first_integer, first_is_word, kind_of, small}
use Rattle.aq_lex.specs.Lexemes as lexemes
use Rattle.aq_grammar.specs.Terminals.{Terminal, begins, begin_with, fits, Keyword, Sign, Name, NameOf, NameBut, PlainName, Number, Count, Literal, LiteralInCode, Message, StateCode, Heading, is_of_kind, is_name_word, is_literal, is_literal_in_code, is_message, is_code_byte, is_state_code, is_plain_name, name_is, text_is, symbol_is, directive_is, holds, text_of, lexeme_text, lexeme_number, number_of, same_symbol, symbol_number, same_directive, directive_number}
use Rattle.aq_grammar.specs.Reading.{Outcome, Read, Stop, Syntax, read_token}
use Rattle.aq_grammar.specs.Steps.{read_text, text_then, first_text_of, first_count, first_code}
use Rattle.aq_grammar.specs.Expressions.{literal_in}
use Rattle.aq_grammar.specs.declared.scope.Scope.{Scope}
use Rattle.aq_grammar.specs.declared.scope.Scope.TheVariants.{InStatement, InCondition, InCode}

or_none : (b : Bool) → (b || false) ≡ b
or_none true = refl
or_none false = refl

-- ---- symbols and directives

symbol_tag : (symbol : SymbolName) → tag_of symbol_contracts.the_type symbol ≡ symbol_number symbol
symbol_tag OpenParen = refl
symbol_tag CloseParen = refl
symbol_tag Comma = refl
symbol_tag Semicolon = refl
symbol_tag Dot = refl
symbol_tag Plus = refl
symbol_tag Minus = refl
symbol_tag Times = refl
symbol_tag Equal = refl
symbol_tag Unequal = refl
symbol_tag Less = refl
symbol_tag AtMost = refl
symbol_tag Greater = refl
symbol_tag AtLeast = refl
symbol_tag DollarQuote = refl

directive_tag : (directive : DirectiveName) → tag_of directive_contracts.the_type directive ≡ directive_number directive
directive_tag Setup = refl
directive_tag Session = refl
directive_tag Schedule = refl

symbol_found : (found symbol : SymbolName) (lexeme : Lexeme) → kind_of lexeme ≡ kinds.Symbol found → symbol_is symbol lexeme ≡ same_symbol found symbol
symbol_found found symbol (Word text) e = absurd cc
symbol_found found symbol (QuotedName text) e = absurd cc
symbol_found found symbol (Integer number) e = absurd cc
symbol_found found symbol (Text text) e = absurd cc
symbol_found found symbol (Symbol here) e = let same : here ≡ found = cc in ap (λ (s : SymbolName). same_symbol s symbol) same
symbol_found found symbol (Directive directive) e = absurd cc

pub is_sign : (found symbol : SymbolName) (tokens : List PlacedLexeme) → first_kind tokens ≡ Some (kinds.Symbol found)
    → sameb symbol_contracts.the_type found symbol ≡ begins (Sign symbol ∷ []) tokens
is_sign found symbol [] e = absurd cc
is_sign found symbol (token ∷ tokens) e =
    ap (λ (n : ℕ). n == tag_of symbol_contracts.the_type symbol) (symbol_tag found)
    ∙ (ap (λ (n : ℕ). symbol_number found == n) (symbol_tag symbol)
    ∙ sym (or_none (symbol_is symbol token.lexeme) ∙ symbol_found found symbol token.lexeme cc))

directive_found : (found directive : DirectiveName) (lexeme : Lexeme) → kind_of lexeme ≡ kinds.Directive found → directive_is directive lexeme ≡ same_directive found directive
directive_found found directive (Word text) e = absurd cc
directive_found found directive (QuotedName text) e = absurd cc
directive_found found directive (Integer number) e = absurd cc
directive_found found directive (Text text) e = absurd cc
directive_found found directive (Symbol here) e = absurd cc
directive_found found directive (Directive here) e = let same : here ≡ found = cc in ap (λ (s : DirectiveName). same_directive s directive) same

pub is_directive : (found directive : DirectiveName) (tokens : List PlacedLexeme) → first_kind tokens ≡ Some (kinds.Directive found)
    → sameb directive_contracts.the_type found directive ≡ begins (Heading directive ∷ []) tokens
is_directive found directive [] e = absurd cc
is_directive found directive (token ∷ tokens) e =
    ap (λ (n : ℕ). n == tag_of directive_contracts.the_type directive) (directive_tag found)
    ∙ (ap (λ (n : ℕ). directive_number found == n) (directive_tag directive)
    ∙ sym (or_none (directive_is directive token.lexeme) ∙ directive_found found directive token.lexeme cc))

-- ---- one of several

any_of : {X Y : Type 0} (test : X → Bool) (f : Y → X) (ys : List Y) → list_any test (map f ys) ≡ list_any (λ y. test (f y)) ys
any_of test f [] = refl
any_of test f (y ∷ ys) = ap (λ (b : Bool). test (f y) || b) (any_of test f ys)

none_of : {Y : Type 0} (ys : List Y) → list_any (λ y. false) ys ≡ false
none_of [] = refl
none_of (y ∷ ys) = none_of ys

pub words_begin : {W : Type 0} (text : W → Bytes) (words : List W) (tokens : List PlacedLexeme)
    → list_any (λ word. first_is_word (text word) tokens) words ≡ begins (map (λ word. Keyword (text word)) words) tokens
words_begin text words [] = none_of words
words_begin text words (token ∷ tokens) = sym (any_of (λ kind. fits kind token) (λ word. Keyword (text word)) words)

pub signs_begin : (symbols : List SymbolName) (tokens : List PlacedLexeme)
    → list_any (λ symbol. begins (Sign symbol ∷ []) tokens) symbols ≡ begins (map (λ symbol. Sign symbol) symbols) tokens
signs_begin symbols [] = none_of symbols
signs_begin [] (token ∷ tokens) = refl
signs_begin (symbol ∷ symbols) (token ∷ tokens) =
    ap (λ (b : Bool). b || list_any (λ s. begins (Sign s ∷ []) (token ∷ tokens)) symbols) (or_none (symbol_is symbol token.lexeme))
    ∙ ap (λ (b : Bool). symbol_is symbol token.lexeme || b) (signs_begin symbols (token ∷ tokens))

-- ---- texts

-- a token of the kind has a text
abbrev HasText : Terminal → Type 0
HasText kind = (lexeme : Lexeme) → is_of_kind kind lexeme ≡ true → lexemes.text_of lexeme ≡ Some (lexeme_text lexeme)

read_chosen : (b : Bool) (token : PlacedLexeme) (rest : List PlacedLexeme) → (b ≡ true → lexemes.text_of token.lexeme ≡ Some (text_of token))
    → read_text (b || false) (token ∷ rest) ≡ if b then Read (text_of token) rest else Stop Syntax (token ∷ rest)
read_chosen true token rest has_text = ap (λ (o : Option Bytes). text_then o (token ∷ rest)) (has_text refl)
read_chosen false token rest has_text = refl

text_is_read : (kind : Terminal) → HasText kind → (tokens : List PlacedLexeme) → read_text (begins (kind ∷ []) tokens) tokens ≡ read_token kind text_of tokens
text_is_read kind has_text [] = refl
text_is_read kind has_text (token ∷ rest) = read_chosen (fits kind token) token rest (has_text token.lexeme)

name_has_text : (test : Bytes → Bool) (lexeme : Lexeme) → name_is test lexeme ≡ true → lexemes.text_of lexeme ≡ Some (lexeme_text lexeme)
name_has_text test (Word text) e = refl
name_has_text test (QuotedName text) e = refl
name_has_text test (Integer number) e = absurd cc
name_has_text test (Text text) e = refl
name_has_text test (Symbol symbol) e = absurd cc
name_has_text test (Directive directive) e = absurd cc

quoted_has_text : (test : Bytes → Bool) (lexeme : Lexeme) → text_is test lexeme ≡ true → lexemes.text_of lexeme ≡ Some (lexeme_text lexeme)
quoted_has_text test (Word text) e = refl
quoted_has_text test (QuotedName text) e = refl
quoted_has_text test (Integer number) e = absurd cc
quoted_has_text test (Text text) e = refl
quoted_has_text test (Symbol symbol) e = absurd cc
quoted_has_text test (Directive directive) e = absurd cc

plain_has_text : (lexeme : Lexeme) → is_plain_name lexeme ≡ true → lexemes.text_of lexeme ≡ Some (lexeme_text lexeme)
plain_has_text (Word text) e = refl
plain_has_text (QuotedName text) e = refl
plain_has_text (Integer number) e = absurd cc
plain_has_text (Text text) e = refl
plain_has_text (Symbol symbol) e = absurd cc
plain_has_text (Directive directive) e = absurd cc

pub plain_name_is_read : (tokens : List PlacedLexeme) → read_text (begins (PlainName ∷ []) tokens) tokens ≡ read_token PlainName text_of tokens
plain_name_is_read tokens = text_is_read PlainName plain_has_text tokens

pub name_is_read : (tokens : List PlacedLexeme) → read_text (begins (Name ∷ []) tokens) tokens ≡ read_token Name text_of tokens
name_is_read tokens = text_is_read Name (name_has_text (λ text. true)) tokens

pub name_of_is_read : (name : Bytes) (tokens : List PlacedLexeme) → read_text (begins (NameOf name ∷ []) tokens) tokens ≡ read_token (NameOf name) text_of tokens
name_of_is_read name tokens = text_is_read (NameOf name) (name_has_text (λ text. same_text text name)) tokens

pub name_but_is_read : (other : Bytes) (tokens : List PlacedLexeme) → read_text (begins (NameBut other ∷ []) tokens) tokens ≡ read_token (NameBut other) text_of tokens
name_but_is_read other tokens = text_is_read (NameBut other) (name_has_text (λ text. not (same_text text other))) tokens

literal_has_text : (scope : Scope) → HasText (literal_in scope)
literal_has_text InStatement = quoted_has_text is_literal
literal_has_text InCondition = quoted_has_text is_literal
literal_has_text InCode = quoted_has_text is_literal_in_code

pub literal_is_read : (scope : Scope) (tokens : List PlacedLexeme) → read_text (begins (literal_in scope ∷ []) tokens) tokens ≡ read_token (literal_in scope) text_of tokens
literal_is_read scope tokens = text_is_read (literal_in scope) (literal_has_text scope) tokens

pub message_is_read : (tokens : List PlacedLexeme) → read_text (begins (Message ∷ []) tokens) tokens ≡ read_token Message text_of tokens
message_is_read tokens = text_is_read Message (quoted_has_text is_message) tokens

-- ---- a text that passes a test

-- a text is there and passes the test
abbrev pub passes : (Bytes → Bool) → Option Bytes → Bool
passes test None = false
passes test (Some text) = test text

passes_also : (b : Bool) (test : Bytes → Bool) (text : Bytes) → ((b && test text) || false) ≡ passes test (if (b && true) || false then Some text else None)
passes_also true test text = or_none (test text)
passes_also false test text = refl

name_passes : (test : Bytes → Bool) (lexeme : Lexeme)
    → (name_is test lexeme || false) ≡ passes test (if name_is (λ text. true) lexeme || false then lexemes.text_of lexeme else None)
name_passes test (Word text) = passes_also (is_name_word text) test text
name_passes test (QuotedName text) = passes_also (is_short text) test text
name_passes test (Integer number) = refl
name_passes test (Text text) = refl
name_passes test (Symbol symbol) = refl
name_passes test (Directive directive) = refl

pub name_of_is : (name : Bytes) (tokens : List PlacedLexeme) → begins (NameOf name ∷ []) tokens ≡ passes (λ text. same_text text name) (first_text_of Name tokens)
name_of_is name [] = refl
name_of_is name (token ∷ tokens) = name_passes (λ text. same_text text name) token.lexeme

pub name_but_is : (other : Bytes) (tokens : List PlacedLexeme) → begins (NameBut other ∷ []) tokens ≡ passes (λ text. not (same_text text other)) (first_text_of Name tokens)
name_but_is other [] = refl
name_but_is other (token ∷ tokens) = name_passes (λ text. not (same_text text other)) token.lexeme

text_passes_also : (b : Bool) (test : Bytes → Bool) (text : Bytes) → ((b && test text) || false) ≡ passes test (if b || false then Some text else None)
text_passes_also true test text = or_none (test text)
text_passes_also false test text = refl

text_passes : (test : Bytes → Bool) (lexeme : Lexeme)
    → (text_is (λ text. is_literal text && test text) lexeme || false) ≡ passes test (if text_is is_literal lexeme || false then lexemes.text_of lexeme else None)
text_passes test (Word text) = refl
text_passes test (QuotedName text) = refl
text_passes test (Integer number) = refl
text_passes test (Text text) = text_passes_also (is_literal text) test text
text_passes test (Symbol symbol) = refl
text_passes test (Directive directive) = refl

pub in_code_is : (tokens : List PlacedLexeme) → begins (LiteralInCode ∷ []) tokens ≡ passes (λ text. not (holds (codes "$$") text)) (first_text_of Literal tokens)
in_code_is [] = refl
in_code_is (token ∷ tokens) = text_passes (λ text. not (holds (codes "$$") text)) token.lexeme

and_assoc : (a b c : Bool) → ((a && b) && c) ≡ (a && (b && c))
and_assoc true b c = refl
and_assoc false b c = refl

message_test : (lexeme : Lexeme) → text_is is_message lexeme ≡ text_is (λ text. is_literal text && (not (holds (codes "$$") text) && not (holds (codes "%") text))) lexeme
message_test (Word text) = refl
message_test (QuotedName text) = refl
message_test (Integer number) = refl
message_test (Text text) = and_assoc (is_literal text) (not (holds (codes "$$") text)) (not (holds (codes "%") text))
message_test (Symbol symbol) = refl
message_test (Directive directive) = refl

pub message_is : (tokens : List PlacedLexeme)
    → begins (Message ∷ []) tokens ≡ passes (λ text. not (holds (codes "$$") text) && not (holds (codes "%") text)) (first_text_of Literal tokens)
message_is [] = refl
message_is (token ∷ tokens) =
    ap (λ (b : Bool). b || false) (message_test token.lexeme) ∙ text_passes (λ text. not (holds (codes "$$") text) && not (holds (codes "%") text)) token.lexeme

-- ---- the code of an error

state_code_is_literal : (text : Bytes) → is_state_code text ≡ true → is_literal text ≡ true
state_code_is_literal text is =
    let (five, others) = and_parts (length text == 5) (list_all is_code_byte text && not (same_text (drop 2 text) (codes "000"))) is in
    ap (λ (n : ℕ). nat_le n 1000) (eqb-true (length text) 5 five)

-- the code that a text is
abbrev pub code_of : Option Bytes → Option Code
code_of None = None
code_of (Some text) = if is_state_code text then Some (record { 0 = text }) else None

no_code : (b : Bool) (code : Code) → (b ≡ true → false ≡ true) → None ≡ if b then Some code else None
no_code true code h = let e : false ≡ true = h refl in cc
no_code false code h = refl

code_of_literal : (b : Bool) (text : Bytes) → (is_state_code text ≡ true → b ≡ true)
    → code_of (if b || false then Some text else None) ≡ if is_state_code text then Some (record { 0 = text }) else None
code_of_literal true text h = refl
code_of_literal false text h = no_code (is_state_code text) (record { 0 = text }) h

code_here : (lexeme : Lexeme)
    → code_of (if text_is is_literal lexeme || false then lexemes.text_of lexeme else None)
    ≡ if is_of_kind StateCode lexeme then Some (record { 0 = lexeme_text lexeme }) else None
code_here (Word text) = refl
code_here (QuotedName text) = refl
code_here (Integer number) = refl
code_here (Text text) = code_of_literal (is_literal text) text (state_code_is_literal text)
code_here (Symbol symbol) = refl
code_here (Directive directive) = refl

pub code_is : (tokens : List PlacedLexeme) → code_of (first_text_of Literal tokens) ≡ first_code tokens
code_is [] = refl
code_is (token ∷ tokens) = code_here token.lexeme

-- what is read where a code is there
abbrev pub read_code : Option Code → List PlacedLexeme → Outcome Code
read_code None tokens = Stop Syntax tokens
read_code (Some code) tokens = Read code (drop 1 tokens)

code_chosen : (b : Bool) (code : Code) (token : PlacedLexeme) (rest : List PlacedLexeme)
    → read_code (if b then Some code else None) (token ∷ rest) ≡ if b then Read code rest else Stop Syntax (token ∷ rest)
code_chosen true code token rest = refl
code_chosen false code token rest = refl

pub code_is_read : (tokens : List PlacedLexeme) → read_code (first_code tokens) tokens ≡ read_token StateCode (λ token. record { 0 = text_of token }) tokens
code_is_read [] = refl
code_is_read (token ∷ rest) = code_chosen (fits StateCode token) (record { 0 = text_of token }) token rest

-- ---- numbers

bound : (number : ℕ) → nat_lt number (2 ^ 63) ≡ nat_le number 9223372036854775807
bound number = grind (arith, common_steps)

-- a number is the token, where it is small
pub small_is : (number : ℕ) → small number ≡ if nat_lt number (2 ^ 63) then Some (pos number) else None
small_is number = ap (λ (b : Bool). if b then Some (pos number) else None) (sym (bound number))

is_some_if : (b : Bool) (n : ℤ) → is_some (if b then Some n else None) ≡ (b || false)
is_some_if true n = refl
is_some_if false n = refl

number_here : (lexeme : Lexeme) → is_some (lexemes.integer_of lexeme) ≡ (is_of_kind Number lexeme || false)
number_here (Word text) = refl
number_here (QuotedName text) = refl
number_here (Integer number) = ap (λ (o : Option ℤ). is_some o) (small_is number) ∙ is_some_if (nat_lt number (2 ^ 63)) (pos number)
number_here (Text text) = refl
number_here (Symbol symbol) = refl
number_here (Directive directive) = refl

pub number_is : (tokens : List PlacedLexeme) → is_some (first_integer tokens) ≡ begins (Number ∷ []) tokens
number_is [] = refl
number_is (token ∷ tokens) = number_here token.lexeme

-- what is read where a number is there
abbrev pub read_number : Option ℤ → List PlacedLexeme → Outcome ℤ
read_number None tokens = Stop Syntax tokens
read_number (Some n) tokens = Read n (drop 1 tokens)

number_chosen : (b : Bool) (n : ℤ) (token : PlacedLexeme) (rest : List PlacedLexeme)
    → read_number (if b then Some n else None) (token ∷ rest) ≡ if b then Read n rest else Stop Syntax (token ∷ rest)
number_chosen true n token rest = refl
number_chosen false n token rest = refl

number_read : (lexeme : Lexeme) (token : PlacedLexeme) (rest : List PlacedLexeme)
    → read_number (lexemes.integer_of lexeme) (token ∷ rest) ≡ if is_of_kind Number lexeme then Read (pos (lexeme_number lexeme)) rest else Stop Syntax (token ∷ rest)
number_read (Word text) token rest = refl
number_read (QuotedName text) token rest = refl
number_read (Integer number) token rest =
    ap (λ (o : Option ℤ). read_number o (token ∷ rest)) (small_is number) ∙ number_chosen (nat_lt number (2 ^ 63)) (pos number) token rest
number_read (Text text) token rest = refl
number_read (Symbol symbol) token rest = refl
number_read (Directive directive) token rest = refl

pub number_is_read : (tokens : List PlacedLexeme) → read_number (first_integer tokens) tokens ≡ read_token Number (λ token. pos (number_of token)) tokens
number_is_read [] = refl
number_is_read (token ∷ rest) = number_read token.lexeme token rest

abbrev pub read_count : Option ℕ → List PlacedLexeme → Outcome ℕ
read_count None tokens = Stop Syntax tokens
read_count (Some n) tokens = Read n (drop 1 tokens)

count_chosen : (b : Bool) (token : PlacedLexeme) (rest : List PlacedLexeme)
    → read_count (if b then Some (number_of token) else None) (token ∷ rest) ≡ if b then Read (number_of token) rest else Stop Syntax (token ∷ rest)
count_chosen true token rest = refl
count_chosen false token rest = refl

pub count_is_read : (tokens : List PlacedLexeme) → read_count (first_count tokens) tokens ≡ read_token Count number_of tokens
count_is_read [] = refl
count_is_read (token ∷ rest) = count_chosen (fits Count token) token rest

-- the number, where it is above 0
abbrev pub above_zero : Option ℤ → Option ℕ
above_zero None = None
above_zero (Some n) = if lt_z (pos 0) n then Some (nat_abs n) else None

above_in : (b : Bool) (number : ℕ) → (if b then Some number else None) ≡ if b && true then Some number else None
above_in true number = refl
above_in false number = refl

none_if : (b : Bool) (number : ℕ) → ◌≡◌ {A = Option ℕ} None (if b && false then Some number else None)
none_if true number = refl
none_if false number = refl

above_if : (b : Bool) (number : ℕ) → above_zero (if b then Some (pos number) else None) ≡ if nat_lt 0 number && b then Some number else None
above_if true number = above_in (nat_lt 0 number) number
above_if false number = none_if (nat_lt 0 number) number

count_here : (lexeme : Lexeme) → above_zero (lexemes.integer_of lexeme) ≡ if is_of_kind Count lexeme then Some (lexeme_number lexeme) else None
count_here (Word text) = refl
count_here (QuotedName text) = refl
count_here (Integer number) = ap (λ (o : Option ℤ). above_zero o) (small_is number) ∙ above_if (nat_lt number (2 ^ 63)) number
count_here (Text text) = refl
count_here (Symbol symbol) = refl
count_here (Directive directive) = refl

pub count_is : (tokens : List PlacedLexeme) → above_zero (first_integer tokens) ≡ first_count tokens
count_is [] = refl
count_is (token ∷ tokens) = count_here token.lexeme

-- ---- one kind

pub one_kind : (kind : Terminal) (tokens : List PlacedLexeme) → begins (kind ∷ []) tokens ≡ begin_with (kind ∷ []) tokens
one_kind kind [] = refl
one_kind kind (token ∷ tokens) = or_none (fits kind token) ∙ sym (and_all (fits kind token))
  where
    and_all : (b : Bool) → (b && true) ≡ b
    and_all true = refl
    and_all false = refl
