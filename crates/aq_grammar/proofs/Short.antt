-- No token of a form is a name, a number or a text that is too long.
use Rattle.std.proofs.Common.{◌≡◌, ℕ, zero, suc, Bool, true, false, not, ◌&&◌, ◌==◌, ◌^◌, List, [], ◌∷◌, ◌++◌, length, drop, nat_le, ap, if◌then◌else◌, Some, None, refl, sym, subst, inl, inr, nat_lt}
use Rattle.std.proofs.lemmas.Bool.{and_parts, or_cases, eqb-true}
use Rattle.aq_base.specs.Names.{Text as Bytes, same_text, is_reserved, is_short}
use Rattle.aq_base.specs.declared.fault.SqlFault.{SqlFault}
use Rattle.aq_lex.specs.Lexemes.{PlacedLexeme, Lexeme, Word, QuotedName, Integer, Text, Symbol, Directive}
use Rattle.aq_grammar.specs.Terminals.{Terminal, Keyword, Name, NameOf, NameBut, PlainName, Number, Count, Literal, LiteralInCode, Message, StateCode, Sign, Heading, fits, is_of_kind, is_name_word, is_literal, is_literal_in_code, is_code_byte, holds, is_of, text_of}
use Rattle.std.specs.Prelude.{codes}
use Rattle.std.specs.List.{list_all}
use Rattle.aq_grammar.specs.Rules.{Nonterminal, ValueOf, Refusal, Rule, Done, Token, Both, Either, Many, Differing, Call, Unless, Limited, Form, Bar, IsRefused, BarsNext, SpellsToken, SpellsBoth, SpellsEach, SpellsOther, SpellsBy, BarsBy}
use Rattle.aq_grammar.specs.Sets.{Marks, heads, have_words, is_fit_by}
use Rattle.aq_grammar.specs.Calls.{Rules, AreFit, CalledWithin, Called, BarredWithin, BarsCalled}
use Rattle.aq_grammar.specs.Places.{own_fault, long_name, long_text, out_of_range}
use Rattle.aq_grammar.proofs.Apart.{same_text_is}
use Rattle.aq_grammar.proofs.Keeping.{refusals_open, fit_both, fit_either, fit_many, fit_differing, fit_unless, fit_limited}

abbrev pub IsShort : PlacedLexeme → Type 0
IsShort token = own_fault token.lexeme ≡ None

abbrev pub AreShort : List PlacedLexeme → Type 0
AreShort [] = Unit {0}
AreShort (token ∷ tokens) = IsShort token × AreShort tokens

pub short_both : (u v : List PlacedLexeme) → AreShort u → AreShort v → AreShort (u ++ v)
short_both [] v a b = b
short_both (token ∷ u) v a b = (a.0, short_both u v a.1 b)

pub short_front : (u v : List PlacedLexeme) → AreShort (u ++ v) → AreShort u
short_front [] v a = tt
short_front (token ∷ u) v a = (a.0, short_front u v a.1)

pub short_next : (u v : List PlacedLexeme) (token : PlacedLexeme) → AreShort (u ++ token ∷ v) → IsShort token
short_next [] v token a = a.0
short_next (other ∷ u) v token a = short_next u v token a.1

-- ---- the kinds of tokens: a word that a rule names is short

abbrev pub is_short_kind : Terminal → Bool
is_short_kind (Keyword word) = is_short word
is_short_kind Name = true
is_short_kind (NameOf name) = true
is_short_kind (NameBut name) = true
is_short_kind PlainName = true
is_short_kind Number = true
is_short_kind Count = true
is_short_kind Literal = true
is_short_kind LiteralInCode = true
is_short_kind Message = true
is_short_kind StateCode = true
is_short_kind (Sign symbol) = true
is_short_kind (Heading directive) = true

short_if : (test : Bool) (fault : SqlFault) → test ≡ true → (if test then None else Some fault) ≡ None
short_if true fault e = refl
short_if false fault e = cc

keyword_short : (word : Bytes) (lexeme : Lexeme) → is_short word ≡ true → is_of_kind (Keyword word) lexeme ≡ true → own_fault lexeme ≡ None
keyword_short word (Word text) short is = short_if (is_short text) (long_name text) (subst (λ (w : Bytes). is_short w ≡ true) (sym (same_text_is text word is)) short)
keyword_short word (QuotedName text) short is = cc
keyword_short word (Integer number) short is = cc
keyword_short word (Text text) short is = cc
keyword_short word (Symbol symbol) short is = cc
keyword_short word (Directive directive) short is = cc

word_short : (text : Bytes) (test : Bool) → (is_name_word text && test) ≡ true → own_fault (Word text) ≡ None
word_short text test is = short_if (is_short text) (long_name text) (and_parts (is_short text) (not (is_reserved text)) (and_parts (is_name_word text) test is).0).0

quoted_short : (text : Bytes) (test : Bool) → (is_short text && test) ≡ true → own_fault (QuotedName text) ≡ None
quoted_short text test is = short_if (is_short text) (long_name text) (and_parts (is_short text) test is).0

name_short : (lexeme : Lexeme) → is_of_kind Name lexeme ≡ true → own_fault lexeme ≡ None
name_short (Word text) is = word_short text true is
name_short (QuotedName text) is = quoted_short text true is
name_short lexeme is = cc

name_of_short : (name : Bytes) (lexeme : Lexeme) → is_of_kind (NameOf name) lexeme ≡ true → own_fault lexeme ≡ None
name_of_short name (Word text) is = word_short text (same_text text name) is
name_of_short name (QuotedName text) is = quoted_short text (same_text text name) is
name_of_short name lexeme is = cc

name_but_short : (name : Bytes) (lexeme : Lexeme) → is_of_kind (NameBut name) lexeme ≡ true → own_fault lexeme ≡ None
name_but_short name (Word text) is = word_short text (not (same_text text name)) is
name_but_short name (QuotedName text) is = quoted_short text (not (same_text text name)) is
name_but_short name lexeme is = cc

plain_name_short : (lexeme : Lexeme) → is_of_kind PlainName lexeme ≡ true → own_fault lexeme ≡ None
plain_name_short (Word text) is = short_if (is_short text) (long_name text) (and_parts (is_short text) (not (is_reserved text)) is).0
plain_name_short lexeme is = cc

number_short : (lexeme : Lexeme) → is_of_kind Number lexeme ≡ true → own_fault lexeme ≡ None
number_short (Integer number) is = short_if (nat_lt number (2 ^ 63)) out_of_range is
number_short lexeme is = cc

count_short : (lexeme : Lexeme) → is_of_kind Count lexeme ≡ true → own_fault lexeme ≡ None
count_short (Integer number) is = short_if (nat_lt number (2 ^ 63)) out_of_range (and_parts (nat_lt 0 number) (nat_lt number (2 ^ 63)) is).1
count_short lexeme is = cc

literal_short : (lexeme : Lexeme) → is_of_kind Literal lexeme ≡ true → own_fault lexeme ≡ None
literal_short (Text text) is = short_if (is_literal text) long_text is
literal_short lexeme is = cc

literal_in_code_short : (lexeme : Lexeme) → is_of_kind LiteralInCode lexeme ≡ true → own_fault lexeme ≡ None
literal_in_code_short (Text text) is = short_if (is_literal text) long_text (and_parts (is_literal text) (not (holds (codes "$$") text)) is).0
literal_in_code_short lexeme is = cc

message_short : (lexeme : Lexeme) → is_of_kind Message lexeme ≡ true → own_fault lexeme ≡ None
message_short (Text text) is = literal_in_code_short (Text text) (and_parts (is_literal_in_code text) (not (holds (codes "%") text)) is).0
message_short lexeme is = cc

state_code_short : (lexeme : Lexeme) → is_of_kind StateCode lexeme ≡ true → own_fault lexeme ≡ None
state_code_short (Text text) is =
    let (five, others) = and_parts (length text == 5) (list_all is_code_byte text && not (same_text (drop 2 text) (codes "000"))) is in
    short_if (is_literal text) long_text (ap (λ (n : ℕ). nat_le n 1000) (eqb-true (length text) 5 five))
state_code_short lexeme is = cc

lexeme_short : (lexeme : Lexeme) (kind : Terminal) → is_of_kind kind lexeme ≡ true → is_short_kind kind ≡ true → own_fault lexeme ≡ None
lexeme_short lexeme (Keyword word) is short = keyword_short word lexeme short is
lexeme_short lexeme Name is short = name_short lexeme is
lexeme_short lexeme (NameOf name) is short = name_of_short name lexeme is
lexeme_short lexeme (NameBut name) is short = name_but_short name lexeme is
lexeme_short lexeme PlainName is short = plain_name_short lexeme is
lexeme_short lexeme Number is short = number_short lexeme is
lexeme_short lexeme Count is short = count_short lexeme is
lexeme_short lexeme Literal is short = literal_short lexeme is
lexeme_short lexeme LiteralInCode is short = literal_in_code_short lexeme is
lexeme_short lexeme Message is short = message_short lexeme is
lexeme_short lexeme StateCode is short = state_code_short lexeme is
lexeme_short (Symbol found) (Sign symbol) is short = refl
lexeme_short (Directive found) (Heading directive) is short = refl
lexeme_short lexeme (Sign symbol) is short = cc
lexeme_short lexeme (Heading directive) is short = cc

pub kind_short : (kind : Terminal) (token : PlacedLexeme) → is_short_kind kind ≡ true → fits kind token ≡ true → IsShort token
kind_short kind token short is = lexeme_short token.lexeme kind is short

abbrev pub are_short_kinds : List Terminal → Bool
are_short_kinds kinds = list_all is_short_kind kinds

pub kinds_short : (kinds : List Terminal) (token : PlacedLexeme) → are_short_kinds kinds ≡ true → is_of kinds token ≡ true → IsShort token
kinds_short [] token short is = cc
kinds_short (kind ∷ kinds) token short is =
    let (first, others) = and_parts (is_short_kind kind) (are_short_kinds kinds) short in
    elim (or_cases (fits kind token) (is_of kinds token) is) [
      | inl e ↦ kind_short kind token first e
      | inr e ↦ kinds_short kinds token others e
    ]

-- ---- the words that a rule names are short, and those with which it refuses

abbrev pub has_short_words : {A : Type 0} → Rule A → Bool
has_short_words (Done x) = true
has_short_words (Token kind f) = is_short_kind kind
has_short_words (Both f a b) = has_short_words a && has_short_words b
has_short_words (Either kinds a b) = has_short_words a && has_short_words b
has_short_words (Many kinds refusals f a) = are_short_kinds (heads refusals) && has_short_words a
has_short_words (Differing f a name kinds b) = has_short_words a && has_short_words b
has_short_words (Call nonterminal f) = true
has_short_words (Unless refusals a) = are_short_kinds (heads refusals) && has_short_words a
has_short_words (Limited most limit a) = has_short_words a

-- each token of a form is short
abbrev pub SpellsShort : {A : Type 0} → Form A → Type 0
SpellsShort {A} Spelled = (x : A) (u : List PlacedLexeme) → Spelled x u → AreShort u

pub short_token : {A : Type 0} (kind : Terminal) (f : PlacedLexeme → A) → is_short_kind kind ≡ true → SpellsShort (SpellsToken kind f)
short_token kind f short x u (token, fit, is, e) = subst AreShort (sym e) (kind_short kind token short fit, tt)

pub short_of_both : {A B C : Type 0} (f : A → B → C) (First : Form A) (Second : A → Form B) → SpellsShort First → ((x : A) → SpellsShort (Second x))
    → SpellsShort (SpellsBoth f First Second)
short_of_both f First Second first second y u (front, behind, x, z, h, k, e, is) = subst AreShort (sym e) (short_both front behind (first x front h) (second x z behind k))

pub short_of_each : {A : Type 0} (Spelled : Form A) → SpellsShort Spelled → SpellsShort (SpellsEach Spelled)
short_of_each Spelled short [] u e = subst AreShort (sym e) tt
short_of_each Spelled short (x ∷ xs) u (front, behind, h, k, e) = subst AreShort (sym e) (short_both front behind (short x front h) (short_of_each Spelled short xs behind k))

short_other : {B : Type 0} (Spelled : Form B) (name : Bytes) → SpellsShort Spelled → SpellsShort (SpellsOther Spelled name)
short_other Spelled name short y u (inl s) = subst AreShort (sym s.1) tt
short_other Spelled name short y u (inr s) = short_of_both (λ b text. Some text) Spelled (λ b. SpellsToken (NameBut name) text_of) short (λ b. short_token (NameBut name) text_of refl) y u s

module _ (calls : (n : Nonterminal) → Form (ValueOf n)) (short : (n : Nonterminal) → SpellsShort (calls n)) where
  pub short_by : {A : Type 0} (r : Rule A) → has_short_words r ≡ true → SpellsShort (SpellsBy calls r)
  short_by (Done y) words x u s = subst AreShort (sym s.1) tt
  short_by (Token kind f) words x u s = short_token kind f words x u s
  short_by (Both f a b) words x u s =
      let (first, second) = and_parts (has_short_words a) (has_short_words b) words in
      short_of_both f (SpellsBy calls a) (λ y. SpellsBy calls b) (short_by a first) (λ y. short_by b second) x u s
  short_by (Either kinds a b) words x u (inl s) = short_by a (and_parts (has_short_words a) (has_short_words b) words).0 x u s
  short_by (Either kinds a b) words x u (inr s) = short_by b (and_parts (has_short_words a) (has_short_words b) words).1 x u s
  short_by (Many kinds refusals f a) words x u (xs, s, e) =
      short_of_each (SpellsBy calls a) (short_by a (and_parts (are_short_kinds (heads refusals)) (has_short_words a) words).1) xs u s
  short_by (Differing f a name kinds b) words x u s =
      let (first, second) = and_parts (has_short_words a) (has_short_words b) words in
      short_of_both f (SpellsBy calls a) (λ y. SpellsOther (SpellsBy calls b) (name y)) (short_by a first) (λ y. short_other (SpellsBy calls b) (name y) (short_by b second)) x u s
  short_by (Call nonterminal f) words x u s = short nonterminal s.0 u s.1
  short_by (Unless refusals a) words x u s = short_by a (and_parts (are_short_kinds (heads refusals)) (has_short_words a) words).1 x u s
  short_by (Limited most limit a) words x u s = short_by a words x u s

module _ (rules : Rules) (words : (n : Nonterminal) → has_short_words (rules n) ≡ true) where
  short_within : (most : ℕ) (n : Nonterminal) → SpellsShort (CalledWithin rules most n)
  short_within zero n x u s = absurd s
  short_within (suc most) n x u s = short_by (CalledWithin rules most) (short_within most) (rules n) (words n) x u s

  -- each token of a rule over the nonterminals is short
  pub short_rule : {A : Type 0} (r : Rule A) → has_short_words r ≡ true → SpellsShort (SpellsBy (Called rules) r)
  short_rule r is = short_by (Called rules) (λ n x u s. short_within s.0 n x u s.1) r is

-- ---- what is refused is short too

-- the first token of what is refused is short
abbrev pub BarsShort : Bar → Type 0
BarsShort bars = (u : List PlacedLexeme) (token : PlacedLexeme) (rest : List PlacedLexeme) (fault : SqlFault) → bars u (token ∷ rest) fault → IsShort token

pub refusals_short : (refusals : List Refusal) (token : PlacedLexeme) (rest : List PlacedLexeme) (fault : SqlFault) → are_short_kinds (heads refusals) ≡ true
    → have_words refusals ≡ true → IsRefused refusals (token ∷ rest) fault → IsShort token
refusals_short refusals token rest fault short worded is = kinds_short (heads refusals) token short (refusals_open refusals (token ∷ rest) fault worded is)

next_short : {A : Type 0} (most : ℕ) (limit : SqlFault) (Spelled : Form A) → SpellsShort Spelled → BarsShort (BarsNext most limit Spelled)
next_short most limit Spelled short [] token rest fault bar = absurd bar
next_short most limit Spelled short (first ∷ others) token rest fault (e, (behind, x, s), is) =
    short_next (first ∷ others) [] token (short_front (first ∷ others ++ token ∷ []) behind (short x ((first ∷ others ++ token ∷ []) ++ behind) s))

module _ (calls : (n : Nonterminal) → Form (ValueOf n)) (bars : Nonterminal → Bar) (marks : Nonterminal → Marks) (short : (n : Nonterminal) → SpellsShort (calls n))
    (barred : (n : Nonterminal) → BarsShort (bars n)) where
  pub barred_short_by : {A : Type 0} (r : Rule A) → is_fit_by marks r ≡ true → has_short_words r ≡ true → BarsShort (BarsBy calls bars r)
  barred_short_by (Done x) fit words u token rest fault bar = absurd bar
  barred_short_by (Token kind f) fit words u token rest fault bar = absurd bar
  barred_short_by (Both f a b) fit words u token rest fault (inl bar) =
      barred_short_by a (fit_both marks f a b fit).0 (and_parts (has_short_words a) (has_short_words b) words).0 u token rest fault bar
  barred_short_by (Both f a b) fit words u token rest fault (inr bar) =
      barred_short_by b (fit_both marks f a b fit).1 (and_parts (has_short_words a) (has_short_words b) words).1 bar.1 token rest fault bar.5
  barred_short_by (Either kinds a b) fit words u token rest fault (inl bar) =
      barred_short_by a (fit_either marks kinds a b fit).0 (and_parts (has_short_words a) (has_short_words b) words).0 u token rest fault bar
  barred_short_by (Either kinds a b) fit words u token rest fault (inr bar) =
      barred_short_by b (fit_either marks kinds a b fit).1 (and_parts (has_short_words a) (has_short_words b) words).1 u token rest fault bar
  barred_short_by (Many kinds refusals f a) fit words u token rest fault (front, behind, xs, s, e, inl bar) =
      barred_short_by a (fit_many marks kinds refusals f a fit).0 (and_parts (are_short_kinds (heads refusals)) (has_short_words a) words).1 behind token rest fault bar
  barred_short_by (Many kinds refusals f a) fit words u token rest fault (front, behind, xs, s, e, inr here) =
      refusals_short refusals token rest fault (and_parts (are_short_kinds (heads refusals)) (has_short_words a) words).0 (fit_many marks kinds refusals f a fit).1.worded here.1
  barred_short_by (Differing f a name kinds b) fit words u token rest fault (inl bar) =
      barred_short_by a (fit_differing marks f a name kinds b fit).0 (and_parts (has_short_words a) (has_short_words b) words).0 u token rest fault bar
  barred_short_by (Differing f a name kinds b) fit words u token rest fault (inr bar) =
      barred_short_by b (fit_differing marks f a name kinds b fit).1 (and_parts (has_short_words a) (has_short_words b) words).1 bar.1 token rest fault bar.5
  barred_short_by (Call nonterminal f) fit words u token rest fault bar = barred nonterminal u token rest fault bar
  barred_short_by (Unless refusals a) fit words u token rest fault (inl here) =
      refusals_short refusals token rest fault (and_parts (are_short_kinds (heads refusals)) (has_short_words a) words).0 (fit_unless marks refusals a fit).1 here.1
  barred_short_by (Unless refusals a) fit words u token rest fault (inr bar) =
      barred_short_by a (fit_unless marks refusals a fit).0 (and_parts (are_short_kinds (heads refusals)) (has_short_words a) words).1 u token rest fault bar
  barred_short_by (Limited most limit a) fit words u token rest fault (inl bar) =
      next_short most limit (SpellsBy calls a) (short_by calls short a words) u token rest fault bar
  barred_short_by (Limited most limit a) fit words u token rest fault (inr bar) = barred_short_by a (fit_limited marks most limit a fit).0 words u token rest fault bar

module _ (rules : Rules) (marks : Nonterminal → Marks) (fits : AreFit rules marks) (words : (n : Nonterminal) → has_short_words (rules n) ≡ true) where
  called_short : (n : Nonterminal) → SpellsShort (Called rules n)
  called_short n x u s = short_within rules words s.0 n x u s.1

  within_barred_short : (most : ℕ) (n : Nonterminal) → BarsShort (BarredWithin rules most n)
  within_barred_short zero n u token rest fault bar = absurd bar
  within_barred_short (suc most) n u token rest fault bar =
      barred_short_by (Called rules) (BarredWithin rules most) marks called_short (within_barred_short most) (rules n) (fits.fit n) (words n) u token rest fault bar

  -- what a rule over the nonterminals refuses is short
  pub barred_short_rule : {A : Type 0} (r : Rule A) → is_fit_by marks r ≡ true → has_short_words r ≡ true → BarsShort (BarsBy (Called rules) (BarsCalled rules) r)
  barred_short_rule r fit is u token rest fault bar =
      barred_short_by (Called rules) (BarsCalled rules) marks called_short (λ n v other behind why b. within_barred_short b.0 n v other behind why b.1) r fit is u token rest fault bar
