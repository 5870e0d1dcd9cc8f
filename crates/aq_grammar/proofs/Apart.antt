-- Kinds of tokens: no token is of two kinds that stand apart, and each kind has a token.
use Rattle.std.proofs.Common.{◌≡◌, ℕ, Bool, true, false, not, ◌&&◌, ◌||◌, List, [], ◌∷◌, ◌++◌, ◌==◌, codes, refl, sym, ap, ap₂, ◌∙◌, ◌⊎◌, inl, inr}
use Rattle.std.specs.List.{list_all}
use Rattle.std.proofs.lemmas.Bool.{both_ways, not-true, and_parts, and_from, or_cases, or_left, or_right, eqb-true, eq-eqb}
use Rattle.std.proofs.lemmas.List.Folds.{list_any-append}
use Rattle.std.proofs.lemmas.Slice.Eq.{bytes_eq-Decides}
use Rattle.aq_base.specs.Names.{Text as Bytes, same_text, is_short}
use Rattle.aq_lex.specs.declared.token.Symbol.{Symbol}
use Rattle.aq_lex.specs.declared.token.Directive.{Directive as DirectiveName}
use Rattle.aq_lex.specs.Lexemes.{PlacedLexeme, Lexeme, Word, QuotedName, Integer, Text, Symbol as Mark, Directive, is_word}
use Rattle.aq_grammar.specs.Terminals.{Terminal, Keyword, Name, NameOf, NameBut, Number, Literal, LiteralInCode, Message, StateCode, Sign, symbol_number, same_symbol, is_name_word, name_is, number_is, text_is, symbol_is, fits, is_of_kind, PlainName, Count, Heading, is_plain_name, directive_is, directive_number, same_directive, is_of, begins}
use Rattle.aq_grammar.specs.Sets.{apart_from_keyword, apart_from_names, apart_from_name, apart_from_other_names, apart_from_numbers, apart_from_texts, apart_from_sign, apart_from_heading, is_apart, are_apart, same_kind, same_kinds, no_kinds, is_possible}

pub same_text_is : (a b : Bytes) → same_text a b ≡ true → a ≡ b
same_text_is a b e = (bytes_eq-Decides a b).0 e

pub same_text_itself : (a : Bytes) → same_text a a ≡ true
same_text_itself a = (bytes_eq-Decides a a).1 refl

pub not_both : (b : Bool) → not b ≡ true → b ≡ true → ⊥
not_both b h k = both_ways b (not-true b h) k

-- one text is the text of two
same_third : (text a b : Bytes) → same_text text a ≡ true → same_text text b ≡ true → same_text a b ≡ true
same_third text a b h k = (bytes_eq-Decides a b).1 (sym (same_text_is text a h) ∙ same_text_is text b k)

is_not_third : (text a b : Bytes) → not (same_text a b) ≡ true → same_text text a ≡ true → same_text text b ≡ true → ⊥
is_not_third text a b n h k = not_both (same_text a b) n (same_third text a b h k)

no_name_word : (text word : Bytes) → not (is_name_word word) ≡ true → same_text text word ≡ true → is_name_word text ≡ true → ⊥
no_name_word text word n h k = not_both (is_name_word word) n (sym (ap is_name_word (same_text_is text word h)) ∙ k)

no_such_word : (text word name : Bytes) → (not (is_name_word word) || not (same_text word name)) ≡ true → same_text text word ≡ true
    → (is_name_word text && same_text text name) ≡ true → ⊥
no_such_word text word name n h k =
    let (is_name, is_same) = and_parts (is_name_word text) (same_text text name) k in
    elim (or_cases (not (is_name_word word)) (not (same_text word name)) n) [
      | inl m ↦ no_name_word text word m h is_name
      | inr m ↦ is_not_third text word name m h is_same
    ]

apart_word : (word : Bytes) (kind : Terminal) (token : Lexeme) → apart_from_keyword word kind ≡ true → is_word word token ≡ true → is_of_kind kind token ≡ true → ⊥
apart_word word (Keyword other) (Word text) n h k = is_not_third text word other n h k
apart_word word Name (Word text) n h k = no_name_word text word n h (and_parts (is_name_word text) true k).0
apart_word word (NameOf name) (Word text) n h k = no_such_word text word name n h k
apart_word word (NameBut name) (Word text) n h k = no_name_word text word n h (and_parts (is_name_word text) (not (same_text text name)) k).0
apart_word word PlainName (Word text) n h k = no_name_word text word n h k
apart_word word kind (Word text) n h k = cc
apart_word word kind token n h k = cc

keyword_is_no_name : (word : Bytes) (test : Bytes → Bool) (token : Lexeme) → not (is_name_word word) ≡ true → is_word word token ≡ true → name_is test token ≡ true → ⊥
keyword_is_no_name word test (Word text) n h k = no_name_word text word n h (and_parts (is_name_word text) (test text) k).0
keyword_is_no_name word test token n h k = cc

keyword_is_no_such_name : (word name : Bytes) (token : Lexeme) → (not (is_name_word word) || not (same_text word name)) ≡ true → is_word word token ≡ true
    → name_is (λ text. same_text text name) token ≡ true → ⊥
keyword_is_no_such_name word name (Word text) n h k = no_such_word text word name n h k
keyword_is_no_such_name word name token n h k = cc

-- a name has one text
names_differ : (test other : Bytes → Bool) (token : Lexeme) → ((text : Bytes) → test text ≡ true → other text ≡ true → ⊥) → name_is test token ≡ true
    → name_is other token ≡ true → ⊥
names_differ test other (Word text) n h k = n text (and_parts (is_name_word text) (test text) h).1 (and_parts (is_name_word text) (other text) k).1
names_differ test other (QuotedName text) n h k = n text (and_parts (is_short text) (test text) h).1 (and_parts (is_short text) (other text) k).1
names_differ test other token n h k = cc

apart_names : (kind : Terminal) (token : Lexeme) → apart_from_names kind ≡ true → name_is (λ text. true) token ≡ true → is_of_kind kind token ≡ true → ⊥
apart_names (Keyword word) token n h k = keyword_is_no_name word (λ text. true) token n k h
apart_names kind (Word text) n h k = cc
apart_names kind token n h k = cc

apart_name : (name : Bytes) (kind : Terminal) (token : Lexeme) → apart_from_name name kind ≡ true → name_is (λ text. same_text text name) token ≡ true
    → is_of_kind kind token ≡ true → ⊥
apart_name name (Keyword word) token n h k = keyword_is_no_such_name word name token n k h
apart_name name (NameOf other) token n h k = names_differ _ _ token (λ text. is_not_third text name other n) h k
apart_name name (NameBut other) token n h k =
    names_differ _ _ token (λ text e d. not_both (same_text text other) d ((bytes_eq-Decides text other).1 (same_text_is text name e ∙ same_text_is name other n))) h k
apart_name name kind (Word text) n h k = cc
apart_name name kind token n h k = cc

apart_other_names : (other : Bytes) (kind : Terminal) (token : Lexeme) → apart_from_other_names other kind ≡ true
    → name_is (λ text. not (same_text text other)) token ≡ true → is_of_kind kind token ≡ true → ⊥
apart_other_names other (Keyword word) token n h k = keyword_is_no_name word _ token n k h
apart_other_names other (NameOf name) token n h k = apart_name name (NameBut other) token n k h
apart_other_names other kind (Word text) n h k = cc
apart_other_names other kind token n h k = cc

apart_numbers : (test : ℕ → Bool) (kind : Terminal) (token : Lexeme) → apart_from_numbers kind ≡ true → number_is test token ≡ true → is_of_kind kind token ≡ true → ⊥
apart_numbers test Number (Integer number) n h k = cc
apart_numbers test kind (Integer number) n h k = cc
apart_numbers test kind token n h k = cc

apart_texts : (test : Bytes → Bool) (kind : Terminal) (token : Lexeme) → apart_from_texts kind ≡ true → text_is test token ≡ true → is_of_kind kind token ≡ true → ⊥
apart_texts test Literal (Text text) n h k = cc
apart_texts test kind (Text text) n h k = cc
apart_texts test kind token n h k = cc

apart_sign : (sign : Symbol) (kind : Terminal) (token : Lexeme) → apart_from_sign sign kind ≡ true → symbol_is sign token ≡ true → is_of_kind kind token ≡ true → ⊥
apart_sign sign (Sign other) (Mark symbol) n h k =
    let numbered = eqb-true (symbol_number symbol) (symbol_number sign) h in
    not_both (same_symbol sign other) n (eq-eqb _ _ (sym numbered ∙ eqb-true (symbol_number symbol) (symbol_number other) k))
apart_sign sign kind (Mark symbol) n h k = cc
apart_sign sign kind token n h k = cc

apart_heading : (heading : DirectiveName) (kind : Terminal) (token : Lexeme) → apart_from_heading heading kind ≡ true → directive_is heading token ≡ true → is_of_kind kind token ≡ true → ⊥
apart_heading heading (Heading other) (Directive directive) n h k =
    let numbered = eqb-true (directive_number directive) (directive_number heading) h in
    not_both (same_directive heading other) n (eq-eqb _ _ (sym numbered ∙ eqb-true (directive_number directive) (directive_number other) k))
apart_heading heading kind (Directive directive) n h k = cc
apart_heading heading kind token n h k = cc

plain_name_is_name : (token : Lexeme) → is_plain_name token ≡ true → name_is (λ text. true) token ≡ true
plain_name_is_name (Word text) h = and_from (is_name_word text) true h refl
plain_name_is_name token h = cc

-- no lexeme is of both kinds
kinds_apart : (kind other : Terminal) (token : Lexeme) → is_apart kind other ≡ true → is_of_kind kind token ≡ true → is_of_kind other token ≡ true → ⊥
kinds_apart (Keyword word) other token n h k = apart_word word other token n h k
kinds_apart Name other token n h k = apart_names other token n h k
kinds_apart (NameOf name) other token n h k = apart_name name other token n h k
kinds_apart (NameBut name) other token n h k = apart_other_names name other token n h k
kinds_apart PlainName other token n h k = apart_names other token n (plain_name_is_name token h) k
kinds_apart Number other token n h k = apart_numbers _ other token n h k
kinds_apart Count other token n h k = apart_numbers _ other token n h k
kinds_apart (Heading directive) other token n h k = apart_heading directive other token n h k
kinds_apart Literal other token n h k = apart_texts _ other token n h k
kinds_apart LiteralInCode other token n h k = apart_texts _ other token n h k
kinds_apart Message other token n h k = apart_texts _ other token n h k
kinds_apart StateCode other token n h k = apart_texts _ other token n h k
kinds_apart (Sign symbol) other token n h k = apart_sign symbol other token n h k

-- no token is of both kinds
pub is_apart_sound : (kind other : Terminal) (token : PlacedLexeme) → is_apart kind other ≡ true → fits kind token ≡ true → fits other token ≡ true → ⊥
is_apart_sound kind other token n h k = kinds_apart kind other token.lexeme n h k

one_apart : (kind : Terminal) (others : List Terminal) (token : PlacedLexeme) → list_all (is_apart kind) others ≡ true → fits kind token ≡ true → is_of others token ≡ true → ⊥
one_apart kind [] token n h k = cc
one_apart kind (other ∷ others) token n h k =
    let (first, rest) = and_parts (is_apart kind other) (list_all (is_apart kind) others) n in
    elim (or_cases (fits other token) (is_of others token) k) [
      | inl e ↦ is_apart_sound kind other token first h e
      | inr e ↦ one_apart kind others token rest h e
    ]

-- no token is of a kind of both lists
pub are_apart_sound : (kinds others : List Terminal) (token : PlacedLexeme) → are_apart kinds others ≡ true → is_of kinds token ≡ true → is_of others token ≡ true → ⊥
are_apart_sound [] others token n h k = cc
are_apart_sound (kind ∷ kinds) others token n h k =
    let (first, rest) = and_parts (list_all (is_apart kind) others) (are_apart kinds others) n in
    elim (or_cases (fits kind token) (is_of kinds token) h) [
      | inl e ↦ one_apart kind others token first e k
      | inr e ↦ are_apart_sound kinds others token rest e k
    ]

-- two kinds that are written alike have the same tokens
same_kind_of : (kind other : Terminal) (token : Lexeme) → same_kind kind other ≡ true → is_of_kind kind token ≡ is_of_kind other token
same_kind_of (Keyword word) (Keyword other) token e = ap (λ (text : Bytes). is_word text token) (same_text_is word other e)
same_kind_of Name Name token e = refl
same_kind_of (NameOf name) (NameOf other) token e = ap (λ (text : Bytes). is_of_kind (NameOf text) token) (same_text_is name other e)
same_kind_of (NameBut name) (NameBut other) token e = ap (λ (text : Bytes). is_of_kind (NameBut text) token) (same_text_is name other e)
same_kind_of PlainName PlainName token e = refl
same_kind_of Count Count token e = refl
same_kind_of (Heading directive) (Heading other) (Directive mark) e = ap (λ (number : ℕ). directive_number mark == number) (eqb-true (directive_number directive) (directive_number other) e)
same_kind_of (Heading directive) (Heading other) token e = refl
same_kind_of Number Number token e = refl
same_kind_of Literal Literal token e = refl
same_kind_of LiteralInCode LiteralInCode token e = refl
same_kind_of Message Message token e = refl
same_kind_of StateCode StateCode token e = refl
same_kind_of (Sign symbol) (Sign other) (Mark mark) e = ap (λ (number : ℕ). symbol_number mark == number) (eqb-true (symbol_number symbol) (symbol_number other) e)
same_kind_of (Sign symbol) (Sign other) token e = refl
same_kind_of kind other token e = cc

pub same_kind_fits : (kind other : Terminal) (token : PlacedLexeme) → same_kind kind other ≡ true → fits kind token ≡ fits other token
same_kind_fits kind other token e = same_kind_of kind other token.lexeme e

pub same_kinds_sound : (kinds others : List Terminal) (token : PlacedLexeme) → same_kinds kinds others ≡ true → is_of kinds token ≡ is_of others token
same_kinds_sound [] [] token e = refl
same_kinds_sound [] (other ∷ others) token e = cc
same_kinds_sound (kind ∷ kinds) [] token e = cc
same_kinds_sound (kind ∷ kinds) (other ∷ others) token e =
    let (first, rest) = and_parts (same_kind kind other) (same_kinds kinds others) e in
    ap₂ ◌||◌ (same_kind_fits kind other token first) (same_kinds_sound kinds others token rest)

pub same_kinds_begin : (kinds others : List Terminal) (tokens : List PlacedLexeme) → same_kinds kinds others ≡ true → begins kinds tokens ≡ begins others tokens
same_kinds_begin kinds others [] e = refl
same_kinds_begin kinds others (token ∷ tokens) e = same_kinds_sound kinds others token e

pub is_of-append : (kinds others : List Terminal) (token : PlacedLexeme) → is_of (kinds ++ others) token ≡ (is_of kinds token || is_of others token)
is_of-append kinds others token = list_any-append (λ (kind : Terminal). fits kind token) kinds others

pub is_of_front : (kinds others : List Terminal) (token : PlacedLexeme) → is_of kinds token ≡ true → is_of (kinds ++ others) token ≡ true
is_of_front kinds others token h = is_of-append kinds others token ∙ or_left (is_of kinds token) (is_of others token) h

pub is_of_behind : (kinds others : List Terminal) (token : PlacedLexeme) → is_of others token ≡ true → is_of (kinds ++ others) token ≡ true
is_of_behind kinds others token h = is_of-append kinds others token ∙ or_right (is_of kinds token) (is_of others token) h

pub is_of_parts : (kinds others : List Terminal) (token : PlacedLexeme) → is_of (kinds ++ others) token ≡ true → (is_of kinds token ≡ true) ⊎ (is_of others token ≡ true)
is_of_parts kinds others token h = or_cases (is_of kinds token) (is_of others token) (sym (is_of-append kinds others token) ∙ h)

pub begins_front : (kinds others : List Terminal) (tokens : List PlacedLexeme) → begins kinds tokens ≡ true → begins (kinds ++ others) tokens ≡ true
begins_front kinds others [] h = cc
begins_front kinds others (token ∷ tokens) h = is_of_front kinds others token h

pub begins_behind : (kinds others : List Terminal) (tokens : List PlacedLexeme) → begins others tokens ≡ true → begins (kinds ++ others) tokens ≡ true
begins_behind kinds others [] h = cc
begins_behind kinds others (token ∷ tokens) h = is_of_behind kinds others token h

pub begins_parts : (kinds others : List Terminal) (tokens : List PlacedLexeme) → begins (kinds ++ others) tokens ≡ true
    → (begins kinds tokens ≡ true) ⊎ (begins others tokens ≡ true)
begins_parts kinds others [] h = cc
begins_parts kinds others (token ∷ tokens) h = is_of_parts kinds others token h

-- no token is of none of the kinds
pub no_kinds_is : (kinds : List Terminal) → no_kinds kinds ≡ true → kinds ≡ []
no_kinds_is [] h = refl
no_kinds_is (kind ∷ kinds) h = cc

pub no_kinds_begin : (kinds : List Terminal) (tokens : List PlacedLexeme) → no_kinds kinds ≡ true → begins kinds tokens ≡ true → ⊥
no_kinds_begin [] [] h k = cc
no_kinds_begin [] (token ∷ tokens) h k = cc
no_kinds_begin (kind ∷ kinds) tokens h k = cc

differs : (name : Bytes) → 97 ∷ [] ≡ name → same_text (98 ∷ []) name ≡ false
differs name e = ap (λ (other : Bytes). same_text (98 ∷ []) other) (sym e)

-- a quoted name that differs from another
other_name_at : (name : Bytes) (same : Bool) → same_text (97 ∷ []) name ≡ same → (lexeme : Lexeme) × (is_of_kind (NameBut name) lexeme ≡ true)
other_name_at name true e = (QuotedName (98 ∷ []), ap not (differs name (same_text_is (97 ∷ []) name e)))
other_name_at name false e = (QuotedName (97 ∷ []), ap not e)

other_name : (name : Bytes) → (lexeme : Lexeme) × (is_of_kind (NameBut name) lexeme ≡ true)
other_name name = other_name_at name (same_text (97 ∷ []) name) refl

lexeme_of : (kind : Terminal) → is_possible kind ≡ true → (lexeme : Lexeme) × (is_of_kind kind lexeme ≡ true)
lexeme_of (Keyword word) h = (Word word, same_text_itself word)
lexeme_of Name h = (QuotedName (97 ∷ []), refl)
lexeme_of (NameOf name) h = (QuotedName name, and_from (is_short name) (same_text name name) h (same_text_itself name))
lexeme_of (NameBut name) h = other_name name
lexeme_of PlainName h = (Word (97 ∷ []), refl)
lexeme_of Number h = (Integer 0, refl)
lexeme_of Count h = (Integer 1, refl)
lexeme_of Literal h = (Text [], refl)
lexeme_of LiteralInCode h = (Text [], refl)
lexeme_of Message h = (Text [], refl)
lexeme_of StateCode h = (Text (codes "23505"), refl)
lexeme_of (Sign symbol) h = (Mark symbol, eq-eqb (symbol_number symbol) (symbol_number symbol) refl)
lexeme_of (Heading directive) h = (Directive directive, eq-eqb (directive_number directive) (directive_number directive) refl)

-- a token of the kind
pub token_of : (kind : Terminal) → is_possible kind ≡ true → (token : PlacedLexeme) × (fits kind token ≡ true)
token_of kind h = let (lexeme, fitting) = lexeme_of kind h in (record { line = 1; lexeme = lexeme }, fitting)
