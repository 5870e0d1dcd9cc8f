-- A name that was read is printed as a token that reads as the same name.
use Rattle.std.proofs.Common.{◌≡◌, ◌≢◌, Bool, true, false, not, ◌&&◌, List, [], ◌∷◌, map, Option, Some, None, inl, inr, refl, sym, ap, ◌∙◌, subst, ◌⊎◌, codes, if◌then◌else◌}
use Rattle.std.proofs.lemmas.Bool.{and_parts, and_from}
use Rattle.std.specs.Prelude.{IsUtf8}
use Rattle.std.specs.Char.{to_ascii_lowercase}
use Rattle.aq_lex.specs.Tokens.{is_word}
use Rattle.aq_base.specs.Names.{Text as Bytes, same_text, is_short, is_reserved}
use Rattle.aq_lex.specs.Lexemes.{PlacedLexeme, Lexeme, Word, QuotedName, Integer, Text, Symbol, Directive}
use Rattle.aq_grammar.specs.Terminals.{Name as Name_kind, NameOf, NameBut, PlainName, fits, name_is, is_name_word, is_plain_name, text_of, lexeme_text}
use Rattle.aq_grammar.specs.Rules.{Nonterminal, ValueOf, Token, Both}
use Rattle.aq_grammar.specs.Forms.{name, public_name, optional, sign, ◌▸◌, last_name}
use Rattle.aq_texts.specs.Written.{Name, is_bare}
use Rattle.aq_forms.proofs.Sound.{is_folded_word, IsSound}
use Rattle.aq_forms.proofs.Laid.{lexeme_of}
use Rattle.aq_forms.proofs.Derived.{Trees, DerivesBy}
use Rattle.aq_forms.proofs.Combining.{IsFree, Anything, token_free, both_any, left_free, right_free, none_free}
use Rattle.aq_lex.specs.declared.token.Symbol.TheVariants.{Dot}
use Rattle.aq_grammar.specs.Terminals.{Sign}

-- the text is one of a name: it is a word that is no reserved one, or it can stand between quotes
abbrev pub IsNamed : Bytes → Type 0
IsNamed text = (is_short text ≡ true) × ((is_bare text ≡ true) ⊎ ((is_bare text ≡ false) × (text ≢ []) × IsUtf8 text))

pub bare_lexeme : (text : Bytes) → is_bare text ≡ true → lexeme_of (Name text) ≡ Word text
bare_lexeme text e = ap (λ (b : Bool). if b then Word text else QuotedName text) e

quoted_lexeme : (text : Bytes) → is_bare text ≡ false → lexeme_of (Name text) ≡ QuotedName text
quoted_lexeme text e = ap (λ (b : Bool). if b then Word text else QuotedName text) e

-- the three tests of a bare name
three : (a b c : Bool) → (a && b && c) ≡ true → ((a && b) ≡ true) × (c ≡ true)
three true true true e = (refl, refl)
three a b c e = cc

three_back : (a b c : Bool) → (a && b) ≡ true → c ≡ true → (a && b && c) ≡ true
three_back true true true e d = refl
three_back a b c e d = cc

bare_parts : (text : Bytes) → is_bare text ≡ true → (is_folded_word text ≡ true) × (not (is_reserved text) ≡ true)
bare_parts text e = three (is_word text) (same_text (map to_ascii_lowercase text) text) (not (is_reserved text)) e

bare_from : (text : Bytes) → is_folded_word text ≡ true → not (is_reserved text) ≡ true → is_bare text ≡ true
bare_from text e d = three_back (is_word text) (same_text (map to_ascii_lowercase text) text) (not (is_reserved text)) e d

-- what a name that was read is
named_by : (test : Bytes → Bool) (lexeme : Lexeme) → name_is test lexeme ≡ true → IsSound lexeme → IsNamed (lexeme_text lexeme) × (test (lexeme_text lexeme) ≡ true)
named_by test (Word text) fit sound =
    let parts = and_parts (is_name_word text) (test text) fit in
    let own = and_parts (is_short text) (not (is_reserved text)) parts.0 in
    ((own.0, inl (bare_from text sound own.1)), parts.1)
named_by test (QuotedName text) fit sound =
    let parts = and_parts (is_short text) (test text) fit in
    ((parts.0, either_way text sound), parts.1)
  where
    either_way : (text : Bytes) → (text ≢ []) × IsUtf8 text → (is_bare text ≡ true) ⊎ ((is_bare text ≡ false) × (text ≢ []) × IsUtf8 text)
    either_way text s = by_test (is_bare text) refl
      where
        by_test : (b : Bool) → is_bare text ≡ b → (is_bare text ≡ true) ⊎ ((is_bare text ≡ false) × (text ≢ []) × IsUtf8 text)
        by_test true e = inl e
        by_test false e = inr (e, s.0, s.1)
named_by test (Integer number) fit sound = cc
named_by test (Text text) fit sound = cc
named_by test (Symbol symbol) fit sound = cc
named_by test (Directive directive) fit sound = cc

-- what a name is printed as fits, is sound and has the name's text
pub name_fits : (test : Bytes → Bool) (text : Bytes) → IsNamed text → test text ≡ true → name_is test (lexeme_of (Name text)) ≡ true
name_fits test text (short, inl bare) passes =
    subst (λ (lexeme : Lexeme). name_is test lexeme ≡ true) (sym (bare_lexeme text bare))
    (and_from (is_name_word text) (test text) (and_from (is_short text) (not (is_reserved text)) short (bare_parts text bare).1) passes)
name_fits test text (short, inr quoted) passes =
    subst (λ (lexeme : Lexeme). name_is test lexeme ≡ true) (sym (quoted_lexeme text quoted.0)) (and_from (is_short text) (test text) short passes)

pub name_sound : (text : Bytes) → IsNamed text → IsSound (lexeme_of (Name text))
name_sound text (short, inl bare) = subst IsSound (sym (bare_lexeme text bare)) (bare_parts text bare).0
name_sound text (short, inr quoted) = subst IsSound (sym (quoted_lexeme text quoted.0)) (quoted.1, quoted.2)

pub name_text_is : (text : Bytes) → lexeme_text (lexeme_of (Name text)) ≡ text
name_text_is text = by_test (is_bare text)
  where
    by_test : (b : Bool) → lexeme_text (if b then Word text else QuotedName text) ≡ text
    by_test true = refl
    by_test false = refl

pub derived_name : (test : Bytes → Bool) (token : PlacedLexeme) → name_is test token.lexeme ≡ true → IsSound token.lexeme → IsNamed (text_of token) × (test (text_of token) ≡ true)
derived_name test token fit sound = named_by test token.lexeme fit sound

-- ---- names without a prefix

pub name_named : (calls : (n : Nonterminal) → Trees (ValueOf n)) (text : Bytes) → DerivesBy calls name text → IsNamed text
unfolding name
name_named calls text (token, fit, sound, e) = subst IsNamed (sym e) (derived_name (λ text. true) token fit sound).0

pub name_free : (text : Bytes) (Behind : List PlacedLexeme → Type 0) → IsNamed text → IsFree name text (Name text ∷ []) Behind
unfolding name
name_free text Behind named =
    token_free Name_kind text_of (Name text) text Behind (λ line. name_fits (λ text. true) text named refl) (name_sound text named) (λ line. sym (name_text_is text))

-- an unreserved word
pub plain_named : (token : PlacedLexeme) → fits PlainName token ≡ true → IsSound token.lexeme → IsNamed (text_of token) × (is_bare (text_of token) ≡ true)
plain_named token fit sound = by_lexeme token.lexeme fit sound
  where
    by_lexeme : (lexeme : Lexeme) → is_plain_name lexeme ≡ true → IsSound lexeme → IsNamed (lexeme_text lexeme) × (is_bare (lexeme_text lexeme) ≡ true)
    by_lexeme (Word text) fit sound =
        let own = and_parts (is_short text) (not (is_reserved text)) fit in
        let bare = bare_from text sound own.1 in
        ((own.0, inl bare), bare)
    by_lexeme (QuotedName text) fit sound = cc
    by_lexeme (Integer number) fit sound = cc
    by_lexeme (Text text) fit sound = cc
    by_lexeme (Symbol symbol) fit sound = cc
    by_lexeme (Directive directive) fit sound = cc

pub plain_lexeme : (lexeme : Lexeme) → is_plain_name lexeme ≡ true → lexeme ≡ Word (lexeme_text lexeme)
plain_lexeme (Word text) e = refl
plain_lexeme (QuotedName text) e = cc
plain_lexeme (Integer number) e = cc
plain_lexeme (Text text) e = cc
plain_lexeme (Symbol symbol) e = cc
plain_lexeme (Directive directive) e = cc

-- ---- names before which `public.` may stand

public : Bytes
public = codes "public"

pub public_named : (calls : (n : Nonterminal) → Trees (ValueOf n)) (text : Bytes) → DerivesBy calls public_name text → IsNamed text
unfolding public_name name
public_named calls text (inl (first, second, (token, fit, sound, e), (inl (other, said, (dot, found, d, (name_token, name_fit, name_is_sound, c), b), u, a)), whole)) =
    subst IsNamed (sym (whole ∙ ap (λ (x : Option Bytes). last_name first x) (a ∙ ap Some (b ∙ c)))) (derived_name (λ text. true) name_token name_fit name_is_sound).0
public_named calls text (inl (first, second, (token, fit, sound, e), (inr none), whole)) =
    subst IsNamed (sym (whole ∙ ap (λ (x : Option Bytes). last_name first x) none ∙ e)) (derived_name (λ text. same_text text (codes "public")) token fit sound).0
public_named calls text (inr (token, fit, sound, e)) = subst IsNamed (sym e) (derived_name (λ text. not (same_text text (codes "public"))) token fit sound).0

pub public_free : (text : Bytes) (Behind : List PlacedLexeme → Type 0) → IsNamed text → IsFree public_name text (Name text ∷ []) Behind
unfolding public_name
public_free text Behind named = by_test (same_text text (codes "public")) refl
  where
    by_test : (b : Bool) → same_text text (codes "public") ≡ b → IsFree public_name text (Name text ∷ []) Behind
    by_test true e =
        left_free (NameOf (codes "public") ∷ []) (Both last_name (Token (NameOf (codes "public")) text_of) (optional (Sign Dot ∷ []) (sign Dot ▸ name))) (Token (NameBut (codes "public")) text_of) text (Name text ∷ []) Behind
        (both_any last_name (Token (NameOf (codes "public")) text_of) (optional (Sign Dot ∷ []) (sign Dot ▸ name)) text None (Name text ∷ []) [] Behind
        (token_free (NameOf (codes "public")) text_of (Name text) text Anything (λ line. name_fits (λ text. same_text text (codes "public")) text named e) (name_sound text named)
        (λ line. sym (name_text_is text))) (none_free (Sign Dot ∷ []) (sign Dot ▸ name) Behind))
    by_test false e =
        right_free (NameOf (codes "public") ∷ []) (Both last_name (Token (NameOf (codes "public")) text_of) (optional (Sign Dot ∷ []) (sign Dot ▸ name))) (Token (NameBut (codes "public")) text_of) text (Name text ∷ []) Behind
        (token_free (NameBut (codes "public")) text_of (Name text) text Behind (λ line. name_fits (λ text. not (same_text text (codes "public"))) text named (ap not e))
        (name_sound text named) (λ line. sym (name_text_is text)))
