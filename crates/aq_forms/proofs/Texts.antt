-- Tokens that were read have texts that a token can have.
use Rattle.std.proofs.Common.{◌≡◌, ℕ, Bool, true, List, [], ◌∷◌, map, refl, sym, subst, ◌∙◌, arith}
use Rattle.std.specs.List.{list_all, AllByRecursion}
use Rattle.std.specs.Char.{to_ascii_lowercase}
use Rattle.std.proofs.lemmas.Bool.{and_parts, and_from}
use Rattle.std.proofs.lemmas.Bool.Decides.{nat_tests}
use Rattle.std.proofs.lemmas.Str.Ascii.{lowercase-lowercase}
use Rattle.aq_base.specs.Names.{same_text}
use Rattle.aq_lex.specs.declared.token.TokenKind.{TokenKind}
use Rattle.aq_lex.specs.declared.token.TokenKind.TheVariants.{Word, QuotedName, Integer, Text, Symbol, Directive}
use Rattle.aq_lex.specs.declared.token.Token.{Token}
use Rattle.aq_lex.specs.Tokens.{begins_word, goes_on_in_word, is_word, SpellsToken, Lexes}
use Rattle.aq_lex.specs.Lexemes.{token_bytes, lexeme_of, lexemes, IsSpelled}
use Rattle.aq_lex.proofs.Values.{text_again, all_spelled}
use Rattle.std.proofs.lemmas.Slice.Eq.{bytes_eq-Decides}
use Rattle.std.specs.Str.{IsUtf8}
use Rattle.aq_forms.proofs.Sound.{is_folded_word, HasText, HaveTexts}

-- ---- folded words

begins_folded : (byte : ℕ) → begins_word byte ≡ true → begins_word (to_ascii_lowercase byte) ≡ true
begins_folded byte h = grind (arith, nat_tests)

goes_on_folded : (byte : ℕ) → goes_on_in_word byte ≡ true → goes_on_in_word (to_ascii_lowercase byte) ≡ true
goes_on_folded byte h = grind (arith, nat_tests)

all_folded : (bytes : List ℕ) → list_all goes_on_in_word bytes ≡ true → list_all goes_on_in_word (map to_ascii_lowercase bytes) ≡ true
all_folded [] h = refl
all_folded (byte ∷ bytes) h =
    let p = and_parts (goes_on_in_word byte) (list_all goes_on_in_word bytes) h in
    and_from (goes_on_in_word (to_ascii_lowercase byte)) (list_all goes_on_in_word (map to_ascii_lowercase bytes)) (goes_on_folded byte p.0) (all_folded bytes p.1)

word_folded : (bytes : List ℕ) → is_word bytes ≡ true → is_word (map to_ascii_lowercase bytes) ≡ true
word_folded [] h = h
word_folded (byte ∷ bytes) h =
    let p = and_parts (begins_word byte) (list_all goes_on_in_word bytes) h in
    and_from (begins_word (to_ascii_lowercase byte)) (list_all goes_on_in_word (map to_ascii_lowercase bytes)) (begins_folded byte p.0) (all_folded bytes p.1)

-- to fold twice is to fold once
folded_twice : (bytes : List ℕ) → map to_ascii_lowercase (map to_ascii_lowercase bytes) ≡ map to_ascii_lowercase bytes
folded_twice [] = refl
folded_twice (byte ∷ bytes) = let first = lowercase-lowercase byte in let others = folded_twice bytes in cc

pub folded_word : (bytes : List ℕ) → is_word bytes ≡ true → is_folded_word (map to_ascii_lowercase bytes) ≡ true
folded_word bytes h =
    let folded : List ℕ = map to_ascii_lowercase bytes in
    and_from (is_word folded) (same_text (map to_ascii_lowercase folded) folded) (word_folded bytes h)
    ((bytes_eq-Decides (map to_ascii_lowercase folded) folded).1 (folded_twice bytes))

-- ---- the texts of tokens

spelled_text : (is_first : Bool) (kind : TokenKind) (bytes behind : List ℕ) → SpellsToken is_first kind bytes behind → HasText (lexeme_of kind bytes)
spelled_text is_first Word bytes behind h = folded_word bytes h.0
spelled_text is_first QuotedName bytes behind h =
    let same = text_again 34 h.0 bytes behind h.2 in
    ((λ empty. h.1 (sym same ∙ empty)), subst IsUtf8 (sym same) h.2.utf8)
spelled_text is_first Integer bytes behind h = tt
spelled_text is_first Text bytes behind h = subst IsUtf8 (sym (text_again 39 h.0 bytes behind h.1)) h.1.utf8
spelled_text is_first (Symbol symbol) bytes behind h = tt
spelled_text is_first (Directive directive) bytes behind h = tt

spelled_texts : (bytes : List ℕ) (tokens : List Token) → AllByRecursion (IsSpelled bytes) tokens → HaveTexts (lexemes bytes tokens)
spelled_texts bytes [] all = tt
spelled_texts bytes (token ∷ tokens) all = (spelled_text all.0.0 token.kind (token_bytes bytes token) _ all.0.1, spelled_texts bytes tokens all.1)

pub lexed_texts : (bytes : List ℕ) (tokens : List Token) → Lexes bytes tokens → HaveTexts (lexemes bytes tokens)
lexed_texts bytes tokens all = spelled_texts bytes tokens (all_spelled bytes tokens all)
