-- The values of tokens: texts without their quotes, numbers, lines, and that texts are UTF-8.
use Rattle.std.proofs.Common.{◌≡◌, ℕ, zero, suc, ◌+◌, ◌-◌, ◌*◌, ◌<◌, ◌≤◌, min, Bool, true, false, cond, eqb, List, [], ◌∷◌, ◌++◌, length, map, take, drop, refl, sym, ap, ◌∙◌, subst, arith}
use Rattle.std.specs.List.{fold, count_by, list_all, AllByRecursion}
use Rattle.std.specs.Str.{IsUtf8}
use Rattle.std.specs.Char.{to_ascii_lowercase}
use Rattle.std.proofs.lemmas.Str.{IsUtf8-append, IsUtf8-nil}
use Rattle.std.proofs.lemmas.Bool.{and_parts, eqb-true, eq-eqb}
use Rattle.std.proofs.lemmas.Bool.Decides.{nat_tests}
use Rattle.std.proofs.lemmas.List.{take_at, drop_at}
use Rattle.std.proofs.lemmas.List.Sums.{sum_by-append}
use Rattle.aq_lex.specs.declared.token.TokenKind.{TokenKind}
use Rattle.aq_lex.specs.declared.token.TokenKind.TheVariants.{Word, QuotedName, Integer, Text, Symbol, Directive}
use Rattle.aq_lex.specs.declared.token.Token.{Token}
use Rattle.aq_lex.specs.Tokens.{begins_word, goes_on_in_word, is_word, doubled, quoted, Quotes, SpellsToken, Place, LexesTo, Starts, BehindBlank, BehindComment, BehindToken, Lexes, token_at}
use Rattle.aq_lex.specs.Lexing.{past_quote}
use Rattle.aq_lex.specs.Lexemes.{undoubled, unquoted, token_bytes, line_at, lexeme_of, text_of, IsText, AreTexts, IsSpelled}
use Rattle.aq_lex.proofs.Bytes.{utf8_one, doubled_quote, doubled_other, quoted_length}
use Rattle.aq_lex.proofs.Pieces.{word_goes_on}
use Rattle.aq_lex.proofs.Once.{Before, before, before_more}

-- ---- texts between quotes

pub undoubled_step : (quote byte : ℕ) (bytes : List ℕ) → undoubled quote (byte ∷ bytes) ≡ byte ∷ undoubled quote (past_quote quote byte bytes)
undoubled_step quote byte [] = elim (eqb byte quote) as (λ v. byte ∷ [] ≡ byte ∷ undoubled quote (cond v [] [])) [ true ↦ refl | false ↦ refl ]
undoubled_step quote byte (next ∷ bytes) =
    elim (eqb byte quote) as (λ v. cond v (byte ∷ undoubled quote bytes) (byte ∷ undoubled quote (next ∷ bytes)) ≡ byte ∷ undoubled quote (cond v bytes (next ∷ bytes))) [ true ↦ refl | false ↦ refl ]

undoubled_other : (quote byte : ℕ) (bytes : List ℕ) → eqb byte quote ≡ false → undoubled quote (byte ∷ bytes) ≡ byte ∷ undoubled quote bytes
undoubled_other quote byte [] h = refl
undoubled_other quote byte (next ∷ bytes) h = rw h refl

undoubled_doubled : (quote : ℕ) (text : List ℕ) → undoubled quote (doubled quote text) ≡ text
undoubled_doubled quote [] = refl
undoubled_doubled quote (byte ∷ text) = (elim (eqb byte quote) as (λ v. eqb byte quote ≡ v → undoubled quote (doubled quote (byte ∷ text)) ≡ byte ∷ text) [
  | true ↦ λ h.
      let same : eqb quote quote ≡ true = eq-eqb quote quote refl in
      ap (λ (x : List ℕ). undoubled quote x) (doubled_quote quote byte text h)
      ∙ (rw same (ap (λ (x : List ℕ). quote ∷ x) (undoubled_doubled quote text)) ∙ ap (λ (b : ℕ). b ∷ text) (sym (eqb-true byte quote h)))
  | false ↦ λ h.
      ap (λ (x : List ℕ). undoubled quote x) (doubled_other quote byte text h) ∙ (undoubled_other quote byte (doubled quote text) h ∙ ap (λ (x : List ℕ). byte ∷ x) (undoubled_doubled quote text))
]) refl

pub unquoted_quoted : (quote : ℕ) (text : List ℕ) → unquoted quote (quoted quote text) ≡ text
unquoted_quoted quote text =
    let len : length (quoted quote text) - 2 ≡ length (doubled quote text) = omega (arith, quoted_length quote text) in
    ap (λ (n : ℕ). undoubled quote (take n (doubled quote text ++ quote ∷ []))) len
    ∙ (ap (λ (x : List ℕ). undoubled quote x) (take_at (doubled quote text) (quote ∷ []) (length (doubled quote text)) refl) ∙ undoubled_doubled quote text)

pub text_again : (quote : ℕ) (text bytes behind : List ℕ) → Quotes quote text bytes behind → unquoted quote bytes ≡ text
text_again quote text bytes behind quotes = ap (λ (x : List ℕ). unquoted quote x) quotes.spelled ∙ unquoted_quoted quote text

-- ---- the value of an integer, kept at the highest of 64 bits

capped : (digits : List ℕ) (number limit : ℕ) → min (fold (λ number digit. 10 * number + (digit - 48)) (min number limit) digits) limit ≡ min (fold (λ number digit. 10 * number + (digit - 48)) number digits) limit
capped [] number limit = omega arith
capped (digit ∷ digits) number limit =
    let same : min (10 * min number limit + (digit - 48)) limit ≡ min (10 * number + (digit - 48)) limit = omega arith in
    sym (capped digits (10 * min number limit + (digit - 48)) limit) ∙ ap (λ (n : ℕ). min (fold (λ number digit. 10 * number + (digit - 48)) n digits) limit) same ∙ capped digits (10 * number + (digit - 48)) limit

pub digit_more : (digit number next whole limit : ℕ) (rest : List ℕ) → next ≡ min (10 * number + (digit - 48)) limit
    → min (fold (λ number digit. 10 * number + (digit - 48)) number (digit ∷ rest)) limit ≡ whole → min (fold (λ number digit. 10 * number + (digit - 48)) next rest) limit ≡ whole
digit_more digit number next whole limit rest is so_far =
    ap (λ (n : ℕ). min (fold (λ number digit. 10 * number + (digit - 48)) n rest) limit) is ∙ (capped rest (10 * number + (digit - 48)) limit ∙ so_far)

-- ---- lines

no_bytes : (k : ℕ) → [] ≡ take {A = ℕ} k []
no_bytes zero = refl
no_bytes (suc k) = refl

take_parts : (n k : ℕ) (bytes : List ℕ) → take (n + k) bytes ≡ take n bytes ++ take k (drop n bytes)
take_parts zero k bytes = let e : zero + k ≡ k = omega arith in rw e refl
take_parts (suc n) k [] = let e : suc n + k ≡ suc (n + k) = omega arith in rw e (no_bytes k)
take_parts (suc n) k (byte ∷ bytes) = let e : suc n + k ≡ suc (n + k) = omega arith in rw e (ap (λ (x : List ℕ). byte ∷ x) (take_parts n k bytes))

pub line_later : (bytes : List ℕ) (from to : ℕ) → from ≤ to → line_at bytes from + count_by (λ byte. eqb byte 10) (take (to - from) (drop from bytes)) ≡ line_at bytes to
line_later bytes from to order =
    let e : from + (to - from) ≡ to = omega arith in
    let parts : take to bytes ≡ take from bytes ++ take (to - from) (drop from bytes) = ap (λ (n : ℕ). take n bytes) (sym e) ∙ take_parts from (to - from) bytes in
    rw parts (omega (arith, sum_by-append (λ byte. cond (eqb byte 10) 1 0) (take from bytes) (take (to - from) (drop from bytes))))

-- ---- UTF-8

lower_ascii : (byte : ℕ) → goes_on_in_word byte ≡ true → to_ascii_lowercase byte < 128
lower_ascii byte h = grind (arith, nat_tests)

folded_utf8 : (bytes : List ℕ) → list_all goes_on_in_word bytes ≡ true → IsUtf8 (map to_ascii_lowercase bytes)
folded_utf8 [] h = IsUtf8-nil
folded_utf8 (byte ∷ bytes) h =
    let p = and_parts (goes_on_in_word byte) (list_all goes_on_in_word bytes) h in
    IsUtf8-append (to_ascii_lowercase byte ∷ []) (map to_ascii_lowercase bytes) (utf8_one (to_ascii_lowercase byte) (lower_ascii byte p.0)) (folded_utf8 bytes p.1)

word_utf8 : (bytes : List ℕ) → is_word bytes ≡ true → IsUtf8 (map to_ascii_lowercase bytes)
word_utf8 [] h = IsUtf8-nil
word_utf8 (byte ∷ bytes) h =
    let p = and_parts (begins_word byte) (list_all goes_on_in_word bytes) h in
    IsUtf8-append (to_ascii_lowercase byte ∷ []) (map to_ascii_lowercase bytes) (utf8_one (to_ascii_lowercase byte) (lower_ascii byte (word_goes_on byte p.0))) (folded_utf8 bytes p.1)

-- the text of what is spelled is UTF-8
spelled_text : (is_first : Bool) (kind : TokenKind) (bytes behind : List ℕ) → SpellsToken is_first kind bytes behind → IsText (text_of (lexeme_of kind bytes))
spelled_text is_first Word bytes behind h = word_utf8 bytes h.0
spelled_text is_first QuotedName bytes behind h = subst IsUtf8 (sym (text_again 34 h.0 bytes behind h.2)) h.2.utf8
spelled_text is_first Integer bytes behind h = tt
spelled_text is_first Text bytes behind h = subst IsUtf8 (sym (text_again 39 h.0 bytes behind h.1)) h.1.utf8
spelled_text is_first (Symbol symbol) bytes behind h = tt
spelled_text is_first (Directive directive) bytes behind h = tt

-- the bytes of a token are those that spell it, and those behind it stand behind it
record Cutout (bytes : List ℕ) (token : Token) (spelling behind : List ℕ) : Type 0 where
  inside : token_bytes bytes token ≡ spelling
  left : drop token.to bytes ≡ behind

bytes_of : (bytes : List ℕ) (place : Place) (kind : TokenKind) (spelling behind : List ℕ) → Before bytes place.at (spelling ++ behind) → Cutout bytes (token_at kind spelling place) spelling behind
bytes_of bytes place kind spelling behind b =
    let len : place.at + length spelling - place.at ≡ length spelling = omega arith in
    let from : drop place.at bytes ≡ spelling ++ behind = ap (λ (x : List ℕ). drop place.at x) b.parts ∙ drop_at b.front (spelling ++ behind) place.at b.size in
    let more = before_more bytes place.at spelling behind b in
    record {
      inside = rw (len, from) (take_at spelling behind (length spelling) refl);
      left = ap (λ (x : List ℕ). drop (place.at + length spelling) x) more.parts ∙ drop_at more.front behind (place.at + length spelling) more.size;
    }

all_more : (P : Token → Type 0) (tokens : List Token) (token : Token) → AllByRecursion P tokens → P token → AllByRecursion P (tokens ++ token ∷ [])
all_more P [] token all one = (one, all)
all_more P (first ∷ tokens) token all one = (all.0, all_more P tokens token all.1 one)

spelled_to : (bytes : List ℕ) (tokens : List Token) (place : Place) (rest : List ℕ) → LexesTo bytes tokens place rest → AllByRecursion (IsSpelled bytes) tokens
spelled_to bytes tokens place rest Starts = tt
spelled_to bytes tokens place rest (BehindBlank tokens' place' byte behind l h) = spelled_to bytes tokens' place' (byte ∷ behind) l
spelled_to bytes tokens place rest (BehindComment tokens' place' spelling behind l h) = spelled_to bytes tokens' place' (spelling ++ behind) l
spelled_to bytes tokens place rest (BehindToken tokens' place' kind spelling behind l h) =
    let cutout = bytes_of bytes place' kind spelling behind (before bytes tokens' place' (spelling ++ behind) l) in
    let inside = subst (λ (x : List ℕ). SpellsToken place'.is_first kind x behind) (sym cutout.inside) h in
    let spelled = subst (λ (x : List ℕ). SpellsToken place'.is_first kind (token_bytes bytes (token_at kind spelling place')) x) (sym cutout.left) inside in
    all_more (IsSpelled bytes) tokens' (token_at kind spelling place') (spelled_to bytes tokens' place' (spelling ++ behind) l) (place'.is_first, spelled)

pub all_spelled : (bytes : List ℕ) (tokens : List Token) → Lexes bytes tokens → AllByRecursion (IsSpelled bytes) tokens
all_spelled bytes tokens all = spelled_to bytes tokens all.place [] all.lexes

texts_of : (bytes : List ℕ) (tokens : List Token) → AllByRecursion (IsSpelled bytes) tokens → AreTexts bytes tokens
texts_of bytes [] all = tt
texts_of bytes (token ∷ tokens) all = (spelled_text all.0.0 token.kind (token_bytes bytes token) (drop token.to bytes) all.0.1, texts_of bytes tokens all.1)

pub all_texts : (bytes : List ℕ) (tokens : List Token) → Lexes bytes tokens → AreTexts bytes tokens
all_texts bytes tokens all = texts_of bytes tokens (all_spelled bytes tokens all)
