-- Tokens and lines that are printed one after the other.
use Rattle.std.proofs.Common.{◌≡◌, subst, add-one, ℕ, zero, suc, ◌+◌, ◌<◌, length, take, get_or, arith, true, false, Bool, ◌||◌, ◌&&◌, not, List, [], ◌∷◌, ◌++◌, refl, sym, ap, ◌∙◌, append_assoc, map}
use Rattle.std.specs.Prelude.{OnOk, Result, if◌then◌else◌}
use Rattle.std.specs.List.{flat_map}
use Rattle.std.proofs.lemmas.List.{append-nil}
use Rattle.std.proofs.lemmas.List.Concat.{flat_map_single}
use Rattle.aq_base.specs.Names.{Text}
use Rattle.aq_texts.specs.Written.{Written, token_text, joins_last, joins_next, is_minus, text_behind, written, separated}
use Rattle.aq_texts.specs.Canon.{line}
use Rattle.aq_print.specs.Printing.{Printed, fresh, is_joined, put, put_all, put_line, put_lines}

pub put_all_append : (before : Printed) (xs ys : List Written) → put_all before (xs ++ ys) ≡ put_all (put_all before xs) ys
put_all_append before [] ys = refl
put_all_append before (x ∷ xs) ys = put_all_append (put before x) xs ys

pub put_lines_append : (before : Printed) (xs ys : List (List Written)) → put_lines before (xs ++ ys) ≡ put_lines (put_lines before xs) ys
put_lines_append before [] ys = refl
put_lines_append before (x ∷ xs) ys = put_lines_append (put_line before x) xs ys

-- one form more of a list
pub put_all_more : {X : Type 0} (before : Printed) (print : X → List Written) (xs : List X) (n : ℕ) (d : X) → n < length xs
    → put_all before (flat_map print (take (suc n) xs)) ≡ put_all (put_all before (flat_map print (take n xs))) (print (get_or xs n d))
put_all_more before print [] n d within = absurd (omega arith)
put_all_more before print (x ∷ xs) zero d within = put_all_append before (print x) []
put_all_more before print (x ∷ xs) (suc n) d within =
    put_all_append before (print x) (flat_map print (take (suc n) xs)) ∙ put_all_more (put_all before (print x)) print xs n d (omega (arith, within))
    ∙ ap (λ (p : Printed). put_all p (print (get_or xs n d))) (sym (put_all_append before (print x) (flat_map print (take n xs))))

-- ---- the text of tokens

abbrev blank_unless : Bool → Text
blank_unless joins = if joins then [] else 32 ∷ []

no_blank : (b : Bool) → blank_unless (b || true) ≡ []
no_blank true = refl
no_blank false = refl

-- the test of `put` is that of `blank_between`
either_way : (joins last first_minus second_minus : Bool)
    → blank_unless (last || (not (second_minus && first_minus) && joins)) ≡ blank_unless ((joins && not (first_minus && second_minus)) || last)
either_way joins true first second = sym (no_blank (joins && not (first && second)))
either_way true false true true = refl
either_way true false true false = refl
either_way true false false true = refl
either_way true false false false = refl
either_way false false true true = refl
either_way false false true false = refl
either_way false false false true = refl
either_way false false false false = refl

-- a text to which a token is put
abbrev with_token : Text → Bool → Written → Printed
with_token text joined token =
    record { text = text ++ (blank_unless joined ++ token_text token); joins = joins_next token; behind_minus = is_minus token }

put-is : (before : Printed) (token : Written) → put before token ≡ with_token before.text (is_joined before token) token
unfolding put
put-is before token = refl

abbrev behind : Text → Written → Printed
behind text before = record { text = text; joins = joins_next before; behind_minus = is_minus before }

put_all_behind : (before : Written) (text : Text) (tokens : List Written) → (put_all (behind text before) tokens).text ≡ text ++ text_behind before tokens
put_all_behind before text [] = sym (append-nil text)
put_all_behind before text (token ∷ tokens) =
    let blank : Text = blank_unless (is_joined (behind text before) token) in
    ap (λ (p : Printed). (put_all p tokens).text) (put-is (behind text before) token)
    ∙ put_all_behind token (text ++ (blank ++ token_text token)) tokens ∙ append_assoc text (blank ++ token_text token) (text_behind token tokens)
    ∙ ap (λ (t : Text). text ++ t) (append_assoc blank (token_text token) (text_behind token tokens))
    ∙ ap (λ (t : Text). text ++ (t ++ (token_text token ++ text_behind token tokens)))
    (either_way (joins_next before) (joins_last token) (is_minus before) (is_minus token))

fresh_joins : (text : Text) (token : Written) → blank_unless (is_joined (fresh text) token) ≡ []
fresh_joins text token = by_minus (joins_last token) (is_minus token)
  where
    by_minus : (last minus : Bool) → blank_unless (last || (not (minus && false) && true)) ≡ []
    by_minus true minus = refl
    by_minus false true = refl
    by_minus false false = refl

-- tokens at the front of a line
pub put_all_fresh : (text : Text) (tokens : List Written) → (put_all (fresh text) tokens).text ≡ text ++ written tokens
put_all_fresh text [] = sym (append-nil text)
put_all_fresh text (token ∷ tokens) =
    ap (λ (p : Printed). (put_all p tokens).text) (put-is (fresh text) token)
    ∙ ap (λ (t : Text). (put_all (behind (text ++ (t ++ token_text token)) token) tokens).text) (fresh_joins text token)
    ∙ put_all_behind token (text ++ token_text token) tokens ∙ append_assoc text (token_text token) (text_behind token tokens)

pub put_line_fresh : (text : Text) (tokens : List Written) → put_line (fresh text) tokens ≡ fresh (text ++ line tokens)
put_line_fresh text tokens = ap (λ t. fresh (t ++ 10 ∷ [])) (put_all_fresh text tokens) ∙ ap fresh (append_assoc text (written tokens) (10 ∷ []))

pub put_lines_fresh : (text : Text) (lines : List (List Written)) → put_lines (fresh text) lines ≡ fresh (text ++ flat_map line lines)
put_lines_fresh text [] = ap fresh (sym (append-nil text))
put_lines_fresh text (tokens ∷ lines) =
    ap (λ before. put_lines before lines) (put_line_fresh text tokens) ∙ put_lines_fresh (text ++ line tokens) lines
    ∙ ap fresh (append_assoc text (line tokens) (flat_map line lines))

-- ---- forms with a token between them

-- the first, and each later one behind a token
pub separated_cons : {A : Type 0} (between : Written) (print : A → List Written) (x : A) (xs : List A)
    → separated between print (x ∷ xs) ≡ print x ++ flat_map (λ y. between ∷ print y) xs
separated_cons between print x [] = sym (append-nil (print x))
separated_cons between print x (y ∷ ys) = ap (λ tokens. print x ++ between ∷ tokens) (separated_cons between print y ys)

-- ---- loops

-- behind the first n forms, the next one
pub put_all_next : {X : Type 0} (before now after : Printed) (print : X → List Written) (xs : List X) (n : ℕ) (x : X) → n < length xs → x ≡ get_or xs n x
    → now ≡ put_all before (flat_map print (take n xs)) → after ≡ put_all now (print x) → after ≡ put_all before (flat_map print (take (n + 1) xs))
put_all_next before now after print xs n x within is was put_next =
    put_next ∙ ap (λ (p : Printed). put_all p (print x)) was ∙ ap (λ y. put_all (put_all before (flat_map print (take n xs))) (print y)) is
    ∙ sym (put_all_more before print xs n x within) ∙ ap (λ m. put_all before (flat_map print (take m xs))) (sym (add-one n))

-- the same where each form is one token
pub put_next : {X : Type 0} (before now after : Printed) (print : X → Written) (xs : List X) (n : ℕ) (x : X) → n < length xs → x ≡ get_or xs n x
    → now ≡ put_all before (map print (take n xs)) → after ≡ put now (print x) → after ≡ put_all before (map print (take (n + 1) xs))
put_next before now after print xs n x within is was put_it =
    put_all_next before now after (λ y. print y ∷ []) xs n x within is (was ∙ ap (put_all before) (sym (flat_map_single print (take n xs)))) put_it
    ∙ ap (put_all before) (flat_map_single print (take (n + 1) xs))

put_lines_more : {X : Type 0} (before : Printed) (print : X → List (List Written)) (xs : List X) (n : ℕ) (d : X) → n < length xs
    → put_lines before (flat_map print (take (suc n) xs)) ≡ put_lines (put_lines before (flat_map print (take n xs))) (print (get_or xs n d))
put_lines_more before print [] n d within = absurd (omega arith)
put_lines_more before print (x ∷ xs) zero d within = put_lines_append before (print x) []
put_lines_more before print (x ∷ xs) (suc n) d within =
    put_lines_append before (print x) (flat_map print (take (suc n) xs)) ∙ put_lines_more (put_lines before (print x)) print xs n d (omega (arith, within))
    ∙ ap (λ (p : Printed). put_lines p (print (get_or xs n d))) (sym (put_lines_append before (print x) (flat_map print (take n xs))))

pub put_lines_next : {X : Type 0} (before now after : Printed) (print : X → List (List Written)) (xs : List X) (n : ℕ) (x : X) → n < length xs → x ≡ get_or xs n x
    → now ≡ put_lines before (flat_map print (take n xs)) → after ≡ put_lines now (print x) → after ≡ put_lines before (flat_map print (take (n + 1) xs))
put_lines_next before now after print xs n x within is was put_it =
    put_it ∙ ap (λ (p : Printed). put_lines p (print x)) was ∙ ap (λ y. put_lines (put_lines before (flat_map print (take n xs))) (print y)) is
    ∙ sym (put_lines_more before print xs n x within) ∙ ap (λ m. put_lines before (flat_map print (take m xs))) (sym (add-one n))

-- the same where each form is one line
pub put_line_next : {X : Type 0} (before now after : Printed) (print : X → List Written) (xs : List X) (n : ℕ) (x : X) → n < length xs → x ≡ get_or xs n x
    → now ≡ put_lines before (map print (take n xs)) → after ≡ put_line now (print x) → after ≡ put_lines before (map print (take (n + 1) xs))
put_line_next before now after print xs n x within is was put_it =
    put_lines_next before now after (λ y. print y ∷ []) xs n x within is (was ∙ ap (put_lines before) (sym (flat_map_single print (take n xs)))) put_it
    ∙ ap (put_lines before) (flat_map_single print (take (n + 1) xs))

-- ---- forms one behind the other

-- what is put behind a token, and behind tokens
pub behind_token : (before now : Printed) (token : Written) (more : List Written) → now ≡ put before token → put_all now more ≡ put_all before (token ∷ more)
behind_token before now token more put_it = ap (λ (p : Printed). put_all p more) put_it

pub behind_tokens : (before now : Printed) (tokens more : List Written) → now ≡ put_all before tokens → put_all now more ≡ put_all before (tokens ++ more)
behind_tokens before now tokens more put_them = ap (λ (p : Printed). put_all p more) put_them ∙ sym (put_all_append before tokens more)

pub on_ok : {R E : Type 0} (result : Result R E) (after now whole : Printed) → OnOk result (after ≡ now) → now ≡ whole → OnOk result (after ≡ whole)
on_ok result after now whole puts is = let P : Printed → Type 0 = λ p. OnOk result (after ≡ p) in subst P is puts
