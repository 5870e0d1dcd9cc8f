-- Texts that have no byte of a kind, and where they are cut.
use Rattle.std.proofs.Common.{◌≡◌, ℕ, zero, suc, ◌/◌, ◌%◌, ◌<◌, Bool, true, false, not, ◌&&◌, ◌||◌, eqb, List, [], ◌∷◌, ◌++◌, refl, sym, ap, ◌∙◌, length, length-append, arith, true≢false, eqb-true, eq-eqb}
use Rattle.std.specs.List.{list_all, flat_map}
use Rattle.std.specs.Fmt.{digits, digit_glyph, digits_onto, decimal}
use Rattle.std.proofs.lemmas.List.{append_cancel_right}
use Rattle.std.proofs.lemmas.Bool.{and_parts, and_from, not_from_false, false_from_ne_true, cond_both}
use Rattle.std.proofs.lemmas.Bool.Decides.{nat_tests}
use Rattle.std.proofs.lemmas.List.Folds.{list_all-append}
use Rattle.aq_base.specs.Names.{Text, is_between, begins_word, goes_on_in_word, is_word, is_short, is_reserved, is_name}
use Rattle.aq_texts.specs.Rows.{line}
use Rattle.aq_laws.specs.Told.{is_free_of, is_lines, EndsWithLine}

-- ---- texts that have no such byte

other_byte : (test : ℕ → Bool) (byte b : ℕ) → test byte ≡ false → test b ≡ true → eqb b byte ≡ false
other_byte test byte b fails passes = false_from_ne_true (eqb b byte) (λ e. true≢false (sym passes ∙ ap test (eqb-true b byte e) ∙ fails))

-- all bytes pass a test that the byte doesn't pass
pub free_by : (test : ℕ → Bool) (byte : ℕ) (text : Text) → test byte ≡ false → list_all test text ≡ true → is_free_of byte text ≡ true
free_by test byte [] fails all = refl
free_by test byte (b ∷ bs) fails all =
    let parts = and_parts (test b) (list_all test bs) all in
    and_from (not (eqb b byte)) (is_free_of byte bs) (not_from_false (eqb b byte) (other_byte test byte b fails parts.0)) (free_by test byte bs fails parts.1)

pub free_of-append : (byte : ℕ) (a b : Text) → is_free_of byte a ≡ true → is_free_of byte b ≡ true → is_free_of byte (a ++ b) ≡ true
free_of-append byte a b p q = list_all-append (λ other. not (eqb other byte)) a b ∙ and_from (is_free_of byte a) (is_free_of byte b) p q

-- ---- names

first_of_three : (a b c : Bool) → (a && b && c) ≡ true → a ≡ true
first_of_three true b c all = refl
first_of_three false b c all = all

one_of_three : (a b c : Bool) → a ≡ true → (a || b || c) ≡ true
one_of_three true b c e = refl
one_of_three false b c e = absurd (true≢false (sym e))

word_goes_on : (word : Text) → is_word word ≡ true → list_all goes_on_in_word word ≡ true
word_goes_on [] is = refl
word_goes_on (b ∷ bs) is =
    let parts = and_parts (begins_word b) (list_all goes_on_in_word bs) is in
    and_from (goes_on_in_word b) (list_all goes_on_in_word bs) (one_of_three (begins_word b) (is_between 48 57 b) (eqb b 36) parts.0) parts.1

pub name_free : (byte : ℕ) (name : Text) → goes_on_in_word byte ≡ false → is_name name ≡ true → is_free_of byte name ≡ true
name_free byte name fails is =
    free_by goes_on_in_word byte name fails (word_goes_on name (first_of_three (is_word name) (is_short name) (not (is_reserved name)) is))

-- ---- numbers

digit_of : (d : ℕ) → d < 10 → is_between 48 57 (digit_glyph false d) ≡ true
digit_of d small = grind (arith, nat_tests)

onto_digits : (k n : ℕ) (acc : Text) → list_all (is_between 48 57) acc ≡ true → list_all (is_between 48 57) (digits_onto k 10 false n acc) ≡ true
onto_digits zero n acc all = all
onto_digits (suc k) n acc all =
    let more = and_from (is_between 48 57 (digit_glyph false (n % 10))) (list_all (is_between 48 57) acc) (digit_of (n % 10) (omega arith)) all in
    cond_both (eqb (n / 10) 0) (digit_glyph false (n % 10) ∷ acc) (digits_onto k 10 false (n / 10) (digit_glyph false (n % 10) ∷ acc))
    (λ (t : Text). list_all (is_between 48 57) t ≡ true) (λ _. more) (λ _. onto_digits k (n / 10) (digit_glyph false (n % 10) ∷ acc) more)

decimal_digits : (n : ℕ) → list_all (is_between 48 57) (decimal n) ≡ true
unfolding digits
decimal_digits n = onto_digits 64 n [] refl

pub decimal_free : (byte n : ℕ) → is_between 48 57 byte ≡ false → is_free_of byte (decimal n) ≡ true
decimal_free byte n fails = free_by (is_between 48 57) byte (decimal n) fails (decimal_digits n)

-- ---- cuts

has_it : (byte c : ℕ) (rest : Text) → is_free_of byte (c ∷ rest) ≡ true → c ≡ byte → ⊥
has_it byte c rest free e = true≢false (sym (and_parts (not (eqb c byte)) (is_free_of byte rest) free).0 ∙ ap not (eq-eqb c byte e))

rest_free : (byte c : ℕ) (rest : Text) → is_free_of byte (c ∷ rest) ≡ true → is_free_of byte rest ≡ true
rest_free byte c rest free = (and_parts (not (eqb c byte)) (is_free_of byte rest) free).1

-- two texts are cut alike at the first byte of a kind
pub cuts : (byte : ℕ) (a b x y : Text) → is_free_of byte a ≡ true → is_free_of byte b ≡ true → a ++ byte ∷ x ≡ b ++ byte ∷ y → (a ≡ b) × (x ≡ y)
cuts byte [] [] x y p q e = (refl, cc)
cuts byte [] (c ∷ b) x y p q e = absurd (has_it byte c b q cc)
cuts byte (c ∷ a) [] x y p q e = absurd (has_it byte c a p cc)
cuts byte (c ∷ a) (d ∷ b) x y p q e =
    let rest : a ++ byte ∷ x ≡ b ++ byte ∷ y = cc in
    let parts = cuts byte a b x y (rest_free byte c a p) (rest_free byte d b q) rest in
    (cc, parts.1)

-- ---- the last line

lines-rest : (byte : ℕ) (rest : Text) → is_lines (byte ∷ rest) ≡ true → is_lines rest ≡ true
lines-rest byte [] is = refl
lines-rest byte (next ∷ rest) is = is

no_line_before : (a g b : Text) (c : ℕ) → is_free_of 10 a ≡ true → is_lines (c ∷ g) ≡ true → line a ≡ (c ∷ g) ++ line b → ⊥
no_line_before [] g b c free is e = let lengths : 1 ≡ length ((c ∷ g) ++ line b) = ap length e in omega (arith, simp length-append at lengths)
no_line_before (x ∷ a) [] b c free is e = has_it 10 x a free (let same : x ≡ c = cc in same ∙ eqb-true c 10 is)
no_line_before (x ∷ a) (d ∷ g) b c free is e = no_line_before a g b d (rest_free 10 x a free) is cc

pub last_line : (f g a b : Text) → is_lines f ≡ true → is_lines g ≡ true → is_free_of 10 a ≡ true → is_free_of 10 b ≡ true → f ++ line a ≡ g ++ line b → a ≡ b
last_line [] [] a b if_ ig fa fb e = append_cancel_right a b (10 ∷ []) e
last_line [] (c ∷ g) a b if_ ig fa fb e = absurd (no_line_before a g b c fa ig e)
last_line (c ∷ f) [] a b if_ ig fa fb e = absurd (no_line_before b f a c fb if_ (sym e))
last_line (c ∷ f) (d ∷ g) a b if_ ig fa fb e = last_line f g a b (lines-rest c f if_) (lines-rest d g ig) fa fb cc

-- a text ends with one line
pub one_last_line : (text a b : Text) → EndsWithLine text a → EndsWithLine text b → a ≡ b
one_last_line text a b p q = last_line p.front q.front a b p.begins q.begins p.one_line q.one_line (sym p.whole ∙ q.whole)

-- ---- lines, one behind the other

pub lines-line : (text : Text) → is_lines (line text) ≡ true
lines-line [] = refl
lines-line (b ∷ []) = refl
lines-line (b ∷ c ∷ text) = lines-line (c ∷ text)

pub lines-append : (a b : Text) → is_lines a ≡ true → is_lines b ≡ true → is_lines (a ++ b) ≡ true
lines-append [] b p q = q
lines-append (x ∷ []) [] p q = p
lines-append (x ∷ []) (y ∷ b) p q = q
lines-append (x ∷ y ∷ a) b p q = lines-append (y ∷ a) b p q

pub lines-flat_map : {X : Type 0} (f : X → Text) (xs : List X) → ((x : X) → is_lines (f x) ≡ true) → is_lines (flat_map f xs) ≡ true
lines-flat_map f [] each = refl
lines-flat_map f (x ∷ xs) each = lines-append (f x) (flat_map f xs) (each x) (lines-flat_map f xs each)
