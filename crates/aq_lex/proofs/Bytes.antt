-- Bytes that pass a test, texts between quotes, and UTF-8.
use Rattle.std.proofs.Common.{◌≡◌, ℕ, suc, ◌+◌, ◌-◌, ◌<◌, Bool, true, false, cond, eqb, List, [], ◌∷◌, ◌++◌, length, take, drop, get_or, Option, Some, None, refl, sym, ap, ◌∙◌, subst, append_assoc, length-append, rules, arith, ◌⊎◌, inl, inr}
use Rattle.std.specs.List.{list_all}
use Rattle.std.specs.Option.{option_map, option_and_then}
use Rattle.std.specs.Str.{IsUtf8, is_utf8}
use Rattle.std.proofs.lemmas.Str.{IsUtf8-from_is_utf8, is_utf8-from_IsUtf8, IsUtf8-append, IsUtf8-take, IsUtf8-drop, IsUtf8-encode, IsUtf8-nil, IsCharBoundary-before_ascii, IsCharBoundary-after_ascii, encode_ascii}
use Rattle.std.proofs.lemmas.Bool.{false_from_ne_true, and_parts, and_from, not-true, not_from_false, eqb-true, eq-eqb}
use Rattle.std.proofs.lemmas.List.{take_at, drop_at, get_or_at}
use Rattle.aq_lex.specs.Tokens.{begins_otherwise, doubled, quoted, Quotes}
use Rattle.aq_lex.specs.Lexing.{front_len, quote_end, literal_len}

-- ---- options and choices

-- which way a choice went
pub chosen : {A : Type 0} (b : Bool) (x y z : A) → cond b x y ≡ z → ((b ≡ true) × (x ≡ z)) ⊎ ((b ≡ false) × (y ≡ z))
chosen true x y z e = inl (refl, e)
chosen false x y z e = inr (refl, e)

pub some_is : {A : Type 0} (x y : A) → ◌≡◌ {A = Option A} (Some x) (Some y) → x ≡ y
some_is x y e = cc

pub none_is_not : {A B : Type 0} (y : A) → ◌≡◌ {A = Option A} None (Some y) → B
none_is_not y e = absurd cc

pub mapped_some : {A B : Type 0} (f : A → B) (o : Option A) (y : B) → option_map f o ≡ Some y → (x : A) × (o ≡ Some x) × (f x ≡ y)
mapped_some f (Some x) y e = (x, refl, some_is (f x) y e)
mapped_some f None y e = none_is_not y e

pub then_some : {A B : Type 0} (f : A → Option B) (o : Option A) (y : B) → option_and_then f o ≡ Some y → (x : A) × (o ≡ Some x) × (f x ≡ Some y)
then_some f (Some x) y e = (x, refl, e)
then_some f None y e = none_is_not y e

-- ---- UTF-8

pub utf8_test : (bytes : List ℕ) → IsUtf8 bytes → is_utf8 bytes ≡ true
utf8_test bytes u = is_utf8-from_IsUtf8 bytes u

pub no_utf8_test : (bytes : List ℕ) → (IsUtf8 bytes → ⊥) → is_utf8 bytes ≡ false
no_utf8_test bytes not_utf8 = false_from_ne_true (is_utf8 bytes) (λ e. not_utf8 (IsUtf8-from_is_utf8 bytes e))

-- bytes may be parted at an ASCII byte
utf8_before : (front rest : List ℕ) (byte : ℕ) → byte < 128 → IsUtf8 (front ++ byte ∷ rest) → IsUtf8 front
utf8_before front rest byte ascii u =
    let here : get_or (front ++ byte ∷ rest) (length front) 0 ≡ byte = get_or_at front byte rest 0 (length front) refl in
    let within : length front < length (front ++ byte ∷ rest) = simp length-append (omega arith) in
    subst IsUtf8 (take_at front (byte ∷ rest) (length front) refl)
    (IsUtf8-take (front ++ byte ∷ rest) (length front) u (IsCharBoundary-before_ascii (front ++ byte ∷ rest) (length front) within (rw here ascii)))

utf8_behind : (front rest : List ℕ) (byte : ℕ) → byte < 128 → IsUtf8 (front ++ byte ∷ rest) → IsUtf8 rest
utf8_behind front rest byte ascii u =
    let here : get_or (front ++ byte ∷ rest) (length front) 0 ≡ byte = get_or_at front byte rest 0 (length front) refl in
    let within : length front < length (front ++ byte ∷ rest) = simp length-append (omega arith) in
    let parted : drop (length front + 1) (front ++ byte ∷ rest) ≡ rest =
    ap (λ (x : List ℕ). drop (length front + 1) x) (sym (append_assoc front (byte ∷ []) rest)) ∙ drop_at (front ++ byte ∷ []) rest (length front + 1) (simp length-append (omega arith)) in
    subst IsUtf8 parted
    (IsUtf8-drop (front ++ byte ∷ rest) (length front + 1) u (IsCharBoundary-after_ascii (front ++ byte ∷ rest) (length front) u within (rw here ascii)))

pub utf8_one : (byte : ℕ) → byte < 128 → IsUtf8 (byte ∷ [])
utf8_one byte ascii = subst IsUtf8 (encode_ascii byte ascii) (IsUtf8-encode byte (search (rules, arith)))

utf8_joined : (front rest : List ℕ) (byte : ℕ) → byte < 128 → IsUtf8 front → IsUtf8 rest → IsUtf8 (front ++ byte ∷ rest)
utf8_joined front rest byte ascii before after = IsUtf8-append front (byte ∷ rest) before (IsUtf8-append (byte ∷ []) rest (utf8_one byte ascii) after)

-- ---- bytes that pass a test

-- the bytes before the first that fails the test, and those from it on
pub record Cut (test : ℕ → Bool) (bytes : List ℕ) : Type 0 where
  pub front : List ℕ
  pub behind : List ℕ
  pub parts : bytes ≡ front ++ behind
  pub size : front_len test bytes ≡ length front
  pub passes : list_all test front ≡ true
  pub fails : begins_otherwise test behind ≡ true

abbrev pub cut_one : (test : ℕ → Bool) (byte : ℕ) (bytes : List ℕ) → test byte ≡ true → Cut test bytes → Cut test (byte ∷ bytes)
cut_one test byte bytes h cut = record {
  front = byte ∷ cut.front;
  behind = cut.behind;
  parts = ap (λ (x : List ℕ). byte ∷ x) cut.parts;
  size = rw h (ap (λ (n : ℕ). suc n) cut.size);
  passes = and_from (test byte) (list_all test cut.front) h cut.passes;
  fails = cut.fails;
}

pub cut_of : (test : ℕ → Bool) (bytes : List ℕ) → Cut test bytes
cut_of test [] = record { front = []; behind = []; parts = refl; size = refl; passes = refl; fails = refl }
cut_of test (byte ∷ bytes) = (elim (test byte) as (λ v. test byte ≡ v → Cut test (byte ∷ bytes)) [
  | true ↦ λ h. cut_one test byte bytes h (cut_of test bytes)
  | false ↦ λ h. record { front = []; behind = byte ∷ bytes; parts = refl; size = rw h refl; passes = refl; fails = not_from_false (test byte) h }
]) refl

pub front_again : (test : ℕ → Bool) (front behind : List ℕ) → list_all test front ≡ true → begins_otherwise test behind ≡ true → front_len test (front ++ behind) ≡ length front
front_again test [] [] passes fails = refl
front_again test [] (byte ∷ behind) passes fails = let h : test byte ≡ false = not-true (test byte) fails in rw h refl
front_again test (byte ∷ front) behind passes fails =
    let p = and_parts (test byte) (list_all test front) passes in
    rw p.0 (ap (λ (n : ℕ). suc n) (front_again test front behind p.1 fails))

-- ---- texts between quotes

pub doubled_quote : (quote byte : ℕ) (text : List ℕ) → eqb byte quote ≡ true → doubled quote (byte ∷ text) ≡ quote ∷ quote ∷ doubled quote text
doubled_quote quote byte text h = rw h refl

pub doubled_other : (quote byte : ℕ) (text : List ℕ) → eqb byte quote ≡ false → doubled quote (byte ∷ text) ≡ byte ∷ doubled quote text
doubled_other quote byte text h = rw h refl

-- UTF-8 with each quote once is UTF-8 with each quote twice, and back
utf8_once : (quote : ℕ) (front text : List ℕ) → quote < 128 → IsUtf8 (front ++ doubled quote text) → IsUtf8 (front ++ text)
utf8_once quote front [] ascii u = u
utf8_once quote front (byte ∷ text) ascii u = (elim (eqb byte quote) as (λ v. eqb byte quote ≡ v → IsUtf8 (front ++ byte ∷ text)) [
  | true ↦ λ h.
      let twice : IsUtf8 (front ++ quote ∷ quote ∷ doubled quote text) = subst (λ (x : List ℕ). IsUtf8 (front ++ x)) (doubled_quote quote byte text h) u in
      let later : IsUtf8 (quote ∷ doubled quote text) = utf8_behind front (quote ∷ doubled quote text) quote ascii twice in
      let rest : IsUtf8 (doubled quote text) = utf8_behind [] (doubled quote text) quote ascii later in
      let joined = utf8_joined front text quote ascii (utf8_before front (quote ∷ doubled quote text) quote ascii twice) (utf8_once quote [] text ascii rest) in
      subst (λ (b : ℕ). IsUtf8 (front ++ b ∷ text)) (sym (eqb-true byte quote h)) joined
  | false ↦ λ h.
      let once : IsUtf8 (front ++ byte ∷ doubled quote text) = subst (λ (x : List ℕ). IsUtf8 (front ++ x)) (doubled_other quote byte text h) u in
      let moved : IsUtf8 ((front ++ byte ∷ []) ++ doubled quote text) = subst IsUtf8 (sym (append_assoc front (byte ∷ []) (doubled quote text))) once in
      subst IsUtf8 (append_assoc front (byte ∷ []) text) (utf8_once quote (front ++ byte ∷ []) text ascii moved)
]) refl

utf8_twice : (quote : ℕ) (front text : List ℕ) → quote < 128 → IsUtf8 (front ++ text) → IsUtf8 (front ++ doubled quote text)
utf8_twice quote front [] ascii u = u
utf8_twice quote front (byte ∷ text) ascii u = (elim (eqb byte quote) as (λ v. eqb byte quote ≡ v → IsUtf8 (front ++ doubled quote (byte ∷ text))) [
  | true ↦ λ h.
      let once : IsUtf8 (front ++ quote ∷ text) = subst (λ (b : ℕ). IsUtf8 (front ++ b ∷ text)) (eqb-true byte quote h) u in
      let rest : IsUtf8 (doubled quote text) = utf8_twice quote [] text ascii (utf8_behind front text quote ascii once) in
      let joined = utf8_joined front (quote ∷ doubled quote text) quote ascii (utf8_before front text quote ascii once) (utf8_joined [] (doubled quote text) quote ascii IsUtf8-nil rest) in
      subst (λ (x : List ℕ). IsUtf8 (front ++ x)) (sym (doubled_quote quote byte text h)) joined
  | false ↦ λ h.
      let moved : IsUtf8 ((front ++ byte ∷ []) ++ text) = subst IsUtf8 (sym (append_assoc front (byte ∷ []) text)) u in
      let twice = subst IsUtf8 (append_assoc front (byte ∷ []) (doubled quote text)) (utf8_twice quote (front ++ byte ∷ []) text ascii moved) in
      subst (λ (x : List ℕ). IsUtf8 (front ++ x)) (sym (doubled_other quote byte text h)) twice
]) refl

-- the quote before the bytes, where an odd number of them stand there
abbrev pending : ℕ → Bool → List ℕ
pending quote true = quote ∷ []
pending quote false = []

record Closes (quote : ℕ) (after : Bool) (bytes : List ℕ) (len : ℕ) : Type 0 where
  text : List ℕ
  behind : List ℕ
  parts : pending quote after ++ bytes ≡ doubled quote text ++ quote ∷ behind
  size : length (pending quote after) + len ≡ length (doubled quote text) + 1
  ends : begins_otherwise (λ byte. eqb byte quote) behind ≡ true

closes_text : (quote : ℕ) (bytes : List ℕ) (len : ℕ) → begins_otherwise (λ byte. eqb byte quote) bytes ≡ true → len ≡ 0 → Closes quote true bytes len
closes_text quote bytes len ends none = record { text = []; behind = bytes; parts = refl; size = omega arith; ends = ends }

quote_takes : (quote : ℕ) (after : Bool) (bytes : List ℕ) (len : ℕ) → quote_end quote after bytes ≡ Some len → Closes quote after bytes len
quote_takes quote false [] len e = none_is_not len e
quote_takes quote true [] len e = closes_text quote [] len refl (sym (some_is 0 len e))
quote_takes quote false (byte ∷ bytes) len e =
    let m = mapped_some (λ len. suc len) (quote_end quote (eqb byte quote) bytes) len e in
    (elim (eqb byte quote) as (λ v. eqb byte quote ≡ v → quote_end quote v bytes ≡ Some m.0 → Closes quote false (byte ∷ bytes) len) [
      | true ↦ λ h f.
          let later = quote_takes quote true bytes m.0 f in
          record {
            text = later.text;
            behind = later.behind;
            parts = ap (λ (b : ℕ). b ∷ bytes) (eqb-true byte quote h) ∙ later.parts;
            size = omega (arith, later.size, m.2);
            ends = later.ends;
          }
      | false ↦ λ h f.
          let later = quote_takes quote false bytes m.0 f in
          record {
            text = byte ∷ later.text;
            behind = later.behind;
            parts = ap (λ (x : List ℕ). byte ∷ x) later.parts ∙ ap (λ (x : List ℕ). x ++ quote ∷ later.behind) (sym (doubled_other quote byte later.text h));
            size = rw (doubled_other quote byte later.text h) (omega (arith, later.size, m.2));
            ends = later.ends;
          }
    ]) refl m.1
quote_takes quote true (byte ∷ bytes) len e =
    elim (chosen (eqb byte quote) (option_map (λ len. suc len) (quote_end quote false bytes)) (Some 0) (Some len) e) [
      | inl g ↦
          let m = mapped_some (λ len. suc len) (quote_end quote false bytes) len g.1 in
          let later = quote_takes quote false bytes m.0 m.1 in
          record {
            text = quote ∷ later.text;
            behind = later.behind;
            parts = ap (λ (b : ℕ). quote ∷ b ∷ bytes) (eqb-true byte quote g.0) ∙ ap (λ (x : List ℕ). quote ∷ quote ∷ x) later.parts
                ∙ ap (λ (x : List ℕ). x ++ quote ∷ later.behind) (sym (doubled_quote quote quote later.text (eq-eqb quote quote refl)));
            size = rw (doubled_quote quote quote later.text (eq-eqb quote quote refl)) (omega (arith, later.size, m.2));
            ends = later.ends;
          }
      | inr g ↦ closes_text quote (byte ∷ bytes) len (not_from_false (eqb byte quote) g.0) (sym (some_is 0 len g.1))
    ]

quote_last : (quote : ℕ) (behind : List ℕ) → begins_otherwise (λ byte. eqb byte quote) behind ≡ true → quote_end quote true behind ≡ Some 0
quote_last quote [] ends = refl
quote_last quote (byte ∷ behind) ends = let h : eqb byte quote ≡ false = not-true (eqb byte quote) ends in rw h refl

quote_again : (quote : ℕ) (text behind : List ℕ) → begins_otherwise (λ byte. eqb byte quote) behind ≡ true
    → quote_end quote false (doubled quote text ++ quote ∷ behind) ≡ Some (suc (length (doubled quote text)))
quote_again quote [] behind ends = let h : eqb quote quote ≡ true = eq-eqb quote quote refl in rw (h, quote_last quote behind ends) refl
quote_again quote (byte ∷ text) behind ends = (elim (eqb byte quote) as (λ v. eqb byte quote ≡ v → quote_end quote false (doubled quote (byte ∷ text) ++ quote ∷ behind) ≡ Some (suc (length (doubled quote (byte ∷ text))))) [
  | true ↦ λ h.
      let same : eqb quote quote ≡ true = eq-eqb quote quote refl in
      rw (doubled_quote quote byte text h, same, same, quote_again quote text behind ends) refl
  | false ↦ λ h. rw (doubled_other quote byte text h, h, quote_again quote text behind ends) refl
]) refl

-- the bytes behind a quote are a text and the quote that ends it
pub record Literal (quote : ℕ) (bytes : List ℕ) (len : ℕ) : Type 0 where
  pub text : List ℕ
  pub behind : List ℕ
  pub parts : quote ∷ bytes ≡ quoted quote text ++ behind
  pub size : len ≡ length (quoted quote text)
  pub quotes : Quotes quote text (quoted quote text) behind

pub quoted_behind : (quote : ℕ) (text behind : List ℕ) → quoted quote text ++ behind ≡ quote ∷ (doubled quote text ++ quote ∷ behind)
quoted_behind quote text behind = ap (λ (x : List ℕ). quote ∷ x) (append_assoc (doubled quote text) (quote ∷ []) behind)

pub quoted_length : (quote : ℕ) (text : List ℕ) → length (quoted quote text) ≡ length (doubled quote text) + 2
quoted_length quote text = simp length-append (omega arith)

pub literal_takes : (quote : ℕ) (bytes : List ℕ) (len : ℕ) → quote < 128 → literal_len quote bytes ≡ Some len → Literal quote bytes len
literal_takes quote bytes len ascii e =
    let t = then_some (λ len. cond (is_utf8 (take (len - 1) bytes)) (Some (suc len)) None) (quote_end quote false bytes) len e in
    let closes = quote_takes quote false bytes t.0 t.1 in
    elim (chosen (is_utf8 (take (t.0 - 1) bytes)) (Some (suc t.0)) None (Some len) t.2) [
      | inl g ↦
          let inside : take (t.0 - 1) bytes ≡ doubled quote closes.text =
          ap (λ (x : List ℕ). take (t.0 - 1) x) closes.parts ∙ take_at (doubled quote closes.text) (quote ∷ closes.behind) (t.0 - 1) (omega (arith, closes.size)) in
          let utf8 : IsUtf8 (doubled quote closes.text) = subst IsUtf8 inside (IsUtf8-from_is_utf8 (take (t.0 - 1) bytes) g.0) in
          record {
            text = closes.text;
            behind = closes.behind;
            parts = ap (λ (x : List ℕ). quote ∷ x) closes.parts ∙ sym (quoted_behind quote closes.text closes.behind);
            size = omega (arith, some_is _ _ g.1, closes.size, quoted_length quote closes.text);
            quotes = record { spelled = refl; utf8 = utf8_once quote [] closes.text ascii utf8; ends = closes.ends };
          }
      | inr g ↦ none_is_not len g.1
    ]

pub literal_again : (quote : ℕ) (text bytes behind : List ℕ) → quote < 128 → Quotes quote text bytes behind
    → literal_len quote (doubled quote text ++ quote ∷ behind) ≡ Some (length (quoted quote text))
literal_again quote text bytes behind ascii quotes =
    let inside : take (length (doubled quote text)) (doubled quote text ++ quote ∷ behind) ≡ doubled quote text = take_at (doubled quote text) (quote ∷ behind) (length (doubled quote text)) refl in
    let utf8 : is_utf8 (doubled quote text) ≡ true = is_utf8-from_IsUtf8 (doubled quote text) (utf8_twice quote [] text ascii quotes.utf8) in
    let less : suc (length (doubled quote text)) - 1 ≡ length (doubled quote text) = omega arith in
    let size : suc (suc (length (doubled quote text))) ≡ length (quoted quote text) = omega (arith, quoted_length quote text) in
    rw (quote_again quote text behind quotes.ends, less, inside, utf8, size) refl
