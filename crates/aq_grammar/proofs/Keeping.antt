-- A rule whose parts keep their marks, and where one token of lookahead is enough, keeps its own.
use Rattle.std.proofs.Common.{cond, Option, Some, None, ◌≡◌, ℕ, Bool, true, false, not, ◌&&◌, List, [], ◌∷◌, ◌++◌, if◌then◌else◌, Option, Some, None, refl, sym, ap, subst, ◌∙◌, append_assoc, ◌⊎◌, inl, inr, nat_le}
use Rattle.std.proofs.lemmas.Bool.{both_ways, not-true, and_parts, and_from, and_right, or_left, true_from_ne_false}
use Rattle.aq_base.specs.Names.{Text as Bytes, same_text, is_short}
use Rattle.aq_base.specs.declared.fault.SqlFault.{SqlFault}
use Rattle.aq_lex.specs.Lexemes.{PlacedLexeme, Lexeme, Word, QuotedName}
use Rattle.aq_grammar.specs.Terminals.{Terminal, Name, NameBut, fits, is_of, begins, begin_with, text_of, is_name_word, is_of_kind}
use Rattle.aq_grammar.specs.Rules.{Nonterminal, ValueOf, Refusal, Rule, Done, Token, Both, Either, Many, Differing, Call, Unless, Limited, Form, SpellsNothing, SpellsToken, SpellsBoth, SpellsEach, SpellsMany, SpellsCalled, SpellsOther, SpellsBy, Begins, Bar, BarsNone, IsRefused, BarsHere, BarsBoth, BarsMany, BarsNext, BarsBy, refused}
use Rattle.aq_grammar.specs.Sets.{are_apart, same_kinds, no_kinds, no_refusals, heads, have_words, Marks, of_nothing, of_token, of_both, of_either, of_many, of_other, of_unless, of_limited, marks_by, both_fit, either_fits, many_fit, differing_fits, is_fit_by}
use Rattle.aq_grammar.proofs.Languages.{KeepsMarks}
use Rattle.aq_grammar.proofs.Cuts.{Compared, Same, Longer, Shorter, compare, parts_of_nothing, move_one}
use Rattle.aq_grammar.proofs.Apart.{are_apart_sound, is_of_front, is_of_behind, begins_front, begins_behind, no_kinds_begin}

-- kinds that are there in one case alone
pub is_of_if : (test : Bool) (kinds : List Terminal) (token : PlacedLexeme) → test ≡ true → is_of kinds token ≡ true → is_of (if test then kinds else []) token ≡ true
is_of_if true kinds token e h = h
is_of_if false kinds token e h = cc

pub begins_if : (test : Bool) (kinds : List Terminal) (tokens : List PlacedLexeme) → test ≡ true → begins kinds tokens ≡ true
    → begins (if test then kinds else []) tokens ≡ true
begins_if true kinds tokens e h = h
begins_if false kinds tokens e h = cc

module _ {A : Type 0} {Spelled : Form A} {bars : Bar} {marks : Marks} (keeps : KeepsMarks Spelled bars marks) where
  pub empty_since : (x : A) → Spelled x [] → marks.is_empty ≡ true
  empty_since x h = true_from_ne_false marks.is_empty (λ e. keeps.not_empty e x h)

  pub begun_by : (x : A) (token : PlacedLexeme) (u : List PlacedLexeme) → Spelled x (token ∷ u) → is_of marks.begins token ≡ true
  begun_by x token u h = keeps.begun token [] (u, x, h)

  -- a whole goes on to a longer one
  pub goes_on_by : (x y : A) (front : List PlacedLexeme) (token : PlacedLexeme) (u : List PlacedLexeme) → Spelled x front → Spelled y (front ++ token ∷ u)
      → is_of marks.goes_on token ≡ true
  goes_on_by x y front token u h k = keeps.gone_on x front token h (u, y, subst (Spelled y) (sym (move_one front token u)) k)

regrouped : (u front behind : List PlacedLexeme) (token : PlacedLexeme) (more : List PlacedLexeme) → u ≡ front ++ behind → front ++ (behind ++ token ∷ more) ≡ u ++ token ∷ more
regrouped u front behind token more e = sym (append_assoc front behind (token ∷ more)) ∙ ap (λ (v : List PlacedLexeme). v ++ token ∷ more) (sym e)

no_end : (u : List PlacedLexeme) (token : PlacedLexeme) (v : List PlacedLexeme) → [] ≡ u ++ token ∷ v → ⊥
no_end [] token v e = cc
no_end (other ∷ u) token v e = cc

-- five tests at once
five_parts : (a b c d e : Bool) → (a && b && c && d && e) ≡ true → (a ≡ true) × (b ≡ true) × (c ≡ true) × (d ≡ true) × (e ≡ true)
five_parts true true true true true h = (refl, refl, refl, refl, refl)
five_parts a b c d e h = cc

three_parts : (a b c : Bool) → (a && b && c) ≡ true → (a ≡ true) × (b ≡ true) × (c ≡ true)
three_parts true true true h = (refl, refl, refl)
three_parts a b c h = cc

-- No token, and one token.
module _ {A : Type 0} (x : A) where
  nothing_begun : (token : PlacedLexeme) (u : List PlacedLexeme) → Begins (SpellsNothing x) (token ∷ u) → is_of [] token ≡ true
  nothing_begun token u (behind, y, (e, d)) = cc

  nothing_gone_on : (y : A) (u : List PlacedLexeme) (token : PlacedLexeme) → SpellsNothing x y u → Begins (SpellsNothing x) (u ++ token ∷ []) → is_of [] token ≡ true
  nothing_gone_on y [] token h (behind, z, (e, d)) = cc
  nothing_gone_on y (other ∷ u) token h (behind, z, (e, d)) = cc

  pub keeps_nothing : KeepsMarks (SpellsNothing x) BarsNone of_nothing
  keeps_nothing = record { begun = nothing_begun; gone_on = nothing_gone_on; not_empty = λ n y h. cc; opened = λ rest fault h. absurd h; plain = λ n u rest fault h. h }

module _ {A : Type 0} (kind : Terminal) (f : PlacedLexeme → A) where
  token_begun : (token : PlacedLexeme) (u : List PlacedLexeme) → Begins (SpellsToken kind f) (token ∷ u) → is_of (kind ∷ []) token ≡ true
  token_begun token u (behind, y, (other, h, e, d)) =
      let same : other ≡ token = cc in
      or_left (fits kind token) false (subst (λ t. fits kind t ≡ true) same h)

  token_gone_on : (y : A) (u : List PlacedLexeme) (token : PlacedLexeme) → SpellsToken kind f y u → Begins (SpellsToken kind f) (u ++ token ∷ []) → is_of [] token ≡ true
  token_gone_on y [] token (first, h, e, d) k = cc
  token_gone_on y (first ∷ []) token h (behind, z, (other, k, e, d)) = cc
  token_gone_on y (first ∷ second ∷ u) token h (behind, z, (other, k, e, d)) = cc

  pub keeps_token : KeepsMarks (SpellsToken kind f) BarsNone (of_token kind)
  keeps_token = record { begun = token_begun; gone_on = token_gone_on; not_empty = λ n y h. let e = h.3 in cc; opened = λ rest fault h. absurd h; plain = λ n u rest fault h. h }

-- The one and then the other.
module _ {A B C : Type 0} (f : A → B → C) (First : Form A) (first : Bar) (Second : Form B) (second : Bar) (a b : Marks)
    (keeps : KeepsMarks First first a) (follows : KeepsMarks Second second b) (fit : both_fit a b ≡ true) where
  both_begun_at : (token : PlacedLexeme) (u front behind : List PlacedLexeme) (x : A) (z : B) → First x front → Second z behind → token ∷ u ≡ front ++ behind
      → is_of (of_both a b).begins token ≡ true
  both_begun_at token u [] behind x z h k e =
      is_of_behind a.begins _ token (is_of_if a.is_empty b.begins token (empty_since keeps x h) (begun_by follows z token u (subst (Second z) (sym e) k)))
  both_begun_at token u (other ∷ front) behind x z h k e =
      let same : token ≡ other = cc in
      is_of_front a.begins _ token (begun_by keeps x token front (subst (λ t. First x (t ∷ front)) (sym same) h))

  -- the first goes on with no token with which the second begins
  crossed : (token : PlacedLexeme) → is_of a.goes_on token ≡ true → is_of b.begins token ≡ true → ⊥
  crossed token h k = are_apart_sound a.goes_on (b.begins ++ b.opens) token fit h (is_of_front b.begins b.opens token k)

  longer_first : (x : A) (z : B) (front behind : List PlacedLexeme) (token other : PlacedLexeme) (u more rest : List PlacedLexeme) → First x front → Second z behind
      → is_of a.goes_on other ≡ true → behind ++ token ∷ u ≡ other ∷ more ++ rest → is_of (of_both a b).goes_on token ≡ true
  longer_first x z front [] token other u more rest h k g e =
      let same : other ≡ token = cc in
      is_of_front _ b.goes_on token
      (is_of_if b.is_empty (a.goes_on ++ b.begins) token (empty_since follows z k) (is_of_front a.goes_on b.begins token (subst (λ t. is_of a.goes_on t ≡ true) same g)))
  longer_first x z front (last ∷ behind) token other u more rest h k g e =
      let same : last ≡ other = cc in
      absurd (crossed other g (begun_by follows z other behind (subst (λ t. Second z (t ∷ behind)) same k)))

  both_gone_on_at : (x y : A) (z w : B) (front behind other rest : List PlacedLexeme) (token : PlacedLexeme) (u : List PlacedLexeme) → First x front → Second z behind → First y other
      → Second w rest
      → Compared front (behind ++ token ∷ u) other rest → is_of (of_both a b).goes_on token ≡ true
  both_gone_on_at x y z w front behind other rest token u h k p q (Same e d) =
      is_of_behind _ b.goes_on token (goes_on_by follows z w behind token u k (subst (Second w) (sym d) q))
  both_gone_on_at x y z w front behind other rest token u h k p q (Longer t more e d) =
      absurd (crossed t (goes_on_by keeps y x other t more p (subst (First x) e h)) (begun_by follows w t (more ++ (behind ++ token ∷ u)) (subst (Second w) d q)))
  both_gone_on_at x y z w front behind other rest token u h k p q (Shorter t more e d) =
      longer_first x z front behind token t u more rest h k (goes_on_by keeps x y front t more h (subst (First y) e p)) d

  both_begun : (token : PlacedLexeme) (u : List PlacedLexeme) → Begins (SpellsBoth f First (λ x. Second)) (token ∷ u) → is_of (of_both a b).begins token ≡ true
  both_begun token u (behind, y, (front, rest, x, z, h, k, e, d)) = both_begun_at token (u ++ behind) front rest x z h k e

  both_gone_on : (y : C) (u : List PlacedLexeme) (token : PlacedLexeme) → SpellsBoth f First (λ x. Second) y u → Begins (SpellsBoth f First (λ x. Second)) (u ++ token ∷ [])
      → is_of (of_both a b).goes_on token ≡ true
  both_gone_on y u token (front, behind, x, z, h, k, e, d) (more, y', (other, rest, x', z', p, q, c, g)) =
      both_gone_on_at x x' z z' front behind other rest token more h k p q
      (compare front (behind ++ token ∷ more) other rest (regrouped u front behind token more e ∙ sym (move_one u token more) ∙ c))

  both_not_empty : (of_both a b).is_empty ≡ false → (y : C) → SpellsBoth f First (λ x. Second) y [] → ⊥
  both_not_empty n y (front, behind, x, z, h, k, e, d) =
      let (p, q) = parts_of_nothing front behind e in
      both_ways (a.is_empty && b.is_empty) n (and_from a.is_empty b.is_empty (empty_since keeps x (subst (First x) p h)) (empty_since follows z (subst (Second z) q k)))

  both_opened : (rest : List PlacedLexeme) (fault : SqlFault) → BarsBoth First first (λ x. second) [] rest fault → begins (of_both a b).opens rest ≡ true
  both_opened rest fault (inl h) = begins_front a.opens _ rest (keeps.opened rest fault h)
  both_opened rest fault (inr (front, behind, x, h, e, k)) =
      let (p, q) = parts_of_nothing front behind e in
      begins_behind a.opens _ rest
      (begins_if a.is_empty b.opens rest (empty_since keeps x (subst (First x) p h)) (follows.opened rest fault (subst (λ v. second v rest fault) q k)))

  both_plain : (of_both a b).is_plain ≡ true → (u rest : List PlacedLexeme) (fault : SqlFault) → BarsBoth First first (λ x. second) u rest fault → ⊥
  both_plain n u rest fault (inl h) = keeps.plain (and_parts a.is_plain b.is_plain n).0 u rest fault h
  both_plain n u rest fault (inr (front, behind, x, h, e, k)) = follows.plain (and_parts a.is_plain b.is_plain n).1 behind rest fault k

  pub keeps_both : KeepsMarks (SpellsBoth f First (λ x. Second)) (BarsBoth First first (λ x. second)) (of_both a b)
  keeps_both = record { begun = both_begun; gone_on = both_gone_on; not_empty = both_not_empty; opened = both_opened; plain = both_plain }

-- The one or the other.
abbrev pub SpellsEither : {A : Type 0} → Form A → Form A → Form A
SpellsEither First Second y u = First y u ⊎ Second y u

abbrev pub BarsEither : Bar → Bar → Bar
BarsEither first second u rest fault = first u rest fault ⊎ second u rest fault

-- the first isn't empty, and no token begins both
pub record AreDistinct (a b : Marks) : Type 0 where
  pub whole : a.is_empty ≡ false
  pub apart : are_apart a.begins b.begins ≡ true
  pub first_opens_none : no_kinds a.opens ≡ true
  pub second_opens_none : no_kinds b.opens ≡ true

pub are_distinct : (kinds : List Terminal) (a b : Marks) → either_fits kinds a b ≡ true → AreDistinct a b
are_distinct kinds a b fit =
    let parts = five_parts (not a.is_empty) (same_kinds kinds a.begins) (are_apart a.begins b.begins) (no_kinds a.opens) (no_kinds b.opens) fit in
    record { whole = not-true a.is_empty parts.0; apart = parts.2; first_opens_none = parts.3; second_opens_none = parts.4 }

module _ {A : Type 0} (First : Form A) (first : Bar) (Second : Form A) (second : Bar) (a b : Marks)
    (keeps : KeepsMarks First first a) (follows : KeepsMarks Second second b) (fit : AreDistinct a b) where
  either_begun : (token : PlacedLexeme) (u : List PlacedLexeme) → Begins (SpellsEither First Second) (token ∷ u) → is_of (of_either a b).begins token ≡ true
  either_begun token u (behind, y, inl h) = is_of_front a.begins b.begins token (keeps.begun token u (behind, y, h))
  either_begun token u (behind, y, inr h) = is_of_behind a.begins b.begins token (follows.begun token u (behind, y, h))

  both_begin : (x y : A) (token : PlacedLexeme) (u v : List PlacedLexeme) → First x (token ∷ u) → Second y (token ∷ v) → ⊥
  both_begin x y token u v h k = are_apart_sound a.begins b.begins token fit.apart (begun_by keeps x token u h) (begun_by follows y token v k)

  either_gone_on : (y : A) (u : List PlacedLexeme) (token : PlacedLexeme) → SpellsEither First Second y u → Begins (SpellsEither First Second) (u ++ token ∷ [])
      → is_of (of_either a b).goes_on token ≡ true
  either_gone_on y u token (inl h) (behind, z, inl k) = is_of_front _ b.goes_on token (is_of_behind _ a.goes_on token (keeps.gone_on y u token h (behind, z, k)))
  either_gone_on y u token (inr h) (behind, z, inr k) = is_of_behind _ b.goes_on token (follows.gone_on y u token h (behind, z, k))
  either_gone_on y [] token (inl h) (behind, z, inr k) = absurd (keeps.not_empty fit.whole y h)
  either_gone_on y (other ∷ u) token (inl h) (behind, z, inr k) = absurd (both_begin y z other _ _ h k)
  either_gone_on y [] token (inr h) (behind, z, inl k) =
      let first = is_of_front a.begins b.begins token (begun_by keeps z token behind k) in
      is_of_front _ b.goes_on token (is_of_front _ a.goes_on token (is_of_if b.is_empty (a.begins ++ b.begins) token (empty_since follows y h) first))
  either_gone_on y (other ∷ u) token (inr h) (behind, z, inl k) = absurd (both_begin z y other _ _ k h)

  either_not_empty : (of_either a b).is_empty ≡ false → (y : A) → SpellsEither First Second y [] → ⊥
  either_not_empty n y (inl h) = keeps.not_empty fit.whole y h
  either_not_empty n y (inr h) = follows.not_empty n y h

  either_opened : (rest : List PlacedLexeme) (fault : SqlFault) → BarsEither first second [] rest fault → begins (of_either a b).opens rest ≡ true
  either_opened rest fault (inl h) = absurd (no_kinds_begin a.opens rest fit.first_opens_none (keeps.opened rest fault h))
  either_opened rest fault (inr h) = absurd (no_kinds_begin b.opens rest fit.second_opens_none (follows.opened rest fault h))

  either_plain : (of_either a b).is_plain ≡ true → (u rest : List PlacedLexeme) (fault : SqlFault) → BarsEither first second u rest fault → ⊥
  either_plain n u rest fault (inl h) = keeps.plain (and_parts a.is_plain b.is_plain n).0 u rest fault h
  either_plain n u rest fault (inr h) = follows.plain (and_parts a.is_plain b.is_plain n).1 u rest fault h

  pub keeps_either : KeepsMarks (SpellsEither First Second) (BarsEither first second) (of_either a b)
  keeps_either = record { begun = either_begun; gone_on = either_gone_on; not_empty = either_not_empty; opened = either_opened; plain = either_plain }

-- Any number of them.
pub record AreRepeated (refusals : List Refusal) (a : Marks) : Type 0 where
  pub whole : a.is_empty ≡ false
  pub apart : are_apart a.goes_on (a.begins ++ heads refusals) ≡ true
  pub opens_none : no_kinds a.opens ≡ true
  pub worded : have_words refusals ≡ true

pub are_repeated : (kinds : List Terminal) (refusals : List Refusal) (a : Marks) → many_fit kinds refusals a ≡ true → AreRepeated refusals a
are_repeated kinds refusals a fit =
    let parts = five_parts (not a.is_empty) (same_kinds kinds a.begins) (are_apart a.goes_on (a.begins ++ heads refusals)) (no_kinds a.opens) (have_words refusals) fit in
    record { whole = not-true a.is_empty parts.0; apart = parts.2; opens_none = parts.3; worded = parts.4 }

-- the first token of a refusal is one of the heads
words_open : (words : List Terminal) (fault : SqlFault) (others : List Refusal) (rest : List PlacedLexeme) → not (no_kinds words) ≡ true → begin_with words rest ≡ true
    → begins (heads (record { words = words; fault = fault } ∷ others)) rest ≡ true
words_open [] fault others rest n h = cc
words_open (kind ∷ words) fault others [] n h = cc
words_open (kind ∷ words) fault others (token ∷ rest) n h = or_left (fits kind token) _ (and_parts (fits kind token) (begin_with words rest) h).0

others_open : (words : List Terminal) (fault : SqlFault) (others : List Refusal) (rest : List PlacedLexeme) → begins (heads others) rest ≡ true
    → begins (heads (record { words = words; fault = fault } ∷ others)) rest ≡ true
others_open [] fault others rest h = h
others_open (kind ∷ words) fault others rest h = begins_behind (kind ∷ []) (heads others) rest h

refusals_open_at : (refusal : Refusal) (others : List Refusal) (rest : List PlacedLexeme) (fault : SqlFault) (b : Bool) → begin_with refusal.words rest ≡ b
    → not (no_kinds refusal.words) ≡ true → (IsRefused others rest fault → begins (heads others) rest ≡ true)
    → cond b (Some refusal.fault) (refused others rest) ≡ Some fault → begins (heads (refusal ∷ others)) rest ≡ true
refusals_open_at refusal others rest fault true is worded more e = words_open refusal.words refusal.fault others rest worded is
refusals_open_at refusal others rest fault false is worded more e = others_open refusal.words refusal.fault others rest (more e)

pub refusals_open : (refusals : List Refusal) (rest : List PlacedLexeme) (fault : SqlFault) → have_words refusals ≡ true → IsRefused refusals rest fault
    → begins (heads refusals) rest ≡ true
refusals_open [] rest fault n h = absurd cc
refusals_open (refusal ∷ others) rest fault n h =
    let (worded, all_worded) = and_parts (not (no_kinds refusal.words)) (have_words others) n in
    refusals_open_at refusal others rest fault (begin_with refusal.words rest) refl worded (refusals_open others rest fault all_worded) h

pub no_refusals_refuse : (refusals : List Refusal) (rest : List PlacedLexeme) (fault : SqlFault) → no_refusals refusals ≡ true → IsRefused refusals rest fault → ⊥
no_refusals_refuse [] rest fault n h = cc
no_refusals_refuse (refusal ∷ others) rest fault n h = cc

module _ {A B : Type 0} (f : List A → B) (refusals : List Refusal) (Spelled : Form A) (bar : Bar) (a : Marks) (keeps : KeepsMarks Spelled bar a)
    (fit : AreRepeated refusals a) where
  first_begun : (x : A) (token : PlacedLexeme) (u front behind : List PlacedLexeme) → Spelled x front → token ∷ u ≡ front ++ behind → is_of a.begins token ≡ true
  first_begun x token u [] behind h e = absurd (keeps.not_empty fit.whole x h)
  first_begun x token u (other ∷ front) behind h e =
      let same : other ≡ token = cc in
      begun_by keeps x token front (subst (λ t. Spelled x (t ∷ front)) same h)

  each_begun : (xs : List A) (token : PlacedLexeme) (u : List PlacedLexeme) → SpellsEach Spelled xs (token ∷ u) → is_of a.begins token ≡ true
  each_begun [] token u h = cc
  each_begun (x ∷ xs) token u (front, behind, h, k, e) = first_begun x token u front behind h e

  -- one of them goes on with no token with which the next begins
  crossed_next : (token : PlacedLexeme) → is_of a.goes_on token ≡ true → is_of a.begins token ≡ true → ⊥
  crossed_next token h k = are_apart_sound a.goes_on (a.begins ++ heads refusals) token fit.apart h (is_of_front a.begins (heads refusals) token k)

  longer_next : (xs : List A) (behind : List PlacedLexeme) (token other : PlacedLexeme) (u more rest : List PlacedLexeme) → SpellsEach Spelled xs behind
      → is_of a.goes_on other ≡ true → behind ++ token ∷ u ≡ other ∷ more ++ rest → is_of (a.begins ++ a.goes_on) token ≡ true
  longer_next xs [] token other u more rest k g e =
      let same : other ≡ token = cc in
      is_of_behind a.begins a.goes_on token (subst (λ t. is_of a.goes_on t ≡ true) same g)
  longer_next xs (last ∷ behind) token other u more rest k g e =
      let same : last ≡ other = cc in
      absurd (crossed_next other g (each_begun xs other behind (subst (λ t. SpellsEach Spelled xs (t ∷ behind)) same k)))

  each_gone_on : (xs ys : List A) (u : List PlacedLexeme) (token : PlacedLexeme) (v w : List PlacedLexeme) → SpellsEach Spelled xs u → SpellsEach Spelled ys w → w ≡ u ++ token ∷ v
      → is_of (a.begins ++ a.goes_on) token ≡ true
  each_gone_on [] ys u token v w h k e =
      let first : w ≡ token ∷ v = e ∙ ap (λ (front : List PlacedLexeme). front ++ token ∷ v) h in
      is_of_front a.begins a.goes_on token (each_begun ys token v (subst (SpellsEach Spelled ys) first k))
  each_gone_on (x ∷ xs) [] u token v w h k e = absurd (no_end u token v (sym k ∙ e))
  each_gone_on (x ∷ xs) (y ∷ ys) u token v w (front, behind, h, k, e) (other, rest, p, q, d) c =
      elim (compare front (behind ++ token ∷ v) other rest (regrouped u front behind token v e ∙ sym c ∙ d)) [
        | Same g i ↦ each_gone_on xs ys behind token v rest k q (sym i)
        | Longer t more g i ↦
            let next = each_begun ys t (more ++ (behind ++ token ∷ v)) (subst (SpellsEach Spelled ys) i q) in
            absurd (crossed_next t (goes_on_by keeps y x other t more p (subst (Spelled x) g h)) next)
        | Shorter t more g i ↦ longer_next xs behind token t v more rest k (goes_on_by keeps x y front t more h (subst (Spelled y) g p)) i
      ]

  many_begun : (token : PlacedLexeme) (u : List PlacedLexeme) → Begins (SpellsMany f Spelled) (token ∷ u) → is_of (of_many refusals a).begins token ≡ true
  many_begun token u (behind, y, (xs, h, e)) = each_begun xs token (u ++ behind) h

  many_gone_on : (y : B) (u : List PlacedLexeme) (token : PlacedLexeme) → SpellsMany f Spelled y u → Begins (SpellsMany f Spelled) (u ++ token ∷ [])
      → is_of (of_many refusals a).goes_on token ≡ true
  many_gone_on y u token (xs, h, e) (behind, z, (ys, k, d)) = each_gone_on xs ys u token behind ((u ++ token ∷ []) ++ behind) h k (move_one u token behind)

  many_opened : (rest : List PlacedLexeme) (fault : SqlFault) → BarsMany refusals Spelled bar [] rest fault → begins (of_many refusals a).opens rest ≡ true
  many_opened rest fault (front, behind, xs, h, e, inl k) =
      absurd (no_kinds_begin a.opens rest fit.opens_none (keeps.opened rest fault (subst (λ v. bar v rest fault) (parts_of_nothing front behind e).1 k)))
  many_opened rest fault (front, behind, xs, h, e, inr k) = refusals_open refusals rest fault fit.worded k.1

  many_plain : (of_many refusals a).is_plain ≡ true → (u rest : List PlacedLexeme) (fault : SqlFault) → BarsMany refusals Spelled bar u rest fault → ⊥
  many_plain n u rest fault (front, behind, xs, h, e, inl k) = keeps.plain (and_parts a.is_plain (no_refusals refusals) n).0 behind rest fault k
  many_plain n u rest fault (front, behind, xs, h, e, inr k) = no_refusals_refuse refusals rest fault (and_parts a.is_plain (no_refusals refusals) n).1 k.1

  pub keeps_many : KeepsMarks (SpellsMany f Spelled) (BarsMany refusals Spelled bar) (of_many refusals a)
  keeps_many = record { begun = many_begun; gone_on = many_gone_on; not_empty = λ n y h. cc; opened = many_opened; plain = many_plain }

-- Rules that add refusals alone, and a rule that is called.
module _ {A : Type 0} (Spelled : Form A) (bars : Bar) (a : Marks) (keeps : KeepsMarks Spelled bars a) where
  module _ (refusals : List Refusal) (worded : have_words refusals ≡ true) where
    unless_opened : (rest : List PlacedLexeme) (fault : SqlFault) → BarsEither (BarsHere refusals) bars [] rest fault → begins (of_unless refusals a).opens rest ≡ true
    unless_opened rest fault (inl h) = begins_front (heads refusals) a.opens rest (refusals_open refusals rest fault worded h.1)
    unless_opened rest fault (inr h) = begins_behind (heads refusals) a.opens rest (keeps.opened rest fault h)

    pub keeps_unless : KeepsMarks Spelled (BarsEither (BarsHere refusals) bars) (of_unless refusals a)
    keeps_unless = record { begun = keeps.begun; gone_on = keeps.gone_on; not_empty = keeps.not_empty; opened = unless_opened; plain = λ n u rest fault h. cc }

  module _ (most : ℕ) (limit : SqlFault) where
    limited_opened : (rest : List PlacedLexeme) (fault : SqlFault) → BarsEither (BarsNext most limit Spelled) bars [] rest fault → begins (of_limited a).opens rest ≡ true
    limited_opened rest fault (inl h) = absurd h
    limited_opened rest fault (inr h) = keeps.opened rest fault h

    pub keeps_limited : KeepsMarks Spelled (BarsEither (BarsNext most limit Spelled) bars) (of_limited a)
    keeps_limited = record { begun = keeps.begun; gone_on = keeps.gone_on; not_empty = keeps.not_empty; opened = limited_opened; plain = λ n u rest fault h. cc }

  module _ {B : Type 0} (f : A → B) where
    called_begins : (u : List PlacedLexeme) → Begins (SpellsCalled f Spelled) u → Begins Spelled u
    called_begins u (behind, y, (x, h, e)) = (behind, x, h)

    pub keeps_called : KeepsMarks (SpellsCalled f Spelled) bars (record a { is_guarded = false })
    keeps_called =
        record {
          begun = λ token u h. keeps.begun token u (called_begins (token ∷ u) h);
          gone_on = λ y u token h k. keeps.gone_on h.0 u token h.1 (called_begins (u ++ token ∷ []) k);
          not_empty = λ n y h. keeps.not_empty n h.0 h.1;
          opened = keeps.opened;
          plain = keeps.plain;
        }

-- What is spelled so is spelled in the other way too, as another tree perhaps.
abbrev pub IsWithin : {A B : Type 0} → Form A → Form B → Type 0
IsWithin {A} {B} Less More = (x : A) (u : List PlacedLexeme) → Less x u → (y : B) × More y u

abbrev pub IsBarredWithin : Bar → Bar → Type 0
IsBarredWithin less more = (u rest : List PlacedLexeme) (fault : SqlFault) → less u rest fault → more u rest fault

module _ {A B : Type 0} {Less : Form A} {More : Form B} {less more : Bar} {a : Marks} (keeps : KeepsMarks More more a) (within : IsWithin Less More)
    (barred : IsBarredWithin less more) where
  more_begin : (u : List PlacedLexeme) → Begins Less u → Begins More u
  more_begin u (behind, x, h) = let (y, k) = within x (u ++ behind) h in (behind, y, k)

  pub keeps_within : KeepsMarks Less less a
  keeps_within =
      record {
        begun = λ token u h. keeps.begun token u (more_begin (token ∷ u) h);
        gone_on = λ x u token h k. keeps.gone_on (within x u h).0 u token (within x u h).1 (more_begin (u ++ token ∷ []) k);
        not_empty = λ n x h. keeps.not_empty n (within x [] h).0 (within x [] h).1;
        opened = λ rest fault h. keeps.opened rest fault (barred [] rest fault h);
        plain = λ n u rest fault h. keeps.plain n u rest fault (barred u rest fault h);
      }

other_lexeme_is_name : (name : Bytes) (lexeme : Lexeme) → is_of_kind (NameBut name) lexeme ≡ true → is_of_kind Name lexeme ≡ true
other_lexeme_is_name name (Word text) h = and_from (is_name_word text) true (and_parts (is_name_word text) (not (same_text text name)) h).0 refl
other_lexeme_is_name name (QuotedName text) h = and_from (is_short text) true (and_parts (is_short text) (not (same_text text name)) h).0 refl
other_lexeme_is_name name lexeme h = cc

-- A name that differs from another is a name.
pub other_is_name : (name : Bytes) (token : PlacedLexeme) → fits (NameBut name) token ≡ true → fits Name token ≡ true
other_is_name name token h = other_lexeme_is_name name token.lexeme h

abbrev pub SpellsAnyOther : {B : Type 0} → Form B → Form (Option Bytes)
SpellsAnyOther Spelled = SpellsEither (SpellsBoth (λ b text. Some text) Spelled (λ b. SpellsToken Name text_of)) (SpellsNothing None)

abbrev pub BarsAnyOther : {B : Type 0} → Form B → Bar → Bar
BarsAnyOther Spelled bars = BarsEither (BarsBoth Spelled bars (λ b. BarsNone)) BarsNone

pub other_within : {B : Type 0} (Spelled : Form B) (name : Bytes) → IsWithin (SpellsOther Spelled name) (SpellsAnyOther Spelled)
other_within Spelled name y u (inl h) = (y, inr h)
other_within Spelled name y u (inr (front, behind, x, text, h, (token, k, e, d), c, g)) = (y, inl (front, behind, x, text, h, (token, other_is_name name token k, e, d), c, g))

-- what introduces the name isn't empty, does not go on with a name, and refuses nothing
pub record IsIntroduction (b : Marks) : Type 0 where
  pub whole : b.is_empty ≡ false
  pub fit : both_fit b (of_token Name) ≡ true
  pub opens_none : no_kinds b.opens ≡ true
  pub plain : b.is_plain ≡ true

pub record AreDiffering (a b : Marks) : Type 0 where
  pub introduction : IsIntroduction b
  pub fit : both_fit a (of_other b) ≡ true

pub are_differing : (kinds : List Terminal) (a b : Marks) → differing_fits kinds a b ≡ true → AreDiffering a b
are_differing kinds a b h =
    let (front, fit) = and_parts (not b.is_empty && same_kinds kinds b.begins && both_fit b (of_token Name) && no_kinds b.opens && b.is_plain) (both_fit a (of_other b)) h in
    let parts = five_parts (not b.is_empty) (same_kinds kinds b.begins) (both_fit b (of_token Name)) (no_kinds b.opens) b.is_plain front in
    record { introduction = record { whole = not-true b.is_empty parts.0; fit = parts.2; opens_none = parts.3; plain = parts.4 }; fit = fit }

apart_from_none : (kinds : List Terminal) → are_apart kinds [] ≡ true
apart_from_none [] = refl
apart_from_none (kind ∷ kinds) = apart_from_none kinds

name_opens_none : (opens : List Terminal) (test : Bool) → no_kinds opens ≡ true → no_kinds (opens ++ (if test then [] else [])) ≡ true
name_opens_none [] true h = refl
name_opens_none [] false h = refl
name_opens_none (kind ∷ kinds) test h = cc

name_distinct : (b : Marks) → IsIntroduction b → AreDistinct (of_both b (of_token Name)) of_nothing
name_distinct b is =
    record {
      whole = and_right b.is_empty false refl;
      apart = apart_from_none (of_both b (of_token Name)).begins;
      first_opens_none = name_opens_none b.opens b.is_empty is.opens_none;
      second_opens_none = refl;
    }

module _ {B : Type 0} (Spelled : Form B) (bars : Bar) (b : Marks) (keeps : KeepsMarks Spelled bars b) (is : IsIntroduction b) where
  keeps_any_other : KeepsMarks (SpellsAnyOther Spelled) (BarsAnyOther Spelled bars) (of_other b)
  keeps_any_other =
      keeps_either _ _ _ _ (of_both b (of_token Name)) of_nothing
      (keeps_both (λ b text. Some text) Spelled bars (SpellsToken Name text_of) BarsNone b (of_token Name) keeps (keeps_token Name text_of) is.fit)
      (keeps_nothing None) (name_distinct b is)

  pub keeps_other : (name : Bytes) → KeepsMarks (SpellsOther Spelled name) bars (of_other b)
  keeps_other name = keeps_within keeps_any_other (other_within Spelled name) (λ u rest fault h. inl (inl h))

-- a second form that hangs on the first's tree lies within one that does not
pub both_within : {A B C D E : Type 0} (f : A → B → C) (g : A → D → E) (First : Form A) (Second : A → Form B) (More : Form D) → ((x : A) → IsWithin (Second x) More)
    → IsWithin (SpellsBoth f First Second) (SpellsBoth g First (λ x. More))
both_within f g First Second More within y u (front, behind, x, z, h, k, e, d) =
    let (w, l) = within x z behind k in
    (g x w, (front, behind, x, w, h, l, e, refl))

bars_both_within : {A : Type 0} (First : Form A) (first : Bar) (second : A → Bar) (more : Bar) → ((x : A) → IsBarredWithin (second x) more)
    → IsBarredWithin (BarsBoth First first second) (BarsBoth First first (λ x. more))
bars_both_within First first second more within u rest fault (inl h) = inl h
bars_both_within First first second more within u rest fault (inr (front, behind, x, h, e, k)) = inr (front, behind, x, h, e, within x behind rest fault k)

-- The one and then the other, whose form hangs on what the one is: the forms for all of these lie within one that keeps the marks.
pub keeps_hanging : {A B C D : Type 0} (f : A → B → C) (First : Form A) (first : Bar) (Second : A → Form B) (second : A → Bar) (More : Form D) (more : Bar) (a b : Marks)
    → KeepsMarks First first a → KeepsMarks More more b → ((x : A) → IsWithin (Second x) More) → ((x : A) → IsBarredWithin (second x) more) → both_fit a b ≡ true
    → KeepsMarks (SpellsBoth f First Second) (BarsBoth First first second) (of_both a b)
keeps_hanging f First first Second second More more a b keeps follows within barred fit =
    keeps_within (keeps_both (λ x z. z) First first More more a b keeps follows fit) (both_within f (λ x z. z) First Second More within)
    (bars_both_within First first second more barred)

pub keeps_differing : {A B C : Type 0} (f : A → Option Bytes → C) (First : Form A) (first : Bar) (name : A → Bytes) (Second : Form B) (second : Bar) (a b : Marks)
    → KeepsMarks First first a → KeepsMarks Second second b → AreDiffering a b
    → KeepsMarks (SpellsBoth f First (λ x. SpellsOther Second (name x))) (BarsBoth First first (λ x. second)) (of_both a (of_other b))
keeps_differing f First first name Second second a b keeps follows fit =
    keeps_hanging f First first _ _ (SpellsAnyOther Second) (BarsAnyOther Second second) a (of_other b) keeps (keeps_any_other Second second b follows fit.introduction)
    (λ x. other_within Second (name x)) (λ x u rest fault h. inl (inl h)) fit.fit

-- What a fit rule says of its parts.
module _ (marks : Nonterminal → Marks) where
  pub fit_both : {A B C : Type 0} (f : A → B → C) (a : Rule A) (b : Rule B) → is_fit_by marks (Both f a b) ≡ true
      → (is_fit_by marks a ≡ true) × (is_fit_by marks b ≡ true) × (both_fit (marks_by marks a) (marks_by marks b) ≡ true)
  fit_both f a b fit = three_parts (is_fit_by marks a) (is_fit_by marks b) (both_fit (marks_by marks a) (marks_by marks b)) fit

  pub fit_either : {A : Type 0} (kinds : List Terminal) (a b : Rule A) → is_fit_by marks (Either kinds a b) ≡ true
      → (is_fit_by marks a ≡ true) × (is_fit_by marks b ≡ true) × AreDistinct (marks_by marks a) (marks_by marks b)
  fit_either kinds a b fit =
      let parts = three_parts (is_fit_by marks a) (is_fit_by marks b) (either_fits kinds (marks_by marks a) (marks_by marks b)) fit in
      (parts.0, parts.1, are_distinct kinds (marks_by marks a) (marks_by marks b) parts.2)

  pub fit_many : {A B : Type 0} (kinds : List Terminal) (refusals : List Refusal) (f : List A → B) (a : Rule A) → is_fit_by marks (Many kinds refusals f a) ≡ true
      → (is_fit_by marks a ≡ true) × AreRepeated refusals (marks_by marks a)
  fit_many kinds refusals f a fit =
      let (first, fits) = and_parts (is_fit_by marks a) (many_fit kinds refusals (marks_by marks a)) fit in
      (first, are_repeated kinds refusals (marks_by marks a) fits)

  pub fit_differing : {A B C : Type 0} (f : A → Option Bytes → C) (a : Rule A) (name : A → Bytes) (kinds : List Terminal) (b : Rule B) → is_fit_by marks (Differing f a name kinds b) ≡ true
      → (is_fit_by marks a ≡ true) × (is_fit_by marks b ≡ true) × AreDiffering (marks_by marks a) (marks_by marks b)
  fit_differing f a name kinds b fit =
      let parts = three_parts (is_fit_by marks a) (is_fit_by marks b) (differing_fits kinds (marks_by marks a) (marks_by marks b)) fit in
      (parts.0, parts.1, are_differing kinds (marks_by marks a) (marks_by marks b) parts.2)

  pub fit_unless : {A : Type 0} (refusals : List Refusal) (a : Rule A) → is_fit_by marks (Unless refusals a) ≡ true → (is_fit_by marks a ≡ true) × (have_words refusals ≡ true)
  fit_unless refusals a fit = and_parts (is_fit_by marks a) (have_words refusals) fit

  pub fit_limited : {A : Type 0} (most : ℕ) (limit : SqlFault) (a : Rule A) → is_fit_by marks (Limited most limit a) ≡ true
      → (is_fit_by marks a ≡ true) × ((marks_by marks a).is_plain ≡ true) × (nat_le 1 most ≡ true)
  fit_limited most limit a fit = three_parts (is_fit_by marks a) (marks_by marks a).is_plain (nat_le 1 most) fit

-- Every rule that is fit keeps its marks.
module _ (calls : (n : Nonterminal) → Form (ValueOf n)) (bars : Nonterminal → Bar) (marks : Nonterminal → Marks)
    (keeps : (n : Nonterminal) → KeepsMarks (calls n) (bars n) (marks n)) where
  pub keeps_by : {A : Type 0} (r : Rule A) → is_fit_by marks r ≡ true → KeepsMarks (SpellsBy calls r) (BarsBy calls bars r) (marks_by marks r)
  keeps_by (Done x) fit = keeps_nothing x
  keeps_by (Token kind f) fit = keeps_token kind f
  keeps_by (Both f a b) fit =
      let (first, second, fits) = fit_both marks f a b fit in
      keeps_both f _ _ _ _ _ _ (keeps_by a first) (keeps_by b second) fits
  keeps_by (Either kinds a b) fit =
      let (first, second, fits) = fit_either marks kinds a b fit in
      keeps_either _ _ _ _ _ _ (keeps_by a first) (keeps_by b second) fits
  keeps_by (Many kinds refusals f a) fit =
      let (first, fits) = fit_many marks kinds refusals f a fit in
      keeps_many f refusals _ _ _ (keeps_by a first) fits
  keeps_by (Differing f a name kinds b) fit =
      let (first, second, fits) = fit_differing marks f a name kinds b fit in
      keeps_differing f _ _ name _ _ _ _ (keeps_by a first) (keeps_by b second) fits
  keeps_by (Call nonterminal f) fit = keeps_called _ _ _ (keeps nonterminal) f
  keeps_by (Unless refusals a) fit =
      let (first, worded) = fit_unless marks refusals a fit in
      keeps_unless _ _ _ (keeps_by a first) refusals worded
  keeps_by (Limited most limit a) fit = keeps_limited _ _ _ (keeps_by a (fit_limited marks most limit a fit).0) most limit
