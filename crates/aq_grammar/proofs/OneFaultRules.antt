-- At one place a rule refuses with one fault, where what it refuses behind a whole part begins otherwise than what is refused there beside it.
use Rattle.std.proofs.Common.{◌≡◌, ℕ, zero, suc, ◌≤◌, max, Bool, true, ◌&&◌, List, [], ◌∷◌, ◌++◌, if◌then◌else◌, Option, refl, subst, inl, inr, arith}
use Rattle.std.proofs.lemmas.Bool.{and_parts}
use Rattle.std.proofs.Math.Nat.{le-max_left, le-max_right}
use Rattle.aq_base.specs.Names.{Text as Bytes}
use Rattle.aq_base.specs.declared.fault.SqlFault.{SqlFault}
use Rattle.aq_lex.specs.Lexemes.{PlacedLexeme}
use Rattle.aq_grammar.specs.Terminals.{Terminal, is_of, begins}
use Rattle.aq_grammar.specs.Rules.{Nonterminal, ValueOf, Refusal, Rule, Done, Token, Both, Either, Many, Differing, Call, Unless, Limited, Form, Bar, SpellsOther, SpellsBy, BarsBy}
use Rattle.aq_grammar.specs.Sets.{Marks, of_other, marks_by, is_fit_by, heads, are_apart}
use Rattle.aq_grammar.specs.Calls.{Rules, AreFit, Called, BarredWithin, BarsCalled}
use Rattle.aq_grammar.proofs.Languages.{HasMarks, IsSpelled}
use Rattle.aq_grammar.proofs.Apart.{begins_front, begins_behind}
use Rattle.aq_grammar.proofs.Keeping.{begins_if, empty_since, refusals_open, IsIntroduction, AreRepeated, fit_both, fit_either, fit_many, fit_differing, fit_unless, fit_limited, keeps_other}
use Rattle.aq_grammar.proofs.Beginning.{some_other, begins_other, barred_other, has_marks_by}
use Rattle.aq_grammar.proofs.RightBoth.{BothFit}
use Rattle.aq_grammar.proofs.RightFit.{both_of_marks, kinds_many}
use Rattle.aq_grammar.proofs.Fixpoint.{IsPartOfBar, bars_part_by, called_is}
use Rattle.aq_grammar.proofs.Called.{called_has}
use Rattle.aq_grammar.proofs.Each.{BarsEach, EachFit, each_fit, each_has}
use Rattle.aq_grammar.proofs.RefusedAt.{HasOneFault}
use Rattle.aq_grammar.proofs.OneFault.{ClosesSo, apart_begins, one_both, closes_both, one_either, closes_either, one_each, closes_each, one_next, closes_next, one_unless}

-- the kinds of tokens with which begins what is refused behind a whole form of the rule
abbrev pub closes_by : (Nonterminal → List Terminal) → (Nonterminal → Marks) → {A : Type 0} → Rule A → List Terminal
closes_by closes marks (Done x) = []
closes_by closes marks (Token kind f) = []
closes_by closes marks (Both f a b) = (if (marks_by marks b).is_empty then closes_by closes marks a else []) ++ closes_by closes marks b
closes_by closes marks (Either kinds a b) = closes_by closes marks a ++ closes_by closes marks b
closes_by closes marks (Many kinds refusals f a) = heads refusals ++ closes_by closes marks a
closes_by closes marks (Differing f a name kinds b) = closes_by closes marks a
closes_by closes marks (Call nonterminal f) = closes nonterminal
closes_by closes marks (Unless refusals a) = (if (marks_by marks a).is_empty then heads refusals else []) ++ closes_by closes marks a
closes_by closes marks (Limited most limit a) = (marks_by marks a).goes_on ++ closes_by closes marks a

-- no two parts of the rule refuse at one place
abbrev pub refuses_once_by : (Nonterminal → List Terminal) → (Nonterminal → Marks) → {A : Type 0} → Rule A → Bool
refuses_once_by closes marks (Done x) = true
refuses_once_by closes marks (Token kind f) = true
refuses_once_by closes marks (Both f a b) = refuses_once_by closes marks a && refuses_once_by closes marks b && are_apart (closes_by closes marks a) (marks_by marks b).opens
refuses_once_by closes marks (Either kinds a b) = refuses_once_by closes marks a && refuses_once_by closes marks b
refuses_once_by closes marks (Many kinds refusals f a) = refuses_once_by closes marks a && are_apart (closes_by closes marks a) (heads refusals)
refuses_once_by closes marks (Differing f a name kinds b) = refuses_once_by closes marks a
refuses_once_by closes marks (Call nonterminal f) = true
refuses_once_by closes marks (Unless refusals a) = refuses_once_by closes marks a && are_apart (heads refusals) (marks_by marks a).opens
refuses_once_by closes marks (Limited most limit a) = refuses_once_by closes marks a

-- forms one after the other that refuse nothing else behind others
abbrev alike : {A : Type 0} → Unit {0} → A → Unit {0}
alike before x = tt

module _ (calls : (n : Nonterminal) → Form (ValueOf n)) (bars : Nonterminal → Bar) (marks : Nonterminal → Marks)
    (has_marks : (n : Nonterminal) → HasMarks (calls n) (bars n) (marks n)) where
  has : {A : Type 0} (r : Rule A) → is_fit_by marks r ≡ true → HasMarks (SpellsBy calls r) (BarsBy calls bars r) (marks_by marks r)
  has r fit = has_marks_by calls bars marks has_marks r fit

  both_fits : {A B C : Type 0} (f : A → B → C) (a : Rule A) (b : Rule B) → is_fit_by marks (Both f a b) ≡ true
      → BothFit (SpellsBy calls a) (λ x. SpellsBy calls b) (BarsBy calls bars a) (λ x. BarsBy calls bars b)
  both_fits f a b fit =
      let (first, second, fits) = fit_both marks f a b fit in
      both_of_marks (SpellsBy calls a) (λ x. SpellsBy calls b) (BarsBy calls bars a) (λ x. BarsBy calls bars b) (marks_by marks a) (marks_by marks b) (has a first) (λ x. has b second) fits

  other_has : {A : Type 0} (r : Rule A) (name : Bytes) → is_fit_by marks r ≡ true → IsIntroduction (marks_by marks r)
      → HasMarks (SpellsOther (SpellsBy calls r) name) (BarsBy calls bars r) (of_other (marks_by marks r))
  other_has r name fit is =
      record {
        keeps = keeps_other (SpellsBy calls r) (BarsBy calls bars r) (marks_by marks r) (has r fit).keeps is name;
        some = some_other (SpellsBy calls r) name;
        begins_so = begins_other (SpellsBy calls r) name (marks_by marks r) (has r fit).begins_so is.whole;
        barred = barred_other (SpellsBy calls r) (BarsBy calls bars r) name (has r fit).barred;
      }

  differing_fit : {A B C : Type 0} (f : A → Option Bytes → C) (a : Rule A) (name : A → Bytes) (kinds : List Terminal) (b : Rule B) → is_fit_by marks (Differing f a name kinds b) ≡ true
      → BothFit (SpellsBy calls a) (λ x. SpellsOther (SpellsBy calls b) (name x)) (BarsBy calls bars a) (λ x. BarsBy calls bars b)
  differing_fit f a name kinds b fit =
      let (first, second, fits) = fit_differing marks f a name kinds b fit in
      both_of_marks (SpellsBy calls a) (λ x. SpellsOther (SpellsBy calls b) (name x)) (BarsBy calls bars a) (λ x. BarsBy calls bars b) (marks_by marks a) (of_other (marks_by marks b))
      (has a first) (λ x. other_has b (name x) second fits.introduction) fits.fit

  -- the second of the two refuses nothing
  no_bars_of_other : {A B C : Type 0} (f : A → Option Bytes → C) (a : Rule A) (name : A → Bytes) (kinds : List Terminal) (b : Rule B)
      → is_fit_by marks (Differing f a name kinds b) ≡ true → (v rest : List PlacedLexeme) (fault : SqlFault) → BarsBy calls bars b v rest fault → ⊥
  no_bars_of_other f a name kinds b fit =
      let (first, second, fits) = fit_differing marks f a name kinds b fit in
      (has b second).keeps.plain fits.introduction.plain

  many_repeated : {A B : Type 0} (kinds : List Terminal) (refusals : List Refusal) (f : List A → B) (a : Rule A) → is_fit_by marks (Many kinds refusals f a) ≡ true
      → AreRepeated refusals (marks_by marks a)
  many_repeated kinds refusals f a fit = (fit_many marks kinds refusals f a fit).1

  many_fits : {A B : Type 0} (kinds : List Terminal) (refusals : List Refusal) (f : List A → B) (a : Rule A) → is_fit_by marks (Many kinds refusals f a) ≡ true
      → EachFit kinds alike (λ before. refusals) (SpellsBy calls a) (λ before. BarsBy calls bars a)
  many_fits kinds refusals f a fit =
      each_fit alike (λ before. refusals) (SpellsBy calls a) (λ before. BarsBy calls bars a) (marks_by marks a) (λ before. has a (fit_many marks kinds refusals f a fit).0)
      (λ before. many_repeated kinds refusals f a fit) kinds (kinds_many marks kinds refusals f a fit)

  many_opened : {A B : Type 0} (kinds : List Terminal) (refusals : List Refusal) (f : List A → B) (a : Rule A) → is_fit_by marks (Many kinds refusals f a) ≡ true
      → (rest : List PlacedLexeme) (fault : SqlFault) → BarsEach alike (λ before. refusals) (SpellsBy calls a) (λ before. BarsBy calls bars a) tt [] rest fault
      → begins (heads refusals) rest ≡ true
  many_opened kinds refusals f a fit =
      (each_has alike (λ before. refusals) (SpellsBy calls a) (λ before. BarsBy calls bars a) (marks_by marks a) (λ before. has a (fit_many marks kinds refusals f a fit).0)
      (λ before. many_repeated kinds refusals f a fit) tt).keeps.opened

  module _ (closes : Nonterminal → List Terminal) (closed : (n : Nonterminal) → ClosesSo (calls n) (bars n) (closes n)) where
    pub closes_rule : {A : Type 0} (r : Rule A) → is_fit_by marks r ≡ true → ClosesSo (SpellsBy calls r) (BarsBy calls bars r) (closes_by closes marks r)
    closes_rule (Done y) fit x u rest fault s bar = absurd bar
    closes_rule (Token kind f) fit x u rest fault s bar = absurd bar
    closes_rule (Both f a b) fit x u rest fault s bar =
        let (first, second, fits) = fit_both marks f a b fit in
        let behind_first = closes_by closes marks a in
        closes_both f (SpellsBy calls a) (λ y. SpellsBy calls b) (BarsBy calls bars a) (λ y. BarsBy calls bars b) (both_fits f a b fit) (λ y z v t w e more why barred. barred)
        (λ behind. begins (closes_by closes marks (Both f a b)) behind ≡ true)
        (λ y z v behind why t empty barred.
        begins_front (if (marks_by marks b).is_empty then behind_first else []) (closes_by closes marks b) behind
        (begins_if (marks_by marks b).is_empty behind_first behind (empty_since (has b second).keeps z empty) (closes_rule a first y v behind why t barred)))
        (λ y z v behind why t barred.
        begins_behind (if (marks_by marks b).is_empty then behind_first else []) (closes_by closes marks b) behind (closes_rule b second z v behind why t barred))
        x u rest fault s bar
    closes_rule (Either kinds a b) fit x u rest fault s bar =
        let (first, second, fits) = fit_either marks kinds a b fit in
        closes_either (SpellsBy calls a) (SpellsBy calls b) (BarsBy calls bars a) (BarsBy calls bars b) (marks_by marks a) (marks_by marks b) (has a first) (has b second) fits
        (λ behind. begins (closes_by closes marks a ++ closes_by closes marks b) behind ≡ true)
        (λ y v behind why t barred. begins_front (closes_by closes marks a) (closes_by closes marks b) behind (closes_rule a first y v behind why t barred))
        (λ y v behind why t barred. begins_behind (closes_by closes marks a) (closes_by closes marks b) behind (closes_rule b second y v behind why t barred))
        x u rest fault s bar
    closes_rule (Many kinds refusals f a) fit x u rest fault (xs, s, e) bar =
        let (first, repeated) = fit_many marks kinds refusals f a fit in
        closes_each kinds alike (λ before. refusals) (SpellsBy calls a) (λ before. BarsBy calls bars a) (many_fits kinds refusals f a fit)
        (λ behind. begins (heads refusals ++ closes_by closes marks a) behind ≡ true)
        (λ before y v behind why t barred. begins_behind (heads refusals) (closes_by closes marks a) behind (closes_rule a first y v behind why t barred))
        (λ before behind why is. begins_front (heads refusals) (closes_by closes marks a) behind (refusals_open refusals behind why repeated.worded is))
        xs tt u rest fault s bar
    closes_rule (Differing f a name kinds b) fit x u rest fault s bar =
        closes_both f (SpellsBy calls a) (λ y. SpellsOther (SpellsBy calls b) (name y)) (BarsBy calls bars a) (λ y. BarsBy calls bars b) (differing_fit f a name kinds b fit)
        (λ y z v t w e more why barred. barred) (λ behind. begins (closes_by closes marks a) behind ≡ true)
        (λ y z v behind why t empty barred. closes_rule a (fit_differing marks f a name kinds b fit).0 y v behind why t barred)
        (λ y z v behind why t barred. absurd (no_bars_of_other f a name kinds b fit v behind why barred))
        x u rest fault s bar
    closes_rule (Call nonterminal f) fit x u rest fault (y, s, e) bar = closed nonterminal y u rest fault s bar
    closes_rule (Unless refusals a) fit x u rest fault s (inl here) =
        let (first, worded) = fit_unless marks refusals a fit in
        begins_front (if (marks_by marks a).is_empty then heads refusals else []) (closes_by closes marks a) rest
        (begins_if (marks_by marks a).is_empty (heads refusals) rest (empty_since (has a first).keeps x (subst (λ (w : List PlacedLexeme). SpellsBy calls a x w) here.0 s))
        (refusals_open refusals rest fault worded here.1))
    closes_rule (Unless refusals a) fit x u rest fault s (inr bar) =
        begins_behind (if (marks_by marks a).is_empty then heads refusals else []) (closes_by closes marks a) rest (closes_rule a (fit_unless marks refusals a fit).0 x u rest fault s bar)
    closes_rule (Limited most limit a) fit x u rest fault s (inl bar) =
        let (first, plain, some) = fit_limited marks most limit a fit in
        begins_front (marks_by marks a).goes_on (closes_by closes marks a) rest
        (closes_next most limit (SpellsBy calls a) (marks_by marks a) (BarsBy calls bars a) (has a first) x u rest fault s bar)
    closes_rule (Limited most limit a) fit x u rest fault s (inr bar) =
        begins_behind (marks_by marks a).goes_on (closes_by closes marks a) rest (closes_rule a (fit_limited marks most limit a fit).0 x u rest fault s bar)

    module _ (one_called : (n : Nonterminal) → HasOneFault (bars n)) where
      pub one_rule : {A : Type 0} (r : Rule A) → is_fit_by marks r ≡ true → refuses_once_by closes marks r ≡ true → HasOneFault (BarsBy calls bars r)
      one_rule (Done x) fit once u rest one two bar other = absurd bar
      one_rule (Token kind f) fit once u rest one two bar other = absurd bar
      one_rule (Both f a b) fit once u rest one two bar other =
          let (first, second, fits) = fit_both marks f a b fit in
          let (parts, apart) = and_parts (refuses_once_by closes marks a && refuses_once_by closes marks b) (are_apart (closes_by closes marks a) (marks_by marks b).opens) once in
          let (once_first, once_second) = and_parts (refuses_once_by closes marks a) (refuses_once_by closes marks b) parts in
          one_both f (SpellsBy calls a) (λ y. SpellsBy calls b) (BarsBy calls bars a) (λ y. BarsBy calls bars b) (both_fits f a b fit) (λ y z v t w e more why barred. barred)
          (λ y v behind why because t barred barred_second.
          apart_begins (closes_by closes marks a) (marks_by marks b).opens behind apart (closes_rule a first y v behind why t barred) ((has b second).keeps.opened behind because barred_second))
          (one_rule a first once_first) (λ y. one_rule b second once_second) u rest one two bar other
      one_rule (Either kinds a b) fit once u rest one two bar other =
          let (first, second, fits) = fit_either marks kinds a b fit in
          let (once_first, once_second) = and_parts (refuses_once_by closes marks a) (refuses_once_by closes marks b) once in
          one_either (SpellsBy calls a) (SpellsBy calls b) (BarsBy calls bars a) (BarsBy calls bars b) (marks_by marks a) (marks_by marks b) (has a first) (has b second) fits
          (one_rule a first once_first) (one_rule b second once_second) u rest one two bar other
      one_rule (Many kinds refusals f a) fit once u rest one two bar other =
          let first = (fit_many marks kinds refusals f a fit).0 in
          let (once_first, apart) = and_parts (refuses_once_by closes marks a) (are_apart (closes_by closes marks a) (heads refusals)) once in
          one_each kinds alike (λ before. refusals) (SpellsBy calls a) (λ before. BarsBy calls bars a) (many_fits kinds refusals f a fit) (λ before x y v s t. refl)
          (λ before y v behind why because t barred barred_next.
          apart_begins (closes_by closes marks a) (heads refusals) behind apart (closes_rule a first y v behind why t barred) (many_opened kinds refusals f a fit behind because barred_next))
          (λ before. one_rule a first once_first) tt u rest one two bar other
      one_rule (Differing f a name kinds b) fit once u rest one two (inl bar) (inl other) = one_rule a (fit_differing marks f a name kinds b fit).0 once u rest one two bar other
      one_rule (Differing f a name kinds b) fit once u rest one two (inr bar) other = absurd (no_bars_of_other f a name kinds b fit bar.1 rest one bar.5)
      one_rule (Differing f a name kinds b) fit once u rest one two (inl bar) (inr other) = absurd (no_bars_of_other f a name kinds b fit other.1 rest two other.5)
      one_rule (Call nonterminal f) fit once u rest one two bar other = one_called nonterminal u rest one two bar other
      one_rule (Unless refusals a) fit once u rest one two bar other =
          let (first, worded) = fit_unless marks refusals a fit in
          let (once_first, apart) = and_parts (refuses_once_by closes marks a) (are_apart (heads refusals) (marks_by marks a).opens) once in
          one_unless refusals (BarsBy calls bars a)
          (λ behind why because here barred.
          apart_begins (heads refusals) (marks_by marks a).opens behind apart (refusals_open refusals behind why worded here) ((has a first).keeps.opened behind because barred))
          (one_rule a first once_first) u rest one two bar other
      one_rule (Limited most limit a) fit once u rest one two (inl bar) (inl other) = one_next most limit (SpellsBy calls a) u rest one two bar other
      one_rule (Limited most limit a) fit once u rest one two (inr bar) other =
          let (first, plain, some) = fit_limited marks most limit a fit in absurd ((has a first).keeps.plain plain u rest one bar)
      one_rule (Limited most limit a) fit once u rest one two (inl bar) (inr other) =
          let (first, plain, some) = fit_limited marks most limit a fit in absurd ((has a first).keeps.plain plain u rest two other)

-- ---- the rules that lead back to themselves, by the number of calls around a place

-- with more calls no less is refused
barred_within_part : (rules : Rules) (most more : ℕ) → most ≤ more → (n : Nonterminal) → IsPartOfBar (BarredWithin rules most n) (BarredWithin rules more n)
barred_within_part rules zero more less n u rest fault bar = absurd bar
barred_within_part rules (suc most) zero less n u rest fault bar = absurd (omega arith)
barred_within_part rules (suc most) (suc more) less n u rest fault bar =
    bars_part_by (Called rules) (Called rules) (BarredWithin rules most) (BarredWithin rules more) (λ m y v s. s) (barred_within_part rules most more (omega arith)) (rules n) u rest fault bar

module _ (rules : Rules) (marks : Nonterminal → Marks) (fits : AreFit rules marks) (some : (n : Nonterminal) → IsSpelled (Called rules n)) (closes : Nonterminal → List Terminal)
    (close_so : (n : Nonterminal) (token : PlacedLexeme) → is_of (closes_by closes marks (rules n)) token ≡ true → is_of (closes n) token ≡ true)
    (once : (n : Nonterminal) → refuses_once_by closes marks (rules n) ≡ true) where
  within_has : (most : ℕ) (n : Nonterminal) → HasMarks (Called rules n) (BarredWithin rules most n) (marks n)
  within_has most n =
      let all = called_has rules marks fits some n in
      record {
        keeps =
            record {
              begun = all.keeps.begun;
              gone_on = all.keeps.gone_on;
              not_empty = all.keeps.not_empty;
              opened = λ rest fault bar. all.keeps.opened rest fault (most, bar);
              plain = λ e u rest fault bar. all.keeps.plain e u rest fault (most, bar);
            };
        some = all.some;
        begins_so = all.begins_so;
        barred = λ u rest fault bar. all.barred u rest fault (most, bar);
      }

  close_begins : (n : Nonterminal) (rest : List PlacedLexeme) → begins (closes_by closes marks (rules n)) rest ≡ true → begins (closes n) rest ≡ true
  close_begins n [] h = cc
  close_begins n (token ∷ rest) h = close_so n token h

  within_closes : (most : ℕ) (n : Nonterminal) → ClosesSo (Called rules n) (BarredWithin rules most n) (closes n)
  within_closes zero n x u rest fault s bar = absurd bar
  within_closes (suc most) n x u rest fault s bar =
      close_begins n rest
      (closes_rule (Called rules) (BarredWithin rules most) marks (within_has most) closes (within_closes most) (rules n) (fits.fit n) x u rest fault ((called_is rules n x u).0 s) bar)

  within_one : (most : ℕ) (n : Nonterminal) → HasOneFault (BarredWithin rules most n)
  within_one zero n u rest one two bar other = absurd bar
  within_one (suc most) n u rest one two bar other =
      one_rule (Called rules) (BarredWithin rules most) marks (within_has most) closes (within_closes most) (within_one most) (rules n) (fits.fit n) (once n) u rest one two bar other

  called_closes : (n : Nonterminal) → ClosesSo (Called rules n) (BarsCalled rules n) (closes n)
  called_closes n x u rest fault s (most, bar) = within_closes most n x u rest fault s bar

  called_one : (n : Nonterminal) → HasOneFault (BarsCalled rules n)
  called_one n u rest one two (most, bar) (more, other) =
      within_one (max most more) n u rest one two
      (barred_within_part rules most (max most more) (le-max_left most more) n u rest one bar)
      (barred_within_part rules more (max most more) (le-max_right most more) n u rest two other)

  -- of any fit rule over the nonterminals
  pub closes_of_rule : {A : Type 0} (r : Rule A) → is_fit_by marks r ≡ true → ClosesSo (SpellsBy (Called rules) r) (BarsBy (Called rules) (BarsCalled rules) r) (closes_by closes marks r)
  closes_of_rule r fit = closes_rule (Called rules) (BarsCalled rules) marks (called_has rules marks fits some) closes called_closes r fit

  pub one_of_rule : {A : Type 0} (r : Rule A) → is_fit_by marks r ≡ true → refuses_once_by closes marks r ≡ true → HasOneFault (BarsBy (Called rules) (BarsCalled rules) r)
  one_of_rule r fit is = one_rule (Called rules) (BarsCalled rules) marks (called_has rules marks fits some) closes called_closes called_one r fit is
