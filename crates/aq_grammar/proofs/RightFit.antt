-- Where one token of lookahead is enough by their marks, forms fit one another.
use Rattle.std.proofs.Common.{◌≡◌, Bool, true, false, not, ◌&&◌, List, [], ◌∷◌, ◌++◌, Option, refl, sym, ◌∙◌}
use Rattle.std.proofs.lemmas.Bool.{and_parts}
use Rattle.aq_base.specs.Names.{Text as Bytes}
use Rattle.aq_lex.specs.Lexemes.{PlacedLexeme}
use Rattle.aq_grammar.specs.Terminals.{Terminal, Name, is_of}
use Rattle.aq_grammar.specs.Rules.{Nonterminal, Rule, Either, Many, Differing, Form, Bar, Begins, Refusal, SpellsEach, SpellsMany, BarsMany}
use Rattle.aq_grammar.specs.Sets.{Marks, marks_by, is_fit_by, are_apart, same_kinds, no_kinds, heads, have_words, both_fit, either_fits, many_fit, differing_fits, of_token, of_many, of_other}
use Rattle.aq_grammar.proofs.Languages.{HasMarks}
use Rattle.aq_grammar.proofs.Apart.{are_apart_sound, same_kinds_sound, is_of_front, is_of_behind, no_kinds_begin}
use Rattle.aq_grammar.proofs.Keeping.{AreDistinct, AreRepeated, keeps_many, keeps_within}
use Rattle.aq_grammar.proofs.Beginning.{begins_many, barred_many}
use Rattle.aq_grammar.proofs.RightChoice.{EitherFit}
use Rattle.aq_grammar.proofs.RightBoth.{BothFit}
use Rattle.aq_grammar.proofs.RightMany.{StartsWith}

pub both_of_marks : {A B : Type 0} (First : Form A) (Second : A → Form B) (first : Bar) (second : A → Bar) (a b : Marks)
    → HasMarks First first a → ((x : A) → HasMarks (Second x) (second x) b) → both_fit a b ≡ true → BothFit First Second first second
both_of_marks First Second first second a b has follows fit =
    record {
      apart =
          λ x front token behind s more begun.
          are_apart_sound a.goes_on (b.begins ++ b.opens) token fit (has.keeps.gone_on x front token s more)
          (is_of_front b.begins b.opens token ((follows x).keeps.begun token behind begun));
      quiet =
          λ x front token rest fault s more bar.
          are_apart_sound a.goes_on (b.begins ++ b.opens) token fit (has.keeps.gone_on x front token s more)
          (is_of_behind b.begins b.opens token ((follows x).keeps.opened (token ∷ rest) fault bar));
      barred = has.barred;
      barred_second = λ x. (follows x).barred;
      some_second = λ x. (follows x).some;
    }

-- any number of a form with these marks
module _ {A : Type 0} (refusals : List Refusal) (Spelled : Form A) (bars : Bar) (a : Marks) (has : HasMarks Spelled bars a) (fit : AreRepeated refusals a) where
  each_begins : (u : List PlacedLexeme) → Begins (SpellsMany (λ xs. xs) Spelled) u → Begins (SpellsEach Spelled) u
  each_begins u b = (b.0, b.2.0, b.2.1)

  each_has : HasMarks (SpellsEach Spelled) (BarsMany refusals Spelled bars) (of_many refusals a)
  each_has =
      let begin = begins_many (λ xs. xs) refusals Spelled a has.begins_so in
      record {
        keeps = keeps_within (keeps_many (λ xs. xs) refusals Spelled bars a has.keeps fit) (λ xs u s. (xs, (xs, s, refl))) (λ u rest fault bar. bar);
        some = ([], [], refl);
        begins_so = record { begin = λ token is. each_begins (token ∷ []) (begin.begin token is); empty = λ e. ([], refl) };
        barred = λ u rest fault bar. each_begins u (barred_many (λ xs. xs) refusals Spelled bars has.barred u rest fault bar);
      }

  pub many_of_marks : BothFit Spelled (λ x. SpellsEach Spelled) bars (λ x. BarsMany refusals Spelled bars)
  many_of_marks = both_of_marks Spelled (λ x. SpellsEach Spelled) bars (λ x. BarsMany refusals Spelled bars) a (of_many refusals a) has (λ x. each_has) fit.apart

module _ {A : Type 0} (kinds : List Terminal) (Spelled : Form A) (bars : Bar) (a : Marks) (has : HasMarks Spelled bars a) (same : same_kinds kinds a.begins ≡ true) where
  begins_of : (token : PlacedLexeme) → is_of a.begins token ≡ true → is_of kinds token ≡ true
  begins_of token is = same_kinds_sound kinds a.begins token same ∙ is

  kinds_of : (token : PlacedLexeme) → is_of kinds token ≡ true → is_of a.begins token ≡ true
  kinds_of token is = sym (same_kinds_sound kinds a.begins token same) ∙ is

  pub starts_of_marks : a.is_empty ≡ false → no_kinds a.opens ≡ true → StartsWith kinds Spelled bars
  starts_of_marks whole opens_none =
      record {
        begun = λ token u b. begins_of token (has.keeps.begun token u b);
        begin = λ token is. has.begins_so.begin token (kinds_of token is);
        not_empty = has.keeps.not_empty whole;
        quiet = λ rest fault bar. no_kinds_begin a.opens rest opens_none (has.keeps.opened rest fault bar);
      }

  pub either_of_marks : (Other : Form A) (others : Bar) (b : Marks) → HasMarks Other others b → AreDistinct a b → EitherFit kinds Spelled Other bars others
  either_of_marks Other others b other fit =
      let starts = starts_of_marks fit.whole fit.first_opens_none in
      record {
        begun = starts.begun;
        begin = starts.begin;
        not_empty = starts.not_empty;
        apart = λ token u begun is. are_apart_sound a.begins b.begins token fit.apart (kinds_of token is) (other.keeps.begun token u begun);
        quiet = starts.quiet;
        quiet_second = λ rest fault bar. no_kinds_begin b.opens rest fit.second_opens_none (other.keeps.opened rest fault bar);
        barred = has.barred;
        barred_second = other.barred;
      }

-- the second of five tests
second_of : (a b c d e : Bool) → (a && b && c && d && e) ≡ true → b ≡ true
second_of true true true true true h = refl
second_of a b c d e h = cc

-- the kinds that a fit rule names are those with which its part begins
module _ (marks : Nonterminal → Marks) where
  pub kinds_either : {A : Type 0} (kinds : List Terminal) (a b : Rule A) → is_fit_by marks (Either kinds a b) ≡ true → same_kinds kinds (marks_by marks a).begins ≡ true
  kinds_either kinds a b fit =
      let first = marks_by marks a in
      let second = marks_by marks b in
      second_of (not first.is_empty) (same_kinds kinds first.begins) (are_apart first.begins second.begins) (no_kinds first.opens) (no_kinds second.opens)
      (and_parts (is_fit_by marks a && is_fit_by marks b) (either_fits kinds first second) fit).1

  pub kinds_many : {A B : Type 0} (kinds : List Terminal) (refusals : List Refusal) (f : List A → B) (a : Rule A) → is_fit_by marks (Many kinds refusals f a) ≡ true
      → same_kinds kinds (marks_by marks a).begins ≡ true
  kinds_many kinds refusals f a fit =
      let first = marks_by marks a in
      second_of (not first.is_empty) (same_kinds kinds first.begins) (are_apart first.goes_on (first.begins ++ heads refusals)) (no_kinds first.opens) (have_words refusals)
      (and_parts (is_fit_by marks a) (many_fit kinds refusals first) fit).1

  pub kinds_differing : {A B C : Type 0} (f : A → Option Bytes → C) (a : Rule A) (name : A → Bytes) (kinds : List Terminal) (b : Rule B)
      → is_fit_by marks (Differing f a name kinds b) ≡ true → same_kinds kinds (marks_by marks b).begins ≡ true
  kinds_differing f a name kinds b fit =
      let first = marks_by marks a in
      let second = marks_by marks b in
      let fits = (and_parts (is_fit_by marks a && is_fit_by marks b) (differing_fits kinds first second) fit).1 in
      let tests = not second.is_empty && same_kinds kinds second.begins && both_fit second (of_token Name) && no_kinds second.opens && second.is_plain in
      second_of (not second.is_empty) (same_kinds kinds second.begins) (both_fit second (of_token Name)) (no_kinds second.opens) second.is_plain
      (and_parts tests (both_fit first (of_other second)) fits).0
