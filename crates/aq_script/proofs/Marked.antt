-- Forms that have marks: those of rules, those that refuse something else, and those behind a form that is at its end.
use Rattle.std.proofs.Common.{◌≡◌, true, false, List, [], ◌∷◌, ◌++◌, sym, ◌∙◌, subst, inl}
use Rattle.aq_base.specs.declared.fault.SqlFault.{SqlFault}
use Rattle.aq_lex.specs.Lexemes.{PlacedLexeme}
use Rattle.aq_grammar.specs.Terminals.{Terminal, is_of, begins}
use Rattle.aq_grammar.specs.Rules.{Rule, Form, Bar, Begins, SpellsBoth, SpellsNothing, BarsNone, BarsBoth}
use Rattle.aq_grammar.specs.Sets.{Marks, of_nothing, of_both, of_either, marks_by, is_fit_by, both_fit}
use Rattle.aq_grammar.specs.Calls.{Called, BarsCalled}
use Rattle.aq_grammar.specs.Nonterminals.{rules, marks, Spells, Bars}
use Rattle.aq_grammar.proofs.Languages.{IsSpelled, IsBehindBeginning, HasMarks}
use Rattle.aq_grammar.proofs.Keeping.{IsBarredWithin, SpellsEither, BarsEither, AreDistinct, keeps_nothing, keeps_both, keeps_either}
use Rattle.aq_grammar.proofs.Beginning.{some_both, begins_nothing, begins_both, begins_either, barred_both, barred_either, has_marks_by}
use Rattle.aq_grammar.proofs.Called.{called_has}
use Rattle.aq_grammar.proofs.Fit.{rules_fit}
use Rattle.aq_grammar.proofs.Some.{spelled}
use Rattle.aq_grammar.proofs.RightBoth.{BothFit}

-- every fit rule has its marks
pub rule_has : {A : Type 0} (r : Rule A) → is_fit_by marks r ≡ true → HasMarks (Spells r) (Bars r) (marks_by marks r)
rule_has r fit = has_marks_by (Called rules) (BarsCalled rules) marks (called_has rules marks rules_fit spelled) r fit

-- a form that refuses no more
pub has_fewer : {A : Type 0} {Spelled : Form A} {bars : Bar} {a : Marks} (fewer : Bar) → IsBarredWithin fewer bars → HasMarks Spelled bars a → HasMarks Spelled fewer a
has_fewer fewer within has =
    record {
      keeps =
          record {
            begun = has.keeps.begun;
            gone_on = has.keeps.gone_on;
            not_empty = has.keeps.not_empty;
            opened = λ rest fault bar. has.keeps.opened rest fault (within [] rest fault bar);
            plain = λ e u rest fault bar. has.keeps.plain e u rest fault (within u rest fault bar);
          };
      some = has.some;
      begins_so = has.begins_so;
      barred = λ u rest fault bar. has.barred u rest fault (within u rest fault bar);
    }

-- a form that refuses something else, but not where it begins
abbrev pub not_plain : Marks → Marks
not_plain a = record a { is_plain = false }

pub has_others : {A : Type 0} {Spelled : Form A} {bars : Bar} {a : Marks} (others : Bar) → ((rest : List PlacedLexeme) (fault : SqlFault) → others [] rest fault → ⊥)
    → IsBehindBeginning Spelled others → HasMarks Spelled bars a → HasMarks Spelled others (not_plain a)
has_others others quiet barred has =
    record {
      keeps =
          record {
            begun = has.keeps.begun;
            gone_on = has.keeps.gone_on;
            not_empty = has.keeps.not_empty;
            opened = λ rest fault bar. absurd (quiet rest fault bar);
            plain = λ e u rest fault bar. cc;
          };
      some = has.some;
      begins_so = record { begin = has.begins_so.begin; empty = has.begins_so.empty };
      barred = barred;
    }

module _ {A : Type 0} (First : Form A) (first : Bar) (a : Marks) (has : HasMarks First first a) (ended : a.goes_on ≡ []) where
  pub no_more : (x : A) (front : List PlacedLexeme) (token : PlacedLexeme) → First x front → Begins First (front ++ token ∷ []) → ⊥
  no_more x front token s more =
      let on : is_of [] token ≡ true = subst (λ (kinds : List Terminal). is_of kinds token ≡ true) ended (has.keeps.gone_on x front token s more) in
      cc

  -- whatever comes behind a form that goes on with no token can be told apart from it
  pub behind_ended : {B : Type 0} (Second : A → Form B) (second : A → Bar) → ((x : A) → IsSpelled (Second x)) → ((x : A) → IsBehindBeginning (Second x) (second x))
      → BothFit First Second first second
  behind_ended Second second some barred =
      record {
        apart = λ x front token behind s more begun. no_more x front token s more;
        quiet = λ x front token rest fault s more bar. no_more x front token s more;
        barred = has.barred;
        barred_second = barred;
        some_second = some;
      }

-- the same form, where nothing is refused
pub has_no_bars : {A : Type 0} {Spelled : Form A} {bars : Bar} {a : Marks} (b : Marks) → a.begins ≡ b.begins → a.goes_on ≡ b.goes_on → a.is_empty ≡ b.is_empty
    → HasMarks Spelled bars a → HasMarks Spelled BarsNone b
has_no_bars b begins goes_on empty has =
    record {
      keeps =
          record {
            begun = λ token u begun. subst (λ (kinds : List Terminal). is_of kinds token ≡ true) begins (has.keeps.begun token u begun);
            gone_on = λ x u token s more. subst (λ (kinds : List Terminal). is_of kinds token ≡ true) goes_on (has.keeps.gone_on x u token s more);
            not_empty = λ e. has.keeps.not_empty (empty ∙ e);
            opened = λ rest fault bar. absurd bar;
            plain = λ e u rest fault bar. bar;
          };
      some = has.some;
      begins_so =
          record {
            begin = λ token is. has.begins_so.begin token (subst (λ (kinds : List Terminal). is_of kinds token ≡ true) (sym begins) is);
            empty = λ e. has.begins_so.empty (empty ∙ e);
          };
      barred = λ u rest fault bar. absurd bar;
    }

-- a form that spells the same
pub has_alike : {A : Type 0} {Spelled : Form A} {bars : Bar} {a : Marks} (Other : Form A) → ((x : A) (u : List PlacedLexeme) → Spelled x u → Other x u)
    → ((x : A) (u : List PlacedLexeme) → Other x u → Spelled x u) → HasMarks Spelled bars a → HasMarks Other bars a
has_alike {A} {Spelled} {bars} {a} Other from back has =
    record {
      keeps =
          record {
            begun = λ token u b. has.keeps.begun token u (b.0, b.1, back b.1 ((token ∷ u) ++ b.0) b.2);
            gone_on = λ x u token s b. has.keeps.gone_on x u token (back x u s) (b.0, b.1, back b.1 ((u ++ token ∷ []) ++ b.0) b.2);
            not_empty = λ e x s. has.keeps.not_empty e x (back x [] s);
            opened = has.keeps.opened;
            plain = has.keeps.plain;
          };
      some = (has.some.0, has.some.1, from has.some.0 has.some.1 has.some.2);
      begins_so =
          record {
            begin = λ token is. let b = has.begins_so.begin token is in (b.0, b.1, from b.1 ((token ∷ []) ++ b.0) b.2);
            empty = λ e. let s = has.begins_so.empty e in (s.0, from s.0 [] s.1);
          };
      barred = λ u rest fault bar. let b = has.barred u rest fault bar in (b.0, b.1, from b.1 (u ++ b.0) b.2);
    }

-- the one and then the other
pub has_both : {A B C : Type 0} (f : A → B → C) {First : Form A} {Second : Form B} {first second : Bar} {a b : Marks} → HasMarks First first a → HasMarks Second second b
    → both_fit a b ≡ true → HasMarks (SpellsBoth f First (λ x. Second)) (BarsBoth First first (λ x. second)) (of_both a b)
has_both f {First} {Second} {first} {second} {a} {b} has follows fit =
    record {
      keeps = keeps_both f First first Second second a b has.keeps follows.keeps fit;
      some = some_both f First (λ x. Second) has.some (λ x. follows.some);
      begins_so = begins_both f First (λ x. Second) a b has.begins_so (λ x. follows.some) (λ e x. follows.begins_so);
      barred = barred_both f First first (λ x. Second) (λ x. second) has.barred (λ x. follows.some) (λ x. follows.barred);
    }

-- the one, or nothing
pub has_or_nothing : {A : Type 0} (x : A) {First : Form A} {first : Bar} {a : Marks} → HasMarks First first a → AreDistinct a of_nothing
    → HasMarks (SpellsEither First (SpellsNothing x)) (BarsEither first BarsNone) (of_either a of_nothing)
has_or_nothing x {First} {first} {a} has fit =
    record {
      keeps = keeps_either First first (SpellsNothing x) BarsNone a of_nothing has.keeps (keeps_nothing x) fit;
      some = let s = has.some in (s.0, s.1, inl s.2);
      begins_so = begins_either First (SpellsNothing x) a of_nothing has.begins_so (begins_nothing x);
      barred = barred_either First first (SpellsNothing x) BarsNone has.barred (λ u rest fault bar. absurd bar);
    }
