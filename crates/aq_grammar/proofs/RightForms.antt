-- What begins a form, and two forms that agree on what is read.
use Rattle.std.proofs.Common.{◌≡◌, List, [], ◌∷◌, ◌++◌, refl, sym, ap, subst}
use Rattle.std.proofs.lemmas.List.{append_assoc, append-nil}
use Rattle.aq_base.specs.declared.fault.SqlFault.{SqlFault}
use Rattle.aq_lex.specs.Lexemes.{PlacedLexeme}
use Rattle.aq_grammar.specs.Rules.{Form, Bar, Begins}
use Rattle.aq_grammar.specs.Reading.{Outcome, Read, Stop, Syntax, Refused}
use Rattle.aq_grammar.specs.Places.{IsClear, IsStuck, IsRead}
use Rattle.aq_grammar.proofs.Languages.{IsStopped, IsRefusal, Explains, IsRight, rest_of}
use Rattle.aq_grammar.proofs.Cuts.{regroup}

module _ {A : Type 0} (Spelled : Form A) where
  pub begins_whole : (x : A) (u : List PlacedLexeme) → Spelled x u → Begins Spelled u
  begins_whole x u s = ([], x, subst (Spelled x) (sym (append-nil u)) s)

  pub begins_less : (u v : List PlacedLexeme) → Begins Spelled (u ++ v) → Begins Spelled u
  begins_less u v b = (v ++ b.0, b.1, subst (Spelled b.1) (append_assoc u v b.0) b.2)

  pub begins_first : (u : List PlacedLexeme) (token : PlacedLexeme) (v : List PlacedLexeme) → Begins Spelled (u ++ token ∷ v) → Begins Spelled (u ++ token ∷ [])
  begins_first u token v b = begins_less (u ++ token ∷ []) v (subst (λ (w : List PlacedLexeme). Begins Spelled w) (sym (append_assoc u (token ∷ []) v)) b)

-- the two have the same trees, beginnings and refused places, as far as tokens are read
pub record Agree {A : Type 0} (Spelled Other : Form A) (bars others : Bar) (tokens front : List PlacedLexeme) : Type 0 where
  pub spelled : (x : A) → Spelled x front → Other x front
  pub spelled_back : (x : A) → Other x front → Spelled x front
  pub begun : Begins Spelled front → Begins Other front
  pub past : (token : PlacedLexeme) (behind : List PlacedLexeme) → tokens ≡ front ++ token ∷ behind → Begins Other (front ++ token ∷ []) → Begins Spelled (front ++ token ∷ [])
  pub barred : (rest : List PlacedLexeme) (fault : SqlFault) → tokens ≡ front ++ rest → bars front rest fault → others front rest fault
  pub barred_back : (u rest : List PlacedLexeme) (fault : SqlFault) → tokens ≡ u ++ rest → others u rest fault → bars u rest fault

module _ {A : Type 0} (Spelled Other : Form A) (bars others : Bar) (front rest : List PlacedLexeme) (agree : Agree Spelled Other bars others (front ++ rest) front) where
  agree_clear : IsClear bars front rest → IsClear others front rest
  agree_clear clear before token behind fault e bar =
      clear before token behind fault e (agree.barred_back before (token ∷ behind ++ rest) fault (sym (regroup before (token ∷ behind) front rest (sym e))) bar)

  agree_stuck : IsStuck Spelled bars front rest → IsStuck Other others front rest
  agree_stuck stuck =
      record {
        past = λ token behind e b. stuck.past token behind e (agree.past token behind (ap (λ x. front ++ x) e) b);
        free = λ fault bar. stuck.free fault (agree.barred_back front rest fault refl bar);
      }

  agree_read : (x : A) → IsRead Spelled bars x front rest → IsRead Other others x front rest
  agree_read x r =
      record {
        clear = agree_clear r.clear;
        spelled = agree.spelled x r.spelled;
        only = λ y s. r.only y (agree.spelled_back y s);
        stuck = agree_stuck r.stuck;
      }

  agree_stopped : IsStopped Spelled bars front rest → IsStopped Other others front rest
  agree_stopped r =
      record {
        clear = agree_clear r.clear;
        begun = agree.begun r.begun;
        part = λ y s. r.part y (agree.spelled_back y s);
        stuck = agree_stuck r.stuck;
      }

  agree_refusal : (fault : SqlFault) → IsRefusal Spelled bars fault front rest → IsRefusal Other others fault front rest
  agree_refusal fault r =
      record {
        clear = agree_clear r.clear;
        begun = agree.begun r.begun;
        barred = agree.barred rest fault refl r.barred;
      }

agree_explains : {A : Type 0} (Spelled Other : Form A) (bars others : Bar) (outcome : Outcome A) (front : List PlacedLexeme)
    → Agree Spelled Other bars others (front ++ rest_of outcome) front → Explains Spelled bars outcome front → Explains Other others outcome front
agree_explains Spelled Other bars others (Read x rest) front agree r = agree_read Spelled Other bars others front rest agree x r
agree_explains Spelled Other bars others (Stop Syntax rest) front agree r = agree_stopped Spelled Other bars others front rest agree r
agree_explains Spelled Other bars others (Stop (Refused fault) rest) front agree r = agree_refusal Spelled Other bars others front rest agree fault r

pub agree_right : {A : Type 0} (Spelled Other : Form A) (bars others : Bar) (tokens : List PlacedLexeme) (outcome : Outcome A) (right : IsRight Spelled bars tokens outcome)
    → Agree Spelled Other bars others tokens right.front → IsRight Other others tokens outcome
agree_right Spelled Other bars others tokens outcome right agree =
    record {
      front = right.front;
      whole = right.whole;
      explained =
          agree_explains Spelled Other bars others outcome right.front (subst (λ (u : List PlacedLexeme). Agree Spelled Other bars others u right.front) right.whole agree)
          right.explained;
    }

-- they are the same everywhere
pub record AreAlike {A : Type 0} (Spelled Other : Form A) (bars others : Bar) : Type 0 where
  pub spelled : (x : A) (u : List PlacedLexeme) → Spelled x u → Other x u
  pub spelled_back : (x : A) (u : List PlacedLexeme) → Other x u → Spelled x u
  pub barred : (u rest : List PlacedLexeme) (fault : SqlFault) → bars u rest fault → others u rest fault
  pub barred_back : (u rest : List PlacedLexeme) (fault : SqlFault) → others u rest fault → bars u rest fault

pub alike_right : {A : Type 0} (Spelled Other : Form A) (bars others : Bar) (tokens : List PlacedLexeme) (outcome : Outcome A)
    → AreAlike Spelled Other bars others → IsRight Spelled bars tokens outcome → IsRight Other others tokens outcome
alike_right Spelled Other bars others tokens outcome alike right =
    agree_right Spelled Other bars others tokens outcome right
    (record {
      spelled = λ x. alike.spelled x right.front;
      spelled_back = λ x. alike.spelled_back x right.front;
      begun = λ b. (b.0, b.1, alike.spelled b.1 (right.front ++ b.0) b.2);
      past = λ token behind e b. (b.0, b.1, alike.spelled_back b.1 ((right.front ++ token ∷ []) ++ b.0) b.2);
      barred = λ rest fault e. alike.barred right.front rest fault;
      barred_back = λ u rest fault e. alike.barred_back u rest fault;
    })
