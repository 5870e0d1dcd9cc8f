-- Reading one of two forms, and a form before which some tokens are refused.
use Rattle.std.proofs.Common.{◌≡◌, Bool, true, false, cond, List, [], ◌∷◌, ◌++◌, Option, Some, None, refl, sym, ◌∙◌, subst, inl, inr}
use Rattle.std.proofs.lemmas.List.{append_assoc}
use Rattle.aq_base.specs.declared.fault.SqlFault.{SqlFault}
use Rattle.aq_lex.specs.Lexemes.{PlacedLexeme}
use Rattle.aq_grammar.specs.Terminals.{Terminal, is_of, begins}
use Rattle.aq_grammar.specs.Rules.{Form, Bar, Begins, Refusal, IsRefused, BarsHere}
use Rattle.aq_grammar.specs.Rules.{refused}
use Rattle.aq_grammar.specs.Reading.{Outcome, Read, Stop, Syntax, Refused, Reader, stop_or, read_either, read_unless}
use Rattle.aq_grammar.proofs.Languages.{Explains, IsRight, IsSpelled, IsBehindBeginning, rest_of}
use Rattle.aq_grammar.proofs.Keeping.{SpellsEither, BarsEither}
use Rattle.aq_grammar.proofs.RightForms.{begins_whole, Agree, agree_right, AreAlike, alike_right}

nil_is_no_cut : (before : List PlacedLexeme) (token : PlacedLexeme) (behind : List PlacedLexeme) → [] ≡ before ++ token ∷ behind → ⊥
nil_is_no_cut [] token behind e = cc
nil_is_no_cut (other ∷ before) token behind e = cc

pub not_nil : (u : List PlacedLexeme) (token : PlacedLexeme) → u ++ token ∷ [] ≡ [] → ⊥
not_nil [] token e = cc
not_nil (other ∷ u) token e = cc

-- an extra form that begins nowhere in the tokens, but for no token, changes nothing
pub record AddsNothing {A : Type 0} (Extra : Form A) (extra : Bar) (tokens front : List PlacedLexeme) : Type 0 where
  pub empty : (u rest : List PlacedLexeme) → tokens ≡ u ++ rest → Begins Extra u → u ≡ []
  pub quiet : (rest : List PlacedLexeme) (fault : SqlFault) → extra [] rest fault → ⊥
  pub barred : IsBehindBeginning Extra extra
  pub apart : (x : A) → Extra x front → ⊥

module _ {A : Type 0} (Main Extra : Form A) (main extra : Bar) (tokens front : List PlacedLexeme) (nothing : AddsNothing Extra extra tokens front) where
  back : (x : A) → SpellsEither Main Extra x front → Main x front
  back x (inl s) = s
  back x (inr s) = absurd (nothing.apart x s)

  past_from : (token : PlacedLexeme) (v behind : List PlacedLexeme) (x : A) → tokens ≡ front ++ token ∷ behind → SpellsEither Main Extra x ((front ++ token ∷ []) ++ v) → Begins Main (front ++ token ∷ [])
  past_from token v behind x e (inl s) = (v, x, s)
  past_from token v behind x e (inr s) =
      absurd (not_nil front token (nothing.empty (front ++ token ∷ []) behind (e ∙ sym (append_assoc front (token ∷ []) behind)) (v, x, s)))

  bar_back : (u rest : List PlacedLexeme) (fault : SqlFault) → tokens ≡ u ++ rest → BarsEither main extra u rest fault → main u rest fault
  bar_back u rest fault e (inl bar) = bar
  bar_back u rest fault e (inr bar) =
      let is : u ≡ [] = nothing.empty u rest e (nothing.barred u rest fault bar) in
      absurd (nothing.quiet rest fault (subst (λ (w : List PlacedLexeme). extra w rest fault) is bar))

  agree_wider : Agree Main (SpellsEither Main Extra) main (BarsEither main extra) tokens front
  agree_wider =
      record {
        spelled = λ x s. inl s;
        spelled_back = back;
        begun = λ b. (b.0, b.1, inl b.2);
        past = λ token behind e b. past_from token b.0 behind b.1 e b.2;
        barred = λ rest fault e bar. inl bar;
        barred_back = bar_back;
      }

swap_bars : (first second : Bar) (u rest : List PlacedLexeme) (fault : SqlFault) → BarsEither first second u rest fault → BarsEither second first u rest fault
swap_bars first second u rest fault (inl bar) = inr bar
swap_bars first second u rest fault (inr bar) = inl bar

swap_forms : {A : Type 0} (First Second : Form A) (x : A) (u : List PlacedLexeme) → SpellsEither First Second x u → SpellsEither Second First x u
swap_forms First Second x u (inl s) = inr s
swap_forms First Second x u (inr s) = inl s

swapped : {A : Type 0} (First Second : Form A) (first second : Bar) → AreAlike (SpellsEither First Second) (SpellsEither Second First) (BarsEither first second) (BarsEither second first)
swapped First Second first second =
    record {
      spelled = swap_forms First Second;
      spelled_back = swap_forms Second First;
      barred = swap_bars first second;
      barred_back = swap_bars second first;
    }

-- the first form begins with these kinds of tokens, and the second with none of them
pub record EitherFit {A : Type 0} (kinds : List Terminal) (First Second : Form A) (first second : Bar) : Type 0 where
  pub begun : (token : PlacedLexeme) (u : List PlacedLexeme) → Begins First (token ∷ u) → is_of kinds token ≡ true
  pub begin : (token : PlacedLexeme) → is_of kinds token ≡ true → Begins First (token ∷ [])
  pub not_empty : (x : A) → First x [] → ⊥
  pub apart : (token : PlacedLexeme) (u : List PlacedLexeme) → Begins Second (token ∷ u) → is_of kinds token ≡ true → ⊥
  pub quiet : (rest : List PlacedLexeme) (fault : SqlFault) → first [] rest fault → ⊥
  pub quiet_second : (rest : List PlacedLexeme) (fault : SqlFault) → second [] rest fault → ⊥
  pub barred : IsBehindBeginning First first
  pub barred_second : IsBehindBeginning Second second

module _ {A : Type 0} (kinds : List Terminal) (First Second : Form A) (first second : Bar) (fit : EitherFit kinds First Second first second) where
  not_at_once : (outcome : Outcome A) (token : PlacedLexeme) (others : List PlacedLexeme) → token ∷ others ≡ rest_of outcome → is_of kinds token ≡ true → Explains First first outcome [] → ⊥
  not_at_once (Read x rest) token others e is r = fit.not_empty x r.spelled
  not_at_once (Stop Syntax rest) token others e is r = r.stuck.past token others (sym e) (fit.begin token is)
  not_at_once (Stop (Refused fault) rest) token others e is r = fit.quiet rest fault r.barred

  front_is : (outcome : Outcome A) (token : PlacedLexeme) (others front : List PlacedLexeme) → token ∷ others ≡ front ++ rest_of outcome → is_of kinds token ≡ true → Explains First first outcome front
      → (front' : List PlacedLexeme) × (front ≡ token ∷ front')
  front_is outcome token others [] e is r = absurd (not_at_once outcome token others e is r)
  front_is outcome token others (other ∷ front') e is r = (front', cc)

  second_nowhere : (token : PlacedLexeme) (others u rest : List PlacedLexeme) → is_of kinds token ≡ true → token ∷ others ≡ u ++ rest → Begins Second u → u ≡ []
  second_nowhere token others [] rest is e b = refl
  second_nowhere token others (other ∷ u) rest is e b =
      let same_token : token ≡ other = cc in
      absurd (fit.apart other u b (subst (λ (t : PlacedLexeme). is_of kinds t ≡ true) same_token is))

  second_adds_nothing : (token : PlacedLexeme) (others front : List PlacedLexeme) → is_of kinds token ≡ true → AddsNothing Second second (token ∷ others) (token ∷ front)
  second_adds_nothing token others front is =
      record {
        empty = λ u rest. second_nowhere token others u rest is;
        quiet = fit.quiet_second;
        barred = fit.barred_second;
        apart = λ x s. fit.apart token front (begins_whole Second x (token ∷ front) s) is;
      }

  by_first : (token : PlacedLexeme) (others : List PlacedLexeme) (outcome : Outcome A) → is_of kinds token ≡ true → IsRight First first (token ∷ others) outcome
      → IsRight (SpellsEither First Second) (BarsEither first second) (token ∷ others) outcome
  by_first token others outcome is right =
      let front = front_is outcome token others right.front right.whole is right.explained in
      agree_right First (SpellsEither First Second) first (BarsEither first second) (token ∷ others) outcome right
      (agree_wider First Second first second (token ∷ others) right.front
      (subst (λ (w : List PlacedLexeme). AddsNothing Second second (token ∷ others) w) (sym front.1) (second_adds_nothing token others front.0 is)))

  first_nowhere : (tokens u rest : List PlacedLexeme) → begins kinds tokens ≡ false → tokens ≡ u ++ rest → Begins First u → u ≡ []
  first_nowhere tokens [] rest is e b = refl
  first_nowhere [] (other ∷ u) rest is e b = absurd cc
  first_nowhere (token ∷ others) (other ∷ u) rest is e b =
      let same_token : other ≡ token = cc in
      let begun : is_of kinds token ≡ true = subst (λ (t : PlacedLexeme). is_of kinds t ≡ true) same_token (fit.begun other u b) in
      absurd cc

  first_adds_nothing : (tokens front rest : List PlacedLexeme) → begins kinds tokens ≡ false → tokens ≡ front ++ rest → AddsNothing First first tokens front
  first_adds_nothing tokens front rest is e =
      record {
        empty = λ u behind. first_nowhere tokens u behind is;
        quiet = fit.quiet;
        barred = fit.barred;
        apart = λ x s. fit.not_empty x (subst (λ (w : List PlacedLexeme). First x w) (first_nowhere tokens front rest is e (begins_whole First x front s)) s);
      }

  pub by_second : (tokens : List PlacedLexeme) (outcome : Outcome A) → begins kinds tokens ≡ false → IsRight Second second tokens outcome
      → IsRight (SpellsEither First Second) (BarsEither first second) tokens outcome
  by_second tokens outcome is right =
      alike_right (SpellsEither Second First) (SpellsEither First Second) (BarsEither second first) (BarsEither first second) tokens outcome
      (swapped Second First second first)
      (agree_right Second (SpellsEither Second First) second (BarsEither second first) tokens outcome right
      (agree_wider Second First second first tokens right.front (first_adds_nothing tokens right.front (rest_of outcome) is right.whole)))

  either_from : (tokens : List PlacedLexeme) (b : Bool) (one other : Outcome A) → begins kinds tokens ≡ b → IsRight First first tokens one → IsRight Second second tokens other
      → IsRight (SpellsEither First Second) (BarsEither first second) tokens (cond b one other)
  either_from [] true one other e r s = absurd cc
  either_from (token ∷ others) true one other e r s = by_first token others one e r
  either_from tokens false one other e r s = by_second tokens other e s

  pub right_either : (reader other : Reader A) (tokens : List PlacedLexeme) → IsRight First first tokens (reader tokens) → IsRight Second second tokens (other tokens)
      → IsRight (SpellsEither First Second) (BarsEither first second) tokens (read_either kinds reader other tokens)
  right_either reader other tokens r s = either_from tokens (begins kinds tokens) (reader tokens) (other tokens) refl r s

not_refused : (refusals : List Refusal) (tokens : List PlacedLexeme) (fault : SqlFault) → refused refusals tokens ≡ None → IsRefused refusals tokens fault → ⊥
not_refused refusals tokens fault e bar = cc

module _ {A : Type 0} (refusals : List Refusal) (Spelled : Form A) (bars : Bar) where
  free_back : (tokens u rest : List PlacedLexeme) (fault : SqlFault) → refused refusals tokens ≡ None → tokens ≡ u ++ rest → BarsEither (BarsHere refusals) bars u rest fault → bars u rest fault
  free_back tokens u rest fault none e (inr bar) = bar
  free_back tokens u rest fault none e (inl bar) =
      let whole : tokens ≡ rest = subst (λ (w : List PlacedLexeme). tokens ≡ w ++ rest) bar.0 e in
      absurd (not_refused refusals rest fault (subst (λ (w : List PlacedLexeme). refused refusals w ≡ None) whole none) bar.1)

  unless_from : (tokens : List PlacedLexeme) (outcome : Outcome A) (found : Option SqlFault) → refused refusals tokens ≡ found → IsSpelled Spelled → IsRight Spelled bars tokens outcome
      → IsRight Spelled (BarsEither (BarsHere refusals) bars) tokens (stop_or found tokens outcome)
  unless_from tokens outcome None e some right =
      agree_right Spelled Spelled bars (BarsEither (BarsHere refusals) bars) tokens outcome right
      (record {
        spelled = λ x s. s;
        spelled_back = λ x s. s;
        begun = λ b. b;
        past = λ token behind p b. b;
        barred = λ rest fault p bar. inr bar;
        barred_back = λ u rest fault p bar. free_back tokens u rest fault e p bar;
      })
  unless_from tokens outcome (Some fault) e some right =
      record {
        front = [];
        whole = refl;
        explained =
            record {
              clear = λ before token behind fault' p bar. nil_is_no_cut before token behind p;
              begun = (some.1, some.0, some.2);
              barred = inl (refl, e);
            };
      }

  pub right_unless : (reader : Reader A) (tokens : List PlacedLexeme) → IsSpelled Spelled → IsRight Spelled bars tokens (reader tokens)
      → IsRight Spelled (BarsEither (BarsHere refusals) bars) tokens (read_unless refusals reader tokens)
  right_unless reader tokens some right = unless_from tokens (reader tokens) (refused refusals tokens) refl some right
