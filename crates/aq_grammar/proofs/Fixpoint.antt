-- What nonterminals spell and refuse is what their rules spell and refuse with them.
use Rattle.std.proofs.Common.{ℕ, zero, suc, ◌≤◌, ◌↔◌, max, List, [], ◌∷◌, ◌++◌, inl, inr, arith}
use Rattle.std.proofs.Math.Nat.{le-max_left, le-max_right}
use Rattle.aq_base.specs.Names.{Text as Bytes}
use Rattle.aq_base.specs.declared.fault.SqlFault.{SqlFault}
use Rattle.aq_lex.specs.Lexemes.{PlacedLexeme}
use Rattle.aq_grammar.specs.Rules.{Nonterminal, ValueOf, Refusal, Rule, Done, Token, Both, Either, Many, Differing, Call, Unless, Limited, Form, Bar, SpellsBoth, SpellsEach, SpellsOther, SpellsBy, BarsBoth, BarsMany, BarsNext, BarsBy, Begins}
use Rattle.aq_grammar.specs.Calls.{Rules, CalledWithin, Called, BarredWithin, BarsCalled}

-- whatever the one form spells, the other spells too
abbrev pub IsPart : {A : Type 0} → Form A → Form A → Type 0
IsPart {A} Spelled More = (x : A) (u : List PlacedLexeme) → Spelled x u → More x u

pub both_part :
    {A B C : Type 0} (f : A → B → C) (First More : Form A) (Second Others : A → Form B) → IsPart First More → ((a : A) → IsPart (Second a) (Others a))
    → IsPart (SpellsBoth f First Second) (SpellsBoth f More Others)
both_part f First More Second Others first second y u (front, behind, a, b, one, other, cut, is) =
    (front, behind, a, b, first a front one, second a b behind other, cut, is)

pub each_part : {A : Type 0} (Spelled More : Form A) → IsPart Spelled More → IsPart (SpellsEach Spelled) (SpellsEach More)
each_part Spelled More part [] u is = is
each_part Spelled More part (x ∷ others) u (front, behind, one, all, cut) = (front, behind, part x front one, each_part Spelled More part others behind all, cut)

pub other_part :
    {B : Type 0} (Spelled More : Form B) (name : Bytes) → IsPart Spelled More → IsPart (SpellsOther Spelled name) (SpellsOther More name)
other_part Spelled More name part y u (inl none) = inl none
other_part Spelled More name part y u (inr some) = inr (both_part _ Spelled More _ _ part (λ b x v same. same) y u some)

module _ (calls more : (n : Nonterminal) → Form (ValueOf n)) (part : (n : Nonterminal) → IsPart (calls n) (more n)) where
  -- a rule spells no less where the nonterminals spell no less
  pub part_by : {A : Type 0} → (r : Rule A) → IsPart (SpellsBy calls r) (SpellsBy more r)
  part_by (Done x) y u spelled = spelled
  part_by (Token kind f) y u spelled = spelled
  part_by (Both f a b) y u spelled =
      both_part f (SpellsBy calls a) (SpellsBy more a) (λ x. SpellsBy calls b) (λ x. SpellsBy more b) (part_by a) (λ x. part_by b) y u spelled
  part_by (Either kinds a b) y u (inl spelled) = inl (part_by a y u spelled)
  part_by (Either kinds a b) y u (inr spelled) = inr (part_by b y u spelled)
  part_by (Many kinds refusals f a) y u (xs, all, is) =
      (xs, each_part (SpellsBy calls a) (SpellsBy more a) (part_by a) xs u all, is)
  part_by (Differing f a name kinds b) y u spelled =
      both_part f (SpellsBy calls a) (SpellsBy more a) (λ x. SpellsOther (SpellsBy calls b) (name x)) (λ x. SpellsOther (SpellsBy more b) (name x))
      (part_by a) (λ x. other_part (SpellsBy calls b) (SpellsBy more b) (name x) (part_by b)) y u spelled
  part_by (Call nonterminal f) y u (x, spelled, is) = (x, part nonterminal x u spelled, is)
  part_by (Unless refusals a) y u spelled = part_by a y u spelled
  part_by (Limited most limit a) y u spelled = part_by a y u spelled

-- whatever the one refuses, the other refuses too
abbrev pub IsPartOfBar : Bar → Bar → Type 0
IsPartOfBar bar more = (u rest : List PlacedLexeme) (fault : SqlFault) → bar u rest fault → more u rest fault

pub begins_part : {A : Type 0} (Spelled More : Form A) → IsPart Spelled More → (u : List PlacedLexeme) → Begins Spelled u → Begins More u
begins_part Spelled More part u (behind, x, spelled) = (behind, x, part x (u ++ behind) spelled)

pub bars_both_part :
    {A : Type 0} (First More : Form A) (first more : Bar) (second others : A → Bar)
    → IsPart First More → IsPartOfBar first more → ((a : A) → IsPartOfBar (second a) (others a)) → IsPartOfBar (BarsBoth First first second) (BarsBoth More more others)
bars_both_part First More first more second others part one other u rest fault (inl barred) = inl (one u rest fault barred)
bars_both_part First More first more second others part one other u rest fault (inr (front, behind, a, spelled, cut, barred)) =
    inr (front, behind, a, part a front spelled, cut, other a behind rest fault barred)

pub bars_many_part :
    {A : Type 0} (refusals : List Refusal) (Spelled More : Form A) (bar more : Bar)
    → IsPart Spelled More → IsPartOfBar bar more → IsPartOfBar (BarsMany refusals Spelled bar) (BarsMany refusals More more)
bars_many_part refusals Spelled More bar more part one u rest fault (front, behind, xs, all, cut, inl barred) =
    (front, behind, xs, each_part Spelled More part xs front all, cut, inl (one behind rest fault barred))
bars_many_part refusals Spelled More bar more part one u rest fault (front, behind, xs, all, cut, inr refused) =
    (front, behind, xs, each_part Spelled More part xs front all, cut, inr refused)

pub bars_next_part :
    {A : Type 0} (most : ℕ) (limit : SqlFault) (Spelled More : Form A) → IsPart Spelled More → IsPartOfBar (BarsNext most limit Spelled) (BarsNext most limit More)
bars_next_part most limit Spelled More part [] rest fault barred = barred
bars_next_part most limit Spelled More part (first ∷ others) [] fault barred = barred
bars_next_part most limit Spelled More part (first ∷ others) (token ∷ rest) fault (as_many, begun, is) =
    (as_many, begins_part Spelled More part (first ∷ others ++ token ∷ []) begun, is)

module _ (calls more : (n : Nonterminal) → Form (ValueOf n)) (bars others : (n : Nonterminal) → Bar)
    (part : (n : Nonterminal) → IsPart (calls n) (more n)) (less : (n : Nonterminal) → IsPartOfBar (bars n) (others n)) where
  -- a rule refuses no less where the nonterminals spell and refuse no less
  pub bars_part_by : {A : Type 0} → (r : Rule A) → IsPartOfBar (BarsBy calls bars r) (BarsBy more others r)
  bars_part_by (Done x) u rest fault barred = barred
  bars_part_by (Token kind f) u rest fault barred = barred
  bars_part_by (Both f a b) u rest fault barred =
      bars_both_part (SpellsBy calls a) (SpellsBy more a) (BarsBy calls bars a) (BarsBy more others a) (λ x. BarsBy calls bars b) (λ x. BarsBy more others b)
      (part_by calls more part a) (bars_part_by a) (λ x. bars_part_by b) u rest fault barred
  bars_part_by (Either kinds a b) u rest fault (inl barred) = inl (bars_part_by a u rest fault barred)
  bars_part_by (Either kinds a b) u rest fault (inr barred) = inr (bars_part_by b u rest fault barred)
  bars_part_by (Many kinds refusals f a) u rest fault barred =
      bars_many_part refusals (SpellsBy calls a) (SpellsBy more a) (BarsBy calls bars a) (BarsBy more others a)
      (part_by calls more part a) (bars_part_by a) u rest fault barred
  bars_part_by (Differing f a name kinds b) u rest fault barred =
      bars_both_part (SpellsBy calls a) (SpellsBy more a) (BarsBy calls bars a) (BarsBy more others a) (λ x. BarsBy calls bars b) (λ x. BarsBy more others b)
      (part_by calls more part a) (bars_part_by a) (λ x. bars_part_by b) u rest fault barred
  bars_part_by (Call nonterminal f) u rest fault barred = less nonterminal u rest fault barred
  bars_part_by (Unless refusals a) u rest fault (inl refused) = inl refused
  bars_part_by (Unless refusals a) u rest fault (inr barred) = inr (bars_part_by a u rest fault barred)
  bars_part_by (Limited most limit a) u rest fault (inl barred) =
      inl (bars_next_part most limit (SpellsBy calls a) (SpellsBy more a) (part_by calls more part a) u rest fault barred)
  bars_part_by (Limited most limit a) u rest fault (inr barred) = inr (bars_part_by a u rest fault barred)

-- with more calls a nonterminal spells no less
pub within_part : (rules : Rules) (most more : ℕ) → most ≤ more → (n : Nonterminal) → IsPart (CalledWithin rules most n) (CalledWithin rules more n)
within_part rules zero more less n x u spelled = elim spelled [ ]
within_part rules (suc most) zero less n x u spelled = absurd (omega arith)
within_part rules (suc most) (suc more) less n x u spelled =
    part_by (CalledWithin rules most) (CalledWithin rules more) (within_part rules most more (omega arith)) (rules n) x u spelled

-- forms that spell no less at a larger number
abbrev pub Rises : {A : Type 0} → (ℕ → Form A) → Type 0
Rises {A} levels = (most more : ℕ) → most ≤ more → IsPart (levels most) (levels more)

-- what one of them spells
abbrev pub AtSome : {A : Type 0} → (ℕ → Form A) → Form A
AtSome levels x u = (most : ℕ) × levels most x u

pub both_at_some :
    {A B C : Type 0} (f : A → B → C) (First : Form A) (firsts : ℕ → Form A) (Second : A → Form B) (seconds : ℕ → A → Form B)
    → Rises firsts → ((a : A) → Rises (λ k. seconds k a)) → IsPart First (AtSome firsts) → ((a : A) → IsPart (Second a) (AtSome (λ k. seconds k a)))
    → IsPart (SpellsBoth f First Second) (AtSome (λ k. SpellsBoth f (firsts k) (seconds k)))
both_at_some f First firsts Second seconds rise rises first second y u (front, behind, a, b, one, other, cut, is) =
    let (k, spelled) = first a front one in
    let (m, follows) = second a b behind other in
    (max k m, (front, behind, a, b, rise k (max k m) (le-max_left k m) a front spelled, rises a m (max k m) (le-max_right k m) b behind follows, cut, is))

pub each_at_some :
    {A : Type 0} (Spelled : Form A) (levels : ℕ → Form A) → Rises levels → IsPart Spelled (AtSome levels) → IsPart (SpellsEach Spelled) (AtSome (λ k. SpellsEach (levels k)))
each_at_some Spelled levels rise some [] u is = (0, is)
each_at_some Spelled levels rise some (x ∷ others) u (front, behind, one, all, cut) =
    let (k, spelled) = some x front one in
    let (m, follow) = each_at_some Spelled levels rise some others behind all in (
      max k m,
      (
        front,
        behind,
        rise k (max k m) (le-max_left k m) x front spelled,
        each_part (levels m) (levels (max k m)) (rise m (max k m) (le-max_right k m)) others behind follow,
        cut,
      ),
    )

pub other_at_some :
    {B : Type 0} (Spelled : Form B) (levels : ℕ → Form B) (name : Bytes) → IsPart Spelled (AtSome levels)
    → IsPart (SpellsOther Spelled name) (AtSome (λ k. SpellsOther (levels k) name))
other_at_some Spelled levels name some y u (inl none) = (0, inl none)
other_at_some Spelled levels name some y u (inr (front, behind, b, text, one, other, cut, is)) =
    let (k, spelled) = some b front one in
    (k, inr (front, behind, b, text, spelled, other, cut, is))

module _ (levels : ℕ → (n : Nonterminal) → Form (ValueOf n)) (rise : (n : Nonterminal) → Rises (λ k. levels k n)) where
  -- what a nonterminal spells at some number
  abbrev called_at_some : (n : Nonterminal) → Form (ValueOf n)
  called_at_some n = AtSome (λ k. levels k n)

  -- a rule's forms rise where those of the nonterminals do
  pub rises_by : {A : Type 0} → (r : Rule A) → Rises (λ k. SpellsBy (levels k) r)
  rises_by r k m less = part_by (levels k) (levels m) (λ n. rise n k m less) r

  -- a rule makes finitely many calls
  pub at_some_by : {A : Type 0} → (r : Rule A) → IsPart (SpellsBy called_at_some r) (AtSome (λ k. SpellsBy (levels k) r))
  at_some_by (Done x) y u spelled = (0, spelled)
  at_some_by (Token kind f) y u spelled = (0, spelled)
  at_some_by (Both f a b) y u spelled =
      both_at_some f (SpellsBy called_at_some a) (λ k. SpellsBy (levels k) a) (λ x. SpellsBy called_at_some b) (λ k x. SpellsBy (levels k) b)
      (rises_by a) (λ x. rises_by b) (at_some_by a) (λ x. at_some_by b) y u spelled
  at_some_by (Either kinds a b) y u (inl spelled) = let (k, at) = at_some_by a y u spelled in (k, inl at)
  at_some_by (Either kinds a b) y u (inr spelled) = let (k, at) = at_some_by b y u spelled in (k, inr at)
  at_some_by (Many kinds refusals f a) y u (xs, all, is) =
      let (k, at) = each_at_some (SpellsBy called_at_some a) (λ k. SpellsBy (levels k) a) (rises_by a) (at_some_by a) xs u all in
      (k, (xs, at, is))
  at_some_by (Differing f a name kinds b) y u spelled =
      both_at_some f (SpellsBy called_at_some a) (λ k. SpellsBy (levels k) a)
      (λ x. SpellsOther (SpellsBy called_at_some b) (name x)) (λ k x. SpellsOther (SpellsBy (levels k) b) (name x))
      (rises_by a) (λ x k m less. other_part (SpellsBy (levels k) b) (SpellsBy (levels m) b) (name x) (rises_by b k m less))
      (at_some_by a) (λ x. other_at_some (SpellsBy called_at_some b) (λ k. SpellsBy (levels k) b) (name x) (at_some_by b)) y u spelled
  at_some_by (Call nonterminal f) y u (x, (k, at), is) = (k, (x, at, is))
  at_some_by (Unless refusals a) y u spelled = at_some_by a y u spelled
  at_some_by (Limited most limit a) y u spelled = at_some_by a y u spelled

-- what a nonterminal spells is what its rule spells
pub called_is : (rules : Rules) (n : Nonterminal) (x : ValueOf n) (u : List PlacedLexeme) → Called rules n x u ↔ SpellsBy (Called rules) (rules n) x u
called_is rules n x u = (by_rule, by_calls)
  where
    by_rule : Called rules n x u → SpellsBy (Called rules) (rules n) x u
    by_rule (zero, spelled) = elim spelled [ ]
    by_rule (suc k, spelled) = part_by (CalledWithin rules k) (Called rules) (λ m y v at. (k, at)) (rules n) x u spelled

    by_calls : SpellsBy (Called rules) (rules n) x u → Called rules n x u
    by_calls spelled =
        let (k, at) = at_some_by (CalledWithin rules) (λ m k more less. within_part rules k more less m) (rules n) x u spelled in
        (suc k, at)

-- what one of them refuses
abbrev pub BarsAtSome : (ℕ → Bar) → Bar
BarsAtSome levels u rest fault = (most : ℕ) × levels most u rest fault

pub bars_both_at_some :
    {A : Type 0} (First : Form A) (first : Bar) (firsts : ℕ → Bar) (second : A → Bar) (seconds : ℕ → A → Bar)
    → IsPartOfBar first (BarsAtSome firsts) → ((a : A) → IsPartOfBar (second a) (BarsAtSome (λ k. seconds k a)))
    → IsPartOfBar (BarsBoth First first second) (BarsAtSome (λ k. BarsBoth First (firsts k) (seconds k)))
bars_both_at_some First first firsts second seconds one other u rest fault (inl barred) = let (k, at) = one u rest fault barred in (k, inl at)
bars_both_at_some First first firsts second seconds one other u rest fault (inr (front, behind, a, spelled, cut, barred)) =
    let (k, at) = other a behind rest fault barred in
    (k, inr (front, behind, a, spelled, cut, at))

pub bars_many_at_some :
    {A : Type 0} (refusals : List Refusal) (Spelled : Form A) (bar : Bar) (levels : ℕ → Bar) → IsPartOfBar bar (BarsAtSome levels)
    → IsPartOfBar (BarsMany refusals Spelled bar) (BarsAtSome (λ k. BarsMany refusals Spelled (levels k)))
bars_many_at_some refusals Spelled bar levels some u rest fault (front, behind, xs, all, cut, inl barred) =
    let (k, at) = some behind rest fault barred in
    (k, (front, behind, xs, all, cut, inl at))
bars_many_at_some refusals Spelled bar levels some u rest fault (front, behind, xs, all, cut, inr refused) = (0, (front, behind, xs, all, cut, inr refused))

module _ (calls : (n : Nonterminal) → Form (ValueOf n)) (levels : ℕ → (n : Nonterminal) → Bar) where
  -- what a nonterminal refuses at some number
  abbrev barred_at_some : (n : Nonterminal) → Bar
  barred_at_some n = BarsAtSome (λ k. levels k n)

  -- a place is refused by finitely many calls around it
  pub bars_at_some_by :
      {A : Type 0} → (r : Rule A) → IsPartOfBar (BarsBy calls barred_at_some r) (BarsAtSome (λ k. BarsBy calls (levels k) r))
  bars_at_some_by (Done x) u rest fault barred = (0, barred)
  bars_at_some_by (Token kind f) u rest fault barred = (0, barred)
  bars_at_some_by (Both f a b) u rest fault barred =
      bars_both_at_some (SpellsBy calls a) (BarsBy calls barred_at_some a) (λ k. BarsBy calls (levels k) a)
      (λ x. BarsBy calls barred_at_some b) (λ k x. BarsBy calls (levels k) b)
      (bars_at_some_by a) (λ x. bars_at_some_by b) u rest fault barred
  bars_at_some_by (Either kinds a b) u rest fault (inl barred) = let (k, at) = bars_at_some_by a u rest fault barred in (k, inl at)
  bars_at_some_by (Either kinds a b) u rest fault (inr barred) = let (k, at) = bars_at_some_by b u rest fault barred in (k, inr at)
  bars_at_some_by (Many kinds refusals f a) u rest fault barred =
      bars_many_at_some refusals (SpellsBy calls a) (BarsBy calls barred_at_some a) (λ k. BarsBy calls (levels k) a)
      (bars_at_some_by a) u rest fault barred
  bars_at_some_by (Differing f a name kinds b) u rest fault barred =
      bars_both_at_some (SpellsBy calls a) (BarsBy calls barred_at_some a) (λ k. BarsBy calls (levels k) a)
      (λ x. BarsBy calls barred_at_some b) (λ k x. BarsBy calls (levels k) b)
      (bars_at_some_by a) (λ x. bars_at_some_by b) u rest fault barred
  bars_at_some_by (Call nonterminal f) u rest fault barred = barred
  bars_at_some_by (Unless refusals a) u rest fault (inl refused) = (0, inl refused)
  bars_at_some_by (Unless refusals a) u rest fault (inr barred) = let (k, at) = bars_at_some_by a u rest fault barred in (k, inr at)
  bars_at_some_by (Limited most limit a) u rest fault (inl next) = (0, inl next)
  bars_at_some_by (Limited most limit a) u rest fault (inr barred) = let (k, at) = bars_at_some_by a u rest fault barred in (k, inr at)

-- what a nonterminal refuses is what its rule refuses
pub barred_is :
    (rules : Rules) (n : Nonterminal) (u rest : List PlacedLexeme) (fault : SqlFault)
    → BarsCalled rules n u rest fault ↔ BarsBy (Called rules) (BarsCalled rules) (rules n) u rest fault
barred_is rules n u rest fault = (by_rule, by_calls)
  where
    by_rule : BarsCalled rules n u rest fault → BarsBy (Called rules) (BarsCalled rules) (rules n) u rest fault
    by_rule (zero, barred) = elim barred [ ]
    by_rule (suc k, barred) =
        bars_part_by (Called rules) (Called rules) (BarredWithin rules k) (BarsCalled rules) (λ m y v spelled. spelled) (λ m v behind why at. (k, at)) (rules n) u rest fault barred

    by_calls : BarsBy (Called rules) (BarsCalled rules) (rules n) u rest fault → BarsCalled rules n u rest fault
    by_calls barred =
        let (k, at) = bars_at_some_by (Called rules) (BarredWithin rules) (rules n) u rest fault barred in
        (suc k, at)
