-- Each rule spells something, each beginning that its marks name is one, and what stands before a refused place begins it.
use Rattle.std.proofs.Common.{◌≡◌, ℕ, Bool, true, false, ◌&&◌, List, [], ◌∷◌, ◌++◌, if◌then◌else◌, Some, None, refl, sym, ap, subst, ◌∙◌, append_assoc, append-nil, ◌⊎◌, inl, inr}
use Rattle.std.proofs.lemmas.Bool.{both_ways, and_parts, or_cases}
use Rattle.aq_base.specs.Names.{Text as Bytes}
use Rattle.aq_base.specs.declared.fault.SqlFault.{SqlFault}
use Rattle.aq_lex.specs.Lexemes.{PlacedLexeme}
use Rattle.aq_grammar.specs.Terminals.{Terminal, Name, NameBut, fits, is_of, text_of}
use Rattle.aq_grammar.specs.Rules.{Nonterminal, ValueOf, Refusal, Rule, Done, Token, Both, Either, Many, Differing, Call, Unless, Limited, Form, SpellsNothing, SpellsToken, SpellsBoth, SpellsEach, SpellsMany, SpellsCalled, SpellsOther, SpellsBy, Begins, Bar, BarsHere, BarsBoth, BarsMany, BarsNext, BarsBy}
use Rattle.aq_grammar.specs.Sets.{is_possible, Marks, of_nothing, of_token, of_both, of_either, of_many, of_other, marks_by, is_fit_by}
use Rattle.aq_grammar.proofs.Languages.{IsSpelled, BeginsSo, IsBehindBeginning, HasMarks}
use Rattle.aq_grammar.proofs.Cuts.{move_one}
use Rattle.aq_grammar.proofs.Apart.{is_of_parts, token_of}
use Rattle.aq_grammar.proofs.Keeping.{SpellsEither, BarsEither, fit_both, fit_either, fit_many, fit_differing, fit_unless, fit_limited, keeps_by}

-- 1. Something is spelled.
pub some_token : {A : Type 0} (kind : Terminal) (f : PlacedLexeme → A) → is_possible kind ≡ true → IsSpelled (SpellsToken kind f)
some_token kind f h = let (token, fit) = token_of kind h in (f token, token ∷ [], (token, fit, refl, refl))

pub some_both : {A B C : Type 0} (f : A → B → C) (First : Form A) (Second : A → Form B) → IsSpelled First → ((x : A) → IsSpelled (Second x))
    → IsSpelled (SpellsBoth f First Second)
some_both f First Second (x, u, h) some = let (z, v, k) = some x in (f x z, u ++ v, (u, v, x, z, h, k, refl, refl))

pub some_many : {A B : Type 0} (f : List A → B) (Spelled : Form A) → IsSpelled (SpellsMany f Spelled)
some_many f Spelled = (f [], [], ([], refl, refl))

pub some_other : {B : Type 0} (Spelled : Form B) (name : Bytes) → IsSpelled (SpellsOther Spelled name)
some_other Spelled name = (None, [], inl (refl, refl))

pub some_called : {A B : Type 0} (f : A → B) (Spelled : Form A) → IsSpelled Spelled → IsSpelled (SpellsCalled f Spelled)
some_called f Spelled (x, u, h) = (f x, u, (x, h, refl))

module _ (calls : (n : Nonterminal) → Form (ValueOf n)) (marks : Nonterminal → Marks) (spelled : (n : Nonterminal) → IsSpelled (calls n)) where
  pub some_by : {A : Type 0} (r : Rule A) → is_fit_by marks r ≡ true → IsSpelled (SpellsBy calls r)
  some_by (Done x) fit = (x, [], (refl, refl))
  some_by (Token kind f) fit = some_token kind f fit
  some_by (Both f a b) fit =
      let (first, second, fits) = fit_both marks f a b fit in
      some_both f _ _ (some_by a first) (λ x. some_by b second)
  some_by (Either kinds a b) fit =
      let (x, u, h) = some_by a (fit_either marks kinds a b fit).0 in
      (x, u, inl h)
  some_by (Many kinds refusals f a) fit = some_many f _
  some_by (Differing f a name kinds b) fit =
      some_both f _ _ (some_by a (fit_differing marks f a name kinds b fit).0) (λ x. some_other (SpellsBy calls b) (name x))
  some_by (Call nonterminal f) fit = some_called f _ (spelled nonterminal)
  some_by (Unless refusals a) fit = some_by a (fit_unless marks refusals a fit).0
  some_by (Limited most limit a) fit =
      some_by a (fit_limited marks most limit a fit).0

-- 2. Each beginning that the marks name is one.
if_parts : (test : Bool) (kinds : List Terminal) (token : PlacedLexeme) → is_of (if test then kinds else []) token ≡ true → (test ≡ true) × (is_of kinds token ≡ true)
if_parts true kinds token h = (refl, h)
if_parts false kinds token h = cc

pub begins_nothing : {A : Type 0} (x : A) → BeginsSo (SpellsNothing x) of_nothing
begins_nothing x = record { begin = λ token h. cc; empty = λ h. (x, (refl, refl)) }

token_begins : {A : Type 0} (kind : Terminal) (f : PlacedLexeme → A) (token : PlacedLexeme) → is_of (kind ∷ []) token ≡ true → Begins (SpellsToken kind f) (token ∷ [])
token_begins kind f token h = elim (or_cases (fits kind token) false h) [
  | inl e ↦ ([], f token, (token, e, refl, refl))
  | inr e ↦ cc
]

pub begins_token : {A : Type 0} (kind : Terminal) (f : PlacedLexeme → A) → BeginsSo (SpellsToken kind f) (of_token kind)
begins_token kind f = record { begin = token_begins kind f; empty = λ h. cc }

module _ {A B C : Type 0} (f : A → B → C) (First : Form A) (Second : A → Form B) (a b : Marks)
    (starts : BeginsSo First a) (some : (x : A) → IsSpelled (Second x)) (follows : a.is_empty ≡ true → (x : A) → BeginsSo (Second x) b) where
  both_begin_so : (token : PlacedLexeme) → is_of (of_both a b).begins token ≡ true → Begins (SpellsBoth f First Second) (token ∷ [])
  both_begin_so token g = elim (is_of_parts a.begins _ token g) [
    | inl h ↦
        let (behind, x, k) = starts.begin token h in
        let (z, v, l) = some x in
        (behind ++ v, f x z, (token ∷ behind, v, x, z, k, l, refl, refl))
    | inr h ↦
        let (e, i) = if_parts a.is_empty b.begins token h in
        let (x, k) = starts.empty e in
        let (behind, z, l) = (follows e x).begin token i in
        (behind, f x z, ([], token ∷ behind, x, z, k, l, refl, refl))
  ]

  both_empty : (of_both a b).is_empty ≡ true → (y : C) × SpellsBoth f First Second y []
  both_empty g =
      let (e, d) = and_parts a.is_empty b.is_empty g in
      let (x, h) = starts.empty e in
      let (z, k) = (follows e x).empty d in
      (f x z, ([], [], x, z, h, k, refl, refl))

  pub begins_both : BeginsSo (SpellsBoth f First Second) (of_both a b)
  begins_both = record { begin = both_begin_so; empty = both_empty }

module _ {A : Type 0} (First Second : Form A) (a b : Marks) (starts : BeginsSo First a) (follows : BeginsSo Second b) where
  either_begin_so : (token : PlacedLexeme) → is_of (of_either a b).begins token ≡ true → Begins (SpellsEither First Second) (token ∷ [])
  either_begin_so token g = elim (is_of_parts a.begins b.begins token g) [
    | inl h ↦ let (behind, x, k) = starts.begin token h in (behind, x, inl k)
    | inr h ↦ let (behind, x, k) = follows.begin token h in (behind, x, inr k)
  ]

  pub begins_either : BeginsSo (SpellsEither First Second) (of_either a b)
  begins_either = record { begin = either_begin_so; empty = λ h. let (x, k) = follows.empty h in (x, inr k) }

module _ {A B : Type 0} (f : List A → B) (refusals : List Refusal) (Spelled : Form A) (a : Marks) (starts : BeginsSo Spelled a) where
  many_begin_so : (token : PlacedLexeme) → is_of a.begins token ≡ true → Begins (SpellsMany f Spelled) (token ∷ [])
  many_begin_so token h =
      let (behind, x, k) = starts.begin token h in
      (behind, f (x ∷ []), (x ∷ [], (token ∷ behind, [], k, refl, sym (append-nil (token ∷ behind))), refl))

  pub begins_many : BeginsSo (SpellsMany f Spelled) (of_many refusals a)
  begins_many = record { begin = many_begin_so; empty = λ h. (f [], ([], refl, refl)) }

module _ {B : Type 0} (Spelled : Form B) (name : Bytes) (b : Marks) (starts : BeginsSo Spelled b) (whole : b.is_empty ≡ false) where
  introduction_begins : (token : PlacedLexeme) → is_of b.begins token ≡ true → Begins (SpellsOther Spelled name) (token ∷ [])
  introduction_begins token h =
      let (behind, x, k) = starts.begin token h in
      let (last, fit) = token_of (NameBut name) refl in
      (behind ++ last ∷ [], Some (text_of last), inr (token ∷ behind, last ∷ [], x, text_of last, k, (last, fit, refl, refl), refl, refl))

  other_begin_so : (token : PlacedLexeme) → is_of (of_other b).begins token ≡ true → Begins (SpellsOther Spelled name) (token ∷ [])
  other_begin_so token g = elim (is_of_parts (of_both b (of_token Name)).begins [] token g) [
    | inl h ↦ elim (is_of_parts b.begins _ token h) [
      | inl k ↦ introduction_begins token k
      | inr k ↦ absurd (both_ways b.is_empty whole (if_parts b.is_empty (Name ∷ []) token k).0)
    ]
    | inr h ↦ cc
  ]

  pub begins_other : BeginsSo (SpellsOther Spelled name) (of_other b)
  begins_other = record { begin = other_begin_so; empty = λ h. (None, inl (refl, refl)) }

module _ {A B : Type 0} (f : A → B) (Spelled : Form A) (a : Marks) (starts : BeginsSo Spelled a) where
  called_begin_so : (token : PlacedLexeme) → is_of a.begins token ≡ true → Begins (SpellsCalled f Spelled) (token ∷ [])
  called_begin_so token h = let (behind, x, k) = starts.begin token h in (behind, f x, (x, k, refl))

  called_empty : a.is_empty ≡ true → (y : B) × SpellsCalled f Spelled y []
  called_empty h = let (x, k) = starts.empty h in (f x, (x, k, refl))

  pub begins_called : BeginsSo (SpellsCalled f Spelled) (record a { is_guarded = false })
  begins_called = record { begin = called_begin_so; empty = called_empty }

-- the guard of two, where the second is reached behind a first of no token alone
guard_first : {P : Type 0} (a b empty : Bool) → ((a && (if empty then b else true)) ≡ true) ⊎ P → (a ≡ true) ⊎ P
guard_first a b empty (inl h) = inl (and_parts a (if empty then b else true) h).0
guard_first a b empty (inr h) = inr h

guard_behind_nothing : {P : Type 0} (a b empty : Bool) → ((a && (if empty then b else true)) ≡ true) ⊎ P → empty ≡ true → (b ≡ true) ⊎ P
guard_behind_nothing a b true (inl h) e = inl (and_parts a b h).1
guard_behind_nothing a b false (inl h) e = cc
guard_behind_nothing a b empty (inr h) e = inr h

guard_left : {P : Type 0} (a b : Bool) → ((a && b) ≡ true) ⊎ P → (a ≡ true) ⊎ P
guard_left a b (inl h) = inl (and_parts a b h).0
guard_left a b (inr h) = inr h

guard_right : {P : Type 0} (a b : Bool) → ((a && b) ≡ true) ⊎ P → (b ≡ true) ⊎ P
guard_right a b (inl h) = inl (and_parts a b h).1
guard_right a b (inr h) = inr h

guard_other : {P : Type 0} (b : Marks) → ((of_other b).is_guarded ≡ true) ⊎ P → (b.is_guarded ≡ true) ⊎ P
guard_other b h = guard_left b.is_guarded (if b.is_empty then true else true) (guard_left (of_both b (of_token Name)).is_guarded true h)

module _ (calls : (n : Nonterminal) → Form (ValueOf n)) (marks : Nonterminal → Marks) (spelled : (n : Nonterminal) → IsSpelled (calls n)) where
  -- the rule calls none where it begins, or the beginnings of all that are called are such
  pub begins_by : {A : Type 0} (r : Rule A) → is_fit_by marks r ≡ true → ((marks_by marks r).is_guarded ≡ true) ⊎ ((n : Nonterminal) → BeginsSo (calls n) (marks n))
      → BeginsSo (SpellsBy calls r) (marks_by marks r)
  begins_by (Done x) fit guard = begins_nothing x
  begins_by (Token kind f) fit guard = begins_token kind f
  begins_by (Both f a b) fit guard =
      let (first, second, fits) = fit_both marks f a b fit in
      begins_both f _ _ _ _ (begins_by a first (guard_first _ (marks_by marks b).is_guarded (marks_by marks a).is_empty guard)) (λ x. some_by calls marks spelled b second)
      (λ e x. begins_by b second (guard_behind_nothing (marks_by marks a).is_guarded _ (marks_by marks a).is_empty guard e))
  begins_by (Either kinds a b) fit guard =
      let (first, second, fits) = fit_either marks kinds a b fit in
      begins_either _ _ _ _ (begins_by a first (guard_left _ (marks_by marks b).is_guarded guard)) (begins_by b second (guard_right (marks_by marks a).is_guarded _ guard))
  begins_by (Many kinds refusals f a) fit guard =
      begins_many f refusals _ _ (begins_by a (fit_many marks kinds refusals f a fit).0 guard)
  begins_by (Differing f a name kinds b) fit guard =
      let (first, second, fits) = fit_differing marks f a name kinds b fit in
      let guard_second = λ (e : (marks_by marks a).is_empty ≡ true). guard_other (marks_by marks b)
      (guard_behind_nothing (marks_by marks a).is_guarded (of_other (marks_by marks b)).is_guarded (marks_by marks a).is_empty guard e) in
      begins_both f _ _ _ _ (begins_by a first (guard_first _ (of_other (marks_by marks b)).is_guarded (marks_by marks a).is_empty guard)) (λ x. some_other _ (name x))
      (λ e x. begins_other _ (name x) _ (begins_by b second (guard_second e)) fits.introduction.whole)
  begins_by (Call nonterminal f) fit (inl guard) = cc
  begins_by (Call nonterminal f) fit (inr begin) = begins_called f _ _ (begin nonterminal)
  begins_by (Unless refusals a) fit guard =
      let starts = begins_by a (fit_unless marks refusals a fit).0 guard in
      record { begin = starts.begin; empty = starts.empty }
  begins_by (Limited most limit a) fit guard =
      let starts = begins_by a (fit_limited marks most limit a fit).0 guard in
      record { begin = starts.begin; empty = starts.empty }

-- 3. What stands before a refused place begins the form.
longer : {A B C : Type 0} (f : A → B → C) (First : Form A) (Second : A → Form B) (u : List PlacedLexeme) → Begins First u → ((x : A) → IsSpelled (Second x))
    → Begins (SpellsBoth f First Second) u
longer f First Second u (behind, x, h) some =
    let (z, v, k) = some x in
    (behind ++ v, f x z, (u ++ behind, v, x, z, h, k, sym (append_assoc u behind v), refl))

pub barred_both : {A B C : Type 0} (f : A → B → C) (First : Form A) (first : Bar) (Second : A → Form B) (second : A → Bar)
    → IsBehindBeginning First first → ((x : A) → IsSpelled (Second x)) → ((x : A) → IsBehindBeginning (Second x) (second x))
    → IsBehindBeginning (SpellsBoth f First Second) (BarsBoth First first second)
barred_both f First first Second second barred some follows u rest fault (inl h) = longer f First Second u (barred u rest fault h) some
barred_both f First first Second second barred some follows u rest fault (inr (front, behind, x, h, e, k)) =
    let (more, z, l) = follows x behind rest fault k in
    (more, f x z, (front, behind ++ more, x, z, h, l, ap (λ (v : List PlacedLexeme). v ++ more) e ∙ append_assoc front behind more, refl))

pub barred_either : {A : Type 0} (First : Form A) (first : Bar) (Second : Form A) (second : Bar) → IsBehindBeginning First first → IsBehindBeginning Second second
    → IsBehindBeginning (SpellsEither First Second) (BarsEither first second)
barred_either First first Second second barred follows u rest fault (inl h) = let (behind, x, k) = barred u rest fault h in (behind, x, inl k)
barred_either First first Second second barred follows u rest fault (inr h) = let (behind, x, k) = follows u rest fault h in (behind, x, inr k)

one_more : {A : Type 0} (Spelled : Form A) (xs : List A) (x : A) (front last : List PlacedLexeme) → SpellsEach Spelled xs front → Spelled x last
    → SpellsEach Spelled (xs ++ x ∷ []) (front ++ last)
one_more Spelled [] x front last h k = (last, [], k, refl, ap (λ (v : List PlacedLexeme). v ++ last) h ∙ sym (append-nil last))
one_more Spelled (y ∷ ys) x front last (begin, behind, h, i, e) k =
    (begin, behind ++ last, h, one_more Spelled ys x behind last i k, ap (λ (v : List PlacedLexeme). v ++ last) e ∙ append_assoc begin behind last)

pub barred_many : {A B : Type 0} (f : List A → B) (refusals : List Refusal) (Spelled : Form A) (bar : Bar) → IsBehindBeginning Spelled bar
    → IsBehindBeginning (SpellsMany f Spelled) (BarsMany refusals Spelled bar)
barred_many f refusals Spelled bar barred u rest fault (front, behind, xs, h, e, inl k) =
    let (more, x, l) = barred behind rest fault k in
    let joined : u ++ more ≡ front ++ (behind ++ more) = ap (λ (v : List PlacedLexeme). v ++ more) e ∙ append_assoc front behind more in
    (more, f (xs ++ x ∷ []), (xs ++ x ∷ [], subst (SpellsEach Spelled (xs ++ x ∷ [])) (sym joined) (one_more Spelled xs x front (behind ++ more) h l), refl))
barred_many f refusals Spelled bar barred u rest fault (front, behind, xs, h, e, inr k) =
    let whole : u ++ [] ≡ front = append-nil u ∙ e ∙ ap (λ (v : List PlacedLexeme). front ++ v) k.0 ∙ append-nil front in
    ([], f xs, (xs, subst (SpellsEach Spelled xs) (sym whole) h, refl))

pub barred_other : {B : Type 0} (Spelled : Form B) (bars : Bar) (name : Bytes) → IsBehindBeginning Spelled bars → IsBehindBeginning (SpellsOther Spelled name) bars
barred_other Spelled bars name barred u rest fault h =
    let some = some_token (NameBut name) text_of refl in
    let (behind, y, k) = longer (λ b text. Some text) Spelled (λ b. SpellsToken (NameBut name) text_of) u (barred u rest fault h) (λ b. some) in
    (behind, y, inr k)

pub barred_called : {A B : Type 0} (f : A → B) (Spelled : Form A) (bars : Bar) → IsBehindBeginning Spelled bars → IsBehindBeginning (SpellsCalled f Spelled) bars
barred_called f Spelled bars barred u rest fault h = let (behind, x, k) = barred u rest fault h in (behind, f x, (x, k, refl))

barred_here : {A : Type 0} (Spelled : Form A) (refusals : List Refusal) → IsSpelled Spelled → IsBehindBeginning Spelled (BarsHere refusals)
barred_here Spelled refusals (x, v, h) u rest fault k = (v, x, subst (λ (t : List PlacedLexeme). Spelled x (t ++ v)) (sym k.0) h)

pub barred_unless : {A : Type 0} (Spelled : Form A) (bars : Bar) (refusals : List Refusal) → IsSpelled Spelled → IsBehindBeginning Spelled bars
    → IsBehindBeginning Spelled (BarsEither (BarsHere refusals) bars)
barred_unless Spelled bars refusals some barred u rest fault (inl h) = barred_here Spelled refusals some u rest fault h
barred_unless Spelled bars refusals some barred u rest fault (inr h) = barred u rest fault h

barred_next : {A : Type 0} (Spelled : Form A) (most : ℕ) (limit : SqlFault) → IsBehindBeginning Spelled (BarsNext most limit Spelled)
barred_next Spelled most limit [] rest fault h = absurd h
barred_next Spelled most limit (first ∷ others) [] fault h = absurd h
barred_next Spelled most limit (first ∷ others) (token ∷ rest) fault (e, (behind, x, h), d) =
    (token ∷ behind, x, subst (Spelled x) (move_one (first ∷ others) token behind) h)

pub barred_limited : {A : Type 0} (Spelled : Form A) (bars : Bar) (most : ℕ) (limit : SqlFault) → IsBehindBeginning Spelled bars
    → IsBehindBeginning Spelled (BarsEither (BarsNext most limit Spelled) bars)
barred_limited Spelled bars most limit barred u rest fault (inl h) = barred_next Spelled most limit u rest fault h
barred_limited Spelled bars most limit barred u rest fault (inr h) = barred u rest fault h

module _ (calls : (n : Nonterminal) → Form (ValueOf n)) (bars : Nonterminal → Bar) (marks : Nonterminal → Marks) (spelled : (n : Nonterminal) → IsSpelled (calls n))
    (barred : (n : Nonterminal) → IsBehindBeginning (calls n) (bars n)) where
  pub barred_by : {A : Type 0} (r : Rule A) → is_fit_by marks r ≡ true → IsBehindBeginning (SpellsBy calls r) (BarsBy calls bars r)
  barred_by (Done x) fit = λ u rest fault h. absurd h
  barred_by (Token kind f) fit = λ u rest fault h. absurd h
  barred_by (Both f a b) fit =
      let (first, second, fits) = fit_both marks f a b fit in
      barred_both f (SpellsBy calls a) (BarsBy calls bars a) (λ x. SpellsBy calls b) (λ x. BarsBy calls bars b)
      (barred_by a first) (λ x. some_by calls marks spelled b second) (λ x. barred_by b second)
  barred_by (Either kinds a b) fit =
      let (first, second, fits) = fit_either marks kinds a b fit in
      barred_either (SpellsBy calls a) (BarsBy calls bars a) (SpellsBy calls b) (BarsBy calls bars b) (barred_by a first) (barred_by b second)
  barred_by (Many kinds refusals f a) fit = barred_many f refusals (SpellsBy calls a) (BarsBy calls bars a) (barred_by a (fit_many marks kinds refusals f a fit).0)
  barred_by (Differing f a name kinds b) fit =
      let (first, second, fits) = fit_differing marks f a name kinds b fit in
      barred_both f (SpellsBy calls a) (BarsBy calls bars a) (λ x. SpellsOther (SpellsBy calls b) (name x)) (λ x. BarsBy calls bars b)
      (barred_by a first) (λ x. some_other (SpellsBy calls b) (name x)) (λ x. barred_other (SpellsBy calls b) (BarsBy calls bars b) (name x) (barred_by b second))
  barred_by (Call nonterminal f) fit = barred_called f (calls nonterminal) (bars nonterminal) (barred nonterminal)
  barred_by (Unless refusals a) fit =
      let first = (fit_unless marks refusals a fit).0 in
      barred_unless (SpellsBy calls a) (BarsBy calls bars a) refusals (some_by calls marks spelled a first) (barred_by a first)
  barred_by (Limited most limit a) fit =
      barred_limited (SpellsBy calls a) (BarsBy calls bars a) most limit (barred_by a (fit_limited marks most limit a fit).0)

-- 4. Every rule that is fit has its marks, where all that are called have theirs.
module _ (calls : (n : Nonterminal) → Form (ValueOf n)) (bars : Nonterminal → Bar) (marks : Nonterminal → Marks)
    (has_marks : (n : Nonterminal) → HasMarks (calls n) (bars n) (marks n)) where
  pub has_marks_by : {A : Type 0} (r : Rule A) → is_fit_by marks r ≡ true → HasMarks (SpellsBy calls r) (BarsBy calls bars r) (marks_by marks r)
  has_marks_by r fit =
      record {
        keeps = keeps_by calls bars marks (λ n. (has_marks n).keeps) r fit;
        some = some_by calls marks (λ n. (has_marks n).some) r fit;
        begins_so = begins_by calls marks (λ n. (has_marks n).some) r fit (inr (λ n. (has_marks n).begins_so));
        barred = barred_by calls bars marks (λ n. (has_marks n).some) (λ n. (has_marks n).barred) r fit;
      }
