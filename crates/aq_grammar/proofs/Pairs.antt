-- A form ends with its ends, and no subquery stands in one whose neighbouring parts make none.
use Rattle.std.proofs.Common.{◌≡◌, ℕ, zero, suc, Bool, true, false, ◌&&◌, List, [], ◌∷◌, ◌++◌, refl, sym, ap, subst, ◌∙◌, append_assoc, inl, inr, Option, Some}
use Rattle.std.proofs.lemmas.Bool.{and_parts, and_from, or_cases, or_left}
use Rattle.aq_base.specs.Names.{Text as Bytes}
use Rattle.aq_lex.specs.Lexemes.{PlacedLexeme}
use Rattle.aq_grammar.specs.Terminals.{Terminal, Name, NameBut, fits, is_of, text_of}
use Rattle.aq_grammar.specs.Rules.{Nonterminal, ValueOf, Rule, Done, Token, Both, Either, Many, Differing, Call, Unless, Limited, Form, Bar, BarsNone, SpellsToken, SpellsBoth, SpellsEach, SpellsOther, SpellsBy, BarsBy}
use Rattle.aq_grammar.specs.Sets.{Marks, marks_by, of_other, is_fit_by}
use Rattle.aq_grammar.specs.Calls.{Rules, AreFit, CalledWithin, Called, BarsCalled}
use Rattle.aq_grammar.specs.Pairs.{open_paren, select_word, HasSubquery, ends_of_both, ends_by, may_be, opens_none, has_no_subquery_by}
use Rattle.aq_grammar.proofs.Languages.{KeepsMarks}
use Rattle.aq_grammar.proofs.Cuts.{Compared, Same, Longer, Shorter, compare, parts_of_nothing}
use Rattle.aq_grammar.proofs.Apart.{not_both, is_of_front, is_of_behind, is_of_parts}
use Rattle.aq_grammar.proofs.Keeping.{is_of_if, empty_since, begun_by, fit_both, fit_either, fit_many, fit_differing, fit_unless, fit_limited, keeps_by, keeps_other, other_is_name}
use Rattle.aq_grammar.proofs.Called.{keeps_part, called_keeps}

-- 1. What is said of lists of tokens alone.
abbrev pub Tokens : Type 1
Tokens = List PlacedLexeme → Type 0

abbrev pub EndSo : Tokens → List Terminal → Type 0
EndSo Are kinds = (u : List PlacedLexeme) (token : PlacedLexeme) → Are (u ++ token ∷ []) → is_of kinds token ≡ true

abbrev pub BeginSo : Tokens → List Terminal → Type 0
BeginSo Are kinds = (token : PlacedLexeme) (u : List PlacedLexeme) → Are (token ∷ u) → is_of kinds token ≡ true

abbrev pub HaveNoSubquery : Tokens → Type 0
HaveNoSubquery Are = (u : List PlacedLexeme) → Are u → HasSubquery u → ⊥

no_last : (u : List PlacedLexeme) (token : PlacedLexeme) (v : List PlacedLexeme) → [] ≡ u ++ token ∷ v → ⊥
no_last [] token v e = cc
no_last (other ∷ u) token v e = cc

module _ (First Second : Tokens) (a b : List Terminal) (front behind : List PlacedLexeme) (first : First front) (second : Second behind) where
  module _ (empty : Bool) (ended : EndSo First a) (follows : EndSo Second b) (since : Second [] → empty ≡ true) where
    ended_at : (u : List PlacedLexeme) (token : PlacedLexeme) → Compared u (token ∷ []) front behind → is_of (ends_of_both a b empty) token ≡ true
    ended_at u token (Same e d) = is_of_front b _ token (follows [] token (subst Second (sym d) second))
    ended_at u token (Longer t more e d) = is_of_front b _ token (follows (t ∷ more) token (subst Second d second))
    ended_at u token (Shorter t more e d) =
        let (none, nothing) = parts_of_nothing more behind cc in
        let whole : front ≡ u ++ token ∷ [] = cc in
        is_of_behind b _ token (is_of_if empty a token (since (subst Second nothing second)) (ended u token (subst First whole first)))

    -- of two, one after the other, the second ends the whole, or the first where the second is empty
    pub cut_ends : (u : List PlacedLexeme) (token : PlacedLexeme) → u ++ token ∷ [] ≡ front ++ behind → is_of (ends_of_both a b empty) token ≡ true
    cut_ends u token e = ended_at u token (compare u (token ∷ []) front behind e)

  module _ (ended : EndSo First a) (begun : BeginSo Second b) (fit : opens_none a b ≡ true) where
    not_across : (before after : List PlacedLexeme) (line1 line2 : ℕ) → front ≡ before ++ record { line = line1; lexeme = open_paren } ∷ []
        → behind ≡ record { line = line2; lexeme = select_word } ∷ after → ⊥
    not_across before after line1 line2 e d =
        let opened = ended before (record { line = line1; lexeme = open_paren }) (subst First e first) in
        let selected = begun (record { line = line2; lexeme = select_word }) after (subst Second d second) in
        not_both (may_be a open_paren && may_be b select_word) fit (and_from (may_be a open_paren) (may_be b select_word) opened selected)

    module _ (free : HaveNoSubquery First) (follows : HaveNoSubquery Second) where
      free_at : (before after : List PlacedLexeme) (line1 line2 : ℕ)
          → Compared before (record { line = line1; lexeme = open_paren } ∷ record { line = line2; lexeme = select_word } ∷ after) front behind → ⊥
      free_at before after line1 line2 (Same e d) = follows behind second ([], after, line1, line2, sym d)
      free_at before after line1 line2 (Longer t more e d) = follows behind second (t ∷ more, after, line1, line2, d)
      free_at before after line1 line2 (Shorter t [] e d) =
          let opened : front ≡ before ++ record { line = line1; lexeme = open_paren } ∷ [] = cc in
          not_across before after line1 line2 opened cc
      free_at before after line1 line2 (Shorter t (s ∷ more) e d) =
          let within : front ≡ before ++ record { line = line1; lexeme = open_paren } ∷ record { line = line2; lexeme = select_word } ∷ more = cc in
          free front first (before, more, line1, line2, within)

      -- of two, one after the other, a subquery stands in the one, in the other, or is made of the end of the one and the beginning of the other
      pub cut_free : HasSubquery (front ++ behind) → ⊥
      cut_free (before, after, line1, line2, e) = free_at before after line1 line2 (compare before _ front behind (sym e))

pub no_subquery_of_nothing : HasSubquery [] → ⊥
no_subquery_of_nothing (before, after, line1, line2, e) = no_last before _ _ e

pub no_subquery_of_one : (token : PlacedLexeme) → HasSubquery (token ∷ []) → ⊥
no_subquery_of_one token ([], after, line1, line2, e) = cc
no_subquery_of_one token (first ∷ before, after, line1, line2, e) =
    let rest : [] ≡ before ++ record { line = line1; lexeme = open_paren } ∷ record { line = line2; lexeme = select_word } ∷ after = cc in
    no_last before _ _ rest

-- a subquery of a beginning is one of the whole
pub subquery_of_beginning : (u behind : List PlacedLexeme) → HasSubquery u → HasSubquery (u ++ behind)
subquery_of_beginning u behind (before, after, line1, line2, e) =
    (before, after ++ behind, line1, line2, ap (λ (v : List PlacedLexeme). v ++ behind) e ∙ append_assoc before _ behind)

-- 2. With its ends a whole form ends.
pub ends_nothing : (kinds : List Terminal) → EndSo (λ u. u ≡ []) kinds
ends_nothing kinds u token e = absurd (no_last u token [] (sym e))

ends_token : {A : Type 0} (kind : Terminal) (f : PlacedLexeme → A) (y : A) → EndSo (SpellsToken kind f y) (kind ∷ [])
ends_token kind f y [] token (other, fit, is, e) =
    let same : other ≡ token = cc in
    or_left (fits kind token) false (subst (λ t. fits kind t ≡ true) same fit)
ends_token kind f y (first ∷ u) token (other, fit, is, e) = absurd (no_last u token [] cc)

module _ {A B C : Type 0} (f : A → B → C) (First : Form A) (Second : A → Form B) (a b : List Terminal) (empty : Bool)
    (ended : (x : A) → EndSo (First x) a) (follows : (x : A) (z : B) → EndSo (Second x z) b) (since : (x : A) (z : B) → Second x z [] → empty ≡ true) where
  pub ends_both : (y : C) → EndSo (SpellsBoth f First Second y) (ends_of_both a b empty)
  ends_both y u token (front, behind, x, z, h, k, e, is) =
      cut_ends (First x) (Second x z) a b front behind h k empty (ended x) (follows x z) (since x z) u token e

module _ {A : Type 0} (Spelled : Form A) (kinds : List Terminal) (ended : (x : A) → EndSo (Spelled x) kinds) where
  pub ends_each : (xs : List A) → EndSo (SpellsEach Spelled xs) kinds
  ends_each [] u token h = absurd (no_last u token [] (sym h))
  ends_each (x ∷ others) u token (front, behind, h, k, e) =
      elim (is_of_parts kinds kinds token (cut_ends (Spelled x) (SpellsEach Spelled others) kinds kinds front behind h k true (ended x) (ends_each others) (λ n. refl) u token e)) [
        | inl i ↦ i
        | inr i ↦ i
      ]

ends_other_name : (name : Bytes) (y : Bytes) → EndSo (SpellsToken (NameBut name) text_of y) (Name ∷ [])
ends_other_name name y u token h = elim (or_cases (fits (NameBut name) token) false (ends_token (NameBut name) text_of y u token h)) [
  | inl e ↦ or_left (fits Name token) false (other_is_name name token e)
  | inr e ↦ cc
]

no_empty_token : {A : Type 0} (kind : Terminal) (f : PlacedLexeme → A) (y : A) → SpellsToken kind f y [] → ⊥
no_empty_token kind f y (token, fit, is, e) = cc

module _ {B : Type 0} (Spelled : Form B) (b : List Terminal) (ended : (x : B) → EndSo (Spelled x) b) (name : Bytes) where
  ends_other : (y : Option Bytes) → EndSo (SpellsOther Spelled name y) (Name ∷ [])
  ends_other y u token (inl (is, e)) = absurd (no_last u token [] (sym e))
  ends_other y u token (inr h) =
      ends_both (λ x text. Some text) Spelled (λ x. SpellsToken (NameBut name) text_of) b (Name ∷ []) false ended (λ x z. ends_other_name name z)
      (λ x z k. absurd (no_empty_token (NameBut name) text_of z k)) y u token h

module _ (calls : (n : Nonterminal) → Form (ValueOf n)) (bars : Nonterminal → Bar) (marks : Nonterminal → Marks) (ends : Nonterminal → List Terminal)
    (keeps : (n : Nonterminal) → KeepsMarks (calls n) (bars n) (marks n)) (ended : (n : Nonterminal) (x : ValueOf n) → EndSo (calls n x) (ends n)) where
  -- a whole form of the rule ends so, where those of all that are called do
  pub ended_by : {A : Type 0} (r : Rule A) → is_fit_by marks r ≡ true → (x : A) → EndSo (SpellsBy calls r x) (ends_by ends marks r)
  ended_by (Done y) fit x u token (is, e) = absurd (no_last u token [] (sym e))
  ended_by (Token kind f) fit x u token h = ends_token kind f x u token h
  ended_by (Both f a b) fit x u token h =
      let (first, second, fits) = fit_both marks f a b fit in
      ends_both f (SpellsBy calls a) (λ y. SpellsBy calls b) (ends_by ends marks a) (ends_by ends marks b) (marks_by marks b).is_empty
      (ended_by a first) (λ y. ended_by b second) (λ y z k. empty_since (keeps_by calls bars marks keeps b second) z k) x u token h
  ended_by (Either kinds a b) fit x u token (inl h) =
      is_of_front (ends_by ends marks a) (ends_by ends marks b) token (ended_by a (fit_either marks kinds a b fit).0 x u token h)
  ended_by (Either kinds a b) fit x u token (inr h) =
      is_of_behind (ends_by ends marks a) (ends_by ends marks b) token (ended_by b (fit_either marks kinds a b fit).1 x u token h)
  ended_by (Many kinds refusals f a) fit x u token (xs, h, is) =
      ends_each (SpellsBy calls a) (ends_by ends marks a) (ended_by a (fit_many marks kinds refusals f a fit).0) xs u token h
  ended_by (Differing f a name kinds b) fit x u token h =
      let (first, second, fits) = fit_differing marks f a name kinds b fit in
      ends_both f (SpellsBy calls a) (λ y. SpellsOther (SpellsBy calls b) (name y)) (ends_by ends marks a) (Name ∷ []) true
      (ended_by a first) (λ y. ends_other (SpellsBy calls b) (ends_by ends marks b) (ended_by b second) (name y)) (λ y z k. refl) x u token h
  ended_by (Call nonterminal f) fit x u token (y, h, is) = ended nonterminal y u token h
  ended_by (Unless refusals a) fit x u token h = ended_by a (fit_unless marks refusals a fit).0 x u token h
  ended_by (Limited most limit a) fit x u token h = ended_by a (fit_limited marks most limit a fit).0 x u token h

-- 3. No subquery stands in it.
pub free_nothing : HaveNoSubquery (λ u. u ≡ [])
free_nothing u e h = no_subquery_of_nothing (subst HasSubquery e h)

free_token : {A : Type 0} (kind : Terminal) (f : PlacedLexeme → A) (y : A) → HaveNoSubquery (SpellsToken kind f y)
free_token kind f y u (token, fit, is, e) h = no_subquery_of_one token (subst HasSubquery e h)

module _ {A B C : Type 0} (f : A → B → C) (First : Form A) (Second : A → Form B) (a b : List Terminal)
    (ended : (x : A) → EndSo (First x) a) (begun : (x : A) (z : B) → BeginSo (Second x z) b) (fit : opens_none a b ≡ true)
    (free : (x : A) → HaveNoSubquery (First x)) (follows : (x : A) (z : B) → HaveNoSubquery (Second x z)) where
  pub free_both : (y : C) → HaveNoSubquery (SpellsBoth f First Second y)
  free_both y u (front, behind, x, z, h, k, e, is) s =
      cut_free (First x) (Second x z) a b front behind h k (ended x) (begun x z) fit (free x) (follows x z) (subst HasSubquery e s)

module _ {A : Type 0} (Spelled : Form A) (a b : List Terminal) (begun : (x : A) → BeginSo (Spelled x) b) where
  begins_each : (xs : List A) → BeginSo (SpellsEach Spelled xs) b
  begins_each [] token u h = cc
  begins_each (x ∷ others) token u ([], behind, h, k, e) = begins_each others token u (subst (SpellsEach Spelled others) (sym e) k)
  begins_each (x ∷ others) token u (first ∷ front, behind, h, k, e) =
      let same : first ≡ token = cc in
      begun x token front (subst (λ t. Spelled x (t ∷ front)) same h)

  module _ (ended : (x : A) → EndSo (Spelled x) a) (fit : opens_none a b ≡ true) (free : (x : A) → HaveNoSubquery (Spelled x)) where
    pub free_each : (xs : List A) → HaveNoSubquery (SpellsEach Spelled xs)
    free_each [] u e h = free_nothing u e h
    free_each (x ∷ others) u (front, behind, h, k, e) s =
        cut_free (Spelled x) (SpellsEach Spelled others) a b front behind h k (ended x) (begins_each others) fit (free x) (free_each others) (subst HasSubquery e s)

begins_other_name : (name : Bytes) (y : Bytes) → BeginSo (SpellsToken (NameBut name) text_of y) (Name ∷ [])
begins_other_name name y token u (other, fit, is, e) =
    let same : other ≡ token = cc in
    or_left (fits Name token) false (other_is_name name token (subst (λ t. fits (NameBut name) t ≡ true) same fit))

module _ {B : Type 0} (Spelled : Form B) (b : List Terminal) (ended : (x : B) → EndSo (Spelled x) b) (free : (x : B) → HaveNoSubquery (Spelled x))
    (fit : opens_none b (Name ∷ []) ≡ true) (name : Bytes) where
  free_other : (y : Option Bytes) → HaveNoSubquery (SpellsOther Spelled name y)
  free_other y u (inl (is, e)) s = free_nothing u e s
  free_other y u (inr h) s =
      free_both (λ x text. Some text) Spelled (λ x. SpellsToken (NameBut name) text_of) b (Name ∷ []) ended (λ x z. begins_other_name name z) fit free
      (λ x z. free_token (NameBut name) text_of z) y u h s

-- what the test of a rule says of its parts
module _ (ends : Nonterminal → List Terminal) (marks : Nonterminal → Marks) where
  none_both : {A B C : Type 0} (f : A → B → C) (a : Rule A) (b : Rule B) → has_no_subquery_by ends marks (Both f a b) ≡ true
      → (has_no_subquery_by ends marks a ≡ true) × (has_no_subquery_by ends marks b ≡ true) × (opens_none (ends_by ends marks a) (marks_by marks b).begins ≡ true)
  none_both f a b none =
      let across = opens_none (ends_by ends marks a) (marks_by marks b).begins in
      let (parts, apart) = and_parts (has_no_subquery_by ends marks a && has_no_subquery_by ends marks b) across none in
      let (first, second) = and_parts (has_no_subquery_by ends marks a) (has_no_subquery_by ends marks b) parts in
      (first, second, apart)

  none_differing : {A B C : Type 0} (f : A → Option Bytes → C) (a : Rule A) (name : A → Bytes) (kinds : List Terminal) (b : Rule B)
      → has_no_subquery_by ends marks (Differing f a name kinds b) ≡ true
      → (has_no_subquery_by ends marks a ≡ true) × (has_no_subquery_by ends marks b ≡ true)
      × (opens_none (ends_by ends marks a) (of_other (marks_by marks b)).begins ≡ true) × (opens_none (ends_by ends marks b) (Name ∷ []) ≡ true)
  none_differing f a name kinds b none =
      let across = opens_none (ends_by ends marks a) (of_other (marks_by marks b)).begins in
      let named = opens_none (ends_by ends marks b) (Name ∷ []) in
      let (tests, name_apart) = and_parts (has_no_subquery_by ends marks a && has_no_subquery_by ends marks b && across) named none in
      let (parts, apart) = and_parts (has_no_subquery_by ends marks a && has_no_subquery_by ends marks b) across tests in
      let (first, second) = and_parts (has_no_subquery_by ends marks a) (has_no_subquery_by ends marks b) parts in
      (first, second, apart, name_apart)

module _ (calls : (n : Nonterminal) → Form (ValueOf n)) (bars : Nonterminal → Bar) (marks : Nonterminal → Marks) (ends : Nonterminal → List Terminal)
    (keeps : (n : Nonterminal) → KeepsMarks (calls n) (bars n) (marks n)) (ended : (n : Nonterminal) (x : ValueOf n) → EndSo (calls n x) (ends n))
    (free : (n : Nonterminal) (x : ValueOf n) → HaveNoSubquery (calls n x)) where
  -- no subquery stands in the rule, where none does in all that are called
  pub no_subquery_by : {A : Type 0} (r : Rule A) → is_fit_by marks r ≡ true → has_no_subquery_by ends marks r ≡ true → (x : A) → HaveNoSubquery (SpellsBy calls r x)
  no_subquery_by (Done y) fit none x u (is, e) s = free_nothing u e s
  no_subquery_by (Token kind f) fit none x u h s = free_token kind f x u h s
  no_subquery_by (Both f a b) fit none x u h s =
      let (first, second, fits) = fit_both marks f a b fit in
      let (free_first, free_second, apart) = none_both ends marks f a b none in
      free_both f (SpellsBy calls a) (λ y. SpellsBy calls b) (ends_by ends marks a) (marks_by marks b).begins
      (ended_by calls bars marks ends keeps ended a first) (λ y z. begun_by (keeps_by calls bars marks keeps b second) z) apart
      (no_subquery_by a first free_first) (λ y. no_subquery_by b second free_second) x u h s
  no_subquery_by (Either kinds a b) fit none x u (inl h) s =
      no_subquery_by a (fit_either marks kinds a b fit).0 (and_parts (has_no_subquery_by ends marks a) (has_no_subquery_by ends marks b) none).0 x u h s
  no_subquery_by (Either kinds a b) fit none x u (inr h) s =
      no_subquery_by b (fit_either marks kinds a b fit).1 (and_parts (has_no_subquery_by ends marks a) (has_no_subquery_by ends marks b) none).1 x u h s
  no_subquery_by (Many kinds refusals f a) fit none x u (xs, h, is) s =
      let first = (fit_many marks kinds refusals f a fit).0 in
      let (free_first, apart) = and_parts (has_no_subquery_by ends marks a) (opens_none (ends_by ends marks a) (marks_by marks a).begins) none in
      free_each (SpellsBy calls a) (ends_by ends marks a) (marks_by marks a).begins (begun_by (keeps_by calls bars marks keeps a first))
      (ended_by calls bars marks ends keeps ended a first) apart (no_subquery_by a first free_first) xs u h s
  no_subquery_by (Differing f a name kinds b) fit none x u h s =
      let (first, second, fits) = fit_differing marks f a name kinds b fit in
      let (free_first, free_second, apart, name_apart) = none_differing ends marks f a name kinds b none in
      let second_ended = ended_by calls bars marks ends keeps ended b second in
      let second_keeps = keeps_by calls bars marks keeps b second in
      free_both f (SpellsBy calls a) (λ y. SpellsOther (SpellsBy calls b) (name y)) (ends_by ends marks a) (of_other (marks_by marks b)).begins
      (ended_by calls bars marks ends keeps ended a first)
      (λ y z. begun_by (keeps_other (SpellsBy calls b) (BarsBy calls bars b) (marks_by marks b) second_keeps fits.introduction (name y)) z) apart
      (no_subquery_by a first free_first) (λ y. free_other (SpellsBy calls b) (ends_by ends marks b) second_ended (no_subquery_by b second free_second) name_apart (name y))
      x u h s
  no_subquery_by (Call nonterminal f) fit none x u (y, h, is) s = free nonterminal y u h s
  no_subquery_by (Unless refusals a) fit none x u h s = no_subquery_by a (fit_unless marks refusals a fit).0 none x u h s
  no_subquery_by (Limited most limit a) fit none x u h s = no_subquery_by a (fit_limited marks most limit a fit).0 none x u h s

-- 4. The same of the rules that lead back to themselves, by the number of calls within one another.
module _ (rules : Rules) (marks : Nonterminal → Marks) (ends : Nonterminal → List Terminal) (fits : AreFit rules marks)
    (end_so : (n : Nonterminal) (token : PlacedLexeme) → is_of (ends_by ends marks (rules n)) token ≡ true → is_of (ends n) token ≡ true) where
  within_keeps : (most : ℕ) (n : Nonterminal) → KeepsMarks (CalledWithin rules most n) BarsNone (marks n)
  within_keeps most n =
      keeps_part (Called rules n) (CalledWithin rules most n) (BarsCalled rules n) BarsNone (marks n) (λ x u spelled. (most, spelled)) (λ u rest fault barred. absurd barred)
      (called_keeps rules marks fits n)

  ended_within : (most : ℕ) (n : Nonterminal) (x : ValueOf n) → EndSo (CalledWithin rules most n x) (ends n)
  ended_within zero n x u token spelled = absurd spelled
  ended_within (suc most) n x u token spelled =
      end_so n token
      (ended_by (CalledWithin rules most) (λ m. BarsNone) marks ends (within_keeps most) (ended_within most) (rules n) (fits.fit n) x u token spelled)

  pub called_ended : (n : Nonterminal) (x : ValueOf n) → EndSo (Called rules n x) (ends n)
  called_ended n x u token (most, spelled) = ended_within most n x u token spelled

  -- a whole form of any fit rule over the nonterminals ends so
  pub ended_rule : {A : Type 0} (r : Rule A) → is_fit_by marks r ≡ true → (x : A) → EndSo (SpellsBy (Called rules) r x) (ends_by ends marks r)
  ended_rule r fit = ended_by (Called rules) (BarsCalled rules) marks ends (called_keeps rules marks fits) called_ended r fit

  module _ (none : (n : Nonterminal) → has_no_subquery_by ends marks (rules n) ≡ true) where
    free_within : (most : ℕ) (n : Nonterminal) (x : ValueOf n) → HaveNoSubquery (CalledWithin rules most n x)
    free_within zero n x u spelled s = absurd spelled
    free_within (suc most) n x u spelled s =
        no_subquery_by (CalledWithin rules most) (λ m. BarsNone) marks ends (within_keeps most) (ended_within most) (free_within most) (rules n) (fits.fit n) (none n)
        x u spelled s

    pub called_free : (n : Nonterminal) (x : ValueOf n) → HaveNoSubquery (Called rules n x)
    called_free n x u (most, spelled) s = free_within most n x u spelled s

    -- no subquery stands in any fit rule over the nonterminals whose neighbouring parts make none
    pub no_subquery_rule : {A : Type 0} (r : Rule A) → is_fit_by marks r ≡ true → has_no_subquery_by ends marks r ≡ true → (x : A)
        → HaveNoSubquery (SpellsBy (Called rules) r x)
    no_subquery_rule r fit free = no_subquery_by (Called rules) (BarsCalled rules) marks ends (called_keeps rules marks fits) called_ended called_free r fit free
