-- Reading a rule gives exactly its longest beginning, where one token of lookahead is enough.
use Rattle.std.proofs.Common.{◌≡◌, ℕ, suc, ◌≤◌, ◌<◌, Bool, true, false, ◌&&◌, if◌then◌else◌, List, [], ◌∷◌, ◌++◌, length, take, Option, refl, subst, ◌⊎◌, inl, inr, arith, nat_le}
use Rattle.std.proofs.lemmas.Bool.{and_parts, or_left, leb-true}
use Rattle.std.proofs.lemmas.List.{length-take}
use Rattle.aq_base.specs.Names.{Text as Bytes}
use Rattle.aq_base.specs.declared.fault.SqlFault.{SqlFault}
use Rattle.aq_lex.specs.Lexemes.{PlacedLexeme}
use Rattle.aq_grammar.specs.Terminals.{Terminal, Name, NameBut, fits, text_of}
use Rattle.aq_grammar.specs.Rules.{Nonterminal, ValueOf, Refusal, Rule, Done, Token, Both, Either, Many, Differing, Call, Unless, Limited, Form, Bar, SpellsOther, SpellsBy, BarsBy}
use Rattle.aq_grammar.specs.Reading.{Reader, read_other, read_by}
use Rattle.aq_grammar.specs.Sets.{same_kinds, Marks, of_token, of_other, marks_by, both_fit, is_fit_by}
use Rattle.aq_grammar.proofs.Languages.{HasMarks, IsRight}
use Rattle.aq_grammar.proofs.Cuts.{rest_no_longer, rest_shorter}
use Rattle.aq_grammar.proofs.Apart.{are_apart_sound}
use Rattle.aq_grammar.proofs.Keeping.{empty_since, other_is_name, IsIntroduction, AreDistinct, AreRepeated, AreDiffering, fit_both, fit_either, fit_many, fit_differing, fit_unless, fit_limited, keeps_other}
use Rattle.aq_grammar.proofs.Beginning.{some_token, some_other, begins_other, barred_other, has_marks_by}
use Rattle.aq_grammar.proofs.RightParts.{right_nothing, right_token, right_called}
use Rattle.aq_grammar.proofs.RightChoice.{right_either, right_unless}
use Rattle.aq_grammar.proofs.RightBoth.{right_both}
use Rattle.aq_grammar.proofs.RightMany.{right_many}
use Rattle.aq_grammar.proofs.RightLimited.{right_limited}
use Rattle.aq_grammar.proofs.RightOther.{OtherFit, right_other}
use Rattle.aq_grammar.proofs.RightFit.{both_of_marks, starts_of_marks, many_of_marks, either_of_marks, kinds_either, kinds_many, kinds_differing}

-- Rules that lead back to themselves are read right where fewer than `most` tokens come. So few come here,
-- or at most `most`, and none of those rules is called before a token is read.
abbrev pub Within : ℕ → Bool → List PlacedLexeme → Type 0
Within most is_guarded tokens = (length tokens < most) ⊎ ((length tokens ≤ most) × (is_guarded ≡ true))

within_fewer : (most : ℕ) (guarded : Bool) (tokens others : List PlacedLexeme) → length others ≤ length tokens → Within most guarded tokens → Within most guarded others
within_fewer most guarded tokens others h (inl less) = inl (omega arith)
within_fewer most guarded tokens others h (inr more) = let le = more.0 in inr (omega arith, more.1)

within_also : (most : ℕ) (guarded other : Bool) (tokens : List PlacedLexeme) → (guarded ≡ true → other ≡ true) → Within most guarded tokens → Within most other tokens
within_also most guarded other tokens also (inl less) = inl less
within_also most guarded other tokens also (inr more) = inr (more.0, also more.1)

-- behind a front of no token the second is guarded too, and behind another fewer tokens come
within_behind : (most : ℕ) (a b empty : Bool) (tokens front rest : List PlacedLexeme) → tokens ≡ front ++ rest → (front ≡ [] → empty ≡ true)
    → Within most (a && (if empty then b else true)) tokens → Within most b rest
within_behind most a b empty tokens front rest e is_empty (inl less) = let le = rest_no_longer tokens front rest e in inl (omega arith)
within_behind most a b empty tokens [] rest e is_empty (inr more) =
    let both = and_parts a (if empty then b else true) more.1 in
    let guarded : (if true then b else true) ≡ true = subst (λ (x : Bool). (if x then b else true) ≡ true) (is_empty refl) both.1 in
    inr (subst (λ (x : List PlacedLexeme). length x ≤ most) e more.0, guarded)
within_behind most a b empty tokens (token ∷ front) rest e is_empty (inr more) =
    let less = rest_shorter tokens (token ∷ front) rest e (λ n. cc) in
    let le = more.0 in
    inl (omega arith)

other_guarded : (b : Marks) → (of_other b).is_guarded ≡ true → b.is_guarded ≡ true
other_guarded b h = (and_parts b.is_guarded (if b.is_empty then true else true) (and_parts (b.is_guarded && (if b.is_empty then true else true)) true h).0).0

module _ (calls : (n : Nonterminal) → Form (ValueOf n)) (bars : Nonterminal → Bar) (marks : Nonterminal → Marks) (readers : (n : Nonterminal) → Reader (ValueOf n))
    (has_marks : (n : Nonterminal) → HasMarks (calls n) (bars n) (marks n)) where
  has : {A : Type 0} (r : Rule A) → is_fit_by marks r ≡ true → HasMarks (SpellsBy calls r) (BarsBy calls bars r) (marks_by marks r)
  has r fit = has_marks_by calls bars marks has_marks r fit

  other_has : {A : Type 0} (r : Rule A) (name : Bytes) → is_fit_by marks r ≡ true → IsIntroduction (marks_by marks r)
      → HasMarks (SpellsOther (SpellsBy calls r) name) (BarsBy calls bars r) (of_other (marks_by marks r))
  other_has r name fit is =
      record {
        keeps = keeps_other (SpellsBy calls r) (BarsBy calls bars r) (marks_by marks r) (has r fit).keeps is name;
        some = some_other (SpellsBy calls r) name;
        begins_so = begins_other (SpellsBy calls r) name (marks_by marks r) (has r fit).begins_so is.whole;
        barred = barred_other (SpellsBy calls r) (BarsBy calls bars r) name (has r fit).barred;
      }

  other_fit : {A : Type 0} (kinds : List Terminal) (r : Rule A) (name : Bytes) → is_fit_by marks r ≡ true → IsIntroduction (marks_by marks r)
      → same_kinds kinds (marks_by marks r).begins ≡ true → OtherFit kinds (SpellsBy calls r) (BarsBy calls bars r) name
  other_fit kinds r name fit is same =
      let b = marks_by marks r in
      record {
        starts = starts_of_marks kinds (SpellsBy calls r) (BarsBy calls bars r) b (has r fit) same is.whole is.opens_none;
        apart =
            λ x front token s more name_fits.
            are_apart_sound b.goes_on ((of_token Name).begins ++ (of_token Name).opens) token is.fit ((has r fit).keeps.gone_on x front token s more)
            (or_left (fits Name token) false (other_is_name name token name_fits));
        barred = (has r fit).barred;
        some_name = some_token (NameBut name) text_of refl;
      }

  module _ (most : ℕ) (right_calls : (n : Nonterminal) (tokens : List PlacedLexeme) → length tokens < most → IsRight (calls n) (bars n) tokens (readers n tokens)) where
    -- reading the rule is right, wherever few enough tokens come
    abbrev pub IsRightBy : {A : Type 0} → Rule A → Type 0
    IsRightBy r = (tokens : List PlacedLexeme) → Within most (marks_by marks r).is_guarded tokens → IsRight (SpellsBy calls r) (BarsBy calls bars r) tokens (read_by readers r tokens)

    both_by : {A B C : Type 0} (f : A → B → C) (a : Rule A) (b : Rule B) → is_fit_by marks a ≡ true → is_fit_by marks b ≡ true
        → both_fit (marks_by marks a) (marks_by marks b) ≡ true → IsRightBy a → IsRightBy b → IsRightBy (Both f a b)
    both_by f a b first second fit right_a right_b tokens few =
        let first_marks = marks_by marks a in
        let second_marks = marks_by marks b in
        right_both f (SpellsBy calls a) (λ x. SpellsBy calls b) (BarsBy calls bars a) (λ x. BarsBy calls bars b)
        (both_of_marks (SpellsBy calls a) (λ x. SpellsBy calls b) (BarsBy calls bars a) (λ x. BarsBy calls bars b) first_marks second_marks (has a first) (λ x. has b second) fit)
        (read_by readers a) (λ x. read_by readers b) tokens
        (right_a tokens (within_also most (marks_by marks (Both f a b)).is_guarded first_marks.is_guarded tokens (λ h. (and_parts first_marks.is_guarded (if first_marks.is_empty then second_marks.is_guarded else true) h).0) few))
        (λ x front rest e s.
        right_b rest
        (within_behind most first_marks.is_guarded second_marks.is_guarded first_marks.is_empty tokens front rest e
        (λ none. empty_since (has a first).keeps x (subst (λ (u : List PlacedLexeme). SpellsBy calls a x u) none s)) few))

    either_by : {A : Type 0} (kinds : List Terminal) (a b : Rule A) → is_fit_by marks a ≡ true → is_fit_by marks b ≡ true
        → AreDistinct (marks_by marks a) (marks_by marks b) → same_kinds kinds (marks_by marks a).begins ≡ true → IsRightBy a → IsRightBy b → IsRightBy (Either kinds a b)
    either_by kinds a b first second fit same right_a right_b tokens few =
        let first_marks = marks_by marks a in
        let second_marks = marks_by marks b in
        right_either kinds (SpellsBy calls a) (SpellsBy calls b) (BarsBy calls bars a) (BarsBy calls bars b)
        (either_of_marks kinds (SpellsBy calls a) (BarsBy calls bars a) first_marks (has a first) same (SpellsBy calls b) (BarsBy calls bars b) second_marks
        (has b second) fit)
        (read_by readers a) (read_by readers b) tokens
        (right_a tokens (within_also most (first_marks.is_guarded && second_marks.is_guarded) first_marks.is_guarded tokens (λ h. (and_parts first_marks.is_guarded second_marks.is_guarded h).0) few))
        (right_b tokens (within_also most (first_marks.is_guarded && second_marks.is_guarded) second_marks.is_guarded tokens (λ h. (and_parts first_marks.is_guarded second_marks.is_guarded h).1) few))

    many_by : {A B : Type 0} (kinds : List Terminal) (refusals : List Refusal) (f : List A → B) (a : Rule A) → is_fit_by marks a ≡ true
        → AreRepeated refusals (marks_by marks a) → same_kinds kinds (marks_by marks a).begins ≡ true → IsRightBy a → IsRightBy (Many kinds refusals f a)
    many_by kinds refusals f a first fit same right_a tokens few =
        let first_marks = marks_by marks a in
        right_many (SpellsBy calls a) (BarsBy calls bars a) refusals kinds
        (starts_of_marks kinds (SpellsBy calls a) (BarsBy calls bars a) first_marks (has a first) same fit.whole fit.opens_none)
        (many_of_marks refusals (SpellsBy calls a) (BarsBy calls bars a) first_marks (has a first) fit)
        (read_by readers a) f tokens (λ us h. right_a us (within_fewer most first_marks.is_guarded tokens us h few))

    differing_by : {A B C : Type 0} (f : A → Option Bytes → C) (a : Rule A) (name : A → Bytes) (kinds : List Terminal) (b : Rule B) → is_fit_by marks a ≡ true → is_fit_by marks b ≡ true
        → AreDiffering (marks_by marks a) (marks_by marks b) → same_kinds kinds (marks_by marks b).begins ≡ true → IsRightBy a → IsRightBy b → IsRightBy (Differing f a name kinds b)
    differing_by f a name kinds b first second fit same right_a right_b tokens few =
        let first_marks = marks_by marks a in
        let second_marks = marks_by marks b in
        right_both f (SpellsBy calls a) (λ x. SpellsOther (SpellsBy calls b) (name x)) (BarsBy calls bars a) (λ x. BarsBy calls bars b)
        (both_of_marks (SpellsBy calls a) (λ x. SpellsOther (SpellsBy calls b) (name x)) (BarsBy calls bars a) (λ x. BarsBy calls bars b) first_marks (of_other second_marks) (has a first)
        (λ x. other_has b (name x) second fit.introduction) fit.fit)
        (read_by readers a) (λ x. read_other kinds (read_by readers b) (name x)) tokens
        (right_a tokens
        (within_also most (marks_by marks (Differing f a name kinds b)).is_guarded first_marks.is_guarded tokens
        (λ h. (and_parts first_marks.is_guarded (if first_marks.is_empty then (of_other second_marks).is_guarded else true) h).0) few))
        (λ x front rest e s.
        right_other kinds (SpellsBy calls b) (BarsBy calls bars b) (name x) (other_fit kinds b (name x) second fit.introduction same)
        (read_by readers b) rest
        (right_b rest
        (within_also most (of_other second_marks).is_guarded second_marks.is_guarded rest (other_guarded second_marks)
        (within_behind most first_marks.is_guarded (of_other second_marks).is_guarded first_marks.is_empty tokens front rest e
        (λ none. empty_since (has a first).keeps x (subst (λ (u : List PlacedLexeme). SpellsBy calls a x u) none s)) few))))

    limited_by : {A : Type 0} (limit : ℕ) (fault : SqlFault) (a : Rule A) → is_fit_by marks a ≡ true → (marks_by marks a).is_plain ≡ true → nat_le 1 limit ≡ true
        → IsRightBy a → IsRightBy (Limited limit fault a)
    limited_by limit fault a first plain some right_a tokens few =
        right_limited limit fault (SpellsBy calls a) (BarsBy calls bars a) ((has a first).keeps.plain plain) (leb-true 1 limit some) (read_by readers a) tokens
        (right_a (take (suc limit) tokens)
        (within_fewer most (marks_by marks a).is_guarded tokens (take (suc limit) tokens) (omega (arith, length-take (suc limit) tokens)) few))

    called_by : {B : Type 0} (n : Nonterminal) (f : ValueOf n → B) → IsRightBy (Call n f)
    called_by n f tokens (inl less) = right_called f (calls n) (bars n) (readers n) tokens (right_calls n tokens less)
    called_by n f tokens (inr more) = let guarded = more.1 in absurd cc

    pub right_by : {A : Type 0} (r : Rule A) → is_fit_by marks r ≡ true → IsRightBy r
    right_by (Done x) fit = λ tokens few. right_nothing x tokens
    right_by (Token kind f) fit = λ tokens few. right_token kind f (some_token kind f fit) tokens
    right_by (Both f a b) fit =
        let (first, second, fits) = fit_both marks f a b fit in
        both_by f a b first second fits (right_by a first) (right_by b second)
    right_by (Either kinds a b) fit =
        let (first, second, fits) = fit_either marks kinds a b fit in
        either_by kinds a b first second fits (kinds_either marks kinds a b fit) (right_by a first) (right_by b second)
    right_by (Many kinds refusals f a) fit =
        let (first, fits) = fit_many marks kinds refusals f a fit in
        many_by kinds refusals f a first fits (kinds_many marks kinds refusals f a fit) (right_by a first)
    right_by (Differing f a name kinds b) fit =
        let (first, second, fits) = fit_differing marks f a name kinds b fit in
        differing_by f a name kinds b first second fits (kinds_differing marks f a name kinds b fit) (right_by a first) (right_by b second)
    right_by (Call n f) fit = called_by n f
    right_by (Unless refusals a) fit =
        let first = (fit_unless marks refusals a fit).0 in
        λ tokens few. right_unless refusals (SpellsBy calls a) (BarsBy calls bars a) (read_by readers a) tokens (has a first).some (right_by a first tokens few)
    right_by (Limited limit fault a) fit =
        let (first, plain, some) = fit_limited marks limit fault a fit in
        limited_by limit fault a first plain some (right_by a first)
