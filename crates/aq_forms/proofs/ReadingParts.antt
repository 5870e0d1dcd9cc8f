-- How the parts of a rule are read whose tokens are free. This is said of any form, whatever its rule.
use Rattle.std.proofs.Common.{◌≡◌, true, false, List, [], ◌∷◌, ◌++◌, None, ◌⊎◌, inl, inr, sym, ap, ◌∙◌, subst, append_assoc}
use Rattle.std.proofs.lemmas.Bool.{both_ways, false_from_ne_true, cond-true, cond-false}
use Rattle.aq_lex.specs.Lexemes.{PlacedLexeme}
use Rattle.aq_grammar.specs.Terminals.{Terminal, fits, is_of, begins}
use Rattle.aq_grammar.specs.Rules.{Refusal, Form, Bar, refused}
use Rattle.aq_grammar.specs.Reading.{Outcome, Read, Reader, ◌>>=◌, read_token, read_both, read_either, stop_or, read_unless}
use Rattle.aq_grammar.specs.Sets.{Marks, of_both, of_either, both_fit, same_kinds}
use Rattle.aq_grammar.proofs.Languages.{KeepsMarks}
use Rattle.aq_grammar.proofs.Apart.{are_apart_sound, same_kinds_begin, is_of_front, begins_front, begins_behind}
use Rattle.aq_grammar.proofs.Keeping.{begun_by, empty_since, begins_if, AreDistinct}
use Rattle.aq_forms.proofs.Free.{ReadsOrLimit, FreeForm, FreeToken, FreeBoth}

-- whatever is spelled freely has this form
abbrev pub IsSpelledBy : {A : Type 0} → FreeForm A → Form A → Type 0
IsSpelledBy {A} Freely Spelled = (x : A) (u rest : List PlacedLexeme) → Freely x u rest → Spelled x u

-- what is spelled freely is read, where no token comes that goes on with it
abbrev pub IsReadFreely : {A : Type 0} → FreeForm A → Reader A → Marks → Type 0
IsReadFreely {A} Freely reader a =
    (x : A) (u rest : List PlacedLexeme) → begins a.goes_on rest ≡ false → Freely x u rest → ReadsOrLimit (reader (u ++ rest)) x rest

-- its first token is one of the marks
pub record Starts {A : Type 0} (Freely : FreeForm A) (a : Marks) : Type 0 where
  pub begun : (x : A) (token : PlacedLexeme) (u rest : List PlacedLexeme) → Freely x (token ∷ u) rest → is_of a.begins token ≡ true
  pub empty : (x : A) (rest : List PlacedLexeme) → Freely x [] rest → a.is_empty ≡ true

pub starts_by : {A : Type 0} (Freely : FreeForm A) (Spelled : Form A) (bars : Bar) (a : Marks) → IsSpelledBy Freely Spelled → KeepsMarks Spelled bars a → Starts Freely a
starts_by Freely Spelled bars a spells keeps =
    record {
      begun = λ x token u rest free. begun_by keeps x token u (spells x (token ∷ u) rest free);
      empty = λ x rest free. empty_since keeps x (spells x [] rest free);
    }

-- where it isn't empty, tokens begin with one of the marks that begin with it
pub first_of :
    {A : Type 0} (Freely : FreeForm A) (a : Marks) → Starts Freely a → a.is_empty ≡ false → (x : A) (u front behind last : List PlacedLexeme) → Freely x front last
    → u ≡ front ++ behind → (token : PlacedLexeme) × (more : List PlacedLexeme) × (u ≡ token ∷ more) × (is_of a.begins token ≡ true)
first_of Freely a starts whole x u [] behind last free cut = absurd (both_ways a.is_empty whole (starts.empty x last free))
first_of Freely a starts whole x u (token ∷ front) behind last free cut = (token, front ++ behind, cut, starts.begun x token front last free)

-- none of fewer kinds begins either
pub fewer : (kinds more : List Terminal) (tokens : List PlacedLexeme) → (begins kinds tokens ≡ true → begins more tokens ≡ true) → begins more tokens ≡ false
    → begins kinds tokens ≡ false
fewer kinds more tokens part none = false_from_ne_true (begins kinds tokens) (λ e. both_ways (begins more tokens) none (part e))

-- ---- Reading goes on behind what is read, and a limit that is passed stops it.

then_read :
    {A B : Type 0} (outcome : Outcome A) (next : A → List PlacedLexeme → Outcome B) (x : A) (rest : List PlacedLexeme) (y : B) (last : List PlacedLexeme)
    → ReadsOrLimit outcome x rest → ReadsOrLimit (next x rest) y last → ReadsOrLimit (outcome >>= next) y last
then_read outcome next x rest y last (inl is) more = subst (λ o. ReadsOrLimit (o >>= next) y last) (sym is) more
then_read outcome next x rest y last (inr (fault, place, is, limit)) more = inr (fault, place, ap (λ o. o >>= next) is, limit)

-- the tree is made of what is read
pub made : {A B : Type 0} (f : A → B) (outcome : Outcome A) (x : A) (y : B) (rest : List PlacedLexeme) → y ≡ f x → ReadsOrLimit outcome x rest
    → ReadsOrLimit (outcome >>= λ x rest. Read (f x) rest) y rest
made f outcome x y rest is read = then_read outcome (λ x rest. Read (f x) rest) x rest y rest read (inl (ap (λ z. Read z rest) (sym is)))

pub nothing_read : {A : Type 0} (x y : A) (u rest : List PlacedLexeme) → y ≡ x → u ≡ [] → ReadsOrLimit (Read x (u ++ rest)) y rest
nothing_read x y u rest is none = inl (ap (λ z. Read z (u ++ rest)) (sym is) ∙ ap (λ v. Read y (v ++ rest)) none)

pub token_read : {A : Type 0} (kind : Terminal) (f : PlacedLexeme → A) (a : Marks) → IsReadFreely (FreeToken kind f) (λ tokens. read_token kind f tokens) a
token_read kind f a y u rest none (token, fit, sound, is, cut) =
    inl (ap (λ v. read_token kind f (v ++ rest)) cut ∙ cond-true (fits kind token) _ _ fit ∙ ap (λ z. Read z rest) (sym is))

-- ---- The one and then the other.

module _ {B : Type 0} (Freely : FreeForm B) (a b : Marks) (starts : Starts Freely b) where
  -- behind the first comes the second or what comes behind both, and neither goes on with the first
  behind_first :
      (z : B) (behind rest : List PlacedLexeme) → both_fit a b ≡ true → begins (of_both a b).goes_on rest ≡ false → Freely z behind rest
      → begins a.goes_on (behind ++ rest) ≡ false
  behind_first z [] rest fit none free =
      fewer a.goes_on (of_both a b).goes_on rest
      (λ e. begins_front _ b.goes_on rest (begins_if b.is_empty (a.goes_on ++ b.begins) rest (starts.empty z rest free) (begins_front a.goes_on b.begins rest e))) none
  behind_first z (token ∷ behind) rest fit none free =
      false_from_ne_true (is_of a.goes_on token)
      (λ e. are_apart_sound a.goes_on (b.begins ++ b.opens) token fit e (is_of_front b.begins b.opens token (starts.begun z token behind rest free)))

  behind_both : (rest : List PlacedLexeme) → begins (of_both a b).goes_on rest ≡ false → begins b.goes_on rest ≡ false
  behind_both rest none = fewer b.goes_on (of_both a b).goes_on rest (λ e. begins_behind _ b.goes_on rest e) none

module _ {A B C : Type 0} (f : A → B → C) (First : FreeForm A) (Second : A → FreeForm B) (reader : Reader A) (second : A → Reader B) (a b : Marks) where
  pub both_at :
      (y : C) (u rest front behind : List PlacedLexeme) (x : A) (z : B) → u ≡ front ++ behind → y ≡ f x z
      → ReadsOrLimit (reader (front ++ (behind ++ rest))) x (behind ++ rest) → ReadsOrLimit (second x (behind ++ rest)) z rest
      → ReadsOrLimit (read_both f reader second (u ++ rest)) y rest
  both_at y u rest front behind x z cut is one other =
      subst (λ tokens. ReadsOrLimit (read_both f reader second tokens) y rest) (sym (ap (λ v. v ++ rest) cut ∙ append_assoc front behind rest))
      (then_read (reader (front ++ (behind ++ rest))) (λ a rest. second a rest >>= λ b last. Read (f a b) last) x (behind ++ rest) y rest one
      (made (f x) (second x (behind ++ rest)) z y rest is other))

  pub both_read : both_fit a b ≡ true → ((x : A) → Starts (Second x) b) → IsReadFreely First reader a → ((x : A) → IsReadFreely (Second x) (second x) b)
      → IsReadFreely (FreeBoth f First Second) (λ tokens. read_both f reader second tokens) (of_both a b)
  both_read fit starts one other y u rest none (front, behind, x, z, h, k, cut, is) =
      both_at y u rest front behind x z cut is
      (one x front (behind ++ rest) (behind_first (Second x) a b (starts x) z behind rest fit none k) h)
      (other x z behind rest (behind_both (Second x) a b (starts x) rest none) k)

-- ---- The one or the other.

module _ {A : Type 0} (kinds : List Terminal) (a b : Marks) (fit : AreDistinct a b) (same : same_kinds kinds a.begins ≡ true) where
  -- the first begins with one of the kinds
  first_begins : (First : FreeForm A) → Starts First a → (x : A) (u rest : List PlacedLexeme) → First x u rest → begins kinds (u ++ rest) ≡ true
  first_begins First starts x [] rest free = absurd (both_ways a.is_empty fit.whole (starts.empty x rest free))
  first_begins First starts x (token ∷ u) rest free = same_kinds_begin kinds a.begins (token ∷ u ++ rest) same ∙ starts.begun x token u rest free

  -- the second with none of them
  second_begins :
      (Second : FreeForm A) → Starts Second b → (x : A) (u rest : List PlacedLexeme) → begins (of_either a b).goes_on rest ≡ false → Second x u rest
      → begins kinds (u ++ rest) ≡ false
  second_begins Second starts x [] rest none free =
      same_kinds_begin kinds a.begins rest same
      ∙ fewer a.begins (of_either a b).goes_on rest
      (λ e.
      begins_front _ b.goes_on rest
      (begins_front _ a.goes_on rest (begins_if b.is_empty (a.begins ++ b.begins) rest (starts.empty x rest free) (begins_front a.begins b.begins rest e)))) none
  second_begins Second starts x (token ∷ u) rest none free =
      same_kinds_begin kinds a.begins (token ∷ u ++ rest) same
      ∙ false_from_ne_true (is_of a.begins token) (λ e. are_apart_sound a.begins b.begins token fit.apart e (starts.begun x token u rest free))

  module _ (First Second : FreeForm A) (reader other : Reader A) (starts : Starts First a) (follows : Starts Second b) (one : IsReadFreely First reader a) (two : IsReadFreely Second other b) where
    pub either_read : (x : A) (u rest : List PlacedLexeme) → begins (of_either a b).goes_on rest ≡ false → First x u rest ⊎ Second x u rest
        → ReadsOrLimit (read_either kinds reader other (u ++ rest)) x rest
    either_read x u rest none (inl free) =
        subst (λ o. ReadsOrLimit o x rest) (sym (cond-true (begins kinds (u ++ rest)) (reader (u ++ rest)) (other (u ++ rest)) (first_begins First starts x u rest free)))
        (one x u rest (fewer a.goes_on (of_either a b).goes_on rest (λ e. begins_front _ b.goes_on rest (begins_behind _ a.goes_on rest e)) none) free)
    either_read x u rest none (inr free) =
        subst (λ o. ReadsOrLimit o x rest)
        (sym (cond-false (begins kinds (u ++ rest)) (reader (u ++ rest)) (other (u ++ rest)) (second_begins Second follows x u rest none free)))
        (two x u rest (fewer b.goes_on (of_either a b).goes_on rest (λ e. begins_behind _ b.goes_on rest e) none) free)

-- ---- Nothing is refused where it begins.

pub unless_read : {A : Type 0} (refusals : List Refusal) (reader : Reader A) (x : A) (tokens rest : List PlacedLexeme) → refused refusals tokens ≡ None
    → ReadsOrLimit (reader tokens) x rest → ReadsOrLimit (read_unless refusals reader tokens) x rest
unless_read refusals reader x tokens rest quiet read = subst (λ o. ReadsOrLimit (stop_or o tokens (reader tokens)) x rest) (sym quiet) read
