-- A rule whose tokens are free is read as its tree, unless a limit is passed.
use Rattle.std.proofs.Common.{◌≡◌, ℕ, true, false, List, [], ◌∷◌, ◌++◌, inl, inr, refl, sym, subst}
use Rattle.aq_base.specs.Names.{Text as Bytes}
use Rattle.aq_base.specs.declared.fault.SqlFault.{SqlFault}
use Rattle.aq_lex.specs.Lexemes.{PlacedLexeme}
use Rattle.aq_grammar.specs.Terminals.{Terminal, NameBut, begins, text_of}
use Rattle.aq_grammar.specs.Rules.{Nonterminal, ValueOf, Refusal, Rule, Done, Token, Both, Either, Many, Differing, Call, Unless, Limited, Form, SpellsEach, SpellsOther, BarsNext}
use Rattle.aq_grammar.specs.Reading.{read_other}
use Rattle.aq_grammar.specs.Calls.{Called, BarsCalled}
use Rattle.aq_grammar.specs.Sets.{of_other, marks_by, is_fit_by}
use Rattle.aq_grammar.specs.Nonterminals.{rules, marks, reads_called, reads, Spells, Bars}
use Rattle.aq_grammar.proofs.Languages.{KeepsMarks}
use Rattle.aq_grammar.proofs.Keeping.{IsIntroduction, fit_both, fit_either, fit_many, fit_differing, fit_unless, fit_limited, keeps_other, keeps_by}
use Rattle.aq_grammar.proofs.RightFit.{kinds_either, kinds_many, kinds_differing}
use Rattle.aq_grammar.proofs.Fixpoint.{called_is}
use Rattle.aq_grammar.proofs.Called.{called_keeps}
use Rattle.aq_grammar.proofs.Fit.{rules_fit}
use Rattle.aq_grammar.proofs.Grammar.{is_read_so, is_read_right}
use Rattle.aq_texts.specs.Written.{Written}
use Rattle.aq_forms.proofs.Sound.{AreSound}
use Rattle.aq_forms.proofs.Laid.{laid}
use Rattle.aq_forms.proofs.Free.{IsLimit, ReadsOrLimit, FreeForm, FreeToken, FreeEach, FreeOther, FreeCalled, Free}
use Rattle.aq_forms.proofs.Combining.{IsFree}
use Rattle.aq_forms.proofs.ReadingParts.{IsSpelledBy, IsReadFreely, Starts, starts_by, fewer, made, nothing_read, token_read, both_read, either_read, unless_read}
use Rattle.aq_forms.proofs.ReadingMany.{many_read}
use Rattle.aq_forms.proofs.ReadingOther.{other_read}
use Rattle.aq_forms.proofs.ReadingLimited.{right_reads}

-- ---- What is spelled freely is spelled.

each_spells : {A : Type 0} (refusals : List Refusal) (Freely : FreeForm A) (Spelled : Form A) → IsSpelledBy Freely Spelled → IsSpelledBy (FreeEach refusals Freely) (SpellsEach Spelled)
each_spells refusals Freely Spelled spells [] u rest (none, quiet) = none
each_spells refusals Freely Spelled spells (x ∷ others) u rest (front, behind, quiet, one, more, cut) =
    (front, behind, spells x front (behind ++ rest) one, each_spells refusals Freely Spelled spells others behind rest more, cut)

other_spells : {B : Type 0} (Freely : FreeForm B) (Spelled : Form B) (name : Bytes) → IsSpelledBy Freely Spelled → IsSpelledBy (FreeOther Freely name) (SpellsOther Spelled name)
other_spells Freely Spelled name spells y u rest (inl none) = inl none
other_spells Freely Spelled name spells y u rest (inr (front, behind, b, text, one, (token, fit, sound, e, d), cut, is)) =
    inr (front, behind, b, text, spells b front (behind ++ rest) one, (token, fit, e, d), cut, is)

pub free_spells : {A : Type 0} (r : Rule A) (x : A) (u rest : List PlacedLexeme) → Free r x u rest → Spells r x u
free_spells (Done x) y u rest free = free
free_spells (Token kind f) y u rest (token, fit, sound, e, d) = (token, fit, e, d)
free_spells (Both f a b) y u rest (front, behind, x, z, one, other, cut, is) =
    (front, behind, x, z, free_spells a x front (behind ++ rest) one, free_spells b z behind rest other, cut, is)
free_spells (Either kinds a b) y u rest (inl free) = inl (free_spells a y u rest free)
free_spells (Either kinds a b) y u rest (inr free) = inr (free_spells b y u rest free)
free_spells (Many kinds refusals f a) y u rest (xs, free, is) = (xs, each_spells refusals (Free a) (Spells a) (free_spells a) xs u rest free, is)
free_spells (Differing f a name kinds b) y u rest (front, behind, x, z, one, other, cut, is) =
    (front, behind, x, z, free_spells a x front (behind ++ rest) one, other_spells (Free b) (Spells b) (name x) (free_spells b) z behind rest other, cut, is)
free_spells (Call nonterminal f) y u rest (x, called, is) = (x, called.spelled, is)
free_spells (Unless refusals a) y u rest (quiet, free) = free_spells a y u rest free
free_spells (Limited most fault a) y u rest (limit, free) = free_spells a y u rest free

-- ---- Each of its tokens is sound.

sound_append : (u v : List PlacedLexeme) → AreSound u → AreSound v → AreSound (u ++ v)
sound_append [] v first second = second
sound_append (token ∷ u) v (one, first) second = (one, sound_append u v first second)

sound_cut : (u front behind : List PlacedLexeme) → u ≡ front ++ behind → AreSound front → AreSound behind → AreSound u
sound_cut u front behind cut first second = subst AreSound (sym cut) (sound_append front behind first second)

abbrev HasSound : {A : Type 0} → FreeForm A → Type 0
HasSound {A} Freely = (x : A) (u rest : List PlacedLexeme) → Freely x u rest → AreSound u

nothing_sound : (u : List PlacedLexeme) → u ≡ [] → AreSound u
nothing_sound u none = subst AreSound (sym none) tt

token_sound : {A : Type 0} (kind : Terminal) (f : PlacedLexeme → A) → HasSound (FreeToken kind f)
token_sound kind f y u rest (token, fit, sound, e, d) = subst AreSound (sym d) (sound, tt)

each_sound : {A : Type 0} (refusals : List Refusal) (Freely : FreeForm A) → HasSound Freely → HasSound (FreeEach refusals Freely)
each_sound refusals Freely sound [] u rest (none, quiet) = nothing_sound u none
each_sound refusals Freely sound (x ∷ others) u rest (front, behind, quiet, one, more, cut) =
    sound_cut u front behind cut (sound x front (behind ++ rest) one) (each_sound refusals Freely sound others behind rest more)

other_sound : {B : Type 0} (Freely : FreeForm B) (name : Bytes) → HasSound Freely → HasSound (FreeOther Freely name)
other_sound Freely name sound y u rest (inl (is, none)) = nothing_sound u none
other_sound Freely name sound y u rest (inr (front, behind, b, text, one, other, cut, is)) =
    sound_cut u front behind cut (sound b front (behind ++ rest) one) (token_sound (NameBut name) text_of text behind rest other)

pub free_sound : {A : Type 0} (r : Rule A) (x : A) (u rest : List PlacedLexeme) → Free r x u rest → AreSound u
free_sound (Done x) y u rest (is, none) = nothing_sound u none
free_sound (Token kind f) y u rest free = token_sound kind f y u rest free
free_sound (Both f a b) y u rest (front, behind, x, z, one, other, cut, is) =
    sound_cut u front behind cut (free_sound a x front (behind ++ rest) one) (free_sound b z behind rest other)
free_sound (Either kinds a b) y u rest (inl free) = free_sound a y u rest free
free_sound (Either kinds a b) y u rest (inr free) = free_sound b y u rest free
free_sound (Many kinds refusals f a) y u rest (xs, free, is) = each_sound refusals (Free a) (free_sound a) xs u rest free
free_sound (Differing f a name kinds b) y u rest (front, behind, x, z, one, other, cut, is) =
    sound_cut u front behind cut (free_sound a x front (behind ++ rest) one) (other_sound (Free b) (name x) (free_sound b) z behind rest other)
free_sound (Call nonterminal f) y u rest (x, called, is) = called.sound
free_sound (Unless refusals a) y u rest (quiet, free) = free_sound a y u rest free
free_sound (Limited most fault a) y u rest (limit, free) = free_sound a y u rest free

-- ---- It is read as its tree, unless a limit is passed.

-- each rule that is fit keeps its marks
rule_keeps : {A : Type 0} (r : Rule A) → is_fit_by marks r ≡ true → KeepsMarks (Spells r) (Bars r) (marks_by marks r)
rule_keeps r fit = keeps_by (Called rules) (BarsCalled rules) marks (called_keeps rules marks rules_fit) r fit

rule_starts : {A : Type 0} (r : Rule A) → is_fit_by marks r ≡ true → Starts (Free r) (marks_by marks r)
rule_starts r fit = starts_by (Free r) (Spells r) (Bars r) (marks_by marks r) (free_spells r) (rule_keeps r fit)

other_starts : {B : Type 0} (b : Rule B) (name : Bytes) → is_fit_by marks b ≡ true → IsIntroduction (marks_by marks b) → Starts (FreeOther (Free b) name) (of_other (marks_by marks b))
other_starts b name fit introduction =
    starts_by (FreeOther (Free b) name) (SpellsOther (Spells b) name) (Bars b) (of_other (marks_by marks b)) (other_spells (Free b) (Spells b) name (free_spells b))
    (keeps_other (Spells b) (Bars b) (marks_by marks b) (rule_keeps b fit) introduction name)

-- a limited rule refuses nothing but what is longer
limited_bars :
    {A : Type 0} (most : ℕ) (limit fault : SqlFault) (a : Rule A) (front place : List PlacedLexeme) → is_fit_by marks a ≡ true → (marks_by marks a).is_plain ≡ true → IsLimit limit
    → Bars (Limited most limit a) front place fault → IsLimit fault
limited_bars most limit fault a front place fit plain is (inl bar) = subst IsLimit (sym (next_fault front place bar)) is
  where
    next_fault : (front place : List PlacedLexeme) → BarsNext most limit (Spells a) front place fault → fault ≡ limit
    next_fault [] place bar = absurd bar
    next_fault (first ∷ others) [] bar = absurd bar
    next_fault (first ∷ others) (token ∷ place) bar = bar.2
limited_bars most limit fault a front place fit plain is (inr bar) = absurd ((rule_keeps a fit).plain plain front place fault bar)

limited_reads :
    {A : Type 0} (most : ℕ) (limit : SqlFault) (a : Rule A) → is_fit_by marks (Limited most limit a) ≡ true
    → IsReadFreely (Free (Limited most limit a)) (reads (Limited most limit a)) (marks_by marks (Limited most limit a))
limited_reads most limit a fit x u rest none (is, free) =
    let (first, plain, some) = fit_limited marks most limit a fit in
    elim (right_reads (Spells (Limited most limit a)) (Bars (Limited most limit a)) (marks_by marks (Limited most limit a)) (rule_keeps (Limited most limit a) fit) x u rest
    (free_spells a x u rest free) none (reads (Limited most limit a) (u ++ rest)) (is_read_right (Limited most limit a) fit (u ++ rest))) [
      | inl read ↦ inl read
      | inr stop ↦ inr (stop.0, stop.2, stop.3, limited_bars most limit stop.0 a stop.1 stop.2 first plain is stop.4)
    ]

reads_by : {A : Type 0} (r : Rule A) → is_fit_by marks r ≡ true → IsReadFreely (Free r) (reads r) (marks_by marks r)
reads_by (Done x) fit y u rest none (is, cut) = nothing_read x y u rest is cut
reads_by (Token kind f) fit y u rest none free = token_read kind f (marks_by marks (Token kind f)) y u rest none free
reads_by (Both f a b) fit y u rest none free =
    let (first, second, fits) = fit_both marks f a b fit in
    both_read f (Free a) (λ x. Free b) (reads a) (λ x. reads b) (marks_by marks a) (marks_by marks b) fits (λ x. rule_starts b second) (reads_by a first)
    (λ x. reads_by b second) y u rest none free
reads_by (Either kinds a b) fit y u rest none free =
    let (first, second, fits) = fit_either marks kinds a b fit in
    either_read kinds (marks_by marks a) (marks_by marks b) fits (kinds_either marks kinds a b fit) (Free a) (Free b) (reads a) (reads b) (rule_starts a first)
    (rule_starts b second) (reads_by a first) (reads_by b second) y u rest none free
reads_by (Many kinds refusals f a) fit y u rest none free =
    let (first, fits) = fit_many marks kinds refusals f a fit in
    many_read kinds refusals (Free a) (reads a) (marks_by marks a) (rule_starts a first) fits (kinds_many marks kinds refusals f a fit) (reads_by a first) f y u rest none free
reads_by (Differing f a name kinds b) fit y u rest none free =
    let (first, second, fits) = fit_differing marks f a name kinds b fit in
    both_read f (Free a) (λ x. FreeOther (Free b) (name x)) (reads a) (λ x. read_other kinds (reads b) (name x)) (marks_by marks a) (of_other (marks_by marks b)) fits.fit
    (λ x. other_starts b (name x) second fits.introduction) (reads_by a first)
    (λ x. other_read kinds (name x) (Free b) (reads b) (marks_by marks b) (rule_starts b second) fits.introduction (kinds_differing marks f a name kinds b fit) (reads_by b second))
    y u rest none free
reads_by (Call nonterminal f) fit y u rest none (x, called, is) = made f (reads_called nonterminal (u ++ rest)) x y rest is (called.read none)
reads_by (Unless refusals a) fit y u rest none (quiet, free) =
    unless_read refusals (reads a) y (u ++ rest) rest quiet (reads_by a (fit_unless marks refusals a fit).0 y u rest none free)
reads_by (Limited most limit a) fit y u rest none free = limited_reads most limit a fit y u rest none free

pub free_reads : {A : Type 0} (r : Rule A) (x : A) (u rest : List PlacedLexeme) → is_fit_by marks r ≡ true → begins (marks_by marks r).goes_on rest ≡ false
    → Free r x u rest → ReadsOrLimit (reads r (u ++ rest)) x rest
free_reads r x u rest fit behind free = reads_by r fit x u rest behind free

-- ---- A call of a rule that leads back to itself.

-- a token that goes on with the rule goes on with a call of it
goes_on_called : (n : Nonterminal) (rest : List PlacedLexeme) → begins (marks_by marks (rules n)).goes_on rest ≡ true → begins (marks n).goes_on rest ≡ true
goes_on_called n [] e = cc
goes_on_called n (token ∷ rest) e = rules_fit.goes_on n token e

called_by : (n : Nonterminal) (x : ValueOf n) (u rest : List PlacedLexeme) → Free (rules n) x u rest → FreeCalled n x u rest
called_by n x u rest free =
    record {
      spelled = (called_is rules n x u).1 (free_spells (rules n) x u rest free);
      sound = free_sound (rules n) x u rest free;
      read =
          λ none.
          subst (λ o. ReadsOrLimit o x rest) (sym (is_read_so n (u ++ rest)))
          (free_reads (rules n) x u rest (rules_fit.fit n) (fewer (marks_by marks (rules n)).goes_on (marks n).goes_on rest (goes_on_called n rest) none) free);
    }

-- what a rule that leads back to itself spells freely, a call of it does
pub called_free :
    {B : Type 0} (n : Nonterminal) (f : ValueOf n → B) (x : ValueOf n) (ws : List Written) (Behind : List PlacedLexeme → Type 0) → IsFree (rules n) x ws Behind
    → IsFree (Call n f) (f x) ws Behind
called_free n f x ws Behind free lines at rest behind = (x, called_by n x (laid lines at ws) rest (free lines at rest behind), refl)
