-- What sound tokens spell by a rule is one of its trees.
use Rattle.std.proofs.Common.{◌≡◌, ℕ, zero, suc, true, ◌^◌, nat_lt, List, [], ◌∷◌, ◌++◌, Some, inl, inr, subst, refl}
use Rattle.std.proofs.lemmas.Bool.{and_parts}
use Rattle.aq_base.specs.Names.{Text as Bytes}
use Rattle.aq_lex.specs.declared.token.Directive.{Directive as DirectiveName}
use Rattle.aq_lex.specs.Lexemes.{PlacedLexeme, Lexeme, Word, QuotedName, Integer, Text, Symbol, Directive}
use Rattle.aq_grammar.specs.Terminals.{Terminal, NameBut, Number, Count, Heading, is_of_kind, text_of}
use Rattle.aq_grammar.specs.Rules.{Nonterminal, ValueOf, Rule, Done, Token, Both, Either, Many, Differing, Call, Unless, Limited, Form, SpellsToken, SpellsBoth, SpellsEach, SpellsOther, SpellsBy}
use Rattle.aq_grammar.specs.Calls.{CalledWithin, Called}
use Rattle.aq_grammar.specs.Nonterminals.{rules, Spells}
use Rattle.aq_forms.proofs.Headings.{is_no_heading, has_no_heading, rules_have_none}
use Rattle.aq_forms.proofs.Sound.{HasText, IsSound, HaveTexts}
use Rattle.aq_forms.proofs.Derived.{Trees, DerivesToken, DerivesBoth, DerivesEach, DerivesOther, DerivesBy, DerivesWithin, DerivesSome, Derives}

-- ---- A token of a statement is sound, since a number that fits is below 2 ^ 63.

no_directive : (kind : Terminal) (directive : DirectiveName) → is_no_heading kind ≡ true → is_of_kind kind (Directive directive) ≡ true → ⊥
no_directive (Heading heading) directive none fit = cc
no_directive kind directive none fit = cc

lexeme_sound : (kind : Terminal) (lexeme : Lexeme) → is_no_heading kind ≡ true → is_of_kind kind lexeme ≡ true → HasText lexeme → IsSound lexeme
lexeme_sound kind (Word text) none fit sound = sound
lexeme_sound kind (QuotedName text) none fit sound = sound
lexeme_sound Number (Integer number) none fit sound = fit
lexeme_sound Count (Integer number) none fit sound = (and_parts (nat_lt 0 number) (nat_lt number (2 ^ 63)) fit).1
lexeme_sound kind (Integer number) none fit sound = cc
lexeme_sound kind (Text text) none fit sound = sound
lexeme_sound kind (Symbol symbol) none fit sound = tt
lexeme_sound kind (Directive directive) none fit sound = no_directive kind directive none fit

texts_front : (u v : List PlacedLexeme) → HaveTexts (u ++ v) → HaveTexts u
texts_front [] v texts = tt
texts_front (token ∷ u) v (text, texts) = (text, texts_front u v texts)

texts_behind : (u v : List PlacedLexeme) → HaveTexts (u ++ v) → HaveTexts v
texts_behind [] v texts = texts
texts_behind (token ∷ u) v (text, texts) = texts_behind u v texts

-- what tokens with texts spell in the form is one of these trees
abbrev Has : {A : Type 0} → Form A → Trees A → Type 0
Has {A} Spelled Derived = (x : A) (u : List PlacedLexeme) → Spelled x u → HaveTexts u → Derived x

token_has : {A : Type 0} (kind : Terminal) (f : PlacedLexeme → A) → is_no_heading kind ≡ true → Has (SpellsToken kind f) (DerivesToken kind f)
token_has kind f none y u (token, fit, is, cut) texts =
    (token, fit, lexeme_sound kind token.lexeme none fit (subst HaveTexts cut texts).0, is)

both_has :
    {A B C : Type 0} (f : A → B → C) (First : Form A) (Second : A → Form B) (first : Trees A) (second : A → Trees B) → Has First first
    → ((x : A) → Has (Second x) (second x)) → Has (SpellsBoth f First Second) (DerivesBoth f first second)
both_has f First Second first second one other y u (front, behind, x, z, h, k, cut, is) texts =
    let whole = subst HaveTexts cut texts in
    (x, z, one x front h (texts_front front behind whole), other x z behind k (texts_behind front behind whole), is)

each_has : {A : Type 0} (Spelled : Form A) (Derived : Trees A) → Has Spelled Derived → Has (SpellsEach Spelled) (DerivesEach Derived)
each_has Spelled Derived has [] u none texts = tt
each_has Spelled Derived has (x ∷ others) u (front, behind, h, k, cut) texts =
    let whole = subst HaveTexts cut texts in
    (has x front h (texts_front front behind whole), each_has Spelled Derived has others behind k (texts_behind front behind whole))

other_has : {B : Type 0} (Spelled : Form B) (Derived : Trees B) (name : Bytes) → Has Spelled Derived → Has (SpellsOther Spelled name) (DerivesOther Derived name)
other_has Spelled Derived name has y u (inl (is, none)) texts = inl is
other_has Spelled Derived name has y u (inr spelled) texts =
    inr (both_has (λ b text. Some text) Spelled (λ b. SpellsToken (NameBut name) text_of) Derived (λ b. DerivesToken (NameBut name) text_of) has
    (λ b. token_has (NameBut name) text_of refl) y u spelled texts)

module _ (calls : (n : Nonterminal) → Form (ValueOf n)) (trees : (n : Nonterminal) → Trees (ValueOf n)) (has : (n : Nonterminal) → Has (calls n) (trees n)) where
  has_by : {A : Type 0} (r : Rule A) → has_no_heading r ≡ true → Has (SpellsBy calls r) (DerivesBy trees r)
  has_by (Done x) none y u (is, cut) texts = is
  has_by (Token kind f) none y u spelled texts = token_has kind f none y u spelled texts
  has_by (Both f a b) none y u spelled texts =
      let (first, second) = and_parts (has_no_heading a) (has_no_heading b) none in
      both_has f (SpellsBy calls a) (λ x. SpellsBy calls b) (DerivesBy trees a) (λ x. DerivesBy trees b) (has_by a first) (λ x. has_by b second) y u spelled texts
  has_by (Either kinds a b) none y u (inl spelled) texts = inl (has_by a (and_parts (has_no_heading a) (has_no_heading b) none).0 y u spelled texts)
  has_by (Either kinds a b) none y u (inr spelled) texts = inr (has_by b (and_parts (has_no_heading a) (has_no_heading b) none).1 y u spelled texts)
  has_by (Many kinds refusals f a) none y u (xs, spelled, is) texts = (xs, each_has (SpellsBy calls a) (DerivesBy trees a) (has_by a none) xs u spelled texts, is)
  has_by (Differing f a name kinds b) none y u spelled texts =
      let (first, second) = and_parts (has_no_heading a) (has_no_heading b) none in
      both_has f (SpellsBy calls a) (λ x. SpellsOther (SpellsBy calls b) (name x)) (DerivesBy trees a) (λ x. DerivesOther (DerivesBy trees b) (name x)) (has_by a first)
      (λ x. other_has (SpellsBy calls b) (DerivesBy trees b) (name x) (has_by b second)) y u spelled texts
  has_by (Call nonterminal f) none y u (x, spelled, is) texts = (x, has nonterminal x u spelled texts, is)
  has_by (Unless refusals a) none y u spelled texts = has_by a none y u spelled texts
  has_by (Limited most fault a) none y u spelled texts = has_by a none y u spelled texts

within_has : (most : ℕ) (n : Nonterminal) → Has (CalledWithin rules most n) (DerivesWithin most n)
within_has zero n x u spelled texts = spelled
within_has (suc most) n x u spelled texts = has_by (CalledWithin rules most) (DerivesWithin most) (within_has most) (rules n) (rules_have_none n) x u spelled texts

pub derives : {A : Type 0} (r : Rule A) (x : A) (u : List PlacedLexeme) → has_no_heading r ≡ true → Spells r x u → HaveTexts u → Derives r x
derives r x u none spelled texts =
    has_by (Called rules) DerivesSome (λ n y v called sound. (called.0, within_has called.0 n y v called.1 sound)) r none x u spelled texts

-- ---- A rule has no fewer trees where the rules that it calls have no fewer.

abbrev AreAmong : {A : Type 0} → Trees A → Trees A → Type 0
AreAmong {A} Fewer More = (x : A) → Fewer x → More x

both_among :
    {A B C : Type 0} (f : A → B → C) (First More : Trees A) (Second Others : A → Trees B) → AreAmong First More → ((x : A) → AreAmong (Second x) (Others x))
    → AreAmong (DerivesBoth f First Second) (DerivesBoth f More Others)
both_among f First More Second Others one other y (x, z, h, k, is) = (x, z, one x h, other x z k, is)

each_among : {A : Type 0} (Fewer More : Trees A) → AreAmong Fewer More → AreAmong (DerivesEach Fewer) (DerivesEach More)
each_among Fewer More among [] derived = tt
each_among Fewer More among (x ∷ others) (h, k) = (among x h, each_among Fewer More among others k)

other_among : {B : Type 0} (Fewer More : Trees B) (name : Bytes) → AreAmong Fewer More → AreAmong (DerivesOther Fewer name) (DerivesOther More name)
other_among Fewer More name among y (inl is) = inl is
other_among Fewer More name among y (inr (b, text, h, k, is)) = inr (b, text, among b h, k, is)

module _ (fewer more : (n : Nonterminal) → Trees (ValueOf n)) (among : (n : Nonterminal) → AreAmong (fewer n) (more n)) where
  among_by : {A : Type 0} (r : Rule A) → AreAmong (DerivesBy fewer r) (DerivesBy more r)
  among_by (Done x) y derived = derived
  among_by (Token kind f) y derived = derived
  among_by (Both f a b) y derived =
      both_among f (DerivesBy fewer a) (DerivesBy more a) (λ x. DerivesBy fewer b) (λ x. DerivesBy more b) (among_by a) (λ x. among_by b) y derived
  among_by (Either kinds a b) y (inl derived) = inl (among_by a y derived)
  among_by (Either kinds a b) y (inr derived) = inr (among_by b y derived)
  among_by (Many kinds refusals f a) y (xs, derived, is) = (xs, each_among (DerivesBy fewer a) (DerivesBy more a) (among_by a) xs derived, is)
  among_by (Differing f a name kinds b) y derived =
      both_among f (DerivesBy fewer a) (DerivesBy more a) (λ x. DerivesOther (DerivesBy fewer b) (name x)) (λ x. DerivesOther (DerivesBy more b) (name x)) (among_by a)
      (λ x. other_among (DerivesBy fewer b) (DerivesBy more b) (name x) (among_by b)) y derived
  among_by (Call nonterminal f) y (x, derived, is) = (x, among nonterminal x derived, is)
  among_by (Unless refusals a) y derived = among_by a y derived
  among_by (Limited most fault a) y derived = among_by a y derived

-- so many calls within one another are some
pub derives_within : {A : Type 0} (most : ℕ) (r : Rule A) (x : A) → DerivesBy (DerivesWithin most) r x → Derives r x
derives_within most r x derived = among_by (DerivesWithin most) DerivesSome (λ n y within. (most, within)) r x derived
