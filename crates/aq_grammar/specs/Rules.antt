-- Rules of the grammar, and what tokens they spell. A rule says how tokens are written and which tree they stand for.
-- Beside that it says at which places a form stands that is known and refused, and where a limit is passed.
use Rattle.std.specs.Prelude.{◌≡◌, ℕ, Bool, true, List, [], ◌∷◌, ◌++◌, length, Option, Some, None, ◌⊎◌, if◌then◌else◌}
use Rattle.aq_base.specs.Names.{Text as Bytes}
use Rattle.aq_base.specs.declared.fault.SqlFault.{SqlFault}
use Rattle.aq_lex.specs.Lexemes.{PlacedLexeme}
use Rattle.aq_grammar.specs.declared.scope.Scope.{Scope}
use Rattle.aq_grammar.specs.Terminals.{Terminal, NameBut, fits, begin_with, text_of}
use Rattle.aq_base.specs.declared.catalog.Decl.{Decl}
use Rattle.aq_base.specs.declared.expr.Expr.{Expr}
use Rattle.aq_base.specs.declared.body.BodyStatement.{BodyStatement}
use Rattle.aq_base.specs.declared.constraint.ColumnConstraint.{ColumnConstraint}

-- the rules that lead back to themselves
pub data Nonterminal : Type 0 where
  Expression : Scope → Nonterminal
  -- statements of a code, in which so many more IFs and blocks may be opened
  Block : ℕ → Nonterminal
  -- what comes behind a column's kind or one of its constraints, with or without a DEFAULT
  ColumnConstraints : Bool → Nonterminal
  -- what comes behind a column's REFERENCES: when it is checked, and further constraints
  ReferenceEnd : Bool → Nonterminal

abbrev pub ValueOf : Nonterminal → Type 0
ValueOf (Expression scope) = Expr
ValueOf (Block room) = List BodyStatement
ValueOf (ColumnConstraints has_default) = List ColumnConstraint
ValueOf (ReferenceEnd has_default) = Decl × List ColumnConstraint

-- tokens that are refused with a fault of their own where they stand
pub record Refusal : Type 0 where
  pub words : List Terminal
  pub fault : SqlFault

pub data Rule : Type 0 → Type 1 where
  -- no token
  Done : {A : Type 0} → A → Rule A
  -- one token of a kind
  Token : {A : Type 0} → Terminal → (PlacedLexeme → A) → Rule A
  -- the one and then the other
  Both : {A B C : Type 0} → (A → B → C) → Rule A → Rule B → Rule C
  -- the one, which begins with one of these kinds of tokens, or the other
  Either : {A : Type 0} → List Terminal → Rule A → Rule A → Rule A
  -- any number of them one after the other, each of which begins with one of these kinds of tokens
  Many : {A B : Type 0} → List Terminal → List Refusal → (List A → B) → Rule A → Rule B
  -- the one, and then perhaps the other with a name that differs from that of the one
  Differing : {A B C : Type 0} → (A → Option Bytes → C) → Rule A → (A → Bytes) → List Terminal → Rule B → Rule C
  -- what a rule that leads back to itself gives
  Call : {B : Type 0} → (nonterminal : Nonterminal) → (ValueOf nonterminal → B) → Rule B
  -- no refused tokens stand here
  Unless : {A : Type 0} → List Refusal → Rule A → Rule A
  -- it has so many tokens at the most
  Limited : {A : Type 0} → ℕ → SqlFault → Rule A → Rule A

-- what tokens stand for which tree
abbrev pub Form : Type 0 → Type 1
Form A = A → List PlacedLexeme → Type 0

abbrev pub SpellsNothing : {A : Type 0} → A → Form A
SpellsNothing x y u = (y ≡ x) × (u ≡ [])

abbrev pub SpellsToken : {A : Type 0} → Terminal → (PlacedLexeme → A) → Form A
SpellsToken kind f y u = (token : PlacedLexeme) × (fits kind token ≡ true) × (y ≡ f token) × (u ≡ token ∷ [])

-- the one and then the other, whose form may hang on what the one is
abbrev pub SpellsBoth : {A B C : Type 0} → (A → B → C) → Form A → (A → Form B) → Form C
SpellsBoth {A} {B} f First Second y u =
    (front : List PlacedLexeme) × (behind : List PlacedLexeme) × (a : A) × (b : B) × First a front × Second a b behind × (u ≡ front ++ behind) × (y ≡ f a b)

abbrev pub SpellsEach : {A : Type 0} → Form A → Form (List A)
SpellsEach Spelled [] u = u ≡ []
SpellsEach Spelled (x ∷ others) u = (front : List PlacedLexeme) × (behind : List PlacedLexeme) × Spelled x front × SpellsEach Spelled others behind × (u ≡ front ++ behind)

abbrev pub SpellsMany : {A B : Type 0} → (List A → B) → Form A → Form B
SpellsMany {A} f Spelled y u = (xs : List A) × SpellsEach Spelled xs u × (y ≡ f xs)

abbrev pub SpellsCalled : {A B : Type 0} → (A → B) → Form A → Form B
SpellsCalled {A} f Spelled y u = (x : A) × Spelled x u × (y ≡ f x)

-- a name that differs from another, behind what introduces it
abbrev pub SpellsOther : {B : Type 0} → Form B → Bytes → Form (Option Bytes)
SpellsOther Spelled name y u = SpellsNothing None y u ⊎ SpellsBoth (λ b text. Some text) Spelled (λ b. SpellsToken (NameBut name) text_of) y u

-- The tokens are the tree by the rule, where the rules that lead back to themselves have these forms. Refusals and limits are left aside.
abbrev pub SpellsBy : ((n : Nonterminal) → Form (ValueOf n)) → {A : Type 0} → Rule A → Form A
SpellsBy calls (Done x) y u = SpellsNothing x y u
SpellsBy calls (Token kind f) y u = SpellsToken kind f y u
SpellsBy calls (Both f a b) y u = SpellsBoth f (SpellsBy calls a) (λ x. SpellsBy calls b) y u
SpellsBy calls (Either kinds a b) y u = SpellsBy calls a y u ⊎ SpellsBy calls b y u
SpellsBy calls (Many kinds refusals f a) y u = SpellsMany f (SpellsBy calls a) y u
SpellsBy calls (Differing f a name kinds b) y u = SpellsBoth f (SpellsBy calls a) (λ x. SpellsOther (SpellsBy calls b) (name x)) y u
SpellsBy calls (Call nonterminal f) y u = SpellsCalled f (calls nonterminal) y u
SpellsBy calls (Unless refusals a) y u = SpellsBy calls a y u
SpellsBy calls (Limited most fault a) y u = SpellsBy calls a y u

-- a form's tokens may go on so
abbrev pub Begins : {A : Type 0} → Form A → List PlacedLexeme → Type 0
Begins {A} Spelled u = (behind : List PlacedLexeme) × (x : A) × Spelled x (u ++ behind)

-- the tokens from a place on are refused with a fault, when these tokens stand before it
abbrev pub Bar : Type 1
Bar = List PlacedLexeme → List PlacedLexeme → SqlFault → Type 0

abbrev pub BarsNone : Bar
BarsNone u rest fault = ⊥

-- the fault of the first refusal that begins the tokens
abbrev pub refused : List Refusal → List PlacedLexeme → Option SqlFault
refused [] tokens = None
refused (refusal ∷ others) tokens = if begin_with refusal.words tokens then Some refusal.fault else refused others tokens

abbrev pub IsRefused : List Refusal → List PlacedLexeme → SqlFault → Type 0
IsRefused refusals rest fault = refused refusals rest ≡ Some fault

abbrev pub BarsHere : List Refusal → Bar
BarsHere refusals u rest fault = (u ≡ []) × IsRefused refusals rest fault

abbrev pub BarsBoth : {A : Type 0} → Form A → Bar → (A → Bar) → Bar
BarsBoth {A} First first second u rest fault =
    first u rest fault ⊎ ((front : List PlacedLexeme) × (behind : List PlacedLexeme) × (a : A) × First a front × (u ≡ front ++ behind) × second a behind rest fault)

abbrev pub BarsMany : {A : Type 0} → List Refusal → Form A → Bar → Bar
BarsMany {A} refusals Spelled bar u rest fault =
    (front : List PlacedLexeme) × (behind : List PlacedLexeme) × (xs : List A) × SpellsEach Spelled xs front × (u ≡ front ++ behind)
    × (bar behind rest fault ⊎ BarsHere refusals behind rest fault)

-- one more token would go on with it, and it has as many already as it may have
abbrev pub BarsNext : {A : Type 0} → ℕ → SqlFault → Form A → Bar
BarsNext most limit Spelled [] rest fault = ⊥
BarsNext most limit Spelled (first ∷ others) [] fault = ⊥
BarsNext most limit Spelled (first ∷ others) (token ∷ rest) fault =
    (length (first ∷ others) ≡ most) × Begins Spelled (first ∷ others ++ token ∷ []) × (fault ≡ limit)

abbrev pub BarsBy : ((n : Nonterminal) → Form (ValueOf n)) → ((n : Nonterminal) → Bar) → {A : Type 0} → Rule A → Bar
BarsBy calls bars (Done x) u rest fault = BarsNone u rest fault
BarsBy calls bars (Token kind f) u rest fault = BarsNone u rest fault
BarsBy calls bars (Both f a b) u rest fault = BarsBoth (SpellsBy calls a) (BarsBy calls bars a) (λ x. BarsBy calls bars b) u rest fault
BarsBy calls bars (Either kinds a b) u rest fault = BarsBy calls bars a u rest fault ⊎ BarsBy calls bars b u rest fault
BarsBy calls bars (Many kinds refusals f a) u rest fault = BarsMany refusals (SpellsBy calls a) (BarsBy calls bars a) u rest fault
BarsBy calls bars (Differing f a name kinds b) u rest fault = BarsBoth (SpellsBy calls a) (BarsBy calls bars a) (λ x. BarsBy calls bars b) u rest fault
BarsBy calls bars (Call nonterminal f) u rest fault = bars nonterminal u rest fault
BarsBy calls bars (Unless refusals a) u rest fault = BarsHere refusals u rest fault ⊎ BarsBy calls bars a u rest fault
BarsBy calls bars (Limited most limit a) u rest fault = BarsNext most limit (SpellsBy calls a) u rest fault ⊎ BarsBy calls bars a u rest fault
