-- Which trees a rule has, whatever tokens they are written with: those that some sound tokens spell.
use Rattle.std.specs.Prelude.{◌≡◌, ℕ, zero, suc, true, List, [], ◌∷◌, Option, Some, None, ◌⊎◌}
use Rattle.aq_base.specs.Names.{Text as Bytes}
use Rattle.aq_lex.specs.Lexemes.{PlacedLexeme}
use Rattle.aq_grammar.specs.Terminals.{Terminal, NameBut, fits, text_of}
use Rattle.aq_grammar.specs.Rules.{Nonterminal, ValueOf, Rule, Done, Token, Both, Either, Many, Differing, Call, Unless, Limited}
use Rattle.aq_grammar.specs.Nonterminals.{rules}
use Rattle.aq_forms.proofs.Sound.{IsSound}

-- a kind of trees
abbrev pub Trees : Type 0 → Type 1
Trees A = A → Type 0

abbrev pub DerivesToken : {A : Type 0} → Terminal → (PlacedLexeme → A) → Trees A
DerivesToken kind f y = (token : PlacedLexeme) × (fits kind token ≡ true) × IsSound token.lexeme × (y ≡ f token)

abbrev pub DerivesBoth : {A B C : Type 0} → (A → B → C) → Trees A → (A → Trees B) → Trees C
DerivesBoth {A} {B} f First Second y = (a : A) × (b : B) × First a × Second a b × (y ≡ f a b)

abbrev pub DerivesEach : {A : Type 0} → Trees A → Trees (List A)
DerivesEach Derived [] = Unit {0}
DerivesEach Derived (x ∷ others) = Derived x × DerivesEach Derived others

abbrev pub DerivesMany : {A B : Type 0} → (List A → B) → Trees A → Trees B
DerivesMany {A} f Derived y = (xs : List A) × DerivesEach Derived xs × (y ≡ f xs)

abbrev pub DerivesCalled : {A B : Type 0} → (A → B) → Trees A → Trees B
DerivesCalled {A} f Derived y = (x : A) × Derived x × (y ≡ f x)

abbrev pub DerivesOther : {B : Type 0} → Trees B → Bytes → Trees (Option Bytes)
DerivesOther Derived name y = (y ≡ None) ⊎ DerivesBoth (λ b text. Some text) Derived (λ b. DerivesToken (NameBut name) text_of) y

abbrev pub DerivesBy : ((n : Nonterminal) → Trees (ValueOf n)) → {A : Type 0} → Rule A → Trees A
DerivesBy calls (Done x) y = y ≡ x
DerivesBy calls (Token kind f) y = DerivesToken kind f y
DerivesBy calls (Both f a b) y = DerivesBoth f (DerivesBy calls a) (λ x. DerivesBy calls b) y
DerivesBy calls (Either kinds a b) y = DerivesBy calls a y ⊎ DerivesBy calls b y
DerivesBy calls (Many kinds refusals f a) y = DerivesMany f (DerivesBy calls a) y
DerivesBy calls (Differing f a name kinds b) y = DerivesBoth f (DerivesBy calls a) (λ x. DerivesOther (DerivesBy calls b) (name x)) y
DerivesBy calls (Call nonterminal f) y = DerivesCalled f (calls nonterminal) y
DerivesBy calls (Unless refusals a) y = DerivesBy calls a y
DerivesBy calls (Limited most fault a) y = DerivesBy calls a y

-- with fewer calls of rules within one another than so many
abbrev pub DerivesWithin : ℕ → (n : Nonterminal) → Trees (ValueOf n)
DerivesWithin zero n x = ⊥
DerivesWithin (suc most) n x = DerivesBy (DerivesWithin most) (rules n) x

-- with any number of them
abbrev pub DerivesSome : (n : Nonterminal) → Trees (ValueOf n)
DerivesSome n x = (most : ℕ) × DerivesWithin most n x

-- the tree is one of the rule
abbrev pub Derives : {A : Type 0} → Rule A → Trees A
Derives rule y = DerivesBy DerivesSome rule y
