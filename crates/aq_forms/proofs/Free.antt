-- Tokens that spell a tree by a rule, and at no place of which words are refused, where other tokens come behind.
use Rattle.std.specs.Prelude.{◌≡◌, true, false, List, [], ◌∷◌, ◌++◌, Option, Some, None, ◌⊎◌, codes}
use Rattle.aq_base.specs.Names.{Text as Bytes}
use Rattle.aq_base.specs.declared.fault.SqlFault.{SqlFault}
use Rattle.aq_lex.specs.Lexemes.{PlacedLexeme}
use Rattle.aq_grammar.specs.Terminals.{Terminal, NameBut, fits, begins, text_of}
use Rattle.aq_grammar.specs.Rules.{Nonterminal, ValueOf, Refusal, Rule, Done, Token, Both, Either, Many, Differing, Call, Unless, Limited, refused}
use Rattle.aq_grammar.specs.Reading.{Outcome, Read, Stop, Refused}
use Rattle.aq_grammar.specs.Calls.{Called}
use Rattle.aq_grammar.specs.Nonterminals.{rules, marks, reads_called}
use Rattle.aq_forms.proofs.Sound.{IsSound, AreSound}

-- the fault is a limit's
abbrev pub IsLimit : SqlFault → Type 0
IsLimit fault = fault.code.0 ≡ codes "54000"

-- the tree and the tokens behind it are what is read, or a limit is passed before that
abbrev pub ReadsOrLimit : {A : Type 0} → Outcome A → A → List PlacedLexeme → Type 0
ReadsOrLimit outcome x rest =
    (outcome ≡ Read x rest) ⊎ ((fault : SqlFault) × (place : List PlacedLexeme) × (outcome ≡ Stop (Refused fault) place) × IsLimit fault)

-- a tree, tokens that spell it, and the tokens behind these
abbrev pub FreeForm : Type 0 → Type 1
FreeForm A = A → List PlacedLexeme → List PlacedLexeme → Type 0

abbrev pub FreeToken : {A : Type 0} → Terminal → (PlacedLexeme → A) → FreeForm A
FreeToken kind f y u rest = (token : PlacedLexeme) × (fits kind token ≡ true) × IsSound token.lexeme × (y ≡ f token) × (u ≡ token ∷ [])

abbrev pub FreeBoth : {A B C : Type 0} → (A → B → C) → FreeForm A → (A → FreeForm B) → FreeForm C
FreeBoth {A} {B} f First Second y u rest =
    (front : List PlacedLexeme) × (behind : List PlacedLexeme) × (a : A) × (b : B) × First a front (behind ++ rest) × Second a b behind rest × (u ≡ front ++ behind) × (y ≡ f a b)

abbrev pub FreeEach : {A : Type 0} → List Refusal → FreeForm A → FreeForm (List A)
FreeEach refusals Spelled [] u rest = (u ≡ []) × (refused refusals rest ≡ None)
FreeEach refusals Spelled (x ∷ others) u rest =
    (front : List PlacedLexeme) × (behind : List PlacedLexeme) × (refused refusals (u ++ rest) ≡ None) × Spelled x front (behind ++ rest)
    × FreeEach refusals Spelled others behind rest × (u ≡ front ++ behind)

abbrev pub FreeMany : {A B : Type 0} → List Refusal → (List A → B) → FreeForm A → FreeForm B
FreeMany {A} refusals f Spelled y u rest = (xs : List A) × FreeEach refusals Spelled xs u rest × (y ≡ f xs)

abbrev pub FreeOther : {B : Type 0} → FreeForm B → Bytes → FreeForm (Option Bytes)
FreeOther Spelled name y u rest = ((y ≡ None) × (u ≡ [])) ⊎ FreeBoth (λ b text. Some text) Spelled (λ b. FreeToken (NameBut name) text_of) y u rest

-- A rule that leads back to itself spells the tree, and reads it unless a limit is passed.
pub record FreeCalled (n : Nonterminal) (x : ValueOf n) (u rest : List PlacedLexeme) : Type 0 where
  pub spelled : Called rules n x u
  pub sound : AreSound u
  pub read : begins (marks n).goes_on rest ≡ false → ReadsOrLimit (reads_called n (u ++ rest)) x rest

abbrev pub Free : {A : Type 0} → Rule A → FreeForm A
Free (Done x) y u rest = (y ≡ x) × (u ≡ [])
Free (Token kind f) y u rest = FreeToken kind f y u rest
Free (Both f a b) y u rest = FreeBoth f (Free a) (λ x. Free b) y u rest
Free (Either kinds a b) y u rest = Free a y u rest ⊎ Free b y u rest
Free (Many kinds refusals f a) y u rest = FreeMany refusals f (Free a) y u rest
Free (Differing f a name kinds b) y u rest = FreeBoth f (Free a) (λ x. FreeOther (Free b) (name x)) y u rest
Free (Call nonterminal f) y u rest = (x : ValueOf nonterminal) × FreeCalled nonterminal x u rest × (y ≡ f x)
Free (Unless refusals a) y u rest = (refused refusals (u ++ rest) ≡ None) × Free a y u rest
Free (Limited most fault a) y u rest = IsLimit fault × Free a y u rest
