-- Levels of operators that are taken from the left.
use Rattle.std.proofs.Common.{◌≡◌, ◌<◌, ◌≤◌, ◌||◌, Bool, true, false, List, [], ◌∷◌, length, drop, Option, refl, sym, ap, ◌∙◌, subst, arith}
use Rattle.std.proofs.lemmas.Bool.{cond-true}
use Rattle.aq_base.specs.declared.expr.Expr.{Expr}
use Rattle.aq_base.specs.declared.expr.BinaryOperator.{BinaryOperator}
use Rattle.aq_lex.specs.Lexemes.{PlacedLexeme}
use Rattle.aq_grammar.specs.Terminals.{Terminal, fits, begins}
use Rattle.aq_grammar.specs.Rules.{Rule, Token, Both, Many, Expression}
use Rattle.aq_grammar.specs.Reading.{Outcome, Read, Stop, Syntax, ◌>>=◌, read_many}
use Rattle.aq_grammar.specs.Nonterminals.{rules, marks, reads_called, reads}
use Rattle.aq_grammar.specs.Expressions.{from_left, expression, sum_sign, negated, null_or_distinct}
use Rattle.aq_grammar.specs.declared.scope.Scope.{Scope}
use Rattle.aq_grammar.specs.declared.fault.ReadFault.{ReadFault}
use Rattle.aq_grammar.specs.Steps.{Fails}
use Rattle.aq_grammar.proofs.Grammar.{is_read_so}
use Rattle.aq_grammar.proofs.Shorter.{reads_shorten}
use Rattle.aq_grammar.proofs.NoLonger.{no_longer}
use Rattle.aq_grammar.proofs.Loops.{IsJoined, chain_begins, chain_goes_on, chain_fails, chain_ends, fails_on, fails_as}

-- the operators so far give an expression, and no more tokens are left than there were
pub record Goes {A : Type 0} (joined : Expr → A → Expr) (kinds : List Terminal) (r : Rule A) (first : Expr) (behind : List PlacedLexeme) (left : Expr) (rest tokens : List PlacedLexeme)
    : Type 0 where
  pub so_far : IsJoined joined kinds (reads r) first left rest (read_many kinds [] (λ xs. xs) (reads r) behind)
  pub no_more : length rest ≤ length tokens

-- one token is read where it stands there
pub one_token : {B : Type 0} (kind : Terminal) (x : B) (tokens : List PlacedLexeme) → begins (kind ∷ []) tokens ≡ true
    → reads (Token kind (λ token. x)) tokens ≡ Read x (drop 1 tokens)
one_token kind x [] begun = cc
one_token kind x (token ∷ rest) begun = cond-true (fits kind token) (Read x rest) (Stop Syntax (token ∷ rest)) (sym (or_none (fits kind token)) ∙ begun)
  where
    or_none : (b : Bool) → (b || false) ≡ b
    or_none true = refl
    or_none false = refl

shorter_behind_one : (kind : Terminal) (tokens : List PlacedLexeme) → begins (kind ∷ []) tokens ≡ true → length (drop 1 tokens) < length tokens
shorter_behind_one kind [] begun = cc
shorter_behind_one kind (token ∷ rest) begun = omega arith

pub both_read : {A B C : Type 0} (f : A → B → C) (a : Rule A) (b : Rule B) (tokens behind last : List PlacedLexeme) (x : A) (y : B)
    → reads a tokens ≡ Read x behind → reads b behind ≡ Read y last → reads (Both f a b) tokens ≡ Read (f x y) last
both_read f a b tokens behind last x y one other =
    ap (λ o. o >>= λ v rest. reads b rest >>= λ w final. Read (f v w) final) one ∙ ap (λ o. o >>= λ w final. Read (f x w) final) other

pub second_fails : {A B C : Type 0} (f : A → B → C) (a : Rule A) (b : Rule B) (fault : ReadFault) (tokens behind : List PlacedLexeme) (x : A)
    → reads a tokens ≡ Read x behind → Fails fault (reads b behind) → Fails fault (reads (Both f a b) tokens)
second_fails f a b fault tokens behind x one fails =
    fails_as fault _ (reads (Both f a b) tokens) (sym (ap (λ o. o >>= λ v rest. reads b rest >>= λ w final. Read (f v w) final) one))
    (fails_on fault (reads b behind) (λ w final. Read (f x w) final) fails)

module _ {A : Type 0} (joined : Expr → A → Expr) (kinds : List Terminal) (a : Rule Expr) (r : Rule A) where
  -- operands of a level with its operators between them
  abbrev pub level : Rule Expr
  level = Both (from_left joined) a (Many kinds [] (λ others. others) r)

  abbrev behind_first : Outcome Expr → Outcome Expr
  behind_first outcome = outcome >>= λ first rest. read_many kinds [] (λ others. others) (reads r) rest >>= λ others last. Read (from_left joined first others) last

  level_is : (tokens behind : List PlacedLexeme) (first : Expr) → reads a tokens ≡ Read first behind
      → reads level tokens ≡ (read_many kinds [] (λ others. others) (reads r) behind >>= λ others last. Read (from_left joined first others) last)
  level_is tokens behind first read = ap behind_first read

  pub level_begins : (tokens behind : List PlacedLexeme) (first : Expr) → reads a tokens ≡ Read first behind → Goes joined kinds r first behind first behind tokens
  level_begins tokens behind first read = record { so_far = chain_begins joined kinds (reads r) first behind; no_more = no_longer a tokens behind first read }

  pub level_goes_on : (tokens behind rest last : List PlacedLexeme) (first left next : Expr) (x : A) → Goes joined kinds r first behind left rest tokens
      → begins kinds rest ≡ true → reads r rest ≡ Read x last → length last < length rest → next ≡ joined left x → Goes joined kinds r first behind next last tokens
  level_goes_on tokens behind rest last first left next x goes begun read less is_next = record {
    so_far = chain_goes_on joined kinds (reads r) first left next rest last x _ less goes.so_far begun read is_next;
    no_more = let h : length rest ≤ length tokens = goes.no_more in omega arith;
  }

  pub level_fails : (fault : ReadFault) (tokens behind rest : List PlacedLexeme) (first left : Expr) → reads a tokens ≡ Read first behind
      → Goes joined kinds r first behind left rest tokens → begins kinds rest ≡ true → Fails fault (reads r rest) → Fails fault (reads level tokens)
  level_fails fault tokens behind rest first left read goes begun fails =
      fails_as fault _ (reads level tokens) (sym (level_is tokens behind first read)) (chain_fails joined kinds (reads r) first fault left rest _ goes.so_far begun fails)

  pub level_ends : (tokens behind rest : List PlacedLexeme) (first left : Expr) → reads a tokens ≡ Read first behind
      → Goes joined kinds r first behind left rest tokens → begins kinds rest ≡ false → reads level tokens ≡ Read left rest
  level_ends tokens behind rest first left read goes ended = level_is tokens behind first read ∙ chain_ends joined kinds (reads r) first left rest _ goes.so_far ended

-- an operator of one token
module _ {A : Type 0} (joined : Expr → A → Expr) (kind : Terminal) (a : Rule Expr) (r : Rule A) where
  abbrev pub behind_one : Rule A
  behind_one = Both (λ x y. y) (Token kind (λ token. tt {0})) r

  abbrev pub simple_level : Rule Expr
  simple_level = level joined (kind ∷ []) a behind_one

  one_is : (rest behind : List PlacedLexeme) → begins (kind ∷ []) rest ≡ true → behind ≡ drop 1 rest → reads (Token kind (λ token. tt {0})) rest ≡ Read tt behind
  one_is rest behind begun is = one_token kind tt rest begun ∙ ap (λ tokens. Read tt tokens) (sym is)

  pub one_shorter : (rest behind : List PlacedLexeme) → begins (kind ∷ []) rest ≡ true → behind ≡ drop 1 rest → length behind < length rest
  one_shorter rest behind begun is = subst (λ tokens. length tokens < length rest) (sym is) (shorter_behind_one kind rest begun)

  pub right_shorter : (rest behind last : List PlacedLexeme) (x : A) → begins (kind ∷ []) rest ≡ true → behind ≡ drop 1 rest → reads r behind ≡ Read x last → length last < length rest
  right_shorter rest behind last x begun is read =
      let less : length behind < length rest = one_shorter rest behind begun is in
      let fewer : length last ≤ length behind = no_longer r behind last x read in
      omega arith

  pub simple_goes_on : (tokens front rest behind last : List PlacedLexeme) (first left next : Expr) (x : A) → Goes joined (kind ∷ []) behind_one first front left rest tokens
      → begins (kind ∷ []) rest ≡ true → behind ≡ drop 1 rest → reads r behind ≡ Read x last → next ≡ joined left x
      → Goes joined (kind ∷ []) behind_one first front next last tokens
  simple_goes_on tokens front rest behind last first left next x goes begun is read is_next =
      level_goes_on joined (kind ∷ []) a behind_one tokens front rest last first left next x goes begun
      (both_read (λ x y. y) (Token kind (λ token. tt {0})) r rest behind last tt x (one_is rest behind begun is) read)
      (right_shorter rest behind last x begun is read) is_next

  pub simple_fails : (fault : ReadFault) (tokens front rest behind : List PlacedLexeme) (first left : Expr) → reads a tokens ≡ Read first front
      → Goes joined (kind ∷ []) behind_one first front left rest tokens → begins (kind ∷ []) rest ≡ true → behind ≡ drop 1 rest → Fails fault (reads r behind)
      → Fails fault (reads simple_level tokens)
  simple_fails fault tokens front rest behind first left read goes begun is fails =
      level_fails joined (kind ∷ []) a behind_one fault tokens front rest first left read goes begun
      (second_fails (λ x y. y) (Token kind (λ token. tt {0})) r fault rest behind tt (one_is rest behind begun is) fails)

-- a call is read by its rule
pub expression_is : (scope : Scope) (tokens : List PlacedLexeme) → reads_called (Expression scope) tokens ≡ reads (expression scope) tokens
unfolding rules
expression_is scope tokens = is_read_so (Expression scope) tokens

-- a sign of a sum is a token
pub sum_sign_shorter : (tokens rest : List PlacedLexeme) (operator : BinaryOperator) → reads sum_sign tokens ≡ Read operator rest → length rest < length tokens
unfolding sum_sign
sum_sign_shorter tokens rest operator read = reads_shorten sum_sign refl refl tokens rest operator read

-- what is told behind IS
abbrev pub negated_test : Scope → Rule (Bool × Option Expr)
negated_test scope = Both (λ negated right. (negated, right)) negated (null_or_distinct scope)
