-- What a level of the rules of expressions has printed freely, each weaker level has too.
use Rattle.std.proofs.Common.{List, [], ◌∷◌, ◌++◌, None, subst, codes}
use Rattle.std.proofs.lemmas.List.{append-nil}
use Rattle.aq_base.specs.declared.expr.Expr.{Expr}
use Rattle.aq_base.specs.declared.expr.Expr.TheVariants.{Unary}
use Rattle.aq_base.specs.declared.expr.UnaryOperator.{UnaryOperator}
use Rattle.aq_base.specs.declared.expr.UnaryOperator.TheVariants.{Negate, Not}
use Rattle.aq_base.specs.declared.expr.BinaryOperator.TheVariants.{Multiply, And, Or}
use Rattle.aq_lex.specs.declared.token.Symbol.TheVariants.{Plus, Minus, Times}
use Rattle.aq_grammar.specs.declared.scope.Scope.{Scope}
use Rattle.aq_grammar.specs.Terminals.{Terminal, Keyword, Sign as Mark_kind}
use Rattle.aq_grammar.specs.Rules.{Rule, Both, Many}
use Rattle.aq_grammar.specs.Forms.{word, sign, ◌▸◌, optional}
use Rattle.aq_grammar.specs.Expressions.{before, from_left, with_right, with_operand, compared, tested, comparison_signs, comparison_sign, atom, signed, product, summand, sum, comparison, is_test, test, negation, conjunction, expression}
use Rattle.aq_texts.specs.Written.{Written}
use Rattle.aq_forms.proofs.Combining.{IsFree, Anything, both_any, many_free, none_free}

-- the tokens spell the tree freely, whatever comes behind
abbrev pub IsPrinted : {A : Type 0} → Rule A → A → List Written → Type 0
IsPrinted r x tokens = IsFree r x tokens Anything

-- ---- operands from the left

-- operands behind a first one
abbrev pub chain : {A : Type 0} → (Expr → A → Expr) → List Terminal → Rule Expr → Rule A → Rule Expr
chain step kinds a b = Both (from_left step) a (Many kinds [] (λ others. others) b)

-- the first operand alone
pub alone : {A : Type 0} (step : Expr → A → Expr) (kinds : List Terminal) (a : Rule Expr) (b : Rule A) (e : Expr) (ws : List Written) → IsPrinted a e ws
    → IsPrinted (chain step kinds a b) e ws
alone step kinds a b e ws first =
    subst (λ (tokens : List Written). IsPrinted (chain step kinds a b) e tokens) (append-nil ws)
    (both_any (from_left step) a (Many kinds [] (λ others. others) b) e [] ws [] Anything first (many_free kinds (λ others. others) b (λ x. []) [] Anything tt))

-- the first operand and one behind it
pub one_more : {A : Type 0} (step : Expr → A → Expr) (kinds : List Terminal) (a : Rule Expr) (b : Rule A) (e : Expr) (x : A) (ws vs : List Written)
    → IsPrinted a e ws → IsPrinted b x vs → IsPrinted (chain step kinds a b) (step e x) (ws ++ vs)
one_more step kinds a b e x ws vs first second =
    subst (λ (tokens : List Written). IsPrinted (chain step kinds a b) (step e x) (ws ++ tokens)) (append-nil vs)
    (both_any (from_left step) a (Many kinds [] (λ others. others) b) e (x ∷ []) ws (vs ++ []) Anything first
    (many_free kinds (λ others. others) b (λ x. vs) (x ∷ []) Anything (second, tt)))

-- ---- operators before an operand

abbrev pub prefixed : UnaryOperator → List Terminal → Rule (Unit {0}) → Rule Expr → Rule Expr
prefixed operator kinds a b = Both (before operator) (Many kinds [] (λ found. found) a) b

-- none of them
pub bare : (operator : UnaryOperator) (kinds : List Terminal) (a : Rule (Unit {0})) (b : Rule Expr) (e : Expr) (ws : List Written) → IsPrinted b e ws
    → IsPrinted (prefixed operator kinds a b) e ws
bare operator kinds a b e ws only =
    both_any (before operator) (Many kinds [] (λ found. found) a) b [] e [] ws Anything (many_free kinds (λ found. found) a (λ x. []) [] Anything tt) only

-- one of them
pub one_before : (operator : UnaryOperator) (kinds : List Terminal) (a : Rule (Unit {0})) (b : Rule Expr) (token : Written) (e : Expr) (ws : List Written)
    → IsPrinted a tt (token ∷ []) → IsPrinted b e ws → IsPrinted (prefixed operator kinds a b) (Unary operator e) (token ∷ ws)
one_before operator kinds a b token e ws said only =
    both_any (before operator) (Many kinds [] (λ found. found) a) b (tt ∷ []) e (token ∷ []) ws Anything
    (many_free kinds (λ found. found) a (λ x. token ∷ []) (tt ∷ []) Anything (said, tt)) only

-- ---- from a level to the next

module _ (scope : Scope) (e : Expr) (ws : List Written) where
  pub atom_is_signed : IsPrinted (atom scope) e ws → IsPrinted (signed scope) e ws
  unfolding signed
  atom_is_signed free = bare Negate (Mark_kind Minus ∷ []) (sign Minus) (atom scope) e ws free

  pub signed_is_product : IsPrinted (signed scope) e ws → IsPrinted (product scope) e ws
  unfolding product
  signed_is_product free = alone (with_right Multiply) (Mark_kind Times ∷ []) (signed scope) (sign Times ▸ signed scope) e ws free

  pub product_is_sum : IsPrinted (product scope) e ws → IsPrinted (sum scope) e ws
  unfolding sum
  product_is_sum free = alone with_operand (Mark_kind Plus ∷ Mark_kind Minus ∷ []) (product scope) (summand scope) e ws free

  pub sum_is_comparison : IsPrinted (sum scope) e ws → IsPrinted (comparison scope) e ws
  unfolding comparison
  sum_is_comparison free =
      subst (λ (tokens : List Written). IsPrinted (Both compared (sum scope) (optional comparison_signs (Both (λ sign right. (sign, right)) comparison_sign (sum scope)))) e tokens)
      (append-nil ws)
      (both_any compared (sum scope) (optional comparison_signs (Both (λ sign right. (sign, right)) comparison_sign (sum scope))) e None ws [] Anything free
      (none_free comparison_signs (Both (λ sign right. (sign, right)) comparison_sign (sum scope)) Anything))

  pub comparison_is_test : IsPrinted (comparison scope) e ws → IsPrinted (test scope) e ws
  unfolding test
  comparison_is_test free = alone tested (Keyword (codes "is") ∷ []) (comparison scope) (is_test scope) e ws free

  pub test_is_negation : IsPrinted (test scope) e ws → IsPrinted (negation scope) e ws
  unfolding negation
  test_is_negation free = bare Not (Keyword (codes "not") ∷ []) (word (codes "not")) (test scope) e ws free

  pub negation_is_conjunction : IsPrinted (negation scope) e ws → IsPrinted (conjunction scope) e ws
  unfolding conjunction
  negation_is_conjunction free = alone (with_right And) (Keyword (codes "and") ∷ []) (negation scope) (word (codes "and") ▸ negation scope) e ws free

  pub conjunction_is_expression : IsPrinted (conjunction scope) e ws → IsPrinted (expression scope) e ws
  unfolding expression
  conjunction_is_expression free = alone (with_right Or) (Keyword (codes "or") ∷ []) (conjunction scope) (word (codes "or") ▸ conjunction scope) e ws free

-- ---- from an atom outwards, and from each level to the weakest

module _ (scope : Scope) (e : Expr) (ws : List Written) where
  pub atom_is_product : IsPrinted (atom scope) e ws → IsPrinted (product scope) e ws
  atom_is_product free = signed_is_product scope e ws (atom_is_signed scope e ws free)

  pub atom_is_sum : IsPrinted (atom scope) e ws → IsPrinted (sum scope) e ws
  atom_is_sum free = product_is_sum scope e ws (atom_is_product free)

  pub atom_is_comparison : IsPrinted (atom scope) e ws → IsPrinted (comparison scope) e ws
  atom_is_comparison free = sum_is_comparison scope e ws (atom_is_sum free)

  pub atom_is_test : IsPrinted (atom scope) e ws → IsPrinted (test scope) e ws
  atom_is_test free = comparison_is_test scope e ws (atom_is_comparison free)

  pub atom_is_negation : IsPrinted (atom scope) e ws → IsPrinted (negation scope) e ws
  atom_is_negation free = test_is_negation scope e ws (atom_is_test free)

  pub atom_is_conjunction : IsPrinted (atom scope) e ws → IsPrinted (conjunction scope) e ws
  atom_is_conjunction free = negation_is_conjunction scope e ws (atom_is_negation free)

  pub negation_is_expression : IsPrinted (negation scope) e ws → IsPrinted (expression scope) e ws
  negation_is_expression free = conjunction_is_expression scope e ws (negation_is_conjunction scope e ws free)

  pub test_is_expression : IsPrinted (test scope) e ws → IsPrinted (expression scope) e ws
  test_is_expression free = negation_is_expression (test_is_negation scope e ws free)

  pub comparison_is_expression : IsPrinted (comparison scope) e ws → IsPrinted (expression scope) e ws
  comparison_is_expression free = test_is_expression (comparison_is_test scope e ws free)

  pub sum_is_expression : IsPrinted (sum scope) e ws → IsPrinted (expression scope) e ws
  sum_is_expression free = comparison_is_expression (sum_is_comparison scope e ws free)

  pub product_is_expression : IsPrinted (product scope) e ws → IsPrinted (expression scope) e ws
  product_is_expression free = sum_is_expression (product_is_sum scope e ws free)

  pub signed_is_expression : IsPrinted (signed scope) e ws → IsPrinted (expression scope) e ws
  signed_is_expression free = product_is_expression (signed_is_product scope e ws free)

  pub atom_is_expression : IsPrinted (atom scope) e ws → IsPrinted (expression scope) e ws
  atom_is_expression free = signed_is_expression (atom_is_signed scope e ws free)
