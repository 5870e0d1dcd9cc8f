-- An expression is printed as tokens that are read as the same expression.
use Rattle.std.proofs.Common.{◌≡◌, ℕ, zero, suc, Bool, true, false, List, [], ◌∷◌, Option, Some, None, inl, inr, refl, sym, ap, ◌∙◌, subst, codes}
use Rattle.aq_base.specs.declared.expr.Expr.{Expr}
use Rattle.aq_base.specs.declared.expr.Comparison.{Comparison}
use Rattle.aq_base.specs.declared.expr.Expr.TheVariants.{Unary, Binary}
use Rattle.aq_base.specs.declared.expr.UnaryOperator.{UnaryOperator}
use Rattle.aq_base.specs.declared.expr.UnaryOperator.TheVariants.{Negate, Not}
use Rattle.aq_base.specs.declared.expr.BinaryOperator.{BinaryOperator}
use Rattle.aq_base.specs.declared.expr.BinaryOperator.TheVariants.{Multiply, And, Or}
use Rattle.aq_lex.specs.Lexemes.{PlacedLexeme}
use Rattle.aq_lex.specs.declared.token.Symbol.TheVariants.{Plus, Minus, Times}
use Rattle.aq_grammar.specs.declared.scope.Scope.{Scope}
use Rattle.aq_grammar.specs.Terminals.{Terminal, Keyword, Sign as Mark_kind}
use Rattle.aq_grammar.specs.Rules.{Nonterminal, ValueOf, Rule, Call, Expression}
use Rattle.aq_grammar.specs.Forms.{word, sign, ◌▸◌, limit}
use Rattle.aq_grammar.specs.Nonterminals.{rules}
use Rattle.aq_grammar.specs.Expressions.{before, from_left, with_right, with_operand, sum_sign, compared, tested, atom, signed, product, summand, sum, comparison, null_or_distinct, is_test, test, negation, conjunction, expression, expression_limit, whole_expression}
use Rattle.aq_texts.specs.Canon.{expression as expression_tokens}
use Rattle.aq_forms.proofs.Derived.{Trees, DerivesBy, DerivesEach, DerivesWithin, Derives}
use Rattle.aq_forms.proofs.Combining.{IsFree, Anything, limited_free, weaker}
use Rattle.aq_forms.proofs.ExpressionLevels.{chain, prefixed}
use Rattle.aq_forms.proofs.ExpressionForms.{call_free, Printable, atom_printable, negation_printable, not_printable, product_printable, sum_printable, difference_printable, comparison_printable, null_test_printable, not_null_test_printable, distinct_test_printable, not_distinct_test_printable, conjunction_printable, disjunction_printable}
use Rattle.aq_forms.proofs.ExpressionAtoms.{plain_atom_is}

module _ (scope : Scope) where
  -- the tests of a level, with what they test
  tested_printable : (e : Expr) (negative : Bool) (other : Option Expr) → Printable scope e → ((right : Expr) → other ≡ Some right → Printable scope right)
      → Printable scope (tested e (negative, other))
  tested_printable e false None first second = null_test_printable scope e first
  tested_printable e true None first second = not_null_test_printable scope e first
  tested_printable e false (Some right) first second = distinct_test_printable scope e right first (second right refl)
  tested_printable e true (Some right) first second = not_distinct_test_printable scope e right first (second right refl)

  -- where each expression that is called is printed freely
  module _ (calls : (n : Nonterminal) → Trees (ValueOf n)) (called : (e : Expr) → calls (Expression scope) e → Printable scope e) where
    -- operands behind a first one
    steps_printable : {A : Type 0} (step : Expr → A → Expr) (b : Rule A) → ((e : Expr) (x : A) → Printable scope e → DerivesBy calls b x → Printable scope (step e x))
        → (e : Expr) (xs : List A) → Printable scope e → DerivesEach (DerivesBy calls b) xs → Printable scope (from_left step e xs)
    steps_printable step b next e [] first all = first
    steps_printable step b next e (x ∷ others) first all = steps_printable step b next (step e x) others (next e x first all.0) all.1

    chain_printable : {A : Type 0} (step : Expr → A → Expr) (kinds : List Terminal) (a : Rule Expr) (b : Rule A) → ((e : Expr) → DerivesBy calls a e → Printable scope e)
        → ((e : Expr) (x : A) → Printable scope e → DerivesBy calls b x → Printable scope (step e x))
        → (y : Expr) → DerivesBy calls (chain step kinds a b) y → Printable scope y
    chain_printable step kinds a b start next y (e, others, derived, (xs, all, same), whole) =
        subst (Printable scope) (sym (whole ∙ ap (λ (found : List _). from_left step e found) same)) (steps_printable step b next e xs (start e derived) all)

    -- operators before an operand
    before_printable : (operator : UnaryOperator) → ((e : Expr) → Printable scope e → Printable scope (Unary operator e)) → (found : List (Unit {0})) (e : Expr) → Printable scope e
        → Printable scope (before operator found e)
    before_printable operator next [] e only = only
    before_printable operator next (first ∷ others) e only = next (before operator others e) (before_printable operator next others e only)

    prefixed_printable : (operator : UnaryOperator) (kinds : List Terminal) (a : Rule (Unit {0})) (b : Rule Expr) → ((e : Expr) → Printable scope e → Printable scope (Unary operator e))
        → ((e : Expr) → DerivesBy calls b e → Printable scope e) → (y : Expr) → DerivesBy calls (prefixed operator kinds a b) y → Printable scope y
    prefixed_printable operator kinds a b next start y (found, e, operators, derived, whole) =
        subst (Printable scope) (sym whole) (before_printable operator next found e (start e derived))

    -- what stands behind an operator
    behind_printable : {A : Type 0} (f : Expr → Expr → Expr) (a : Rule A) (b : Rule Expr) → ((e x : Expr) → Printable scope e → Printable scope x → Printable scope (f e x))
        → ((e : Expr) → DerivesBy calls b e → Printable scope e) → (e x : Expr) → Printable scope e → DerivesBy calls (a ▸ b) x → Printable scope (f e x)
    behind_printable f a b next start e x first (operator, right, said, derived, whole) =
        subst (λ (found : Expr). Printable scope (f e found)) (sym whole) (next e right first (start right derived))

    atom_derived : (e : Expr) → DerivesBy calls (atom scope) e → Printable scope e
    unfolding atom
    atom_derived e (inl (before, inside, opening, (found, after, (x, derived, a), closing, b), c)) = subst (Printable scope) (sym (c ∙ b ∙ a)) (called x derived)
    atom_derived e (inr derived) =
        let found = plain_atom_is calls scope e derived in
        atom_printable scope e found.0 found.1 found.2

    signed_derived : (e : Expr) → DerivesBy calls (signed scope) e → Printable scope e
    unfolding signed
    signed_derived e derived = prefixed_printable Negate (Mark_kind Minus ∷ []) (sign Minus) (atom scope) (negation_printable scope) atom_derived e derived

    product_derived : (e : Expr) → DerivesBy calls (product scope) e → Printable scope e
    unfolding product
    product_derived e derived =
        chain_printable (with_right Multiply) (Mark_kind Times ∷ []) (signed scope) (sign Times ▸ signed scope) signed_derived
        (behind_printable (with_right Multiply) (sign Times) (signed scope) (product_printable scope) signed_derived) e derived

    sign_printable : (e : Expr) (operator : BinaryOperator) (right : Expr) → DerivesBy calls sum_sign operator → Printable scope e → Printable scope right
        → Printable scope (Binary e operator right)
    unfolding sum_sign
    sign_printable e operator right (inl (token, fit, sound, is)) first second =
        subst (λ (found : BinaryOperator). Printable scope (Binary e found right)) (sym is) (sum_printable scope e right first second)
    sign_printable e operator right (inr (token, fit, sound, is)) first second =
        subst (λ (found : BinaryOperator). Printable scope (Binary e found right)) (sym is) (difference_printable scope e right first second)

    summand_derived : (e : Expr) (x : BinaryOperator × Expr) → Printable scope e → DerivesBy calls (summand scope) x → Printable scope (with_operand e x)
    unfolding summand
    summand_derived e x first (operator, right, said, derived, whole) =
        subst (λ (found : BinaryOperator × Expr). Printable scope (with_operand e found)) (sym whole) (sign_printable e operator right said first (product_derived right derived))

    sum_derived : (e : Expr) → DerivesBy calls (sum scope) e → Printable scope e
    unfolding sum
    sum_derived e derived = chain_printable with_operand (Mark_kind Plus ∷ Mark_kind Minus ∷ []) (product scope) (summand scope) product_derived summand_derived e derived

    comparison_derived : (e : Expr) → DerivesBy calls (comparison scope) e → Printable scope e
    unfolding comparison
    comparison_derived e (left, other, derived, inl (found, end, (sign, right, said, right_derived, a), none, b), whole) =
        subst (Printable scope) (sym (whole ∙ ap (λ (x : Option (Comparison × Expr)). compared left x) (b ∙ ap Some a)))
        (comparison_printable scope left sign right (sum_derived left derived) (sum_derived right right_derived))
    comparison_derived e (left, other, derived, inr none, whole) =
        subst (Printable scope) (sym (whole ∙ ap (λ (x : Option (Comparison × Expr)). compared left x) none)) (sum_derived left derived)

    distinct_derived : (other : Option Expr) → DerivesBy calls (null_or_distinct scope) other → (right : Expr) → other ≡ Some right → Printable scope right
    unfolding null_or_distinct
    distinct_derived other (inl (token, fit, sound, is)) right same = absurd cc
    distinct_derived other (inr (before, x, distinct, (between, y, from, (found, end, derived, none, a), b), c)) right same =
        let e : found ≡ right = cc in
        subst (Printable scope) e (comparison_derived found derived)

    is_test_derived : (e : Expr) (x : Bool × Option Expr) → Printable scope e → DerivesBy calls (is_test scope) x → Printable scope (tested e x)
    unfolding is_test
    is_test_derived e x first (before, found, said, (negative, other, not_said, derived, a), b) =
        subst (λ (what : Bool × Option Expr). Printable scope (tested e what)) (sym (b ∙ a)) (tested_printable e negative other first (distinct_derived other derived))

    test_derived : (e : Expr) → DerivesBy calls (test scope) e → Printable scope e
    unfolding test
    test_derived e derived = chain_printable tested (Keyword (codes "is") ∷ []) (comparison scope) (is_test scope) comparison_derived is_test_derived e derived

    negation_derived : (e : Expr) → DerivesBy calls (negation scope) e → Printable scope e
    unfolding negation
    negation_derived e derived = prefixed_printable Not (Keyword (codes "not") ∷ []) (word (codes "not")) (test scope) (not_printable scope) test_derived e derived

    conjunction_derived : (e : Expr) → DerivesBy calls (conjunction scope) e → Printable scope e
    unfolding conjunction
    conjunction_derived e derived =
        chain_printable (with_right And) (Keyword (codes "and") ∷ []) (negation scope) (word (codes "and") ▸ negation scope) negation_derived
        (behind_printable (with_right And) (word (codes "and")) (negation scope) (conjunction_printable scope) negation_derived) e derived

    expression_derived : (e : Expr) → DerivesBy calls (expression scope) e → Printable scope e
    unfolding expression
    expression_derived e derived =
        chain_printable (with_right Or) (Keyword (codes "or") ∷ []) (conjunction scope) (word (codes "or") ▸ conjunction scope) conjunction_derived
        (behind_printable (with_right Or) (word (codes "or")) (conjunction scope) (disjunction_printable scope) conjunction_derived) e derived

  within_printable : (most : ℕ) (e : Expr) → DerivesWithin most (Expression scope) e → Printable scope e
  unfolding rules
  within_printable zero e derived = absurd derived
  within_printable (suc most) e derived = expression_derived (DerivesWithin most) (within_printable most) e derived

  pub expression_free : (e : Expr) (Behind : List PlacedLexeme → Type 0) → Derives (whole_expression scope) e → IsFree (whole_expression scope) e (expression_tokens e) Behind
  unfolding whole_expression rules
  expression_free e Behind (x, (most, derived), same) =
      let printable : Printable scope e = subst (Printable scope) (sym same) (within_printable most x derived) in
      limited_free expression_limit (limit (codes "expression limit of 1000 tokens reached")) (Call (Expression scope) (λ e. e)) e (expression_tokens e) Behind refl
      (call_free scope e (expression_tokens e) Behind (weaker (expression scope) e (expression_tokens e) Anything Behind (λ rest behind. tt) printable.whole))
