-- Each form of an expression is printed freely if its operands are.
use Rattle.std.proofs.Common.{◌≡◌, refl, sym, subst, true, false, Bool, List, [], ◌∷◌, ◌++◌, Option, Some, None, codes}
use Rattle.aq_base.specs.declared.expr.Expr.{Expr}
use Rattle.aq_base.specs.declared.expr.Comparison.{Comparison}
use Rattle.aq_base.specs.declared.expr.Comparison.TheVariants.{Equal as EqualTo, Unequal as UnequalTo, Less as LessThan, AtMost as AtMostAs, Greater as GreaterThan, AtLeast as AtLeastAs}
use Rattle.aq_base.specs.declared.expr.Expr.TheVariants.{Unary, Binary}
use Rattle.aq_base.specs.declared.expr.UnaryOperator.TheVariants.{Negate, Not, IsNull, IsNotNull}
use Rattle.aq_base.specs.declared.expr.BinaryOperator.{BinaryOperator}
use Rattle.aq_base.specs.declared.expr.BinaryOperator.TheVariants.{Multiply, Add, Subtract, Compare, IsDistinct, IsNotDistinct, And, Or}
use Rattle.aq_lex.specs.Lexemes.{PlacedLexeme}
use Rattle.aq_lex.specs.declared.token.Symbol.{Symbol}
use Rattle.aq_lex.specs.declared.token.Symbol.TheVariants.{OpenParen, Plus, Minus, Times, Equal, Unequal, Less, AtMost, Greater, AtLeast}
use Rattle.aq_grammar.specs.declared.scope.Scope.{Scope}
use Rattle.aq_grammar.specs.Terminals.{Keyword, Sign as Mark_kind}
use Rattle.aq_grammar.specs.Rules.{Rule, Done, Token, Both, Either, Call, Expression}
use Rattle.aq_grammar.specs.Forms.{word, sign, says, ◌▸◌, mapped, optional, in_parentheses}
use Rattle.aq_grammar.specs.Nonterminals.{rules}
use Rattle.aq_grammar.specs.Expressions.{with_right, with_operand, compared, compares, tested, comparison_signs, comparison_sign, sum_sign, plain_atom, atom, signed, product, summand, sum, comparison, negated, null_or_distinct, is_test, test, negation, conjunction, expression}
use Rattle.aq_texts.specs.Written.{Written, say, Mark, Sign}
use Rattle.aq_texts.specs.Canon.{Operand, operand, printed, expression as expression_tokens, comparison as comparison_token, atom as an_atom, operation as an_operation}
use Rattle.aq_texts.proofs.Expressions.{unary_is, binary_is}
use Rattle.aq_forms.proofs.Combining.{IsFree, Anything, done_free, says_free, word_free, symbol_free, minus_free, both_any, behind_word, behind_mark, mapped_free, left_free, right_free, some_free, parentheses_any}
use Rattle.aq_forms.proofs.Reading.{called_free}
use Rattle.aq_forms.proofs.ExpressionLevels.{IsPrinted, one_more, one_before, atom_is_signed, atom_is_product, atom_is_sum, atom_is_comparison, atom_is_test, atom_is_negation, atom_is_conjunction, atom_is_expression, signed_is_expression, product_is_expression, sum_is_expression, comparison_is_expression, test_is_expression, negation_is_expression, conjunction_is_expression}

-- An expression is printed freely as a whole, and as an operand, where it may stand in parentheses.
pub record Printable (scope : Scope) (e : Expr) : Type 0 where
  pub whole : IsPrinted (expression scope) e (expression_tokens e)
  pub inner : IsPrinted (atom scope) e (operand (printed e))

-- an atom stands anywhere as it is
pub atom_printable : (scope : Scope) (e : Expr) (tokens : List Written) → printed e ≡ an_atom tokens → IsPrinted (plain_atom scope) e tokens → Printable scope e
unfolding atom
atom_printable scope e tokens is free =
    let stands : IsPrinted (atom scope) e tokens = right_free (Mark_kind OpenParen ∷ []) (in_parentheses (Call (Expression scope) (λ e. e))) (plain_atom scope) e tokens Anything free in
    record {
      whole = subst (λ (o : Operand). IsPrinted (expression scope) e o.tokens) (sym is) (atom_is_expression scope e tokens stands);
      inner = subst (λ (o : Operand). IsPrinted (atom scope) e (operand o)) (sym is) stands;
    }

-- ---- the operators' tokens

-- the signs of comparisons, from each of them on
abbrev from_greater : Rule Comparison
from_greater = Either (Mark_kind Greater ∷ []) (compares Greater GreaterThan) (compares AtLeast AtLeastAs)

abbrev from_at_most : Rule Comparison
from_at_most = Either (Mark_kind AtMost ∷ []) (compares AtMost AtMostAs) from_greater

abbrev from_less : Rule Comparison
from_less = Either (Mark_kind Less ∷ []) (compares Less LessThan) from_at_most

abbrev from_unequal : Rule Comparison
from_unequal = Either (Mark_kind Unequal ∷ []) (compares Unequal UnequalTo) from_less

-- a sign that comes first, and one that comes later
this_sign : (symbol : Symbol) (found : Comparison) (others : Rule Comparison)
    → IsPrinted (Either (Mark_kind symbol ∷ []) (compares symbol found) others) found (Mark symbol ∷ [])
this_sign symbol found others =
    left_free (Mark_kind symbol ∷ []) (compares symbol found) others found (Mark symbol ∷ []) Anything (symbol_free symbol (Mark symbol) found Anything refl)

later_sign : (symbol : Symbol) (first found : Comparison) (others : Rule Comparison) (tokens : List Written) → IsPrinted others found tokens
    → IsPrinted (Either (Mark_kind symbol ∷ []) (compares symbol first) others) found tokens
later_sign symbol first found others tokens later = right_free (Mark_kind symbol ∷ []) (compares symbol first) others found tokens Anything later

module _ (found : Comparison) (tokens : List Written) where
  behind_equal : IsPrinted from_unequal found tokens → IsPrinted comparison_sign found tokens
  unfolding comparison_sign
  behind_equal later = later_sign Equal EqualTo found from_unequal tokens later

  behind_unequal : IsPrinted from_less found tokens → IsPrinted comparison_sign found tokens
  behind_unequal later = behind_equal (later_sign Unequal UnequalTo found from_less tokens later)

  behind_less : IsPrinted from_at_most found tokens → IsPrinted comparison_sign found tokens
  behind_less later = behind_unequal (later_sign Less LessThan found from_at_most tokens later)

  behind_at_most : IsPrinted from_greater found tokens → IsPrinted comparison_sign found tokens
  behind_at_most later = behind_less (later_sign AtMost AtMostAs found from_greater tokens later)

  behind_greater : IsPrinted (compares AtLeast AtLeastAs) found tokens → IsPrinted comparison_sign found tokens
  behind_greater later = behind_at_most (later_sign Greater GreaterThan found (compares AtLeast AtLeastAs) tokens later)

comparison_sign_free : (found : Comparison) → IsPrinted comparison_sign found (comparison_token found ∷ [])
unfolding comparison_sign
comparison_sign_free EqualTo = this_sign Equal EqualTo from_unequal
comparison_sign_free UnequalTo = behind_equal UnequalTo (Mark Unequal ∷ []) (this_sign Unequal UnequalTo from_less)
comparison_sign_free LessThan = behind_unequal LessThan (Mark Less ∷ []) (this_sign Less LessThan from_at_most)
comparison_sign_free AtMostAs = behind_less AtMostAs (Mark AtMost ∷ []) (this_sign AtMost AtMostAs from_greater)
comparison_sign_free GreaterThan = behind_at_most GreaterThan (Mark Greater ∷ []) (this_sign Greater GreaterThan (compares AtLeast AtLeastAs))
comparison_sign_free AtLeastAs = behind_greater AtLeastAs (Mark AtLeast ∷ []) (symbol_free AtLeast (Mark AtLeast) AtLeastAs Anything refl)

plus_free : IsPrinted sum_sign Add (Mark Plus ∷ [])
unfolding sum_sign
plus_free =
    left_free (Mark_kind Plus ∷ []) (Token (Mark_kind Plus) (λ token. Add)) (Token (Mark_kind Minus) (λ token. Subtract)) Add (Mark Plus ∷ []) Anything
    (symbol_free Plus (Mark Plus) Add Anything refl)

minus_sign_free : IsPrinted sum_sign Subtract (Mark Minus ∷ [])
unfolding sum_sign
minus_sign_free =
    right_free (Mark_kind Plus ∷ []) (Token (Mark_kind Plus) (λ token. Add)) (Token (Mark_kind Minus) (λ token. Subtract)) Subtract (Mark Minus ∷ []) Anything
    (symbol_free Minus (Mark Minus) Subtract Anything refl)

negated_free : IsPrinted negated true (say (codes "NOT") ∷ [])
unfolding negated
negated_free =
    left_free (Keyword (codes "not") ∷ []) (says (codes "not") true) (Done false) true (say (codes "NOT") ∷ []) Anything
    (says_free (codes "NOT") (codes "not") true Anything refl refl)

not_negated_free : IsPrinted negated false []
unfolding negated
not_negated_free = right_free (Keyword (codes "not") ∷ []) (says (codes "not") true) (Done false) false [] Anything (done_free false Anything)

-- ---- what stands behind IS

module _ (scope : Scope) where
  null_free : IsPrinted (null_or_distinct scope) None (say (codes "NULL") ∷ [])
  unfolding null_or_distinct
  null_free =
      left_free (Keyword (codes "null") ∷ []) (says (codes "null") None) (word (codes "distinct") ▸ word (codes "from") ▸ mapped Some (comparison scope)) None
      (say (codes "NULL") ∷ []) Anything (says_free (codes "NULL") (codes "null") None Anything refl refl)

  distinct_free : (b : Expr) (vs : List Written) → IsPrinted (comparison scope) b vs
      → IsPrinted (null_or_distinct scope) (Some b) (say (codes "DISTINCT") ∷ say (codes "FROM") ∷ vs)
  unfolding null_or_distinct
  distinct_free b vs free =
      right_free (Keyword (codes "null") ∷ []) (says (codes "null") None) (word (codes "distinct") ▸ word (codes "from") ▸ mapped Some (comparison scope)) (Some b)
      (say (codes "DISTINCT") ∷ say (codes "FROM") ∷ vs) Anything
      (behind_word (codes "DISTINCT") (codes "distinct") (word (codes "from") ▸ mapped Some (comparison scope)) (Some b) (say (codes "FROM") ∷ vs) Anything refl refl
      (behind_word (codes "FROM") (codes "from") (mapped Some (comparison scope)) (Some b) vs Anything refl refl (mapped_free Some (comparison scope) b vs Anything free)))

  -- with or without NOT
  is_free : (found : Bool) (what : Option Expr) (ws vs : List Written) → IsPrinted negated found ws → IsPrinted (null_or_distinct scope) what vs
      → IsPrinted (is_test scope) (found, what) (say (codes "IS") ∷ (ws ++ vs))
  unfolding is_test
  is_free found what ws vs first second =
      behind_word (codes "IS") (codes "is") (Both (λ negated right. (negated, right)) negated (null_or_distinct scope)) (found, what) (ws ++ vs) Anything refl refl
      (both_any (λ negated right. (negated, right)) negated (null_or_distinct scope) found what ws vs Anything first second)

  summand_free : (operator : BinaryOperator) (token : Written) (b : Expr) (vs : List Written) → IsPrinted sum_sign operator (token ∷ []) → IsPrinted (product scope) b vs
      → IsPrinted (summand scope) (operator, b) (token ∷ vs)
  unfolding summand
  summand_free operator token b vs first second =
      both_any (λ operator right. (operator, right)) sum_sign (product scope) operator b (token ∷ []) vs Anything first second

-- ---- the forms

pub call_free : (scope : Scope) (e : Expr) (ws : List Written) (Behind : List PlacedLexeme → Type 0) → IsFree (rules (Expression scope)) e ws Behind
    → IsFree (Call (Expression scope) (λ e. e)) e ws Behind
call_free scope e ws Behind free = called_free (Expression scope) (λ e. e) e ws Behind free

module _ (scope : Scope) where
  -- an operation stands in parentheses where it is an operand
  operation_printable : (e : Expr) (tokens : List Written) → printed e ≡ an_operation tokens → IsPrinted (expression scope) e tokens → Printable scope e
  unfolding atom rules
  operation_printable e tokens is free =
      let called : IsPrinted (Call (Expression scope) (λ e. e)) e tokens = call_free scope e tokens Anything free in
      let stands : IsPrinted (atom scope) e (operand (an_operation tokens)) =
      left_free (Mark_kind OpenParen ∷ []) (in_parentheses (Call (Expression scope) (λ e. e))) (plain_atom scope) e (operand (an_operation tokens)) Anything
      (parentheses_any (Call (Expression scope) (λ e. e)) e tokens Anything called) in
      record {
        whole = subst (λ (o : Operand). IsPrinted (expression scope) e o.tokens) (sym is) free;
        inner = subst (λ (o : Operand). IsPrinted (atom scope) e (operand o)) (sym is) stands;
      }

  pub negation_printable : (a : Expr) → Printable scope a → Printable scope (Unary Negate a)
  unfolding signed
  negation_printable a first =
      let free : IsPrinted (signed scope) (Unary Negate a) (Sign ∷ operand (printed a)) =
      one_before Negate (Mark_kind Minus ∷ []) (sign Minus) (atom scope) Sign a (operand (printed a)) (minus_free Anything) first.inner in
      operation_printable (Unary Negate a) (Sign ∷ operand (printed a)) (unary_is Negate a) (signed_is_expression scope (Unary Negate a) (Sign ∷ operand (printed a)) free)

  pub not_printable : (a : Expr) → Printable scope a → Printable scope (Unary Not a)
  unfolding negation
  not_printable a first =
      let free : IsPrinted (negation scope) (Unary Not a) (say (codes "NOT") ∷ operand (printed a)) =
      one_before Not (Keyword (codes "not") ∷ []) (word (codes "not")) (test scope) (say (codes "NOT")) a (operand (printed a))
      (word_free (codes "NOT") (codes "not") Anything refl refl) (atom_is_test scope a (operand (printed a)) first.inner) in
      operation_printable (Unary Not a) (say (codes "NOT") ∷ operand (printed a)) (unary_is Not a)
      (negation_is_expression scope (Unary Not a) (say (codes "NOT") ∷ operand (printed a)) free)

  pub product_printable : (a b : Expr) → Printable scope a → Printable scope b → Printable scope (Binary a Multiply b)
  unfolding product
  product_printable a b first second =
      let tokens : List Written = operand (printed a) ++ (Mark Times ∷ operand (printed b)) in
      let free : IsPrinted (product scope) (Binary a Multiply b) tokens =
      one_more (with_right Multiply) (Mark_kind Times ∷ []) (signed scope) (sign Times ▸ signed scope) a b (operand (printed a)) (Mark Times ∷ operand (printed b))
      (atom_is_signed scope a (operand (printed a)) first.inner)
      (behind_mark Times (signed scope) b (operand (printed b)) Anything (atom_is_signed scope b (operand (printed b)) second.inner)) in
      operation_printable (Binary a Multiply b) tokens (binary_is a Multiply b) (product_is_expression scope (Binary a Multiply b) tokens free)

  summed_printable : (operator : BinaryOperator) (token : Written) (a b : Expr) → printed (Binary a operator b) ≡ an_operation (operand (printed a) ++ (token ∷ operand (printed b)))
      → IsPrinted sum_sign operator (token ∷ []) → Printable scope a → Printable scope b → Printable scope (Binary a operator b)
  unfolding sum
  summed_printable operator token a b is said first second =
      let tokens : List Written = operand (printed a) ++ (token ∷ operand (printed b)) in
      let free : IsPrinted (sum scope) (Binary a operator b) tokens =
      one_more with_operand (Mark_kind Plus ∷ Mark_kind Minus ∷ []) (product scope) (summand scope) a (operator, b) (operand (printed a)) (token ∷ operand (printed b))
      (atom_is_product scope a (operand (printed a)) first.inner)
      (summand_free scope operator token b (operand (printed b)) said (atom_is_product scope b (operand (printed b)) second.inner)) in
      operation_printable (Binary a operator b) tokens is (sum_is_expression scope (Binary a operator b) tokens free)

  pub sum_printable : (a b : Expr) → Printable scope a → Printable scope b → Printable scope (Binary a Add b)
  sum_printable a b first second = summed_printable Add (Mark Plus) a b (binary_is a Add b) plus_free first second

  pub difference_printable : (a b : Expr) → Printable scope a → Printable scope b → Printable scope (Binary a Subtract b)
  difference_printable a b first second = summed_printable Subtract (Mark Minus) a b (binary_is a Subtract b) minus_sign_free first second

  pub comparison_printable : (a : Expr) (found : Comparison) (b : Expr) → Printable scope a → Printable scope b → Printable scope (Binary a (Compare found) b)
  unfolding comparison
  comparison_printable a found b first second =
      let tokens : List Written = operand (printed a) ++ (comparison_token found ∷ operand (printed b)) in
      let right : Rule (Comparison × Expr) = Both (λ sign right. (sign, right)) comparison_sign (sum scope) in
      let free : IsPrinted (comparison scope) (Binary a (Compare found) b) tokens =
      both_any compared (sum scope) (optional comparison_signs right) a (Some (found, b)) (operand (printed a)) (comparison_token found ∷ operand (printed b)) Anything
      (atom_is_sum scope a (operand (printed a)) first.inner)
      (some_free comparison_signs right (found, b) (comparison_token found ∷ operand (printed b)) Anything
      (both_any (λ sign right. (sign, right)) comparison_sign (sum scope) found b (comparison_token found ∷ []) (operand (printed b)) Anything (comparison_sign_free found)
      (atom_is_sum scope b (operand (printed b)) second.inner))) in
      operation_printable (Binary a (Compare found) b) tokens (binary_is a (Compare found) b) (comparison_is_expression scope (Binary a (Compare found) b) tokens free)

  pub null_test_printable : (a : Expr) → Printable scope a → Printable scope (Unary IsNull a)
  unfolding test
  null_test_printable a first =
      let tokens : List Written = operand (printed a) ++ (say (codes "IS") ∷ say (codes "NULL") ∷ []) in
      let free : IsPrinted (test scope) (Unary IsNull a) tokens =
      one_more tested (Keyword (codes "is") ∷ []) (comparison scope) (is_test scope) a (false, None) (operand (printed a)) (say (codes "IS") ∷ say (codes "NULL") ∷ [])
      (atom_is_comparison scope a (operand (printed a)) first.inner)
      (is_free scope false None [] (say (codes "NULL") ∷ []) not_negated_free (null_free scope)) in
      operation_printable (Unary IsNull a) tokens (unary_is IsNull a) (test_is_expression scope (Unary IsNull a) tokens free)

  pub not_null_test_printable : (a : Expr) → Printable scope a → Printable scope (Unary IsNotNull a)
  unfolding test
  not_null_test_printable a first =
      let tokens : List Written = operand (printed a) ++ (say (codes "IS") ∷ say (codes "NOT") ∷ say (codes "NULL") ∷ []) in
      let free : IsPrinted (test scope) (Unary IsNotNull a) tokens =
      one_more tested (Keyword (codes "is") ∷ []) (comparison scope) (is_test scope) a (true, None)
      (operand (printed a)) (say (codes "IS") ∷ say (codes "NOT") ∷ say (codes "NULL") ∷ [])
      (atom_is_comparison scope a (operand (printed a)) first.inner)
      (is_free scope true None (say (codes "NOT") ∷ []) (say (codes "NULL") ∷ []) negated_free (null_free scope)) in
      operation_printable (Unary IsNotNull a) tokens (unary_is IsNotNull a) (test_is_expression scope (Unary IsNotNull a) tokens free)

  pub distinct_test_printable : (a b : Expr) → Printable scope a → Printable scope b → Printable scope (Binary a IsDistinct b)
  unfolding test
  distinct_test_printable a b first second =
      let tokens : List Written = operand (printed a) ++ (say (codes "IS") ∷ say (codes "DISTINCT") ∷ say (codes "FROM") ∷ operand (printed b)) in
      let free : IsPrinted (test scope) (Binary a IsDistinct b) tokens =
      one_more tested (Keyword (codes "is") ∷ []) (comparison scope) (is_test scope) a (false, Some b)
      (operand (printed a)) (say (codes "IS") ∷ say (codes "DISTINCT") ∷ say (codes "FROM") ∷ operand (printed b))
      (atom_is_comparison scope a (operand (printed a)) first.inner)
      (is_free scope false (Some b) [] (say (codes "DISTINCT") ∷ say (codes "FROM") ∷ operand (printed b)) not_negated_free
      (distinct_free scope b (operand (printed b)) (atom_is_comparison scope b (operand (printed b)) second.inner))) in
      operation_printable (Binary a IsDistinct b) tokens (binary_is a IsDistinct b) (test_is_expression scope (Binary a IsDistinct b) tokens free)

  pub not_distinct_test_printable : (a b : Expr) → Printable scope a → Printable scope b → Printable scope (Binary a IsNotDistinct b)
  unfolding test
  not_distinct_test_printable a b first second =
      let tokens : List Written = operand (printed a) ++ (say (codes "IS") ∷ say (codes "NOT") ∷ say (codes "DISTINCT") ∷ say (codes "FROM") ∷ operand (printed b)) in
      let free : IsPrinted (test scope) (Binary a IsNotDistinct b) tokens =
      one_more tested (Keyword (codes "is") ∷ []) (comparison scope) (is_test scope) a (true, Some b)
      (operand (printed a)) (say (codes "IS") ∷ say (codes "NOT") ∷ say (codes "DISTINCT") ∷ say (codes "FROM") ∷ operand (printed b))
      (atom_is_comparison scope a (operand (printed a)) first.inner)
      (is_free scope true (Some b) (say (codes "NOT") ∷ []) (say (codes "DISTINCT") ∷ say (codes "FROM") ∷ operand (printed b)) negated_free
      (distinct_free scope b (operand (printed b)) (atom_is_comparison scope b (operand (printed b)) second.inner))) in
      operation_printable (Binary a IsNotDistinct b) tokens (binary_is a IsNotDistinct b) (test_is_expression scope (Binary a IsNotDistinct b) tokens free)

  pub conjunction_printable : (a b : Expr) → Printable scope a → Printable scope b → Printable scope (Binary a And b)
  unfolding conjunction
  conjunction_printable a b first second =
      let tokens : List Written = operand (printed a) ++ (say (codes "AND") ∷ operand (printed b)) in
      let free : IsPrinted (conjunction scope) (Binary a And b) tokens =
      one_more (with_right And) (Keyword (codes "and") ∷ []) (negation scope) (word (codes "and") ▸ negation scope) a b
      (operand (printed a)) (say (codes "AND") ∷ operand (printed b))
      (atom_is_negation scope a (operand (printed a)) first.inner)
      (behind_word (codes "AND") (codes "and") (negation scope) b (operand (printed b)) Anything refl refl (atom_is_negation scope b (operand (printed b)) second.inner)) in
      operation_printable (Binary a And b) tokens (binary_is a And b) (conjunction_is_expression scope (Binary a And b) tokens free)

  pub disjunction_printable : (a b : Expr) → Printable scope a → Printable scope b → Printable scope (Binary a Or b)
  unfolding expression
  disjunction_printable a b first second =
      let tokens : List Written = operand (printed a) ++ (say (codes "OR") ∷ operand (printed b)) in
      let free : IsPrinted (expression scope) (Binary a Or b) tokens =
      one_more (with_right Or) (Keyword (codes "or") ∷ []) (conjunction scope) (word (codes "or") ▸ conjunction scope) a b
      (operand (printed a)) (say (codes "OR") ∷ operand (printed b))
      (atom_is_conjunction scope a (operand (printed a)) first.inner)
      (behind_word (codes "OR") (codes "or") (conjunction scope) b (operand (printed b)) Anything refl refl (atom_is_conjunction scope b (operand (printed b)) second.inner)) in
      operation_printable (Binary a Or b) tokens (binary_is a Or b) free
