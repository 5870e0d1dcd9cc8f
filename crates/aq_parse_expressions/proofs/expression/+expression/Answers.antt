use Rattle.std.proofs.Common.{rules, arith, ◌≡◌, ◌<◌, ◌≤◌, [], ◌∷◌, length, replicate, true, false, sym, ◌∙◌, codes, Err}
use Rattle.aq_base.specs.declared.expr.BinaryOperator.TheVariants.{Multiply, And, Or}
use Rattle.aq_lex.specs.declared.token.Symbol.TheVariants.{OpenParen, Times, Plus, Minus}
use Rattle.aq_grammar.specs.Terminals.{Keyword, Sign, begins}
use Rattle.aq_grammar.specs.Rules.{Many}
use Rattle.aq_grammar.specs.Forms.{word, sign}
use Rattle.aq_grammar.specs.Nonterminals.{reads}
use Rattle.aq_grammar.specs.Shorter.{token_is_shorter}
use Rattle.aq_grammar.specs.Expressions.{with_right, with_operand, tested, signed, product, sum_sign, summand, sum, comparison_sign, comparison, negated, null_or_distinct, is_test, test, negation, conjunction, expression}
use Rattle.aq_grammar.proofs.NoLonger.{no_longer}
use Rattle.aq_grammar.proofs.Loops.{gives_fault, fails_as, fails_on}
use Rattle.aq_parse_expressions.proofs.Levels.{level_begins, level_goes_on, level_fails, level_ends, behind_one, one_shorter, right_shorter, simple_goes_on, simple_fails, expression_is, sum_sign_shorter, both_read, second_fails, negated_test}
use Rattle.aq_parse_expressions.proofs.expression.+expression.Goals as goal

pub product-factors-init : goal.product-factors-init
product-factors-init t c =
    level_begins (with_right Multiply) (Sign Times ∷ []) (signed c.args.scope) (behind_one (with_right Multiply) (Sign Times) (signed c.args.scope) (signed c.args.scope)) c.args.tokens.now c.in_ok-left.rest c.in_ok-left.left c.in_ok-left.ensures

pub product-signed-requires-in-factors : goal.product-signed-requires-in-factors
product-signed-requires-in-factors t c =
    let begun : begins (Sign Times ∷ []) c.factors.rest ≡ true = search rules in
    let less : length c.rest-behind.result < length c.factors.rest = one_shorter (with_right Multiply) (Sign Times) (signed c.args.scope) (signed c.args.scope) c.factors.rest c.rest-behind.result begun c.rest-behind.ensures in
    let most : length c.factors.rest ≤ length c.args.tokens.now = c.factors.invariant.no_more in
    (omega (arith, less, most, c.decreases), tt)

pub product-factors-preserved : goal.product-factors-preserved
product-factors-preserved t c =
    let begun : begins (Sign Times ∷ []) c.factors.rest ≡ true = search rules in
    let is_next : c.in_ok-left-2.left ≡ with_right Multiply c.factors.left c.in_ok-right.right = search rules in
    simple_goes_on (with_right Multiply) (Sign Times) (signed c.args.scope) (signed c.args.scope) c.args.tokens.now c.in_ok-left.rest c.factors.rest c.rest-behind.result c.in_ok-right.after
    c.in_ok-left.left c.factors.left c.in_ok-left-2.left c.in_ok-right.right c.factors.invariant begun c.rest-behind.ensures c.in_ok-right.ensures is_next

pub product-factors-smaller : goal.product-factors-smaller
product-factors-smaller t c =
    let begun : begins (Sign Times ∷ []) c.factors.rest ≡ true = search rules in
    right_shorter (with_right Multiply) (Sign Times) (signed c.args.scope) (signed c.args.scope) c.factors.rest c.rest-behind.result c.in_ok-right.after c.in_ok-right.right begun c.rest-behind.ensures c.in_ok-right.ensures

pub product-returns-in_err-right : goal.product-returns-in_err-right
unfolding product
product-returns-in_err-right t c =
    let begun : begins (Sign Times ∷ []) c.factors.rest ≡ true = search rules in
    let is_fault : c.from_residual-in_err-right.result ≡ Err c.in_err-right.field-0.0 = search rules in
    gives_fault (λ x. x) c.from_residual-in_err-right.result c.in_err-right.field-0.0 _ is_fault
    (simple_fails (with_right Multiply) (Sign Times) (signed c.args.scope) (signed c.args.scope) c.in_err-right.field-0.0 c.args.tokens.now c.in_ok-left.rest c.factors.rest c.rest-behind.result
    c.in_ok-left.left c.factors.left c.in_ok-left.ensures c.factors.invariant begun c.rest-behind.ensures c.in_err-right.ensures)

pub product-returns : goal.product-returns
unfolding product
product-returns t c =
    let ended : begins (Sign Times ∷ []) c.factors.rest ≡ false = search rules in
    level_ends (with_right Multiply) (Sign Times ∷ []) (signed c.args.scope) (behind_one (with_right Multiply) (Sign Times) (signed c.args.scope) (signed c.args.scope)) c.args.tokens.now c.in_ok-left.rest c.factors.rest
    c.in_ok-left.left c.factors.left c.in_ok-left.ensures c.factors.invariant ended

pub conjunction-negations-init : goal.conjunction-negations-init
conjunction-negations-init t c =
    level_begins (with_right And) (Keyword (codes "and") ∷ []) (negation c.args.scope) (behind_one (with_right And) (Keyword (codes "and")) (negation c.args.scope) (negation c.args.scope)) c.args.tokens.now c.in_ok-left.rest c.in_ok-left.left c.in_ok-left.ensures

pub conjunction-negation-requires-in-negations : goal.conjunction-negation-requires-in-negations
conjunction-negation-requires-in-negations t c =
    let begun : begins (Keyword (codes "and") ∷ []) c.negations.rest ≡ true = search rules in
    let less : length c.rest-behind.result < length c.negations.rest = one_shorter (with_right And) (Keyword (codes "and")) (negation c.args.scope) (negation c.args.scope) c.negations.rest c.rest-behind.result begun c.rest-behind.ensures in
    let most : length c.negations.rest ≤ length c.args.tokens.now = c.negations.invariant.no_more in
    (omega (arith, less, most, c.decreases), tt)

pub conjunction-negations-preserved : goal.conjunction-negations-preserved
conjunction-negations-preserved t c =
    let begun : begins (Keyword (codes "and") ∷ []) c.negations.rest ≡ true = search rules in
    let is_next : c.in_ok-left-2.left ≡ with_right And c.negations.left c.in_ok-right.right = search rules in
    simple_goes_on (with_right And) (Keyword (codes "and")) (negation c.args.scope) (negation c.args.scope) c.args.tokens.now c.in_ok-left.rest c.negations.rest c.rest-behind.result c.in_ok-right.after
    c.in_ok-left.left c.negations.left c.in_ok-left-2.left c.in_ok-right.right c.negations.invariant begun c.rest-behind.ensures c.in_ok-right.ensures is_next

pub conjunction-negations-smaller : goal.conjunction-negations-smaller
conjunction-negations-smaller t c =
    let begun : begins (Keyword (codes "and") ∷ []) c.negations.rest ≡ true = search rules in
    right_shorter (with_right And) (Keyword (codes "and")) (negation c.args.scope) (negation c.args.scope) c.negations.rest c.rest-behind.result c.in_ok-right.after c.in_ok-right.right begun c.rest-behind.ensures c.in_ok-right.ensures

pub conjunction-returns-in_err-right : goal.conjunction-returns-in_err-right
unfolding conjunction
conjunction-returns-in_err-right t c =
    let begun : begins (Keyword (codes "and") ∷ []) c.negations.rest ≡ true = search rules in
    let is_fault : c.from_residual-in_err-right.result ≡ Err c.in_err-right.field-0.0 = search rules in
    gives_fault (λ x. x) c.from_residual-in_err-right.result c.in_err-right.field-0.0 _ is_fault
    (simple_fails (with_right And) (Keyword (codes "and")) (negation c.args.scope) (negation c.args.scope) c.in_err-right.field-0.0 c.args.tokens.now c.in_ok-left.rest c.negations.rest c.rest-behind.result
    c.in_ok-left.left c.negations.left c.in_ok-left.ensures c.negations.invariant begun c.rest-behind.ensures c.in_err-right.ensures)

pub conjunction-returns : goal.conjunction-returns
unfolding conjunction
conjunction-returns t c =
    let ended : begins (Keyword (codes "and") ∷ []) c.negations.rest ≡ false = search rules in
    level_ends (with_right And) (Keyword (codes "and") ∷ []) (negation c.args.scope) (behind_one (with_right And) (Keyword (codes "and")) (negation c.args.scope) (negation c.args.scope)) c.args.tokens.now c.in_ok-left.rest c.negations.rest
    c.in_ok-left.left c.negations.left c.in_ok-left.ensures c.negations.invariant ended

pub expression-conjunctions-init : goal.expression-conjunctions-init
expression-conjunctions-init t c =
    level_begins (with_right Or) (Keyword (codes "or") ∷ []) (conjunction c.args.scope) (behind_one (with_right Or) (Keyword (codes "or")) (conjunction c.args.scope) (conjunction c.args.scope)) c.args.tokens.now c.in_ok-left.rest c.in_ok-left.left c.in_ok-left.ensures

pub expression-conjunction-requires-in-conjunctions : goal.expression-conjunction-requires-in-conjunctions
expression-conjunction-requires-in-conjunctions t c =
    let begun : begins (Keyword (codes "or") ∷ []) c.conjunctions.rest ≡ true = search rules in
    let less : length c.rest-behind.result < length c.conjunctions.rest = one_shorter (with_right Or) (Keyword (codes "or")) (conjunction c.args.scope) (conjunction c.args.scope) c.conjunctions.rest c.rest-behind.result begun c.rest-behind.ensures in
    let most : length c.conjunctions.rest ≤ length c.args.tokens.now = c.conjunctions.invariant.no_more in
    (omega (arith, less, most, c.decreases), tt)

pub expression-conjunctions-preserved : goal.expression-conjunctions-preserved
expression-conjunctions-preserved t c =
    let begun : begins (Keyword (codes "or") ∷ []) c.conjunctions.rest ≡ true = search rules in
    let is_next : c.in_ok-left-2.left ≡ with_right Or c.conjunctions.left c.in_ok-right.right = search rules in
    simple_goes_on (with_right Or) (Keyword (codes "or")) (conjunction c.args.scope) (conjunction c.args.scope) c.args.tokens.now c.in_ok-left.rest c.conjunctions.rest c.rest-behind.result c.in_ok-right.after
    c.in_ok-left.left c.conjunctions.left c.in_ok-left-2.left c.in_ok-right.right c.conjunctions.invariant begun c.rest-behind.ensures c.in_ok-right.ensures is_next

pub expression-conjunctions-smaller : goal.expression-conjunctions-smaller
expression-conjunctions-smaller t c =
    let begun : begins (Keyword (codes "or") ∷ []) c.conjunctions.rest ≡ true = search rules in
    right_shorter (with_right Or) (Keyword (codes "or")) (conjunction c.args.scope) (conjunction c.args.scope) c.conjunctions.rest c.rest-behind.result c.in_ok-right.after c.in_ok-right.right begun c.rest-behind.ensures c.in_ok-right.ensures

pub expression-returns-in_err-right : goal.expression-returns-in_err-right
unfolding expression
expression-returns-in_err-right t c =
    let begun : begins (Keyword (codes "or") ∷ []) c.conjunctions.rest ≡ true = search rules in
    let is_fault : c.from_residual-in_err-right.result ≡ Err c.in_err-right.field-0.0 = search rules in
    gives_fault (λ x. x) c.from_residual-in_err-right.result c.in_err-right.field-0.0 _ is_fault
    (fails_as c.in_err-right.field-0.0 _ _ (sym (expression_is c.args.scope c.args.tokens.now)) (simple_fails (with_right Or) (Keyword (codes "or")) (conjunction c.args.scope) (conjunction c.args.scope) c.in_err-right.field-0.0 c.args.tokens.now c.in_ok-left.rest c.conjunctions.rest c.rest-behind.result
    c.in_ok-left.left c.conjunctions.left c.in_ok-left.ensures c.conjunctions.invariant begun c.rest-behind.ensures c.in_err-right.ensures))

pub expression-returns : goal.expression-returns
unfolding expression
expression-returns t c =
    let ended : begins (Keyword (codes "or") ∷ []) c.conjunctions.rest ≡ false = search rules in
    expression_is c.args.scope c.args.tokens.now ∙ level_ends (with_right Or) (Keyword (codes "or") ∷ []) (conjunction c.args.scope) (behind_one (with_right Or) (Keyword (codes "or")) (conjunction c.args.scope) (conjunction c.args.scope)) c.args.tokens.now c.in_ok-left.rest c.conjunctions.rest
    c.in_ok-left.left c.conjunctions.left c.in_ok-left.ensures c.conjunctions.invariant ended

pub expression-returns-in_err-left : goal.expression-returns-in_err-left
unfolding expression
expression-returns-in_err-left t c =
    let is_fault : c.from_residual.result ≡ Err c.in_err-left.field-0.0 = search rules in
    gives_fault (λ x. x) c.from_residual.result c.in_err-left.field-0.0 _ is_fault
    (fails_as c.in_err-left.field-0.0 _ _ (sym (expression_is c.args.scope c.args.tokens.now))
    (fails_on c.in_err-left.field-0.0 (reads (conjunction c.args.scope) c.args.tokens.now) _ c.in_err-left.ensures))

pub sum-summands-init : goal.sum-summands-init
sum-summands-init t c =
    level_begins with_operand (Sign Plus ∷ Sign Minus ∷ []) (product c.args.scope) (summand c.args.scope) c.args.tokens.now c.in_ok-left.rest c.in_ok-left.left c.in_ok-left.ensures

pub sum-product-requires-in-summands : goal.sum-product-requires-in-summands
sum-product-requires-in-summands t c =
    let less : length c.in_ok-operator.behind < length c.summands.rest =
    sum_sign_shorter c.summands.rest c.in_ok-operator.behind c.in_ok-operator.operator c.in_ok-operator.ensures in
    let most : length c.summands.rest ≤ length c.args.tokens.now = c.summands.invariant.no_more in
    (omega (arith, less, most, c.decreases), tt)

pub sum-summands-smaller : goal.sum-summands-smaller
sum-summands-smaller t c =
    let less : length c.in_ok-operator.behind < length c.summands.rest =
    sum_sign_shorter c.summands.rest c.in_ok-operator.behind c.in_ok-operator.operator c.in_ok-operator.ensures in
    let fewer : length c.in_ok-right.after ≤ length c.in_ok-operator.behind =
    no_longer (product c.args.scope) c.in_ok-operator.behind c.in_ok-right.after c.in_ok-right.right c.in_ok-right.ensures in
    omega (arith, less, fewer)

pub sum-summands-preserved : goal.sum-summands-preserved
unfolding summand
sum-summands-preserved t c =
    let begun : begins (Sign Plus ∷ Sign Minus ∷ []) c.summands.rest ≡ true = search rules in
    let is_next : c.in_ok-left-2.left ≡ with_operand c.summands.left (c.in_ok-operator.operator, c.in_ok-right.right) = search rules in
    let less : length c.in_ok-operator.behind < length c.summands.rest =
    sum_sign_shorter c.summands.rest c.in_ok-operator.behind c.in_ok-operator.operator c.in_ok-operator.ensures in
    let fewer : length c.in_ok-right.after ≤ length c.in_ok-operator.behind =
    no_longer (product c.args.scope) c.in_ok-operator.behind c.in_ok-right.after c.in_ok-right.right c.in_ok-right.ensures in
    let shorter : length c.in_ok-right.after < length c.summands.rest = omega (arith, less, fewer) in
    level_goes_on with_operand (Sign Plus ∷ Sign Minus ∷ []) (product c.args.scope) (summand c.args.scope)
    c.args.tokens.now c.in_ok-left.rest c.summands.rest c.in_ok-right.after c.in_ok-left.left c.summands.left c.in_ok-left-2.left
    (c.in_ok-operator.operator, c.in_ok-right.right) c.summands.invariant begun
    (both_read (λ operator right. (operator, right)) sum_sign (product c.args.scope) c.summands.rest c.in_ok-operator.behind c.in_ok-right.after
    c.in_ok-operator.operator c.in_ok-right.right c.in_ok-operator.ensures c.in_ok-right.ensures)
    shorter is_next

pub sum-returns-in_err-operator : goal.sum-returns-in_err-operator
unfolding sum summand
sum-returns-in_err-operator t c =
    let begun : begins (Sign Plus ∷ Sign Minus ∷ []) c.summands.rest ≡ true = search rules in
    let is_fault : c.from_residual-in_err-operator.result ≡ Err c.in_err-operator.field-0.0 = search rules in
    gives_fault (λ x. x) c.from_residual-in_err-operator.result c.in_err-operator.field-0.0 _ is_fault
    (level_fails with_operand (Sign Plus ∷ Sign Minus ∷ []) (product c.args.scope) (summand c.args.scope) c.in_err-operator.field-0.0
    c.args.tokens.now c.in_ok-left.rest c.summands.rest c.in_ok-left.left c.summands.left c.in_ok-left.ensures c.summands.invariant begun
    (fails_on c.in_err-operator.field-0.0 (reads sum_sign c.summands.rest) _ c.in_err-operator.ensures))

pub sum-returns-in_err-right : goal.sum-returns-in_err-right
unfolding sum summand
sum-returns-in_err-right t c =
    let begun : begins (Sign Plus ∷ Sign Minus ∷ []) c.summands.rest ≡ true = search rules in
    let is_fault : c.from_residual-in_err-right.result ≡ Err c.in_err-right.field-0.0 = search rules in
    gives_fault (λ x. x) c.from_residual-in_err-right.result c.in_err-right.field-0.0 _ is_fault
    (level_fails with_operand (Sign Plus ∷ Sign Minus ∷ []) (product c.args.scope) (summand c.args.scope) c.in_err-right.field-0.0
    c.args.tokens.now c.in_ok-left.rest c.summands.rest c.in_ok-left.left c.summands.left c.in_ok-left.ensures c.summands.invariant begun
    (second_fails (λ operator right. (operator, right)) sum_sign (product c.args.scope) c.in_err-right.field-0.0 c.summands.rest c.in_ok-operator.behind
    c.in_ok-operator.operator c.in_ok-operator.ensures c.in_err-right.ensures))

pub sum-returns : goal.sum-returns
unfolding sum
sum-returns t c =
    let ended : begins (Sign Plus ∷ Sign Minus ∷ []) c.summands.rest ≡ false = search rules in
    level_ends with_operand (Sign Plus ∷ Sign Minus ∷ []) (product c.args.scope) (summand c.args.scope) c.args.tokens.now c.in_ok-left.rest c.summands.rest
    c.in_ok-left.left c.summands.left c.in_ok-left.ensures c.summands.invariant ended

pub test-tests-init : goal.test-tests-init
test-tests-init t c =
    level_begins tested (Keyword (codes "is") ∷ []) (comparison c.args.scope) (behind_one tested (Keyword (codes "is")) (comparison c.args.scope) (negated_test c.args.scope))
    c.args.tokens.now c.in_ok-operand.rest c.in_ok-operand.operand c.in_ok-operand.ensures

pub test-null_or_distinct-requires : goal.test-null_or_distinct-requires
test-null_or_distinct-requires t c =
    let begun : begins (Keyword (codes "is") ∷ []) c.tests.rest ≡ true = search rules in
    let less : length c.rest-behind.result < length c.tests.rest =
    one_shorter tested (Keyword (codes "is")) (comparison c.args.scope) (negated_test c.args.scope) c.tests.rest c.rest-behind.result begun c.rest-behind.ensures in
    let fewer : length c.in_ok-is_negated.behind ≤ length c.rest-behind.result =
    no_longer negated c.rest-behind.result c.in_ok-is_negated.behind c.in_ok-is_negated.is_negated c.in_ok-is_negated.ensures in
    let most : length c.tests.rest ≤ length c.args.tokens.now = c.tests.invariant.no_more in
    (omega (arith, less, fewer, most, c.decreases), tt)

pub test-tests-preserved : goal.test-tests-preserved
test-tests-preserved t c =
    let begun : begins (Keyword (codes "is") ∷ []) c.tests.rest ≡ true = search rules in
    let is_next : c.in_ok-operand-2.operand ≡ tested c.tests.operand (c.in_ok-is_negated.is_negated, c.in_ok-right.right) = search rules in
    simple_goes_on tested (Keyword (codes "is")) (comparison c.args.scope) (negated_test c.args.scope)
    c.args.tokens.now c.in_ok-operand.rest c.tests.rest c.rest-behind.result c.in_ok-right.after
    c.in_ok-operand.operand c.tests.operand c.in_ok-operand-2.operand (c.in_ok-is_negated.is_negated, c.in_ok-right.right) c.tests.invariant begun c.rest-behind.ensures
    (both_read (λ negated right. (negated, right)) negated (null_or_distinct c.args.scope) c.rest-behind.result c.in_ok-is_negated.behind c.in_ok-right.after
    c.in_ok-is_negated.is_negated c.in_ok-right.right c.in_ok-is_negated.ensures c.in_ok-right.ensures)
    is_next

pub test-tests-smaller : goal.test-tests-smaller
test-tests-smaller t c =
    let begun : begins (Keyword (codes "is") ∷ []) c.tests.rest ≡ true = search rules in
    right_shorter tested (Keyword (codes "is")) (comparison c.args.scope) (negated_test c.args.scope)
    c.tests.rest c.rest-behind.result c.in_ok-right.after (c.in_ok-is_negated.is_negated, c.in_ok-right.right) begun c.rest-behind.ensures
    (both_read (λ negated right. (negated, right)) negated (null_or_distinct c.args.scope) c.rest-behind.result c.in_ok-is_negated.behind c.in_ok-right.after
    c.in_ok-is_negated.is_negated c.in_ok-right.right c.in_ok-is_negated.ensures c.in_ok-right.ensures)

pub test-returns-in_err-operand : goal.test-returns-in_err-operand
unfolding test
test-returns-in_err-operand t c = search rules

pub test-returns-in_err-is_negated : goal.test-returns-in_err-is_negated
unfolding test is_test
test-returns-in_err-is_negated t c =
    let begun : begins (Keyword (codes "is") ∷ []) c.tests.rest ≡ true = search rules in
    let is_fault : c.from_residual-in_err-is_negated.result ≡ Err c.in_err-is_negated.field-0.0 = search rules in
    gives_fault (λ x. x) c.from_residual-in_err-is_negated.result c.in_err-is_negated.field-0.0 _ is_fault
    (simple_fails tested (Keyword (codes "is")) (comparison c.args.scope) (negated_test c.args.scope) c.in_err-is_negated.field-0.0
    c.args.tokens.now c.in_ok-operand.rest c.tests.rest c.rest-behind.result c.in_ok-operand.operand c.tests.operand c.in_ok-operand.ensures c.tests.invariant begun c.rest-behind.ensures
    (fails_on c.in_err-is_negated.field-0.0 (reads negated c.rest-behind.result) _ c.in_err-is_negated.ensures))

pub test-returns-in_err-right : goal.test-returns-in_err-right
unfolding test is_test
test-returns-in_err-right t c =
    let begun : begins (Keyword (codes "is") ∷ []) c.tests.rest ≡ true = search rules in
    let is_fault : c.from_residual-in_err-right.result ≡ Err c.in_err-right.field-0.0 = search rules in
    gives_fault (λ x. x) c.from_residual-in_err-right.result c.in_err-right.field-0.0 _ is_fault
    (simple_fails tested (Keyword (codes "is")) (comparison c.args.scope) (negated_test c.args.scope) c.in_err-right.field-0.0
    c.args.tokens.now c.in_ok-operand.rest c.tests.rest c.rest-behind.result c.in_ok-operand.operand c.tests.operand c.in_ok-operand.ensures c.tests.invariant begun c.rest-behind.ensures
    (second_fails (λ negated right. (negated, right)) negated (null_or_distinct c.args.scope) c.in_err-right.field-0.0 c.rest-behind.result c.in_ok-is_negated.behind
    c.in_ok-is_negated.is_negated c.in_ok-is_negated.ensures c.in_err-right.ensures))

pub test-returns : goal.test-returns
unfolding test is_test
test-returns t c =
    let ended : begins (Keyword (codes "is") ∷ []) c.tests.rest ≡ false = search rules in
    level_ends tested (Keyword (codes "is") ∷ []) (comparison c.args.scope) (behind_one tested (Keyword (codes "is")) (comparison c.args.scope) (negated_test c.args.scope))
    c.args.tokens.now c.in_ok-operand.rest c.tests.rest c.in_ok-operand.operand c.tests.operand c.in_ok-operand.ensures c.tests.invariant ended

pub atom-expression-requires : goal.atom-expression-requires
atom-expression-requires t c =
    let less : length c.in_ok-rest.rest < length c.args.tokens.now =
    token_is_shorter (Sign OpenParen) (λ token. tt {0}) c.args.tokens.now c.in_ok-rest.rest tt c.in_ok-rest.ensures in
    (omega (arith, less, c.decreases), tt)

pub signed-atom-requires : goal.signed-atom-requires
signed-atom-requires t c =
    let most : length c.in_ok-count.rest ≤ length c.args.tokens.now =
    no_longer (Many (Sign Minus ∷ []) [] (λ signs. signs) (sign Minus)) c.args.tokens.now c.in_ok-count.rest (replicate c.in_ok-count.count tt) c.in_ok-count.ensures in
    (omega (arith, most, c.decreases), tt)

pub negation-test-requires : goal.negation-test-requires
negation-test-requires t c =
    let most : length c.in_ok-count.rest ≤ length c.args.tokens.now =
    no_longer (Many (Keyword (codes "not") ∷ []) [] (λ words. words) (word (codes "not"))) c.args.tokens.now c.in_ok-count.rest (replicate c.in_ok-count.count tt)
    c.in_ok-count.ensures in
    (omega (arith, most, c.decreases), tt)

pub null_or_distinct-comparison-requires : goal.null_or_distinct-comparison-requires
null_or_distinct-comparison-requires t c =
    let most : length c.in_ok-rest-2.rest ≤ length c.args.tokens.now = no_longer (word (codes "distinct")) c.args.tokens.now c.in_ok-rest-2.rest tt c.in_ok-rest-2.ensures in
    let fewer : length c.in_ok-rest-3.rest ≤ length c.in_ok-rest-2.rest = no_longer (word (codes "from")) c.in_ok-rest-2.rest c.in_ok-rest-3.rest tt c.in_ok-rest-3.ensures in
    (omega (arith, most, fewer, c.decreases), tt)

pub comparison-sum-requires-2 : goal.comparison-sum-requires-2
comparison-sum-requires-2 t c =
    let most : length c.in_ok-left.rest ≤ length c.args.tokens.now = no_longer (sum c.args.scope) c.args.tokens.now c.in_ok-left.rest c.in_ok-left.left c.in_ok-left.ensures in
    let fewer : length c.in_ok-comparison.rest ≤ length c.in_ok-left.rest =
    no_longer comparison_sign c.in_ok-left.rest c.in_ok-comparison.rest c.in_ok-comparison.comparison c.in_ok-comparison.ensures in
    (omega (arith, most, fewer, c.decreases), tt)
