use Rattle.std.proofs.Common.{◌+◌, ◌*◌, [], ◌∷◌, length, codes}
use Rattle.aq_base.specs.declared.expr.BinaryOperator.TheVariants.{Multiply, And, Or}
use Rattle.aq_lex.specs.declared.token.Symbol.TheVariants.{Times, Plus, Minus}
use Rattle.aq_grammar.specs.Terminals.{Keyword, Sign}
use Rattle.aq_grammar.specs.Forms.{word, sign, ◌▸◌}
use Rattle.aq_grammar.specs.Expressions.{with_right, with_operand, tested, signed, summand, negation, conjunction}
use Rattle.aq_parse_expressions.proofs.Levels.{Goes, negated_test}
use Rattle.aq_parse_expressions.proofs.expression.+expression.Given as goal

abbrev pub decreases-atom : goal.decreases-atom
decreases-atom l = 10 * length l.tokens.now

abbrev pub decreases-signed : goal.decreases-signed
decreases-signed l = 10 * length l.tokens.now + 1

abbrev pub decreases-product : goal.decreases-product
decreases-product l = 10 * length l.tokens.now + 2

abbrev pub decreases-sum : goal.decreases-sum
decreases-sum l = 10 * length l.tokens.now + 3

abbrev pub decreases-comparison : goal.decreases-comparison
decreases-comparison l = 10 * length l.tokens.now + 4

abbrev pub decreases-null_or_distinct : goal.decreases-null_or_distinct
decreases-null_or_distinct l = 10 * length l.tokens.now + 5

abbrev pub decreases-test : goal.decreases-test
decreases-test l = 10 * length l.tokens.now + 6

abbrev pub decreases-negation : goal.decreases-negation
decreases-negation l = 10 * length l.tokens.now + 7

abbrev pub decreases-conjunction : goal.decreases-conjunction
decreases-conjunction l = 10 * length l.tokens.now + 8

abbrev pub decreases-expression : goal.decreases-expression
decreases-expression l = 10 * length l.tokens.now + 9

abbrev pub invariant-product-factors : goal.invariant-product-factors
invariant-product-factors l = Goes (with_right Multiply) (Sign Times ∷ []) (sign Times ▸ signed l.scope) l.initial.left l.initial.rest l.left l.rest l.tokens

abbrev pub decreases-product-factors : goal.decreases-product-factors
decreases-product-factors l = length l.rest

abbrev pub invariant-sum-summands : goal.invariant-sum-summands
invariant-sum-summands l = Goes with_operand (Sign Plus ∷ Sign Minus ∷ []) (summand l.scope) l.initial.left l.initial.rest l.left l.rest l.tokens

abbrev pub decreases-sum-summands : goal.decreases-sum-summands
decreases-sum-summands l = length l.rest

abbrev pub invariant-test-tests : goal.invariant-test-tests
invariant-test-tests l = Goes tested (Keyword (codes "is") ∷ []) (word (codes "is") ▸ negated_test l.scope) l.initial.operand l.initial.rest l.operand l.rest l.tokens

abbrev pub decreases-test-tests : goal.decreases-test-tests
decreases-test-tests l = length l.rest

abbrev pub invariant-conjunction-negations : goal.invariant-conjunction-negations
invariant-conjunction-negations l = Goes (with_right And) (Keyword (codes "and") ∷ []) (word (codes "and") ▸ negation l.scope) l.initial.left l.initial.rest l.left l.rest l.tokens

abbrev pub decreases-conjunction-negations : goal.decreases-conjunction-negations
decreases-conjunction-negations l = length l.rest

abbrev pub invariant-expression-conjunctions : goal.invariant-expression-conjunctions
invariant-expression-conjunctions l = Goes (with_right Or) (Keyword (codes "or") ∷ []) (word (codes "or") ▸ conjunction l.scope) l.initial.left l.initial.rest l.left l.rest l.tokens

abbrev pub decreases-expression-conjunctions : goal.decreases-expression-conjunctions
decreases-expression-conjunctions l = length l.rest
