-- Expressions (PostgreSQL manual, section "Lexical Structure", "Operator Precedence"), weakest first: OR, AND, NOT, IS, one
-- comparison, `+` and `-`, `*`, the sign. The operators of a level are taken from the left.
--     expression = conjunction {OR conjunction}             conjunction = negation {AND negation}
--     negation   = {NOT} test                               test = comparison {IS [NOT] (NULL | DISTINCT FROM comparison)}
--     comparison = sum [(= | <> | < | <= | > | >=) sum]     sum = product {(+ | -) product}
--     product    = signed {* signed}                        signed = {-} atom
--     atom       = number | text | NULL | TRUE | FALSE | (expression) | column | table.column
--                | OLD.column | NEW.column in conditions of triggers and in code | TG_OP in code
use Rattle.std.specs.Prelude.{ℕ, pos, Bool, true, false, List, [], ◌∷◌, Option, Some, None, codes}
use Rattle.aq_base.specs.Names.{Text as Bytes}
use Rattle.aq_base.specs.declared.value.Value.TheVariants.{Null, Bool as Truth, Int, Text as Words}
use Rattle.aq_lex.specs.declared.token.Symbol.{Symbol}
use Rattle.aq_lex.specs.declared.token.Symbol.TheVariants.{OpenParen, Dot, Plus, Minus, Times, Equal, Unequal, Less, AtMost, Greater, AtLeast}
use Rattle.aq_grammar.specs.Terminals.{Terminal, Keyword, NameOf, NameBut, Number, Literal, LiteralInCode, Sign, text_of, number_of}
use Rattle.aq_grammar.specs.Rules.{Rule, Done, Token, Both, Either, Many, Call, Limited, Expression}
use Rattle.aq_grammar.specs.declared.scope.Scope.{Scope}
use Rattle.aq_grammar.specs.declared.scope.Scope.TheVariants.{InStatement, InCondition, InCode}
use Rattle.aq_grammar.specs.Forms.{word, sign, ◌▸◌, mapped, says, optional, in_parentheses, name, limit}
use Rattle.aq_base.specs.declared.expr.Expr.{Expr}
use Rattle.aq_base.specs.declared.expr.Comparison.{Comparison}
use Rattle.aq_base.specs.declared.expr.Expr.TheVariants.{Constant, Column, Qualified, Old, New, Operation, Unary, Binary}
use Rattle.aq_base.specs.declared.expr.UnaryOperator.{UnaryOperator}
use Rattle.aq_base.specs.declared.expr.UnaryOperator.TheVariants.{Negate, Not, IsNull, IsNotNull}
use Rattle.aq_base.specs.declared.expr.BinaryOperator.{BinaryOperator}
use Rattle.aq_base.specs.declared.expr.BinaryOperator.TheVariants.{Multiply, Add, Subtract, Compare, IsDistinct, IsNotDistinct, And, Or}
use Rattle.aq_base.specs.declared.expr.Comparison.TheVariants.{Equal as EqualTo, Unequal as UnequalTo, Less as LessThan, AtMost as AtMostAs, Greater as GreaterThan, AtLeast as AtLeastAs}

-- a text within code holds no `$$`
abbrev pub literal_in : Scope → Terminal
literal_in InStatement = Literal
literal_in InCondition = Literal
literal_in InCode = LiteralInCode

-- `column`, `table.column`
abbrev pub column_or_qualified : Bytes → Option Bytes → Expr
column_or_qualified first None = Column first
column_or_qualified first (Some second) = Qualified first second

-- `public`, `public.column`, `public.table.column`
abbrev pub column_of_public : Bytes → Option (Bytes × Option Bytes) → Expr
column_of_public first None = Column first
column_of_public first (Some (second, third)) = qualified first second third
  where
    qualified : Bytes → Bytes → Option Bytes → Expr
    qualified first second None = Qualified first second
    qualified first second (Some third) = Qualified second third

unfoldable pub behind_dot : Rule (Option Bytes)
behind_dot = optional (Sign Dot ∷ []) (sign Dot ▸ name)

unfoldable pub behind_public : Rule (Option (Bytes × Option Bytes))
behind_public = optional (Sign Dot ∷ []) (sign Dot ▸ Both (λ x y. (x, y)) name behind_dot)

unfoldable pub column : Rule Expr
column =
    Either (NameOf (codes "public") ∷ [])
    (Both column_of_public (Token (NameOf (codes "public")) text_of) behind_public)
    (Both column_or_qualified (Token (NameBut (codes "public")) text_of) behind_dot)

-- `TG_OP`
unfoldable pub operation_or_column : Rule Expr
operation_or_column = Either (Keyword (codes "tg_op") ∷ []) (says (codes "tg_op") Operation) column

-- `OLD.column`, `NEW.column`
unfoldable pub old_column : Rule Expr
old_column = word (codes "old") ▸ sign Dot ▸ mapped Old name

unfoldable pub new_column : Rule Expr
new_column = word (codes "new") ▸ sign Dot ▸ mapped New name

abbrev pub column_of_row_or : Rule Expr → Rule Expr
column_of_row_or others = Either (Keyword (codes "old") ∷ []) old_column (Either (Keyword (codes "new") ∷ []) new_column others)

-- what an expression may name
unfoldable pub named : Scope → Rule Expr
named InStatement = column
named InCondition = column_of_row_or column
named InCode = column_of_row_or operation_or_column

unfoldable pub word_or_named : Scope → Rule Expr
word_or_named scope =
    Either (Keyword (codes "null") ∷ []) (says (codes "null") (Constant Null))
    (Either (Keyword (codes "true") ∷ []) (says (codes "true") (Constant (Truth true)))
    (Either (Keyword (codes "false") ∷ []) (says (codes "false") (Constant (Truth false))) (named scope)))

-- an atom with no parentheses
unfoldable pub plain_atom : Scope → Rule Expr
plain_atom scope =
    Either (Number ∷ []) (Token Number (λ token. Constant (Int (pos (number_of token)))))
    (Either (literal_in scope ∷ []) (Token (literal_in scope) (λ token. Constant (Words (text_of token)))) (word_or_named scope))

unfoldable pub atom : Scope → Rule Expr
atom scope = Either (Sign OpenParen ∷ []) (in_parentheses (Call (Expression scope) (λ e. e))) (plain_atom scope)

-- as many of an operator before an operand
abbrev pub before : UnaryOperator → List (Unit {0}) → Expr → Expr
before operator [] e = e
before operator (first ∷ others) e = Unary operator (before operator others e)

-- operands behind a first one, from the left
abbrev pub from_left : {A : Type 0} → (Expr → A → Expr) → Expr → List A → Expr
from_left f e [] = e
from_left f e (x ∷ others) = from_left f (f e x) others

-- an operand with an operator and another operand behind it
abbrev pub with_right : BinaryOperator → Expr → Expr → Expr
with_right operator left right = Binary left operator right

unfoldable pub signed : Scope → Rule Expr
signed scope = Both (before Negate) (Many (Sign Minus ∷ []) [] (λ signs. signs) (sign Minus)) (atom scope)

unfoldable pub product : Scope → Rule Expr
product scope = Both (from_left (with_right Multiply)) (signed scope) (Many (Sign Times ∷ []) [] (λ others. others) (sign Times ▸ signed scope))

unfoldable pub sum_sign : Rule BinaryOperator
sum_sign = Either (Sign Plus ∷ []) (Token (Sign Plus) (λ token. Add)) (Token (Sign Minus) (λ token. Subtract))

abbrev pub with_operand : Expr → BinaryOperator × Expr → Expr
with_operand e (operator, right) = Binary e operator right

unfoldable pub summand : Scope → Rule (BinaryOperator × Expr)
summand scope = Both (λ operator right. (operator, right)) sum_sign (product scope)

unfoldable pub sum : Scope → Rule Expr
sum scope = Both (from_left with_operand) (product scope) (Many (Sign Plus ∷ Sign Minus ∷ []) [] (λ others. others) (summand scope))

abbrev pub comparison_signs : List Terminal
comparison_signs = Sign Equal ∷ Sign Unequal ∷ Sign Less ∷ Sign AtMost ∷ Sign Greater ∷ Sign AtLeast ∷ []

abbrev pub compares : Symbol → Comparison → Rule Comparison
compares symbol comparison = Token (Sign symbol) (λ token. comparison)

unfoldable pub comparison_sign : Rule Comparison
comparison_sign =
    Either (Sign Equal ∷ []) (compares Equal EqualTo) (Either (Sign Unequal ∷ []) (compares Unequal UnequalTo)
    (Either (Sign Less ∷ []) (compares Less LessThan) (Either (Sign AtMost ∷ []) (compares AtMost AtMostAs)
    (Either (Sign Greater ∷ []) (compares Greater GreaterThan) (compares AtLeast AtLeastAs)))))

abbrev pub compared : Expr → Option (Comparison × Expr) → Expr
compared e None = e
compared e (Some (comparison, right)) = Binary e (Compare comparison) right

unfoldable pub comparison : Scope → Rule Expr
comparison scope = Both compared (sum scope) (optional comparison_signs (Both (λ sign right. (sign, right)) comparison_sign (sum scope)))

-- NOT, or nothing
unfoldable pub negated : Rule Bool
negated = Either (Keyword (codes "not") ∷ []) (says (codes "not") true) (Done false)

-- with or without NOT, and what is distinct where it isn't NULL
abbrev pub tested : Expr → Bool × Option Expr → Expr
tested e (false, None) = Unary IsNull e
tested e (true, None) = Unary IsNotNull e
tested e (false, Some right) = Binary e IsDistinct right
tested e (true, Some right) = Binary e IsNotDistinct right

unfoldable pub null_or_distinct : Scope → Rule (Option Expr)
null_or_distinct scope =
    Either (Keyword (codes "null") ∷ []) (says (codes "null") None) (word (codes "distinct") ▸ word (codes "from") ▸ mapped Some (comparison scope))

unfoldable pub is_test : Scope → Rule (Bool × Option Expr)
is_test scope = word (codes "is") ▸ Both (λ negated right. (negated, right)) negated (null_or_distinct scope)

unfoldable pub test : Scope → Rule Expr
test scope = Both (from_left tested) (comparison scope) (Many (Keyword (codes "is") ∷ []) [] (λ others. others) (is_test scope))

unfoldable pub negation : Scope → Rule Expr
negation scope = Both (before Not) (Many (Keyword (codes "not") ∷ []) [] (λ words. words) (word (codes "not"))) (test scope)

unfoldable pub conjunction : Scope → Rule Expr
conjunction scope = Both (from_left (with_right And)) (negation scope) (Many (Keyword (codes "and") ∷ []) [] (λ others. others) (word (codes "and") ▸ negation scope))

unfoldable pub expression : Scope → Rule Expr
expression scope = Both (from_left (with_right Or)) (conjunction scope) (Many (Keyword (codes "or") ∷ []) [] (λ others. others) (word (codes "or") ▸ conjunction scope))

abbrev pub expression_limit : ℕ
expression_limit = 1000

-- a whole expression has 1,000 tokens at the most
unfoldable pub whole_expression : Scope → Rule Expr
whole_expression scope = Limited expression_limit (limit (codes "expression limit of 1000 tokens reached")) (Call (Expression scope) (λ e. e))
