-- The names in expressions with two operands.
use Rattle.std.proofs.Common.{◌≡◌, List, [], map, sym, ap, subst, ◌∙◌}
use Rattle.std.specs.Prelude.{Result}
use Rattle.aq_base.specs.Names.{Text}
use Rattle.aq_base.specs.declared.fault.SqlFault.{SqlFault}
use Rattle.aq_base.specs.declared.expr.BinaryOperator.{BinaryOperator}
use Rattle.aq_base.specs.declared.expr.Expr.{Expr}
use Rattle.aq_base.specs.declared.expr.Expr.TheVariants.{Binary}
use Rattle.aq_setup.specs.Scopes.{Scope}
use Rattle.aq_setup.specs.Names.{unknown_columns, expression_names}
use Rattle.aq_setup.proofs.Expressions.{binary_names}
use Rattle.aq_refusals.specs.Faults.{no_column}
use Rattle.aq_refusals.specs.declared.fault.CatFault.{CatFault}
use Rattle.aq_refusals.specs.Answers.{IsFault, Tells}
use Rattle.aq_binder.proofs.NamePairs.{mapped_first_stays, mapped_behind}

pub left_told : (scope : Scope) (e a : Expr) (operator : BinaryOperator) (b : Expr) (fault : CatFault)
    → e ≡ Binary a operator b → IsFault (expression_names scope a) fault → IsFault (expression_names scope e) fault
left_told scope e a operator b fault is told =
    subst (λ (l : List Text). IsFault (map no_column l) fault) (sym (ap (unknown_columns scope) is ∙ binary_names scope a operator b))
    (mapped_first_stays no_column _ (unknown_columns scope b) fault told)

right_alone : (scope : Scope) (e a : Expr) (operator : BinaryOperator) (b : Expr)
    → e ≡ Binary a operator b → expression_names scope a ≡ [] → expression_names scope e ≡ expression_names scope b
right_alone scope e a operator b is none =
    ap (λ (l : List Text). map no_column l) (ap (unknown_columns scope) is ∙ binary_names scope a operator b)
    ∙ mapped_behind no_column (unknown_columns scope a) (unknown_columns scope b) none

pub right_told : {T : Type 0} (scope : Scope) (e a : Expr) (operator : BinaryOperator) (b : Expr) (result : Result T CatFault)
    → e ≡ Binary a operator b → expression_names scope a ≡ [] → Tells (expression_names scope b) result → Tells (expression_names scope e) result
right_told scope e a operator b result is none told =
    subst (λ (l : List SqlFault). Tells l result) (sym (right_alone scope e a operator b is none)) told
