-- A fault of an operand comes before those of its operator and of the operand behind it.
use Rattle.std.proofs.Common.{◌≡◌, List, ◌++◌, [], Some, sym, ap, ◌∙◌, subst, Option}
use Rattle.std.specs.Prelude.{Result}
use Rattle.aq_base.specs.Names.{Text}
use Rattle.aq_base.specs.declared.fault.SqlFault.{SqlFault}
use Rattle.aq_base.specs.declared.script.Kind.{Kind}
use Rattle.aq_base.specs.declared.expr.UnaryOperator.{UnaryOperator}
use Rattle.aq_base.specs.declared.expr.BinaryOperator.{BinaryOperator}
use Rattle.aq_base.specs.declared.expr.Expr.{Expr, fold-roll-Expr}
use Rattle.aq_base.specs.declared.expr.Expr.TheVariants.{Unary, Binary, rolls-Unary}
use Rattle.aq_setup.specs.Scopes.{Scope}
use Rattle.aq_setup.specs.Kinds.{Kinded, unary_faults, unary_kind, argument_faults, kinded, kinded_step}
use Rattle.aq_setup.proofs.Expressions.{binary_kinded}
use Rattle.aq_refusals.specs.declared.fault.CatFault.{CatFault}
use Rattle.aq_refusals.specs.Answers.{IsFault, Tells}
use Rattle.aq_refusals.proofs.Telling.{first_stays}

behind_none : (front behind : List SqlFault) (e : CatFault) → front ≡ [] → IsFault behind e → IsFault (front ++ behind) e
behind_none front behind e none told = rw none told

unary_kinded : (scope : Scope) (operator : UnaryOperator) (a : Expr)
    → kinded scope (Unary operator a)
    ≡ record { kind = Some (unary_kind operator); faults = (kinded scope a).faults ++ unary_faults operator (kinded scope a).kind }
unary_kinded scope operator a = ap (kinded scope) (sym (rolls-Unary operator a)) ∙ fold-roll-Expr Kinded (kinded_step scope) _

pub first_of_unary : (scope : Scope) (operator : UnaryOperator) (a : Expr) (fault : CatFault)
    → IsFault (kinded scope a).faults fault → IsFault (kinded scope (Unary operator a)).faults fault
first_of_unary scope operator a fault told = rw (unary_kinded scope operator a) (first_stays _ _ fault told)

pub first_of_binary : (scope : Scope) (a : Expr) (operator : BinaryOperator) (b : Expr) (fault : CatFault)
    → IsFault (kinded scope a).faults fault → IsFault (kinded scope (Binary a operator b)).faults fault
first_of_binary scope a operator b fault told = rw (binary_kinded scope a operator b) (first_stays _ _ fault told)

pub second_of_binary : (scope : Scope) (a : Expr) (operator : BinaryOperator) (b : Expr) (fault : CatFault)
    → (kinded scope a).faults ≡ [] → IsFault (kinded scope b).faults fault → IsFault (kinded scope (Binary a operator b)).faults fault
second_of_binary scope a operator b fault none told =
    rw (binary_kinded scope a operator b) (behind_none _ _ fault none (first_stays _ _ fault told))

-- the argument of a clause, whose own faults come first
pub argument_told : {T : Type 0} (word : Text) (k : Kinded) (kind : Option Kind) (result : Result T CatFault) → k.faults ≡ [] → kind ≡ k.kind
    → Tells (argument_faults word kind) result → Tells (k.faults ++ argument_faults word k.kind) result
argument_told word k kind result none is told =
    subst (λ (faults : List SqlFault). Tells (faults ++ argument_faults word k.kind) result) (sym none)
    (subst (λ (found : Option Kind). Tells (argument_faults word found) result) is told)
