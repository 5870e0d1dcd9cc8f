-- What a call that evaluates an expression returns.
use Rattle.std.specs.Prelude.{◌≡◌, Result, Ok, Err}
use Rattle.aq_base.specs.declared.script.Kind.{Kind}
use Rattle.aq_expr.specs.declared.fault.EvalFault.{EvalFault}
use Rattle.aq_expr.specs.declared.fault.EvalFault.TheVariants.{NoMemory, OutOfRange}

-- an answer, as a call returns it
abbrev pub answered : {T : Type 0} → Result T Kind → Result T EvalFault
answered (Ok value) = Ok value
answered (Err kind) = Err (OutOfRange kind)

-- a call returned the answer, or memory ran out
abbrev pub IsAnswer : {T : Type 0} → Result T EvalFault → Result T Kind → Type 0
IsAnswer (Ok value) answer = answer ≡ Ok value
IsAnswer (Err (OutOfRange kind)) answer = answer ≡ Err kind
IsAnswer (Err NoMemory) answer = Unit {0}
