-- What a call returns that looks for faults.
use Rattle.std.specs.Prelude.{◌≡◌, List, [], ◌∷◌, Result, Ok, Err, IfOk, IfErr, OnOk}
use Rattle.aq_base.specs.declared.fault.SqlFault.{SqlFault}
use Rattle.aq_refusals.specs.declared.fault.CatFault.{CatFault}
use Rattle.aq_refusals.specs.declared.fault.CatFault.TheVariants.{NoMemory, Sql}

-- the fault is the first of those in a list
abbrev pub IsFirst : SqlFault → List SqlFault → Type 0
IsFirst fault faults = (others : List SqlFault) × (faults ≡ fault ∷ others)

-- the first of the faults is told; memory may run out
unfoldable pub IsFault : List SqlFault → CatFault → Type 0
IsFault faults (Sql fault) = IsFirst fault faults
IsFault faults NoMemory = Unit {0}

-- nothing where there is no fault, else the first one
abbrev pub Tells : {T : Type 0} → List SqlFault → Result T CatFault → Type 0
Tells faults result = OnOk result (faults ≡ []) × IfErr result (IsFault faults)

-- a value where there is no fault, else the first fault
abbrev pub Gives : {T : Type 0} → List SqlFault → T → Result T CatFault → Type 0
Gives faults value result = IfOk result (λ made. (faults ≡ []) × (made ≡ value)) × IfErr result (IsFault faults)

-- the fault of a refusal is told; memory may run out
unfoldable pub IsRefusal : {T : Type 0} → Result T SqlFault → CatFault → Type 0
IsRefusal answer (Sql fault) = answer ≡ Err fault
IsRefusal answer NoMemory = Unit {0}

-- the answer of a definition
abbrev pub IsAnswer : {T : Type 0} → Result T SqlFault → Result T CatFault → Type 0
IsAnswer answer result = IfOk result (λ made. answer ≡ Ok made) × IfErr result (IsRefusal answer)
