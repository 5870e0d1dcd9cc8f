-- What a function returned, against what a definition gives.
use Rattle.std.specs.Prelude.{◌≡◌, ℕ, Option, Some, None, Result, Ok, Err}
use Rattle.aq_simple.specs.declared.fault.FormFault.{FormFault}
use Rattle.aq_simple.specs.declared.fault.FormFault.TheVariants.{NoMemory as Form_no_memory, NotSimple}
use Rattle.aq_simple.specs.declared.fault.SimpleFault.{SimpleFault}
use Rattle.aq_simple.specs.declared.fault.SimpleFault.TheVariants.{NoMemory, NotBuilt}

-- a fault but want of memory says that nothing is given
abbrev pub Fails : {Y : Type 0} → FormFault → Option Y → Type 0
Fails Form_no_memory given = Unit {0}
Fails NotSimple given = given ≡ None

-- what was returned is what is given, unless memory ran out
abbrev pub Gives : {X : Type 0} → Result X FormFault → Option X → Type 0
Gives (Ok x) given = given ≡ Some x
Gives (Err fault) given = Fails fault given

-- a fault but want of memory says the line that is found
abbrev pub FaultSays : SimpleFault → Option ℕ → Type 0
FaultSays NoMemory found = Unit {0}
FaultSays (NotBuilt line) found = found ≡ Some line

-- no line is found, or the fault says which
abbrev pub SaysLine : {X : Type 0} → Result X SimpleFault → Option ℕ → Type 0
SaysLine (Ok x) found = found ≡ None
SaysLine (Err fault) found = FaultSays fault found

-- a fact of the line that a fault says
abbrev pub IfNotBuilt : SimpleFault → (ℕ → Type 0) → Type 0
IfNotBuilt NoMemory P = Unit {0}
IfNotBuilt (NotBuilt line) P = P line
