-- A statement is refused with the first of its faults, and bound where it has none.
use Rattle.std.proofs.Common.{◌≡◌, List, [], ap}
use Rattle.std.specs.Prelude.{Result, Ok}
use Rattle.aq_base.specs.declared.fault.SqlFault.{SqlFault}
use Rattle.aq_setup.specs.Binding.{unless_faulty}
use Rattle.aq_refusals.specs.declared.fault.CatFault.{CatFault}
use Rattle.aq_refusals.specs.declared.fault.CatFault.TheVariants.{NoMemory, Sql}
use Rattle.aq_refusals.specs.Answers.{IsFault, IsRefusal}

pub fault_refused : {T : Type 0} (faults : List SqlFault) (x : T) (e : CatFault) → IsFault faults e → IsRefusal (unless_faulty faults x) e
unfolding IsFault IsRefusal
fault_refused faults x (Sql fault) told = ap (λ (found : List SqlFault). unless_faulty found x) told.1
fault_refused faults x NoMemory told = tt

pub memory_refused : {T : Type 0} (answer : Result T SqlFault) → IsRefusal answer NoMemory
unfolding IsRefusal
memory_refused answer = tt

pub none_refused : {T : Type 0} (faults : List SqlFault) (x : T) → faults ≡ [] → unless_faulty faults x ≡ Ok x
none_refused faults x none = ap (λ (found : List SqlFault). unless_faulty found x) none
