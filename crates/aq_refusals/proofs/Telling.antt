-- The first fault of lists that stand one behind the other.
use Rattle.std.proofs.Common.{◌≡◌, refl, ap, subst, List, ◌∷◌, ◌++◌}
use Rattle.std.specs.Prelude.{Result}
use Rattle.aq_base.specs.declared.fault.SqlFault.{SqlFault}
use Rattle.aq_refusals.specs.declared.fault.CatFault.{CatFault}
use Rattle.aq_refusals.specs.declared.fault.CatFault.TheVariants.{NoMemory, Sql}
use Rattle.aq_refusals.specs.Answers.{IsFault, Tells}

pub first_stays : (front behind : List SqlFault) (e : CatFault) → IsFault front e → IsFault (front ++ behind) e
unfolding IsFault
first_stays front behind (Sql fault) first = (first.0 ++ behind, ap (λ l. l ++ behind) first.1)
first_stays front behind NoMemory first = tt

pub memory_ran_out : (faults : List SqlFault) → IsFault faults NoMemory
unfolding IsFault
memory_ran_out faults = tt

pub fault_is_told : (fault : SqlFault) (others : List SqlFault) → IsFault (fault ∷ others) (Sql fault)
unfolding IsFault
fault_is_told fault others = (others, refl)

-- the same faults are told
pub same_told : {T : Type 0} (faults others : List SqlFault) (result : Result T CatFault) → faults ≡ others → Tells faults result → Tells others result
same_told faults others result same told = subst (λ (l : List SqlFault). Tells l result) same told
