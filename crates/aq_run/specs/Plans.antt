-- What a step is to do.
use Rattle.std.specs.Prelude.{List}
use Rattle.aq_base.specs.Blockers.{Ask}
use Rattle.aq_base.specs.declared.fault.SqlFault.{SqlFault}
use Rattle.aq_run.specs.Faults.{Fault, plain}
use Rattle.aq_run.specs.Effects.{Effect}

pub data Plan : Type 0 where
  Does_all : (effects : List Effect) → Plan
  -- somebody stands in the way
  Would_wait : (ask : Ask) → Plan
  -- what comes before the fault is done
  Fails : (before : List Effect) → (fault : Fault) → Plan

abbrev pub refused : List Effect → SqlFault → Plan
refused before fault = Fails before (plain fault)
