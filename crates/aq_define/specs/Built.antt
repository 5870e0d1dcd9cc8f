-- Why the setup of a script is refused.
use Rattle.std.specs.Prelude.{ℕ, ◌≡◌, Result, Err}
use Rattle.aq_base.specs.declared.fault.SqlFault.{SqlFault}
use Rattle.aq_catalog.specs.Catalogs.{Catalog}
use Rattle.aq_setup.specs.Setup.{RefusedSetup}
use Rattle.aq_refusals.specs.declared.fault.CatFault.{CatFault}
use Rattle.aq_refusals.specs.declared.fault.CatFault.TheVariants as told
use Rattle.aq_define.specs.declared.building.BuildFault.{BuildFault}
use Rattle.aq_define.specs.declared.building.BuildFault.TheVariants.{NoMemory, Setup}

-- the fault of a statement with its line
abbrev pub IsAtLine : ℕ → CatFault → BuildFault → Type 0
IsAtLine line told.NoMemory e = e ≡ NoMemory
IsAtLine line (told.Sql fault) e = e ≡ Setup line fault

-- the refusal that the definition says; memory may run out
unfoldable pub IsSetupFault : Result Catalog RefusedSetup → BuildFault → Type 0
IsSetupFault answer NoMemory = Unit {0}
IsSetupFault answer (Setup line fault) = answer ≡ Err (record { line = line; fault = fault })

-- the refusal of a statement, with its line; memory may run out
unfoldable pub IsRefusedAt : Result Catalog SqlFault → ℕ → BuildFault → Type 0
IsRefusedAt answer line NoMemory = Unit {0}
IsRefusedAt answer line (Setup at fault) = (answer ≡ Err fault) × (at ≡ line)
