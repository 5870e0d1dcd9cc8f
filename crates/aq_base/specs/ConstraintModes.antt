-- When the events of a constraint fire, as a transaction has set it (PostgreSQL manual, page SET CONSTRAINTS).
use Rattle.std.specs.Prelude.{ℕ, Bool, ◌&&◌, List, [], ◌∷◌, Option, Some, None, unwrap_or}
use Rattle.aq_base.specs.Maps.{at, with_at}
use Rattle.aq_base.specs.declared.catalog.Decl.{Decl}

-- true stands for deferred
pub record Modes : Type 0 where
  -- the setting of ALL, if there is one
  pub all : Option Bool
  -- those of single constraints, by their numbers
  pub own : List (ℕ × Bool)

abbrev pub no_modes : Modes
no_modes = record { all = None; own = [] }

-- its own setting, else that of ALL, else its declaration
abbrev pub setting_of : Modes → ℕ → Decl → Bool
setting_of modes con decl = unwrap_or (at con modes.own) (unwrap_or modes.all decl.deferred)

-- a constraint that is not deferrable is always immediate
abbrev pub is_deferred_mode : Modes → ℕ → Decl → Bool
is_deferred_mode modes con decl = decl.deferrable && setting_of modes con decl

-- ALL drops the settings of single constraints
abbrev pub with_all : Bool → Modes → Modes
with_all deferred modes = record { all = Some deferred; own = [] }

abbrev pub with_some : List ℕ → Bool → Modes → Modes
with_some [] deferred modes = modes
with_some (con ∷ cons) deferred modes = with_some cons deferred (record modes { own = with_at con deferred modes.own })

-- none stands for ALL
abbrev pub with_modes : Option (List ℕ) → Bool → Modes → Modes
with_modes None deferred modes = with_all deferred modes
with_modes (Some cons) deferred modes = with_some cons deferred modes
