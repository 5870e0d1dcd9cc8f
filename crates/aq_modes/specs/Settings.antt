-- The settings of a transaction's constraints, with those that it has saved.
use Rattle.std.specs.Prelude.{ℕ, ◌+◌, List, [], ◌∷◌, ◌++◌, take, slice_get, unwrap_or}
use Rattle.aq_base.specs.ConstraintModes.{Modes}

pub record Settings : Type 0 where
  pub modes : Modes
  -- the oldest first: a mark is a place among them
  pub saved : List Modes

abbrev pub saving : Settings → Settings
saving settings = record settings { saved = settings.saved ++ settings.modes ∷ [] }

abbrev pub saved_at : ℕ → Settings → Modes
saved_at mark settings = unwrap_or (slice_get settings.saved mark) settings.modes

-- the settings at a mark; those saved later are dropped
abbrev pub returned : ℕ → Settings → Settings
returned mark settings = record { modes = saved_at mark settings; saved = take (mark + 1) settings.saved }
