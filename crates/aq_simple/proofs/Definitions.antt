-- How the reading of a setup goes on behind a statement.
use Rattle.std.proofs.Common.{◌≡◌, ℕ, ◌+◌, List, take, drop, Some, None, refl, add-one}
use Rattle.std.specs.List.{slice_get}
use Rattle.aq_base.specs.declared.script.Placed.{Placed}
use Rattle.aq_first_base.specs.declared.simple.SimplePlaced.{SimplePlaced}
use Rattle.aq_simple.specs.Conditions.{definition_kept}
use Rattle.aq_simple.specs.Forms.{simple_statements}
use Rattle.aq_simple.specs.Simple.{line_unless, line_not, is_simple_and, keeps_setup}
use Rattle.aq_simple.proofs.Lists.{take_one, drop_one}

-- a statement that keeps to the forms hands on to those after it
pub setup_goes_on : (n : ℕ) (setup : List Placed) (kept : List SimplePlaced) (placed : Placed) → slice_get setup n ≡ Some placed → simple_statements (take n setup) ≡ Some kept
    → line_unless (is_simple_and (definition_kept kept) placed) placed ≡ None
    → line_not keeps_setup (take n setup) (drop n setup) ≡ line_not keeps_setup (take (n + 1) setup) (drop (n + 1) setup)
setup_goes_on n setup kept placed at simple keeps = rw (add-one, drop_one n setup placed at, take_one n setup placed at, simple, keeps) refl
