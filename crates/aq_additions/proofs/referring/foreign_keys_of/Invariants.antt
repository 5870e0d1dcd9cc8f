use Rattle.std.proofs.Common.{◌≡◌, take}
use Rattle.std.specs.List.{flat_map}
use Rattle.aq_setup.specs.Tables.{referring_of}
use Rattle.aq_additions.proofs.referring.foreign_keys_of.Given as goal

abbrev pub invariant-loop-n : goal.invariant-loop-n
invariant-loop-n l = l.made ≡ flat_map referring_of (take l.n-index l.constraints)
