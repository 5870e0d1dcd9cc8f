use Rattle.std.proofs.Common.{◌≡◌, length}
use Rattle.aq_waits.specs.Edges.{AreLayers}
use Rattle.aq_waits.proofs.layers.layers_to.Given as goal

abbrev pub invariant-loop-n : goal.invariant-loop-n
invariant-loop-n l = record { long : length l.layers ≡ 16; are : AreLayers l.edges l.goal.0 l.layers l.n }
