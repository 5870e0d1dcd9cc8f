use Rattle.std.proofs.Common.{◌≡◌, [], drop, fold}
use Rattle.aq_setup.specs.References.{with_number}
use Rattle.aq_additions.proofs.set_columns.each_once.Given as goal

abbrev pub invariant-loop-number : goal.invariant-loop-number
invariant-loop-number l = fold with_number l.made (drop l.number-index l.numbers) ≡ fold with_number [] l.numbers
