use Rattle.std.proofs.Common.{◌≡◌, take}
use Rattle.std.specs.List.{flat_map}
use Rattle.aq_print.specs.Printing.{put_all}
use Rattle.aq_print.proofs.lists.one_by_one.Given as goal

abbrev pub invariant-loop-form : goal.invariant-loop-form
invariant-loop-form g l = l.printer ≡ put_all l.fn.printer (flat_map g.T.Prints.tokens (take l.form-index l.forms))
