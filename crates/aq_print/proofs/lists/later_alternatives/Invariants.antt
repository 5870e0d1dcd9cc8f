use Rattle.std.proofs.Common.{◌≡◌, ◌∷◌, take, codes}
use Rattle.std.specs.List.{flat_map}
use Rattle.aq_texts.specs.Written.{say}
use Rattle.aq_print.specs.Printing.{put_all}
use Rattle.aq_print.proofs.lists.later_alternatives.Given as goal

abbrev pub invariant-loop-form : goal.invariant-loop-form
invariant-loop-form g l = l.printer ≡ put_all l.fn.printer (flat_map (λ form. say (codes "OR") ∷ g.T.Prints.tokens form) (take l.form-index l.forms))
