use Rattle.std.proofs.Common.{◌≡◌, ◌∷◌, take}
use Rattle.std.specs.List.{flat_map}
use Rattle.aq_lex.specs.declared.token.Symbol.TheVariants.{Comma}
use Rattle.aq_texts.specs.Written.{Mark}
use Rattle.aq_print.specs.Printing.{put_all}
use Rattle.aq_print.proofs.lists.later_listed.Given as goal

abbrev pub invariant-loop-form : goal.invariant-loop-form
invariant-loop-form g l = l.printer ≡ put_all l.fn.printer (flat_map (λ form. Mark Comma ∷ g.T.Prints.tokens form) (take l.form-index l.forms))
