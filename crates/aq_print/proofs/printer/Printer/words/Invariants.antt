use Rattle.std.proofs.Common.{◌≡◌, take, map}
use Rattle.aq_texts.specs.Written.{Said}
use Rattle.aq_print.specs.Printing.{put_all}
use Rattle.aq_print.proofs.printer.Printer.words.Given as goal

abbrev pub invariant-loop-text : goal.invariant-loop-text
invariant-loop-text l = l.self ≡ put_all l.fn.self (map (λ text. Said text.now) (take l.text-index l.texts))
