use Rattle.std.proofs.Common.{[]}
use Rattle.std.proofs.lemmas.Result.{IfOk-weaker}
use Rattle.aq_script.proofs.RefusedLines.{place_at_end}
use Rattle.aq_script.proofs.reading.place_before.Goals as goal

pub returns-in-Ok : goal.returns-in-Ok
returns-in-Ok c =
    IfOk-weaker c.refused_place.result _ _ (λ found is. place_at_end c.args.tokens.now [] c.in-Ok.field-0 found c.in-Ok.ensures.read is) c.refused_place.ensures
