use Rattle.std.proofs.lemmas.Result.{IfOk-weaker}
use Rattle.aq_grammar.specs.Reading.{Syntax, Refused}
use Rattle.aq_script.proofs.RefusedLines.{place_found}
use Rattle.aq_script.proofs.reading.place_of.Goals as goal

pub returns-in-Syntax : goal.returns-in-Syntax
returns-in-Syntax c =
    let stops = rw c.in-Syntax.is at c.requires in
    IfOk-weaker c.refused_place.result _ _ (λ found is. place_found c.args.tokens.now stops.0 Syntax c.in-Syntax.left found stops.1 stops.2 is) c.refused_place.ensures

pub returns-in-Refused : goal.returns-in-Refused
returns-in-Refused c =
    let stops = rw c.in-Refused.is at c.requires in
    IfOk-weaker c.refused_place-in-Refused.result _ _
    (λ found is. place_found c.args.tokens.now stops.0 (Refused c.in-Refused.fault) c.in-Refused.left found stops.1 stops.2 is) c.refused_place-in-Refused.ensures
