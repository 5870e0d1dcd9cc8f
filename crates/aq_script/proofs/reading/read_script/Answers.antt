use Rattle.std.proofs.lemmas.Result.{IfErr-weaker}
use Rattle.aq_script.proofs.OneLine.{no_reading}
use Rattle.aq_script.proofs.reading.read_script.Goals as goal

pub returns-in-Ok-clause-none : goal.returns-in-Ok-clause-none
returns-in-Ok-clause-none c = IfErr-weaker c.read_tokens.result _ _ (no_reading c.args.bytes.now) c.read_tokens.ensures.refused
