use Rattle.aq_lex.proofs.Running.{found_within}
use Rattle.aq_lex.proofs.scan.piece_at.Goals as goal

pub returns-clause-within : goal.returns-clause-within
returns-clause-within c = found_within c.args.is_first c.args.bytes.now c.found_at.result c.found_at.ensures
