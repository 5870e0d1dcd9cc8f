use Rattle.aq_laws.proofs.Written_works.{rows_held}
use Rattle.aq_laws.proofs.written_rows_are_held.Goals as goal

pub returns : goal.returns
returns c = rows_held
