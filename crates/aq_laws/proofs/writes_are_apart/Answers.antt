use Rattle.aq_laws.proofs.Written_works.{writes_apart}
use Rattle.aq_laws.proofs.writes_are_apart.Goals as goal

pub returns : goal.returns
returns c = writes_apart
