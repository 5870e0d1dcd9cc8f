use Rattle.aq_first_laws.proofs.Committed.{committed_databases_stand}
use Rattle.aq_first_laws.proofs.committed_databases_stand.Goals as goal

pub returns : goal.returns
returns c = committed_databases_stand
