use Rattle.aq_laws.proofs.Commits.{commits_are_numbered}
use Rattle.aq_laws.proofs.commits_are_numbered.Goals as goal

pub returns : goal.returns
returns c = commits_are_numbered
