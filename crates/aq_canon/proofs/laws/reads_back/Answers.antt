use Rattle.aq_canon.proofs.Canonical as proved
use Rattle.aq_canon.proofs.laws.reads_back.Goals as goal

pub returns : goal.returns
returns c = proved.reads_back
