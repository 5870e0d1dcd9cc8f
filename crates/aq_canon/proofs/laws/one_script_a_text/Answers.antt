use Rattle.aq_canon.proofs.Canonical as proved
use Rattle.aq_canon.proofs.laws.one_script_a_text.Goals as goal

pub returns : goal.returns
returns c = proved.one_script_of
