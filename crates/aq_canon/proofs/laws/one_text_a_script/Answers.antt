use Rattle.aq_canon.proofs.Alike as proved
use Rattle.aq_canon.proofs.laws.one_text_a_script.Goals as goal

pub returns : goal.returns
returns c = proved.one_text
