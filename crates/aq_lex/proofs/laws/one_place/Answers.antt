use Rattle.aq_lex.proofs.Once.{refused_once, refused_within}
use Rattle.aq_lex.proofs.laws.one_place.Goals as goal

pub returns-clause-once : goal.returns-clause-once
returns-clause-once c = refused_once

pub returns-clause-within : goal.returns-clause-within
returns-clause-within c = refused_within
