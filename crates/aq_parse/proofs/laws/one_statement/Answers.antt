use Rattle.aq_parse.proofs.StatementFits.{statement_fits}
use Rattle.aq_parse.proofs.ParsedAt.{one_parsed}
use Rattle.aq_parse.specs.Statements.{statement_of}
use Rattle.aq_parse.proofs.laws.one_statement.Goals as goal

pub returns : goal.returns
returns c = λ place. one_parsed (statement_of place) (statement_fits place)
