-- What a statement is at its place, and changes as statements.
use Rattle.aq_base.specs.declared.statement.Statement.{Statement}
use Rattle.aq_base.specs.declared.statement.Statement.TheVariants.{Insert, Update, Delete, Select, SetConstraints}
use Rattle.aq_grammar.specs.declared.scope.Scope.TheVariants.{InStatement}
use Rattle.aq_grammar.specs.Rules.{Rule}
use Rattle.aq_grammar.specs.Forms.{mapped}
use Rattle.aq_grammar.specs.Changes.{insert, update, delete, select, set_constraints}
use Rattle.aq_grammar.specs.Statements.{setup_statement, session_statement}
use Rattle.aq_parse.specs.declared.statements.Place.{Place}
use Rattle.aq_parse.specs.declared.statements.Place.TheVariants.{Setup, Session}

abbrev pub insert_statement : Rule Statement
insert_statement = mapped Insert (insert InStatement)

abbrev pub update_statement : Rule Statement
update_statement = mapped Update (update InStatement)

abbrev pub delete_statement : Rule Statement
delete_statement = mapped Delete (delete InStatement)

abbrev pub select_statement : Rule Statement
select_statement = mapped Select (select InStatement)

abbrev pub set_statement : Rule Statement
set_statement = mapped SetConstraints set_constraints

-- the rule of the statements at a place
abbrev pub statement_of : Place → Rule Statement
statement_of Setup = setup_statement
statement_of Session = session_statement
