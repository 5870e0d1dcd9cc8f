-- Lines of replies, as the definitions of the run have them.
use Rattle.aq_first_run.specs.States.{Given as Given_line}
use Rattle.aq_first_machine.specs.declared.replies.Given.{Given}

abbrev pub given_shown : Given → Given_line
given_shown given = record { session = given.session.0; statement = given.statement; line = given.line }
