use Rattle.std.proofs.Common.{sym, ap, ◌∙◌}
use Rattle.std.specs.Option.{option_copied}
use Rattle.aq_setup.specs.Scopes.{repeats_behind}
use Rattle.aq_refusals.specs.Faults.{column_twice}
use Rattle.aq_additions.proofs.Repeats.{first_again}
use Rattle.aq_additions.proofs.twice.columns_twice.Goals as goal

pub returns-in-Some : goal.returns-in-Some
returns-in-Some c = (
  tt,
  first_again column_twice (repeats_behind c.args.before.now c.args.names.now) c.in-Some.name.now c.column_twice.result (sym (ap option_copied c.in-Some.is) ∙ c.in_ok-first_repeat.ensures) c.column_twice.ensures,
)
