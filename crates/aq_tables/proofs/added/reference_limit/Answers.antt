use Rattle.std.proofs.Common.{sym, ◌∙◌}
use Rattle.aq_tables.proofs.added.reference_limit.Goals as goal

pub returns-else-is_within : goal.returns-else-is_within
returns-else-is_within c = (tt, rw (sym c.is_within.ensures ∙ c.if-is_within.false) c.over_limit.ensures)
