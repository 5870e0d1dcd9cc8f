use Rattle.std.proofs.Common.{ap, sym, ◌∙◌}
use Rattle.aq_base.specs.declared.catalog.Op.{Op}
use Rattle.aq_base.specs.declared.catalog.Op.TheVariants as ops
use Rattle.std.proofs.Common.{◌≡◌, [], refl}
use Rattle.aq_catalog.specs.Listed.{listed_on, nothing_listed}
use Rattle.aq_catalog.proofs.Rows.{listed_at-found, listed_at-none}
use Rattle.aq_catalog.proofs.of_tables.triggers.Goals as goal

no_triggers : (op : Op) → [] ≡ listed_on op nothing_listed
no_triggers ops.Insert = refl
no_triggers ops.Update = refl
no_triggers ops.Delete = refl

pub returns-in-None : goal.returns-in-None
returns-in-None c = no_triggers c.args.op ∙ ap (listed_on c.args.op) (listed_at-none c.args.rows.now c.args.table (sym c.in-None.ensures))

pub returns-in-Some : goal.returns-in-Some
returns-in-Some c = c.triggers.ensures ∙ ap (listed_on c.args.op) (listed_at-found c.args.rows.now c.args.table c.in-Some.row.now (sym c.in-Some.ensures))
