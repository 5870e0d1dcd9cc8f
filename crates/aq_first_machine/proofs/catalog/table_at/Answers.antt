use Rattle.std.proofs.Common.{sym}
use Rattle.std.proofs.lemmas.Iterator.Adapters.{position_from-zero}
use Rattle.aq_base.specs.Names.{same_text}
use Rattle.aq_first_machine.proofs.catalog.table_at.Goals as goal

pub tables-init : goal.tables-init
tables-init c = sym (position_from-zero (λ table. same_text table.name c.args.name.now) c.args.tables.now)
