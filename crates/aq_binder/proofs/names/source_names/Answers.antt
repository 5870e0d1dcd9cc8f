use Rattle.std.proofs.Common.{subst, sym}
use Rattle.aq_base.specs.declared.data.Source.{Source}
use Rattle.aq_setup.specs.Names.{source_names}
use Rattle.aq_refusals.specs.Answers.{Tells}
use Rattle.aq_binder.proofs.names.source_names.Goals as goal

pub returns-in-Query : goal.returns-in-Query
returns-in-Query c = subst (λ (s : Source). Tells (source_names c.args.setting.now s) c.query_names.result) (sym c.in-Query.is) c.query_names.ensures
