use Rattle.std.proofs.Common.{List, ◌++◌, Option, ap, sym, ◌∙◌}
use Rattle.aq_base.specs.Names.{Text}
use Rattle.aq_base.specs.declared.script.Kind.{Kind}
use Rattle.aq_base.specs.declared.expr.Expr.{Expr}
use Rattle.aq_setup.specs.Scopes.{Scope}
use Rattle.aq_setup.specs.Kinds.{query_kinds, where_kinds, source_kinds}
use Rattle.aq_binder.specs.Targets.{targets_of}
use Rattle.aq_refusals.proofs.Telling.{same_told}
use Rattle.aq_binder.proofs.kinds.source_kinds.Goals as goal

pub returns-in-Query : goal.returns-in-Query
returns-in-Query g c =
    let into : List (Text × Option Kind) = targets_of g.T.Target.named (g.T.Target.wanted c.args.cols.now) c.args.into.now in
    same_told _ _ _
    (ap (λ (found : List Expr). query_kinds c.query_scope.result into found ++ where_kinds c.query_scope.result c.in-Query.condition) c.as_slice-in-Query.ensures
    ∙ ap (λ (scope : Scope). query_kinds scope into c.in-Query.values ++ where_kinds scope c.in-Query.condition) c.query_scope.ensures
    ∙ ap (source_kinds c.args.setting.now into) (sym c.in-Query.is)) c.chosen_kinds.ensures
