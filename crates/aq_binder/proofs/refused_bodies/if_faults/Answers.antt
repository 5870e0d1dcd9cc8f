use Rattle.std.proofs.Common.{ap, ◌∙◌, codes}
use Rattle.aq_setup.specs.Scopes.{Setting, Scope, no_row}
use Rattle.aq_setup.specs.Binding.{condition_faults}
use Rattle.aq_refusals.proofs.Telling.{same_told}
use Rattle.aq_binder.proofs.refused_bodies.if_faults.Goals as goal

pub returns : goal.returns
returns c =
    same_told _ _ _
    (ap (λ (scope : Scope). condition_faults (codes "IF") scope c.args.e.now) (c.no_row.ensures ∙ ap (λ (s : Setting). no_row s.changed) c.setting.view_is))
    c.condition_faults.ensures
