use Rattle.aq_setup.specs.Kinds.{kinded}
use Rattle.aq_binder.proofs.KindForms.{argument_told}
use Rattle.aq_binder.proofs.kinds.boolean_kinds.Goals as goal

pub returns : goal.returns
returns c =
    argument_told c.args.word.now (kinded c.args.scope.now c.args.e.now) _ _ c.in_ok-kind.ensures.0.0 c.in_ok-kind.ensures.0.1 c.argument.ensures
