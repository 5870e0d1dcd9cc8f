use Rattle.std.proofs.Common.{◌||◌, ap, ◌∙◌}
use Rattle.std.specs.List.{list_any}
use Rattle.aq_base.specs.Names.{same_text}
use Rattle.aq_additions.proofs.Repeats.{added_to}
use Rattle.aq_additions.proofs.name_set.NameSet.add.Goals as goal

pub returns : goal.returns
returns c = λ q.
    c.in_ok-insert.ensures.updates.0 q
    ∙ added_to c.in_ok-copy.field-0 q (list_any (same_text q) c.self.inside.names.keys)
    ∙ ap (λ name. same_text q name || list_any (same_text q) c.self.inside.names.keys) c.in_ok-copy.ensures
    ∙ ap (λ names. same_text q c.args.name.now || list_any (same_text q) names) c.self.view_is
