use Rattle.std.proofs.Common.{◌==◌, ◌&&◌, ℕ, List, Option, sym, ap, ◌∙◌}
use Rattle.std.specs.List.{list_any}
use Rattle.aq_base.specs.Names.{same_text}
use Rattle.aq_base.specs.declared.catalog.Trigger.{Trigger}
use Rattle.aq_setup.specs.Triggers.{triggers_taken}
use Rattle.aq_catalog.proofs.FirstFound.{any_of_images}
use Rattle.aq_triggers.proofs.trigger_faults.trigger_taken.Goals as goal

pub returns-in-Some : goal.returns-in-Some
returns-in-Some c =
    let name = c.args.name.now in
    let table = c.in-Some.table in
    c.has_trigger.ensures ∙ ap (λ (made : List Trigger). list_any (λ x. x.table == table && same_text name x.name) made) c.all_triggers.ensures
    ∙ sym (any_of_images (same_text name) (λ (x : Trigger). x.name) (λ (x : Trigger). x.table == table) c.args.catalog.now.triggers)
    ∙ ap (λ (at : Option ℕ). list_any (same_text name) (triggers_taken c.args.catalog.now at)) (sym c.in-Some.is)
