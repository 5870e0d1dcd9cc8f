use Rattle.std.proofs.Common.{ap, sym, ◌∙◌, slice_get}
use Rattle.aq_base.specs.Names.{same_text}
use Rattle.aq_catalog.specs.Catalogs as catalogs
use Rattle.aq_catalog.proofs.Places.{found_first, found_none}
use Rattle.aq_catalog.proofs.catalog.Catalog.function.Goals as goal

pub returns-in-None : goal.returns-in-None
returns-in-None c =
    let name = c.args.name.now in
    sym (found_none (λ f. same_text f.name name) c.self.inside.functions.items (ap (λ l. slice_get l 0) (sym (c.self.invariant.2 name)) ∙ sym c.in-None.ensures))
    ∙ ap (λ cat. catalogs.function_named cat name) c.self.view_is

pub returns-in-Some : goal.returns-in-Some
returns-in-Some c =
    let name = c.args.name.now in
    let functions = c.self.inside.functions.items in
    c.function_at.ensures
    ∙ (ap (λ l. slice_get l c.from.result) c.as_slice.ensures.value
    ∙ (ap (slice_get functions) c.from.ensures
    ∙ (found_first (λ f. same_text f.name name) functions c.in-Some.place (ap (λ l. slice_get l 0) (sym (c.self.invariant.2 name)) ∙ sym c.in-Some.ensures)
    ∙ ap (λ cat. catalogs.function_named cat name) c.self.view_is)))
