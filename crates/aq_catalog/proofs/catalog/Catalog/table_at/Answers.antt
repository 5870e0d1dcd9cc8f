use Rattle.std.proofs.Common.{ap, ◌∙◌, slice_get, Some}
use Rattle.aq_base.specs.Names.{same_text}
use Rattle.aq_catalog.specs.Catalogs as catalogs
use Rattle.aq_catalog.proofs.Places.{first_place}
use Rattle.aq_catalog.proofs.catalog.Catalog.table_at.Goals as goal

pub returns-in-None : goal.returns-in-None
returns-in-None c =
    let name = c.args.name.now in
    c.in-None.ensures
    ∙ (ap (λ l. slice_get l 0) (c.self.invariant.3 name)
    ∙ (first_place (λ t. same_text t.name name) c.self.inside.tables.items
    ∙ ap (λ cat. catalogs.table_number cat name) c.self.view_is))

pub returns-in-Some : goal.returns-in-Some
returns-in-Some c =
    let name = c.args.name.now in
    ap Some c.from.ensures
    ∙ (c.in-Some.ensures
    ∙ (ap (λ l. slice_get l 0) (c.self.invariant.3 name)
    ∙ (first_place (λ t. same_text t.name name) c.self.inside.tables.items
    ∙ ap (λ cat. catalogs.table_number cat name) c.self.view_is)))
