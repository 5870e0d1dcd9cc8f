use Rattle.std.proofs.Common.{find, ap, ◌∙◌}
use Rattle.aq_catalog.specs.Catalogs.{constraints_named}
use Rattle.aq_catalog.specs.Numbered.{is_of}
use Rattle.aq_catalog.proofs.catalog.Catalog.place_in.Goals as goal

pub returns : goal.returns
returns c =
    let s = c.self.inside in
    let table = c.args.table in
    let name = c.args.name.now in
    c.first_of_table.ensures
    ∙ (ap (λ l. find (is_of l table) c.all.result.now) c.as_slice.ensures.value
    ∙ (ap (find (is_of s.constraints.items table)) (c.all.ensures ∙ c.self.invariant.1 name)
    ∙ ap (λ cat. find (is_of cat.constraints table) (constraints_named cat name)) c.self.view_is))
