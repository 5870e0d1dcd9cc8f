use Rattle.std.proofs.Common.{List, ◌==◌, slice_get, ap, ◌∙◌}
use Rattle.std.specs.List.{list_any}
use Rattle.aq_base.specs.Names.{same_text}
use Rattle.aq_base.specs.declared.catalog.Constraint.{Constraint}
use Rattle.aq_catalog.specs.Catalogs as catalogs
use Rattle.aq_catalog.specs.Indexed.{passes}
use Rattle.aq_catalog.proofs.Passing.{any_named}
use Rattle.aq_catalog.proofs.catalog.Catalog.has_constraint.Goals as goal

pub returns : goal.returns
returns c =
    let name = c.args.name.now in
    let table = c.args.table in
    let made = c.self.inside.constraints.items in
    c.has_one_of.ensures
    ∙ ap (λ (l : List Constraint). list_any (λ n. passes (λ con. con.table == table) (slice_get l n)) c.all.result.now) c.as_slice.ensures.value
    ∙ ap (list_any (λ n. passes (λ (con : Constraint). con.table == table) (slice_get made n))) (c.all.ensures ∙ c.self.invariant.1 name)
    ∙ any_named (λ (con : Constraint). con.table == table) (λ con. con.name) name made
    ∙ ap (λ cat. list_any (same_text name) (catalogs.constraint_names cat table)) c.self.view_is
