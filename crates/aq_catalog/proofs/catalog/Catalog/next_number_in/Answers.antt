use Rattle.std.proofs.Common.{find, get_or, ap, sym, subst, ◌∙◌}
use Rattle.aq_catalog.specs.Catalogs.{constraint_names, constraints_named, names_in}
use Rattle.aq_catalog.specs.Numbered.{AreTaken, is_of}
use Rattle.aq_catalog.proofs.Numbering.{lesser_taken}
use Rattle.aq_catalog.proofs.catalog.Catalog.next_number_in.Goals as goal

pub returns-in-Some-clause-lesser : goal.returns-in-Some-clause-lesser
returns-in-Some-clause-lesser c =
    let s = c.self.inside in
    let table = c.args.table in
    let name = c.args.name.now in
    subst (λ cat. AreTaken (constraint_names cat table) name c.number_at.result) c.self.view_is
    (subst (AreTaken (names_in s.constraints.items table) name) (sym (c.number_at.ensures ∙ ap (λ l. get_or l c.in-Some.place 1) c.as_slice.ensures.value))
    (lesser_taken s.constraints.items s.next_numbers.items table name c.in-Some.place c.self.invariant.4
    (ap (λ cat. find (is_of cat.constraints table) (constraints_named cat name)) c.self.view_is ∙ sym c.in-Some.ensures)))
