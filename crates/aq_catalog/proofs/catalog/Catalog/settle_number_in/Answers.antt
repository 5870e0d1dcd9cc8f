use Rattle.std.proofs.Common.{find, ap, sym, subst, ◌∙◌}
use Rattle.aq_catalog.specs.Catalogs.{constraint_names, constraints_named}
use Rattle.aq_catalog.specs.Numbered.{AreTaken, IsNumbered, is_of}
use Rattle.aq_catalog.proofs.Numbering.{number_kept}
use Rattle.aq_catalog.proofs.catalog.Catalog.settle_number_in.Goals as goal

pub invariant_of-self : goal.invariant_of-self
invariant_of-self c =
    let s = c.self.inside in
    let table = c.args.table in
    let name = c.args.name.now in
    let number = c.in_ok-number-in-Some.number in (
      c.self.invariant.0,
      c.self.invariant.1,
      c.self.invariant.2,
      c.self.invariant.3,
      subst (IsNumbered s.constraints.items) (sym c.keep_number.ensures)
          (number_kept s.constraints.items s.next_numbers.items table name c.in-Some.place number c.self.invariant.4
          (ap (λ cat. find (is_of cat.constraints table) (constraints_named cat name)) c.self.view_is ∙ sym c.in-Some.ensures)
          c.in_ok-number-in-Some.ensures.positive
          (subst (λ cat. AreTaken (constraint_names cat table) name number) (sym c.self.view_is) c.in_ok-number-in-Some.ensures.lesser)),
    )
