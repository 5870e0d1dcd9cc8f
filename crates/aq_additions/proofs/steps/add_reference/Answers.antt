use Rattle.std.proofs.Common.{rules, ◌≡◌, [], ◌∷◌}
use Rattle.aq_additions.proofs.AddedReferences.{reference_as_defined, on_ok}
use Rattle.aq_additions.proofs.steps.add_reference.Goals as goal

pub returns-clause-ok : goal.returns-clause-ok
returns-clause-ok c =
    let named : c.in_ok-constraint.constraint ≡ record { name = c.args.f.now.name; table = c.args.child; decl = c.args.f.now.reference.timing } = search rules in
    let own = c.in_ok-made.made in
    on_ok c.put_reference.result _ _
    (reference_as_defined c.args.child c.args.f.now c.args.catalog.now c.put_reference.new.catalog c.in_ok-fk.fk c.in_ok-constraint.constraint
    (own.on_delete ∷ own.on_update ∷ own.on_child ∷ []) c.in_ok-fk.ensures named c.in_ok-made.ensures)
    c.put_reference.ensures.ok
