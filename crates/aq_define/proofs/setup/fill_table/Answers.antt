use Rattle.aq_additions.proofs.Extending.{follows_after, follows_extended}
use Rattle.aq_define.proofs.setup.fill_table.Goals as goal

pub returns-in_err-add_references-clause-kept : goal.returns-in_err-add_references-clause-kept
returns-in_err-add_references-clause-kept c =
    follows_after c.args.number c.args.catalog.now c.add_keys.new.catalog c.add_references.new.catalog c.in_ok-add_keys.ensures.kept
    (follows_extended c.args.number c.add_keys.new.catalog c.add_references.new.catalog c.in_err-add_references.ensures.kept)

pub returns-clause-kept : goal.returns-clause-kept
returns-clause-kept c =
    follows_after c.args.number c.args.catalog.now c.add_keys.new.catalog c.add_references.new.catalog c.in_ok-add_keys.ensures.kept
    (follows_extended c.args.number c.add_keys.new.catalog c.add_references.new.catalog c.in_ok-add_references.ensures.kept)
