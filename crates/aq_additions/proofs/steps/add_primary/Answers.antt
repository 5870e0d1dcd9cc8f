use Rattle.std.proofs.Common.{[], ◌∷◌, ◌++◌, length}
use Rattle.aq_setup.specs.Tables.{with_key}
use Rattle.aq_additions.proofs.Extending.{follows_extended, set_in_step}
use Rattle.aq_additions.proofs.steps.add_primary.Goals as goal

pub returns-in_err-put_primary_key-clause-kept : goal.returns-in_err-put_primary_key-clause-kept
returns-in_err-put_primary_key-clause-kept c =
    follows_extended c.args.table c.args.catalog.now c.put_primary_key.new.catalog c.in_err-put_primary_key.ensures.kept

pub returns-clause-ok : goal.returns-clause-ok
returns-clause-ok c =
    set_in_step c.args.table c.args.cols.now c.in_ok-nulls.nulls c.put_primary_key.new.catalog c.set_not_null.new.self
    (with_key c.args.table c.args.name.now c.args.cols.now (record c.args.catalog.now { primaries = c.args.catalog.now.primaries ++ length c.args.catalog.now.keys ∷ [] }))
    c.set_not_null.ensures
    c.in_ok-put_primary_key.ensures.ok
    c.in_ok-nulls.ensures
