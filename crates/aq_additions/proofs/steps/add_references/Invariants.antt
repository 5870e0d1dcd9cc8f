use Rattle.std.proofs.Common.{◌≡◌, drop}
use Rattle.aq_setup.specs.Tables.{with_references}
use Rattle.aq_additions.specs.Steps.{Extends}
use Rattle.aq_additions.proofs.steps.add_references.Given as goal

abbrev pub invariant-loop-f : goal.invariant-loop-f
invariant-loop-f l = (with_references l.child (drop l.f-index l.all) l.catalog ≡ with_references l.child l.all l.fn.catalog) × Extends l.fn.catalog l.catalog
