use Rattle.std.proofs.Common.{sym, ◌∙◌}
use Rattle.aq_xids.proofs.Marked.{none_runs, handed_over_shown, handed_over_tree, handed_over_commits, transaction_not_inner}
use Rattle.aq_xids.proofs.marks.end_in.Goals as goal

pub returns-in-Inner-clause-shown : goal.returns-in-Inner-clause-shown
returns-in-Inner-clause-shown c =
    handed_over_shown c.args.subs.now c.requires.tree c.args.number c.in-Some.sub (sym c.kept_of.ensures.value ∙ c.in-Some.is) c.requires.running c.in-Inner.outer c.in-Inner.field-1 c.in-Inner.is

pub returns-in-Inner-clause-tree : goal.returns-in-Inner-clause-tree
returns-in-Inner-clause-tree c =
    handed_over_tree c.args.subs.now c.requires.tree c.args.number c.in-Some.sub (sym c.kept_of.ensures.value ∙ c.in-Some.is) c.requires.running c.in-Inner.outer c.in-Inner.field-1 c.in-Inner.is

pub returns-in-Inner-clause-commits : goal.returns-in-Inner-clause-commits
returns-in-Inner-clause-commits c =
    handed_over_commits c.args.subs.now c.requires.tree c.args.number c.in-Some.sub (sym c.kept_of.ensures.value ∙ c.in-Some.is) c.requires.running c.in-Inner.outer

pub returns-in_default-standing-clause-shown : goal.returns-in_default-standing-clause-shown
returns-in_default-standing-clause-shown c =
    absurd (transaction_not_inner c.args.subs.now c.requires.tree c.args.number c.in-Some.sub (sym c.kept_of.ensures.value ∙ c.in-Some.is) c.requires.running c.in_default-standing.field-0 c.in_default-standing.is c.requires.inner)

pub returns-in_default-clause-shown : goal.returns-in_default-clause-shown
returns-in_default-clause-shown c = absurd (none_runs c.args.subs.now c.args.number (sym c.kept_of.ensures.value ∙ c.in_default.is) c.requires.running)
