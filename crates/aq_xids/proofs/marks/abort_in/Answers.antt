use Rattle.std.proofs.Common.{sym, ◌∙◌}
use Rattle.aq_xids.proofs.Marked.{none_runs, undone_shown, undone_tree, undone_commits}
use Rattle.aq_xids.proofs.marks.abort_in.Goals as goal

pub returns-in-Some-clause-shown : goal.returns-in-Some-clause-shown
returns-in-Some-clause-shown c =
    rw c.undone_by_itself.ensures (undone_shown c.args.subs.now c.requires.tree c.args.number c.in-Some.sub (sym c.kept_of.ensures.value ∙ c.in-Some.is) c.requires.running)

pub returns-in-Some-clause-tree : goal.returns-in-Some-clause-tree
returns-in-Some-clause-tree c =
    rw c.undone_by_itself.ensures (undone_tree c.args.subs.now c.requires.tree c.args.number c.in-Some.sub (sym c.kept_of.ensures.value ∙ c.in-Some.is) c.requires.running)

pub returns-in-Some-clause-commits : goal.returns-in-Some-clause-commits
returns-in-Some-clause-commits c =
    rw c.undone_by_itself.ensures (undone_commits c.args.subs.now c.requires.tree c.args.number c.in-Some.sub (sym c.kept_of.ensures.value ∙ c.in-Some.is) c.requires.running)

pub returns-in_default-clause-shown : goal.returns-in_default-clause-shown
returns-in_default-clause-shown c = absurd (none_runs c.args.subs.now c.args.number (sym c.kept_of.ensures.value ∙ c.in_default.is) c.requires.running)
