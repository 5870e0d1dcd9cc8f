use Rattle.std.proofs.Common.{sym, ◌∙◌}
use Rattle.aq_xids.proofs.Marked.{none_runs, lasting_shown, lasting_tree, lasting_commits, inner_no_transaction}
use Rattle.aq_xids.proofs.marks.commit_in.Goals as goal

pub returns-in-Transaction-clause-shown : goal.returns-in-Transaction-clause-shown
returns-in-Transaction-clause-shown c =
    lasting_shown c.args.subs.now c.requires.tree c.args.top c.in-Some.sub (sym c.kept_of.ensures.value ∙ c.in-Some.is) c.requires.running c.in-Transaction.field-0 c.args.number c.in-Transaction.is

pub returns-in-Transaction-clause-tree : goal.returns-in-Transaction-clause-tree
returns-in-Transaction-clause-tree c =
    lasting_tree c.args.subs.now c.requires.tree c.args.top c.in-Some.sub (sym c.kept_of.ensures.value ∙ c.in-Some.is) c.requires.running c.args.number

pub returns-in-Transaction-clause-commits : goal.returns-in-Transaction-clause-commits
returns-in-Transaction-clause-commits c =
    lasting_commits c.args.subs.now c.requires.tree c.args.top c.in-Some.sub (sym c.kept_of.ensures.value ∙ c.in-Some.is) c.requires.running c.args.number

pub returns-in_default-standing-clause-shown : goal.returns-in_default-standing-clause-shown
returns-in_default-standing-clause-shown c =
    absurd (inner_no_transaction c.args.subs.now c.requires.tree c.args.top c.in-Some.sub (sym c.kept_of.ensures.value ∙ c.in-Some.is) c.requires.running c.in_default-standing.field-0 c.in_default-standing.field-1 c.in_default-standing.is c.requires.transaction)

pub returns-in_default-standing-clause-commits : goal.returns-in_default-standing-clause-commits
returns-in_default-standing-clause-commits c =
    absurd (inner_no_transaction c.args.subs.now c.requires.tree c.args.top c.in-Some.sub (sym c.kept_of.ensures.value ∙ c.in-Some.is) c.requires.running c.in_default-standing.field-0 c.in_default-standing.field-1 c.in_default-standing.is c.requires.transaction)

pub returns-in_default-clause-shown : goal.returns-in_default-clause-shown
returns-in_default-clause-shown c = absurd (none_runs c.args.subs.now c.args.top (sym c.kept_of.ensures.value ∙ c.in_default.is) c.requires.running)

pub returns-in_default-clause-commits : goal.returns-in_default-clause-commits
returns-in_default-clause-commits c = absurd (none_runs c.args.subs.now c.args.top (sym c.kept_of.ensures.value ∙ c.in_default.is) c.requires.running)
