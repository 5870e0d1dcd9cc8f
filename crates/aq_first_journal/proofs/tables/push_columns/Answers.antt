use Rattle.aq_texts.specs.Written.{name_text}
use Rattle.aq_texts.proofs.Joining.{joins}
use Rattle.aq_first_journal.proofs.tables.push_columns.Goals as goal

pub returns : goal.returns
returns c =
    joins (λ col. name_text col.name) c.in-Some.first.now c.in-Some.others.now c.args.cols.now c.args.out.now.items c.push_name.new.out.items c.push_later_columns.new.out.items
    c.in-Some.ensures.cases.0 c.in_ok-push_name.ensures c.in_ok-push_later_columns.ensures
