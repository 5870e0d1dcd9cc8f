use Rattle.std.proofs.Common.{◌≡◌, ◌++◌, take}
use Rattle.std.specs.Prelude.{codes}
use Rattle.std.specs.List.{flat_map}
use Rattle.aq_texts.specs.Written.{name_text}
use Rattle.aq_first_journal.proofs.tables.push_later_columns.Given as goal

abbrev pub invariant-loop-col : goal.invariant-loop-col
invariant-loop-col l = l.out.items ≡ l.fn.out.items ++ flat_map (λ col. codes ", " ++ name_text col.name) (take l.col-index l.cols)
