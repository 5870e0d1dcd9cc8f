use Rattle.std.proofs.Common.{◌≡◌, refl, ap, sym, subst, ◌∙◌, rules, arith, List, [], take}
use Rattle.std.proofs.lemmas.Grind.{common_steps}
use Rattle.aq_base.specs.declared.fault.SqlFault.{SqlFault}
use Rattle.aq_setup.specs.Names.{insert_columns}
use Rattle.aq_refusals.specs.Answers.{IsFault}
use Rattle.aq_binder.specs.Repeating.{faults_behind, column_faults}
use Rattle.aq_binder.proofs.NameLoops.{walk_told, walk_next}
use Rattle.aq_binder.proofs.Repeated.{columns_are}
use Rattle.aq_binder.proofs.names.insert_columns.Goals as goal

pub returns-in_err-insert_column : goal.returns-in_err-insert_column
returns-in_err-insert_column c =
    let table = c.args.table.now in
    let cols = c.args.cols.now in
    let columns = c.args.columns.now in
    let at = c.columns.at in
    let column = c.index-columns-at.result in
    let fault = c.in_err-insert_column.field-0.0 in
    let here : IsFault (column_faults table cols (take at columns) column) fault = search rules in
    let told = walk_told (column_faults table cols) [] columns at column fault here c.index-columns-at.is c.columns-test.true c.columns.invariant in
    let refused : IsFault (insert_columns table cols [] columns) fault =
    subst (λ (l : List SqlFault). IsFault l fault) (sym (columns_are table cols [] [] columns (λ p. refl))) told in
    search rules

pub columns-preserved : goal.columns-preserved
columns-preserved c =
    let table = c.args.table.now in
    let cols = c.args.cols.now in
    let columns = c.args.columns.now in
    let at = c.columns.at in
    let column = c.index-columns-at.result in
    let here : column_faults table cols (take at columns) column ≡ [] = search rules in
    walk_next (column_faults table cols) columns at column here c.index-columns-at.is c.columns-test.true c.columns.invariant

pub returns : goal.returns
returns c =
    let table = c.args.table.now in
    let cols = c.args.cols.now in
    let columns = c.args.columns.now in
    let all : take c.columns.at columns ≡ columns = grind (arith, common_steps) in
    (columns_are table cols [] [] columns (λ p. refl) ∙ ap (faults_behind (column_faults table cols) []) (sym all) ∙ c.columns.invariant, tt)
