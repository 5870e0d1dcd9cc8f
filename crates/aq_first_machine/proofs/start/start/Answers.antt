use Rattle.std.proofs.Common.{◌≡◌, ℕ, [], true, map, Option, Some, None, refl, ap, sym, subst, ◌∙◌, rules}
use Rattle.aq_first_base.specs.declared.bound.Bound.{Bound}
use Rattle.aq_first_base.specs.declared.bound.Bound.TheVariants.{DeleteRows}
use Rattle.std.specs.Option.{option_copied}
use Rattle.aq_first_base.specs.Databases.{rows_of}
use Rattle.aq_first_run.specs.States.{Session}
use Rattle.aq_first_run.specs.States.Operation.{Deleting}
use Rattle.aq_first_run.specs.States.Target.{Old_row}
use Rattle.aq_first_run.specs.Steps.{start_plan, old_rows, view_of}
use Rattle.aq_first_machine.specs.Starts.{CarriesOut}
use Rattle.aq_first_machine.proofs.StartKinds.{starts-end, old_rows-numbers}
use Rattle.aq_first_machine.proofs.start.start.Goals as goal

pub returns-in-None-clause-ok : goal.returns-in-None-clause-ok
returns-in-None-clause-ok c =
    let left = ap (λ (m : Session). record m { transaction = None; tasks = []; ended = true }) c.session.view_is in
    subst (λ (l : Session). CarriesOut c.args.catalog.now c.args.s.0 (start_plan c.args.world.now c.args.session.now (option_copied c.args.statement)) c.args.world.now c.args.session.now c.args.world.now l) (sym left)
    (rw c.in-None.is (starts-end c.args.catalog.now c.args.s.0 c.args.world.now c.args.session.now c.requires.none))

pub returns-in_ok-start_rows-in-Some-DeleteRows-clause-ok : goal.returns-in_ok-start_rows-in-Some-DeleteRows-clause-ok
returns-in_ok-start_rows-in-Some-DeleteRows-clause-ok c =
    let table : ℕ = c.in-Some-DeleteRows.table in
    let seen = ap (λ (m : Session). m.transaction) c.session-in-Some-DeleteRows.view_is in
    let numbers = rw seen at c.in_ok-left-in-Some-DeleteRows.ensures in
    let targets : map Old_row c.in_ok-left-in-Some-DeleteRows.left.items ≡ old_rows table (view_of c.args.world.now c.args.session.now.transaction) =
    ap (map Old_row) numbers ∙ old_rows-numbers (rows_of table (view_of c.args.world.now c.args.session.now.transaction)) in
    let shown : option_copied c.args.statement ≡ Some (DeleteRows table) = search rules in
    subst (λ (statement : Option Bound). CarriesOut c.args.catalog.now c.args.s.0 (start_plan c.args.world.now c.args.session.now statement) c.args.world.now c.args.session.now
    c.start_rows-in-Some-DeleteRows.new.world c.start_rows-in-Some-DeleteRows.new.session) (sym shown)
    (c.in_ok-start_rows-in-Some-DeleteRows.ensures.ok (Deleting table) (old_rows table (view_of c.args.world.now c.args.session.now.transaction)) (λ held. rw targets refl))
