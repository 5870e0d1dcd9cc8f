-- Row steps of a statement, of a locking SELECT and of an action, and the ends of their rows.
use Rattle.std.proofs.Common.{◌≡◌, ◌<◌, ◌≤◌, ℕ, Bool, true, false, not, List, [], ◌∷◌, ◌++◌, Option, Some, None, Result, Ok, Err, refl, sym, ◌∙◌, ap, subst, arith}
use Rattle.std.specs.Prelude.{◌+◌, drop, cond, is_some, nat_lt, ◌&&◌, ◌==◌, if◌then◌else◌}
use Rattle.std.specs.List.{list_all}
use Rattle.std.proofs.lemmas.Bool.{false≢true, true≢false, and_from}
use Rattle.aq_base.specs.Limits.{change_limit}
use Rattle.aq_base.specs.Values.{Row}
use Rattle.aq_base.specs.Events.{Event}
use Rattle.aq_base.specs.Transitions.{same_op}
use Rattle.aq_base.specs.Works.{Opened, Saved}
use Rattle.aq_base.specs.Rounds.{round_of, queued_on_top, without_first}
use Rattle.aq_base.specs.Statements.Statement.{Selects}
use Rattle.aq_run.specs.Programs.Prepared.{Ready}
use Rattle.aq_base.specs.Statements.{Change_of_rows, Select, table_of, set_columns}
use Rattle.aq_base.specs.declared.data.LockMode.{LockMode}
use Rattle.aq_base.specs.declared.script.Kind.{Kind as Value_kind}
use Rattle.aq_base.specs.declared.catalog.Op.{Op}
use Rattle.aq_base.specs.declared.catalog.Trigger.{Trigger}
use Rattle.aq_expr.specs.Evaluation.{Surroundings}
use Rattle.aq_catalog.specs.Catalogs.{triggers_of}
use Rattle.aq_outcomes.specs.Schemas.{Schema, trigger_at, condition_at}
use Rattle.aq_outcomes.specs.Parties.{Around}
use Rattle.aq_outcomes.specs.Faults.{out_of_range, too_many_changes, too_many_events}
use Rattle.aq_outcomes.specs.Rows.{Change, Outcome, row_step}
use Rattle.aq_outcomes.specs.Sources.{shown}
use Rattle.aq_outcomes.specs.Rows.Outcome.{Done, Locked, Passed_over, Waits, Faulty}
use Rattle.aq_outcomes.specs.Rows.Wish.{To_lock}
use Rattle.aq_outcomes.specs.Queued.{queued_by, queued_by_statement, fires_for_statement, those_that_fire, with_trigger, where_true, is_for_rows, passes_columns, condition_holds, around_statement, events_of, without_replaced}
use Rattle.aq_run.specs.Programs.{Program, Prepared}
use Rattle.aq_run.specs.States.{Target, Place, Task, Block_state, Transaction, World, party}
use Rattle.aq_run.specs.States.Target.{New_row, Old_row}
use Rattle.aq_run.specs.States.Task.{Changing, Locking, Rounds, Settling, Committing, Acting, Rechecking, Running}
use Rattle.aq_run.specs.States.Block_state.{Idle, Open, Failed}
use Rattle.aq_run.specs.Faults.{Fault, plain}
use Rattle.aq_run.specs.Effects.{Effect, effect, cleared_on_top, since_in, with_set}
use Rattle.aq_run.specs.Effects.Effect.{Turns, Ends_task, Locks, Changes, Queues, Replies}
use Rattle.aq_run.specs.Plans.{Plan}
use Rattle.aq_run.specs.Plans.Plan.{Does_all, Would_wait, Fails}
use Rattle.aq_run.specs.Replies.{shown_rows}
use Rattle.aq_run.specs.Rows.{has_room, with_room, on_triggers, within_changes, wrote_old, on_outcome, target_outcome, end_plan, changing_plan, on_locked, locking_plan, locked_plan, wish_of, test_of, select_test, op_of}
use Rattle.aq_run.specs.Errors.{error_effects}
use Rattle.aq_run.specs.Steps.{current, has_any, at_work, with_change_at, on_change, with_mode, on_select}
use Rattle.aq_run.specs.Measure.{weight_of}
use Rattle.aq_laws.specs.Stacks.{Fires_rounds, First_is_of_row, is_locking, Tasks_fit}
use Rattle.aq_laws.proofs.Apt.{is_for_statements, Apt, the_event, the_statement_event}
use Rattle.aq_laws.proofs.Moves.{after, Moved, Is_alive, now, plain-moved, under, owed-most, owed-least}
use Rattle.aq_laws.proofs.Blocked.{Is_blocked, Waits_blocked, row_step-blocked, insert_step-blocked}
use Rattle.aq_laws.proofs.Error_moves.{error-moved}

-- ---- statement events are queued for triggers of statements

abbrev list_in : Result (List ℕ) Value_kind → List ℕ
list_in (Ok numbers) = numbers
list_in (Err kind) = []

abbrev truth_of : Result Bool Value_kind → Bool
truth_of (Ok truth) = truth
truth_of (Err kind) = false

abbrev is_ok_list : Result (List ℕ) Value_kind → Bool
is_ok_list (Ok numbers) = true
is_ok_list (Err kind) = false

first-fires : (P : ℕ → Bool) (number : ℕ) (found : List ℕ) (first : Result Bool Value_kind) (others : Result (List ℕ) Value_kind) → (first ≡ Ok true → P number ≡ true) →
    ((more : List ℕ) → others ≡ Ok more → list_all P more ≡ true) → with_trigger number first others ≡ Ok found → list_all P found ≡ true
first-fires P number found (Err kind) others this rest is = absurd (false≢true (ap is_ok_list is))
first-fires P number found (Ok fires) (Err kind) this rest is = absurd (false≢true (ap is_ok_list is))
first-fires P number found (Ok true) (Ok more) this rest is = ap (λ l. list_all P l) (sym (ap list_in is)) ∙ and_from (P number) (list_all P more) (this refl) (rest more refl)
first-fires P number found (Ok false) (Ok more) this rest is = ap (λ l. list_all P l) (sym (ap list_in is)) ∙ rest more refl

all-fire : (P : ℕ → Bool) (fires : ℕ → Result Bool Value_kind) → ((number : ℕ) → fires number ≡ Ok true → P number ≡ true) → (numbers found : List ℕ) → those_that_fire fires numbers ≡ Ok found →
    list_all P found ≡ true
all-fire P fires each [] found is = ap (λ l. list_all P l) (sym (ap list_in is))
all-fire P fires each (number ∷ numbers) found is =
    first-fires P number found (fires number) (those_that_fire fires numbers) (each number) (λ more e. all-fire P fires each numbers more e) is

by-level : (is_row passes : Bool) (condition : Result Bool Value_kind) → where_true (not is_row && passes) condition ≡ Ok true → not is_row ≡ true
by-level true passes condition is = absurd (false≢true (ap truth_of is))
by-level false passes condition is = refl

by-trigger : (schema : Schema) (op : Op) (set : List ℕ) (number : ℕ) (trigger : Option Trigger) → fires_for_statement schema op set number trigger ≡ Ok true → is_for_statements trigger ≡ true
by-trigger schema op set number None is = refl
by-trigger schema op set number (Some trigger) is =
    by-level (is_for_rows trigger.level) (passes_columns op trigger.cols set) (condition_holds (around_statement op) (condition_at schema number)) is

pub queued-for-statements : (schema : Schema) (table : ℕ) (op : Op) (set found : List ℕ) → queued_by_statement schema table op set ≡ Ok found →
    list_all (λ n. is_for_statements (trigger_at schema n)) found ≡ true
unfolding queued_by_statement
queued-for-statements schema table op set found is =
    all-fire (λ n. is_for_statements (trigger_at schema n)) (λ number. fires_for_statement schema op set number (trigger_at schema number))
    (λ number fires. by-trigger schema op set number (trigger_at schema number) fires) (triggers_of schema.catalog table op) found is

-- ---- rounds whose first event stays

abbrev is_replaced_else : ℕ → Op → ℕ → Event → Bool
is_replaced_else table op since event = event.table == table && (same_op event.op op && nat_lt since event.number)

-- the first event of a round stays where it is one of a row
first-stays : (table : ℕ) (op : Op) (since : ℕ) (round : List Event) → First_is_of_row round → First_is_of_row (without_replaced table op since round)
first-stays table op since [] first = absurd first
first-stays table op since (event ∷ round) first =
    subst
    (λ b. First_is_of_row
    (cond (not (b && is_replaced_else table op since event)) (event ∷ without_replaced table op since round) (without_replaced table op since round)))
    (sym first) first

has-any : (round : List Event) → First_is_of_row round → has_any round ≡ true
has-any [] first = absurd first
has-any (event ∷ round) first = refl

-- ---- weights of rounds

owed-any : (b : Bool) (w : ℕ) → b ≡ true → (if b then w else w + 1) ≡ w
owed-any true w is = refl
owed-any false w is = absurd (false≢true is)

pub same-weight : (tasks : List Task) → Fires_rounds tasks → (top top' : Opened) (rest : List Opened) → has_any top.round ≡ true → has_any top'.round ≡ true →
    weight_of tasks (top' ∷ rest) ≡ weight_of tasks (top ∷ rest)
same-weight (Rounds place done ∷ below) fires top top' rest any any' = ap (λ w. w + weight_of below rest) (owed-any (has_any top'.round) 2 any' ∙ sym (owed-any (has_any top.round) 2 any))
same-weight (Settling place ∷ below) fires top top' rest any any' = ap (λ w. w + weight_of below rest) (owed-any (has_any top'.round) 1 any' ∙ sym (owed-any (has_any top.round) 1 any))
same-weight (Committing changed ∷ below) fires top top' rest any any' = ap (λ w. w + weight_of below rest) (owed-any (has_any top'.round) 1 any' ∙ sym (owed-any (has_any top.round) 1 any))
same-weight [] fires top top' rest any any' = absurd fires
same-weight (Changing place left done ∷ below) fires top top' rest any any' = absurd fires
same-weight (Locking left shown ∷ below) fires top top' rest any any' = absurd fires
same-weight (Acting left done ∷ below) fires top top' rest any any' = absurd fires
same-weight (Rechecking done ∷ below) fires top top' rest any any' = absurd fires
same-weight (Running event frame ∷ below) fires top top' rest any any' = absurd fires

-- whatever the round on top, they weigh one more at the most
pub most-weight : (tasks : List Task) → Fires_rounds tasks → (top top' : Opened) (rest : List Opened) → weight_of tasks (top' ∷ rest) ≤ weight_of tasks (top ∷ rest) + 1
most-weight (Rounds place done ∷ below) fires top top' rest = omega (arith, owed-most 2 (top' ∷ rest), owed-least 2 (top ∷ rest))
most-weight (Settling place ∷ below) fires top top' rest = omega (arith, owed-most 1 (top' ∷ rest), owed-least 1 (top ∷ rest))
most-weight (Committing changed ∷ below) fires top top' rest = omega (arith, owed-most 1 (top' ∷ rest), owed-least 1 (top ∷ rest))
most-weight [] fires top top' rest = absurd fires
most-weight (Changing place left done ∷ below) fires top top' rest = absurd fires
most-weight (Locking left shown ∷ below) fires top top' rest = absurd fires
most-weight (Acting left done ∷ below) fires top top' rest = absurd fires
most-weight (Rechecking done ∷ below) fires top top' rest = absurd fires
most-weight (Running event frame ∷ below) fires top top' rest = absurd fires

pub record Acting_ended (schema : Schema) (statement : Option Prepared) (block : Block_state) (saved : List Saved) (events : List Event) (table : ℕ) (op : Op) (since : ℕ) (below : List Task) (opened : List Opened) : Type 0 where
  pub first : First_is_of_row (round_of (queued_on_top events (cleared_on_top table op since opened)))
  pub below_fits : Tasks_fit schema statement block below (queued_on_top events (cleared_on_top table op since opened)) saved
  pub weighs : weight_of below (queued_on_top events (cleared_on_top table op since opened)) ≡ weight_of below opened

-- ---- what is opened on top changes, and still fits

module _ (schema : Schema) (statement : Option Prepared) (block : Block_state) (saved : List Saved) where
  abbrev Fit : List Task → List Opened → Type 0
  Fit tasks opened = Tasks_fit schema statement block tasks opened saved

  pub turn-changing : (place : Place) (left left' : List Target) (done done' : ℕ) (below : List Task) (opened : List Opened) → Fit (Changing place left done ∷ below) opened →
      Fit (Changing place left' done' ∷ below) opened
  turn-changing place left left' done done' below [] fit = fit
  turn-changing place left left' done done' below (top ∷ rest) fit = fit

  pub queue-changing : (events : List Event) (place : Place) (left left' : List Target) (done done' : ℕ) (below : List Task) (opened : List Opened) → Fit (Changing place left done ∷ below) opened →
      Fit (Changing place left' done' ∷ below) (queued_on_top events opened)
  queue-changing events place left left' done done' below [] fit = fit
  queue-changing events place left left' done done' below (top ∷ rest) fit = fit

  pub end-changing : (events : List Event) (table : ℕ) (op : Op) (since : ℕ) (place : Place) (left : List Target) (done done' : ℕ) (below : List Task) (opened : List Opened) →
      Fit (Changing place left done ∷ below) opened → Fit (Rounds place done' ∷ below) (queued_on_top events (cleared_on_top table op since opened))
  end-changing events table op since place left done done' below [] fit = fit
  end-changing events table op since place left done done' below (top ∷ rest) fit = (fit.0, (fit.1.0, fit.1.1.1))

  pub has-statement : (place : Place) (left : List Target) (done : ℕ) (below : List Task) (opened : List Opened) → Fit (Changing place left done ∷ below) opened →
      is_some (at_work schema statement place below).change ≡ true
  has-statement place left done below [] fit = absurd fit
  has-statement place left done below (top ∷ rest) fit = fit.1.1.0

  pub nothing-opened : (tasks : List Task) → Fires_rounds tasks → Fit tasks [] → ⊥
  nothing-opened (Rounds place done ∷ below) fires fit = fit
  nothing-opened (Settling place ∷ below) fires fit = fit
  nothing-opened (Committing changed ∷ below) fires fit = fit
  nothing-opened [] fires fit = fires
  nothing-opened (Changing place left done ∷ below) fires fit = fires
  nothing-opened (Locking left shown ∷ below) fires fit = fires
  nothing-opened (Acting left done ∷ below) fires fit = fires
  nothing-opened (Rechecking done ∷ below) fires fit = fires
  nothing-opened (Running event frame ∷ below) fires fit = fires

  -- rounds fit over what has the kind of their top
  pub retop : (tasks : List Task) → Fires_rounds tasks → (top top' : Opened) (rest : List Opened) → top'.kind ≡ top.kind → Fit tasks (top ∷ rest) → Fit tasks (top' ∷ rest)
  retop (Rounds place done ∷ below) fires top top' rest same fit = (same ∙ fit.0, fit.1)
  retop (Settling place ∷ below) fires top top' rest same fit = (same ∙ fit.0, fit.1)
  retop (Committing changed ∷ below) fires top top' rest same fit = (same ∙ fit.0, fit.1)
  retop [] fires top top' rest same fit = absurd fires
  retop (Changing place left done ∷ below) fires top top' rest same fit = absurd fires
  retop (Locking left shown ∷ below) fires top top' rest same fit = absurd fires
  retop (Acting left done ∷ below) fires top top' rest same fit = absurd fires
  retop (Rechecking done ∷ below) fires top top' rest same fit = absurd fires
  retop (Running event frame ∷ below) fires top top' rest same fit = absurd fires

  pub first-done : (tasks : List Task) → Fires_rounds tasks → (opened : List Opened) → Fit tasks opened → Fit tasks (without_first opened)
  first-done tasks fires [] fit = fit
  first-done tasks fires (top ∷ rest) fit = retop tasks fires top (record top { round = drop 1 top.round }) rest refl fit

  -- the end of an action's rows leaves its event first
  pub acting-ends : (events : List Event) (table : ℕ) (op : Op) (since : ℕ) (left : List ℕ) (done : ℕ) (below : List Task) (opened : List Opened) → Fit (Acting left done ∷ below) opened →
      Acting_ended schema statement block saved events table op since below opened
  acting-ends events table op since left done below [] fit = absurd fit.0
  acting-ends events table op since left done below (top ∷ rest) fit =
      record {
        first = first-stays table op since top.round fit.0;
        below_fits = retop below fit.1.0 top (record top { queued = without_replaced table op since top.queued ++ events; round = without_replaced table op since top.round }) rest refl fit.1.1;
        weighs = same-weight below fit.1.0 top (record top { queued = without_replaced table op since top.queued ++ events; round = without_replaced table op since top.round }) rest
            (has-any top.round fit.0) (has-any (without_replaced table op since top.round) (first-stays table op since top.round fit.0));
      }

  pub queue-acting : (events : List Event) (left left' : List ℕ) (done done' : ℕ) (below : List Task) (opened : List Opened) → Fit (Acting left done ∷ below) opened →
      Fit (Acting left' done' ∷ below) (queued_on_top events opened)
  queue-acting events left left' done done' below [] fit = absurd fit.0
  queue-acting events left left' done done' below (top ∷ rest) fit =
      (fit.0, (fit.1.0, retop below fit.1.0 top (record top { queued = top.queued ++ events }) rest refl fit.1.1))

pub done-weight : (tasks : List Task) → Fires_rounds tasks → (opened : List Opened) → weight_of tasks (without_first opened) ≤ weight_of tasks opened + 1
done-weight tasks fires [] = omega arith
done-weight tasks fires (top ∷ rest) = most-weight tasks fires top (record top { round = drop 1 top.round }) rest

-- ---- plans

-- what a session with tasks stands on
pub record Working (program : Program) (s : ℕ) (counted : Bool) (next : ℕ) (block : Block_state) (t : Transaction) (tasks : List Task) : Type 0 where
  pub alive : Is_alive block
  pub apt : Apt program.schema (Some t)
  pub fit : Tasks_fit program.schema (current program s next) block tasks t.work.opened t.saved
  pub quick : counted ≡ false → under tasks t.work.opened < weight_of tasks t.work.opened

-- what its plan leaves
abbrev pub Plan_moves : Program → Around → ℕ → Bool → ℕ → ℕ → Block_state → Transaction → List Task → Plan → Type 0
Plan_moves program others s counted n next block t tasks (Does_all es) =
    (world : World) → Moved program s counted n next (weight_of tasks t.work.opened) (after program s es world (now n next block t tasks))
Plan_moves program others s counted n next block t tasks (Would_wait ask) = Is_blocked program.schema.catalog others s ask
Plan_moves program others s counted n next block t tasks (Fails before fault) =
    (world world' : World) →
    Moved program s counted n next (weight_of tasks t.work.opened)
    (after program s (error_effects program.schema (after program s before world (now n next block t tasks)) fault) world' (after program s before world (now n next block t tasks)))

module _ (program : Program) (others : Around) (s : ℕ) (counted : Bool) (n next : ℕ) (block : Block_state) (t : Transaction) (tasks : List Task) (w : Working program s counted next block t tasks) where
  abbrev Moves : Plan → Type 0
  Moves plan = Plan_moves program others s counted n next block t tasks plan

  pub refused-moves : (fault : Fault) → Moves (Fails [] fault)
  refused-moves fault world world' = error-moved program s counted n next block t (weight_of tasks t.work.opened) tasks w.alive w.apt w.fit w.quick fault world'

  with_room-moves : (room : Bool) (plan : Plan) → Moves plan → Moves (with_room room plan)
  with_room-moves true plan moves = moves
  with_room-moves false plan moves = refused-moves (plain too_many_events)

  pub on_triggers-moves : (effects : List ℕ → List Effect) (triggers : Result (List ℕ) Value_kind) → ((found : List ℕ) → triggers ≡ Ok found → Moves (Does_all (effects found))) →
      Moves (on_triggers t effects triggers)
  on_triggers-moves effects (Err kind) each = refused-moves (plain (out_of_range kind))
  on_triggers-moves effects (Ok found) each = with_room-moves (has_room t found) (Does_all (effects found)) (each found refl)

  within_changes-moves : (room : Bool) (plan : Plan) → Moves plan → Moves (within_changes room plan)
  within_changes-moves true plan moves = moves
  within_changes-moves false plan moves = refused-moves (plain too_many_changes)

-- ---- row steps, which are counted

module _ (program : Program) (others : Around) (s : ℕ) (counted : Bool) (n next : ℕ) (block : Block_state) (t : Transaction) (task : Task) (below : List Task)
    (w : Working program s counted next block t (task ∷ below)) (busy : counted ≡ true) where
  abbrev Left : Plan → Type 0
  Left plan = Plan_moves program others s counted n next block t (task ∷ below) plan

  abbrev Fit_with : Task → List Opened → Type 0
  Fit_with other opened = Tasks_fit program.schema (current program s next) block (other ∷ below) opened t.saved

  turned : (other : Task) → Fit_with other t.work.opened → Left (Does_all (Turns other ∷ []))
  unfolding effect
  turned other fit world = plain-moved program s counted n next block t (weight_of (task ∷ below) t.work.opened) (task ∷ below) w.alive w.apt (Turns other ∷ []) (tt, tt) world fit (λ none. absurd (true≢false (sym busy ∙ none)))

  row-changed : (change : Change) (lock : Option LockMode) (triggers : List ℕ) (other : Task) → ((events : List Event) → Fit_with other (queued_on_top events t.work.opened)) →
      Left (Does_all (Changes change lock triggers ∷ Turns other ∷ []))
  unfolding effect
  row-changed change None triggers other fits world =
      plain-moved program s counted n next block t (weight_of (task ∷ below) t.work.opened) (task ∷ below) w.alive w.apt (Changes change None triggers ∷ Turns other ∷ []) (tt, (tt, tt)) world
      (fits (events_of (the_event world change (record t { steps = n })) t.events triggers)) (λ none. absurd (true≢false (sym busy ∙ none)))
  row-changed change (Some mode) triggers other fits world =
      plain-moved program s counted n next block t (weight_of (task ∷ below) t.work.opened) (task ∷ below) w.alive w.apt (Changes change (Some mode) triggers ∷ Turns other ∷ []) (tt, (tt, tt)) world
      (fits (events_of (the_event world change (record t { steps = n })) t.events triggers)) (λ none. absurd (true≢false (sym busy ∙ none)))

  pub on_outcome-moves : (set : List ℕ) (changed : Task) (locked : Row → Task) (passed : Task) → ((events : List Event) → Fit_with changed (queued_on_top events t.work.opened)) →
      ((values : Row) → Fit_with (locked values) t.work.opened) → Fit_with passed t.work.opened → (outcome : Outcome) → Waits_blocked program.schema.catalog others s outcome →
      Left (on_outcome program.schema t set changed locked passed outcome)
  on_outcome-moves set changed locked passed one other third (Done change lock) blocked =
      within_changes-moves program others s counted n next block t (task ∷ below) w (nat_lt t.changes change_limit)
      (on_triggers t (λ triggers. Changes change lock triggers ∷ Turns changed ∷ []) (queued_by program.schema change set (wrote_old t change)))
      (on_triggers-moves program others s counted n next block t (task ∷ below) w (λ triggers. Changes change lock triggers ∷ Turns changed ∷ []) (queued_by program.schema change set (wrote_old t change))
      (λ found is. row-changed change lock found changed one))
  on_outcome-moves set changed locked passed one other third (Locked mode values) blocked = turned (locked values) (other values)
  on_outcome-moves set changed locked passed one other third Passed_over blocked = turned passed third
  on_outcome-moves set changed locked passed one other third (Waits ask) blocked = blocked
  on_outcome-moves set changed locked passed one other third (Faulty fault) blocked = refused-moves program others s counted n next block t (task ∷ below) w (plain fault)

  on_locked-moves : (row : ℕ) (select : Select) (left : List ℕ) (found : List Row) → ((left : List ℕ) (shown : List Row) → Fit_with (Locking left shown) t.work.opened) → (outcome : Outcome) →
      Waits_blocked program.schema.catalog others s outcome → Left (on_locked row select left found outcome)
  unfolding effect
  on_locked-moves row select left found fits (Done change lock) blocked = turned (Locking left found) (fits left found)
  on_locked-moves row select left found fits (Locked mode values) blocked = λ world.
      plain-moved program s counted n next block t (weight_of (task ∷ below) t.work.opened) (task ∷ below) w.alive w.apt (Locks row mode ∷ Turns (Locking left (found ++ shown select.columns values ∷ [])) ∷ []) (tt, (tt, tt)) world
      (fits left (found ++ shown select.columns values ∷ [])) (λ none. absurd (true≢false (sym busy ∙ none)))
  on_locked-moves row select left found fits Passed_over blocked = turned (Locking left found) (fits left found)
  on_locked-moves row select left found fits (Waits ask) blocked = blocked
  on_locked-moves row select left found fits (Faulty fault) blocked = refused-moves program others s counted n next block t (task ∷ below) w (plain fault)

-- ---- a statement that changes rows

drop-queued : (events : List Event) (table : ℕ) (op : Op) (since : ℕ) (opened : List Opened) → drop 1 (queued_on_top events (cleared_on_top table op since opened)) ≡ drop 1 opened
drop-queued events table op since [] = refl
drop-queued events table op since (top ∷ rest) = refl

module _ (program : Program) (others : Around) (s : ℕ) (counted : Bool) (n next : ℕ) (block : Block_state) (t : Transaction) (place : Place) (below : List Task) where
  end_plan-moves : (done : ℕ) (change : Change_of_rows) → Working program s counted next block t (Changing place [] done ∷ below) →
      Plan_moves program others s counted n next block t (Changing place [] done ∷ below) (end_plan program.schema t place change done)
  unfolding effect
  end_plan-moves done change w =
      on_triggers-moves program others s counted n next block t (Changing place [] done ∷ below) w
      (λ triggers. Queues (table_of change) (op_of change) triggers ∷ Turns (Rounds place done) ∷ [])
      (queued_by_statement program.schema (table_of change) (op_of change) (set_columns change))
      (λ found is world.
      let events : List Event = events_of (the_statement_event (table_of change) (op_of change) (record t { steps = n })) t.events found in
      let since : ℕ = since_in (table_of change) (op_of change) (with_set (table_of change) (op_of change) t.events t.work) in
      plain-moved program s counted n next block t (weight_of (Changing place [] done ∷ below) t.work.opened) (Changing place [] done ∷ below) w.alive w.apt
      (Queues (table_of change) (op_of change) found ∷ Turns (Rounds place done) ∷ []) (queued-for-statements program.schema (table_of change) (op_of change) (set_columns change) found is, (tt, tt)) world
      (end-changing program.schema (current program s next) block t.saved events (table_of change) (op_of change) since place [] done done below t.work.opened w.fit)
      (λ none.
      omega (
        arith,
        owed-most 2 (queued_on_top events (cleared_on_top (table_of change) (op_of change) since t.work.opened)),
        ap (λ o. weight_of below o) (drop-queued events (table_of change) (op_of change) since t.work.opened),
      )))

  targets-moves : (env : Surroundings) (change : Change_of_rows) (left : List Target) (done : ℕ) → Working program s counted next block t (Changing place left done ∷ below) → (has_any left ≡ true → counted ≡ true) →
      Plan_moves program others s counted n next block t (Changing place left done ∷ below) (changing_plan program.schema others (party s t) t env change place left done)
  targets-moves env change [] done w busy = end_plan-moves done change w
  targets-moves env change (New_row values ∷ left) done w busy =
      on_outcome-moves program others s counted n next block t (Changing place (New_row values ∷ left) done) below w (busy refl) (set_columns change) (Changing place left (done + 1)) (λ values. Changing place left done)
      (Changing place left done)
      (λ events. queue-changing program.schema (current program s next) block t.saved events place (New_row values ∷ left) left done (done + 1) below t.work.opened w.fit)
      (λ it. turn-changing program.schema (current program s next) block t.saved place (New_row values ∷ left) left done done below t.work.opened w.fit)
      (turn-changing program.schema (current program s next) block t.saved place (New_row values ∷ left) left done done below t.work.opened w.fit)
      (target_outcome program.schema others (party s t) env change (New_row values)) (insert_step-blocked program.schema others (party s t) (table_of change) values)
  targets-moves env change (Old_row row ∷ left) done w busy =
      on_outcome-moves program others s counted n next block t (Changing place (Old_row row ∷ left) done) below w (busy refl) (set_columns change) (Changing place left (done + 1)) (λ values. Changing place left done)
      (Changing place left done)
      (λ events. queue-changing program.schema (current program s next) block t.saved events place (Old_row row ∷ left) left done (done + 1) below t.work.opened w.fit)
      (λ it. turn-changing program.schema (current program s next) block t.saved place (Old_row row ∷ left) left done done below t.work.opened w.fit)
      (turn-changing program.schema (current program s next) block t.saved place (Old_row row ∷ left) left done done below t.work.opened w.fit)
      (target_outcome program.schema others (party s t) env change (Old_row row))
      (row_step-blocked program.schema others (party s t) (table_of change) (wish_of program.schema env change) (test_of env change) row)

  change-moves : (env : Surroundings) (change : Option Change_of_rows) (left : List Target) (done : ℕ) → is_some change ≡ true → Working program s counted next block t (Changing place left done ∷ below) →
      (has_any left ≡ true → counted ≡ true) →
      Plan_moves program others s counted n next block t (Changing place left done ∷ below)
      (with_change_at (λ env change. changing_plan program.schema others (party s t) t env change place left done) env change)
  change-moves env None left done there w busy = absurd (false≢true there)
  change-moves env (Some change) left done there w busy = targets-moves env change left done w busy

  pub changing-moves : (left : List Target) (done : ℕ) → Working program s counted next block t (Changing place left done ∷ below) → (has_any left ≡ true → counted ≡ true) →
      Plan_moves program others s counted n next block t (Changing place left done ∷ below)
      (on_change (λ env change. changing_plan program.schema others (party s t) t env change place left done) (at_work program.schema (current program s next) place below))
  changing-moves left done w busy =
      change-moves (at_work program.schema (current program s next) place below).around (at_work program.schema (current program s next) place below).change left done
      (has-statement program.schema (current program s next) block t.saved place left done below t.work.opened w.fit) w busy

-- ---- a locking SELECT

module _ (program : Program) (others : Around) (s : ℕ) (counted : Bool) (n next : ℕ) (t : Transaction) (below : List Task) where
  locked-moves : (block : Block_state) (found : List Row) → Working program s counted next block t (Locking [] found ∷ below) →
      Plan_moves program others s counted n next block t (Locking [] found ∷ below) (locked_plan block found)
  unfolding effect
  locked-moves Idle found w = λ world.
      record {
        next_is = refl;
        goes_on = refl;
        steps = tt;
        stands = record { tasks = refl; block = tt; apt = tt };
        lighter = λ none. omega (arith, w.quick none);
      }
  locked-moves Open found w = λ world.
      plain-moved program s counted n next Open t (weight_of (Locking [] found ∷ below) t.work.opened) (Locking [] found ∷ below) w.alive w.apt (Ends_task ∷ Replies (shown_rows found) ∷ []) (tt, (tt, tt)) world
      (subst (λ b. Tasks_fit program.schema (current program s next) Open b t.work.opened t.saved) (sym w.fit.0) w.fit.1.1) w.quick
  locked-moves Failed found w = λ world. absurd w.alive

module _ (program : Program) (others : Around) (s : ℕ) (counted : Bool) (n next : ℕ) (block : Block_state) (t : Transaction) (below : List Task) where
  rows-moves : (select : Select) (mode : LockMode) (left : List ℕ) (found : List Row) → Working program s counted next block t (Locking left found ∷ below) → (has_any left ≡ true → counted ≡ true) →
      Plan_moves program others s counted n next block t (Locking left found ∷ below) (locking_plan program.schema others (party s t) block select mode left found)
  rows-moves select mode [] found w busy = locked-moves program others s counted n next t below block found w
  rows-moves select mode (row ∷ left) found w busy =
      on_locked-moves program others s counted n next block t (Locking (row ∷ left) found) below w (busy refl) row select left found (λ left shown. w.fit)
      (row_step program.schema others (party s t) select.table (To_lock mode) (select_test select) row)
      (row_step-blocked program.schema others (party s t) select.table (To_lock mode) (select_test select) row)

  mode-moves : (select : Select) (mode : Option LockMode) (left : List ℕ) (found : List Row) → is_some mode ≡ true → Working program s counted next block t (Locking left found ∷ below) →
      (has_any left ≡ true → counted ≡ true) →
      Plan_moves program others s counted n next block t (Locking left found ∷ below) (with_mode (λ mode. locking_plan program.schema others (party s t) block select mode left found) mode)
  mode-moves select None left found there w busy = absurd (false≢true there)
  mode-moves select (Some mode) left found there w busy = rows-moves select mode left found w busy

  pub locking-moves : (statement : Option Prepared) (left : List ℕ) (found : List Row) → is_locking statement ≡ true → Working program s counted next block t (Locking left found ∷ below) →
      (has_any left ≡ true → counted ≡ true) →
      Plan_moves program others s counted n next block t (Locking left found ∷ below)
      (on_select (λ select. with_mode (λ mode. locking_plan program.schema others (party s t) block select mode left found) select.lock) statement)
  locking-moves (Some (Ready (Selects select))) left found there w busy = mode-moves select select.lock left found there w busy
  locking-moves _ left found there w busy = absurd (false≢true there)
