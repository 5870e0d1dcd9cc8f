-- Rounds, their events, actions and rechecks.
use Rattle.std.proofs.Common.{◌≡◌, ◌<◌, ℕ, Bool, true, false, not, ◌||◌, List, [], ◌∷◌, Option, Some, None, refl, sym, ◌∙◌, ap, subst, arith}
use Rattle.std.specs.Prelude.{◌+◌, drop, slice_get, if◌then◌else◌}
use Rattle.std.specs.List.{list_all}
use Rattle.std.proofs.lemmas.Bool.{false≢true, true≢false, and_parts}
use Rattle.aq_base.specs.Names.{Text}
use Rattle.aq_base.specs.Rules.{Rule, is_kept}
use Rattle.aq_base.specs.Events.{Event, is_of_statement}
use Rattle.aq_base.specs.Frames.{first_frame}
use Rattle.aq_base.specs.Works.{Work, Opened, Saved}
use Rattle.aq_base.specs.Works.Kind.{Drain}
use Rattle.aq_base.specs.Rounds.{round_of, next_round, taken, taking, without_first, queued_on_top}
use Rattle.aq_base.specs.declared.data.LockMode.TheVariants as modes
use Rattle.aq_base.specs.declared.constraint.Action.{Action}
use Rattle.aq_base.specs.declared.constraint.Action.TheVariants as actions
use Rattle.aq_base.specs.declared.catalog.Does.{Does}
use Rattle.aq_base.specs.declared.catalog.Does.TheVariants.{Check, Parent, Body, Native}
use Rattle.aq_base.specs.declared.catalog.ForeignKey.{ForeignKey}
use Rattle.aq_base.specs.declared.catalog.Trigger.{Trigger}
use Rattle.aq_base.specs.declared.trigger.Each.TheVariants as each
use Rattle.aq_base.specs.declared.trigger.Each.{Each as Level_of_trigger}
use Rattle.aq_base.specs.declared.reply.ReplyLine.{ReplyLine}
use Rattle.aq_base.specs.declared.catalog.Op.{Op}
use Rattle.aq_base.specs.declared.trace.Ending.{Ending}
use Rattle.aq_base.specs.declared.trace.Ending.TheVariants as endings
use Rattle.aq_outcomes.specs.Schemas.{Schema, trigger_at, rule_named, is_deferred}
use Rattle.aq_outcomes.specs.Parties.{Around}
use Rattle.aq_outcomes.specs.Rows.{row_step}
use Rattle.aq_outcomes.specs.Queued.{is_for_rows, queued_by_statement, events_of}
use Rattle.aq_outcomes.specs.Faults.{missing_parent, mixed_key, still_referenced, not_serializable, rule_broken}
use Rattle.aq_outcomes.specs.References.{Checked, child_check, no_action_check, restrict_check, action_of, action_targets, action_wish, action_test, action_op, acted_columns}
use Rattle.aq_outcomes.specs.References.Checked.{Passes, Skips, Waits_for, Mixed, Missing, Pair, Changed}
use Rattle.aq_run.specs.Programs.{Program, Prepared}
use Rattle.aq_run.specs.States.{Place, Task, Block_state, Transaction, party}
use Rattle.aq_run.specs.States.Place.{In_session, In_body}
use Rattle.aq_run.specs.States.Task.{Changing, Locking, Rounds, Settling, Committing, Acting, Rechecking, Running}
use Rattle.aq_run.specs.States.Block_state.{Idle, Open, Failed}
use Rattle.aq_run.specs.Faults.{Fault, plain, found}
use Rattle.aq_run.specs.Faults.Finding.{No_parent, A_pair}
use Rattle.aq_run.specs.Effects.{effect, without_event_task, cleared_on_top, since_in, with_set}
use Rattle.aq_run.specs.Effects.Effect.{Turns, Opens, Closes_level, Closes_rounds, Takes_round, Locks, Queues, Fires, Closes_set, Finishes, Commits, Replies}
use Rattle.aq_run.specs.Events.{on_checked, check_plan, parent_action_plan, parent_plan, new_of, rule_plan, native_plan, set_effects, reads_set, on_does, on_trigger, event_plan, take_or, round_plan, closing, settled, committing, with_first_event, key_of_event, after_action, action_step, on_action, action_plan, on_recheck, recheck_plan}
use Rattle.aq_run.specs.Plans.{Plan}
use Rattle.aq_run.specs.Plans.Plan.{Does_all, Fails}
use Rattle.aq_run.specs.Replies.{changed_tag}
use Rattle.aq_run.specs.Steps.{current, has_any}
use Rattle.aq_run.specs.Measure.{weight_of}
use Rattle.aq_laws.specs.Stacks.{ActionsAreForRows, Fires_rounds, First_is_of_row, First_is, Tasks_fit, Block_fits}
use Rattle.aq_laws.proofs.Apt.{is_for_statements, is_apt, Opened_apt, the_statement_event}
use Rattle.aq_laws.proofs.Moves.{plain-moved}
use Rattle.aq_laws.proofs.Blocked.{Check_blocked, child_check-blocked, no_action_check-blocked, restrict_check-blocked, row_step-blocked}
use Rattle.aq_laws.proofs.Error_moves.{error-moved}
use Rattle.aq_laws.proofs.Row_moves.{Working, Plan_moves, refused-moves, on_triggers-moves, on_outcome-moves, queued-for-statements, retop, first-done, done-weight, Acting_ended, acting-ends, queue-acting}

-- ---- the first event of the round on top

first-is-apt : (schema : Schema) (opened : List Opened) (event : Event) (round : List Event) → Opened_apt schema opened → round_of opened ≡ event ∷ round → is_apt schema event ≡ true
first-is-apt schema [] event round apt is = absurd (false≢true (ap has_any is))
first-is-apt schema (top ∷ rest) event round apt is =
    (and_parts (is_apt schema event) (list_all (is_apt schema) round) (subst (λ events. list_all (is_apt schema) events ≡ true) is apt.1.0)).0

by-level : (of_statement : Bool) (level : Level_of_trigger) → level ≡ each.Row → (not of_statement || not (is_for_rows level)) ≡ true → of_statement ≡ false
by-level false level is apt = refl
by-level true level is apt = absurd (false≢true (ap (λ l. not (is_for_rows l)) (sym is) ∙ apt))

-- an event of a foreign key's parent is one of a row
of-row : (schema : Schema) → ActionsAreForRows schema.catalog → (event : Event) (trigger : Trigger) (f : ℕ) → trigger_at schema event.trigger ≡ Some trigger → trigger.does ≡ Parent f →
    is_apt schema event ≡ true → is_of_statement event ≡ false
of-row schema are event trigger f is does apt =
    by-level (is_of_statement event) trigger.level (are event.trigger f trigger is does) (ap (λ found. not (is_of_statement event) || is_for_statements found) (sym is) ∙ apt)

fires-stay : (tasks : List Task) → Fires_rounds tasks → without_event_task tasks ≡ tasks
fires-stay (Rounds place done ∷ below) fires = refl
fires-stay (Settling place ∷ below) fires = refl
fires-stay (Committing changed ∷ below) fires = refl
fires-stay [] fires = absurd fires
fires-stay (Changing place left done ∷ below) fires = absurd fires
fires-stay (Locking left shown ∷ below) fires = absurd fires
fires-stay (Acting left done ∷ below) fires = absurd fires
fires-stay (Rechecking done ∷ below) fires = absurd fires
fires-stay (Running event frame ∷ below) fires = absurd fires

-- ---- the step of an event

module _ (program : Program) (others : Around) (s : ℕ) (counted : Bool) (n next : ℕ) (block : Block_state) (t : Transaction) (tasks : List Task)
    (w : Working program s counted next block t tasks) (fires : Fires_rounds tasks) (busy : counted ≡ true) where
  abbrev Left : Plan → Type 0
  Left plan = Plan_moves program others s counted n next block t tasks plan

  abbrev Fit_with : List Task → List Opened → Type 0
  Fit_with all opened = Tasks_fit program.schema (current program s next) block all opened t.saved

  failed : (number : ℕ) (fault : Fault) → Left (Fails (Fires number None ∷ []) fault)
  unfolding effect
  failed number fault world world' = error-moved program s counted n next block t (weight_of tasks t.work.opened) tasks w.alive w.apt w.fit w.quick fault world'

  done-fits : Fit_with (without_event_task tasks) (without_first t.work.opened)
  done-fits = subst (λ all. Fit_with all (without_first t.work.opened)) (sym (fires-stay tasks fires)) (first-done program.schema (current program s next) block t.saved tasks fires t.work.opened w.fit)

  ends : (number it : ℕ) (ending : Ending) → Left (Does_all (Fires number None ∷ Finishes it ending ∷ []))
  unfolding effect
  ends number it ending world =
      plain-moved program s counted n next block t (weight_of tasks t.work.opened) tasks w.alive w.apt (Fires number None ∷ Finishes it ending ∷ []) (tt, (tt, tt)) world done-fits (λ none. absurd (true≢false (sym busy ∙ none)))

  ends-locked : (number it row : ℕ) (ending : Ending) → Left (Does_all (Fires number None ∷ Locks row modes.KeyShare ∷ Finishes it ending ∷ []))
  unfolding effect
  ends-locked number it row ending world =
      plain-moved program s counted n next block t (weight_of tasks t.work.opened) tasks w.alive w.apt (Fires number None ∷ Locks row modes.KeyShare ∷ Finishes it ending ∷ []) (tt, (tt, (tt, tt))) world done-fits
      (λ none. absurd (true≢false (sym busy ∙ none)))

  checked-moves : (f : ForeignKey) (number : ℕ) (ending : Ending) (checked : Checked) → Check_blocked program.schema.catalog others s checked →
      Left (on_checked program.schema f (Fires number None ∷ []) number ending checked)
  checked-moves f number ending (Passes None) blocked = ends number number ending
  checked-moves f number ending (Passes (Some row)) blocked = ends-locked number number row ending
  checked-moves f number ending Skips blocked = ends number number endings.Skipped
  checked-moves f number ending (Waits_for ask) blocked = blocked
  checked-moves f number ending Mixed blocked = failed number (plain (mixed_key program.schema f))
  checked-moves f number ending (Missing key database) blocked = failed number (found (No_parent key database) (missing_parent program.schema f key))
  checked-moves f number ending (Pair parent child key) blocked = failed number (found (A_pair parent child) (still_referenced program.schema f key))
  checked-moves f number ending Changed blocked = failed number (plain not_serializable)

  check-moves : (event : Event) (f : Option ForeignKey) → Left (check_plan program.schema others (party s t) event f)
  check-moves event None = ends event.number event.number endings.Skipped
  check-moves event (Some f) = checked-moves f event.number endings.Passed (child_check others (party s t) f event) (child_check-blocked program.schema.catalog others (party s t) f event)

  acts : (event : Event) (targets : List ℕ) → First_is_of_row (round_of t.work.opened) → Left (Does_all (Fires event.number (Some (Acting targets 0)) ∷ []))
  unfolding effect
  acts event targets first world =
      plain-moved program s counted n next block t (weight_of tasks t.work.opened) tasks w.alive w.apt (Fires event.number (Some (Acting targets 0)) ∷ []) (tt, tt) world (first, (fires, w.fit))
      (λ none. absurd (true≢false (sym busy ∙ none)))

  parent-moves : (event : Event) (f : ForeignKey) (action : Action) → First_is_of_row (round_of t.work.opened) → Left (parent_action_plan program.schema others (party s t) event f action)
  parent-moves event f actions.NoAction first =
      checked-moves f event.number endings.Passed (no_action_check others (party s t) f event) (no_action_check-blocked program.schema.catalog others (party s t) f event)
  parent-moves event f actions.Restrict first =
      checked-moves f event.number endings.Passed (restrict_check others (party s t) f event) (restrict_check-blocked program.schema.catalog others (party s t) f event)
  parent-moves event f _ first = acts event (action_targets others (party s t) f event) first

  parent_plan-moves : (event : Event) (f : Option ForeignKey) → First_is_of_row (round_of t.work.opened) → Left (parent_plan program.schema others (party s t) event f)
  parent_plan-moves event None first = ends event.number event.number endings.Skipped
  parent_plan-moves event (Some f) first = parent-moves event f (action_of f event.op) first

  opens-body : (event : Event) (reads : Bool) → First_is event (round_of t.work.opened) → Left (Does_all (Fires event.number (Some (Running event first_frame)) ∷ set_effects event reads))
  unfolding effect
  opens-body event true first world =
      plain-moved program s counted n next block t (weight_of tasks t.work.opened) tasks w.alive w.apt (Fires event.number (Some (Running event first_frame)) ∷ Closes_set event.set ∷ []) (tt, (tt, tt)) world (first, (fires, (tt, w.fit)))
      (λ none. absurd (true≢false (sym busy ∙ none)))
  opens-body event false first world =
      plain-moved program s counted n next block t (weight_of tasks t.work.opened) tasks w.alive w.apt (Fires event.number (Some (Running event first_frame)) ∷ []) (tt, tt) world (first, (fires, (tt, w.fit)))
      (λ none. absurd (true≢false (sym busy ∙ none)))

  rule-moves : (event : Event) (name : Text) (kept : Bool) → Left (rule_plan event name kept)
  rule-moves event name true = ends event.number event.number endings.Passed
  rule-moves event name false = failed event.number (plain (rule_broken name (new_of event.new)))

  native-moves : (event : Event) (name : Text) (rule : Option Rule) → Left (native_plan event name rule)
  native-moves event name None = ends event.number event.number endings.Skipped
  native-moves event name (Some rule) = rule-moves event name (is_kept rule event.old (new_of event.new))

  does-moves : ActionsAreForRows program.schema.catalog → (event : Event) (round : List Event) → round_of t.work.opened ≡ event ∷ round → (trigger : Trigger) → trigger_at program.schema event.trigger ≡ Some trigger →
      (does : Does) → trigger.does ≡ does → Left (on_does program.schema others (party s t) event trigger does)
  does-moves are event round is trigger found (Check f) does = check-moves event (slice_get program.schema.catalog.fks f)
  does-moves are event round is trigger found (Parent f) does =
      parent_plan-moves event (slice_get program.schema.catalog.fks f)
      (subst First_is_of_row (sym is) (of-row program.schema are event trigger f found does (first-is-apt program.schema t.work.opened event round w.apt.0.1 is)))
  does-moves are event round is trigger found (Body body) does = opens-body event (reads_set trigger) (subst (First_is event) (sym is) refl)
  does-moves are event round is trigger found (Native name) does = native-moves event name (rule_named program.schema name)

  trigger-moves : ActionsAreForRows program.schema.catalog → (event : Event) (round : List Event) → round_of t.work.opened ≡ event ∷ round → (trigger : Option Trigger) → trigger_at program.schema event.trigger ≡ trigger →
      Left (on_trigger program.schema others (party s t) event trigger)
  trigger-moves are event round is None found = ends event.number event.number endings.Skipped
  trigger-moves are event round is (Some trigger) found = does-moves are event round is trigger found trigger.does refl

  pub event_plan-moves : ActionsAreForRows program.schema.catalog → (event : Event) (round : List Event) → round_of t.work.opened ≡ event ∷ round → Left (event_plan program.schema others (party s t) event)
  event_plan-moves are event round is = trigger-moves are event round is (trigger_at program.schema event.trigger) refl

-- ---- a round is taken

owed-any : (b : Bool) (w : ℕ) → b ≡ true → (if b then w else w + 1) ≡ w
owed-any true w is = refl
owed-any false w is = absurd (false≢true is)

owed-none : (b : Bool) (w : ℕ) → b ≡ false → (if b then w else w + 1) ≡ w + 1
owed-none true w is = absurd (true≢false is)
owed-none false w is = refl

taking-fits : (schema : Schema) (statement : Option Prepared) (block : Block_state) (saved : List Saved) (tasks : List Task) → Fires_rounds tasks → (is_late : Event → Bool) (deferred : List Event) (opened : List Opened) →
    Tasks_fit schema statement block tasks opened saved → Tasks_fit schema statement block tasks (taking is_late deferred opened) saved
taking-fits schema statement block saved tasks fires is_late deferred [] fit = fit
taking-fits schema statement block saved tasks fires is_late deferred (top ∷ rest) fit =
    retop schema statement block saved tasks fires top (record top { queued = []; round = taken is_late top.kind deferred top.queued }) rest refl fit

-- rounds that owed a step owe it no longer
no-longer-owed : (tasks : List Task) → Fires_rounds tasks → (top top' : Opened) (rest : List Opened) → has_any top.round ≡ false → has_any top'.round ≡ true →
    weight_of tasks (top' ∷ rest) < weight_of tasks (top ∷ rest)
no-longer-owed (Rounds place done ∷ below) fires top top' rest none any = omega (arith, owed-none (has_any top.round) 2 none, owed-any (has_any top'.round) 2 any)
no-longer-owed (Settling place ∷ below) fires top top' rest none any = omega (arith, owed-none (has_any top.round) 1 none, owed-any (has_any top'.round) 1 any)
no-longer-owed (Committing changed ∷ below) fires top top' rest none any = omega (arith, owed-none (has_any top.round) 1 none, owed-any (has_any top'.round) 1 any)
no-longer-owed [] fires top top' rest none any = absurd fires
no-longer-owed (Changing place left done ∷ below) fires top top' rest none any = absurd fires
no-longer-owed (Locking left shown ∷ below) fires top top' rest none any = absurd fires
no-longer-owed (Acting left done ∷ below) fires top top' rest none any = absurd fires
no-longer-owed (Rechecking done ∷ below) fires top top' rest none any = absurd fires
no-longer-owed (Running event frame ∷ below) fires top top' rest none any = absurd fires

taking-lighter : (tasks : List Task) → Fires_rounds tasks → (is_late : Event → Bool) (work : Work) (opened : List Opened) (event : Event) (events : List Event) → round_of opened ≡ [] →
    next_round is_late work opened ≡ event ∷ events → weight_of tasks (taking is_late work.deferred opened) < weight_of tasks opened
taking-lighter tasks fires is_late work [] event events empty takes = absurd (false≢true (ap has_any takes))
taking-lighter tasks fires is_late work (top ∷ rest) event events empty takes =
    no-longer-owed tasks fires top (record top { queued = []; round = taken is_late top.kind work.deferred top.queued }) rest (ap has_any empty) (ap has_any takes)

module _ (program : Program) (others : Around) (s : ℕ) (counted : Bool) (n next : ℕ) (block : Block_state) (t : Transaction) (tasks : List Task)
    (w : Working program s counted next block t tasks) (fires : Fires_rounds tasks) where
  takes-round : (event : Event) (events : List Event) → round_of t.work.opened ≡ [] → next_round (is_deferred program.schema t.work.modes) t.work t.work.opened ≡ event ∷ events →
      Plan_moves program others s counted n next block t tasks (Does_all (Takes_round ∷ []))
  unfolding effect
  takes-round event events empty takes world =
      plain-moved program s counted n next block t (weight_of tasks t.work.opened) tasks w.alive w.apt (Takes_round ∷ []) (tt, tt) world
      (taking-fits program.schema (current program s next) block t.saved tasks fires (is_deferred program.schema t.work.modes) t.work.deferred t.work.opened w.fit)
      (λ none. taking-lighter tasks fires (is_deferred program.schema t.work.modes) t.work t.work.opened event events empty takes)

  take_or-moves : (events : List Event) (done : Plan) → round_of t.work.opened ≡ [] → next_round (is_deferred program.schema t.work.modes) t.work t.work.opened ≡ events →
      Plan_moves program others s counted n next block t tasks done → Plan_moves program others s counted n next block t tasks (take_or events done)
  take_or-moves [] done empty takes moves = moves
  take_or-moves (event ∷ events) done empty takes moves = takes-round event events empty takes

  pub round-moves : ActionsAreForRows program.schema.catalog → (round : List Event) (done : Plan) → round_of t.work.opened ≡ round → (has_any round ≡ true → counted ≡ true) →
      (round_of t.work.opened ≡ [] → Plan_moves program others s counted n next block t tasks done) →
      Plan_moves program others s counted n next block t tasks (round_plan program.schema others (party s t) t.work round done)
  round-moves are (event ∷ round) done is busy moves = event_plan-moves program others s counted n next block t tasks w fires (busy refl) are event round is
  round-moves are [] done is busy moves =
      take_or-moves (next_round (is_deferred program.schema t.work.modes) t.work t.work.opened) done is refl (moves is)

-- ---- what ends a level, the rounds of a SET CONSTRAINTS and the drain

module _ (schema : Schema) (statement : Option Prepared) (block : Block_state) (saved : List Saved) where
  level-ends : (place : Place) (done : ℕ) (below : List Task) (opened : List Opened) → Tasks_fit schema statement block (Rounds place done ∷ below) opened saved →
      Tasks_fit schema statement block below (drop 1 opened) saved
  level-ends place done below [] fit = absurd fit
  level-ends place done below (top ∷ rest) fit = fit.1.1

  settling-ends : (place : Place) (below : List Task) (opened : List Opened) → Tasks_fit schema statement block (Settling place ∷ below) opened saved →
      Tasks_fit schema statement block below (drop 1 opened) saved
  settling-ends place below [] fit = absurd fit
  settling-ends place below (top ∷ rest) fit = fit.1.1

  -- the statement of a session was all that was in progress
  alone : (done : ℕ) (below : List Task) (opened : List Opened) → Tasks_fit schema statement block (Rounds In_session done ∷ below) opened saved → (below ≡ []) × (drop 1 opened ≡ [])
  alone done below [] fit = absurd fit
  alone done [] (top ∷ rest) fit = (refl, fit.1.1.0)
  alone done (task ∷ below) (top ∷ rest) fit = absurd fit.1.0

  drain-alone : (changed : Option ℕ) (below : List Task) (opened : List Opened) → Tasks_fit schema statement block (Committing changed ∷ below) opened saved → block ≡ Idle
  drain-alone changed below [] fit = absurd fit
  drain-alone changed below (top ∷ rest) fit = fit.1.1.1.1

module _ (program : Program) (others : Around) (s : ℕ) (counted : Bool) (n next : ℕ) (t : Transaction) (below : List Task) where
  closing-moves : (block : Block_state) (place : Place) (done : ℕ) → Working program s counted next block t (Rounds place done ∷ below) → round_of t.work.opened ≡ [] → (statement : Option Prepared) →
      Plan_moves program others s counted n next block t (Rounds place done ∷ below) (closing place block done statement)
  unfolding effect
  closing-moves block In_body done w empty statement = λ world.
      plain-moved program s counted n next block t (weight_of (Rounds In_body done ∷ below) t.work.opened) (Rounds In_body done ∷ below) w.alive w.apt (Closes_level ∷ []) (tt, tt) world
      (level-ends program.schema (current program s next) block t.saved In_body done below t.work.opened w.fit) w.quick
  closing-moves Idle In_session done w empty statement = λ world.
      plain-moved program s counted n next Idle t (weight_of (Rounds In_session done ∷ below) t.work.opened) (Rounds In_session done ∷ below) w.alive w.apt (Closes_level ∷ Opens Drain (Committing (Some done)) ∷ []) (tt, (tt, tt)) world
      (refl, ((alone program.schema (current program s next) Idle t.saved done below t.work.opened w.fit).0, ((alone program.schema (current program s next) Idle t.saved done below t.work.opened w.fit).1, (refl, refl))))
      (λ none. omega (arith, owed-none (has_any (round_of t.work.opened)) 2 (ap has_any empty)))
  closing-moves Open In_session done w empty statement = λ world.
      plain-moved program s counted n next Open t (weight_of (Rounds In_session done ∷ below) t.work.opened) (Rounds In_session done ∷ below) w.alive w.apt (Closes_level ∷ Replies (changed_tag statement done) ∷ []) (tt, (tt, tt)) world
      (level-ends program.schema (current program s next) Open t.saved In_session done below t.work.opened w.fit) w.quick
  closing-moves Failed In_session done w empty statement = λ world. absurd w.alive

module _ (program : Program) (others : Around) (s : ℕ) (counted : Bool) (n next : ℕ) (block : Block_state) (t : Transaction) (below : List Task) where
  pub rounds-moves : ActionsAreForRows program.schema.catalog → (place : Place) (done : ℕ) → Working program s counted next block t (Rounds place done ∷ below) → (has_any (round_of t.work.opened) ≡ true → counted ≡ true) → (statement : Option Prepared) →
      Plan_moves program others s counted n next block t (Rounds place done ∷ below) (round_plan program.schema others (party s t) t.work (round_of t.work.opened) (closing place block done statement))
  rounds-moves are place done w busy statement =
      round-moves program others s counted n next block t (Rounds place done ∷ below) w tt are (round_of t.work.opened) (closing place block done statement) refl busy
      (λ empty. closing-moves program others s counted n next t below block place done w empty statement)

  settled-moves : (place : Place) → Working program s counted next block t (Settling place ∷ below) → (lines : List ReplyLine) →
      Plan_moves program others s counted n next block t (Settling place ∷ below) (settled place (Replies lines ∷ []))
  unfolding effect
  settled-moves In_session w lines = λ world.
      plain-moved program s counted n next block t (weight_of (Settling In_session ∷ below) t.work.opened) (Settling In_session ∷ below) w.alive w.apt (Closes_rounds ∷ Replies lines ∷ []) (tt, (tt, tt)) world
      (settling-ends program.schema (current program s next) block t.saved In_session below t.work.opened w.fit) w.quick
  settled-moves In_body w lines = λ world.
      plain-moved program s counted n next block t (weight_of (Settling In_body ∷ below) t.work.opened) (Settling In_body ∷ below) w.alive w.apt (Closes_rounds ∷ []) (tt, tt) world
      (settling-ends program.schema (current program s next) block t.saved In_body below t.work.opened w.fit) w.quick

  pub settling-moves : ActionsAreForRows program.schema.catalog → (place : Place) → Working program s counted next block t (Settling place ∷ below) → (has_any (round_of t.work.opened) ≡ true → counted ≡ true) → (lines : List ReplyLine) →
      Plan_moves program others s counted n next block t (Settling place ∷ below) (round_plan program.schema others (party s t) t.work (round_of t.work.opened) (settled place (Replies lines ∷ [])))
  settling-moves are place w busy lines =
      round-moves program others s counted n next block t (Settling place ∷ below) w tt are (round_of t.work.opened) (settled place (Replies lines ∷ [])) refl busy (λ empty. settled-moves place w lines)

idle-fits : (block : Block_state) → block ≡ Idle → Block_fits block None []
idle-fits Idle is = tt
idle-fits Open is = absurd (cc)
idle-fits Failed is = refl

module _ (program : Program) (others : Around) (s : ℕ) (counted : Bool) (n next : ℕ) (block : Block_state) (t : Transaction) (below : List Task) (changed : Option ℕ)
    (w : Working program s counted next block t (Committing changed ∷ below)) where
  commits : (lines : List ReplyLine) → Plan_moves program others s counted n next block t (Committing changed ∷ below) (Does_all (Commits ∷ Replies lines ∷ []))
  unfolding effect
  commits lines world =
      record {
        next_is = refl;
        goes_on = refl;
        steps = tt;
        stands = record { tasks = refl; block = idle-fits block (drain-alone program.schema (current program s next) block t.saved changed below t.work.opened w.fit); apt = tt };
        lighter = λ none. omega (arith, w.quick none);
      }

  committed-moves : (done : Option ℕ) (statement : Option Prepared) (lines : List ReplyLine) →
      Plan_moves program others s counted n next block t (Committing changed ∷ below) (committing done statement (Replies lines ∷ []))
  committed-moves None statement lines = commits lines
  committed-moves (Some done) statement lines = commits (changed_tag statement done)

  pub drain-moves : ActionsAreForRows program.schema.catalog → (has_any (round_of t.work.opened) ≡ true → counted ≡ true) → (statement : Option Prepared) (lines : List ReplyLine) →
      Plan_moves program others s counted n next block t (Committing changed ∷ below)
      (round_plan program.schema others (party s t) t.work (round_of t.work.opened) (committing changed statement (Replies lines ∷ [])))
  drain-moves are busy statement lines =
      round-moves program others s counted n next block t (Committing changed ∷ below) w tt are (round_of t.work.opened) (committing changed statement (Replies lines ∷ [])) refl busy
      (λ empty. committed-moves changed statement lines)

-- ---- actions

module _ (program : Program) (others : Around) (s : ℕ) (counted : Bool) (n next : ℕ) (block : Block_state) (t : Transaction) (left : List ℕ) (done : ℕ) (below : List Task)
    (w : Working program s counted next block t (Acting left done ∷ below)) where
  abbrev Acts : Plan → Type 0
  Acts plan = Plan_moves program others s counted n next block t (Acting left done ∷ below) plan

  acted : (number : ℕ) (ending : Ending) → Acts (Does_all (Finishes number ending ∷ []))
  unfolding effect
  acted number ending world =
      plain-moved program s counted n next block t (weight_of (Acting left done ∷ below) t.work.opened) (Acting left done ∷ below) w.alive w.apt (Finishes number ending ∷ []) (tt, tt) world
      (first-done program.schema (current program s next) block t.saved below w.fit.1.0 t.work.opened w.fit.1.1)
      (λ none. omega (arith, done-weight below w.fit.1.0 t.work.opened))

  acted-done : (table : ℕ) (op : Op) (triggers : List ℕ) → list_all (λ n. is_for_statements (trigger_at program.schema n)) triggers ≡ true → (number : ℕ) (ending : Ending) →
      Acts (Does_all (Queues table op triggers ∷ Finishes number ending ∷ []))
  unfolding effect
  acted-done table op triggers are number ending world =
      let events : List Event = events_of (the_statement_event table op (record t { steps = n })) t.events triggers in
      let since : ℕ = since_in table op (with_set table op t.events t.work) in
      let ended : Acting_ended program.schema (current program s next) block t.saved events table op since below t.work.opened =
      acting-ends program.schema (current program s next) block t.saved events table op since left done below t.work.opened w.fit in
      plain-moved program s counted n next block t (weight_of (Acting left done ∷ below) t.work.opened) (Acting left done ∷ below) w.alive w.apt (Queues table op triggers ∷ Finishes number ending ∷ []) (are, (tt, tt)) world
      (first-done program.schema (current program s next) block t.saved below w.fit.1.0 (queued_on_top events (cleared_on_top table op since t.work.opened)) ended.below_fits)
      (λ none. omega (arith, ended.weighs, done-weight below w.fit.1.0 (queued_on_top events (cleared_on_top table op since t.work.opened))))

  acted-end : (table : ℕ) (op : Op) (triggers : List ℕ) → list_all (λ n. is_for_statements (trigger_at program.schema n)) triggers ≡ true → (event : Event) (action : Action) →
      Acts (Does_all (Queues table op triggers ∷ after_action event action done ∷ []))
  unfolding effect
  acted-end table op triggers are event actions.SetDefault world =
      let events : List Event = events_of (the_statement_event table op (record t { steps = n })) t.events triggers in
      let since : ℕ = since_in table op (with_set table op t.events t.work) in
      let ended : Acting_ended program.schema (current program s next) block t.saved events table op since below t.work.opened =
      acting-ends program.schema (current program s next) block t.saved events table op since left done below t.work.opened w.fit in
      plain-moved program s counted n next block t (weight_of (Acting left done ∷ below) t.work.opened) (Acting left done ∷ below) w.alive w.apt (Queues table op triggers ∷ Turns (Rechecking done) ∷ []) (are, (tt, tt)) world
      (ended.first, (w.fit.1.0, ended.below_fits))
      (λ none. omega (arith, ended.weighs))
  acted-end table op triggers are event actions.NoAction world = acted-done table op triggers are event.number (endings.Acted done) world
  acted-end table op triggers are event actions.Restrict world = acted-done table op triggers are event.number (endings.Acted done) world
  acted-end table op triggers are event actions.Cascade world = acted-done table op triggers are event.number (endings.Acted done) world
  acted-end table op triggers are event actions.SetNull world = acted-done table op triggers are event.number (endings.Acted done) world

module _ (program : Program) (others : Around) (s : ℕ) (counted : Bool) (n next : ℕ) (block : Block_state) (t : Transaction) (below : List Task) where
  step-moves : (left : List ℕ) (done : ℕ) → Working program s counted next block t (Acting left done ∷ below) → (has_any left ≡ true → counted ≡ true) → (event : Event) (f : ForeignKey) →
      Plan_moves program others s counted n next block t (Acting left done ∷ below) (action_step program.schema others (party s t) t event f left done)
  step-moves [] done w busy event f =
      on_triggers-moves program others s counted n next block t (Acting [] done ∷ below) w
      (λ triggers. Queues f.child (action_op (action_of f event.op) event.op) triggers ∷ after_action event (action_of f event.op) done ∷ [])
      (queued_by_statement program.schema f.child (action_op (action_of f event.op) event.op) (acted_columns f event.op))
      (λ triggers is.
      acted-end program others s counted n next block t [] done below w f.child (action_op (action_of f event.op) event.op) triggers
      (queued-for-statements program.schema f.child (action_op (action_of f event.op) event.op) (acted_columns f event.op) triggers is) event (action_of f event.op))
  step-moves (row ∷ left) done w busy event f =
      on_outcome-moves program others s counted n next block t (Acting (row ∷ left) done) below w (busy refl) (acted_columns f event.op) (Acting left (done + 1)) (λ values. Acting left done) (Acting left done)
      (λ events. queue-acting program.schema (current program s next) block t.saved events (row ∷ left) left done (done + 1) below t.work.opened w.fit)
      (λ values. w.fit) w.fit
      (row_step program.schema others (party s t) f.child (action_wish program.schema f event (action_of f event.op)) (action_test f event) row)
      (row_step-blocked program.schema others (party s t) f.child (action_wish program.schema f event (action_of f event.op)) (action_test f event) row)

  on_action-moves : (left : List ℕ) (done : ℕ) → Working program s counted next block t (Acting left done ∷ below) → (has_any left ≡ true → counted ≡ true) → (event : Event) (f : Option ForeignKey) →
      Plan_moves program others s counted n next block t (Acting left done ∷ below) (on_action program.schema others (party s t) t left done event f)
  on_action-moves left done w busy event None = acted program others s counted n next block t left done below w event.number (endings.Acted done)
  on_action-moves left done w busy event (Some f) = step-moves left done w busy event f

  first-moves : (left : List ℕ) (done : ℕ) → Working program s counted next block t (Acting left done ∷ below) → (has_any left ≡ true → counted ≡ true) → (round : List Event) → round_of t.work.opened ≡ round →
      Plan_moves program others s counted n next block t (Acting left done ∷ below) (with_first_event round (λ event. on_action program.schema others (party s t) t left done event (key_of_event program.schema event)))
  first-moves left done w busy [] is = absurd (subst First_is_of_row is w.fit.0)
  first-moves left done w busy (event ∷ round) is = on_action-moves left done w busy event (key_of_event program.schema event)

  pub action-moves : (left : List ℕ) (done : ℕ) → Working program s counted next block t (Acting left done ∷ below) → (has_any left ≡ true → counted ≡ true) →
      Plan_moves program others s counted n next block t (Acting left done ∷ below) (action_plan program.schema others (party s t) t left done)
  action-moves left done w busy = first-moves left done w busy (round_of t.work.opened) refl

-- ---- rechecks

module _ (program : Program) (others : Around) (s : ℕ) (counted : Bool) (n next : ℕ) (block : Block_state) (t : Transaction) (done : ℕ) (below : List Task)
    (w : Working program s counted next block t (Rechecking done ∷ below)) where
  abbrev Rechecks : Plan → Type 0
  Rechecks plan = Plan_moves program others s counted n next block t (Rechecking done ∷ below) plan

  rechecked : (number : ℕ) (ending : Ending) → Rechecks (Does_all (Finishes number ending ∷ []))
  unfolding effect
  rechecked number ending world =
      plain-moved program s counted n next block t (weight_of (Rechecking done ∷ below) t.work.opened) (Rechecking done ∷ below) w.alive w.apt (Finishes number ending ∷ []) (tt, tt) world
      (first-done program.schema (current program s next) block t.saved below w.fit.1.0 t.work.opened w.fit.1.1)
      (λ none. omega (arith, done-weight below w.fit.1.0 t.work.opened))

  rechecked-locked : (row number : ℕ) (ending : Ending) → Rechecks (Does_all (Locks row modes.KeyShare ∷ Finishes number ending ∷ []))
  unfolding effect
  rechecked-locked row number ending world =
      plain-moved program s counted n next block t (weight_of (Rechecking done ∷ below) t.work.opened) (Rechecking done ∷ below) w.alive w.apt (Locks row modes.KeyShare ∷ Finishes number ending ∷ []) (tt, (tt, tt)) world
      (first-done program.schema (current program s next) block t.saved below w.fit.1.0 t.work.opened w.fit.1.1)
      (λ none. omega (arith, done-weight below w.fit.1.0 t.work.opened))

  checked-again : (f : ForeignKey) (number : ℕ) (ending : Ending) (checked : Checked) → Check_blocked program.schema.catalog others s checked → Rechecks (on_checked program.schema f [] number ending checked)
  checked-again f number ending (Passes None) blocked = rechecked number ending
  checked-again f number ending (Passes (Some row)) blocked = rechecked-locked row number ending
  checked-again f number ending Skips blocked = rechecked number endings.Skipped
  checked-again f number ending (Waits_for ask) blocked = blocked
  checked-again f number ending Mixed blocked = refused-moves program others s counted n next block t (Rechecking done ∷ below) w (plain (mixed_key program.schema f))
  checked-again f number ending (Missing key database) blocked = refused-moves program others s counted n next block t (Rechecking done ∷ below) w (found (No_parent key database) (missing_parent program.schema f key))
  checked-again f number ending (Pair parent child key) blocked = refused-moves program others s counted n next block t (Rechecking done ∷ below) w (found (A_pair parent child) (still_referenced program.schema f key))
  checked-again f number ending Changed blocked = refused-moves program others s counted n next block t (Rechecking done ∷ below) w (plain not_serializable)

  on_recheck-moves : (event : Event) (f : Option ForeignKey) → Rechecks (on_recheck program.schema others (party s t) done event f)
  on_recheck-moves event None = rechecked event.number (endings.Acted done)
  on_recheck-moves event (Some f) =
      checked-again f event.number (endings.Acted done) (no_action_check others (party s t) f event) (no_action_check-blocked program.schema.catalog others (party s t) f event)

  first-again : (round : List Event) → round_of t.work.opened ≡ round →
      Rechecks (with_first_event round (λ event. on_recheck program.schema others (party s t) done event (key_of_event program.schema event)))
  first-again [] is = absurd (subst First_is_of_row is w.fit.0)
  first-again (event ∷ round) is = on_recheck-moves event (key_of_event program.schema event)

  pub recheck-moves : Rechecks (recheck_plan program.schema others (party s t) t done)
  recheck-moves = first-again (round_of t.work.opened) refl
