-- A row that a step changes or locks is in nobody's way: events, actions, bodies, statements, errors.
use Rattle.std.proofs.Common.{ℕ, Bool, true, false, List, [], ◌∷◌, ◌++◌, Option, Some, None}
use Rattle.std.specs.Prelude.{◌+◌, slice_get}
use Rattle.aq_base.specs.Names.{Text}
use Rattle.aq_base.specs.Events.{Event}
use Rattle.aq_base.specs.Writes.{Writes}
use Rattle.aq_base.specs.Works.{Work}
use Rattle.aq_base.specs.Rules.{Rule, is_kept}
use Rattle.aq_base.specs.Rounds.{next_round, round_of}
use Rattle.aq_base.specs.declared.trace.Ending.{Ending}
use Rattle.aq_base.specs.declared.trace.Ending.TheVariants as endings
use Rattle.aq_base.specs.declared.catalog.ForeignKey.{ForeignKey}
use Rattle.aq_base.specs.declared.catalog.Trigger.{Trigger}
use Rattle.aq_base.specs.declared.catalog.Does.{Does}
use Rattle.aq_base.specs.declared.catalog.Does.TheVariants.{Check, Parent, Body, Native}
use Rattle.aq_base.specs.declared.constraint.Action.{Action}
use Rattle.aq_base.specs.declared.constraint.Action.TheVariants as actions
use Rattle.aq_outcomes.specs.Schemas.{Schema, trigger_at, rule_named, is_deferred}
use Rattle.aq_outcomes.specs.Parties.{Around, Party}
use Rattle.aq_outcomes.specs.Rows.{row_step}
use Rattle.aq_outcomes.specs.Queued.{queued_by_statement}
use Rattle.aq_outcomes.specs.References.{Checked, child_check, no_action_check, restrict_check, action_of, action_wish, action_test, acted_columns, action_op}
use Rattle.aq_outcomes.specs.References.Checked.{Passes, Skips, Waits_for, Mixed, Missing, Pair, Changed}
use Rattle.aq_run.specs.States.{Transaction, party}
use Rattle.aq_run.specs.States.Task.{Acting}
use Rattle.aq_run.specs.Effects.{Effect}
use Rattle.aq_run.specs.Effects.Effect.{Fires, Finishes, Queues}
use Rattle.aq_run.specs.Plans.{Plan}
use Rattle.aq_run.specs.Events.{on_checked, lock_effects, check_plan, parent_plan, parent_action_plan, on_trigger, on_does, set_effects, reads_set, native_plan, rule_plan, new_of, action_step, after_action, on_action, action_plan, on_recheck, recheck_plan, key_of_event, with_first_event, round_plan, take_or}
use Rattle.aq_run.proofs.Free_rows.{row_step-free}
use Rattle.aq_run.proofs.Free_plans.{Is_allowed, Each, Is_plan, done-append, Is_checked, on_outcome-plan, on_triggers-plan, child_check-free, no_action_check-free, restrict_check-free}

module _ (schema : Schema) (others : Around) (s : ℕ) (mine : Writes) where
  on_checked-plan : (f : ForeignKey) (before : List Effect) (number : ℕ) (ending : Ending) (checked : Checked) → Each (Is_allowed schema.catalog others s) before → Is_checked others s checked →
      Is_plan schema.catalog others s mine (on_checked schema f before number ending checked)
  on_checked-plan f before number ending (Passes None) each free = done-append schema.catalog others s mine before (Finishes number ending ∷ []) each (tt, tt)
  on_checked-plan f before number ending (Passes (Some row)) each free =
      done-append schema.catalog others s mine before (lock_effects (Some row) ++ Finishes number ending ∷ []) each (free, (tt, tt))
  on_checked-plan f before number ending Skips each free = done-append schema.catalog others s mine before (Finishes number endings.Skipped ∷ []) each (tt, tt)
  on_checked-plan f before number ending (Waits_for ask) each free = tt
  on_checked-plan f before number ending Mixed each free = each
  on_checked-plan f before number ending (Missing key database) each free = each
  on_checked-plan f before number ending (Pair parent child key) each free = each
  on_checked-plan f before number ending Changed each free = each

module _ (schema : Schema) (others : Around) (me : Party) where
  check_plan-plan : (event : Event) (f : Option ForeignKey) → Is_plan schema.catalog others me.session me.writes (check_plan schema others me event f)
  check_plan-plan event None = (tt, (tt, tt))
  check_plan-plan event (Some f) = on_checked-plan schema others me.session me.writes f (Fires event.number None ∷ []) event.number endings.Passed (child_check others me f event) (tt, tt) (child_check-free others me f event)

  action-plan : (event : Event) (f : ForeignKey) (action : Action) → Is_plan schema.catalog others me.session me.writes (parent_action_plan schema others me event f action)
  action-plan event f actions.NoAction = on_checked-plan schema others me.session me.writes f (Fires event.number None ∷ []) event.number endings.Passed (no_action_check others me f event) (tt, tt) (no_action_check-free others me f event)
  action-plan event f actions.Restrict = on_checked-plan schema others me.session me.writes f (Fires event.number None ∷ []) event.number endings.Passed (restrict_check others me f event) (tt, tt) (restrict_check-free others me f event)
  action-plan event f _ = (tt, tt)

  parent_plan-plan : (event : Event) (f : Option ForeignKey) → Is_plan schema.catalog others me.session me.writes (parent_plan schema others me event f)
  parent_plan-plan event None = (tt, (tt, tt))
  parent_plan-plan event (Some f) = action-plan event f (action_of f event.op)

  opening-plan : (event : Event) (reads : Bool) → Each (Is_allowed schema.catalog others me.session) (set_effects event reads)
  opening-plan event true = (tt, tt)
  opening-plan event false = tt

  rule_plan-plan : (event : Event) (name : Text) (kept : Bool) → Is_plan schema.catalog others me.session me.writes (rule_plan event name kept)
  rule_plan-plan event name true = (tt, (tt, tt))
  rule_plan-plan event name false = (tt, tt)

  native_plan-plan : (event : Event) (name : Text) (rule : Option Rule) → Is_plan schema.catalog others me.session me.writes (native_plan event name rule)
  native_plan-plan event name None = (tt, (tt, tt))
  native_plan-plan event name (Some rule) = rule_plan-plan event name (is_kept rule event.old (new_of event.new))

  on_does-plan : (event : Event) (trigger : Trigger) (does : Does) → Is_plan schema.catalog others me.session me.writes (on_does schema others me event trigger does)
  on_does-plan event trigger (Check f) = check_plan-plan event (slice_get schema.catalog.fks f)
  on_does-plan event trigger (Parent f) = parent_plan-plan event (slice_get schema.catalog.fks f)
  on_does-plan event trigger (Body body) = (tt, opening-plan event (reads_set trigger))
  on_does-plan event trigger (Native name) = native_plan-plan event name (rule_named schema name)

  on_trigger-plan : (event : Event) (trigger : Option Trigger) → Is_plan schema.catalog others me.session me.writes (on_trigger schema others me event trigger)
  on_trigger-plan event None = (tt, (tt, tt))
  on_trigger-plan event (Some trigger) = on_does-plan event trigger trigger.does

  take_or-plan : (events : List Event) (done : Plan) → Is_plan schema.catalog others me.session me.writes done → Is_plan schema.catalog others me.session me.writes (take_or events done)
  take_or-plan [] done is = is
  take_or-plan (event ∷ events) done is = (tt, tt)

  pub round_plan-plan : (work : Work) (round : List Event) (done : Plan) → Is_plan schema.catalog others me.session me.writes done →
      Is_plan schema.catalog others me.session me.writes (round_plan schema others me work round done)
  round_plan-plan work (event ∷ round) done is = on_trigger-plan event (trigger_at schema event.trigger)
  round_plan-plan work [] done is = take_or-plan (next_round (is_deferred schema work.modes) work work.opened) done is

module _ (schema : Schema) (others : Around) (s : ℕ) (t : Transaction) where
  after_action-allowed : (event : Event) (action : Action) (done : ℕ) → Is_allowed schema.catalog others s (after_action event action done)
  after_action-allowed event actions.SetDefault done = tt
  after_action-allowed event _ done = tt

  action_step-plan : (event : Event) (f : ForeignKey) (left : List ℕ) (done : ℕ) → Is_plan schema.catalog others s t.work.writes (action_step schema others (party s t) t event f left done)
  action_step-plan event f [] done =
      on_triggers-plan schema others s t.work.writes t (λ triggers. Queues f.child (action_op (action_of f event.op) event.op) triggers ∷ after_action event (action_of f event.op) done ∷ [])
      (queued_by_statement schema f.child (action_op (action_of f event.op) event.op) (acted_columns f event.op)) (λ found. (tt, (after_action-allowed event (action_of f event.op) done, tt)))
  action_step-plan event f (row ∷ left) done =
      on_outcome-plan schema others s t.work.writes row t (acted_columns f event.op) (Acting left (done + 1)) (λ values. Acting left done) (Acting left done)
      (row_step schema others (party s t) f.child (action_wish schema f event (action_of f event.op)) (action_test f event) row)
      (row_step-free schema others (party s t) f.child row (action_wish schema f event (action_of f event.op)) (action_test f event))

  on_action-plan : (left : List ℕ) (done : ℕ) (event : Event) (f : Option ForeignKey) → Is_plan schema.catalog others s t.work.writes (on_action schema others (party s t) t left done event f)
  on_action-plan left done event None = (tt, tt)
  on_action-plan left done event (Some f) = action_step-plan event f left done

  first_event-plan : (round : List Event) (plan : Event → Plan) → ((event : Event) → Is_plan schema.catalog others s t.work.writes (plan event)) → Is_plan schema.catalog others s t.work.writes (with_first_event round plan)
  first_event-plan [] plan is = tt
  first_event-plan (event ∷ round) plan is = is event

  pub action_plan-plan : (left : List ℕ) (done : ℕ) → Is_plan schema.catalog others s t.work.writes (action_plan schema others (party s t) t left done)
  action_plan-plan left done =
      first_event-plan (round_of t.work.opened) (λ event. on_action schema others (party s t) t left done event (key_of_event schema event)) (λ event. on_action-plan left done event (key_of_event schema event))

  on_recheck-plan : (done : ℕ) (event : Event) (f : Option ForeignKey) → Is_plan schema.catalog others s t.work.writes (on_recheck schema others (party s t) done event f)
  on_recheck-plan done event None = (tt, tt)
  on_recheck-plan done event (Some f) = on_checked-plan schema others s t.work.writes f [] event.number (endings.Acted done) (no_action_check others (party s t) f event) tt (no_action_check-free others (party s t) f event)

  pub recheck_plan-plan : (done : ℕ) → Is_plan schema.catalog others s t.work.writes (recheck_plan schema others (party s t) t done)
  recheck_plan-plan done =
      first_event-plan (round_of t.work.opened) (λ event. on_recheck schema others (party s t) done event (key_of_event schema event)) (λ event. on_recheck-plan done event (key_of_event schema event))
