-- The rounds of levels, of SET CONSTRAINTS and of the drain, and the steps of their events (PostgreSQL source, trigger.c,
-- afterTriggerInvokeEvents; ri_triggers.c).
use Rattle.std.specs.Prelude.{ℕ, ◌+◌, Bool, ◌||◌, List, [], ◌∷◌, ◌++◌, Option, Some, None, if◌then◌else◌, is_some, slice_get, true, false}
use Rattle.aq_base.specs.Values.{Row}
use Rattle.aq_base.specs.Names.{Text}
use Rattle.aq_base.specs.Rules.{Rule, is_kept}
use Rattle.aq_base.specs.Events.{Event}
use Rattle.aq_base.specs.Works.{Work}
use Rattle.aq_base.specs.Works.Kind.{Drain}
use Rattle.aq_base.specs.Rounds.{next_round, round_of}
use Rattle.aq_base.specs.Frames.{first_frame}
use Rattle.aq_base.specs.declared.data.LockMode.TheVariants as modes
use Rattle.aq_base.specs.declared.constraint.Action.{Action}
use Rattle.aq_base.specs.declared.constraint.Action.TheVariants as actions
use Rattle.aq_base.specs.declared.catalog.Does.{Does}
use Rattle.aq_base.specs.declared.catalog.Does.TheVariants.{Check, Parent, Body, Native}
use Rattle.aq_base.specs.declared.catalog.ForeignKey.{ForeignKey}
use Rattle.aq_base.specs.declared.catalog.Trigger.{Trigger}
use Rattle.aq_base.specs.declared.trace.Ending.{Ending}
use Rattle.aq_base.specs.declared.trace.Ending.TheVariants as endings
use Rattle.aq_outcomes.specs.Schemas.{Schema, trigger_at, rule_named, is_deferred}
use Rattle.aq_outcomes.specs.Parties.{Around, Party}
use Rattle.aq_outcomes.specs.Rows.{row_step}
use Rattle.aq_outcomes.specs.Queued.{queued_by_statement}
use Rattle.aq_outcomes.specs.References.{Checked, child_check, no_action_check, restrict_check, action_of, action_targets, action_wish, action_test, action_op, acted_columns}
use Rattle.aq_outcomes.specs.References.Checked.{Passes, Skips, Waits_for, Mixed, Missing, Pair, Changed}
use Rattle.aq_outcomes.specs.Faults.{missing_parent, mixed_key, still_referenced, not_serializable, rule_broken}
use Rattle.aq_run.specs.Programs.{Prepared}
use Rattle.aq_run.specs.States.{Place, Block_state, Transaction}
use Rattle.aq_run.specs.States.Place.{In_session, In_body}
use Rattle.aq_run.specs.States.Task.{Committing, Acting, Rechecking, Running}
use Rattle.aq_run.specs.States.Block_state.{Idle, Open, Failed}
use Rattle.aq_run.specs.Faults.{found}
use Rattle.aq_run.specs.Faults.Finding.{No_parent, A_pair}
use Rattle.aq_run.specs.Effects.{Effect}
use Rattle.aq_run.specs.Effects.Effect.{Turns, Opens, Closes_level, Closes_rounds, Takes_round, Locks, Queues, Fires, Closes_set, Finishes, Commits, Replies}
use Rattle.aq_run.specs.Replies.{changed_tag}
use Rattle.aq_run.specs.Rows.{on_outcome, on_triggers}
use Rattle.aq_run.specs.Plans.{Plan, refused}
use Rattle.aq_run.specs.Plans.Plan.{Does_all, Would_wait, Fails}

-- ---- checks

abbrev pub lock_effects : Option ℕ → List Effect
lock_effects None = []
lock_effects (Some row) = Locks row modes.KeyShare ∷ []

-- what a check has come to: what was done before, and how its event ends
abbrev pub on_checked : Schema → ForeignKey → List Effect → ℕ → Ending → Checked → Plan
on_checked schema f before number ending (Passes lock) = Does_all (before ++ (lock_effects lock ++ Finishes number ending ∷ []))
on_checked schema f before number ending Skips = Does_all (before ++ Finishes number endings.Skipped ∷ [])
on_checked schema f before number ending (Waits_for ask) = Would_wait ask
on_checked schema f before number ending Mixed = refused before (mixed_key schema f)
on_checked schema f before number ending (Missing key database) = Fails before (found (No_parent key database) (missing_parent schema f key))
on_checked schema f before number ending (Pair parent child key) = Fails before (found (A_pair parent child) (still_referenced schema f key))
on_checked schema f before number ending Changed = refused before not_serializable

-- a trigger that is none: its event ends at once
abbrev pub passing : Event → Plan
passing event = Does_all (Fires event.number None ∷ Finishes event.number endings.Skipped ∷ [])

abbrev pub check_plan : Schema → Around → Party → Event → Option ForeignKey → Plan
check_plan schema others me event None = passing event
check_plan schema others me event (Some f) =
    on_checked schema f (Fires event.number None ∷ []) event.number endings.Passed (child_check others me f event)

abbrev pub parent_action_plan : Schema → Around → Party → Event → ForeignKey → Action → Plan
parent_action_plan schema others me event f actions.NoAction =
    on_checked schema f (Fires event.number None ∷ []) event.number endings.Passed (no_action_check others me f event)
parent_action_plan schema others me event f actions.Restrict =
    on_checked schema f (Fires event.number None ∷ []) event.number endings.Passed (restrict_check others me f event)
parent_action_plan schema others me event f _ =
    Does_all (Fires event.number (Some (Acting (action_targets others me f event) 0)) ∷ [])

abbrev pub parent_plan : Schema → Around → Party → Event → Option ForeignKey → Plan
parent_plan schema others me event None = passing event
parent_plan schema others me event (Some f) = parent_action_plan schema others me event f (action_of f event.op)

-- ---- native checks: the rule on OLD, or none, and NEW

abbrev pub new_of : Option Row → Row
new_of None = []
new_of (Some row) = row

abbrev pub rule_plan : Event → Text → Bool → Plan
rule_plan event name true = Does_all (Fires event.number None ∷ Finishes event.number endings.Passed ∷ [])
rule_plan event name false = refused (Fires event.number None ∷ []) (rule_broken name (new_of event.new))

abbrev pub native_plan : Event → Text → Option Rule → Plan
native_plan event name None = passing event
native_plan event name (Some rule) = rule_plan event name (is_kept rule event.old (new_of event.new))

-- ---- bodies: the frame opens; a trigger that reads a transition set closes it

abbrev pub set_effects : Event → Bool → List Effect
set_effects event reads = if reads then Closes_set event.set ∷ [] else []

abbrev pub reads_set : Trigger → Bool
reads_set trigger = is_some trigger.old_table || is_some trigger.new_table

abbrev pub opening_body : Event → Trigger → Plan
opening_body event trigger =
    Does_all (Fires event.number (Some (Running event first_frame)) ∷ set_effects event (reads_set trigger))

-- ---- the step of an event

abbrev pub on_does : Schema → Around → Party → Event → Trigger → Does → Plan
on_does schema others me event trigger (Check f) = check_plan schema others me event (slice_get schema.catalog.fks f)
on_does schema others me event trigger (Parent f) = parent_plan schema others me event (slice_get schema.catalog.fks f)
on_does schema others me event trigger (Body body) = opening_body event trigger
on_does schema others me event trigger (Native name) = native_plan event name (rule_named schema name)

abbrev pub on_trigger : Schema → Around → Party → Event → Option Trigger → Plan
on_trigger schema others me event None = passing event
on_trigger schema others me event (Some trigger) = on_does schema others me event trigger trigger.does

abbrev pub event_plan : Schema → Around → Party → Event → Plan
event_plan schema others me event = on_trigger schema others me event (trigger_at schema event.trigger)

-- ---- rounds: a round in progress goes on with its first event; else one is taken, and where it would be empty the level ends

-- the rest of a firing is done where nothing is taken
abbrev pub take_or : List Event → Plan → Plan
take_or [] done = done
take_or (event ∷ events) done = Does_all (Takes_round ∷ [])

abbrev pub round_plan : Schema → Around → Party → Work → List Event → Plan → Plan
round_plan schema others me work (event ∷ round) done = event_plan schema others me event
round_plan schema others me work [] done = take_or (next_round (is_deferred schema work.modes) work work.opened) done

-- a statement of a session in a block is answered; outside one the drain follows
abbrev pub closing : Place → Block_state → ℕ → Option Prepared → Plan
closing In_body block done statement = Does_all (Closes_level ∷ [])
closing In_session Idle done statement = Does_all (Closes_level ∷ Opens Drain (Committing (Some done)) ∷ [])
closing In_session Open done statement = Does_all (Closes_level ∷ Replies (changed_tag statement done) ∷ [])
closing In_session Failed done statement = Does_all (Closes_level ∷ Replies (changed_tag statement done) ∷ [])

abbrev pub settled : Place → List Effect → Plan
settled In_session answer = Does_all (Closes_rounds ∷ answer)
settled In_body answer = Does_all (Closes_rounds ∷ [])

abbrev pub commit_answer : Option ℕ → Option Prepared → List Effect → List Effect
commit_answer None statement commit = commit
commit_answer (Some done) statement commit = Replies (changed_tag statement done) ∷ []

abbrev pub committing : Option ℕ → Option Prepared → List Effect → Plan
committing done statement commit = Does_all (Commits ∷ commit_answer done statement commit)

-- ---- actions: the event is the first of the round on top

abbrev pub with_first_event : List Event → (Event → Plan) → Plan
with_first_event [] plan = Does_all []
with_first_event (event ∷ round) plan = plan event

-- the foreign key of the event's trigger
abbrev pub key_of_does : Schema → Does → Option ForeignKey
key_of_does schema (Parent f) = slice_get schema.catalog.fks f
key_of_does schema _ = None

abbrev pub key_of_event : Schema → Event → Option ForeignKey
key_of_event schema event = elim (trigger_at schema event.trigger) [ None ↦ None | Some trigger ↦ key_of_does schema trigger.does ]

-- SET DEFAULT checks the old key once more
abbrev pub after_action : Event → Action → ℕ → Effect
after_action event actions.SetDefault done = Turns (Rechecking done)
after_action event _ done = Finishes event.number (endings.Acted done)

abbrev pub action_end : Schema → Transaction → Event → ForeignKey → Action → ℕ → Plan
action_end schema t event f action done =
    on_triggers t (λ triggers. Queues f.child (action_op action event.op) triggers ∷ after_action event action done ∷ [])
    (queued_by_statement schema f.child (action_op action event.op) (acted_columns f event.op))

abbrev pub action_step : Schema → Around → Party → Transaction → Event → ForeignKey → List ℕ → ℕ → Plan
action_step schema others me t event f [] done = action_end schema t event f (action_of f event.op) done
action_step schema others me t event f (row ∷ left) done =
    on_outcome schema t (acted_columns f event.op) (Acting left (done + 1)) (λ values. Acting left done) (Acting left done)
    (row_step schema others me f.child (action_wish schema f event (action_of f event.op)) (action_test f event) row)

abbrev pub on_action : Schema → Around → Party → Transaction → List ℕ → ℕ → Event → Option ForeignKey → Plan
on_action schema others me t left done event None = Does_all (Finishes event.number (endings.Acted done) ∷ [])
on_action schema others me t left done event (Some f) = action_step schema others me t event f left done

abbrev pub action_plan : Schema → Around → Party → Transaction → List ℕ → ℕ → Plan
action_plan schema others me t left done =
    with_first_event (round_of t.work.opened) (λ event. on_action schema others me t left done event (key_of_event schema event))

abbrev pub on_recheck : Schema → Around → Party → ℕ → Event → Option ForeignKey → Plan
on_recheck schema others me done event None = Does_all (Finishes event.number (endings.Acted done) ∷ [])
on_recheck schema others me done event (Some f) =
    on_checked schema f [] event.number (endings.Acted done) (no_action_check others me f event)

abbrev pub recheck_plan : Schema → Around → Party → Transaction → ℕ → Plan
recheck_plan schema others me t done =
    with_first_event (round_of t.work.opened) (λ event. on_recheck schema others me done event (key_of_event schema event))
