-- The steps of a statement's level and of the drain, as they are carried out.
use Rattle.std.proofs.Common.{◌≡◌, Bool, true, false, List, [], ◌∷◌, ◌++◌, filter, Option, Some, None, slice_get, refl, sym, ◌∙◌, subst}
use Rattle.std.specs.List.{list_any}
use Rattle.std.proofs.lemmas.Bool.{false≢true}
use Rattle.aq_first_base.specs.Catalogs.{Catalog}
use Rattle.aq_first_base.specs.Works.{Event, Work}
use Rattle.aq_first_base.specs.declared.catalog.Trigger.{Trigger}
use Rattle.aq_first_base.specs.declared.catalog.ForeignKey.{ForeignKey}
use Rattle.aq_first_base.specs.declared.catalog.Does.{Does}
use Rattle.aq_first_base.specs.declared.catalog.Does.TheVariants.{Check, Parent}
use Rattle.aq_first_outcomes.specs.Rows.{is_deferred, is_immediate}
use Rattle.aq_first_run.specs.States.{World, Session, Answer}
use Rattle.aq_first_run.specs.States.Task.{Rounds, Committing}
use Rattle.aq_first_run.specs.Effects.{effect}
use Rattle.aq_first_run.specs.Effects.Effect.{Finishes, Takes_round}
use Rattle.aq_first_run.specs.Steps.{event_plan, on_trigger, on_does, on_check, on_parent, close_plan}
use Rattle.aq_first_run.specs.Steps.Plan.{Does_all, Fails}
use Rattle.aq_first_machine.specs.Found.{fault_shown}
use Rattle.aq_first_machine.specs.Shown.{Held, in_level, in_drain}
use Rattle.aq_first_machine.specs.Runnings.{progress_plan}
use Rattle.aq_first_machine.specs.Advances.{written, GoesFurther, FiresFirst, commits_then}
use Rattle.aq_first_machine.specs.declared.checks.Fault.{Fault}

-- what an event does depends on the writes of its transaction alone
on_trigger-written : (cat : Catalog) (world : World) (work : Work) (event : Event) (trigger : Option Trigger)
    → on_trigger cat world work event trigger ≡ on_trigger cat world (written work.writes) event trigger
on_trigger-written cat world work event None = refl
on_trigger-written cat world work event (Some trigger) = by_does trigger.does
  where
    by_check : (fk : Option ForeignKey) → on_check world work event fk ≡ on_check world (written work.writes) event fk
    by_check None = refl
    by_check (Some fk) = refl

    by_parent : (fk : Option ForeignKey) → on_parent world work event fk ≡ on_parent world (written work.writes) event fk
    by_parent None = refl
    by_parent (Some fk) = refl

    by_does : (does : Does) → on_does cat world work event does ≡ on_does cat world (written work.writes) event does
    by_does (Check fk) = by_check (slice_get cat.fks fk)
    by_does (Parent fk) = by_parent (slice_get cat.fks fk)

pub event_plan-written : (cat : Catalog) (world : World) (work : Work) (event : Event) → event_plan cat world work event ≡ event_plan cat world (written work.writes) event
event_plan-written cat world work event = on_trigger-written cat world work event (slice_get cat.triggers event.trigger)

abbrev with_first : Held → Event → List Event → Held
with_first held event rest = record held { round = event ∷ rest }

level-done : (cat : Catalog) (world : World) (held : Held) (event : Event) (rest : List Event) (answer : Answer)
    → event_plan cat world (written held.writes) event ≡ Does_all (Finishes ∷ [])
    → GoesFurther cat world (in_level (with_first held event rest) (Rounds answer)) world (in_level (record held { round = rest }) (Rounds answer))
unfolding effect
level-done cat world held event rest answer plan =
    λ s me. rw (event_plan-written cat world (in_level (with_first held event rest) (Rounds answer)).transaction.work event ∙ plan) refl

drain-done : (cat : Catalog) (world : World) (held : Held) (event : Event) (rest : List Event) (answer : Answer)
    → event_plan cat world (written held.writes) event ≡ Does_all (Finishes ∷ [])
    → GoesFurther cat world (in_drain (with_first held event rest) (Committing answer)) world (in_drain (record held { round = rest }) (Committing answer))
unfolding effect
drain-done cat world held event rest answer plan =
    λ s me. rw (event_plan-written cat world (in_drain (with_first held event rest) (Committing answer)).transaction.work event ∙ plan) refl

-- the first event of the level's round is done
pub level-fires : (cat : Catalog) (world : World) (before after : Held) (answer : Answer) → (before.round ≡ [] → ⊥) → FiresFirst cat world before after None
    → GoesFurther cat world (in_level before (Rounds answer)) world (in_level after (Rounds answer))
level-fires cat world before after answer some fires = by_round before.round refl
  where
    by_round : (round : List Event) → before.round ≡ round → GoesFurther cat world (in_level before (Rounds answer)) world (in_level after (Rounds answer))
    by_round [] is = absurd (some is)
    by_round (event ∷ rest) is =
        let both = fires event rest is in
        rw both.1 (subst (λ (r : List Event). GoesFurther cat world (in_level (record before { round = r }) (Rounds answer)) world (in_level (record before { round = rest }) (Rounds answer))) (sym is)
        (level-done cat world before event rest answer both.0))

pub drain-fires : (cat : Catalog) (world : World) (before after : Held) (answer : Answer) → (before.round ≡ [] → ⊥) → FiresFirst cat world before after None
    → GoesFurther cat world (in_drain before (Committing answer)) world (in_drain after (Committing answer))
drain-fires cat world before after answer some fires = by_round before.round refl
  where
    by_round : (round : List Event) → before.round ≡ round → GoesFurther cat world (in_drain before (Committing answer)) world (in_drain after (Committing answer))
    by_round [] is = absurd (some is)
    by_round (event ∷ rest) is =
        let both = fires event rest is in
        rw both.1 (subst (λ (r : List Event). GoesFurther cat world (in_drain (record before { round = r }) (Committing answer)) world (in_drain (record before { round = rest }) (Committing answer))) (sym is)
        (drain-done cat world before event rest answer both.0))

-- the first event of the level's round is refused
pub level-refused : (cat : Catalog) (world : World) (before after : Held) (answer : Answer) (fault : Fault) → (before.round ≡ [] → ⊥) → FiresFirst cat world before after (Some fault)
    → (after ≡ before) × ((me : Session) → progress_plan cat world (in_level before (Rounds answer)) me ≡ Fails [] (fault_shown fault))
level-refused cat world before after answer fault some fires = by_round before.round refl
  where
    by_round : (round : List Event) → before.round ≡ round → (after ≡ before) × ((me : Session) → progress_plan cat world (in_level before (Rounds answer)) me ≡ Fails [] (fault_shown fault))
    by_round [] is = absurd (some is)
    by_round (event ∷ rest) is =
        let both = fires event rest is in (
          both.1,
          λ me. subst (λ (r : List Event). progress_plan cat world (in_level (record before { round = r }) (Rounds answer)) me ≡ Fails [] (fault_shown fault)) (sym is)
              (event_plan-written cat world (in_level (with_first before event rest) (Rounds answer)).transaction.work event ∙ both.0),
        )

pub drain-refused : (cat : Catalog) (world : World) (before after : Held) (answer : Answer) (fault : Fault) → (before.round ≡ [] → ⊥) → FiresFirst cat world before after (Some fault)
    → (after ≡ before) × ((me : Session) → progress_plan cat world (in_drain before (Committing answer)) me ≡ Fails [] (fault_shown fault))
drain-refused cat world before after answer fault some fires = by_round before.round refl
  where
    by_round : (round : List Event) → before.round ≡ round → (after ≡ before) × ((me : Session) → progress_plan cat world (in_drain before (Committing answer)) me ≡ Fails [] (fault_shown fault))
    by_round [] is = absurd (some is)
    by_round (event ∷ rest) is =
        let both = fires event rest is in (
          both.1,
          λ me. subst (λ (r : List Event). progress_plan cat world (in_drain (record before { round = r }) (Committing answer)) me ≡ Fails [] (fault_shown fault)) (sym is)
              (event_plan-written cat world (in_drain (with_first before event rest) (Committing answer)).transaction.work event ∙ both.0),
        )

none-first : (p : Event → Bool) (event : Event) (events : List Event) (first : Bool) → p event ≡ first → (list_any p events ≡ false → filter p events ≡ [])
    → list_any p (event ∷ events) ≡ false → filter p (event ∷ events) ≡ []
none-first p event events true is later none = absurd (false≢true (sym (rw is at none)))
none-first p event events false is later none = rw is (later (rw is at none))

filter-none : (p : Event → Bool) (events : List Event) → list_any p events ≡ false → filter p events ≡ []
filter-none p [] none = refl
filter-none p (event ∷ events) none = none-first p event events (p event) refl (filter-none p events) none

some-first : (p : Event → Bool) (event : Event) (events : List Event) (first : Bool) → p event ≡ first → (list_any p events ≡ true → filter p events ≡ [] → ⊥)
    → list_any p (event ∷ events) ≡ true → filter p (event ∷ events) ≡ [] → ⊥
some-first p event events true is later some none = let empty = rw is at none in cc
some-first p event events false is later some none = later (rw is at some) (rw is at none)

filter-some : (p : Event → Bool) (events : List Event) → list_any p events ≡ true → filter p events ≡ [] → ⊥
filter-some p [] some none = absurd (false≢true some)
filter-some p (event ∷ events) some none = some-first p event events (p event) refl (filter-some p events) some none

-- the level's immediate events are the next round
pub level-takes : (cat : Catalog) (world : World) (before after : Held) (answer : Answer) → before.round ≡ [] → list_any (is_immediate cat) before.queued ≡ true
    → after ≡ record before { deferred = before.deferred ++ filter (is_deferred cat) before.queued; queued = []; round = before.round ++ filter (is_immediate cat) before.queued }
    → GoesFurther cat world (in_level before (Rounds answer)) world (in_level after (Rounds answer))
unfolding effect
level-takes cat world before after answer none some is = by_taken (filter (is_immediate cat) before.queued) refl
  where
    by_taken : (taken : List Event) → filter (is_immediate cat) before.queued ≡ taken → GoesFurther cat world (in_level before (Rounds answer)) world (in_level after (Rounds answer))
    by_taken [] empty = absurd (filter-some (is_immediate cat) before.queued some empty)
    by_taken (event ∷ taken) more =
        λ s me. let plan : progress_plan cat world (in_level before (Rounds answer)) me ≡ Does_all (Takes_round ∷ []) = rw (none, more) refl in
        rw (plan, is, none) refl

-- with no immediate event the level closes
pub level-closes : (cat : Catalog) (world : World) (before : Held) (answer : Answer) → before.round ≡ [] → list_any (is_immediate cat) before.queued ≡ false
    → (me : Session) → progress_plan cat world (in_level before (Rounds answer)) me ≡ close_plan me.block answer []
level-closes cat world before answer none later me = rw (none, filter-none (is_immediate cat) before.queued later) refl

-- all events that wait are the drain's next round
pub drain-takes : (cat : Catalog) (world : World) (before after : Held) (answer : Answer) → before.round ≡ [] → (before.deferred ≡ [] → ⊥)
    → after ≡ record before { deferred = before.round; round = before.deferred }
    → GoesFurther cat world (in_drain before (Committing answer)) world (in_drain after (Committing answer))
unfolding effect
drain-takes cat world before after answer none some is = by_deferred before.deferred refl
  where
    by_deferred : (deferred : List Event) → before.deferred ≡ deferred → GoesFurther cat world (in_drain before (Committing answer)) world (in_drain after (Committing answer))
    by_deferred [] empty = absurd (some empty)
    by_deferred (event ∷ deferred) more = λ s me. rw (is, none, more) refl

pub drain-commits : (cat : Catalog) (world : World) (before : Held) (answer : Answer) → before.round ≡ [] → before.deferred ≡ []
    → (me : Session) → progress_plan cat world (in_drain before (Committing answer)) me ≡ commits_then answer
drain-commits cat world before answer none empty me = rw (none, empty) refl
