-- What the step of an event may be.
use Rattle.std.proofs.Common.{◌≡◌, [], ◌∷◌, Option, Some, None, slice_get, ℕ, ap, ◌∙◌}
use Rattle.aq_first_base.specs.Catalogs.{Catalog}
use Rattle.aq_first_base.specs.Works.{Event, Work}
use Rattle.aq_first_base.specs.declared.catalog.ForeignKey.{ForeignKey}
use Rattle.aq_first_base.specs.declared.catalog.Trigger.{Trigger}
use Rattle.aq_first_base.specs.declared.catalog.Does.{Does}
use Rattle.aq_first_base.specs.declared.catalog.Does.TheVariants.{Check, Parent}
use Rattle.aq_first_outcomes.specs.Faults.{Fault}
use Rattle.aq_first_outcomes.specs.References.{Checked, child_check, parent_check}
use Rattle.aq_first_outcomes.specs.References.Checked.{Passed, Skipped, Violated}
use Rattle.aq_first_run.specs.States.{World, latest_view}
use Rattle.aq_first_run.specs.Effects.Effect.{Finishes}
use Rattle.aq_first_run.specs.Steps.{Plan, event_plan, on_trigger, on_does, on_check, on_parent, check_plan}
use Rattle.aq_first_run.specs.Steps.Plan.{Does_all, Fails}

-- the event is done, or a fault ends its transaction
pub data EndsEvent : Plan → Type 0 where
  Done : EndsEvent (Does_all (Finishes ∷ []))
  Refused : (fault : Fault) → EndsEvent (Fails [] fault)

ends_checked : (checked : Checked) → EndsEvent (check_plan checked)
ends_checked Passed = Done
ends_checked Skipped = Done
ends_checked (Violated fault) = Refused fault

ends_check : (world : World) (work : Work) (event : Event) (fk : Option ForeignKey) → EndsEvent (on_check world work event fk)
ends_check world work event None = Done
ends_check world work event (Some fk) = ends_checked (child_check fk event work.writes (latest_view world work))

ends_parent : (world : World) (work : Work) (event : Event) (fk : Option ForeignKey) → EndsEvent (on_parent world work event fk)
ends_parent world work event None = Done
ends_parent world work event (Some fk) = ends_checked (parent_check fk event (latest_view world work))

ends_does : (cat : Catalog) (world : World) (work : Work) (event : Event) (does : Does) → EndsEvent (on_does cat world work event does)
ends_does cat world work event (Check n) = ends_check world work event (slice_get cat.fks n)
ends_does cat world work event (Parent n) = ends_parent world work event (slice_get cat.fks n)

ends_trigger : (cat : Catalog) (world : World) (work : Work) (event : Event) (trigger : Option Trigger) → EndsEvent (on_trigger cat world work event trigger)
ends_trigger cat world work event None = Done
ends_trigger cat world work event (Some trigger) = ends_does cat world work event trigger.does

pub EndsEvent-event_plan : (cat : Catalog) (world : World) (work : Work) (event : Event) → EndsEvent (event_plan cat world work event)
EndsEvent-event_plan cat world work event = ends_trigger cat world work event (slice_get cat.triggers event.trigger)

-- the event of a trigger that checks the child rows of a foreign key
pub event_plan-check : (cat : Catalog) (world : World) (work : Work) (event : Event) (trigger : Trigger) (fk : ℕ) (f : ForeignKey)
    → slice_get cat.triggers event.trigger ≡ Some trigger → trigger.does ≡ Check fk → slice_get cat.fks fk ≡ Some f
    → event_plan cat world work event ≡ check_plan (child_check f event work.writes (latest_view world work))
event_plan-check cat world work event trigger fk f of_trigger checks key =
    ap (on_trigger cat world work event) of_trigger ∙ ap (on_does cat world work event) checks ∙ ap (on_check world work event) key

-- the event of a trigger that looks for children of the parent rows of a foreign key
pub event_plan-parent : (cat : Catalog) (world : World) (work : Work) (event : Event) (trigger : Trigger) (fk : ℕ) (f : ForeignKey)
    → slice_get cat.triggers event.trigger ≡ Some trigger → trigger.does ≡ Parent fk → slice_get cat.fks fk ≡ Some f
    → event_plan cat world work event ≡ check_plan (parent_check f event (latest_view world work))
event_plan-parent cat world work event trigger fk f of_trigger looks key =
    ap (on_trigger cat world work event) of_trigger ∙ ap (on_does cat world work event) looks ∙ ap (on_parent world work event) key
