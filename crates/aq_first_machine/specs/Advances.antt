-- What a step of a statement in progress comes to.
use Rattle.std.specs.Prelude.{◌≡◌, ℕ, ◌+◌, List, [], ◌∷◌, ◌++◌, map, Option, Some, None, option_map}
use Rattle.aq_base.specs.Values.{Row}
use Rattle.aq_base.specs.Maps.{with_at}
use Rattle.aq_first_base.specs.Catalogs.{Catalog}
use Rattle.aq_first_base.specs.Works.{Event, Work}
use Rattle.aq_first_base.specs.Writes.{Writes}
use Rattle.aq_base.specs.declared.catalog.Op.{Op}
use Rattle.aq_first_run.specs.States.{Answer, Session, World, latest_view}
use Rattle.aq_first_run.specs.States.Task.{Rounds, Committing}
use Rattle.aq_first_run.specs.Effects.Effect.{Commits as Commits_all, Goes_on, Replies}
use Rattle.aq_first_run.specs.Replies.{answer_lines}
use Rattle.aq_first_run.specs.Steps.{Plan, event_plan, close_plan}
use Rattle.aq_first_run.specs.Steps.Plan.{Does_all, Fails}
use Rattle.aq_first_outcomes.specs.Rows.{insert_fault, insert_events, queued_by}
use Rattle.aq_first_machine.specs.Found.{fault_shown, event_done}
use Rattle.aq_first_machine.specs.Shown.{Held, InProgress, answer_shown, in_level}
use Rattle.aq_first_machine.specs.Versions.{write_shown}
use Rattle.aq_first_machine.specs.Runnings.{with_progress, scene, carried_out, progress_plan, IsInOrder, IsNoCommit}
use Rattle.aq_first_machine.specs.declared.checks.Fault.{Fault}
use Rattle.aq_first_machine.specs.declared.rounds.Advanced.{Advanced}
use Rattle.aq_first_machine.specs.declared.rounds.Advanced.TheVariants.{Further, Refused, Closes, Commits}
use Rattle.aq_first_machine.specs.declared.writes.Write.{Write}

-- the work of a transaction, by what it has written alone
abbrev pub written : Writes → Work
written writes = record { writes = writes; deferred = []; opened = [] }

-- in any session, what the transaction plans was carried out, and it is still in progress
abbrev pub GoesFurther : Catalog → World → InProgress → World → InProgress → Type 0
GoesFurther cat world before after left =
    (s : ℕ) (me : Session) → scene after (with_progress left me) ≡ carried_out cat s (progress_plan cat world before me) (scene world (with_progress before me))

-- the transaction commits, and then the answer is given
abbrev pub commits_then : Answer → Plan
commits_then answer = Does_all (Commits_all ∷ Goes_on [] ∷ Replies (answer_lines answer) ∷ [])

abbrev pub Advances : Catalog → World → InProgress → World → InProgress → Advanced → Type 0
Advances cat world before after left Further =
    GoesFurther cat world before after left × IsInOrder after left × (IsNoCommit before.tasks → IsNoCommit left.tasks)
Advances cat world before after left (Refused fault) =
    (after ≡ world) × (left ≡ before) × ((me : Session) → progress_plan cat world before me ≡ Fails [] (fault_shown fault))
Advances cat world before after left (Closes answer) =
    (after ≡ world) × (left ≡ before) × ((held : Held) × (before ≡ in_level held (Rounds (answer_shown answer)))) × ((me : Session) → progress_plan cat world before me ≡ close_plan me.block (answer_shown answer) [])
Advances cat world before after left (Commits answer) =
    (after ≡ world) × (left ≡ before) × (before.tasks ≡ Committing (answer_shown answer) ∷ []) × ((me : Session) → progress_plan cat world before me ≡ commits_then (answer_shown answer))

-- what is left when the first event of the round was looked at
abbrev pub after_event : Held → List Event → Option Fault → Held
after_event before rest None = record before { round = rest }
after_event before rest (Some fault) = before

-- the first event of the round is done, or refused
abbrev pub FiresFirst : Catalog → World → Held → Held → Option Fault → Type 0
FiresFirst cat world before after found =
    (event : Event) (rest : List Event) → before.round ≡ event ∷ rest →
    (event_plan cat world (written before.writes) event ≡ event_done (option_map fault_shown found)) × (after ≡ after_event before rest found)

-- the events that a change queues
abbrev pub change_events : Catalog → Op → Option Row → Write → List Event
change_events cat op old write =
    map (λ trigger. record { trigger = trigger; row = write.row; write = write.number; old = old; new = write.image }) (queued_by cat write.table op)

-- a change of a row: its version is among the writes, and its events are in the level's list
abbrev pub changed : Catalog → Op → Option Row → Write → Held → Held
changed cat op old write held = record held { writes = with_at write.row (write_shown write) held.writes; queued = held.queued ++ change_events cat op old write }

-- a new row is refused, or it has the next numbers, is among the writes, and its events are in the level's list
abbrev pub InsertsRow : Catalog → World → Held → ℕ → Row → World → Held → Option Fault → Type 0
InsertsRow cat world held table values after left None =
    (insert_fault cat (latest_view world (written held.writes)) table values ≡ None)
    × (after ≡ record world { rows = world.rows + 1; writes = world.writes + 1 })
    × (left ≡ record held {
      writes = with_at (world.rows + 1) (record { table = table; image = Some values; number = world.writes + 1 }) held.writes;
      queued = held.queued ++ insert_events cat table (world.rows + 1) (world.writes + 1) values;
    })
InsertsRow cat world held table values after left (Some fault) =
    (insert_fault cat (latest_view world (written held.writes)) table values ≡ Some (fault_shown fault)) × (after ≡ world) × (left ≡ held)
