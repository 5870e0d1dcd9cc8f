-- Runs over a schedule.
use Rattle.std.specs.Prelude.{◌≡◌, ℕ, ◌+◌, ◌<◌, zero, suc, Bool, true, false, List, [], ◌∷◌, Option, Some, None, not, position}
use Rattle.std.specs.List.{list_all}
use Rattle.aq_base.specs.Names.{Text, same_text}
use Rattle.aq_base.specs.declared.script.Item.{Item}
use Rattle.aq_run.specs.Programs.{Program, session_name}
use Rattle.aq_run.specs.States.{State, opening}
use Rattle.aq_run.specs.Waits.{is_enabled}
use Rattle.aq_run.specs.Steps.{step}

-- a schedule: the sessions that step, one after the other
abbrev pub Schedule : Type 0
Schedule = List ℕ

unfoldable pub run_from : Program → State → Schedule → State
run_from program st [] = st
run_from program st (s ∷ schedule) = run_from program (step program st s) schedule

abbrev pub run : Program → Schedule → State
run program schedule = run_from program (opening program) schedule

-- each session of the schedule is enabled at its place
unfoldable pub CanRunFrom : Program → State → Schedule → Type 0
CanRunFrom program st [] = Unit {0}
CanRunFrom program st (s ∷ schedule) = (is_enabled program st s ≡ true) × CanRunFrom program (step program st s) schedule

abbrev pub IsSchedule : Program → Schedule → Type 0
IsSchedule program schedule = CanRunFrom program (opening program) schedule

abbrev pub have_all_ended : State → Bool
have_all_ended st = list_all (λ session. session.ended) st.sessions

abbrev pub IsComplete : Program → Schedule → Type 0
IsComplete program schedule = have_all_ended (run program schedule) ≡ true

-- ---- the default schedule

-- the session may step, and none before it may
pub record IsLeastEnabled (program : Program) (st : State) (s : ℕ) : Type 0 where
  pub enabled : is_enabled program st s ≡ true
  pub least : (r : ℕ) → r < s → is_enabled program st r ≡ false

-- from here on the least enabled session always steps
unfoldable pub GoesByDefault : Program → State → Schedule → Type 0
GoesByDefault program st [] = Unit {0}
GoesByDefault program st (s ∷ schedule) = IsLeastEnabled program st s × GoesByDefault program (step program st s) schedule

-- the schedule in which the least enabled session always steps, until all have ended
pub record IsDefaultSchedule (program : Program) (schedule : Schedule) : Type 0 where
  pub by_default : GoesByDefault program (opening program) schedule
  pub complete : IsComplete program schedule

-- ---- a schedule that is given: so many steps of a session, one item after the other

pub data Replayed : Type 0 where
  -- every session was enabled at its place; so many steps were taken
  Came_to_end : (steps : ℕ) → (st : State) → Replayed
  -- at this place, counted from 1, stands a name that no session has
  Not_known : (place : ℕ) → (name : Text) → Replayed
  -- at this place stands a session that may not step
  Not_enabled : (place : ℕ) → (name : Text) → Replayed

abbrev pub session_named : Program → Text → Option ℕ
session_named program name = position (λ other. same_text other name) program.names

-- steps of one session, behind so many others
abbrev pub steps_from : Program → Text → ℕ → (count : ℕ) → (taken : ℕ) → State → Replayed
steps_from program name s zero taken st = Came_to_end taken st
steps_from program name s (suc count) taken st =
    elim (is_enabled program st s) [
      | true ↦ steps_from program name s count (taken + 1) (step program st s)
      | false ↦ Not_enabled (taken + 1) name
    ]

abbrev pub item_from : Program → Item → ℕ → State → Option ℕ → Replayed
item_from program item taken st None = Not_known (taken + 1) item.name
item_from program item taken st (Some s) = steps_from program item.name s item.count taken st

abbrev pub replayed_from : Program → List Item → ℕ → State → Replayed
replayed_from program [] taken st = Came_to_end taken st
replayed_from program (item ∷ items) taken st =
    elim (item_from program item taken st (session_named program item.name)) [
      | Came_to_end steps next ↦ replayed_from program items steps next
      | Not_known place name ↦ Not_known place name
      | Not_enabled place name ↦ Not_enabled place name
    ]

-- the run of the schedule, or the first place at which it can't go on
abbrev pub replayed : Program → List Item → Replayed
replayed program items = replayed_from program items 0 (opening program)

-- the least session that hasn't ended
abbrev pub first_left : State → Option ℕ
first_left st = position (λ session. not session.ended) st.sessions

-- why a schedule is refused
pub data Refusal : Type 0 where
  Unknown : (place : ℕ) → (name : Text) → Refusal
  Disabled : (place : ℕ) → (name : Text) → Refusal
  -- the schedule ends after so many steps, before this session has ended
  Unfinished : (steps : ℕ) → (name : Text) → Refusal

abbrev pub unfinished : Program → ℕ → Option ℕ → Option Refusal
unfinished program steps None = None
unfinished program steps (Some s) = Some (Unfinished steps (session_name program s))

abbrev pub refusal_of : Program → Replayed → Option Refusal
refusal_of program (Came_to_end steps st) = unfinished program steps (first_left st)
refusal_of program (Not_known place name) = Some (Unknown place name)
refusal_of program (Not_enabled place name) = Some (Disabled place name)

-- the cause for which a schedule is refused, none where it runs all sessions to their ends
abbrev pub schedule_refusal : Program → List Item → Option Refusal
schedule_refusal program items = refusal_of program (replayed program items)
