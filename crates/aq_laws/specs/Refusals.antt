-- Why a schedule is refused: each cause stands at one place, behind steps that could be taken.
use Rattle.std.specs.Prelude.{◌≡◌, ℕ, ◌+◌, ◌<◌, false, List, [], ◌∷◌, ◌++◌, length, replicate, Option, Some, None}
use Rattle.aq_base.specs.Names.{Text}
use Rattle.aq_base.specs.declared.script.Item.{Item}
use Rattle.aq_run.specs.Programs.{Program, session_name}
use Rattle.aq_run.specs.Waits.{is_enabled}
use Rattle.aq_run.specs.Runs.{Schedule, IsSchedule, run, session_named, first_left, Refusal, schedule_refusal}
use Rattle.aq_run.specs.Runs.Refusal.{Unknown, Disabled, Unfinished}

-- the sessions that these items name, each as often as its item says
abbrev pub Reads : Program → List Item → Schedule → Type 0
Reads program [] w = w ≡ []
Reads program (item ∷ items) w = (s : ℕ) × ((rest : Schedule) × ((session_named program item.name ≡ Some s) × ((w ≡ replicate item.count s ++ rest) × Reads program items rest)))

-- behind steps that could be taken stands a name that no session has
pub record UnknownAt (program : Program) (items : List Item) (place : ℕ) (name : Text) : Type 0 where
  pub done : List Item
  pub item : Item
  pub left : List Item
  pub is : items ≡ done ++ item ∷ left
  pub steps : Schedule
  pub reads : Reads program done steps
  pub can : IsSchedule program steps
  pub place_is : place ≡ length steps + 1
  pub name_is : item.name ≡ name
  pub unknown : session_named program item.name ≡ None

-- behind steps that could be taken stands a session that may not step
pub record DisabledAt (program : Program) (items : List Item) (place : ℕ) (name : Text) : Type 0 where
  pub done : List Item
  pub item : Item
  pub left : List Item
  pub is : items ≡ done ++ item ∷ left
  pub steps : Schedule
  pub reads : Reads program done steps
  pub session : ℕ
  pub name_is : item.name ≡ name
  pub known : session_named program item.name ≡ Some session
  -- so many of the item's steps could be taken
  pub taken : ℕ
  pub within : taken < item.count
  pub can : IsSchedule program (steps ++ replicate taken session)
  pub place_is : place ≡ length (steps ++ replicate taken session) + 1
  pub disabled : is_enabled program (run program (steps ++ replicate taken session)) session ≡ false

-- all steps could be taken, and this session, the least of them, hasn't ended
pub record UnfinishedAfter (program : Program) (items : List Item) (count : ℕ) (name : Text) : Type 0 where
  pub steps : Schedule
  pub reads : Reads program items steps
  pub can : IsSchedule program steps
  pub count_is : count ≡ length steps
  pub session : ℕ
  pub first : first_left (run program steps) ≡ Some session
  pub name_is : name ≡ session_name program session

-- all steps could be taken, and all sessions have ended
pub record RunsToTheEnd (program : Program) (items : List Item) : Type 0 where
  pub steps : Schedule
  pub reads : Reads program items steps
  pub can : IsSchedule program steps
  pub none_left : first_left (run program steps) ≡ None

abbrev pub CauseIs : Program → List Item → Option Refusal → Type 0
CauseIs program items None = RunsToTheEnd program items
CauseIs program items (Some (Unknown place name)) = UnknownAt program items place name
CauseIs program items (Some (Disabled place name)) = DisabledAt program items place name
CauseIs program items (Some (Unfinished count name)) = UnfinishedAfter program items count name

abbrev pub RefusalsHaveCauses : Type 0
RefusalsHaveCauses = (program : Program) (items : List Item) → CauseIs program items (schedule_refusal program items)
