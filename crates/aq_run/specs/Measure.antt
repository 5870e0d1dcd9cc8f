-- Why every run ends: four numbers, compared from the first one on, that fall with every step of an enabled session.
use Rattle.std.specs.Prelude.{◌≡◌, ℕ, ◌+◌, ◌-◌, ◌<◌, Bool, true, false, not, List, [], ◌∷◌, length, map, filter, drop, Option, Some, None, if◌then◌else◌, slice_get, unwrap_or}
use Rattle.aq_base.specs.Limits.{step_limit}
use Rattle.aq_base.specs.Works.{Opened}
use Rattle.aq_base.specs.Rounds.{round_of}
use Rattle.aq_run.specs.Programs.{Program}
use Rattle.aq_run.specs.States.{Task, Transaction, Session, State}
use Rattle.aq_run.specs.States.Task.{Changing, Locking, Rounds, Settling, Committing, Acting, Rechecking, Running}
use Rattle.aq_run.specs.Waits.{numbers, is_enabled}
use Rattle.aq_run.specs.Steps.{has_any}
use Rattle.aq_run.specs.Runs.{Schedule, run}

abbrev pub total : List ℕ → ℕ
total [] = 0
total (n ∷ ns) = n + total ns

-- ---- first: statements that are left, and sessions that haven't ended. A start or a close makes it smaller.

abbrev pub statements_left : Program → ℕ → Session → ℕ
statements_left program s me = length (unwrap_or (slice_get program.statements s) []) - me.next

abbrev pub one_if : Bool → ℕ
one_if true = 1
one_if false = 0

abbrev pub ahead_of : Program → ℕ → Session → ℕ
ahead_of program s me = statements_left program s me + one_if (not me.ended)

abbrev pub ahead_from : Program → ℕ → List Session → ℕ
ahead_from program s [] = 0
ahead_from program s (me ∷ others) = ahead_of program s me + ahead_from program (s + 1) others

-- ---- second: counted steps that the transactions have left. A counted step makes it smaller, or at the limit drops the tasks.

abbrev pub steps_left : Session → ℕ
steps_left me = elim (me.transaction) [ None ↦ 0 | Some t ↦ step_limit - t.steps ]

-- ---- third: the tasks, each with the steps that it owes and that are not counted. A level, SET CONSTRAINTS or the drain owes a step while its
-- round is empty. An event that is done without a counted step may leave an empty round, which the weight of its own task makes up for.

-- with an empty round one more
abbrev pub with_owed : ℕ → List Opened → ℕ
with_owed weight opened = if has_any (round_of opened) then weight else weight + 1

-- the tasks with what they have opened, the innermost first
abbrev pub weight_of : List Task → List Opened → ℕ
weight_of [] opened = 0
weight_of (Changing place left done ∷ below) opened = 4 + weight_of below (drop 1 opened)
weight_of (Locking left shown ∷ below) opened = 1 + weight_of below opened
weight_of (Rounds place done ∷ below) opened = with_owed 2 opened + weight_of below (drop 1 opened)
weight_of (Settling place ∷ below) opened = with_owed 1 opened + weight_of below (drop 1 opened)
weight_of (Committing changed ∷ below) opened = with_owed 1 opened + weight_of below (drop 1 opened)
weight_of (Acting left done ∷ below) opened = 3 + weight_of below opened
weight_of (Rechecking done ∷ below) opened = 2 + weight_of below opened
weight_of (Running event frame ∷ below) opened = 1 + weight_of below opened

abbrev pub opened_by : Option Transaction → List Opened
opened_by None = []
opened_by (Some t) = t.work.opened

abbrev pub tasks_weight : Session → ℕ
tasks_weight me = weight_of me.tasks (opened_by me.transaction)

-- ---- fourth: sessions that may step. A wait makes it smaller and leaves the others.

abbrev pub enabled_count : Program → State → ℕ
enabled_count program st = length (filter (is_enabled program st) (numbers st))

-- ---- all four

pub record Measure : Type 0 where
  pub ahead : ℕ
  pub steps : ℕ
  pub tasks : ℕ
  pub enabled : ℕ

unfoldable pub measure : Program → State → Measure
measure program st =
    record {
      ahead = ahead_from program 0 st.sessions;
      steps = total (map steps_left st.sessions);
      tasks = total (map tasks_weight st.sessions);
      enabled = enabled_count program st;
    }

-- the first number that differs is smaller
pub data Falls : Measure → Measure → Type 0 where
  Ahead : (m n : Measure) → m.ahead < n.ahead → Falls m n
  Steps : (m n : Measure) → m.ahead ≡ n.ahead → m.steps < n.steps → Falls m n
  Tasks : (m n : Measure) → m.ahead ≡ n.ahead → m.steps ≡ n.steps → m.tasks < n.tasks → Falls m n
  Enabled : (m n : Measure) → m.ahead ≡ n.ahead → m.steps ≡ n.steps → m.tasks ≡ n.tasks → m.enabled < n.enabled → Falls m n

-- each step of a run makes it smaller
abbrev pub EveryStepFalls : (Program → State → ℕ → State) → Type 0
EveryStepFalls step =
    (program : Program) (schedule : Schedule) (s : ℕ) → is_enabled program (run program schedule) s ≡ true →
    Falls (measure program (step program (run program schedule) s)) (measure program (run program schedule))
