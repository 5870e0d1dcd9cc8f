-- What a step of a session leaves: what is in progress fits what is opened, and without a counted step it weighs less than before.
use Rattle.std.proofs.Common.{◌≡◌, ◌<◌, ◌≤◌, ℕ, Bool, true, false, List, [], ◌∷◌, Option, Some, None, refl, sym, ◌∙◌, subst, arith}
use Rattle.std.specs.Prelude.{◌+◌, drop, option_map, if◌then◌else◌}
use Rattle.std.specs.List.{list_all}
use Rattle.aq_base.specs.Databases.{last_number}
use Rattle.aq_base.specs.ConstraintModes.{with_modes}
use Rattle.aq_base.specs.Transitions.{closed}
use Rattle.aq_base.specs.Works.{Opened}
use Rattle.aq_base.specs.Rounds.{round_of, without_top, without_top_level, without_first}
use Rattle.aq_outcomes.specs.Schemas.{Schema, trigger_at}
use Rattle.aq_run.specs.Programs.{Program, Prepared}
use Rattle.aq_run.specs.States.{Task, Block_state, Transaction, Session, World}
use Rattle.aq_run.specs.States.Task.{Changing, Locking, Rounds, Settling, Committing, Acting, Rechecking, Running}
use Rattle.aq_run.specs.States.Block_state.{Idle, Open, Failed}
use Rattle.aq_run.specs.Effects.{Effect, effect, effects, on_session, with_lock, opening_of, standing_saved, returned, saving, changed, queued, row_of, taking_round}
use Rattle.aq_run.specs.Effects.Effect.{Takes_statement, Counts_step, Begins, Fixes_snapshot, Opens, Closes_level, Closes_rounds, Takes_round, Locks, Changes, Queues, Closes_set, Finishes, Sets_mode, Saves, Releases, Returns, Commits, Aborts, Becomes, Ends}
use Rattle.aq_run.specs.Starts.{saved_of}
use Rattle.aq_run.specs.Steps.{current, has_any}
use Rattle.aq_run.specs.Measure.{with_owed, weight_of, opened_by}
use Rattle.aq_run.proofs.Free_plans.{Each}
use Rattle.aq_laws.specs.Stacks.{Tasks_fit, Transaction_fits, Block_fits}
use Rattle.aq_laws.proofs.Apt.{is_for_statements, Apt, Apt_effect, effects-apt}

-- ---- what effects leave of a session

abbrev pub after : Program → ℕ → List Effect → World → Session → Session
after program s es world me = (effects program s es (record { world = world; me = me })).me

-- the tasks fit, an open block has its transaction, and events of statements are of triggers for statements
pub record Stands (program : Program) (s next : ℕ) (me : Session) : Type 0 where
  pub tasks : Transaction_fits program.schema (current program s next) me.block me.transaction me.tasks
  pub block : Block_fits me.block me.transaction me.tasks
  pub apt : Apt program.schema me.transaction

abbrev pub Steps_are : ℕ → Option Transaction → Type 0
Steps_are n None = Unit {0}
Steps_are n (Some t) = t.steps ≡ n

-- after a step with a task in progress: so many steps are counted, and the tasks weigh less where none was counted
pub record Moved (program : Program) (s : ℕ) (counted : Bool) (n next weight : ℕ) (me : Session) : Type 0 where
  pub next_is : me.next ≡ next
  pub goes_on : me.ended ≡ false
  pub steps : Steps_are n me.transaction
  pub stands : Stands program s next me
  pub lighter : counted ≡ false → weight_of me.tasks (opened_by me.transaction) < weight

-- ---- effects that leave the statement, the block, the transaction and its counted steps

abbrev pub Is_plain : Schema → Effect → Type 0
Is_plain schema Takes_statement = ⊥
Is_plain schema Counts_step = ⊥
Is_plain schema (Begins isolation) = ⊥
Is_plain schema Commits = ⊥
Is_plain schema Aborts = ⊥
Is_plain schema (Becomes block) = ⊥
Is_plain schema Ends = ⊥
Is_plain schema (Queues table op triggers) = list_all (λ n. is_for_statements (trigger_at schema n)) triggers ≡ true
Is_plain schema _ = Unit {0}

abbrev pub Runs_at : ℕ → Option Transaction → Type 0
Runs_at n None = ⊥
Runs_at n (Some t) = t.steps ≡ n

pub record Kept (n next : ℕ) (block : Block_state) (me : Session) : Type 0 where
  pub next_is : me.next ≡ next
  pub goes_on : me.ended ≡ false
  pub block_is : me.block ≡ block
  pub runs : Runs_at n me.transaction

map-runs : (n : ℕ) (change : Transaction → Transaction) → ((t : Transaction) → (change t).steps ≡ t.steps) → (t : Option Transaction) → Runs_at n t → Runs_at n (option_map change t)
map-runs n change same None runs = runs
map-runs n change same (Some t) runs = same t ∙ runs

module _ (program : Program) (s : ℕ) where
  plain-apt : (e : Effect) → Is_plain program.schema e → Apt_effect program.schema e
  plain-apt (Queues table op triggers) plain = plain
  plain-apt _ plain = tt

  each-apt : (es : List Effect) → Each (Is_plain program.schema) es → Each (Apt_effect program.schema) es
  each-apt [] each = tt
  each-apt (e ∷ es) each = (plain-apt e each.0, each-apt es each.1)

  plain-next : (world : World) (e : Effect) (me : Session) → Is_plain program.schema e → (on_session program world e me).next ≡ me.next
  plain-next world Takes_statement me plain = absurd plain
  plain-next world _ me plain = refl

  plain-end : (world : World) (e : Effect) (me : Session) → Is_plain program.schema e → (on_session program world e me).ended ≡ me.ended
  plain-end world Ends me plain = absurd plain
  plain-end world _ me plain = refl

  plain-block : (world : World) (e : Effect) (me : Session) → Is_plain program.schema e → (on_session program world e me).block ≡ me.block
  plain-block world (Becomes block) me plain = absurd plain
  plain-block world _ me plain = refl

  plain-runs : (n : ℕ) (world : World) (e : Effect) (me : Session) → Is_plain program.schema e → Runs_at n me.transaction → Runs_at n (on_session program world e me).transaction
  plain-runs n world Counts_step me plain runs = absurd plain
  plain-runs n world (Begins isolation) me plain runs = absurd plain
  plain-runs n world Commits me plain runs = absurd plain
  plain-runs n world Aborts me plain runs = absurd plain
  plain-runs n world Fixes_snapshot me plain runs = map-runs n (λ t. record t { snapshot = Some (last_number world.history) }) (λ t. refl) me.transaction runs
  plain-runs n world (Opens kind task) me plain runs = map-runs n (opening_of kind) (λ t. refl) me.transaction runs
  plain-runs n world Closes_level me plain runs = map-runs n (λ t. record t { work = without_top_level t.work }) (λ t. refl) me.transaction runs
  plain-runs n world Closes_rounds me plain runs = map-runs n (λ t. record t { work = without_top t.work }) (λ t. refl) me.transaction runs
  plain-runs n world Takes_round me plain runs = map-runs n (λ t. record t { work = taking_round program.schema t.work }) (λ t. refl) me.transaction runs
  plain-runs n world (Locks row mode) me plain runs = map-runs n (λ t. record t { work = with_lock row mode t.work }) (λ t. refl) me.transaction runs
  plain-runs n world (Changes change lock triggers) me plain runs = map-runs n (changed (row_of world change) (world.writes + 1) change lock triggers) (λ t. refl) me.transaction runs
  plain-runs n world (Queues table op triggers) me plain runs = map-runs n (queued table op triggers) (λ t. refl) me.transaction runs
  plain-runs n world (Closes_set set) me plain runs = map-runs n (λ t. record t { work = record (t.work) { sets = closed set t.work.sets } }) (λ t. refl) me.transaction runs
  plain-runs n world (Finishes number ending) me plain runs = map-runs n (λ t. record t { work = record (t.work) { opened = without_first t.work.opened } }) (λ t. refl) me.transaction runs
  plain-runs n world (Sets_mode constraints deferred) me plain runs =
      map-runs n (λ t. record t { work = record (t.work) { modes = with_modes constraints deferred t.work.modes } }) (λ t. refl) me.transaction runs
  plain-runs n world (Saves mark) me plain runs = map-runs n (saving mark) (λ t. refl) me.transaction runs
  plain-runs n world (Releases standing) me plain runs = map-runs n (λ t. record t { saved = standing_saved standing t.saved }) (λ t. refl) me.transaction runs
  plain-runs n world (Returns standing code tasks) me plain runs = map-runs n (returned standing) (λ t. refl) me.transaction runs
  plain-runs n world _ me plain runs = runs

  pub effects-kept : (n next : ℕ) (block : Block_state) (es : List Effect) (world : World) (me : Session) → Each (Is_plain program.schema) es → Kept n next block me →
      Kept n next block (after program s es world me)
  unfolding effect
  effects-kept n next block [] world me each kept = kept
  effects-kept n next block (e ∷ es) world me each kept =
      effects-kept n next block es (effect program s e (record { world = world; me = me })).world (on_session program world e me) each.1
      (record {
        next_is = plain-next world e me each.0 ∙ kept.next_is;
        goes_on = plain-end world e me each.0 ∙ kept.goes_on;
        block_is = plain-block world e me each.0 ∙ kept.block_is;
        runs = plain-runs n world e me each.0 kept.runs;
      })

-- ---- a task in progress: nothing has failed

abbrev pub Is_alive : Block_state → Type 0
Is_alive Failed = ⊥
Is_alive _ = Unit {0}

runs-are : (n : ℕ) (t : Option Transaction) → Runs_at n t → Steps_are n t
runs-are n None runs = tt
runs-are n (Some t) runs = runs

runs-fit : (schema : Schema) (statement : Option Prepared) (block : Block_state) (n : ℕ) (tasks : List Task) (t : Option Transaction) → Runs_at n t →
    Tasks_fit schema statement block tasks (opened_by t) (saved_of t) → Transaction_fits schema statement block t tasks
runs-fit schema statement block n tasks None runs fit = absurd runs
runs-fit schema statement block n tasks (Some t) runs fit = fit

alive-fits : (block : Block_state) (n : ℕ) (tasks : List Task) (t : Option Transaction) → Is_alive block → Runs_at n t → Block_fits block t tasks
alive-fits Idle n tasks t alive runs = tt
alive-fits Open n tasks None alive runs = absurd runs
alive-fits Open n tasks (Some t) alive runs = refl
alive-fits Failed n tasks t alive runs = absurd alive

-- a session whose transaction has counted so many steps
abbrev pub now : ℕ → ℕ → Block_state → Transaction → List Task → Session
now n next block t tasks = record { next = next; block = block; transaction = Some (record t { steps = n }); tasks = tasks; waits = None; ended = false }

module _ (program : Program) (s : ℕ) (counted : Bool) (n next : ℕ) (block : Block_state) (t : Transaction) where
  -- what plain effects leave fits where the tasks do
  pub plain-moved : (weight : ℕ) (tasks : List Task) → Is_alive block → Apt program.schema (Some t) → (es : List Effect) → Each (Is_plain program.schema) es → (world : World) →
      Tasks_fit program.schema (current program s next) block (after program s es world (now n next block t tasks)).tasks
      (opened_by (after program s es world (now n next block t tasks)).transaction) (saved_of (after program s es world (now n next block t tasks)).transaction) →
      (counted ≡ false →
      weight_of (after program s es world (now n next block t tasks)).tasks (opened_by (after program s es world (now n next block t tasks)).transaction) < weight) →
      Moved program s counted n next weight (after program s es world (now n next block t tasks))
  plain-moved weight tasks alive apt es each world fit lighter =
      let kept : Kept n next block (after program s es world (now n next block t tasks)) =
      effects-kept program s n next block es world (now n next block t tasks) each (record { next_is = refl; goes_on = refl; block_is = refl; runs = refl }) in
      record {
        next_is = kept.next_is;
        goes_on = kept.goes_on;
        steps = runs-are n (after program s es world (now n next block t tasks)).transaction kept.runs;
        stands = record {
          tasks = subst
              (λ b. Transaction_fits program.schema (current program s next) b (after program s es world (now n next block t tasks)).transaction (after program s es world (now n next block t tasks)).tasks)
              (sym kept.block_is)
              (runs-fit program.schema (current program s next) block n (after program s es world (now n next block t tasks)).tasks (after program s es world (now n next block t tasks)).transaction kept.runs fit);
          block = subst (λ b. Block_fits b (after program s es world (now n next block t tasks)).transaction (after program s es world (now n next block t tasks)).tasks) (sym kept.block_is)
              (alive-fits block n (after program s es world (now n next block t tasks)).tasks (after program s es world (now n next block t tasks)).transaction alive kept.runs);
          apt = effects-apt program s es (record { world = world; me = now n next block t tasks }) (each-apt program s es each) apt;
        };
        lighter = lighter;
      }

-- ---- weights

owed-by : (b : Bool) (w : ℕ) → (w ≤ (if b then w else w + 1)) × ((if b then w else w + 1) ≤ w + 1)
owed-by true w = (omega arith, omega arith)
owed-by false w = (omega arith, omega arith)

pub owed-least : (w : ℕ) (opened : List Opened) → w ≤ with_owed w opened
owed-least w opened = (owed-by (has_any (round_of opened)) w).0

pub owed-most : (w : ℕ) (opened : List Opened) → with_owed w opened ≤ w + 1
owed-most w opened = (owed-by (has_any (round_of opened)) w).1

-- what is left when the task on top is gone; a body stays
abbrev pub under : List Task → List Opened → ℕ
under [] opened = 0
under (Changing place left done ∷ below) opened = weight_of below (drop 1 opened)
under (Locking left shown ∷ below) opened = weight_of below opened
under (Rounds place done ∷ below) opened = weight_of below (drop 1 opened)
under (Settling place ∷ below) opened = weight_of below (drop 1 opened)
under (Committing changed ∷ below) opened = weight_of below (drop 1 opened)
under (Acting left done ∷ below) opened = weight_of below opened
under (Rechecking done ∷ below) opened = weight_of below opened
under (Running event frame ∷ below) opened = 1 + weight_of below opened

pub under-most : (tasks : List Task) (opened : List Opened) → under tasks opened ≤ weight_of tasks opened
under-most [] opened = omega arith
under-most (Changing place left done ∷ below) opened = omega arith
under-most (Locking left shown ∷ below) opened = omega arith
under-most (Rounds place done ∷ below) opened = omega arith
under-most (Settling place ∷ below) opened = omega arith
under-most (Committing changed ∷ below) opened = omega arith
under-most (Acting left done ∷ below) opened = omega arith
under-most (Rechecking done ∷ below) opened = omega arith
under-most (Running event frame ∷ below) opened = omega arith
