-- The steps of a session, as they are carried out.
use Rattle.std.proofs.Common.{◌≡◌, ℕ, List, [], ◌∷◌, ◌++◌, Bool, Option, Some, None, refl, sym, subst}
use Rattle.aq_first_base.specs.declared.bound.Bound.{Bound}
use Rattle.aq_first_base.specs.Catalogs.{Catalog}
use Rattle.aq_first_outcomes.specs.Faults.{Fault}
use Rattle.aq_first_run.specs.States.{World, Session, Block, Answer, Task, latest_view}
use Rattle.aq_first_run.specs.States.Block.{Idle, Open, Failed}
use Rattle.aq_first_run.specs.States.Task.{Rows, Rounds, Committing}
use Rattle.aq_first_run.specs.Effects.{effect, given}
use Rattle.aq_first_run.specs.Replies.{answer_lines, error_lines}
use Rattle.aq_first_run.specs.Steps.{task_plan, close_plan, after_error}
use Rattle.aq_first_run.specs.Steps.Plan.{Fails}
use Rattle.aq_first_machine.specs.Shown.{Held, InProgress, in_level, in_drain, waiting, closed, tasks_of, transaction_of}
use Rattle.aq_first_machine.specs.Runnings.{progress_plan, StepsTo}
use Rattle.aq_first_machine.specs.Advances.{GoesFurther, commits_then}

-- a session, by what it has in progress
abbrev pub holding : ℕ → Block → Option InProgress → Bool → Session
holding next block progress ended = record { next = next; block = block; transaction = transaction_of progress; tasks = tasks_of progress; ended = ended }

-- what is in progress plans without a look at the next statement
pub plan-any : (cat : Catalog) (world : World) (me : Session) (statement : Option Bound) (tasks : List Task) → (tasks ≡ [] → ⊥) → task_plan cat world me statement tasks ≡ task_plan cat world me None tasks
plan-any cat world me statement [] some = absurd (some refl)
plan-any cat world me statement (Rows operation [] done ∷ below) some = refl
plan-any cat world me statement (Rows operation (target ∷ left) done ∷ below) some = refl
plan-any cat world me statement (Rounds answer ∷ below) some = refl
plan-any cat world me statement (Committing answer ∷ below) some = refl

pub step-further : (cat : Catalog) (s : ℕ) (world : World) (before : InProgress) (after : World) (left : InProgress) (next : ℕ) (block : Block) (ended : Bool)
    → GoesFurther cat world before after left → StepsTo cat s None world (holding next block (Some before) ended) after (holding next block (Some left) ended)
step-further cat s world before after left next block ended goes = goes s (holding next block None ended)

pub step-refused : (cat : Catalog) (s : ℕ) (world : World) (before : InProgress) (fault : Fault) (next : ℕ) (block : Block) (ended : Bool)
    → ((me : Session) → progress_plan cat world before me ≡ Fails [] fault)
    → StepsTo cat s None world (holding next block (Some before) ended) (record world { replies = world.replies ++ given s next (error_lines cat fault) }) (holding next (after_error block) None ended)
unfolding effect
step-refused cat s world before fault next block ended plan = rw (plan (holding next block None ended)) refl

pub step-commits : (cat : Catalog) (s : ℕ) (world : World) (before : InProgress) (answer : Answer) (next : ℕ) (block : Block) (ended : Bool)
    → ((me : Session) → progress_plan cat world before me ≡ commits_then answer)
    → StepsTo cat s None world (holding next block (Some before) ended)
    (record world { history = world.history ++ latest_view world before.transaction.work ∷ []; replies = world.replies ++ given s next (answer_lines answer) }) (holding next block None ended)
unfolding effect
step-commits cat s world before answer next block ended plan = rw (plan (holding next block None ended)) refl

-- outside a block the level closes and the drain is opened
pub step-drains : (cat : Catalog) (s : ℕ) (world : World) (held : Held) (answer : Answer) (next : ℕ) (ended : Bool)
    → ((me : Session) → progress_plan cat world (in_level held (Rounds answer)) me ≡ close_plan me.block answer [])
    → StepsTo cat s None world (holding next Idle (Some (in_level held (Rounds answer))) ended)
    world (holding next Idle (Some (in_drain (closed cat (in_level held (Rounds answer))) (Committing answer))) ended)
unfolding effect
step-drains cat s world held answer next ended plan = rw (plan (holding next Idle None ended)) refl

-- in a block the level closes and the answer is given
pub step-open-closes : (cat : Catalog) (s : ℕ) (world : World) (held : Held) (answer : Answer) (next : ℕ) (ended : Bool)
    → ((me : Session) → progress_plan cat world (in_level held (Rounds answer)) me ≡ close_plan me.block answer [])
    → StepsTo cat s None world (holding next Open (Some (in_level held (Rounds answer))) ended)
    (record world { replies = world.replies ++ given s next (answer_lines answer) }) (holding next Open (Some (waiting (closed cat (in_level held (Rounds answer))))) ended)
unfolding effect
step-open-closes cat s world held answer next ended plan = rw (plan (holding next Open None ended)) refl

pub step-failed-closes : (cat : Catalog) (s : ℕ) (world : World) (held : Held) (answer : Answer) (next : ℕ) (ended : Bool)
    → ((me : Session) → progress_plan cat world (in_level held (Rounds answer)) me ≡ close_plan me.block answer [])
    → StepsTo cat s None world (holding next Failed (Some (in_level held (Rounds answer))) ended)
    (record world { replies = world.replies ++ given s next (answer_lines answer) }) (holding next Failed (Some (waiting (closed cat (in_level held (Rounds answer))))) ended)
unfolding effect
step-failed-closes cat s world held answer next ended plan = rw (plan (holding next Failed None ended)) refl

-- the same, of a transaction of which the statement's level is open
abbrev pub IsInRounds : Answer → InProgress → Type 0
IsInRounds answer before = (held : Held) × (before ≡ in_level held (Rounds answer))

pub step-closes_alone : (cat : Catalog) (s : ℕ) (world : World) (before : InProgress) (answer : Answer) (next : ℕ) (ended : Bool) → IsInRounds answer before
    → ((me : Session) → progress_plan cat world before me ≡ close_plan me.block answer [])
    → StepsTo cat s None world (holding next Idle (Some before) ended) world (holding next Idle (Some (in_drain (closed cat before) (Committing answer))) ended)
step-closes_alone cat s world before answer next ended level plan =
    subst (λ (p : InProgress). ((me : Session) → progress_plan cat world p me ≡ close_plan me.block answer [])
    → StepsTo cat s None world (holding next Idle (Some p) ended) world (holding next Idle (Some (in_drain (closed cat p) (Committing answer))) ended)) (sym level.1)
    (step-drains cat s world level.0 answer next ended) plan

pub step-closes_open : (cat : Catalog) (s : ℕ) (world : World) (before : InProgress) (answer : Answer) (next : ℕ) (ended : Bool) → IsInRounds answer before
    → ((me : Session) → progress_plan cat world before me ≡ close_plan me.block answer [])
    → StepsTo cat s None world (holding next Open (Some before) ended) (record world { replies = world.replies ++ given s next (answer_lines answer) }) (holding next Open (Some (waiting (closed cat before))) ended)
step-closes_open cat s world before answer next ended level plan =
    subst (λ (p : InProgress). ((me : Session) → progress_plan cat world p me ≡ close_plan me.block answer [])
    → StepsTo cat s None world (holding next Open (Some p) ended) (record world { replies = world.replies ++ given s next (answer_lines answer) }) (holding next Open (Some (waiting (closed cat p))) ended)) (sym level.1)
    (step-open-closes cat s world level.0 answer next ended) plan

pub step-closes_failed : (cat : Catalog) (s : ℕ) (world : World) (before : InProgress) (answer : Answer) (next : ℕ) (ended : Bool) → IsInRounds answer before
    → ((me : Session) → progress_plan cat world before me ≡ close_plan me.block answer [])
    → StepsTo cat s None world (holding next Failed (Some before) ended) (record world { replies = world.replies ++ given s next (answer_lines answer) }) (holding next Failed (Some (waiting (closed cat before))) ended)
step-closes_failed cat s world before answer next ended level plan =
    subst (λ (p : InProgress). ((me : Session) → progress_plan cat world p me ≡ close_plan me.block answer [])
    → StepsTo cat s None world (holding next Failed (Some p) ended) (record world { replies = world.replies ++ given s next (answer_lines answer) }) (holding next Failed (Some (waiting (closed cat p))) ended)) (sym level.1)
    (step-failed-closes cat s world level.0 answer next ended) plan
