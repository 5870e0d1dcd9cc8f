-- A transaction in progress, and how it stands in a session.
use Rattle.std.specs.Prelude.{◌≡◌, ℕ, Bool, true, false, List, [], ◌∷◌, Option, Some, None}
use Rattle.aq_first_base.specs.Catalogs.{Catalog}
use Rattle.aq_first_base.specs.declared.bound.Bound.{Bound}
use Rattle.aq_first_run.specs.States.{Block, Task, Transaction, Session, World}
use Rattle.aq_first_run.specs.States.Task.{Rows, Rounds, Committing}
use Rattle.aq_first_run.specs.States.Block.{Idle, Open, Failed}
use Rattle.aq_first_run.specs.Effects.{Scene, effects}
use Rattle.aq_first_run.specs.Steps.{Plan, task_plan, effects_of_plan}
use Rattle.aq_first_machine.specs.Orders.{IsOrdered, IsOrderly}
use Rattle.aq_first_run.specs.States.{last_database}
use Rattle.aq_first_machine.specs.Shown.{InProgress}

abbrev pub with_progress : InProgress → Session → Session
with_progress progress me = record me { transaction = Some progress.transaction; tasks = progress.tasks }

abbrev pub scene : World → Session → Scene
scene world me = record { world = world; me = me }

-- a plan that is carried out
abbrev pub carried_out : Catalog → ℕ → Plan → Scene → Scene
carried_out cat s plan before = effects cat s (effects_of_plan cat before.me.block plan) before

-- what a session plans that has the transaction in progress
abbrev pub progress_plan : Catalog → World → InProgress → Session → Plan
progress_plan cat world progress me = task_plan cat world (with_progress progress me) None progress.tasks

-- one step of a session whose next statement is given
abbrev pub StepsTo : Catalog → ℕ → Option Bound → World → Session → World → Session → Type 0
StepsTo cat s statement world me after left = scene after left ≡ carried_out cat s (task_plan cat world me statement me.tasks) (scene world me)

-- no transaction is to commit
abbrev pub IsNoCommit : List Task → Type 0
IsNoCommit [] = Unit {0}
IsNoCommit (Rows operation left done ∷ below) = Unit {0}
IsNoCommit (Rounds answer ∷ below) = Unit {0}
IsNoCommit (Committing answer ∷ below) = ⊥

-- an open block has a transaction, which isn't to commit
abbrev pub HasTransaction : Block → Option Transaction → List Task → Type 0
HasTransaction Idle t tasks = Unit {0}
HasTransaction Open None tasks = ⊥
HasTransaction Open (Some t) tasks = IsNoCommit tasks
HasTransaction Failed t tasks = Unit {0}

-- the same, unless the session has ended
abbrev pub HasTransactionUntilEnd : Bool → Block → Option Transaction → List Task → Type 0
HasTransactionUntilEnd true block t tasks = Unit {0}
HasTransactionUntilEnd false block t tasks = HasTransaction block t tasks

-- what holds of a session between its steps
pub record Stands (world : World) (me : Session) : Type 0 where
  -- the row numbers that it sees stand in order
  pub orderly : IsOrderly world me
  pub has_transaction : HasTransactionUntilEnd me.ended me.block me.transaction me.tasks

-- the row numbers that a transaction in progress sees stand in order
abbrev pub IsInOrder : World → InProgress → Type 0
IsInOrder world progress = IsOrdered (last_database world) progress.transaction.work.writes world.rows
