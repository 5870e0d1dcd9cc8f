-- How a session takes its next statement.
use Rattle.std.specs.Prelude.{◌≡◌, ℕ, ◌+◌, List, [], Some}
use Rattle.aq_first_base.specs.Catalogs.{Catalog}
use Rattle.aq_first_run.specs.States.{Operation, Target, Transaction, Session, World}
use Rattle.aq_first_run.specs.States.Task.{Rows}
use Rattle.aq_first_run.specs.Steps.{Plan}
use Rattle.aq_first_machine.specs.Shown.{Held, InProgress, in_level, progress_shown}
use Rattle.aq_first_machine.specs.Runnings.{scene, carried_out, with_progress}
use Rattle.aq_first_machine.specs.declared.session.Task.{Task}

-- the plan was carried out
abbrev pub CarriesOut : Catalog → ℕ → Plan → World → Session → World → Session → Type 0
CarriesOut cat s plan world me after left = scene after left ≡ carried_out cat s plan (scene world me)

-- the task of a statement on rows at its begin
abbrev pub BeginsRows : Task → Operation → List Target → Type 0
BeginsRows task operation targets = (held : Held) → progress_shown held task ≡ in_level held (Rows operation targets 0)

-- the next statement is taken
abbrev pub taken : Session → Session
taken me = record me { next = me.next + 1 }

-- the task with nothing queued, over what a transaction has done so far
abbrev pub resumed : Transaction → Task → InProgress
resumed t task = progress_shown (record { writes = t.work.writes; deferred = t.work.deferred; queued = []; round = [] }) task

-- nothing was open in the transaction that is there, and now the task is in progress
abbrev pub Resumes : Session → Task → Session → Type 0
Resumes me task left = (t : Transaction) → me.transaction ≡ Some t → (t.work.opened ≡ []) × (left ≡ with_progress (resumed t task) (taken me))
