-- What holds of a session between its steps.
use Rattle.std.proofs.Common.{◌≡◌, ℕ, Bool, true, false, List, [], ◌∷◌, ◌++◌, map, length, Option, Some, None, refl, sym, subst}
use Rattle.std.proofs.lemmas.Bool.{false≢true}
use Rattle.aq_first_base.specs.Catalogs.{Catalog}
use Rattle.aq_first_base.specs.declared.bound.Bound.{Bound}
use Rattle.aq_first_base.specs.declared.bound.Bound.TheVariants.{InsertRows, DeleteRows, BeginBlock, CommitBlock, RollbackBlock}
use Rattle.aq_first_run.specs.States.{World, Given, latest_view, Session, Block, Task, Answer, Transaction, Operation, Target, last_database}
use Rattle.aq_first_run.specs.States.Block.{Idle, Open, Failed}
use Rattle.aq_first_run.specs.States.Task.{Committing}
use Rattle.aq_first_run.specs.Effects.{Scene, effect}
use Rattle.aq_first_run.specs.Steps.{start_plan, rows_start, begin_plan, commit_plan, rollback_plan, old_rows, view_of, after_error}
use Rattle.aq_first_run.specs.States.Operation.{Inserting, Deleting}
use Rattle.aq_first_run.specs.States.Target.{New_row}
use Rattle.aq_first_machine.specs.Starts.{CarriesOut}
use Rattle.aq_first_machine.specs.Orders.{IsOrdered, writes_of}
use Rattle.aq_first_machine.specs.Runnings.{Stands, HasTransaction, HasTransactionUntilEnd, IsNoCommit, scene, carried_out}
use Rattle.aq_first_machine.proofs.Orders.{IsOrdered-abort, IsOrdered-commit}
use Rattle.aq_first_machine.specs.Shown.{InProgress}
use Rattle.aq_first_machine.proofs.StepKinds.{holding}

pub has-progress : (ended : Bool) (block : Block) (t : Transaction) (tasks : List Task) → IsNoCommit tasks → HasTransactionUntilEnd ended block (Some t) tasks
has-progress true block t tasks none = tt
has-progress false Idle t tasks none = tt
has-progress false Open t tasks none = none
has-progress false Failed t tasks none = tt

pub has-after_error : (ended : Bool) (block : Block) → HasTransactionUntilEnd ended (after_error block) None []
has-after_error true block = tt
has-after_error false Idle = tt
has-after_error false Open = tt
has-after_error false Failed = tt

pub has-committed : (ended : Bool) (block : Block) (t : Transaction) (tasks : List Task) (answer : Answer) → tasks ≡ Committing answer ∷ [] → HasTransactionUntilEnd ended block (Some t) tasks
    → HasTransactionUntilEnd ended block None []
has-committed true block t tasks answer is has = tt
has-committed false Idle t tasks answer is has = tt
has-committed false Open t tasks answer is has = absurd (rw is at has)
has-committed false Failed t tasks answer is has = tt

-- a session that lives and has a transaction in an open block
pub has-live : (ended : Bool) (block : Block) (t : Option Transaction) (tasks : List Task) → ended ≡ false → HasTransactionUntilEnd ended block t tasks → HasTransaction block t tasks
has-live true block t tasks live has = absurd (false≢true (sym live))
has-live false block t tasks live has = has

abbrev StandsIn : Scene → Type 0
StandsIn after = Stands after.world after.me

-- a session in which nothing is in progress
abbrev quiet : ℕ → Block → Option Transaction → Session
quiet next block t = record { next = next; block = block; transaction = t; tasks = []; ended = false }

none_written : (world : World) (next : ℕ) (block : Block) (t : Option Transaction) → Stands world (quiet next block t) → IsOrdered (last_database world) [] world.rows
none_written world next block t stands = IsOrdered-abort (last_database world) (writes_of t) world.rows stands.orderly

rows-stand : (cat : Catalog) (s : ℕ) (world : World) (next : ℕ) (block : Block) (t : Option Transaction) (operation : Operation) (targets : List Target) → Stands world (quiet next block t)
    → StandsIn (carried_out cat s (rows_start block operation targets) (scene world (quiet next block t)))
unfolding effect
rows-stand cat s world next Idle t operation targets stands = record { orderly = none_written world next Idle t stands; has_transaction = tt }
rows-stand cat s world next Open None operation targets stands = absurd stands.has_transaction
rows-stand cat s world next Open (Some t) operation targets stands = record { orderly = stands.orderly; has_transaction = tt }
rows-stand cat s world next Failed t operation targets stands = record { orderly = none_written world next Failed t stands; has_transaction = tt }

begin-stands : (cat : Catalog) (s : ℕ) (world : World) (next : ℕ) (block : Block) (t : Option Transaction) → Stands world (quiet next block t)
    → StandsIn (carried_out cat s (begin_plan block) (scene world (quiet next block t)))
unfolding effect
begin-stands cat s world next Idle t stands = record { orderly = none_written world next Idle t stands; has_transaction = tt }
begin-stands cat s world next Open None stands = absurd stands.has_transaction
begin-stands cat s world next Open (Some t) stands = record { orderly = stands.orderly; has_transaction = tt }
begin-stands cat s world next Failed t stands = record { orderly = none_written world next Failed t stands; has_transaction = tt }

commit-stands : (cat : Catalog) (s : ℕ) (world : World) (next : ℕ) (block : Block) (t : Option Transaction) → Stands world (quiet next block t)
    → StandsIn (carried_out cat s (commit_plan block) (scene world (quiet next block t)))
unfolding effect
commit-stands cat s world next Idle t stands = record { orderly = stands.orderly; has_transaction = tt }
commit-stands cat s world next Open None stands = absurd stands.has_transaction
commit-stands cat s world next Open (Some t) stands = record { orderly = stands.orderly; has_transaction = tt }
commit-stands cat s world next Failed t stands = record { orderly = none_written world next Failed t stands; has_transaction = tt }

rollback-stands : (cat : Catalog) (s : ℕ) (world : World) (next : ℕ) (block : Block) (t : Option Transaction) → Stands world (quiet next block t)
    → StandsIn (carried_out cat s (rollback_plan block) (scene world (quiet next block t)))
unfolding effect
rollback-stands cat s world next Idle t stands = record { orderly = stands.orderly; has_transaction = tt }
rollback-stands cat s world next Open t stands = record { orderly = none_written world next Open t stands; has_transaction = tt }
rollback-stands cat s world next Failed t stands = record { orderly = none_written world next Failed t stands; has_transaction = tt }

start-stands : (cat : Catalog) (s : ℕ) (world : World) (next : ℕ) (block : Block) (t : Option Transaction) (statement : Option Bound) → Stands world (quiet next block t)
    → StandsIn (carried_out cat s (start_plan world (quiet next block t) statement) (scene world (quiet next block t)))
unfolding effect
start-stands cat s world next block t None stands = record { orderly = none_written world next block t stands; has_transaction = tt }
start-stands cat s world next block t (Some (InsertRows table rows)) stands = rows-stand cat s world next block t (Inserting table) (map New_row rows) stands
start-stands cat s world next block t (Some (DeleteRows table)) stands = rows-stand cat s world next block t (Deleting table) (old_rows table (view_of world t)) stands
start-stands cat s world next block t (Some BeginBlock) stands = begin-stands cat s world next block t stands
start-stands cat s world next block t (Some CommitBlock) stands = commit-stands cat s world next block t stands
start-stands cat s world next block t (Some RollbackBlock) stands = rollback-stands cat s world next block t stands

-- a session that took its next statement
pub stands-start : (cat : Catalog) (s : ℕ) (statement : Option Bound) (world : World) (me : Session) (after : World) (left : Session) → Stands world me → me.ended ≡ false → me.tasks ≡ []
    → CarriesOut cat s (start_plan world me statement) world me after left → Stands after left
stands-start cat s statement world me after left stands live none goes =
    let is : me ≡ quiet me.next me.block me.transaction = rw (sym none, sym live) refl in
    let quietly : Stands world (quiet me.next me.block me.transaction) = subst (Stands world) is stands in
    let done = start-stands cat s world me.next me.block me.transaction statement quietly in
    let really = subst (λ (m : Session). StandsIn (carried_out cat s (start_plan world m statement) (scene world m))) (sym is) done in
    subst StandsIn (sym goes) really

-- a session that committed
pub stands-commit : (world after : World) (next : ℕ) (block : Block) (progress : InProgress) (ended : Bool) (answer : Answer) (replies : List Given) → Stands world (holding next block (Some progress) ended)
    → progress.tasks ≡ Committing answer ∷ [] → after ≡ record world { history = world.history ++ latest_view world progress.transaction.work ∷ []; replies = replies }
    → Stands after (holding next block None ended)
stands-commit world after next block progress ended answer replies stands is goes =
    rw goes (record {
      orderly = IsOrdered-commit (length world.history) world.history (last_database world) progress.transaction.work.writes world.rows stands.orderly;
      has_transaction = has-committed ended block progress.transaction progress.tasks answer is stands.has_transaction;
    })
