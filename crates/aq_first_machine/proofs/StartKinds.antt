-- How a session takes its next statement, as it is carried out.
use Rattle.std.proofs.Common.{◌≡◌, ℕ, ◌+◌, List, [], ◌∷◌, ◌++◌, true, Option, map, Some, None, refl, ap, sym, subst}
use Rattle.aq_first_base.specs.Databases.{Database, Stored}
use Rattle.aq_first_run.specs.States.Target.{Old_row}
use Rattle.aq_first_base.specs.Catalogs.{Catalog}
use Rattle.aq_base.specs.declared.reply.ReplyLine.{ReplyLine}
use Rattle.aq_first_outcomes.specs.Faults.Fault.{In_failed_block}
use Rattle.aq_first_run.specs.States.{World, Session, Block, Task as Shown_task, Transaction, Operation, Target}
use Rattle.aq_first_run.specs.States.Block.{Idle, Open, Failed}
use Rattle.aq_first_run.specs.States.Answer.{Began, Rolled_back}
use Rattle.aq_first_run.specs.Effects.{effect, given}
use Rattle.aq_first_run.specs.Effects.Effect.{Takes_statement, Aborts, Blocks, Replies, Ends}
use Rattle.aq_first_run.specs.Replies.{answer_lines, error_lines}
use Rattle.aq_first_run.specs.Steps.{Plan, rows_start, begin_plan, commit_plan}
use Rattle.aq_first_run.specs.Steps.Plan.{Does_all, Fails}
use Rattle.aq_first_machine.specs.Shown.{Held, waiting, progress_shown, nothing_held}
use Rattle.aq_first_machine.specs.Runnings.{with_progress, HasTransaction}
use Rattle.aq_first_machine.specs.Starts.{CarriesOut, BeginsRows, taken, resumed}
use Rattle.aq_first_machine.specs.declared.session.Task.{Task}
use Rattle.aq_first_machine.specs.declared.session.Task.TheVariants.{Between, Inserting, Deleting, Rounds, Committing}
use Rattle.aq_first_machine.specs.declared.session.Answer.TheVariants.{Committed as Committed_block}

-- the world with the lines as the reply of the session's next statement
abbrev pub replied : ℕ → World → Session → List ReplyLine → World
replied s world me lines = record world { replies = world.replies ++ given s (me.next + 1) lines }

-- where nothing is in progress nothing is open
pub between-opened : (held : Held) (task : Task) → (progress_shown held task).tasks ≡ [] → (progress_shown held task).transaction.work.opened ≡ []
between-opened held Between none = refl
between-opened held (Inserting rows) none = cc
between-opened held (Deleting rows) none = cc
between-opened held (Rounds answer) none = cc
between-opened held (Committing answer) none = cc

pub starts-end : (cat : Catalog) (s : ℕ) (world : World) (me : Session) → me.tasks ≡ []
    → CarriesOut cat s (Does_all (Aborts ∷ Ends ∷ [])) world me world (record me { transaction = None; tasks = []; ended = true })
unfolding effect
starts-end cat s world me none = rw none refl

pub starts-reply : (cat : Catalog) (s : ℕ) (world : World) (me : Session) (lines : List ReplyLine)
    → CarriesOut cat s (Does_all (Takes_statement ∷ Replies lines ∷ [])) world me (replied s world me lines) (taken me)
unfolding effect
starts-reply cat s world me lines = refl

pub starts-refused : (cat : Catalog) (s : ℕ) (world : World) (me : Session) → me.block ≡ Failed
    → CarriesOut cat s (Fails (Takes_statement ∷ []) In_failed_block) world me (replied s world me (error_lines cat In_failed_block)) (record (taken me) { transaction = None; tasks = [] })
unfolding effect
starts-refused cat s world me failed = rw failed refl

pub starts-drop : (cat : Catalog) (s : ℕ) (world : World) (me : Session) → me.tasks ≡ []
    → CarriesOut cat s (Does_all (Takes_statement ∷ Aborts ∷ Blocks Idle ∷ Replies (answer_lines Rolled_back) ∷ [])) world me
    (replied s world me (answer_lines Rolled_back)) (record (taken me) { block = Idle; transaction = None; tasks = [] })
unfolding effect
starts-drop cat s world me none = rw none refl

pub starts-begin : (cat : Catalog) (s : ℕ) (world : World) (me : Session) → me.block ≡ Idle → me.tasks ≡ []
    → CarriesOut cat s (begin_plan me.block) world me (replied s world me (answer_lines Began)) (record (with_progress (waiting nothing_held) (taken me)) { block = Open })
unfolding effect
starts-begin cat s world me idle none = rw (idle, none) refl

pub starts-commit : (cat : Catalog) (s : ℕ) (world : World) (me : Session) (t : Transaction) → me.block ≡ Open → me.transaction ≡ Some t → t.work.opened ≡ []
    → CarriesOut cat s (commit_plan me.block) world me world (record (with_progress (resumed t (Committing Committed_block)) (taken me)) { block = Idle })
unfolding effect
starts-commit cat s world me t is_open is none = rw (is_open, is, none) refl

pub starts-rows_alone : (cat : Catalog) (s : ℕ) (world : World) (me : Session) (task : Task) (operation : Operation) (targets : List Target) → me.block ≡ Idle → BeginsRows task operation targets
    → CarriesOut cat s (rows_start me.block operation targets) world me world (with_progress (progress_shown nothing_held task) (taken me))
unfolding effect
starts-rows_alone cat s world me task operation targets idle begins = rw (idle, begins nothing_held) refl

pub starts-rows_in_block : (cat : Catalog) (s : ℕ) (world : World) (me : Session) (t : Transaction) (task : Task) (operation : Operation) (targets : List Target)
    → me.block ≡ Open → me.transaction ≡ Some t → t.work.opened ≡ [] → BeginsRows task operation targets
    → CarriesOut cat s (rows_start me.block operation targets) world me world (with_progress (resumed t task) (taken me))
unfolding effect
starts-rows_in_block cat s world me t task operation targets is_open is none begins =
    rw (is_open, is, none, begins (record { writes = t.work.writes; deferred = t.work.deferred; queued = []; round = [] })) refl

-- an open block has a transaction
pub open-transaction : (block : Block) (t : Option Transaction) (tasks : List Shown_task) → block ≡ Open → HasTransaction block t tasks → (one : Transaction) × (t ≡ Some one)
open-transaction Idle t tasks is has = cc
open-transaction Open None tasks is has = absurd has
open-transaction Open (Some one) tasks is has = (one, refl)
open-transaction Failed t tasks is has = cc

-- the same plan, carried out
pub as-plan : (cat : Catalog) (s : ℕ) (world : World) (me : Session) (after : World) (left : Session) (plan same : Plan) → plan ≡ same → CarriesOut cat s same world me after left → CarriesOut cat s plan world me after left
as-plan cat s world me after left plan same is goes = subst (λ (p : Plan). CarriesOut cat s p world me after left) (sym is) goes

-- the targets of a DELETE, from the numbers of the rows
pub old_rows-numbers : (rows : Database) → map Old_row (map {A = ℕ × Stored} (λ entry. entry.0) rows) ≡ map {A = ℕ × Stored} (λ entry. Old_row entry.0) rows
old_rows-numbers [] = refl
old_rows-numbers (entry ∷ rows) = ap (λ targets. Old_row entry.0 ∷ targets) (old_rows-numbers rows)
