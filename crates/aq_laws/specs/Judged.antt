-- The plan with which a statement starts does what the table of block states says of it.
use Rattle.std.specs.Prelude.{◌≡◌, Bool, true, false, not, ◌&&◌, ◌||◌, List, [], ◌∷◌, codes}
use Rattle.std.specs.List.{list_all}
use Rattle.aq_base.specs.Names.{Text, same_text}
use Rattle.aq_base.specs.Databases.{Database}
use Rattle.aq_base.specs.Statements.{Statement, Change_of_rows}
use Rattle.aq_base.specs.Statements.Statement.{Changes_rows, Selects, Sets_constraints, Begins, Starts_transaction, Commits, Rolls_back, Makes_savepoint, Releases_savepoint, Rolls_back_to}
use Rattle.aq_base.specs.Statements.Change_of_rows.{Inserts, Updates, Deletes}
use Rattle.aq_base.specs.declared.fault.Code.{Code}
use Rattle.aq_base.specs.declared.fault.SqlFault.{SqlFault}
use Rattle.aq_base.specs.declared.reply.ReplyLine.{ReplyLine}
use Rattle.aq_base.specs.declared.reply.ReplyLine.TheVariants as lines
use Rattle.aq_session.specs.declared.block.Block.{Block}
use Rattle.aq_session.specs.declared.block.Block.TheVariants as blocks
use Rattle.aq_session.specs.declared.block.StmtKind.{StmtKind}
use Rattle.aq_session.specs.declared.block.StmtKind.TheVariants as kinds
use Rattle.aq_session.specs.declared.block.Judge.{Judge}
use Rattle.aq_session.specs.declared.block.Judge.TheVariants.{Run, Warn, Refuse}
use Rattle.aq_session.specs.Table.{judged}
use Rattle.aq_outcomes.specs.Schemas.{Schema}
use Rattle.aq_run.specs.States.{Block_state, Session}
use Rattle.aq_run.specs.States.Block_state.{Idle, Open, Failed}
use Rattle.aq_run.specs.Effects.{Effect}
use Rattle.aq_run.specs.Effects.Effect.{Takes_statement, Replies}
use Rattle.aq_run.specs.Plans.{Plan, refused}
use Rattle.aq_run.specs.Plans.Plan.{Does_all, Would_wait, Fails}
use Rattle.aq_run.specs.Starts.{statement_plan}

abbrev pub state_of : Block_state → Block
state_of Idle = blocks.Idle
state_of Open = blocks.Open
state_of Failed = blocks.Failed

abbrev pub kind_of_change : Change_of_rows → StmtKind
kind_of_change (Inserts s) = kinds.Insert
kind_of_change (Updates s) = kinds.Update
kind_of_change (Deletes s) = kinds.Delete

abbrev pub kind_of : Statement → StmtKind
kind_of (Changes_rows change) = kind_of_change change
kind_of (Selects s) = kinds.Select
kind_of (Sets_constraints s) = kinds.SetConstraints
kind_of (Begins isolation) = kinds.Begin
kind_of (Starts_transaction isolation) = kinds.Begin
kind_of Commits = kinds.Commit
kind_of Rolls_back = kinds.Rollback
kind_of (Makes_savepoint name) = kinds.Savepoint
kind_of (Releases_savepoint name) = kinds.Release
kind_of (Rolls_back_to name) = kinds.RollbackTo

-- ---- a plan that runs: it warns of nothing, and where it fails, it isn't for the block

abbrev pub is_of_block : Code → Bool
is_of_block code = same_text code.0 (codes "25P01") || same_text code.0 (codes "25P02")

abbrev pub is_silent_line : ReplyLine → Bool
is_silent_line (lines.Warning code text) = false
is_silent_line _ = true

abbrev pub is_silent : Effect → Bool
is_silent (Replies reply) = list_all is_silent_line reply
is_silent _ = true

abbrev pub does_run : Plan → Bool
does_run (Does_all effects) = list_all is_silent effects
does_run (Would_wait ask) = true
does_run (Fails before fault) = list_all is_silent before && not (is_of_block fault.told.code)

-- ---- a plan that warns, or refuses, and does nothing else

pub record Warns_with (code : Code) (plan : Plan) : Type 0 where
  pub text : Text
  pub answer : List ReplyLine
  pub is_plan : plan ≡ Does_all (Takes_statement ∷ Replies (lines.Warning code text ∷ answer) ∷ [])

pub record Refuses_with (code : Code) (plan : Plan) : Type 0 where
  pub fault : SqlFault
  pub has_code : fault.code ≡ code
  pub is_plan : plan ≡ refused (Takes_statement ∷ []) fault

abbrev pub Follows : Judge → Plan → Type 0
Follows Run plan = does_run plan ≡ true
Follows (Warn code) plan = Warns_with code plan
Follows (Refuse code) plan = Refuses_with code plan

-- whatever the session has done and sees, of each statement whose names are known
abbrev pub BlocksAreJudged : Type 0
BlocksAreJudged =
    (schema : Schema) (me : Session) (view : Database) (statement : Statement)
    → Follows (judged (state_of me.block) (kind_of statement)) (statement_plan schema me view statement)
