-- A session that is alone: it never waits, and no other changes a row before it.
use Rattle.std.specs.Prelude.{◌≡◌, ◌+◌, ℕ, Bool, true, false, not, ◌||◌, List, [], ◌∷◌, ◌++◌, length, Some, ◌⊎◌, Contains, codes, filter, map, ◌==◌}
use Rattle.std.specs.List.{list_all}
use Rattle.aq_base.specs.Names.{Text, same_text}
use Rattle.aq_base.specs.Statements.Statement.{Commits}
use Rattle.aq_base.specs.declared.fault.Code.{Code}
use Rattle.aq_base.specs.declared.reply.ReplyLine.{ReplyLine}
use Rattle.aq_base.specs.declared.reply.ReplyLine.TheVariants.{Tag}
use Rattle.aq_base.specs.declared.trace.TraceLine.{TraceLine}
use Rattle.aq_base.specs.declared.trace.TraceLine.TheVariants.{Wait, Victim, Fail, Caught}
use Rattle.aq_run.specs.Programs.{Program, statement_at}
use Rattle.aq_run.specs.Programs.Prepared.{Ready}
use Rattle.aq_run.specs.States.{Given, State, Block_state, session_at}
use Rattle.aq_run.specs.States.Block_state.{Open, Failed}
use Rattle.aq_run.specs.Effects.Effect.{Fails_with}
use Rattle.aq_run.specs.Steps.{effects_of}
use Rattle.aq_run.specs.Runs.{Schedule, IsSchedule, run}

-- 40P01, a cycle of waits, and 40001, a row that another has changed
abbrev pub is_of_others : Text → Bool
is_of_others code = same_text code (codes "40P01") || same_text code (codes "40001")

abbrev pub is_of_one : TraceLine → Bool
is_of_one (Wait session others) = false
is_of_one (Victim session cycle) = false
is_of_one (Fail session code) = not (is_of_others code.0)
is_of_one (Caught session block code) = not (is_of_others code.0)
is_of_one line = true

abbrev pub NobodyElseIsMet : Type 0
NobodyElseIsMet =
    (program : Program) → length program.names ≡ 1 → (schedule : Schedule) → IsSchedule program schedule →
    list_all is_of_one (run program schedule).world.trace ≡ true

-- ---- COMMIT

-- The session is about to take this statement, a COMMIT.
pub record IsAtCommit (program : Program) (st : State) (block : Block_state) : Type 0 where
  pub idle : (session_at st 0).tasks ≡ []
  pub commits : statement_at program 0 (session_at st 0).next ≡ Some (Ready Commits)
  pub stands : (session_at st 0).block ≡ block

abbrev pub reply_to : ℕ → State → List ReplyLine
reply_to statement st = map (λ (given : Given). given.line) (filter (λ (given : Given). given.statement == statement) st.world.replies)

-- some step of the schedule behind `first` fails with an error that no block catches
pub record Fails_behind (program : Program) (first rest : Schedule) : Type 0 where
  pub front : Schedule
  pub back : Schedule
  pub within : rest ≡ front ++ 0 ∷ back
  pub code : Code
  pub fails : Contains (effects_of program (run program (first ++ front)) 0) (Fails_with code)

-- A COMMIT in an open block answers COMMIT, once it has answered, unless an event of its drain failed and no block caught that.
abbrev pub CommitAnswers : Type 0
CommitAnswers =
    (program : Program) → length program.names ≡ 1 → (first rest : Schedule) → IsSchedule program (first ++ 0 ∷ rest) →
    IsAtCommit program (run program first) Open →
    let statement = (session_at (run program first) 0).next + 1 in
    let reply = reply_to statement (run program (first ++ 0 ∷ rest)) in
    (reply ≡ []) ⊎ ((reply ≡ Tag (codes "COMMIT") ∷ []) ⊎ Fails_behind program first (0 ∷ rest))

-- A COMMIT in a failed block answers ROLLBACK, after a statement that failed.
pub record RollsBack (program : Program) (first : Schedule) : Type 0 where
  pub answer : reply_to ((session_at (run program first) 0).next + 1) (run program (first ++ 0 ∷ [])) ≡ Tag (codes "ROLLBACK") ∷ []
  pub failed : Fails_behind program [] first

abbrev pub FailedCommitRollsBack : Type 0
FailedCommitRollsBack =
    (program : Program) → length program.names ≡ 1 → (first : Schedule) → IsSchedule program (first ++ 0 ∷ []) →
    IsAtCommit program (run program first) Failed → RollsBack program first
