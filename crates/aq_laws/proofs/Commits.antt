-- The commits of a trace are numbered from 1 on, up to the number of the last database.
use Rattle.std.proofs.Common.{◌≡◌, ℕ, List, [], ◌∷◌, ◌++◌, Option, Some, None, refl, sym, ap, ◌∙◌, arith, append-nil}
use Rattle.std.specs.Prelude.{◌+◌, zero, suc, length}
use Rattle.std.proofs.lemmas.Grind.{flat_map-append}
use Rattle.std.proofs.lemmas.List.{length-append}
use Rattle.aq_base.specs.Names.{Text}
use Rattle.aq_base.specs.Events.{Event}
use Rattle.aq_base.specs.Works.{Kind, Mark, level_of}
use Rattle.aq_base.specs.Works.Kind.{Level, Constraints, Drain}
use Rattle.aq_base.specs.Works.Mark.{Named, Block as Of_block}
use Rattle.aq_base.specs.Databases.{Database, History}
use Rattle.aq_base.specs.Writes.{latest_view}
use Rattle.aq_base.specs.declared.fault.Code.{Code}
use Rattle.aq_base.specs.declared.trace.TraceLine.{TraceLine}
use Rattle.aq_base.specs.declared.trace.TraceLine.TheVariants as lines
use Rattle.aq_outcomes.specs.Schemas.{Schema}
use Rattle.aq_run.specs.Programs.{Program, session_name}
use Rattle.aq_run.specs.Faults.{Finding}
use Rattle.aq_run.specs.Faults.Finding.{No_parent, A_pair}
use Rattle.aq_run.specs.Lines.{change_line, drop_lines, queue_lines, open_lines, save_line, release_lines, return_lines, finding_line}
use Rattle.aq_run.specs.States.{Transaction, Session, World, State, opening}
use Rattle.aq_run.specs.Effects.{Effect, Scene, effect, effects, lines_of, where_there, committed, with_set, replaced, row_of, mark_above}
use Rattle.aq_run.specs.Effects.Effect.{Begins, Opens, Closes_level, Takes_round, Changes, Queues, Fires, Finishes, Sets_mode, Saves, Releases, Returns, Commits, Aborts, Tells, Fails_with, Refuses, Starts_waiting, Replies, Ends}
use Rattle.aq_run.specs.Steps.{step, effects_of, scene_of}
use Rattle.aq_run.specs.Runs.{Schedule, run_from, run}
use Rattle.aq_laws.specs.Commits.{commit_in, commits_in, counted_from, CommitsAreNumbered}

-- how many databases stand behind the empty one, and as many commits are told
pub record Numbered (history : History) (trace : List TraceLine) : Type 0 where
  pub count : ℕ
  pub databases : length history ≡ suc count
  pub told : commits_in trace ≡ counted_from 1 count

counted-more : (first n : ℕ) → counted_from first (suc n) ≡ counted_from first n ++ (first + n) ∷ []
counted-more first zero = ap (λ m. m ∷ []) (omega arith)
counted-more first (suc n) = ap (λ rest. first ∷ rest) (counted-more (first + 1) n ∙ ap (λ m. counted_from (first + 1) n ++ m ∷ []) (omega arith))

-- ---- lines that tell of no commit

there-none : (t : Option Transaction) (lines : Transaction → List TraceLine) → ((t : Transaction) → commits_in (lines t) ≡ []) → commits_in (where_there t lines) ≡ []
there-none None lines none = refl
there-none (Some t) lines none = none t

open-none : (name : Text) (kind : Kind) (level : ℕ) → commits_in (open_lines name kind level) ≡ []
open-none name Level level = refl
open-none name Constraints level = refl
open-none name Drain level = refl

drop-none : (name : Text) (events : List Event) → commits_in (drop_lines name events) ≡ []
drop-none name [] = refl
drop-none name (event ∷ events) = drop-none name events

queue-none : (schema : Schema) (name : Text) (last : ℕ) (triggers : List ℕ) → commits_in (queue_lines schema name last triggers) ≡ []
queue-none schema name last [] = refl
queue-none schema name last (trigger ∷ triggers) = queue-none schema name (last + 1) triggers

dropped-none : (schema : Schema) (name : Text) (events : List Event) (last : ℕ) (triggers : List ℕ) → commits_in (drop_lines name events ++ queue_lines schema name last triggers) ≡ []
dropped-none schema name [] last triggers = queue-none schema name last triggers
dropped-none schema name (event ∷ events) last triggers = dropped-none schema name events last triggers

save-none : (name : Text) (mark : Mark) → commits_in (save_line name mark ∷ []) ≡ []
save-none name (Named saved) = refl
save-none name (Of_block number height) = refl

release-none : (name : Text) (mark : Option Mark) → commits_in (release_lines name mark) ≡ []
release-none name None = refl
release-none name (Some (Named saved)) = refl
release-none name (Some (Of_block number height)) = refl

return-none : (name : Text) (code : Code) (mark : Option Mark) → commits_in (return_lines name code mark) ≡ []
return-none name code None = refl
return-none name code (Some (Named saved)) = refl
return-none name code (Some (Of_block number height)) = refl

finding-none : (name : Text) (finding : Finding) → commits_in (finding_line name finding ∷ []) ≡ []
finding-none name (No_parent key number) = refl
finding-none name (A_pair parent child) = refl

-- ---- effects

keeps : (history : History) (trace lines : List TraceLine) → commits_in lines ≡ [] → Numbered history trace → Numbered history (trace ++ lines)
keeps history trace lines none numbered =
    record {
      count = numbered.count;
      databases = numbered.databases;
      told = flat_map-append commit_in trace lines ∙ ap (λ more. commits_in trace ++ more) none ∙ append-nil (commits_in trace) ∙ numbered.told;
    }

-- one database more, and the line of its number
commits : (history : History) (trace : List TraceLine) (name : Text) (db : Database) → Numbered history trace → Numbered (history ++ db ∷ []) (trace ++ lines.Commit name (length history) ∷ [])
commits history trace name db numbered =
    record {
      count = suc numbered.count;
      databases = length-append history (db ∷ []) ∙ omega (arith, numbered.databases);
      told = flat_map-append commit_in trace (lines.Commit name (length history) ∷ [])
          ∙ ap (λ more. more ++ length history ∷ []) numbered.told
          ∙ ap (λ n. counted_from 1 numbered.count ++ n ∷ []) (numbered.databases ∙ omega arith)
          ∙ sym (counted-more 1 numbered.count);
    }

commit-numbered : (history : History) (trace : List TraceLine) (world : World) (name : Text) (t : Option Transaction) → world.history ≡ history → Numbered history trace →
    Numbered (history ++ committed world t) (trace ++ where_there t (λ t. lines.Commit name (length history) ∷ []))
commit-numbered history trace world name None is numbered =
    record { count = numbered.count; databases = ap length (append-nil history) ∙ numbered.databases; told = ap commits_in (append-nil trace) ∙ numbered.told }
commit-numbered history trace world name (Some t) is numbered = commits history trace name (latest_view world.history t.work.writes) numbered

abbrev Is_numbered : World → Type 0
Is_numbered world = Numbered world.history world.trace

module _ (program : Program) (s : ℕ) where
  abbrev told : Effect → World → Session → List TraceLine
  told e world me = lines_of program (session_name program s) e world me

  -- an effect that doesn't commit
  without_commit : (e : Effect) (world : World) (me : Session) → commits_in (told e world me) ≡ [] → Is_numbered world → Numbered world.history (world.trace ++ told e world me)
  without_commit e world me none numbered = keeps world.history world.trace (told e world me) none numbered

  effect-numbered : (e : Effect) (world : World) (me : Session) → Is_numbered world → Is_numbered (effect program s e (record { world = world; me = me })).world
  unfolding effect
  effect-numbered (Opens kind task) world me numbered =
      without_commit (Opens kind task) world me (there-none me.transaction (λ t. open_lines (session_name program s) kind (level_of t.work)) (λ t. open-none (session_name program s) kind (level_of t.work))) numbered
  effect-numbered Closes_level world me numbered =
      without_commit Closes_level world me (there-none me.transaction (λ t. lines.Close (session_name program s) (level_of t.work) ∷ []) (λ t. refl)) numbered
  effect-numbered Takes_round world me numbered = without_commit Takes_round world me (there-none me.transaction (λ t. lines.Round (session_name program s) ∷ []) (λ t. refl)) numbered
  effect-numbered (Changes change lock triggers) world me numbered =
      without_commit (Changes change lock triggers) world me
      (there-none me.transaction (λ t. change_line program.schema (session_name program s) change (row_of world change) t.events triggers ∷ []) (λ t. refl)) numbered
  effect-numbered (Queues table op triggers) world me numbered =
      without_commit (Queues table op triggers) world me
      (there-none me.transaction (λ t. drop_lines (session_name program s) (replaced table op (with_set table op t.events t.work)) ++ queue_lines program.schema (session_name program s) t.events triggers)
      (λ t. dropped-none program.schema (session_name program s) (replaced table op (with_set table op t.events t.work)) t.events triggers)) numbered
  effect-numbered (Saves mark) world me numbered =
      without_commit (Saves mark) world me (there-none me.transaction (λ t. save_line (session_name program s) mark ∷ []) (λ t. save-none (session_name program s) mark)) numbered
  effect-numbered (Releases standing) world me numbered = without_commit (Releases standing) world me (release-none (session_name program s) (mark_above standing me.transaction)) numbered
  effect-numbered (Returns standing code tasks) world me numbered =
      without_commit (Returns standing code tasks) world me (return-none (session_name program s) code (mark_above standing me.transaction)) numbered
  effect-numbered (Tells finding) world me numbered = without_commit (Tells finding) world me (finding-none (session_name program s) finding) numbered
  effect-numbered Aborts world me numbered = without_commit Aborts world me (there-none me.transaction (λ t. lines.Abort (session_name program s) ∷ []) (λ t. refl)) numbered
  effect-numbered Commits world me numbered = commit-numbered world.history world.trace world (session_name program s) me.transaction refl numbered
  effect-numbered (Begins isolation) world me numbered = without_commit (Begins isolation) world me refl numbered
  effect-numbered (Fires number task) world me numbered = without_commit (Fires number task) world me refl numbered
  effect-numbered (Finishes number ending) world me numbered = without_commit (Finishes number ending) world me refl numbered
  effect-numbered (Sets_mode constraints deferred) world me numbered = without_commit (Sets_mode constraints deferred) world me refl numbered
  effect-numbered (Fails_with code) world me numbered = without_commit (Fails_with code) world me refl numbered
  effect-numbered (Refuses cycle) world me numbered = without_commit (Refuses cycle) world me refl numbered
  effect-numbered (Starts_waiting ask blockers) world me numbered = without_commit (Starts_waiting ask blockers) world me refl numbered
  effect-numbered (Replies reply) world me numbered = without_commit (Replies reply) world me refl numbered
  effect-numbered Ends world me numbered = without_commit Ends world me refl numbered
  effect-numbered e world me numbered = without_commit e world me refl numbered

  effects-numbered : (es : List Effect) (scene : Scene) → Is_numbered scene.world → Is_numbered (effects program s es scene).world
  effects-numbered [] scene numbered = numbered
  effects-numbered (e ∷ es) scene numbered = effects-numbered es (effect program s e scene) (effect-numbered e scene.world scene.me numbered)

-- ---- every run

run-numbered : (program : Program) (schedule : Schedule) (st : State) → Is_numbered st.world → Is_numbered (run_from program st schedule).world
unfolding run_from step
run-numbered program [] st numbered = numbered
run-numbered program (s ∷ schedule) st numbered =
    run-numbered program schedule (step program st s) (effects-numbered program s (effects_of program st s) (scene_of st s) numbered)

pub commits_are_numbered : CommitsAreNumbered
commits_are_numbered program schedule =
    let numbered : Is_numbered (run program schedule).world = run-numbered program schedule (opening program) (record { count = 0; databases = refl; told = refl }) in
    numbered.told ∙ ap (counted_from 1) (omega (arith, numbered.databases))
