-- A statement starts, or the session ends.
use Rattle.std.proofs.Common.{◌≡◌, ℕ, Bool, true, false, List, [], ◌∷◌, ◌++◌, Option, Some, None, Result, Ok, Err, refl, sym, ◌∙◌, ap, subst, arith}
use Rattle.std.specs.Prelude.{◌+◌, ◌-◌, zero, suc, length, drop, is_some, nat_le, if◌then◌else◌, codes}
use Rattle.std.proofs.lemmas.Bool.{false≢true, true≢false}
use Rattle.std.proofs.lemmas.Option.{none-some, same_Some}
use Rattle.aq_base.specs.Names.{Text}
use Rattle.aq_base.specs.Limits.{saved_limit}
use Rattle.aq_base.specs.Databases.{Database, last_number}
use Rattle.aq_base.specs.ConstraintModes.{Modes}
use Rattle.aq_base.specs.Works.{Saved}
use Rattle.aq_base.specs.Works.Kind.{Level}
use Rattle.aq_base.specs.Works.Mark.{Named}
use Rattle.aq_base.specs.Statements.{Statement, Change_of_rows, Select}
use Rattle.aq_base.specs.Statements.Statement.{Changes_rows, Selects, Sets_constraints, Begins as Begins_block, Starts_transaction, Commits, Rolls_back, Makes_savepoint, Releases_savepoint, Rolls_back_to}
use Rattle.aq_base.specs.declared.fault.SqlFault.{SqlFault}
use Rattle.aq_base.specs.declared.fault.Code.{Code}
use Rattle.aq_base.specs.declared.reply.ReplyLine.{ReplyLine}
use Rattle.aq_base.specs.declared.script.Kind.{Kind as Value_kind}
use Rattle.aq_base.specs.declared.data.LockMode.{LockMode}
use Rattle.aq_base.specs.declared.statement.Isolation.{Isolation}
use Rattle.aq_base.specs.declared.statement.Isolation.TheVariants.{ReadCommitted, RepeatableRead}
use Rattle.aq_base.specs.declared.bound_statement.BoundConstraints.{BoundConstraints}
use Rattle.aq_base.specs.declared.bound_statement.BoundConstraints.TheVariants.{All, Named as Those_named}
use Rattle.aq_base.specs.declared.bound_statement.BoundSet.{BoundSet}
use Rattle.aq_expr.specs.Evaluation.{nothing_around}
use Rattle.aq_outcomes.specs.Schemas.{Schema}
use Rattle.aq_outcomes.specs.Sources.{targets}
use Rattle.aq_outcomes.specs.Faults.{out_of_range, failed_block, only_in_block, no_savepoint, too_many_saved}
use Rattle.aq_run.specs.Programs.{Program, Prepared, Form, statement_at}
use Rattle.aq_run.specs.Programs.Prepared.{Ready, Refused}
use Rattle.aq_run.specs.Programs.Form.{On_rows, On_constraints}
use Rattle.aq_run.specs.States.{Target, Task, Block_state, Transaction, Session, World, new_transaction}
use Rattle.aq_run.specs.States.Place.{In_session}
use Rattle.aq_run.specs.States.Task.{Changing, Locking}
use Rattle.aq_run.specs.States.Block_state.{Idle, Open, Failed}
use Rattle.aq_run.specs.Faults.{Fault, Finding, plain, warned}
use Rattle.aq_run.specs.Effects.{Effect, Scene, effect, effects, opening_of}
use Rattle.aq_run.specs.Effects.Effect.{Takes_statement, Begins, Starts, Opens, Saves, Releases, Returns, Replies, Becomes, Fails_with, Tells}
use Rattle.aq_run.specs.Plans.{Plan}
use Rattle.aq_run.specs.Plans.Plan.{Does_all, Would_wait, Fails}
use Rattle.aq_run.specs.Replies.{tag, shown_rows, in_progress_warning, no_block_warning, constraints_warning, error_lines}
use Rattle.aq_run.specs.Errors.{where_caught, latest_named, put_back, finding_effects, on_catcher, error_effects}
use Rattle.aq_run.specs.Starts.{begin_plan, commit_plan, rollback_plan, savepoint_plan, unless_full, release_plan, on_release, return_plan, on_return, is_named, place_of, saved_of, set_plan, mode_effects, after_modes, is_deferring, snapshot_for, snapshot_effects, before_change, before_reading, targets_or_fault, change_targets, change_plan, select_plan, reading_plan, select_or_fault, selected, refused_plan, statement_plan, start_plan}
use Rattle.aq_run.specs.Steps.{current, at_work}
use Rattle.aq_run.proofs.Effected.{effects-append}
use Rattle.aq_laws.specs.Stacks.{Savepoints_fit, Transaction_fits, Block_fits, is_locking}
use Rattle.aq_laws.proofs.Apt.{Apt, effects-apt}
use Rattle.aq_laws.proofs.Moves.{after, Moved, Stands, Is_alive, now}
use Rattle.aq_laws.proofs.Catches.{Savepoint_at, one-more, the-latest, savepoints-latest, returned-opened, returned-to-savepoint}
use Rattle.aq_laws.proofs.Error_moves.{put-moved}
use Rattle.aq_laws.proofs.Body_moves.{modes-moved}

-- ---- between two statements

-- a session with nothing in progress, which has taken so many statements
abbrev pub between : ℕ → Block_state → Option Transaction → Session
between next block t = record { next = next; block = block; transaction = t; tasks = []; waits = None; ended = false }

-- nothing is opened, and the copies are those of savepoints
abbrev pub Rests : Option Transaction → Type 0
Rests None = Unit {0}
Rests (Some t) = (t.work.opened ≡ []) × Savepoints_fit t.saved

-- a statement has been taken
pub record Started (program : Program) (s next : ℕ) (me : Session) : Type 0 where
  pub next_is : me.next ≡ next
  pub goes_on : me.ended ≡ false
  pub stands : Stands program s next me

rests-fit : (schema : Schema) (statement : Option Prepared) (block : Block_state) (t : Option Transaction) → Rests t → Transaction_fits schema statement block t []
rests-fit schema statement block None rests = refl
rests-fit schema statement block (Some t) rests = rests

-- ---- an error between two statements

module _ (program : Program) (s next : ℕ) where
  abbrev Well : Session → Type 0
  Well me = Started program s next me

  put-started : (block : Block_state) (t : Option Transaction) → Rests t → Apt program.schema t → (left : Block_state) → ((later : Option Transaction) → Block_fits left later []) → (code : Code) (lines : List ReplyLine) (world : World) →
      Well (after program s (Fails_with code ∷ put_back code (latest_named (saved_of t)) ∷ Becomes left ∷ Replies lines ∷ []) world (between next block t))
  unfolding effect
  put-started block None rests apt left fits code lines world =
      record { next_is = refl; goes_on = refl; stands = record { tasks = refl; block = fits None; apt = tt } }
  put-started block (Some t) rests apt left fits code lines world =
      let moved : Moved program s true t.steps next 0 (after program s (Fails_with code ∷ put_back code (latest_named t.saved) ∷ Becomes left ∷ Replies lines ∷ []) world (now t.steps next block t [])) =
      put-moved program s true t.steps next block t 0 [] apt (λ none. absurd (true≢false none)) left fits code lines (latest_named t.saved) (λ standing is. savepoints-latest t.saved standing rests.1 is) world in
      record { next_is = moved.next_is; goes_on = moved.goes_on; stands = moved.stands }

  uncaught-started : (block : Block_state) (t : Option Transaction) → Rests t → Apt program.schema t → (fault : Fault) (world : World) →
      Well (after program s (on_catcher (between next block t) fault None) world (between next block t))
  unfolding effect
  uncaught-started Idle t rests apt fault world = put-started Idle t rests apt Idle (λ later. tt) fault.told.code (fault.warnings ++ error_lines fault.told) world
  uncaught-started Open t rests apt fault world = put-started Open t rests apt Failed (λ later. refl) fault.told.code (fault.warnings ++ error_lines fault.told) world
  uncaught-started Failed t rests apt fault world =
      record { next_is = refl; goes_on = refl; stands = record { tasks = rests-fit program.schema (current program s next) Failed t rests; block = refl; apt = apt } }

  no-catcher : (block : Block_state) (t : Option Transaction) → Rests t → Apt program.schema t → (fault : Fault) (caught : Bool) (world : World) →
      Well (after program s (on_catcher (between next block t) fault (where_caught caught None)) world (between next block t))
  no-catcher block t rests apt fault true world = uncaught-started block t rests apt fault world
  no-catcher block t rests apt fault false world = uncaught-started block t rests apt fault world

  found-started : (block : Block_state) (t : Option Transaction) → Rests t → Apt program.schema t → (fault : Fault) (finding : Option Finding) (world : World) →
      Well (after program s (finding_effects finding ++ on_catcher (between next block t) fault (where_caught fault.can_be_caught None)) world (between next block t))
  unfolding effect
  found-started block t rests apt fault None world = no-catcher block t rests apt fault fault.can_be_caught world
  found-started block t rests apt fault (Some finding) world =
      no-catcher block t rests apt fault fault.can_be_caught (effect program s (Tells finding) (record { world = world; me = between next block t })).world

  error-started : (block : Block_state) (t : Option Transaction) → Rests t → Apt program.schema t → (fault : Fault) (world : World) →
      Well (after program s (error_effects program.schema (between next block t) fault) world (between next block t))
  unfolding error_effects
  error-started block t rests apt fault world = found-started block t rests apt fault fault.finding world

-- ---- plans

-- what a plan leaves that takes the statement
abbrev pub Plan_starts : Program → ℕ → ℕ → Block_state → Option Transaction → Plan → Type 0
Plan_starts program s next block t (Does_all es) = (world : World) → Started program s (next + 1) (after program s es world (between next block t))
Plan_starts program s next block t (Would_wait ask) = ⊥
Plan_starts program s next block t (Fails before fault) =
    (world world' : World) →
    Started program s (next + 1) (after program s (error_effects program.schema (after program s before world (between next block t)) fault) world' (after program s before world (between next block t)))

module _ (program : Program) (s next : ℕ) (block : Block_state) (t : Option Transaction) (rests : Rests t) (apt : Apt program.schema t) where
  abbrev Starts_well : Plan → Type 0
  Starts_well plan = Plan_starts program s next block t plan

  refused-start : (fault : Fault) → Starts_well (Fails (Takes_statement ∷ []) fault)
  unfolding effect
  refused-start fault world world' = error-started program s (next + 1) block t rests apt fault world'

  -- what leaves the transaction as it is
  answered : (left : Block_state) → Block_fits left t [] → (lines : List ReplyLine) → (world : World) →
      Started program s (next + 1) (record { next = next + 1; block = left; transaction = t; tasks = []; waits = None; ended = false })
  answered left fits lines world =
      record { next_is = refl; goes_on = refl; stands = record { tasks = rests-fit program.schema (current program s (next + 1)) left t rests; block = fits; apt = apt } }

  dropped : (world : World) → Started program s (next + 1) (between (next + 1) Idle None)
  dropped world = record { next_is = refl; goes_on = refl; stands = record { tasks = refl; block = tt; apt = tt } }

module _ (program : Program) (s next : ℕ) (t : Option Transaction) (rests : Rests t) (apt : Apt program.schema t) where
  begin-starts : (block : Block_state) → Block_fits block t [] → (answer : Text) (isolation : Isolation) → Plan_starts program s next block t (begin_plan block answer isolation)
  unfolding effect
  begin-starts Idle fits answer isolation = λ world.
      record { next_is = refl; goes_on = refl; stands = record { tasks = (refl, tt); block = refl; apt = ((refl, tt), tt) } }
  begin-starts Open fits answer isolation = λ world. answered program s next Open t rests apt Open fits (in_progress_warning ∷ tag answer) world
  begin-starts Failed fits answer isolation = refused-start program s next Failed t rests apt (plain failed_block)

  rollback-starts : (block : Block_state) → Block_fits block t [] → Plan_starts program s next block t (rollback_plan block)
  unfolding effect
  rollback-starts Idle fits = λ world. answered program s next Idle t rests apt Idle tt (no_block_warning ∷ tag (codes "ROLLBACK")) world
  rollback-starts Open fits = λ world. dropped program s next Open t rests apt world
  rollback-starts Failed fits = λ world. dropped program s next Failed t rests apt world

commit-starts : (program : Program) (s next : ℕ) (block : Block_state) (t : Option Transaction) → Rests t → Apt program.schema t → Block_fits block t [] → Plan_starts program s next block t (commit_plan block)
unfolding effect
commit-starts program s next Idle t rests apt fits = λ world. answered program s next Idle t rests apt Idle tt (no_block_warning ∷ tag (codes "COMMIT")) world
commit-starts program s next Open None rests apt fits = λ world. absurd (false≢true fits)
commit-starts program s next Open (Some t) rests apt fits = λ world.
    record {
      next_is = refl;
      goes_on = refl;
      stands = record { tasks = (refl, (refl, (rests.0, (refl, refl)))); block = tt; apt = ((apt.0.0, (refl, (refl, apt.0.1))), tt) };
    }
commit-starts program s next Failed t rests apt fits = λ world. dropped program s next Failed t rests apt world

-- ---- savepoints

savepoints-drop : (n : ℕ) (saved : List Saved) → Savepoints_fit saved → Savepoints_fit (drop n saved)
savepoints-drop zero saved fit = fit
savepoints-drop (suc n) [] fit = tt
savepoints-drop (suc n) (copy ∷ others) fit = savepoints-drop n others fit.1.1

by-name : (named : Bool) (name : Text) (copy : Saved) (others : List Saved) (standing : ℕ) → Savepoints_fit (copy ∷ others) → (if named then Some (length others) else place_of name others) ≡ Some standing →
    (place_of name others ≡ Some standing → Savepoint_at standing others) → Savepoint_at standing (copy ∷ others)
by-name true name copy others standing fit is rest =
    subst (λ m. Savepoint_at m (copy ∷ others)) (same_Some (length others) standing is) (the-latest copy others fit.0 fit.1.0 fit.1.1)
by-name false name copy others standing fit is rest = one-more standing copy others (rest is)

place-fits : (name : Text) (saved : List Saved) (standing : ℕ) → Savepoints_fit saved → place_of name saved ≡ Some standing → Savepoint_at standing saved
place-fits name [] standing fit is = absurd (none-some standing is)
place-fits name (copy ∷ others) standing fit is =
    by-name (is_named name copy) name copy others standing fit is (λ further. place-fits name others standing fit.1.1 further)

module _ (program : Program) (s next : ℕ) where
  full-starts : (block : Block_state) (t : Option Transaction) → Rests t → Apt program.schema t → (full : Bool) (plan : Plan) → Plan_starts program s next block t plan →
      Plan_starts program s next block t (unless_full full (Takes_statement ∷ []) plan)
  full-starts block t rests apt true plan starts = refused-start program s next block t rests apt (plain too_many_saved)
  full-starts block t rests apt false plan starts = starts

  saves : (t : Option Transaction) → Rests t → Apt program.schema t → is_some t ≡ true → (name : Text) →
      Plan_starts program s next Open t (Does_all (Takes_statement ∷ Saves (Named name) ∷ Replies (tag (codes "SAVEPOINT")) ∷ []))
  unfolding effect
  saves None rests apt there name world = absurd (false≢true there)
  saves (Some t) rests apt there name world =
      record { next_is = refl; goes_on = refl; stands = record { tasks = (rests.0, (refl, (rests.0, rests.1))); block = refl; apt = (apt.0, (apt.0, apt.1)) } }

  savepoint-starts : (block : Block_state) (t : Option Transaction) → Rests t → Apt program.schema t → Block_fits block t [] → (name : Text) → Plan_starts program s next block t (savepoint_plan block name (saved_of t))
  savepoint-starts Idle t rests apt fits name = refused-start program s next Idle t rests apt (plain (only_in_block (codes "SAVEPOINT")))
  savepoint-starts Open t rests apt fits name = full-starts Open t rests apt (nat_le saved_limit (length (saved_of t))) _ (saves t rests apt fits name)
  savepoint-starts Failed t rests apt fits name = refused-start program s next Failed t rests apt (plain failed_block)

  releases : (t : Option Transaction) → Rests t → Apt program.schema t → is_some t ≡ true → (standing : ℕ) →
      Plan_starts program s next Open t (Does_all (Takes_statement ∷ Releases standing ∷ Replies (tag (codes "RELEASE")) ∷ []))
  unfolding effect
  releases None rests apt there standing world = absurd (false≢true there)
  releases (Some t) rests apt there standing world =
      record {
        next_is = refl;
        goes_on = refl;
        stands = record {
          tasks = (rests.0, savepoints-drop (length t.saved - standing) t.saved rests.1);
          block = refl;
          apt = effects-apt program s (Takes_statement ∷ Releases standing ∷ Replies (tag (codes "RELEASE")) ∷ []) (record { world = world; me = between next Open (Some t) }) (tt, (tt, (tt, tt))) apt;
        };
      }

  release-place : (t : Option Transaction) → Rests t → Apt program.schema t → is_some t ≡ true → (name : Text) (place : Option ℕ) → Plan_starts program s next Open t (on_release name place)
  release-place t rests apt there name None = refused-start program s next Open t rests apt (plain (no_savepoint name))
  release-place t rests apt there name (Some standing) = releases t rests apt there standing

  release-starts : (block : Block_state) (t : Option Transaction) → Rests t → Apt program.schema t → Block_fits block t [] → (name : Text) → Plan_starts program s next block t (release_plan block name (saved_of t))
  release-starts Idle t rests apt fits name = refused-start program s next Idle t rests apt (plain (only_in_block (codes "RELEASE SAVEPOINT")))
  release-starts Open t rests apt fits name = release-place t rests apt fits name (place_of name (saved_of t))
  release-starts Failed t rests apt fits name = refused-start program s next Failed t rests apt (plain failed_block)

  goes-back : (block : Block_state) (t : Option Transaction) → Rests t → Apt program.schema t → (standing : ℕ) → Savepoint_at standing (saved_of t) →
      Plan_starts program s next block t (Does_all (Takes_statement ∷ Returns standing (record { 0 = [] }) [] ∷ Becomes Open ∷ Replies (tag (codes "ROLLBACK")) ∷ []))
  unfolding effect
  goes-back block None rests apt standing at world = absurd (omega (arith, at.within))
  goes-back block (Some t) rests apt standing at world =
      record {
        next_is = refl;
        goes_on = refl;
        stands = record {
          tasks = (
            returned-opened standing t.saved t.work at.copy at.others at.is ∙ at.opened_is,
            subst Savepoints_fit (sym (returned-to-savepoint standing t.saved at)) (at.named, (at.opened_is, at.rest)),
          );
          block = refl;
          apt = effects-apt program s (Takes_statement ∷ Returns standing (record { 0 = [] }) [] ∷ Becomes Open ∷ Replies (tag (codes "ROLLBACK")) ∷ []) (record { world = world; me = between next block (Some t) }) (tt, (tt, (tt, (tt, tt)))) apt;
        };
      }

  place-of : (t : Option Transaction) → Rests t → (name : Text) (standing : ℕ) → place_of name (saved_of t) ≡ Some standing → Savepoint_at standing (saved_of t)
  place-of None rests name standing is = absurd (none-some standing is)
  place-of (Some t) rests name standing is = place-fits name t.saved standing rests.1 is

  return-place : (block : Block_state) (t : Option Transaction) → Rests t → Apt program.schema t → (name : Text) (place : Option ℕ) → place_of name (saved_of t) ≡ place →
      Plan_starts program s next block t (on_return name place)
  return-place block t rests apt name None is = refused-start program s next block t rests apt (plain (no_savepoint name))
  return-place block t rests apt name (Some standing) is = goes-back block t rests apt standing (place-of t rests name standing is)

  return-starts : (block : Block_state) (t : Option Transaction) → Rests t → Apt program.schema t → (name : Text) → Plan_starts program s next block t (return_plan block name (saved_of t))
  return-starts Idle t rests apt name = refused-start program s next Idle t rests apt (plain (only_in_block (codes "ROLLBACK TO SAVEPOINT")))
  return-starts Open t rests apt name = return-place Open t rests apt name (place_of name (saved_of t)) refl
  return-starts Failed t rests apt name = return-place Failed t rests apt name (place_of name (saved_of t)) refl

  -- ---- SET CONSTRAINTS

  after-set : (deferred : Bool) (t : Transaction) → Rests (Some t) → Apt program.schema (Some t) → (m : Modes) (world : World) →
      Started program s (next + 1) (after program s (after_modes deferred) world (now t.steps (next + 1) Open (record t { work = record (t.work) { modes = m } }) []))
  unfolding effect
  after-set true t rests apt m world = record { next_is = refl; goes_on = refl; stands = record { tasks = rests; block = refl; apt = apt } }
  after-set false t rests apt m world =
      record { next_is = refl; goes_on = refl; stands = record { tasks = (refl, (tt, rests)); block = refl; apt = ((apt.0.0, (refl, (refl, apt.0.1))), apt.1) } }

  sets : (t : Option Transaction) → Rests t → Apt program.schema t → is_some t ≡ true → (deferred : Bool) (names : BoundConstraints) →
      Plan_starts program s next Open t (Does_all (Takes_statement ∷ (mode_effects names deferred ++ after_modes deferred)))
  unfolding effect
  sets None rests apt there deferred names world = absurd (false≢true there)
  sets (Some t) rests apt there deferred All world =
      modes-moved program s t.steps (next + 1) Open t [] (λ me. Started program s (next + 1) me) deferred (λ (it : Option (List ℕ)). it) (after_modes deferred) (λ m world. after-set deferred t rests apt m world) (None ∷ []) t.work.modes
      (effect program s Takes_statement (record { world = world; me = between next Open (Some t) })).world
  sets (Some t) rests apt there deferred (Those_named names) world =
      modes-moved program s t.steps (next + 1) Open t [] (λ me. Started program s (next + 1) me) deferred (λ (cons : List ℕ). Some cons) (after_modes deferred) (λ m world. after-set deferred t rests apt m world) names t.work.modes
      (effect program s Takes_statement (record { world = world; me = between next Open (Some t) })).world

  set-starts : (block : Block_state) (t : Option Transaction) → Rests t → Apt program.schema t → Block_fits block t [] → (set : BoundSet) → Plan_starts program s next block t (set_plan block set)
  unfolding effect
  set-starts Idle t rests apt fits set = λ world. answered program s next Idle t rests apt Idle tt (constraints_warning ∷ tag (codes "SET CONSTRAINTS")) world
  set-starts Open t rests apt fits set = sets t rests apt fits (is_deferring set.mode) set.constraints
  set-starts Failed t rests apt fits set = refused-start program s next Failed t rests apt (plain failed_block)

-- ---- statements on rows

-- what stands when a statement on rows begins that has a transaction
pub record Begun (program : Program) (s next : ℕ) (block : Block_state) (t : Option Transaction) (before : List Effect) (world : World) : Type 0 where
  pub later : Transaction
  pub is : after program s before world (between next block t) ≡ between (next + 1) block (Some later)
  pub rests : Rests (Some later)
  pub apt : Apt program.schema (Some later)

module _ (program : Program) (s next : ℕ) (block : Block_state) (t : Option Transaction) (before : List Effect) (begun : (world : World) → Begun program s next block t before world) where
  begun-fails : (fault : Fault) → Plan_starts program s next block t (Fails before fault)
  begun-fails fault world world' =
      let b : Begun program s next block t before world = begun world in
      subst (λ me. Started program s (next + 1) (after program s (error_effects program.schema me fault) world' me)) (sym b.is)
      (error-started program s (next + 1) block (Some b.later) b.rests b.apt fault world')

  begun-does : (es : List Effect) →
      ((later : Transaction) → Rests (Some later) → Apt program.schema (Some later) → (world : World) → Started program s (next + 1) (after program s es world (between (next + 1) block (Some later)))) →
      Plan_starts program s next block t (Does_all (before ++ es))
  begun-does es well world =
      let b : Begun program s next block t before world = begun world in
      let scene : Scene = record { world = world; me = between next block t } in
      subst (λ x. Started program s (next + 1) x.me) (sym (effects-append program s before es scene))
      (subst (λ me. Started program s (next + 1) (effects program s es (record { world = (effects program s before scene).world; me = me })).me) (sym b.is)
      (well b.later b.rests b.apt (effects program s before scene).world))

module _ (program : Program) (s next : ℕ) where
  -- outside a block it has one of its own
  begins-own : (t : Option Transaction) (world : World) → Begun program s next Idle t (Takes_statement ∷ Begins ReadCommitted ∷ []) world
  unfolding effect
  begins-own t world = record { later = new_transaction ReadCommitted; is = refl; rests = (refl, tt); apt = ((refl, tt), tt) }

  begins-snapshot : (t : Transaction) → Rests (Some t) → Apt program.schema (Some t) → (isolation : Isolation) (snapshot : Option ℕ) (world : World) →
      Begun program s next Open (Some t) (Takes_statement ∷ snapshot_for isolation snapshot) world
  unfolding effect
  begins-snapshot t rests apt ReadCommitted snapshot world = record { later = t; is = refl; rests = rests; apt = apt }
  begins-snapshot t rests apt RepeatableRead None world = record { later = record t { snapshot = Some (last_number world.history) }; is = refl; rests = rests; apt = apt }
  begins-snapshot t rests apt RepeatableRead (Some number) world = record { later = t; is = refl; rests = rests; apt = apt }

  begins-open : (t : Transaction) → Rests (Some t) → Apt program.schema (Some t) → (world : World) → Begun program s next Open (Some t) (Takes_statement ∷ snapshot_effects (Some t)) world
  begins-open t rests apt world = begins-snapshot t rests apt t.isolation t.snapshot world

-- the statement that has been taken
taken-is : (program : Program) (s next : ℕ) → current program s (next + 1) ≡ statement_at program s next
taken-is program s next = ap (λ m. current program s m) (one-more-is next)
  where
    one-more-is : (m : ℕ) → m + 1 ≡ suc m
    one-more-is m = omega arith

alive-fits : (block : Block_state) (t : Transaction) (tasks : List Task) → Is_alive block → Block_fits block (Some t) tasks
alive-fits Idle t tasks alive = tt
alive-fits Open t tasks alive = refl
alive-fits Failed t tasks alive = absurd alive

module _ (program : Program) (s next : ℕ) (change : Change_of_rows) (there : statement_at program s next ≡ Some (Ready (Changes_rows change))) where
  opens-level : (block : Block_state) → Is_alive block → (found : List Target) (t : Transaction) → Rests (Some t) → Apt program.schema (Some t) → (world : World) →
      Started program s (next + 1) (after program s (Opens Level (Changing In_session found 0) ∷ []) world (between (next + 1) block (Some t)))
  unfolding effect
  opens-level block alive found t rests apt world =
      record {
        next_is = refl;
        goes_on = refl;
        stands = record {
          tasks = (refl, (tt, (ap (λ p. is_some (at_work program.schema p In_session []).change) (taken-is program s next ∙ there), rests)));
          block = alive-fits block (opening_of Level t) (Changing In_session found 0 ∷ []) alive;
          apt = ((apt.0.0, (refl, (refl, apt.0.1))), apt.1);
        };
      }

  targets-start : (block : Block_state) → Is_alive block → (t : Option Transaction) (before : List Effect) → ((world : World) → Begun program s next block t before world) → (found : Result (List Target) Value_kind) →
      Plan_starts program s next block t (targets_or_fault before (λ found. Opens Level (Changing In_session found 0) ∷ []) found)
  targets-start block alive t before begun (Err kind) = begun-fails program s next block t before begun (plain (out_of_range kind))
  targets-start block alive t before begun (Ok found) =
      begun-does program s next block t before begun (Opens Level (Changing In_session found 0) ∷ []) (λ later rests apt world. opens-level block alive found later rests apt world)

  change-starts : (block : Block_state) (t : Option Transaction) → Rests t → Apt program.schema t → Block_fits block t [] → (view : Database) → Plan_starts program s next block t (change_plan program.schema block t view change)
  change-starts Failed t rests apt fits view = refused-start program s next Failed t rests apt (plain failed_block)
  change-starts Idle t rests apt fits view =
      targets-start Idle tt t (before_change Idle t) (λ world. begins-own program s next t world) (change_targets program.schema nothing_around view None change)
  change-starts Open None rests apt fits view = absurd (false≢true fits)
  change-starts Open (Some t) rests apt fits view =
      targets-start Open tt (Some t) (before_change Open (Some t)) (λ world. begins-open program s next t rests apt world) (change_targets program.schema nothing_around view None change)

-- ---- SELECT

module _ (program : Program) (s next : ℕ) (select : Select) (there : statement_at program s next ≡ Some (Ready (Selects select))) where
  starts-locking : (mode : LockMode) → select.lock ≡ Some mode → (block : Block_state) → Is_alive block → (found : List ℕ) (t : Transaction) → Rests (Some t) → Apt program.schema (Some t) → (world : World) →
      Started program s (next + 1) (after program s (Starts (Locking found []) ∷ []) world (between (next + 1) block (Some t)))
  unfolding effect
  starts-locking mode locks block alive found t rests apt world =
      record {
        next_is = refl;
        goes_on = refl;
        stands = record {
          tasks = (refl, (ap is_locking (taken-is program s next ∙ there) ∙ ap is_some locks, rests));
          block = alive-fits block t (Locking found [] ∷ []) alive;
          apt = apt;
        };
      }

  answers : (block : Block_state) → Is_alive block → (lines : List ReplyLine) (t : Transaction) → Rests (Some t) → Apt program.schema (Some t) → (world : World) →
      Started program s (next + 1) (after program s (Replies lines ∷ []) world (between (next + 1) block (Some t)))
  unfolding effect
  answers block alive lines t rests apt world = record { next_is = refl; goes_on = refl; stands = record { tasks = rests; block = alive-fits block t [] alive; apt = apt } }

  found-start : (block : Block_state) (t : Option Transaction) (before : List Effect) → ((world : World) → Begun program s next block t before world) → (effects_of_found : List ℕ → List Effect) →
      ((found : List ℕ) (later : Transaction) → Rests (Some later) → Apt program.schema (Some later) → (world : World) → Started program s (next + 1) (after program s (effects_of_found found) world (between (next + 1) block (Some later)))) →
      (found : Result (List ℕ) Value_kind) → Plan_starts program s next block t (select_or_fault before effects_of_found found)
  found-start block t before begun effects_of_found well (Err kind) = begun-fails program s next block t before begun (plain (out_of_range kind))
  found-start block t before begun effects_of_found well (Ok found) = begun-does program s next block t before begun (effects_of_found found) (λ later rests apt world. well found later rests apt world)

  -- outside a block, without a lock
  read-start : (t : Option Transaction) → Rests t → Apt program.schema t → (view : Database) (found : Result (List ℕ) Value_kind) →
      Plan_starts program s next Idle t (select_or_fault (Takes_statement ∷ []) (λ found. Replies (shown_rows (selected select view found)) ∷ []) found)
  unfolding effect
  read-start t rests apt view (Err kind) = refused-start program s next Idle t rests apt (plain (out_of_range kind))
  read-start t rests apt view (Ok found) = λ world. answered program s next Idle t rests apt Idle tt (shown_rows (selected select view found)) world

  reading-starts : (block : Block_state) → Is_alive block → (t : Option Transaction) → Rests t → Apt program.schema t → Block_fits block t [] → (view : Database) (lock : Option LockMode) → select.lock ≡ lock →
      Plan_starts program s next block t (reading_plan block t view select lock)
  reading-starts Idle alive t rests apt fits view None locks = read-start t rests apt view (targets nothing_around select.table select.condition view)
  reading-starts Idle alive t rests apt fits view (Some mode) locks =
      found-start Idle t (before_change Idle t) (λ world. begins-own program s next t world) (λ found. Starts (Locking found []) ∷ []) (λ found later rests apt world. starts-locking mode locks Idle tt found later rests apt world)
      (targets nothing_around select.table select.condition view)
  reading-starts Open alive None rests apt fits view lock locks = absurd (false≢true fits)
  reading-starts Open alive (Some t) rests apt fits view None locks =
      found-start Open (Some t) (before_reading Open (Some t)) (λ world. begins-open program s next t rests apt world) (λ found. Replies (shown_rows (selected select view found)) ∷ [])
      (λ found later rests apt world. answers Open tt (shown_rows (selected select view found)) later rests apt world) (targets nothing_around select.table select.condition view)
  reading-starts Open alive (Some t) rests apt fits view (Some mode) locks =
      found-start Open (Some t) (before_change Open (Some t)) (λ world. begins-open program s next t rests apt world) (λ found. Starts (Locking found []) ∷ []) (λ found later rests apt world. starts-locking mode locks Open tt found later rests apt world)
      (targets nothing_around select.table select.condition view)
  reading-starts Failed alive t rests apt fits view lock locks = absurd alive

  select-starts : (block : Block_state) (t : Option Transaction) → Rests t → Apt program.schema t → Block_fits block t [] → (view : Database) → Plan_starts program s next block t (select_plan block t view select)
  select-starts Failed t rests apt fits view = refused-start program s next Failed t rests apt (plain failed_block)
  select-starts Idle t rests apt fits view = reading-starts Idle tt t rests apt fits view select.lock refl
  select-starts Open t rests apt fits view = reading-starts Open tt t rests apt fits view select.lock refl

-- ---- what was refused when it was bound, and all statements

module _ (program : Program) (s next : ℕ) where
  refused-starts : (block : Block_state) (t : Option Transaction) → Rests t → Apt program.schema t → Block_fits block t [] → (form : Form) (fault : SqlFault) → Plan_starts program s next block t (refused_plan block t form fault)
  refused-starts Failed t rests apt fits form fault = refused-start program s next Failed t rests apt (plain failed_block)
  refused-starts Idle t rests apt fits On_rows fault = refused-start program s next Idle t rests apt (plain fault)
  refused-starts Open None rests apt fits On_rows fault = absurd (false≢true fits)
  refused-starts Open (Some t) rests apt fits On_rows fault = begun-fails program s next Open (Some t) (before_reading Open (Some t)) (λ world. begins-open program s next t rests apt world) (plain fault)
  refused-starts Idle t rests apt fits On_constraints fault = refused-start program s next Idle t rests apt (warned (constraints_warning ∷ []) fault)
  refused-starts Open t rests apt fits On_constraints fault = refused-start program s next Open t rests apt (plain fault)

  statement-starts : (me : Session) → Rests me.transaction → Apt program.schema me.transaction → Block_fits me.block me.transaction [] → (view : Database) (statement : Statement) → statement_at program s next ≡ Some (Ready statement) →
      Plan_starts program s next me.block me.transaction (statement_plan program.schema me view statement)
  statement-starts me rests apt fits view (Changes_rows change) there = change-starts program s next change there me.block me.transaction rests apt fits view
  statement-starts me rests apt fits view (Selects select) there = select-starts program s next select there me.block me.transaction rests apt fits view
  statement-starts me rests apt fits view (Sets_constraints set) there = set-starts program s next me.block me.transaction rests apt fits set
  statement-starts me rests apt fits view (Begins_block isolation) there = begin-starts program s next me.transaction rests apt me.block fits (codes "BEGIN") isolation
  statement-starts me rests apt fits view (Starts_transaction isolation) there = begin-starts program s next me.transaction rests apt me.block fits (codes "START TRANSACTION") isolation
  statement-starts me rests apt fits view Commits there = commit-starts program s next me.block me.transaction rests apt fits
  statement-starts me rests apt fits view Rolls_back there = rollback-starts program s next me.transaction rests apt me.block fits
  statement-starts me rests apt fits view (Makes_savepoint name) there = savepoint-starts program s next me.block me.transaction rests apt fits name
  statement-starts me rests apt fits view (Releases_savepoint name) there = release-starts program s next me.block me.transaction rests apt fits name
  statement-starts me rests apt fits view (Rolls_back_to name) there = return-starts program s next me.block me.transaction rests apt name

  pub taken-starts : (me : Session) → Rests me.transaction → Apt program.schema me.transaction → Block_fits me.block me.transaction [] → (view : Database) (prepared : Prepared) → statement_at program s next ≡ Some prepared →
      Plan_starts program s next me.block me.transaction (start_plan program.schema me view (Some prepared))
  taken-starts me rests apt fits view (Ready statement) there = statement-starts me rests apt fits view statement there
  taken-starts me rests apt fits view (Refused form fault) there = refused-starts me.block me.transaction rests apt fits form fault
