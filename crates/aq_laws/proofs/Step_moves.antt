-- One step of a session: it waits, or its share of the measure falls; and what is in progress fits.
use Rattle.std.proofs.Common.{◌≡◌, ◌<◌, ◌≤◌, ℕ, Bool, true, false, not, List, [], ◌∷◌, ◌++◌, Option, Some, None, refl, sym, ◌∙◌, ap, subst, arith}
use Rattle.std.specs.Prelude.{◌+◌, ◌-◌, ◌&&◌, zero, suc, length, slice_get, unwrap_or, option_and_then, nat_lt, codes}
use Rattle.std.proofs.lemmas.Bool.{false≢true, true≢false, ltb-true}
use Rattle.std.proofs.lemmas.Option.{none-some}
use Rattle.aq_base.specs.Limits.{step_limit}
use Rattle.aq_base.specs.Blockers.{Ask}
use Rattle.aq_base.specs.Databases.{Database}
use Rattle.aq_outcomes.specs.Parties.{seen}
use Rattle.aq_outcomes.specs.Faults.{deadlock, too_many_steps}
use Rattle.aq_run.specs.Programs.{Program, Prepared, statement_at}
use Rattle.aq_run.specs.States.{Task, Block_state, Transaction, Session, World, State, session_at, around, party, party_of}
use Rattle.aq_run.specs.States.Task.{Changing, Locking, Rounds, Settling, Committing, Acting, Rechecking, Running}
use Rattle.aq_run.specs.States.Block_state.{Idle, Open, Failed}
use Rattle.aq_run.specs.Waits.{blockers, closes}
use Rattle.aq_run.specs.Faults.{Fault, plain, final}
use Rattle.aq_run.specs.Effects.{Effect, Scene, effect, effects}
use Rattle.aq_run.specs.Effects.Effect.{Resumes, Aborts, Ends, Refuses, Starts_waiting}
use Rattle.aq_run.specs.Plans.{Plan}
use Rattle.aq_run.specs.Plans.Plan.{Does_all, Would_wait, Fails}
use Rattle.aq_run.specs.Replies.{tag}
use Rattle.aq_run.specs.Starts.{start_plan}
use Rattle.aq_run.specs.Errors.{error_effects}
use Rattle.aq_run.specs.Steps.{current, is_counted, task_plan, within_limit, plan_with, plan_of, count_effects, counting, waiting, effects_of_plan, effects_of}
use Rattle.aq_run.specs.Measure.{one_if, ahead_of, steps_left, weight_of, tasks_weight}
use Rattle.aq_run.proofs.Effected.{effects-append}
use Rattle.aq_laws.specs.Stacks.{ActionsAreForRows, Tasks_fit, Transaction_fits, Block_fits, End_fits, SessionFits}
use Rattle.aq_laws.proofs.Apt.{Apt}
use Rattle.aq_laws.proofs.Blocked.{Is_blocked}
use Rattle.aq_laws.proofs.Moves.{after, Moved, Steps_are, Is_alive, now, under, owed-least}
use Rattle.aq_laws.proofs.Catches.{latest-fits}
use Rattle.aq_laws.proofs.Error_moves.{error-moved, uncaught-moved}
use Rattle.aq_laws.proofs.Row_moves.{Working, Plan_moves, changing-moves, locking-moves}
use Rattle.aq_laws.proofs.Event_moves.{rounds-moves, settling-moves, drain-moves, action-moves, recheck-moves}
use Rattle.aq_laws.proofs.Body_moves.{body-moves}
use Rattle.aq_laws.proofs.Start_moves.{Rests, Started, Plan_starts, taken-starts}

-- ---- what a step comes to

-- the session's share of the measure falls
pub data Share_falls (program : Program) (s : ℕ) (me later : Session) : Type 0 where
  By_ahead : ahead_of program s later < ahead_of program s me → Share_falls program s me later
  By_steps : ahead_of program s later ≡ ahead_of program s me → steps_left later < steps_left me → Share_falls program s me later
  By_tasks : ahead_of program s later ≡ ahead_of program s me → steps_left later ≤ steps_left me → tasks_weight later < tasks_weight me → Share_falls program s me later

pub record Goes (program : Program) (s : ℕ) (me later : Session) : Type 0 where
  pub fits : SessionFits program s later
  pub apt : Apt program.schema later.transaction
  pub falls : Share_falls program s me later

pub data Step_kind (program : Program) (st : State) (s : ℕ) (me : Session) (es : List Effect) : Type 0 where
  Waits_for_others : (ask : Ask) → es ≡ Starts_waiting ask (blockers program st s ask) ∷ [] → Is_blocked program.schema.catalog (around st) s ask → Step_kind program st s me es
  Goes_on : Goes program s me (after program s es st.world me) → Step_kind program st s me es

-- ---- the effects, as a function of the session

abbrev failing_by : Program → State → ℕ → Session → List Effect → Fault → List Effect
failing_by program st s me before fault = before ++ error_effects program.schema (effects program s before (record { world = st.world; me = me })).me fault

abbrev waiting_by : Program → State → ℕ → Session → Ask → Option (List ℕ) → List Effect
waiting_by program st s me ask None = Starts_waiting ask (blockers program st s ask) ∷ []
waiting_by program st s me ask (Some cycle) = failing_by program st s me (Resumes ∷ (counting me ++ Refuses cycle ∷ [])) (plain deadlock)

abbrev pub effects_by : Program → State → ℕ → Session → Plan → List Effect
effects_by program st s me (Does_all all) = Resumes ∷ (counting me ++ all)
effects_by program st s me (Fails before fault) = failing_by program st s me (Resumes ∷ (counting me ++ before)) fault
effects_by program st s me (Would_wait ask) = waiting_by program st s me ask (closes program st s (blockers program st s ask))

abbrev scene_with : State → Session → Scene
scene_with st me = record { world = st.world; me = me }

-- ---- a statement starts

abbrev resting : ℕ → Block_state → Option Transaction → Option Ask → Session
resting next block t waits = record { next = next; block = block; transaction = t; tasks = []; waits = waits; ended = false }

get-within : {A : Type 0} (xs : List A) (n : ℕ) (x : A) → slice_get xs n ≡ Some x → n < length xs
get-within [] zero x is = absurd (none-some x is)
get-within [] (suc n) x is = absurd (none-some x is)
get-within (y ∷ xs) zero x is = omega arith
get-within (y ∷ xs) (suc n) x is = omega (arith, get-within xs n x is)

statements-within : (found : Option (List Prepared)) (n : ℕ) (prepared : Prepared) → option_and_then (λ statements. slice_get statements n) found ≡ Some prepared → n < length (unwrap_or found [])
statements-within None n prepared is = absurd (none-some prepared is)
statements-within (Some statements) n prepared is = get-within statements n prepared is

module _ (program : Program) (st : State) (s next : ℕ) (block : Block_state) (waits : Option Ask) where
  taken-falls : (t : Option Transaction) (prepared : Prepared) → statement_at program s next ≡ Some prepared → (later : Session) → Started program s (next + 1) later → Goes program s (resting next block t waits) later
  taken-falls t prepared there later started =
      record {
        fits = record {
          tasks = subst (λ m. Transaction_fits program.schema (current program s m) later.block later.transaction later.tasks) (sym started.next_is) started.stands.tasks;
          block = λ going. started.stands.block;
          end = subst (λ e. End_fits e (statement_at program s later.next) later.transaction later.tasks) (sym started.goes_on) tt;
        };
        apt = started.stands.apt;
        falls = By_ahead (fewer later.next later.ended started.next_is started.goes_on);
      }
    where
      fewer : (n : ℕ) (ended : Bool) → n ≡ next + 1 → ended ≡ false →
          length (unwrap_or (slice_get program.statements s) []) - n + one_if (not ended) < length (unwrap_or (slice_get program.statements s) []) - next + 1
      fewer n ended is going =
          subst (λ e. length (unwrap_or (slice_get program.statements s) []) - n + one_if (not e) < length (unwrap_or (slice_get program.statements s) []) - next + 1) (sym going)
          (omega (arith, is, statements-within (slice_get program.statements s) next prepared there))

  counts-none : (t : Option Transaction) → counting (resting next block t waits) ≡ []
  counts-none None = refl
  counts-none (Some t) = refl

  plan-starts : (t : Option Transaction) (prepared : Prepared) → statement_at program s next ≡ Some prepared → (plan : Plan) → Plan_starts program s next block t plan →
      Step_kind program st s (resting next block t waits) (effects_by program st s (resting next block t waits) plan)
  unfolding effect
  plan-starts t prepared there (Does_all es) starts =
      subst (λ counts. Step_kind program st s (resting next block t waits) (Resumes ∷ (counts ++ es))) (sym (counts-none t))
      (Goes_on (taken-falls t prepared there (after program s (Resumes ∷ es) st.world (resting next block t waits)) (starts (effect program s Resumes (record { world = st.world; me = resting next block t waits })).world)))
  plan-starts t prepared there (Would_wait ask) starts = absurd starts
  plan-starts t prepared there (Fails before fault) starts =
      subst (λ counts. Step_kind program st s (resting next block t waits) (failing_by program st s (resting next block t waits) (Resumes ∷ (counts ++ before)) fault)) (sym (counts-none t))
      (Goes_on (subst (λ x. Goes program s (resting next block t waits) x.me) (sym (effects-append program s (Resumes ∷ before) (error_effects program.schema (effects program s (Resumes ∷ before) (scene_with st (resting next block t waits))).me fault) (scene_with st (resting next block t waits))))
      (taken-falls t prepared there (after program s (error_effects program.schema (effects program s (Resumes ∷ before) (scene_with st (resting next block t waits))).me fault) (effects program s (Resumes ∷ before) (scene_with st (resting next block t waits))).world (effects program s (Resumes ∷ before) (scene_with st (resting next block t waits))).me)
      (starts (effect program s Resumes (scene_with st (resting next block t waits))).world (effects program s (Resumes ∷ before) (scene_with st (resting next block t waits))).world))))

  -- none is left: the session ends
  closes-session : (t : Option Transaction) → statement_at program s next ≡ None → Goes program s (resting next block t waits) (record { next = next; block = block; transaction = None; tasks = []; waits = None; ended = true })
  closes-session t none =
      record {
        fits = record { tasks = refl; block = λ going. absurd (true≢false going); end = (refl, (refl, none)) };
        apt = tt;
        falls = By_ahead (omega arith);
      }

  closes-kind : (t : Option Transaction) → statement_at program s next ≡ None →
      Step_kind program st s (resting next block t waits) (effects_by program st s (resting next block t waits) (Does_all (Aborts ∷ Ends ∷ [])))
  unfolding effect
  closes-kind t none =
      subst (λ counts. Step_kind program st s (resting next block t waits) (Resumes ∷ (counts ++ Aborts ∷ Ends ∷ []))) (sym (counts-none t)) (Goes_on (closes-session t none))

  rests-of : (t : Option Transaction) → Transaction_fits program.schema (current program s next) block t [] → Rests t
  rests-of None fit = tt
  rests-of (Some t) fit = fit

  starts-kind : (t : Option Transaction) → Transaction_fits program.schema (current program s next) block t [] → Apt program.schema t → Block_fits block t [] → (view : Database) (statement : Option Prepared) → statement_at program s next ≡ statement →
      Step_kind program st s (resting next block t waits) (effects_by program st s (resting next block t waits) (start_plan program.schema (resting next block t waits) view statement))
  starts-kind t fit apt fits view None there = closes-kind t there
  starts-kind t fit apt fits view (Some prepared) there =
      plan-starts t prepared there (start_plan program.schema (resting next block t waits) view (Some prepared))
      (taken-starts program s next (resting next block t waits) (rests-of t fit) apt fits view prepared there)

-- ---- a task is in progress

abbrev busy : ℕ → Block_state → Transaction → List Task → Option Ask → Session
busy next block t tasks waits = record { next = next; block = block; transaction = Some t; tasks = tasks; waits = waits; ended = false }

abbrev counted_steps : Bool → Transaction → ℕ
counted_steps true t = t.steps + 1
counted_steps false t = t.steps

abbrev steps_in : Option Transaction → ℕ
steps_in t = elim t [ None ↦ 0 | Some running ↦ step_limit - running.steps ]

steps-fall : (t : Transaction) (later : Option Transaction) → t.steps < step_limit → Steps_are (t.steps + 1) later → (me : Session) → me.transaction ≡ later → steps_left me < step_limit - t.steps
steps-fall t later within are me is = subst (λ l. steps_in l < step_limit - t.steps) (sym is) (by_transaction later are)
  where
    by_transaction : (later : Option Transaction) → Steps_are (t.steps + 1) later → steps_in later < step_limit - t.steps
    by_transaction None are = omega (arith, within)
    by_transaction (Some u) are = omega (arith, within, are)

steps-stay : (t : Transaction) (n : ℕ) (later : Option Transaction) → t.steps ≤ n → Steps_are n later → steps_in later ≤ step_limit - t.steps
steps-stay t n None more are = omega arith
steps-stay t n (Some u) more are = omega (arith, more, are)

module _ (program : Program) (st : State) (s next : ℕ) (block : Block_state) (t : Transaction) (task : Task) (below : List Task) (waits : Option Ask) where
  abbrev me : Session
  me = busy next block t (task ∷ below) waits

  moved-fits : (counted : Bool) (n weight : ℕ) (later : Session) → Moved program s counted n next weight later → SessionFits program s later
  moved-fits counted n weight later moved =
      record {
        tasks = subst (λ m. Transaction_fits program.schema (current program s m) later.block later.transaction later.tasks) (sym moved.next_is) moved.stands.tasks;
        block = λ going. moved.stands.block;
        end = subst (λ e. End_fits e (statement_at program s later.next) later.transaction later.tasks) (sym moved.goes_on) tt;
      }

  same-ahead : (counted : Bool) (n weight : ℕ) (later : Session) → Moved program s counted n next weight later → ahead_of program s later ≡ ahead_of program s me
  same-ahead counted n weight later moved =
      ap (λ m. length (unwrap_or (slice_get program.statements s) []) - m + one_if (not later.ended)) moved.next_is
      ∙ ap (λ e. length (unwrap_or (slice_get program.statements s) []) - next + one_if (not e)) moved.goes_on

  moved-goes : (counted : Bool) → (counted ≡ true → t.steps < step_limit) → (later : Session) → Moved program s counted (counted_steps counted t) next (weight_of (task ∷ below) t.work.opened) later → Goes program s me later
  moved-goes true within later moved =
      record {
        fits = moved-fits true (t.steps + 1) (weight_of (task ∷ below) t.work.opened) later moved;
        apt = moved.stands.apt;
        falls = By_steps (same-ahead true (t.steps + 1) (weight_of (task ∷ below) t.work.opened) later moved) (steps-fall t later.transaction (within refl) moved.steps later refl);
      }
  moved-goes false within later moved =
      record {
        fits = moved-fits false t.steps (weight_of (task ∷ below) t.work.opened) later moved;
        apt = moved.stands.apt;
        falls = By_tasks (same-ahead false t.steps (weight_of (task ∷ below) t.work.opened) later moved) (steps-stay t t.steps later.transaction (omega arith) moved.steps) (moved.lighter refl);
      }

  -- behind the effects that resume and count
  module _ (counted : Bool) (is : (is_counted t.work task && nat_lt t.steps step_limit) ≡ counted) where
    abbrev scene : Scene
    scene = record { world = st.world; me = me }

    resumed : (counted : Bool) → (effects program s (Resumes ∷ count_effects counted) scene).me ≡ now (counted_steps counted t) next block t (task ∷ below)
    unfolding effect
    resumed true = refl
    resumed false = refl

    -- a result behind them
    resumed-does : (P : Session → Type 0) (es : List Effect) → ((world : World) → P (after program s es world (now (counted_steps counted t) next block t (task ∷ below)))) →
        P (effects program s (Resumes ∷ (count_effects counted ++ es)) scene).me
    resumed-does P es each =
        subst (λ x. P x.me) (sym (effects-append program s (Resumes ∷ count_effects counted) es scene))
        (subst (λ one. P (effects program s es (record { world = (effects program s (Resumes ∷ count_effects counted) scene).world; me = one })).me) (sym (resumed counted))
        (each (effects program s (Resumes ∷ count_effects counted) scene).world))

    -- and a fault's behind those before it
    resumed-fails : (P : Session → Type 0) (before : List Effect) (fault : Fault) →
        ((world world' : World) →
        P (after program s (error_effects program.schema (after program s before world (now (counted_steps counted t) next block t (task ∷ below))) fault) world' (after program s before world (now (counted_steps counted t) next block t (task ∷ below))))) →
        P (effects program s (failing_by program st s me (Resumes ∷ (count_effects counted ++ before)) fault) scene).me
    resumed-fails P before fault each =
        subst (λ x. P x.me) (sym (effects-append program s (Resumes ∷ (count_effects counted ++ before)) (error_effects program.schema (effects program s (Resumes ∷ (count_effects counted ++ before)) scene).me fault) scene))
        (resumed-does
        (λ one. P (effects program s (error_effects program.schema one fault) (record { world = (effects program s (Resumes ∷ (count_effects counted ++ before)) scene).world; me = one })).me) before
        (λ world. each world (effects program s (Resumes ∷ (count_effects counted ++ before)) scene).world))

    plan-goes : Working program s counted next block t (task ∷ below) → (counted ≡ true → t.steps < step_limit) → (plan : Plan) → Plan_moves program (around st) s counted (counted_steps counted t) next block t (task ∷ below) plan →
        Step_kind program st s me (effects_by program st s me plan)
    unfolding effect
    plan-goes w within (Does_all es) moves =
        subst (λ b. Step_kind program st s me (Resumes ∷ (count_effects b ++ es))) (sym is)
        (Goes_on (resumed-does (λ later. Goes program s me later) es (λ world. moved-goes counted within (after program s es world (now (counted_steps counted t) next block t (task ∷ below))) (moves world))))
    plan-goes w within (Fails before fault) moves =
        subst (λ b. Step_kind program st s me (failing_by program st s me (Resumes ∷ (count_effects b ++ before)) fault)) (sym is)
        (Goes_on (resumed-fails (λ later. Goes program s me later) before fault
        (λ world world'.
        moved-goes counted within (after program s (error_effects program.schema (after program s before world (now (counted_steps counted t) next block t (task ∷ below))) fault) world' (after program s before world (now (counted_steps counted t) next block t (task ∷ below))))
        (moves world world'))))
    plan-goes w within (Would_wait ask) blocked = by_cycle (closes program st s (blockers program st s ask))
      where
        by_cycle : (cycle : Option (List ℕ)) → Step_kind program st s me (waiting_by program st s me ask cycle)
        by_cycle None = Waits_for_others ask refl blocked
        by_cycle (Some cycle) =
            subst (λ b. Step_kind program st s me (failing_by program st s me (Resumes ∷ (count_effects b ++ Refuses cycle ∷ [])) (plain deadlock))) (sym is)
            (Goes_on (resumed-fails (λ later. Goes program s me later) (Refuses cycle ∷ []) (plain deadlock)
            (λ world world'.
            moved-goes counted within _
            (error-moved program s counted (counted_steps counted t) next block t (weight_of (task ∷ below) t.work.opened) (task ∷ below) w.alive w.apt w.fit w.quick (plain deadlock) world'))))

    -- at the limit on steps all is dropped
    limit-goes : (busy : Bool) → Working program s busy next block t (task ∷ below) → Step_kind program st s me (effects_by program st s me (Fails [] (final too_many_steps)))
    unfolding effect error_effects
    limit-goes busy w =
        subst (λ b. Step_kind program st s me (failing_by program st s me (Resumes ∷ (count_effects b ++ [])) (final too_many_steps))) (sym is)
        (Goes_on (resumed-fails (λ later. Goes program s me later) [] (final too_many_steps)
        (λ world world'.
        at-limit (after program s (error_effects program.schema (now (counted_steps counted t) next block t (task ∷ below)) (final too_many_steps)) world' (now (counted_steps counted t) next block t (task ∷ below)))
        (uncaught-moved program s false (counted_steps counted t) next block t (weight_of (task ∷ below) t.work.opened) (task ∷ below) w.alive w.apt (λ none. weighs task)
        (λ standing named. latest-fits program.schema (current program s next) block (task ∷ below) t.work.opened t.saved standing w.fit named) (final too_many_steps) world'))))
      where
        weighs : (task : Task) → 0 < weight_of (task ∷ below) t.work.opened
        weighs (Changing place left done) = omega arith
        weighs (Locking left shown) = omega arith
        weighs (Rounds place done) = omega (arith, owed-least 2 t.work.opened)
        weighs (Settling place) = omega (arith, owed-least 1 t.work.opened)
        weighs (Committing changed) = omega (arith, owed-least 1 t.work.opened)
        weighs (Acting left done) = omega arith
        weighs (Rechecking done) = omega arith
        weighs (Running event frame) = omega arith

        more : (counted : Bool) → t.steps ≤ counted_steps counted t
        more true = omega arith
        more false = omega arith

        at-limit : (later : Session) → Moved program s false (counted_steps counted t) next (weight_of (task ∷ below) t.work.opened) later → Goes program s me later
        at-limit later moved =
            record {
              fits = moved-fits false (counted_steps counted t) (weight_of (task ∷ below) t.work.opened) later moved;
              apt = moved.stands.apt;
              falls = By_tasks (same-ahead false (counted_steps counted t) (weight_of (task ∷ below) t.work.opened) later moved) (steps-stay t (counted_steps counted t) later.transaction (more counted) moved.steps) (moved.lighter refl);
            }

quick-of : (t : Transaction) (task : Task) (below : List Task) → is_counted t.work task ≡ false → under (task ∷ below) t.work.opened < weight_of (task ∷ below) t.work.opened
quick-of t (Changing place left done) below is = omega arith
quick-of t (Locking left shown) below is = omega arith
quick-of t (Rounds place done) below is = omega (arith, owed-least 2 t.work.opened)
quick-of t (Settling place) below is = omega (arith, owed-least 1 t.work.opened)
quick-of t (Committing changed) below is = omega (arith, owed-least 1 t.work.opened)
quick-of t (Acting left done) below is = omega arith
quick-of t (Rechecking done) below is = omega arith
quick-of t (Running event frame) below is = absurd (true≢false is)

alive-of : (block : Block_state) (t : Option Transaction) (task : Task) (below : List Task) → Block_fits block t (task ∷ below) → Is_alive block
alive-of Idle t task below fits = tt
alive-of Open t task below fits = tt
alive-of Failed t task below fits = absurd (cc)

module _ (program : Program) (are : ActionsAreForRows program.schema.catalog) (st : State) (s next : ℕ) (block : Block_state) (t : Transaction) (below : List Task) (waits : Option Ask) where
  abbrev with_task : Task → Session
  with_task task = busy next block t (task ∷ below) waits

  abbrev Moves_with : Bool → Task → Type 0
  Moves_with counted task =
      Plan_moves program (around st) s counted (counted_steps counted t) next block t (task ∷ below) (task_plan program st s (with_task task) t (current program s next) task below)

  task-moves : (counted : Bool) (task : Task) → is_counted t.work task ≡ counted → Working program s counted next block t (task ∷ below) → Moves_with counted task
  task-moves counted (Changing place left done) is w = changing-moves program (around st) s counted (counted_steps counted t) next block t place below left done w (λ any. sym is ∙ any)
  task-moves counted (Locking left shown) is w = locking-moves program (around st) s counted (counted_steps counted t) next block t below (current program s next) left shown w.fit.1.0 w (λ any. sym is ∙ any)
  task-moves counted (Rounds place done) is w = rounds-moves program (around st) s counted (counted_steps counted t) next block t below are place done w (λ any. sym is ∙ any) (current program s next)
  task-moves counted (Settling place) is w = settling-moves program (around st) s counted (counted_steps counted t) next block t below are place w (λ any. sym is ∙ any) (tag (codes "SET CONSTRAINTS"))
  task-moves counted (Committing changed) is w = drain-moves program (around st) s counted (counted_steps counted t) next block t below changed w are (λ any. sym is ∙ any) (current program s next) (tag (codes "COMMIT"))
  task-moves counted (Acting left done) is w = action-moves program (around st) s counted (counted_steps counted t) next block t below left done w (λ any. sym is ∙ any)
  task-moves counted (Rechecking done) is w = recheck-moves program (around st) s counted (counted_steps counted t) next block t done below w
  task-moves counted (Running event frame) is w = body-moves program (around st) s counted (counted_steps counted t) next block t event frame below w (sym is) (seen (around st) (party s t))

  working : (counted : Bool) (task : Task) → is_counted t.work task ≡ counted → Tasks_fit program.schema (current program s next) block (task ∷ below) t.work.opened t.saved → Is_alive block → Apt program.schema (Some t) →
      Working program s counted next block t (task ∷ below)
  working counted task is fit alive apt = record { alive = alive; apt = apt; fit = fit; quick = λ none. quick-of t task below (is ∙ none) }

  -- by the limit on steps
  limited-kind : (task : Task) → Tasks_fit program.schema (current program s next) block (task ∷ below) t.work.opened t.saved → Is_alive block → Apt program.schema (Some t) → (counted room : Bool) → is_counted t.work task ≡ counted →
      nat_lt t.steps step_limit ≡ room →
      Step_kind program st s (with_task task) (effects_by program st s (with_task task) (within_limit counted room (task_plan program st s (with_task task) t (current program s next) task below)))
  limited-kind task fit alive apt true false is full =
      limit-goes program st s next block t task below waits false (ap (λ (b : Bool). b && nat_lt t.steps step_limit) is ∙ full) true (working true task is fit alive apt)
  limited-kind task fit alive apt true true is within =
      plan-goes program st s next block t task below waits true (ap (λ (b : Bool). b && nat_lt t.steps step_limit) is ∙ within) (working true task is fit alive apt) (λ _. ltb-true t.steps step_limit within) (task_plan program st s (with_task task) t (current program s next) task below)
      (task-moves true task is (working true task is fit alive apt))
  limited-kind task fit alive apt false room is within =
      plan-goes program st s next block t task below waits false (ap (λ (b : Bool). b && nat_lt t.steps step_limit) is) (working false task is fit alive apt) (λ counted. absurd (false≢true counted)) (task_plan program st s (with_task task) t (current program s next) task below)
      (task-moves false task is (working false task is fit alive apt))

-- a session that goes on, whatever is in progress
module _ (program : Program) (are : ActionsAreForRows program.schema.catalog) (st : State) (s next : ℕ) (block : Block_state) (waits : Option Ask) where
  abbrev session : Option Transaction → List Task → Session
  session t tasks = record { next = next; block = block; transaction = t; tasks = tasks; waits = waits; ended = false }

  going-kind : (t : Option Transaction) (tasks : List Task) → SessionFits program s (session t tasks) → Apt program.schema t →
      Step_kind program st s (session t tasks) (effects_by program st s (session t tasks) (plan_with program st s (session t tasks) tasks))
  going-kind t [] fits apt =
      starts-kind program st s next block waits t fits.tasks apt (fits.block refl) (seen (around st) (party_of s t)) (statement_at program s next) refl
  going-kind None (task ∷ below) fits apt = absurd (cc)
  going-kind (Some t) (task ∷ below) fits apt =
      limited-kind program are st s next block t below waits task fits.tasks (alive-of block (Some t) task below (fits.block refl)) apt (is_counted t.work task) (nat_lt t.steps step_limit) refl refl

-- ---- the step

effects-are : (program : Program) (st : State) (s : ℕ) (plan : Plan) → effects_of_plan program st s plan ≡ effects_by program st s (session_at st s) plan
effects-are program st s (Does_all all) = refl
effects-are program st s (Fails before fault) = refl
effects-are program st s (Would_wait ask) = by_cycle (closes program st s (blockers program st s ask))
  where
    by_cycle : (cycle : Option (List ℕ)) → waiting program st s ask cycle ≡ waiting_by program st s (session_at st s) ask cycle
    by_cycle None = refl
    by_cycle (Some cycle) = refl

-- the session with other parts
abbrev with_parts : Session → Bool → List Task → Option Transaction → Session
with_parts one ended tasks t = record { next = one.next; block = one.block; transaction = t; tasks = tasks; waits = one.waits; ended = ended }

by-end : (program : Program) → ActionsAreForRows program.schema.catalog → (st : State) (s : ℕ) (one : Session) (ended : Bool) → ended ≡ false → SessionFits program s (with_parts one ended one.tasks one.transaction) → Apt program.schema one.transaction →
    Step_kind program st s (with_parts one ended one.tasks one.transaction)
    (effects_by program st s (with_parts one ended one.tasks one.transaction) (plan_with program st s (with_parts one ended one.tasks one.transaction) one.tasks))
by-end program are st s one true is fits apt = absurd (true≢false is)
by-end program are st s one false is fits apt = going-kind program are st s one.next one.block one.waits one.transaction one.tasks fits apt

pub step-kind : (program : Program) → ActionsAreForRows program.schema.catalog → (st : State) (s : ℕ) → SessionFits program s (session_at st s) → Apt program.schema (session_at st s).transaction → (session_at st s).ended ≡ false →
    Step_kind program st s (session_at st s) (effects_of program st s)
unfolding effects_of plan_of
step-kind program are st s fits apt going =
    subst (λ es. Step_kind program st s (session_at st s) es) (sym (effects-are program st s (plan_with program st s (session_at st s) (session_at st s).tasks)))
    (by-end program are st s (session_at st s) (session_at st s).ended going fits apt)

-- ---- a session that has ended stays as it is

abbrev Still_fits : Program → State → ℕ → Session → Plan → Type 0
Still_fits program st s one plan =
    SessionFits program s (after program s (effects_by program st s one plan) st.world one) × Apt program.schema (after program s (effects_by program st s one plan) st.world one).transaction

over-again : (program : Program) (st : State) (s : ℕ) (one : Session) → statement_at program s one.next ≡ None → Still_fits program st s (with_parts one true [] None) (Does_all (Aborts ∷ Ends ∷ []))
unfolding effect
over-again program st s one there = (record { tasks = refl; block = λ going. absurd (true≢false going); end = (refl, (refl, there)) }, tt)

by-parts : (program : Program) (st : State) (s : ℕ) (one : Session) (ended : Bool) (tasks : List Task) (t : Option Transaction) (statement : Option Prepared) → ended ≡ true → statement_at program s one.next ≡ statement →
    End_fits ended statement t tasks → Still_fits program st s (with_parts one ended tasks t) (plan_with program st s (with_parts one ended tasks t) tasks)
by-parts program st s one false tasks t statement is there fit = absurd (false≢true is)
by-parts program st s one true (task ∷ below) t statement is there fit = absurd (cc)
by-parts program st s one true [] (Some t) statement is there fit = absurd (cc)
by-parts program st s one true [] None (Some statement) is there fit = absurd (cc)
by-parts program st s one true [] None None is there fit =
    subst (λ statement. Still_fits program st s (with_parts one true [] None) (start_plan program.schema (with_parts one true [] None) (seen (around st) (party_of s None)) statement)) (sym there)
    (over-again program st s one there)

pub ended-stays : (program : Program) (st : State) (s : ℕ) → SessionFits program s (session_at st s) → (session_at st s).ended ≡ true →
    SessionFits program s (after program s (effects_of program st s) st.world (session_at st s)) × Apt program.schema (after program s (effects_of program st s) st.world (session_at st s)).transaction
unfolding effects_of plan_of
ended-stays program st s fits ended =
    subst
    (λ es. SessionFits program s (after program s es st.world (session_at st s)) × Apt program.schema (after program s es st.world (session_at st s)).transaction)
    (sym (effects-are program st s (plan_with program st s (session_at st s) (session_at st s).tasks)))
    (by-parts program st s (session_at st s) (session_at st s).ended (session_at st s).tasks (session_at st s).transaction (statement_at program s (session_at st s).next) ended refl fits.end)
