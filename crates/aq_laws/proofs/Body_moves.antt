-- The steps of a body.
use Rattle.std.proofs.Common.{◌≡◌, ◌≤◌, ℕ, Bool, true, false, List, [], ◌∷◌, ◌++◌, Option, Some, None, Result, Ok, Err, refl, sym, ◌∙◌, ap, subst, arith, drop-drop, length-drop, map}
use Rattle.std.specs.Prelude.{◌+◌, ◌-◌, zero, suc, length, drop, is_some, slice_get, nat_le}
use Rattle.std.proofs.lemmas.Bool.{true≢false}
use Rattle.aq_base.specs.Names.{Text}
use Rattle.aq_base.specs.Limits.{saved_limit, level_limit}
use Rattle.aq_base.specs.Databases.{Database}
use Rattle.aq_base.specs.ConstraintModes.{Modes, with_modes}
use Rattle.aq_base.specs.Events.{Event, numbers_of}
use Rattle.aq_base.specs.Transitions.{set_at}
use Rattle.aq_base.specs.Works.{Opened, Saved, level_of}
use Rattle.aq_base.specs.Works.Kind.{Level, Constraints as Settings}
use Rattle.aq_base.specs.Works.Mark.{Block}
use Rattle.aq_base.specs.Rounds.{round_of}
use Rattle.aq_base.specs.Statements.{Change_of_rows}
use Rattle.aq_base.specs.Terms.{Term}
use Rattle.aq_base.specs.Codes.{Code, Instruction}
use Rattle.aq_base.specs.Codes.Instruction.{Unless, Passes_over, Enters, Leaves, Raises, Returns, Changes, Sets}
use Rattle.aq_base.specs.Frames.{Frame, Next, Ahead, ahead, ahead_from, passed_over, next_of, entered, change_in, change_before}
use Rattle.aq_base.specs.Frames.Next.{To_change, To_set, To_enter, To_raise, To_return, To_end, To_fault}
use Rattle.aq_base.specs.declared.script.Kind.{Kind as Value_kind}
use Rattle.aq_base.specs.declared.fault.SqlFault.{SqlFault}
use Rattle.aq_base.specs.declared.modes.Constraints.{Constraints}
use Rattle.aq_base.specs.declared.modes.Constraints.TheVariants.{All, Named as Those_named}
use Rattle.aq_base.specs.declared.trace.Ending.TheVariants as endings
use Rattle.aq_catalog.specs.Catalogs.{constraints_named}
use Rattle.aq_outcomes.specs.Schemas.{code_at}
use Rattle.aq_outcomes.specs.Parties.{Around}
use Rattle.aq_outcomes.specs.Faults.{out_of_range, raised, no_return, too_many_levels, too_many_saved}
use Rattle.aq_run.specs.Programs.{Program}
use Rattle.aq_run.specs.States.{Target, Task, Block_state, Transaction, Session, World}
use Rattle.aq_run.specs.States.Place.{In_body}
use Rattle.aq_run.specs.States.Task.{Changing, Settling, Running}
use Rattle.aq_run.specs.Faults.{Fault, plain}
use Rattle.aq_run.specs.Effects.{Effect, Scene, effect, effects}
use Rattle.aq_run.specs.Effects.Effect.{Turns, Opens, Finishes, Sets_mode, Saves}
use Rattle.aq_run.specs.Plans.{Plan}
use Rattle.aq_run.specs.Plans.Plan.{Does_all, Fails}
use Rattle.aq_run.specs.Starts.{is_deferring, unless_full, change_targets, targets_or_fault, saved_of}
use Rattle.aq_run.specs.Bodies.{leaving, going_on, set_effects, after_modes, set_plan, set_fault, unless_deep, open_blocks, return_plan, first_number, next_plan, blocks_left, on_ahead, truth_in, body_plan, around_event}
use Rattle.aq_run.specs.Errors.{error_effects}
use Rattle.aq_run.specs.Steps.{current}
use Rattle.aq_run.specs.Measure.{weight_of, opened_by}
use Rattle.aq_run.proofs.Effected.{effects-append}
use Rattle.aq_run.proofs.Free_plans.{Each}
use Rattle.aq_laws.specs.Stacks.{Blocks_fit, Tasks_fit}
use Rattle.aq_laws.proofs.Apt.{Apt, saved-drop}
use Rattle.aq_laws.proofs.Moves.{after, Moved, Is_plain, now, plain-moved}
use Rattle.aq_laws.proofs.Catches.{blocks-left, blocks-length}
use Rattle.aq_laws.proofs.Error_moves.{error-moved}
use Rattle.aq_laws.proofs.Row_moves.{Working, Plan_moves, first-done}

-- ---- what a body comes to

-- some of the innermost blocks have been left
pub record Goes_out (blocks outer : List ℕ) : Type 0 where
  pub count : ℕ
  pub within : count ≤ length blocks
  pub is : outer ≡ drop count blocks

goes-out-one : (blocks outer : List ℕ) → Goes_out (drop 1 blocks) outer → Goes_out blocks outer
goes-out-one [] outer out = out
goes-out-one (block ∷ blocks) outer out = record { count = suc out.count; within = omega (arith, out.within); is = out.is }

stays-in : (blocks : List ℕ) → Goes_out blocks blocks
stays-in blocks = record { count = 0; within = omega arith; is = refl }

-- a statement is the one just before the place behind it
abbrev Is_before : Code → ℕ → Next → Type 0
Is_before whole place (To_change change) = is_some (change_before whole place) ≡ true
Is_before whole place _ = Unit {0}

pub record Comes_to (whole : Code) (blocks : List ℕ) (to : Ahead) : Type 0 where
  pub out : Goes_out blocks to.frame.blocks
  pub before : Is_before whole to.frame.place to.next

get-at : (whole : Code) (place : ℕ) (instruction : Instruction) (rest : Code) → drop place whole ≡ instruction ∷ rest → slice_get whole place ≡ Some instruction
get-at [] zero instruction rest is = absurd (cc)
get-at [] (suc place) instruction rest is = absurd (cc)
get-at (first ∷ whole) zero instruction rest is = ap (λ l. slice_get l 0) is
get-at (first ∷ whole) (suc place) instruction rest is = get-at whole place instruction rest is

behind : (whole : Code) (place : ℕ) (instruction : Instruction) (rest : Code) → drop place whole ≡ instruction ∷ rest → drop (place + 1) whole ≡ rest
behind whole place instruction rest is = sym (drop-drop 1 place whole) ∙ ap (drop 1) is

change-there : (whole : Code) (place : ℕ) (change : Change_of_rows) (rest : Code) → drop place whole ≡ Changes change ∷ rest → is_some (change_before whole (place + 1)) ≡ true
change-there whole place change rest is =
    ap (λ m. is_some (change_in (slice_get whole m))) (one-back place) ∙ ap (λ found. is_some (change_in found)) (get-at whole place (Changes change) rest is)
  where
    one-back : (m : ℕ) → m + 1 - 1 ≡ m
    one-back m = omega arith

abbrev ahead_by : (Term → Result Bool Value_kind) → Code → ℕ → ℕ → List ℕ → Result Bool Value_kind → Ahead
ahead_by truth code place passed blocks answer =
    elim answer [
      | Ok holds ↦ ahead_from truth code (passed_over holds passed) (place + 1) blocks
      | Err kind ↦ ahead (To_fault kind) place blocks
    ]

by-truth : (truth : Term → Result Bool Value_kind) (whole code : Code) (place passed : ℕ) (blocks : List ℕ) (answer : Result Bool Value_kind) →
    ((count : ℕ) → Comes_to whole blocks (ahead_from truth code count (place + 1) blocks)) →
    Comes_to whole blocks (ahead_by truth code place passed blocks answer)
by-truth truth whole code place passed blocks (Ok holds) rest = rest (passed_over holds passed)
by-truth truth whole code place passed blocks (Err kind) rest = record { out = stays-in blocks; before = tt }

comes-to : (truth : Term → Result Bool Value_kind) (whole code : Code) (passed place : ℕ) (blocks : List ℕ) → drop place whole ≡ code → Comes_to whole blocks (ahead_from truth code passed place blocks)
comes-to truth whole [] passed place blocks is = record { out = stays-in blocks; before = tt }
comes-to truth whole (instruction ∷ code) (suc passed) place blocks is = comes-to truth whole code passed (place + 1) blocks (behind whole place instruction code is)
comes-to truth whole (Unless condition passed ∷ code) zero place blocks is =
    by-truth truth whole code place passed blocks (truth condition) (λ count. comes-to truth whole code count (place + 1) blocks (behind whole place (Unless condition passed) code is))
comes-to truth whole (Passes_over passed ∷ code) zero place blocks is = comes-to truth whole code passed (place + 1) blocks (behind whole place (Passes_over passed) code is)
comes-to truth whole (Enters handlers ∷ code) zero place blocks is = record { out = stays-in blocks; before = tt }
comes-to truth whole (Leaves ∷ code) zero place blocks is =
    let rest : Comes_to whole (drop 1 blocks) (ahead_from truth code 0 (place + 1) (drop 1 blocks)) = comes-to truth whole code 0 (place + 1) (drop 1 blocks) (behind whole place Leaves code is) in
    record { out = goes-out-one blocks (ahead_from truth code 0 (place + 1) (drop 1 blocks)).frame.blocks rest.out; before = rest.before }
comes-to truth whole (Raises text ∷ code) zero place blocks is = record { out = stays-in blocks; before = tt }
comes-to truth whole (Returns ∷ code) zero place blocks is = record { out = stays-in blocks; before = tt }
comes-to truth whole (Changes change ∷ code) zero place blocks is = record { out = stays-in blocks; before = change-there whole place change code is }
comes-to truth whole (Sets set ∷ code) zero place blocks is = record { out = stays-in blocks; before = tt }

-- ---- blocks are left

copies-left : (all left : ℕ) → suc left ≤ all → all - (all - suc left) ≡ suc left
copies-left all left within = omega (arith, within)

-- the transaction without so many of its copies
abbrev without_copies : ℕ → Transaction → Transaction
without_copies left t = record t { saved = drop left t.saved }

module _ (program : Program) (s : ℕ) (n next : ℕ) (block : Block_state) (t : Transaction) where
  leaving-after : (left : ℕ) (tasks : List Task) (world : World) → left ≤ length t.saved →
      after program s (leaving left t.saved) world (now n next block t tasks) ≡ now n next block (without_copies left t) tasks
  unfolding effect
  leaving-after zero tasks world within = refl
  leaving-after (suc left) tasks world within = ap (λ m. now n next block (record t { saved = drop m t.saved }) tasks) (copies-left (length t.saved) left within)

  going-after : (event : Event) (frame frame' : Frame) (below : List Task) (left : ℕ) (world : World) → left ≤ length t.saved →
      after program s (going_on event frame' left t.saved) world (now n next block t (Running event frame ∷ below)) ≡ now n next block (without_copies left t) (Running event frame' ∷ below)
  unfolding effect
  going-after event frame frame' below zero world within = refl
  going-after event frame frame' below (suc left) world within =
      ap (λ m. now n next block (record t { saved = drop m t.saved }) (Running event frame' ∷ below)) (copies-left (length t.saved) left within)

-- ---- modes are set one after the other

abbrev with_set_modes : Modes → Transaction → Transaction
with_set_modes m t = record t { work = record (t.work) { modes = m } }

pub modes-moved : {A : Type 0} (program : Program) (s : ℕ) (n next : ℕ) (block : Block_state) (t : Transaction) (tasks : List Task) (Result_of : Session → Type 0) (deferred : Bool) (names : A → Option (List ℕ)) (more : List Effect) →
    ((m : Modes) (world : World) → Result_of (after program s more world (now n next block (with_set_modes m t) tasks))) →
    (all : List A) (m : Modes) (world : World) → Result_of (after program s (map (λ a. Sets_mode (names a) deferred) all ++ more) world (now n next block (with_set_modes m t) tasks))
unfolding effect
modes-moved program s n next block t tasks Result_of deferred names more rest [] m world = rest m world
modes-moved program s n next block t tasks Result_of deferred names more rest (a ∷ all) m world =
    modes-moved program s n next block t tasks Result_of deferred names more rest all (with_modes (names a) deferred m)
    (effect program s (Sets_mode (names a) deferred) (record { world = world; me = now n next block (with_set_modes m t) tasks })).world

-- ---- the step

module _ (program : Program) (others : Around) (s : ℕ) (counted : Bool) (n next : ℕ) (block : Block_state) (t : Transaction) (event : Event) (from : Frame) (below : List Task)
    (w : Working program s counted next block t (Running event from ∷ below)) (busy : counted ≡ true) where
  abbrev Left : Plan → Type 0
  Left plan = Plan_moves program others s counted n next block t (Running event from ∷ below) plan

  abbrev Well : Session → Type 0
  Well me = Moved program s counted n next (weight_of (Running event from ∷ below) t.work.opened) me

  abbrev Fit_with : List Task → List Opened → List Saved → Type 0
  Fit_with tasks opened saved = Tasks_fit program.schema (current program s next) block tasks opened saved

  blocks-within : length from.blocks ≤ length t.saved
  blocks-within = blocks-length (length from.blocks) (suc (length below)) t.work.opened t.saved w.fit.1.1.0

  -- with the effects before it done
  behind-going : (frame : Frame) (left : ℕ) → left ≤ length t.saved → (more : List Effect) →
      ((world : World) → Well (after program s more world (now n next block (without_copies left t) (Running event frame ∷ below)))) →
      Left (Does_all (going_on event frame left t.saved ++ more))
  behind-going frame left within more well world =
      let scene : Scene = record { world = world; me = now n next block t (Running event from ∷ below) } in
      subst (λ x. Well x.me) (sym (effects-append program s (going_on event frame left t.saved) more scene))
      (subst (λ me. Well (effects program s more (record { world = (effects program s (going_on event frame left t.saved) scene).world; me = me })).me)
      (sym (going-after program s n next block t event from frame below left world within))
      (well (effects program s (going_on event frame left t.saved) scene).world))

  -- what stands when the body has come to a frame
  module _ (frame : Frame) (left : ℕ) (within : left ≤ length from.blocks) (is : frame.blocks ≡ drop left from.blocks) where
    abbrev left_with : Transaction
    left_with = without_copies left t

    come-fits : (rest : ℕ) → length from.blocks ≡ left + rest → Fit_with (Running event frame ∷ below) t.work.opened (drop left t.saved)
    come-fits rest all =
        let outer : length frame.blocks ≡ rest = ap length is ∙ length-drop left from.blocks ∙ omega (arith, all) in (
          w.fit.0,
          (
            w.fit.1.0,
            (
              subst (λ m. Blocks_fit m (suc (length below)) t.work.opened (drop left t.saved)) (sym outer)
                  (blocks-left (length from.blocks) left rest (suc (length below)) t.work.opened t.saved all w.fit.1.1.0),
              subst (λ saved. Fit_with below t.work.opened saved)
                  (sym (ap (λ m. drop m (drop left t.saved)) outer ∙ drop-drop rest left t.saved ∙ ap (λ m. drop m t.saved) (sym all))) w.fit.1.1.1,
            ),
          ),
        )

    fits : Fit_with (Running event frame ∷ below) t.work.opened (drop left t.saved)
    fits = come-fits (length from.blocks - left) (omega (arith, within))

    copies : left ≤ length t.saved
    copies = omega (arith, within, blocks-within)

    apt : Apt program.schema (Some left_with)
    apt = (w.apt.0, saved-drop program.schema left t.saved w.apt.1)

    going-fails : (fault : Fault) → Left (Fails (going_on event frame left t.saved) fault)
    going-fails fault world world' =
        subst (λ me. Well (after program s (error_effects program.schema me fault) world' me)) (sym (going-after program s n next block t event from frame below left world copies))
        (error-moved program s counted n next block left_with (weight_of (Running event from ∷ below) t.work.opened) (Running event frame ∷ below) w.alive apt fits (λ none. absurd (true≢false (sym busy ∙ none))) fault world')

    -- plain effects behind it
    going-does : (es : List Effect) → Each (Is_plain program.schema) es →
        ((world : World) →
        Fit_with (after program s es world (now n next block left_with (Running event frame ∷ below))).tasks
        (opened_by (after program s es world (now n next block left_with (Running event frame ∷ below))).transaction) (saved_of (after program s es world (now n next block left_with (Running event frame ∷ below))).transaction)) →
        Left (Does_all (going_on event frame left t.saved ++ es))
    going-does es each fit =
        behind-going frame left copies es
        (λ world.
        plain-moved program s counted n next block left_with (weight_of (Running event from ∷ below) t.work.opened) (Running event frame ∷ below) w.alive apt es each world (fit world)
        (λ none. absurd (true≢false (sym busy ∙ none))))

    changes-moves : (found : Result (List Target) Value_kind) → is_some (change_before (code_at program.schema event.trigger) frame.place) ≡ true →
        Left (targets_or_fault (going_on event frame left t.saved) (λ found. Opens Level (Changing In_body found 0) ∷ []) found)
    unfolding effect
    changes-moves (Err kind) there = going-fails (plain (out_of_range kind))
    changes-moves (Ok found) there = going-does (Opens Level (Changing In_body found 0) ∷ []) (tt, tt) (λ world. (refl, (tt, (there, fits))))

    deep-moves : (deep : Bool) (plan : Plan) → Left plan → Left (unless_deep deep (going_on event frame left t.saved) plan)
    deep-moves true plan moves = going-fails (plain too_many_levels)
    deep-moves false plan moves = moves

    full-moves : (full : Bool) (plan : Plan) → Left plan → Left (unless_full full (going_on event frame left t.saved) plan)
    full-moves true plan moves = going-fails (plain too_many_saved)
    full-moves false plan moves = moves

    enters-moves : (number : ℕ) → Left (Does_all (going_on event frame left t.saved ++ Saves (Block number (length (Running event from ∷ below))) ∷ Turns (Running event (entered frame)) ∷ []))
    unfolding effect
    enters-moves number =
        going-does (Saves (Block number (length (Running event from ∷ below))) ∷ Turns (Running event (entered frame)) ∷ []) (tt, (tt, tt))
        (λ world. (fits.0, (fits.1.0, ((refl, (refl, fits.1.1.0)), fits.1.1.1))))

    after-set : (deferred : Bool) (m : Modes) (world : World) → Well (after program s (after_modes deferred) world (now n next block (with_set_modes m left_with) (Running event frame ∷ below)))
    unfolding effect
    after-set true m world =
        plain-moved program s counted n next block (with_set_modes m left_with) (weight_of (Running event from ∷ below) t.work.opened) (Running event frame ∷ below) w.alive apt [] tt world fits (λ none. absurd (true≢false (sym busy ∙ none)))
    after-set false m world =
        plain-moved program s counted n next block (with_set_modes m left_with) (weight_of (Running event from ∷ below) t.work.opened) (Running event frame ∷ below) w.alive apt (Opens Settings (Settling In_body) ∷ []) (tt, tt) world (refl, (tt, fits))
        (λ none. absurd (true≢false (sym busy ∙ none)))

    sets-moves : (deferred : Bool) (names : Constraints) → Left (Does_all (going_on event frame left t.saved ++ (set_effects program.schema deferred names ++ after_modes deferred)))
    sets-moves deferred All =
        behind-going frame left copies (set_effects program.schema deferred All ++ after_modes deferred)
        (λ world.
        modes-moved program s n next block left_with (Running event frame ∷ below) Well deferred (λ (it : Option (List ℕ)). it) (after_modes deferred) (λ m world. after-set deferred m world) (None ∷ []) t.work.modes world)
    sets-moves deferred (Those_named names) =
        behind-going frame left copies (set_effects program.schema deferred (Those_named names) ++ after_modes deferred)
        (λ world.
        modes-moved program s n next block left_with (Running event frame ∷ below) Well deferred (λ (name : Text). Some (constraints_named program.schema.catalog name)) (after_modes deferred) (λ m world. after-set deferred m world) names t.work.modes world)

    set-moves : (deferred : Bool) (names : Constraints) (fault : Option SqlFault) → Left (set_plan program.schema (going_on event frame left t.saved) deferred names fault)
    set-moves deferred names (Some fault) = going-fails (plain fault)
    set-moves deferred names None = sets-moves deferred names

  -- RETURN leaves all blocks
  returns : (number : ℕ) → Left (return_plan number (length from.blocks) t.saved)
  unfolding effect
  returns number world =
      let scene : Scene = record { world = world; me = now n next block t (Running event from ∷ below) } in
      subst (λ x. Well x.me) (sym (effects-append program s (leaving (length from.blocks) t.saved) (Finishes number endings.Ran ∷ []) scene))
      (subst (λ me. Well (effects program s (Finishes number endings.Ran ∷ []) (record { world = (effects program s (leaving (length from.blocks) t.saved) scene).world; me = me })).me)
      (sym (leaving-after program s n next block t (length from.blocks) (Running event from ∷ below) world blocks-within))
      (plain-moved program s counted n next block (without_copies (length from.blocks) t) (weight_of (Running event from ∷ below) t.work.opened) (Running event from ∷ below) w.alive
      (w.apt.0, saved-drop program.schema (length from.blocks) t.saved w.apt.1) (Finishes number endings.Ran ∷ []) (tt, tt) (effects program s (leaving (length from.blocks) t.saved) scene).world
      (first-done program.schema (current program s next) block (drop (length from.blocks) t.saved) below w.fit.1.0 t.work.opened w.fit.1.1.1) (λ none. absurd (true≢false (sym busy ∙ none)))))

  next-moves : (view : Database) (frame : Frame) (left : ℕ) → left ≤ length from.blocks → frame.blocks ≡ drop left from.blocks → (next_one : Next) →
      Is_before (code_at program.schema event.trigger) frame.place next_one →
      Left (next_plan program.schema view t event (length (Running event from ∷ below)) from frame (going_on event frame left t.saved) left next_one)
  next-moves view frame left within is (To_change change) before =
      deep-moves frame left within is (nat_le level_limit (level_of t.work)) _ (changes-moves frame left within is (change_targets program.schema (around_event event) view (set_at event.set t.work.sets) change) before)
  next-moves view frame left within is (To_set set) before =
      set-moves frame left within is (is_deferring set.mode) set.constraints (set_fault program.schema (is_deferring set.mode) set.constraints)
  next-moves view frame left within is To_enter before =
      full-moves frame left within is (nat_le saved_limit (length t.saved - left)) _ (enters-moves frame left within is ((open_blocks t.saved - left) + 1))
  next-moves view frame left within is (To_raise text) before = going-fails frame left within is (plain (raised text))
  next-moves view frame left within is To_return before = returns (first_number (numbers_of (round_of t.work.opened)))
  next-moves view frame left within is To_end before = going-fails frame left within is (plain no_return)
  next-moves view frame left within is (To_fault kind) before = going-fails frame left within is (plain (out_of_range kind))

  ahead-moves : (view : Database) (to : Ahead) → Comes_to (code_at program.schema event.trigger) from.blocks to →
      Left (on_ahead program.schema view t event (length (Running event from ∷ below)) from to)
  ahead-moves view to comes =
      subst (λ left. Left (next_plan program.schema view t event (length (Running event from ∷ below)) from to.frame (going_on event to.frame left t.saved) left to.next)) (sym left-is)
      (next-moves view to.frame comes.out.count comes.out.within comes.out.is to.next comes.before)
    where
      left-is : blocks_left from to.frame ≡ comes.out.count
      left-is = omega (arith, ap length comes.out.is ∙ length-drop comes.out.count from.blocks, comes.out.within)

  pub body-moves : (view : Database) → Left (body_plan program.schema view t event (length (Running event from ∷ below)) from)
  body-moves view =
      ahead-moves view (next_of (truth_in event) (code_at program.schema event.trigger) from)
      (comes-to (truth_in event) (code_at program.schema event.trigger) (drop from.place (code_at program.schema event.trigger)) 0 from.place from.blocks refl)
