-- No two transactions hold a row in modes that conflict.
use Rattle.std.proofs.Common.{◌≡◌, ◌≢◌, ℕ, Bool, true, false, not, ◌&&◌, arith, List, [], ◌∷◌, ◌++◌, subst, Option, Some, None, refl, sym, ap, ◌∙◌, ⊎_elim, ◌⊎◌, inl, inr}
use Rattle.std.specs.Prelude.{slice_index_or, slice_set, map, nat_le, length, ◌-◌, ◌+◌, ◌==◌, zero, suc, option_map, if◌then◌else◌, unwrap_or}
use Rattle.std.proofs.lemmas.Bool.{cases_eq, ne_eqb}
use Rattle.std.proofs.lemmas.Bool.Decides.{nat_tests}
use Rattle.std.proofs.lemmas.Option.{same_Some, none-some}
use Rattle.aq_base.specs.Maps.{at}
use Rattle.aq_base.specs.LockModes.{Holdings, strength, conflict, conflicts_with, beside, locked}
use Rattle.aq_base.specs.Blockers.{others_from, with_number, row_blockers}
use Rattle.aq_base.specs.declared.data.LockMode.{LockMode}
use Rattle.aq_run.specs.States.{Transaction, Session, World, State, at_start, nobody, opening, around, held_by, session_at}
use Rattle.aq_base.specs.Databases.{last_number}
use Rattle.aq_base.specs.ConstraintModes.{with_modes}
use Rattle.aq_base.specs.Transitions.{closed}
use Rattle.aq_base.specs.Rounds.{without_top, without_top_level, without_first}
use Rattle.aq_base.specs.Works.{Work, Saved, Kind}
use Rattle.aq_run.specs.Programs.{Program}
use Rattle.aq_run.specs.Steps.{step, effects_of, scene_of, count_effects, is_counted_with}
use Rattle.aq_run.specs.Runs.{Schedule, run_from, run}
use Rattle.aq_base.specs.Names.{Text}
use Rattle.aq_run.specs.Effects.{Effect, Scene, effect, effects, on_session, with_lock, with_lock_in, with_set, opening_of, latest_saved, copied_work, standing_saved, returned, saving, changed, queued, row_of, taking_round}
use Rattle.aq_run.specs.Effects.Effect.{Counts_step, Turns, Starts_waiting, Begins, Fixes_snapshot, Opens, Closes_level, Closes_rounds, Takes_round, Locks, Changes, Queues, Closes_set, Finishes, Sets_mode, Saves, Releases, Returns, Commits, Aborts}
use Rattle.aq_outcomes.specs.Rows.{Change}
use Rattle.aq_base.specs.Values.{Row}
use Rattle.aq_base.specs.Writes.{Writes}
use Rattle.aq_run.proofs.Free_rows.{Fits_parts}
use Rattle.aq_run.proofs.Free_plans.{Is_allowed, Each}
use Rattle.aq_run.proofs.Free_steps.{writes_in, Kind_of_step, kind_of_step}
use Rattle.aq_run.proofs.Free_steps.Kind_of_step.{Changing_a_row, Without_a_change, Waiting}
use Rattle.aq_base.specs.declared.data.LockMode.TheVariants.{Update, NoKeyUpdate, Share, KeyShare}
use Rattle.aq_base.proofs.Maps.{at-with_at_same, at-with_at_other}
use Rattle.aq_run.proofs.Copies_fit.{is_at_most, Fits, Holds, Session_fits, Copies_fit, Copies_fit-drop, on_session-fits, All_fit, step-fits, opening-fit}

-- ---- blockers

no_number : (b : Bool) (number : ℕ) (numbers : List ℕ) → with_number b number numbers ≡ [] → (b ≡ false) × (numbers ≡ [])
no_number true number numbers none = cc
no_number false number numbers none = (refl, none)

and_right : (a b : Bool) → a ≡ true → (a && b) ≡ false → b ≡ false
and_right true b e h = h
and_right false b e h = cc

-- nobody but the session itself is found: no other session passes the test
none_passes : (test : Holdings → Bool) → test [] ≡ false → (all : List Session) (number own : ℕ) → others_from number own test (map held_by all) ≡ [] →
    (j : ℕ) → (number + j) ≢ own → test (held_by (slice_index_or all j nobody)) ≡ false
none_passes test empty [] number own none zero other = empty
none_passes test empty [] number own none (suc j) other = empty
none_passes test empty (one ∷ all) number own none zero other =
    let first = no_number (not (number == own) && test (held_by one)) number (others_from (number + 1) own test (map held_by all)) none in
    and_right (not (number == own)) (test (held_by one)) (ap not (ne_eqb number own (λ same. other (omega (arith, same))))) first.0
none_passes test empty (one ∷ all) number own none (suc j) other =
    let rest = no_number (not (number == own) && test (held_by one)) number (others_from (number + 1) own test (map held_by all)) none in
    none_passes test empty all (number + 1) own rest.1 j (λ same. other (omega (arith, same)))

-- ---- modes

abbrev pub Apart : Holdings → Holdings → Type 0
Apart mine theirs = (row : ℕ) (a b : LockMode) → at row mine ≡ Some a → at row theirs ≡ Some b → conflict a b ≡ false

weaker_apart : (a b c : LockMode) → is_at_most a b ≡ true → conflict b c ≡ false → conflict a c ≡ false
weaker_apart a b c e h = grind (arith, nat_tests, e, h)

conflict-either : (a b : LockMode) → conflict a b ≡ conflict b a
conflict-either KeyShare b = either_key_share b
  where
    either_key_share : (b : LockMode) → conflict KeyShare b ≡ conflict b KeyShare
    either_key_share KeyShare = refl
    either_key_share Share = refl
    either_key_share NoKeyUpdate = refl
    either_key_share Update = refl
conflict-either Share KeyShare = refl
conflict-either Share Share = refl
conflict-either Share NoKeyUpdate = refl
conflict-either Share Update = refl
conflict-either NoKeyUpdate KeyShare = refl
conflict-either NoKeyUpdate Share = refl
conflict-either NoKeyUpdate NoKeyUpdate = refl
conflict-either NoKeyUpdate Update = refl
conflict-either Update KeyShare = refl
conflict-either Update Share = refl
conflict-either Update NoKeyUpdate = refl
conflict-either Update Update = refl

Apart-either : (mine theirs : Holdings) → Apart mine theirs → Apart theirs mine
Apart-either mine theirs apart row a b stands stands' = conflict-either a b ∙ apart row b a stands' stands

Apart-none : (theirs : Holdings) → Apart [] theirs
Apart-none theirs row a b stands stands' = absurd (none-some a stands)

Apart-weaker : (few many theirs : Holdings) → Fits few many → Apart many theirs → Apart few theirs
Apart-weaker few many theirs fits apart row a b stands stands' =
    let stronger_one : Holds row a many = fits row a stands in
    weaker_apart a stronger_one.held b stronger_one.enough (apart row stronger_one.held b stronger_one.stands stands')

either_mode : (P : LockMode → Type 0) (c : Bool) (a b : LockMode) → P a → P b → P (if c then a else b)
either_mode P true a b one other = one
either_mode P false a b one other = other

beside_apart : (mode b : LockMode) (held : Option LockMode) → conflict mode b ≡ false → ((a : LockMode) → held ≡ Some a → conflict a b ≡ false) → conflict (beside mode held) b ≡ false
beside_apart mode b None free apart = free
beside_apart mode b (Some held) free apart = either_mode (λ m. conflict m b ≡ false) (nat_le (strength held) (strength mode)) mode held free (apart held refl)

free_mode : (mode : LockMode) (found : Option LockMode) (b : LockMode) → conflicts_with mode found ≡ false → found ≡ Some b → conflict mode b ≡ false
free_mode mode None b free is = absurd (none-some b is)
free_mode mode (Some held) b free is = conflict-either mode b ∙ ap (λ m. conflict m mode) (sym (same_Some held b is)) ∙ free

Apart-locked : (row : ℕ) (mode : LockMode) (mine theirs : Holdings) → conflicts_with mode (at row theirs) ≡ false → Apart mine theirs → Apart (locked row mode mine) theirs
Apart-locked row mode mine theirs free apart other a b stands stands' =
    ⊎_elim
    (λ (same : other ≡ row).
    let here : at row theirs ≡ Some b = ap (λ k. at k theirs) (sym same) ∙ stands' in
    let is : beside mode (at row mine) ≡ a = same_Some (beside mode (at row mine)) a (sym (at-with_at_same row (beside mode (at row mine)) mine) ∙ ap (λ k. at k (locked row mode mine)) (sym same) ∙ stands) in
    ap (λ m. conflict m b) (sym is) ∙ beside_apart mode b (at row mine) (free_mode mode (at row theirs) b free here) (λ held found. apart row held b found here))
    (λ (elsewhere : other ≢ row). apart other a b (sym (at-with_at_other other row (beside mode (at row mine)) mine elsewhere) ∙ stands) stands')
    (cases_eq other row)

-- ---- effects, against what another session holds

abbrev pub held_in : Option Transaction → Holdings
held_in t = elim t [ None ↦ [] | Some running ↦ running.work.holdings ]

abbrev pub Free_against : Holdings → Option ℕ → Option LockMode → Type 0
Free_against theirs row None = Unit {0}
Free_against theirs None (Some mode) = ⊥
Free_against theirs (Some row) (Some mode) = conflicts_with mode (at row theirs) ≡ false

abbrev pub Is_free_against : Holdings → Effect → Type 0
Is_free_against theirs (Locks row mode) = conflicts_with mode (at row theirs) ≡ false
Is_free_against theirs (Changes change lock triggers) = Free_against theirs change.row lock
Is_free_against theirs _ = Unit {0}

map-apart : (theirs : Holdings) (change : Transaction → Transaction) →
    ((t : Transaction) → Session_fits (Some t) → Apart t.work.holdings theirs → Apart (change t).work.holdings theirs) →
    (t : Option Transaction) → Session_fits t → Apart (held_in t) theirs → Apart (held_in (option_map change t)) theirs
map-apart theirs change keeps None fits apart = apart
map-apart theirs change keeps (Some t) fits apart = keeps t fits apart

lock-apart : (theirs : Holdings) (world : World) (change : Change) (row : Option ℕ) (lock : Option LockMode) (work : Work) → Free_against theirs row lock → Apart work.holdings theirs →
    Apart (with_lock_in (unwrap_or row (world.rows + 1)) lock work).holdings theirs
lock-apart theirs world change row None work free apart = apart
lock-apart theirs world change None (Some mode) work free apart = absurd free
lock-apart theirs world change (Some row) (Some mode) work free apart = Apart-locked row mode work.holdings theirs free apart

opening-apart : (theirs : Holdings) (kind : Kind) (t : Transaction) → Apart t.work.holdings theirs → Apart (opening_of kind t).work.holdings theirs
opening-apart theirs kind t apart = apart

back-apart : (theirs : Holdings) (t : Transaction) (saved : List Saved) → Copies_fit t.work.holdings saved → Apart t.work.holdings theirs → Apart (copied_work (latest_saved saved) t.work).holdings theirs
back-apart theirs t [] fits apart = apart
back-apart theirs t (saved ∷ others) fits apart = Apart-weaker saved.work.holdings t.work.holdings theirs fits.0 apart

pub on_session-apart : (theirs : Holdings) (program : Program) (world : World) (e : Effect) (me : Session) → Is_free_against theirs e → Session_fits me.transaction → Apart (held_in me.transaction) theirs →
    Apart (held_in (on_session program world e me).transaction) theirs
on_session-apart theirs program world Counts_step me free fits apart = map-apart theirs (λ t. record t { steps = t.steps + 1 }) (λ t is it. it) me.transaction fits apart
on_session-apart theirs program world (Begins isolation) me free fits apart = Apart-none theirs
on_session-apart theirs program world Fixes_snapshot me free fits apart = map-apart theirs (λ t. record t { snapshot = Some (last_number world.history) }) (λ t is it. it) me.transaction fits apart
on_session-apart theirs program world (Opens kind task) me free fits apart = map-apart theirs (opening_of kind) (λ t is it. opening-apart theirs kind t it) me.transaction fits apart
on_session-apart theirs program world Closes_level me free fits apart = map-apart theirs (λ t. record t { work = without_top_level t.work }) (λ t is it. it) me.transaction fits apart
on_session-apart theirs program world Closes_rounds me free fits apart = map-apart theirs (λ t. record t { work = without_top t.work }) (λ t is it. it) me.transaction fits apart
on_session-apart theirs program world Takes_round me free fits apart = map-apart theirs (λ t. record t { work = taking_round program.schema t.work }) (λ t is it. it) me.transaction fits apart
on_session-apart theirs program world (Locks row mode) me free fits apart =
    map-apart theirs (λ t. record t { work = with_lock row mode t.work }) (λ t is it. Apart-locked row mode t.work.holdings theirs free it) me.transaction fits apart
on_session-apart theirs program world (Changes change lock triggers) me free fits apart =
    map-apart theirs (changed (row_of world change) (world.writes + 1) change lock triggers)
    (λ t is it. lock-apart theirs world change change.row lock (with_set change.table change.op t.events t.work) free it) me.transaction fits apart
on_session-apart theirs program world (Queues table op triggers) me free fits apart = map-apart theirs (queued table op triggers) (λ t is it. it) me.transaction fits apart
on_session-apart theirs program world (Closes_set set) me free fits apart =
    map-apart theirs (λ t. record t { work = record (t.work) { sets = closed set t.work.sets } }) (λ t is it. it) me.transaction fits apart
on_session-apart theirs program world (Finishes number ending) me free fits apart =
    map-apart theirs (λ t. record t { work = record (t.work) { opened = without_first t.work.opened } }) (λ t is it. it) me.transaction fits apart
on_session-apart theirs program world (Sets_mode constraints deferred) me free fits apart =
    map-apart theirs (λ t. record t { work = record (t.work) { modes = with_modes constraints deferred t.work.modes } }) (λ t is it. it) me.transaction fits apart
on_session-apart theirs program world (Saves mark) me free fits apart = map-apart theirs (saving mark) (λ t is it. it) me.transaction fits apart
on_session-apart theirs program world (Releases standing) me free fits apart =
    map-apart theirs (λ t. record t { saved = standing_saved standing t.saved }) (λ t is it. it) me.transaction fits apart
on_session-apart theirs program world (Returns standing code tasks) me free fits apart =
    map-apart theirs (returned standing)
    (λ t is it. back-apart theirs t (standing_saved (standing + 1) t.saved) (Copies_fit-drop t.work.holdings (length t.saved - (standing + 1)) t.saved is) it) me.transaction fits apart
on_session-apart theirs program world Commits me free fits apart = Apart-none theirs
on_session-apart theirs program world Aborts me free fits apart = Apart-none theirs
on_session-apart theirs program world _ me free fits apart = apart

effects-apart : (theirs : Holdings) (program : Program) (s : ℕ) (es : List Effect) (scene : Scene) → Each (Is_free_against theirs) es → Session_fits scene.me.transaction → Apart (held_in scene.me.transaction) theirs →
    Apart (held_in (effects program s es scene).me.transaction) theirs
unfolding effect
effects-apart theirs program s [] scene free fits apart = apart
effects-apart theirs program s (e ∷ es) scene free fits apart =
    effects-apart theirs program s es (effect program s e scene) free.1 (on_session-fits program scene.world e scene.me fits) (on_session-apart theirs program scene.world e scene.me free.0 fits apart)

-- ---- what is in nobody's way is free against each other session

pub row-free : (st : State) (s j row : ℕ) (mode : LockMode) → j ≢ s → row_blockers s (map held_by st.sessions) row mode ≡ [] → conflicts_with mode (at row (held_by (session_at st j))) ≡ false
row-free st s j row mode other none = none_passes (λ held. conflicts_with mode (at row held)) refl st.sessions 0 s none j (λ same. other (omega (arith, same)))

lock-free : (program : Program) (st : State) (s j : ℕ) (mine : Writes) (change : Change) (row : Option ℕ) (old new : Option Row) (lock : Option LockMode) → j ≢ s →
    Fits_parts program.schema.catalog (around st) s mine change row old new lock → Free_against (held_by (session_at st j)) row lock
lock-free program st s j mine change None None (Some new) None other fits = tt
lock-free program st s j mine change (Some row) (Some old) new (Some mode) other fits = row-free st s j row mode other fits.free
lock-free program st s j mine change row old new None other fits = tt
lock-free program st s j mine change row old new lock other fits = absurd fits

effect-free : (program : Program) (st : State) (s j : ℕ) (e : Effect) → j ≢ s → Is_allowed program.schema.catalog (around st) s e → Is_free_against (held_by (session_at st j)) e
effect-free program st s j (Locks row mode) other free = row-free st s j row mode other free
effect-free program st s j (Changes change lock triggers) other none = absurd none
effect-free program st s j (Starts_waiting ask blockers) other none = absurd none
effect-free program st s j _ other free = tt

each-free : (program : Program) (st : State) (s j : ℕ) (es : List Effect) → j ≢ s → Each (Is_allowed program.schema.catalog (around st) s) es → Each (Is_free_against (held_by (session_at st j))) es
each-free program st s j [] other each = tt
each-free program st s j (e ∷ es) other each = (effect-free program st s j e other each.0, each-free program st s j es other each.1)

counted-free : (theirs : Holdings) (counted : Bool) (es : List Effect) → Each (Is_free_against theirs) es → Each (Is_free_against theirs) (count_effects counted ++ es)
counted-free theirs true es each = (tt, each)
counted-free theirs false es each = each

step-free : (program : Program) (st : State) (s j : ℕ) → j ≢ s → Kind_of_step program st s → Each (Is_free_against (held_by (session_at st j))) (effects_of program st s)
step-free program st s j other (Changing_a_row change lock triggers task changes) =
    subst (Each (Is_free_against (held_by (session_at st j)))) (sym changes.are) (
      tt,
      counted-free (held_by (session_at st j)) (is_counted_with (session_at st s).transaction (session_at st s).tasks) (Changes change lock triggers ∷ Turns task ∷ [])
          (lock-free program st s j (writes_in (session_at st s).transaction) change change.row change.old change.new lock other changes.fits, (tt, tt)),
    )
step-free program st s j other (Without_a_change rest are each) = subst (Each (Is_free_against (held_by (session_at st j)))) (sym are) (tt, each-free program st s j rest other each)
step-free program st s j other (Waiting ask are none) = subst (Each (Is_free_against (held_by (session_at st j)))) (sym are) (tt, tt)

-- ---- every state of every run

-- a session after the step is the one that stepped, or as it was
pub set-cases : (all : List Session) (s : ℕ) (me nothing : Session) (j : ℕ) →
    ((j ≡ s) × (slice_index_or (slice_set all s me) j nothing ≡ me)) ⊎ (slice_index_or (slice_set all s me) j nothing ≡ slice_index_or all j nothing)
set-cases [] s me nothing j = inr refl
set-cases (one ∷ all) zero me nothing zero = inl (refl, refl)
set-cases (one ∷ all) zero me nothing (suc j) = inr refl
set-cases (one ∷ all) (suc s) me nothing zero = inr refl
set-cases (one ∷ all) (suc s) me nothing (suc j) =
    ⊎_elim (λ here. inl (ap (λ n. suc n) here.0, here.1)) (λ elsewhere. inr elsewhere) (set-cases all s me nothing j)

abbrev pub All_apart : State → Type 0
All_apart st = (i j : ℕ) → i ≢ j → Apart (held_by (session_at st i)) (held_by (session_at st j))

module _ (program : Program) (st : State) (s : ℕ) (fit : All_fit st) (apart : All_apart st) where
  abbrev after : Session
  after = (effects program s (effects_of program st s) (scene_of st s)).me

  stepped-apart : (j : ℕ) → j ≢ s → Apart (held_by after) (held_by (session_at st j))
  stepped-apart j other =
      effects-apart (held_by (session_at st j)) program s (effects_of program st s) (scene_of st s)
      (step-free program st s j other (kind_of_step program st s)) (fit s) (apart s j (λ same. other (sym same)))

  step-apart : All_apart (step program st s)
  unfolding step
  step-apart i j other =
      ⊎_elim
      (λ (here : (i ≡ s) × (slice_index_or (slice_set st.sessions s after) i nobody ≡ after)).
      ⊎_elim
      (λ (there : (j ≡ s) × (slice_index_or (slice_set st.sessions s after) j nobody ≡ after)). absurd (other (here.0 ∙ sym there.0)))
      (λ (there : slice_index_or (slice_set st.sessions s after) j nobody ≡ slice_index_or st.sessions j nobody).
      rw (here.1, there) (stepped-apart j (λ same. other (here.0 ∙ sym same))))
      (set-cases st.sessions s after nobody j))
      (λ (here : slice_index_or (slice_set st.sessions s after) i nobody ≡ slice_index_or st.sessions i nobody).
      ⊎_elim
      (λ (there : (j ≡ s) × (slice_index_or (slice_set st.sessions s after) j nobody ≡ after)).
      rw (here, there.1) (Apart-either (held_by after) (held_by (session_at st i)) (stepped-apart i (λ same. other (same ∙ sym there.0)))))
      (λ (there : slice_index_or (slice_set st.sessions s after) j nobody ≡ slice_index_or st.sessions j nobody). rw (here, there) (apart i j other))
      (set-cases st.sessions s after nobody j))
      (set-cases st.sessions s after nobody i)

run-apart : (program : Program) (schedule : Schedule) (st : State) → All_fit st → All_apart st → All_apart (run_from program st schedule)
unfolding run_from
run-apart program [] st fit apart = apart
run-apart program (s ∷ schedule) st fit apart =
    run-apart program schedule (step program st s) (step-fits program st s fit) (step-apart program st s fit apart)

opening-none : (names : List Text) (j : ℕ) → held_by (slice_index_or (map (λ _. at_start) names) j nobody) ≡ []
opening-none [] zero = refl
opening-none [] (suc j) = refl
opening-none (name ∷ names) zero = refl
opening-none (name ∷ names) (suc j) = opening-none names j

opening-apart_all : (program : Program) → All_apart (opening program)
opening-apart_all program i j other = rw (opening-none program.names i) (Apart-none (held_by (session_at (opening program) j)))

-- whatever the schedule, no two sessions hold a row in modes that conflict
pub holdings_apart : (program : Program) (schedule : Schedule) → All_apart (run program schedule)
holdings_apart program schedule = run-apart program schedule (opening program) (opening-fit program.names) (opening-apart_all program)
