-- What a saved copy holds is held, in no weaker mode, by each later copy and by the transaction.
use Rattle.std.proofs.Common.{◌≡◌, ◌≢◌, ℕ, Bool, true, arith, List, [], ◌∷◌, Option, Some, None, refl, sym, ap, ◌∙◌, ⊎_elim}
use Rattle.std.specs.Prelude.{slice_index_or, slice_set, map, nat_le, drop, length, ◌-◌, ◌+◌, zero, suc, option_map}
use Rattle.std.proofs.lemmas.Bool.{cases_eq}
use Rattle.std.proofs.lemmas.Bool.Decides.{nat_tests}
use Rattle.aq_base.specs.Maps.{at}
use Rattle.aq_base.proofs.Maps.{at-with_at_same, at-with_at_other}
use Rattle.aq_base.specs.LockModes.{Holdings, strength, stronger, beside, locked}
use Rattle.aq_base.specs.Databases.{last_number}
use Rattle.aq_base.specs.ConstraintModes.{with_modes}
use Rattle.aq_base.specs.Transitions.{closed}
use Rattle.aq_base.specs.Rounds.{without_top, without_top_level, without_first}
use Rattle.aq_base.specs.Works.{Work, Saved, Kind, Mark}
use Rattle.aq_base.specs.Works.Kind.{Level, Constraints, Drain}
use Rattle.aq_base.specs.Works.Mark.{Named, Block as Of_block}
use Rattle.aq_run.specs.Programs.{Program}
use Rattle.aq_run.specs.States.{Transaction, Session, World, State, at_start, nobody, opening, session_at}
use Rattle.aq_run.specs.Steps.{step, effects_of, scene_of}
use Rattle.aq_run.specs.Runs.{Schedule, run_from, run}
use Rattle.aq_base.specs.Names.{Text}
use Rattle.aq_run.specs.Effects.{Effect, Scene, effect, effects, on_session, with_lock, with_lock_in, with_set, opening_of, left_after, latest_saved, copied_work, standing_saved, returned, saving, changed, queued, row_of, taking_round}
use Rattle.aq_run.specs.Effects.Effect.{Counts_step, Begins, Fixes_snapshot, Opens, Closes_level, Closes_rounds, Takes_round, Locks, Changes, Queues, Closes_set, Finishes, Sets_mode, Saves, Releases, Returns, Commits, Aborts}
use Rattle.aq_base.specs.declared.data.LockMode.{LockMode}
use Rattle.aq_base.specs.declared.data.LockMode.TheVariants.{Update, NoKeyUpdate, Share, KeyShare}

abbrev pub is_at_most : LockMode → LockMode → Bool
is_at_most a b = nat_le (strength a) (strength b)

pub at_most-self : (a : LockMode) → is_at_most a a ≡ true
at_most-self KeyShare = refl
at_most-self Share = refl
at_most-self NoKeyUpdate = refl
at_most-self Update = refl

pub at_most-stronger : (a b : LockMode) → is_at_most a (stronger a b) ≡ true
at_most-stronger KeyShare KeyShare = refl
at_most-stronger KeyShare Share = refl
at_most-stronger KeyShare NoKeyUpdate = refl
at_most-stronger KeyShare Update = refl
at_most-stronger Share KeyShare = refl
at_most-stronger Share Share = refl
at_most-stronger Share NoKeyUpdate = refl
at_most-stronger Share Update = refl
at_most-stronger NoKeyUpdate KeyShare = refl
at_most-stronger NoKeyUpdate Share = refl
at_most-stronger NoKeyUpdate NoKeyUpdate = refl
at_most-stronger NoKeyUpdate Update = refl
at_most-stronger Update KeyShare = refl
at_most-stronger Update Share = refl
at_most-stronger Update NoKeyUpdate = refl
at_most-stronger Update Update = refl

pub at_most-trans : (a b c : LockMode) → is_at_most a b ≡ true → is_at_most b c ≡ true → is_at_most a c ≡ true
at_most-trans a b c e h = grind (arith, nat_tests, e, h)

-- the row is held in the mode or a stronger one
pub record Holds (row : ℕ) (mode : LockMode) (holdings : Holdings) : Type 0 where
  pub held : LockMode
  pub stands : at row holdings ≡ Some held
  pub enough : is_at_most mode held ≡ true

abbrev pub Fits : Holdings → Holdings → Type 0
Fits few many = (row : ℕ) (mode : LockMode) → at row few ≡ Some mode → Holds row mode many

pub Fits-self : (holdings : Holdings) → Fits holdings holdings
Fits-self holdings row mode stands = record { held = mode; stands = stands; enough = at_most-self mode }

pub Fits-trans : (one two three : Holdings) → Fits one two → Fits two three → Fits one three
Fits-trans one two three fits fits' row mode stands =
    let first : Holds row mode two = fits row mode stands in
    let second : Holds row first.held three = fits' row first.held first.stands in
    record { held = second.held; stands = second.stands; enough = at_most-trans mode first.held second.held first.enough second.enough }

pub Fits-locked : (row : ℕ) (mode : LockMode) (holdings : Holdings) → Fits holdings (locked row mode holdings)
Fits-locked row mode holdings other held stands =
    ⊎_elim
    (λ (same : other ≡ row). record {
      held = stronger held mode;
      stands = ap (λ k. at k (locked row mode holdings)) same ∙ (at-with_at_same row (beside mode (at row holdings)) holdings ∙ ap (λ found. Some (beside mode found)) (ap (λ k. at k holdings) (sym same) ∙ stands));
      enough = at_most-stronger held mode;
    })
    (λ (apart : other ≢ row). record { held = held; stands = at-with_at_other other row (beside mode (at row holdings)) holdings apart ∙ stands; enough = at_most-self held })
    (cases_eq other row)

-- ---- each copy, the latest first, below what stands after it

abbrev pub Copies_fit : Holdings → List Saved → Type 0
Copies_fit present [] = Unit {0}
Copies_fit present (saved ∷ others) = Fits saved.work.holdings present × Copies_fit saved.work.holdings others

Copies_fit-more : (present more : Holdings) (saved : List Saved) → Fits present more → Copies_fit present saved → Copies_fit more saved
Copies_fit-more present more [] fits copies = tt
Copies_fit-more present more (saved ∷ others) fits copies = (Fits-trans saved.work.holdings present more copies.0 fits, copies.1)

pub Copies_fit-drop : (present : Holdings) (n : ℕ) (saved : List Saved) → Copies_fit present saved → Copies_fit present (drop n saved)
Copies_fit-drop present zero saved copies = copies
Copies_fit-drop present (suc n) [] copies = tt
Copies_fit-drop present (suc n) (saved ∷ others) copies =
    Copies_fit-drop present n others (Copies_fit-more saved.work.holdings present others copies.0 copies.1)

-- ---- effects

abbrev pub Session_fits : Option Transaction → Type 0
Session_fits None = Unit {0}
Session_fits (Some t) = Copies_fit t.work.holdings t.saved

map-fits : (change : Transaction → Transaction) → ((t : Transaction) → Session_fits (Some t) → Session_fits (Some (change t))) → (t : Option Transaction) → Session_fits t → Session_fits (option_map change t)
map-fits change keeps None fits = tt
map-fits change keeps (Some t) fits = keeps t fits

lock-fits : (row : ℕ) (lock : Option LockMode) (work : Work) (saved : List Saved) → Copies_fit work.holdings saved → Copies_fit (with_lock_in row lock work).holdings saved
lock-fits row None work saved fits = fits
lock-fits row (Some mode) work saved fits = Copies_fit-more work.holdings (locked row mode work.holdings) saved (Fits-locked row mode work.holdings) fits

opening-fits : (kind : Kind) (t : Transaction) → Session_fits (Some t) → Session_fits (Some (opening_of kind t))
opening-fits Level t fits = fits
opening-fits Constraints t fits = fits
opening-fits Drain t fits = tt

left-fits : (mark : Mark) (saved : Saved) (others : List Saved) → saved.mark ≡ mark → Copies_fit saved.work.holdings others → Copies_fit saved.work.holdings (elim mark [ Named name ↦ saved ∷ others | Of_block number height ↦ others ])
left-fits (Named name) saved others is fits = (Fits-self saved.work.holdings, fits)
left-fits (Of_block number height) saved others is fits = fits

back-fits : (t : Transaction) (saved : List Saved) → Copies_fit t.work.holdings saved → Copies_fit (copied_work (latest_saved saved) t.work).holdings (left_after saved)
back-fits t [] fits = tt
back-fits t (saved ∷ others) fits = left-fits saved.mark saved others refl fits.1

pub on_session-fits : (program : Program) (world : World) (e : Effect) (me : Session) → Session_fits me.transaction → Session_fits (on_session program world e me).transaction
on_session-fits program world Counts_step me fits = map-fits (λ t. record t { steps = t.steps + 1 }) (λ t is. is) me.transaction fits
on_session-fits program world (Begins isolation) me fits = tt
on_session-fits program world Fixes_snapshot me fits = map-fits (λ t. record t { snapshot = Some (last_number world.history) }) (λ t is. is) me.transaction fits
on_session-fits program world (Opens kind task) me fits = map-fits (opening_of kind) (opening-fits kind) me.transaction fits
on_session-fits program world Closes_level me fits = map-fits (λ t. record t { work = without_top_level t.work }) (λ t is. is) me.transaction fits
on_session-fits program world Closes_rounds me fits = map-fits (λ t. record t { work = without_top t.work }) (λ t is. is) me.transaction fits
on_session-fits program world Takes_round me fits = map-fits (λ t. record t { work = taking_round program.schema t.work }) (λ t is. is) me.transaction fits
on_session-fits program world (Locks row mode) me fits =
    map-fits (λ t. record t { work = with_lock row mode t.work }) (λ t is. lock-fits row (Some mode) t.work t.saved is) me.transaction fits
on_session-fits program world (Changes change lock triggers) me fits =
    map-fits (changed (row_of world change) (world.writes + 1) change lock triggers)
    (λ t is. lock-fits (row_of world change) lock (with_set change.table change.op t.events t.work) t.saved is) me.transaction fits
on_session-fits program world (Queues table op triggers) me fits = map-fits (queued table op triggers) (λ t is. is) me.transaction fits
on_session-fits program world (Closes_set set) me fits = map-fits (λ t. record t { work = record (t.work) { sets = closed set t.work.sets } }) (λ t is. is) me.transaction fits
on_session-fits program world (Finishes number ending) me fits =
    map-fits (λ t. record t { work = record (t.work) { opened = without_first t.work.opened } }) (λ t is. is) me.transaction fits
on_session-fits program world (Sets_mode constraints deferred) me fits =
    map-fits (λ t. record t { work = record (t.work) { modes = with_modes constraints deferred t.work.modes } }) (λ t is. is) me.transaction fits
on_session-fits program world (Saves mark) me fits = map-fits (saving mark) (λ t is. (Fits-self t.work.holdings, is)) me.transaction fits
on_session-fits program world (Releases standing) me fits =
    map-fits (λ t. record t { saved = standing_saved standing t.saved }) (λ t is. Copies_fit-drop t.work.holdings (length t.saved - standing) t.saved is) me.transaction fits
on_session-fits program world (Returns standing code tasks) me fits =
    map-fits (returned standing) (λ t is. back-fits t (standing_saved (standing + 1) t.saved) (Copies_fit-drop t.work.holdings (length t.saved - (standing + 1)) t.saved is)) me.transaction fits
on_session-fits program world Commits me fits = tt
on_session-fits program world Aborts me fits = tt
on_session-fits program world _ me fits = fits

pub effects-fit : (program : Program) (s : ℕ) (es : List Effect) (scene : Scene) → Session_fits scene.me.transaction → Session_fits (effects program s es scene).me.transaction
unfolding effect
effects-fit program s [] scene fits = fits
effects-fit program s (e ∷ es) scene fits = effects-fit program s es (effect program s e scene) (on_session-fits program scene.world e scene.me fits)

-- ---- every state of every run

pub each-set : (P : Session → Type 0) (all : List Session) (s : ℕ) (me nothing : Session) → ((j : ℕ) → P (slice_index_or all j nothing)) → P me → (j : ℕ) → P (slice_index_or (slice_set all s me) j nothing)
each-set P [] s me nothing each is j = each j
each-set P (one ∷ all) zero me nothing each is zero = is
each-set P (one ∷ all) zero me nothing each is (suc j) = each (suc j)
each-set P (one ∷ all) (suc s) me nothing each is zero = each zero
each-set P (one ∷ all) (suc s) me nothing each is (suc j) = each-set P all s me nothing (λ k. each (suc k)) is j

abbrev pub All_fit : State → Type 0
All_fit st = (j : ℕ) → Session_fits (session_at st j).transaction

pub step-fits : (program : Program) (st : State) (s : ℕ) → All_fit st → All_fit (step program st s)
unfolding step
step-fits program st s fit =
    each-set (λ me. Session_fits me.transaction) st.sessions s (effects program s (effects_of program st s) (scene_of st s)).me nobody fit
    (effects-fit program s (effects_of program st s) (scene_of st s) (fit s))

run-fits : (program : Program) (schedule : Schedule) (st : State) → All_fit st → All_fit (run_from program st schedule)
unfolding run_from
run-fits program [] st fit = fit
run-fits program (s ∷ schedule) st fit = run-fits program schedule (step program st s) (step-fits program st s fit)

pub opening-fit : (names : List Text) (j : ℕ) → Session_fits (slice_index_or (map (λ _. at_start) names) j nobody).transaction
opening-fit [] zero = tt
opening-fit [] (suc j) = tt
opening-fit (name ∷ names) zero = tt
opening-fit (name ∷ names) (suc j) = opening-fit names j

-- whatever the schedule, what a saved copy holds is held by each later copy and by the transaction, in no weaker mode
pub copies_fit : (program : Program) (schedule : Schedule) → All_fit (run program schedule)
copies_fit program schedule = run-fits program schedule (opening program) (opening-fit program.names)
