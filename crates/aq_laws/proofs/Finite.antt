-- Every run is finite: each step makes the measure smaller.
use Rattle.std.proofs.Common.{◌≡◌, ◌≢◌, ◌<◌, ◌≤◌, ℕ, Bool, true, false, not, ◌&&◌, List, [], ◌∷◌, Option, Some, None, refl, sym, ◌∙◌, ap, subst, arith, length-set, map, ◌⊎◌, inl, inr}
use Rattle.std.specs.Prelude.{◌+◌, zero, suc, length, filter, cond, slice_index_or, slice_set, nat_lt}
use Rattle.std.specs.List.{enumerate_from}
use Rattle.std.proofs.lemmas.Bool.{cases_eq, cases_order}
use Rattle.aq_base.specs.Blockers.{Ask}
use Rattle.aq_outcomes.specs.Parties.{Around, ask_blockers}
use Rattle.aq_catalog.specs.Catalogs.{Catalog}
use Rattle.aq_run.specs.Programs.{Program}
use Rattle.aq_run.specs.States.{Session, World, State, nobody, opening, session_at, around, held_by, written_by}
use Rattle.aq_run.specs.Waits.{is_empty, is_enabled, numbers, blockers, blockers_of}
use Rattle.aq_run.specs.Effects.{Effect, effect, effects}
use Rattle.aq_run.specs.Effects.Effect.{Starts_waiting}
use Rattle.aq_run.specs.Steps.{step, effects_of, scene_of, with_scene}
use Rattle.aq_run.specs.Runs.{run_from, run}
use Rattle.aq_run.specs.Measure.{Measure, measure, Falls, total, ahead_of, ahead_from, steps_left, tasks_weight}
use Rattle.aq_run.specs.Measure.Falls.{Ahead, Steps, Tasks, Enabled}
use Rattle.aq_run.proofs.Effected.{run_from-append}
use Rattle.aq_laws.specs.Stacks.{ActionsAreForRows}
use Rattle.aq_laws.specs.Finite.{EveryStepFalls, RunsAreFinite, first_choices}
use Rattle.aq_laws.proofs.Blocked.{Is_blocked}
use Rattle.aq_laws.proofs.Moves.{after}
use Rattle.aq_laws.proofs.Step_moves.{Share_falls, Step_kind, step-kind}
use Rattle.aq_laws.proofs.Step_moves.Share_falls.{By_ahead, By_steps, By_tasks}
use Rattle.aq_laws.proofs.Step_moves.Step_kind.{Waits_for_others, Goes_on}
use Rattle.aq_laws.proofs.Stacks.{set-same, set-other, All_stand, run-stands}
use Rattle.aq_laws.proofs.Default.{CanStep, CanStep-enabled}

-- ---- sums

total-set : (f : Session → ℕ) (all : List Session) (s : ℕ) (me : Session) → s < length all → total (map f (slice_set all s me)) + f (slice_index_or all s nobody) ≡ total (map f all) + f me
total-set f [] s me within = absurd (omega (arith, within))
total-set f (one ∷ all) zero me within = omega arith
total-set f (one ∷ all) (suc s) me within = omega (arith, total-set f all s me (omega (arith, within)))

ahead-set : (program : Program) (k r : ℕ) (all : List Session) (s : ℕ) (me : Session) → r ≡ k + s → s < length all →
    ahead_from program k (slice_set all s me) + ahead_of program r (slice_index_or all s nobody) ≡ ahead_from program k all + ahead_of program r me
ahead-set program k r [] s me at within = absurd (omega (arith, within))
ahead-set program k r (one ∷ all) zero me at within =
    let here : r ≡ k = omega (arith, at) in
    subst (λ m. ahead_of program k me + ahead_from program (k + 1) all + ahead_of program m one ≡ ahead_of program k one + ahead_from program (k + 1) all + ahead_of program m me) (sym here) (omega arith)
ahead-set program k r (one ∷ all) (suc s) me at within = omega (arith, ahead-set program (k + 1) r all s me (omega (arith, at)) (omega (arith, within)))

map-set : {X : Type 0} (f : Session → X) (all : List Session) (s : ℕ) (me : Session) → f me ≡ f (slice_index_or all s nobody) → map f (slice_set all s me) ≡ map f all
map-set f [] s me same = refl
map-set f (one ∷ all) zero me same = ap (λ x. x ∷ map f all) same
map-set f (one ∷ all) (suc s) me same = ap (λ l. f one ∷ l) (map-set f all s me same)

numbers-set : (k : ℕ) (all : List Session) (s : ℕ) (me : Session) → map (λ entry. entry.0) (enumerate_from k (slice_set all s me)) ≡ map (λ entry. entry.0) (enumerate_from k all)
numbers-set k [] s me = refl
numbers-set k (one ∷ all) zero me = refl
numbers-set k (one ∷ all) (suc s) me = ap (λ l. k ∷ l) (numbers-set (k + 1) all s me)

-- ---- how many may step, where one that might may no longer and the others as before

module _ (was is : ℕ → Bool) (s : ℕ) (others : (k : ℕ) → k ≢ s → is k ≡ was k) where
  one-as-before : (k : ℕ) (rest rest' : List ℕ) → is k ≡ was k → length rest' ≡ length rest → length (cond (is k) (k ∷ rest') rest') ≡ length (cond (was k) (k ∷ rest) rest)
  one-as-before k rest rest' same lengths =
      ap (λ b. length (cond b (k ∷ rest') rest')) same ∙ by_test (was k)
    where
      by_test : (b : Bool) → length (cond b (k ∷ rest') rest') ≡ length (cond b (k ∷ rest) rest)
      by_test true = ap suc lengths
      by_test false = lengths

  past : (all : List Session) (k : ℕ) → s < k → length (filter is (map (λ entry. entry.0) (enumerate_from k all))) ≡ length (filter was (map (λ entry. entry.0) (enumerate_from k all)))
  past [] k later = refl
  past (one ∷ all) k later =
      one-as-before k (filter was (map (λ entry. entry.0) (enumerate_from (k + 1) all))) (filter is (map (λ entry. entry.0) (enumerate_from (k + 1) all))) (others k (λ same. omega (arith, later, same)))
      (past all (k + 1) (omega (arith, later)))

  fewer : was s ≡ true → is s ≡ false → (all : List Session) (k : ℕ) → k ≤ s → s < k + length all →
      length (filter is (map (λ entry. entry.0) (enumerate_from k all))) < length (filter was (map (λ entry. entry.0) (enumerate_from k all)))
  fewer might cannot [] k from to = absurd (omega (arith, from, to))
  fewer might cannot (one ∷ all) k from to = by_place (cases_eq k s) (λ next. fewer might cannot all (k + 1) next (omega (arith, to)))
    where
      rest : List ℕ
      rest = map (λ entry. entry.0) (enumerate_from (k + 1) all)

      here : k ≡ s → length (cond (is k) (k ∷ filter is rest) (filter is rest)) < length (cond (was k) (k ∷ filter was rest) (filter was rest))
      here same =
          subst (λ b. length (cond b (k ∷ filter is rest) (filter is rest)) < length (cond (was k) (k ∷ filter was rest) (filter was rest))) (sym (ap is same ∙ cannot))
          (subst (λ b. length (filter is rest) < length (cond b (k ∷ filter was rest) (filter was rest))) (sym (ap was same ∙ might)) (omega (arith, past all (k + 1) (omega (arith, same)))))

      there : k ≢ s → length (filter is rest) < length (filter was rest) → length (cond (is k) (k ∷ filter is rest) (filter is rest)) < length (cond (was k) (k ∷ filter was rest) (filter was rest))
      there other less = subst (λ b. length (cond b (k ∷ filter is rest) (filter is rest)) < length (cond (was k) (k ∷ filter was rest) (filter was rest))) (sym (others k other)) (by_test (was k))
        where
          by_test : (b : Bool) → length (cond b (k ∷ filter is rest) (filter is rest)) < length (cond b (k ∷ filter was rest) (filter was rest))
          by_test true = omega (arith, less)
          by_test false = less

      by_place : (k ≡ s) ⊎ (k ≢ s) → (k + 1 ≤ s → length (filter is rest) < length (filter was rest)) →
          length (cond (is k) (k ∷ filter is rest) (filter is rest)) < length (cond (was k) (k ∷ filter was rest) (filter was rest))
      by_place (inl same) next = here same
      by_place (inr other) next = there other (next (omega (arith, from, other)))

-- ---- a session that starts to wait

-- the blockers of what is asked
abbrev asked : Catalog → Around → ℕ → Option Ask → List ℕ
asked cat others s None = []
asked cat others s (Some ask) = ask_blockers cat others s ask

blockers-are : (program : Program) (st : State) (s : ℕ) (ask : Option Ask) → blockers_of program st s ask ≡ asked program.schema.catalog (around st) s ask
blockers-are program st s None = refl
blockers-are program st s (Some ask) = refl

-- whether a session may step, by what is read of the state
abbrev may_step : Catalog → ℕ → Around → ℕ → Session → Bool
may_step cat all others s me = nat_lt s all && (not me.ended && is_empty (asked cat others s me.waits))

enabled-is : (program : Program) (st : State) (s : ℕ) → is_enabled program st s ≡ may_step program.schema.catalog (length st.sessions) (around st) s (session_at st s)
enabled-is program st s = ap (λ l. nat_lt s (length st.sessions) && (not (session_at st s).ended && is_empty l)) (blockers-are program st s (session_at st s).waits)

blocked-may_not : (a b c : Bool) → c ≡ false → (a && (b && c)) ≡ false
blocked-may_not true true c is = is
blocked-may_not true false c is = refl
blocked-may_not false b c is = refl

module _ (program : Program) (st : State) (s : ℕ) (ask : Ask) where
  abbrev waiting_one : Session
  waiting_one = record (session_at st s) { waits = Some ask }

  -- what stands when it has begun to wait
  abbrev waiting_state : State
  waiting_state = with_scene st s (effects program s (Starts_waiting ask (blockers program st s ask) ∷ []) (scene_of st s))

  around-same : around waiting_state ≡ around st
  unfolding effect
  around-same =
      ap (λ h. record { history = st.world.history; holdings = h; versions = map written_by (slice_set st.sessions s waiting_one) }) (map-set held_by st.sessions s waiting_one refl)
      ∙ ap (λ v. record { history = st.world.history; holdings = map held_by st.sessions; versions = v }) (map-set written_by st.sessions s waiting_one refl)

  -- the others may step or not as before
  others-same : (k : ℕ) → k ≢ s → is_enabled program waiting_state k ≡ is_enabled program st k
  unfolding effect
  others-same k other =
      enabled-is program waiting_state k
      ∙ ap (λ all. may_step program.schema.catalog all (around waiting_state) k (session_at waiting_state k)) (length-set st.sessions s waiting_one)
      ∙ ap (λ others. may_step program.schema.catalog (length st.sessions) others k (session_at waiting_state k)) around-same
      ∙ ap (λ me. may_step program.schema.catalog (length st.sessions) (around st) k me) (set-other st.sessions s k waiting_one other)
      ∙ sym (enabled-is program st k)

  -- it may not
  itself-not : s < length st.sessions → Is_blocked program.schema.catalog (around st) s ask → is_enabled program waiting_state s ≡ false
  unfolding effect
  itself-not within blocked =
      enabled-is program waiting_state s
      ∙ ap (λ others. may_step program.schema.catalog (length (slice_set st.sessions s waiting_one)) others s (session_at waiting_state s)) around-same
      ∙ ap (λ me. may_step program.schema.catalog (length (slice_set st.sessions s waiting_one)) (around st) s me) (set-same st.sessions s waiting_one within)
      ∙ blocked-may_not (nat_lt s (length (slice_set st.sessions s waiting_one))) (not (session_at st s).ended) (is_empty (ask_blockers program.schema.catalog (around st) s ask)) blocked

  waiting-falls : s < length st.sessions → is_enabled program st s ≡ true → Is_blocked program.schema.catalog (around st) s ask → Falls (measure program waiting_state) (measure program st)
  unfolding effect measure
  waiting-falls within enabled blocked =
      Enabled (measure program waiting_state) (measure program st)
      (omega (arith, ahead-set program 0 s st.sessions s waiting_one (omega arith) within))
      (omega (arith, total-set steps_left st.sessions s waiting_one within))
      (omega (arith, total-set tasks_weight st.sessions s waiting_one within))
      (subst (λ ns. length (filter (is_enabled program waiting_state) ns) < length (filter (is_enabled program st) (numbers st))) (sym (numbers-set 0 st.sessions s waiting_one))
      (fewer (is_enabled program st) (is_enabled program waiting_state) s others-same enabled (itself-not within blocked) st.sessions 0 (omega arith) (omega (arith, within))))

-- ---- a session that goes on

less-or-same : (a b : ℕ) → a ≤ b → (a < b) ⊎ (a ≡ b)
less-or-same a b most = by_order (cases_order a b)
  where
    by_order : (a ≡ b) ⊎ ((a < b) ⊎ (b < a)) → (a < b) ⊎ (a ≡ b)
    by_order (inl same) = inr same
    by_order (inr (inl less)) = inl less
    by_order (inr (inr more)) = absurd (omega (arith, most, more))

module _ (program : Program) (st : State) (s : ℕ) (later : Session) (world : World) (within : s < length st.sessions) where
  abbrev next_state : State
  next_state = record { world = world; sessions = slice_set st.sessions s later }

  share-falls : Share_falls program s (session_at st s) later → Falls (measure program next_state) (measure program st)
  unfolding measure
  share-falls (By_ahead less) = Ahead (measure program next_state) (measure program st) (omega (arith, ahead-set program 0 s st.sessions s later (omega arith) within, less))
  share-falls (By_steps same less) =
      Steps (measure program next_state) (measure program st) (omega (arith, ahead-set program 0 s st.sessions s later (omega arith) within, same)) (omega (arith, total-set steps_left st.sessions s later within, less))
  share-falls (By_tasks same most less) = by_steps (less-or-same (steps_left later) (steps_left (session_at st s)) most)
    where
      by_steps : (steps_left later < steps_left (session_at st s)) ⊎ (steps_left later ≡ steps_left (session_at st s)) → Falls (measure program next_state) (measure program st)
      by_steps (inl fewer) =
          Steps (measure program next_state) (measure program st) (omega (arith, ahead-set program 0 s st.sessions s later (omega arith) within, same)) (omega (arith, total-set steps_left st.sessions s later within, fewer))
      by_steps (inr as_many) =
          Tasks (measure program next_state) (measure program st) (omega (arith, ahead-set program 0 s st.sessions s later (omega arith) within, same)) (omega (arith, total-set steps_left st.sessions s later within, as_many))
          (omega (arith, total-set tasks_weight st.sessions s later within, less))

kind-falls : (program : Program) (st : State) (s : ℕ) → s < length st.sessions → is_enabled program st s ≡ true → (es : List Effect) → Step_kind program st s (session_at st s) es →
    Falls (measure program (with_scene st s (effects program s es (scene_of st s)))) (measure program st)
kind-falls program st s within enabled es (Waits_for_others ask is blocked) =
    subst (λ l. Falls (measure program (with_scene st s (effects program s l (scene_of st s)))) (measure program st)) (sym is) (waiting-falls program st s ask within enabled blocked)
kind-falls program st s within enabled es (Goes_on goes) =
    share-falls program st s (after program s es st.world (session_at st s)) (effects program s es (scene_of st s)).world within goes.falls

pub step-falls : (program : Program) → ActionsAreForRows program.schema.catalog → (st : State) (s : ℕ) → All_stand program st → is_enabled program st s ≡ true → Falls (measure program (step program st s)) (measure program st)
unfolding step
step-falls program are st s all enabled =
    let can : CanStep program st s = CanStep-enabled program st s enabled in
    kind-falls program st s can.within enabled (effects_of program st s) (step-kind program are st s (all s can.within).fits (all s can.within).apt can.goes_on)

pub every_step_falls : EveryStepFalls
every_step_falls program are schedule s enabled = step-falls program are (run program schedule) s (run-stands program are schedule) enabled

-- ---- induction over the measure

below-all : (Q : ℕ → Type 0) → ((n : ℕ) → ((k : ℕ) → k < n → Q k) → Q n) → (n k : ℕ) → k < n → Q k
below-all Q each zero k less = absurd (omega (arith, less))
below-all Q each (suc n) k less = each k (λ j smaller. below-all Q each n j (omega (arith, smaller, less)))

pub strongly : (Q : ℕ → Type 0) → ((n : ℕ) → ((k : ℕ) → k < n → Q k) → Q n) → (n : ℕ) → Q n
strongly Q each n = each n (below-all Q each n)

module _ (P : Measure → Type 0) (each : (m : Measure) → ((less : Measure) → Falls less m → P less) → P m) where
  abbrev With_enabled : ℕ → ℕ → ℕ → ℕ → Type 0
  With_enabled a b c d = (m : Measure) → m.ahead ≡ a → m.steps ≡ b → m.tasks ≡ c → m.enabled ≡ d → P m

  abbrev With_tasks : ℕ → ℕ → ℕ → Type 0
  With_tasks a b c = (m : Measure) → m.ahead ≡ a → m.steps ≡ b → m.tasks ≡ c → P m

  abbrev With_steps : ℕ → ℕ → Type 0
  With_steps a b = (m : Measure) → m.ahead ≡ a → m.steps ≡ b → P m

  abbrev With_ahead : ℕ → Type 0
  With_ahead a = (m : Measure) → m.ahead ≡ a → P m

  falls-by : (a b c d : ℕ) → ((k : ℕ) → k < a → With_ahead k) → ((k : ℕ) → k < b → With_steps a k) → ((k : ℕ) → k < c → With_tasks a b k) → ((k : ℕ) → k < d → With_enabled a b c k) →
      (less m : Measure) → Falls less m → m.ahead ≡ a → m.steps ≡ b → m.tasks ≡ c → m.enabled ≡ d → P less
  falls-by a b c d one two three four low high (Ahead p q less) ea eb ec ed = one low.ahead (subst (λ n. low.ahead < n) ea less) low refl
  falls-by a b c d one two three four low high (Steps p q same less) ea eb ec ed = two low.steps (subst (λ n. low.steps < n) eb less) low (same ∙ ea) refl
  falls-by a b c d one two three four low high (Tasks p q same same' less) ea eb ec ed = three low.tasks (subst (λ n. low.tasks < n) ec less) low (same ∙ ea) (same' ∙ eb) refl
  falls-by a b c d one two three four low high (Enabled p q same same' same'' less) ea eb ec ed =
      four low.enabled (subst (λ n. low.enabled < n) ed less) low (same ∙ ea) (same' ∙ eb) (same'' ∙ ec) refl

  pub by-measure : (m : Measure) → P m
  by-measure m =
      strongly With_ahead
      (λ a one.
      λ m ea.
      strongly (With_steps a)
      (λ b two.
      λ m ea eb.
      strongly (With_tasks a b)
      (λ c three.
      λ m ea eb ec.
      strongly (With_enabled a b c)
      (λ d four.
      λ m ea eb ec ed. each m (λ less falls. falls-by a b c d one two three four less m falls ea eb ec ed)) m.enabled m ea eb ec refl) m.tasks m ea eb refl) m.steps m ea refl) m.ahead m refl

-- ---- no run is endless

module _ (program : Program) (are : ActionsAreForRows program.schema.catalog) (choice : ℕ → ℕ) (goes : (n : ℕ) → is_enabled program (run program (first_choices choice n)) (choice n) ≡ true) where
  next-is : (n : ℕ) → run program (first_choices choice (suc n)) ≡ step program (run program (first_choices choice n)) (choice n)
  unfolding run_from
  next-is n = run_from-append program (opening program) (first_choices choice n) (choice n ∷ [])

  never : (m : Measure) (n : ℕ) → measure program (run program (first_choices choice n)) ≡ m → ⊥
  never =
      by-measure (λ m. (n : ℕ) → measure program (run program (first_choices choice n)) ≡ m → ⊥)
      (λ m smaller n is.
      smaller (measure program (run program (first_choices choice (suc n))))
      (subst (λ st. Falls (measure program st) m) (sym (next-is n)) (subst (λ k. Falls (measure program (step program (run program (first_choices choice n)) (choice n))) k) is (every_step_falls program are (first_choices choice n) (choice n) (goes n))))
      (suc n) refl)

pub runs_are_finite : RunsAreFinite
runs_are_finite program are choice goes = never program are choice goes (measure program (run program (first_choices choice 0))) 0 refl
