-- In every state of every run the sessions can be ranked so that each waits only for sessions of a lower rank; and one of those that have not ended is enabled.
use Rattle.std.proofs.Common.{◌≡◌, ◌≢◌, ℕ, ◌<◌, Bool, true, false, arith, List, [], ◌∷◌, ◌++◌, Option, Some, None, refl, sym, ap, ◌∙◌, subst, ⊎_elim, ◌⊎◌, length-set, get_or-set_same}
use Rattle.std.specs.Prelude.{◌+◌, ◌==◌, ◌&&◌, not, zero, suc, length, map, slice_index_or, slice_set, slice_get, nat_lt}
use Rattle.std.specs.List.{enumerate_from}
use Rattle.std.proofs.lemmas.Bool.{true≢false, cases_eq, eq-eqb, ne_eqb}
use Rattle.std.proofs.lemmas.Bool.Decides.{nat_tests}
use Rattle.aq_base.specs.Names.{Text}
use Rattle.aq_base.specs.Maps.{at}
use Rattle.aq_base.proofs.Lists.{Contains-none, Contains-cons_cases}
use Rattle.aq_base.proofs.Maps.{KeysRise}
use Rattle.aq_base.specs.Databases.{Database, last_database}
use Rattle.aq_base.specs.Writes.{Writes}
use Rattle.aq_base.specs.LockModes.{conflicts_with}
use Rattle.aq_base.specs.Blockers.{Ask}
use Rattle.aq_base.specs.Blockers.Ask.{For_row, For_key}
use Rattle.aq_base.specs.Works.{Saved}
use Rattle.aq_base.specs.declared.catalog.UniqueKey.{UniqueKey}
use Rattle.aq_run.specs.Programs.{Program}
use Rattle.aq_run.specs.States.{Transaction, Session, World, State, at_start, nobody, opening, session_at, around}
use Rattle.aq_run.specs.Waits.{blockers, blockers_of, waits_for, numbers, is_empty, is_enabled, closes}
use Rattle.aq_run.specs.Effects.{Effect, Scene, effect, effects, on_session}
use Rattle.aq_run.specs.Effects.Effect.{Resumes, Changes, Turns, Starts_waiting}
use Rattle.aq_run.specs.Steps.{step, effects_of, scene_of, count_effects, is_counted_with}
use Rattle.aq_run.specs.Runs.{Schedule, run_from, CanRunFrom, IsSchedule, run}
use Rattle.aq_run.proofs.Parts.{Of_transaction}
use Rattle.aq_run.proofs.Written.{Rewritten, Copies_written, Rows_written}
use Rattle.aq_run.proofs.Written_apart.{Untouched, All_written, session-cases, step-written, opening-written, untouched_by_step}
use Rattle.aq_run.proofs.Free_plans.{Is_allowed, Each}
use Rattle.aq_run.proofs.Free_steps.{writes_in, Kind_of_step, kind_of_step}
use Rattle.aq_run.proofs.Free_steps.Kind_of_step.{Changing_a_row, Without_a_change, Waiting}
use Rattle.aq_run.proofs.Ranks.{IsIn, Falls, in-none, in-first, place_of_rank, place-falls, place-low, lifted, lifted-old, lifted-new, none-leads}
use Rattle.aq_run.proofs.Waits_ordered.{in-numbers, is_waited_for, waited-from, waited-to, in_range, All_untouched, waited-same, touches_one}

pub record Is_ordered (program : Program) (st : State) : Type 0 where
  pub rank : ℕ → ℕ
  pub falls : Falls (waits_for program st) rank

-- ---- the works of another session

module _ (rows numbers : ℕ) (db next : Database) where
  copies-untouched : (present : Writes) (saved : List Saved) → Copies_written rows numbers db present saved → Untouched present db next → All_untouched (map (λ one. one.work.writes) saved) db next
  copies-untouched present [] copies untouched writes c = absurd (Contains-none writes c)
  copies-untouched present (saved ∷ others) copies untouched writes c =
      ⊎_elim (λ (first : saved.work.writes ≡ writes). subst (λ w. KeysRise w × Untouched w db next) first (copies.0.rise, here))
      (λ later. copies-untouched saved.work.writes others copies.1.1 here writes later) (Contains-cons_cases saved.work.writes writes (map (λ one. one.work.writes) others) c)
    where
      here : Untouched saved.work.writes db next
      here row one is = let again : Rewritten row one present = copies.1.0 row one is in untouched row again.later again.stands

  works-untouched : (t : Option Transaction) → Of_transaction (Rows_written rows numbers db) t → Untouched (writes_in t) db next →
      All_untouched (elim t [ None ↦ [] | Some running ↦ running.work.writes ∷ map (λ saved. saved.work.writes) running.saved ]) db next
  works-untouched None own untouched writes c = absurd (Contains-none writes c)
  works-untouched (Some t) own untouched writes c =
      ⊎_elim (λ (first : t.work.writes ≡ writes). subst (λ w. KeysRise w × Untouched w db next) first (own.0.rise, untouched))
      (λ later. copies-untouched t.work.writes t.saved own.1 untouched writes later) (Contains-cons_cases t.work.writes writes (map (λ saved. saved.work.writes) t.saved) c)

-- ---- a step that isn't a wait

abbrev Never_waits : Effect → Type 0
Never_waits (Starts_waiting ask blockers) = ⊥
Never_waits _ = Unit {0}

allowed-never : (program : Program) (st : State) (s : ℕ) (es : List Effect) → Each (Is_allowed program.schema.catalog (around st) s) es → Each Never_waits es
allowed-never program st s [] each = tt
allowed-never program st s (e ∷ es) each = (one e each.0, allowed-never program st s es each.1)
  where
    one : (e : Effect) → Is_allowed program.schema.catalog (around st) s e → Never_waits e
    one (Starts_waiting ask blockers) none = none
    one e allowed = tt

one-stays : (program : Program) (world : World) (e : Effect) (me : Session) → Never_waits e → me.waits ≡ None → (on_session program world e me).waits ≡ None
one-stays program world (Starts_waiting ask blockers) me never is = absurd never
one-stays program world Resumes me never is = refl
one-stays program world e me never is = is

stays : (program : Program) (s : ℕ) (es : List Effect) (scene : Scene) → Each Never_waits es → scene.me.waits ≡ None → (effects program s es scene).me.waits ≡ None
unfolding effect
stays program s [] scene each is = is
stays program s (e ∷ es) scene each is = stays program s es (effect program s e scene) each.1 (one-stays program scene.world e scene.me each.0 is)

resumes : (program : Program) (s : ℕ) (es : List Effect) (scene : Scene) → Each Never_waits es → (effects program s (Resumes ∷ es) scene).me.waits ≡ None
unfolding effect
resumes program s es scene each = stays program s es (effect program s Resumes scene) each refl

counted-never : (counted : Bool) (es : List Effect) → Each Never_waits es → Each Never_waits (count_effects counted ++ es)
counted-never true es each = (tt, each)
counted-never false es each = each

-- the session's scene after the step
abbrev pub stepped : Program → State → ℕ → Scene
stepped program st s = effects program s (effects_of program st s) (scene_of st s)

-- what a step leaves of the session's wait
pub data After_step (program : Program) (st : State) (s : ℕ) : Type 0 where
  No_wait : (stepped program st s).me.waits ≡ None → After_step program st s
  A_wait : (ask : Ask) → effects_of program st s ≡ Starts_waiting ask (blockers program st s ask) ∷ [] → closes program st s (blockers program st s ask) ≡ None → After_step program st s

after-kind : (program : Program) (st : State) (s : ℕ) → Kind_of_step program st s → After_step program st s
after-kind program st s (Changing_a_row change lock triggers task changes) =
    No_wait (subst (λ es. (effects program s es (scene_of st s)).me.waits ≡ None) (sym changes.are)
    (resumes program s (count_effects (is_counted_with (session_at st s).transaction (session_at st s).tasks) ++ Changes change lock triggers ∷ Turns task ∷ []) (scene_of st s)
    (counted-never (is_counted_with (session_at st s).transaction (session_at st s).tasks) (Changes change lock triggers ∷ Turns task ∷ []) (tt, (tt, tt)))))
after-kind program st s (Without_a_change rest are each) =
    No_wait (subst (λ es. (effects program s es (scene_of st s)).me.waits ≡ None) (sym are) (resumes program s rest (scene_of st s) (allowed-never program st s rest each)))
after-kind program st s (Waiting ask are none) = A_wait ask are none

numbers-length : {A : Type 0} (entries : List A) (first : ℕ) → length (map (λ entry. entry.0) (enumerate_from first entries)) ≡ length entries
numbers-length [] first = refl
numbers-length (entry ∷ entries) first = let rest = numbers-length entries (first + 1) in omega (arith, rest)

-- who steps on is ranked lowest
abbrev by_session : Bool → ℕ → ℕ
by_session true rank = 0
by_session false rank = rank + 1

abbrev lowered : (ℕ → ℕ) → ℕ → ℕ → ℕ
lowered rank s i = by_session (i == s) (rank i)

lowered-same : (rank : ℕ → ℕ) (s : ℕ) → lowered rank s s ≡ 0
lowered-same rank s = ap (λ b. by_session b (rank s)) (eq-eqb s s refl)

lowered-other : (rank : ℕ → ℕ) (s i : ℕ) → i ≢ s → lowered rank s i ≡ rank i + 1
lowered-other rank s i other = ap (λ b. by_session b (rank i)) (ne_eqb i s other)

module _ (program : Program) (st : State) (s : ℕ) (all : All_written st) (within : s < length st.sessions) (ordered : Is_ordered program st) where
  abbrev me_after : Session
  me_after = (stepped program st s).me

  abbrev next_state : State
  next_state = record { world = (stepped program st s).world; sessions = slice_set st.sessions s me_after }

  me-there : session_at next_state s ≡ me_after
  me-there = get_or-set_same st.sessions s me_after nobody within

  other-there : (j : ℕ) → j ≢ s → session_at next_state j ≡ session_at st j
  other-there j other =
      ⊎_elim (λ (here : (j ≡ s) × (session_at next_state j ≡ me_after)). absurd (other here.0))
      (λ (there : (session_at next_state j ≡ session_at st j) × ((j ≢ s) ⊎ (session_at st j ≡ nobody))). there.0) (session-cases st.sessions s me_after j)

  same-many : length next_state.sessions ≡ length st.sessions
  same-many = length-set st.sessions s me_after

  abbrev db_before : Database
  db_before = last_database st.world.history

  abbrev db_after : Database
  db_after = last_database (stepped program st s).world.history

  -- a wait of one other session for one other session is as it was
  old-wait : (i k : ℕ) → i ≢ s → k ≢ s → IsIn (waits_for program next_state i) k → IsIn (waits_for program st i) k
  old-wait i k other away edge = with_ask (session_at next_state i).waits refl edge
    where
      with_ask : (ask : Option Ask) → (session_at next_state i).waits ≡ ask → IsIn (blockers_of program next_state i ask) k → IsIn (waits_for program st i) k
      with_ask ask is edge' =
          let was : (session_at st i).waits ≡ ask = ap (λ session. session.waits) (sym (other-there i other)) ∙ is in
          let found = waited-from program next_state i ask k edge' in
          let there : is_waited_for program db_after ask (session_at st k) ≡ true = ap (is_waited_for program db_after ask) (sym (other-there k away)) ∙ found.1.1 in
          let untouched = works-untouched st.world.rows st.world.writes db_before db_after (session_at st k).transaction (all.own k) (untouched_by_step program st s all k away) in
          let before : is_waited_for program db_before ask (session_at st k) ≡ true = sym (waited-same program ask (session_at st k) db_before db_after untouched) ∙ there in
          subst (λ a. IsIn (blockers_of program st i a) k) (sym was) (waited-to program st i ask k (subst (λ n. k < n) same-many found.0) found.1.0 before)

  nobody-waited : me_after.waits ≡ None → (k : ℕ) → IsIn (waits_for program next_state s) k → ⊥
  nobody-waited none k edge = in-none k (subst (λ a. IsIn (blockers_of program next_state s a) k) (ap (λ session. session.waits) me-there ∙ none) edge)

  no-wait-falls : me_after.waits ≡ None → Falls (waits_for program next_state) (lowered ordered.rank s)
  no-wait-falls none i k edge =
      ⊎_elim (λ (same : i ≡ s). absurd (nobody-waited none k (subst (λ j. IsIn (waits_for program next_state j) k) same edge)))
      (λ (other : i ≢ s).
      ⊎_elim
      (λ (same : k ≡ s).
      let a : lowered ordered.rank s k ≡ 0 = ap (lowered ordered.rank s) same ∙ lowered-same ordered.rank s in let b = lowered-other ordered.rank s i other in omega (arith, a, b))
      (λ (away : k ≢ s).
      let a = lowered-other ordered.rank s k away in
      let b = lowered-other ordered.rank s i other in let less : ordered.rank k < ordered.rank i = ordered.falls i k (old-wait i k other away edge) in omega (arith, a, b, less))
      (cases_eq k s))
      (cases_eq i s)

  no-wait-ordered : me_after.waits ≡ None → Is_ordered program next_state
  no-wait-ordered none = record { rank = lowered ordered.rank s; falls = no-wait-falls none }

-- being waited for is by what the session's transaction has
waited-transaction : (program : Program) (db : Database) (ask : Option Ask) (one other : Session) → one.transaction ≡ other.transaction → is_waited_for program db ask one ≡ is_waited_for program db ask other
waited-transaction program db None one other same = refl
waited-transaction program db (Some (For_row row mode)) one other same =
    ap (λ t. conflicts_with mode (at row (elim t [ None ↦ [] | Some running ↦ running.work.holdings ]))) same
waited-transaction program db (Some (For_key key values apart)) one other same =
    ap (λ t. touches_one db values apart (slice_get program.schema.catalog.keys key) (elim t [ None ↦ [] | Some running ↦ running.work.writes ∷ map (λ saved. saved.work.writes) running.saved ])) same

-- ---- a step that is a wait

module _ (program : Program) (st : State) (s : ℕ) (all : All_written st) (within : s < length st.sessions) (ordered : Is_ordered program st) (ask : Ask)
    (are : effects_of program st s ≡ Starts_waiting ask (blockers program st s ask) ∷ []) (none : closes program st s (blockers program st s ask) ≡ None) where
  abbrev bs : List ℕ
  bs = blockers program st s ask

  abbrev after : State
  after = next_state program st s all within ordered

  scene-is : stepped program st s ≡ effect program s (Starts_waiting ask bs) (scene_of st s)
  scene-is = ap (λ es. effects program s es (scene_of st s)) are

  history-is : after.world.history ≡ st.world.history
  unfolding effect
  history-is = ap (λ scene. scene.world.history) scene-is

  transaction-is : (stepped program st s).me.transaction ≡ (session_at st s).transaction
  unfolding effect
  transaction-is = ap (λ scene. scene.me.transaction) scene-is

  waits-is : (stepped program st s).me.waits ≡ Some ask
  unfolding effect
  waits-is = ap (λ scene. scene.me.waits) scene-is

  same-transaction : (k : ℕ) → (session_at after k).transaction ≡ (session_at st k).transaction
  same-transaction k =
      ⊎_elim
      (λ (same : k ≡ s).
      ap (λ j. (session_at after j).transaction) same ∙ ap (λ session. session.transaction) (me-there program st s all within ordered) ∙ transaction-is ∙ ap (λ j. (session_at st j).transaction) (sym same))
      (λ (other : k ≢ s). ap (λ session. session.transaction) (other-there program st s all within ordered k other)) (cases_eq k s)

  -- whoever is waited for was so before
  same-waited : (i : ℕ) (asked : Option Ask) (k : ℕ) → IsIn (blockers_of program after i asked) k → IsIn (blockers_of program st i asked) k
  same-waited i asked k edge =
      let found = waited-from program after i asked k edge in
      let there : is_waited_for program (last_database st.world.history) asked (session_at after k) ≡ true =
      subst (λ history. is_waited_for program (last_database history) asked (session_at after k) ≡ true) history-is found.1.1 in
      waited-to program st i asked k (subst (λ n. k < n) (same-many program st s all within ordered) found.0) found.1.0
      (sym (waited-transaction program (last_database st.world.history) asked (session_at after k) (session_at st k) (same-transaction k)) ∙ there)

  wait-edge : (i k : ℕ) → i ≢ s → IsIn (waits_for program after i) k → IsIn (waits_for program st i) k
  wait-edge i k other edge =
      subst (λ a. IsIn (blockers_of program st i a) k) (ap (λ session. session.waits) (other-there program st s all within ordered i other)) (same-waited i (session_at after i).waits k edge)

  own-edge : (k : ℕ) → IsIn (waits_for program after s) k → IsIn bs k
  own-edge k edge =
      same-waited s (Some ask) k (subst (λ a. IsIn (blockers_of program after s a) k) (ap (λ session. session.waits) (me-there program st s all within ordered) ∙ waits-is) edge)

  target-inside : (i k : ℕ) → IsIn (waits_for program st i) k → IsIn (numbers st) k
  target-inside i k edge = in-numbers st.sessions 0 k (omega arith) (let found = waited-from program st i (session_at st i).waits k edge in let low = found.0 in omega (arith, low))

  source-inside : (i k : ℕ) (asked : Option Ask) → (session_at st i).waits ≡ asked → IsIn (blockers_of program st i asked) k → IsIn (numbers st) i
  source-inside i k None is edge = absurd (in-none k edge)
  source-inside i k (Some asked) is edge = in-numbers st.sessions 0 i (omega arith) (let low = in_range st.sessions i asked is in omega (arith, low))

  me-inside : IsIn (numbers st) s
  me-inside = in-numbers st.sessions 0 s (omega arith) (omega (arith, within))

  abbrev place : ℕ → ℕ
  place = place_of_rank ordered.rank (numbers st)

  place_falls : Falls (waits_for program st) place
  place_falls = place-falls (waits_for program st) ordered.rank (numbers st) target-inside ordered.falls

  own-new : (k : ℕ) → IsIn bs k → lifted (waits_for program st) (numbers st) s place me-inside k < lifted (waits_for program st) (numbers st) s place me-inside s
  own-new k among =
      let found = waited-from program st s (Some ask) k among in
      let here : IsIn (numbers st) k = in-numbers st.sessions 0 k (omega arith) (let low = found.0 in omega (arith, low)) in
      let low : place k < length (numbers st) = place-low ordered.rank (numbers st) k here in
      let lower : place k < length st.sessions = subst (λ n. place k < n) (numbers-length st.sessions 0) low in
      lifted-new (waits_for program st) (numbers st) s place me-inside k
      (none-leads (waits_for program st) (numbers st) s place bs none k among (in-numbers st.sessions 0 (place k) (omega arith) (omega (arith, lower)))) low

  wait-ordered : Is_ordered program after
  wait-ordered =
      record {
        rank = lifted (waits_for program st) (numbers st) s place me-inside;
        falls = λ i k edge.
            ⊎_elim
            (λ (same : i ≡ s).
            subst (λ j. lifted (waits_for program st) (numbers st) s place me-inside k < lifted (waits_for program st) (numbers st) s place me-inside j) (sym same)
            (own-new k (own-edge k (subst (λ j. IsIn (waits_for program after j) k) same edge))))
            (λ (other : i ≢ s).
            let was = wait-edge i k other edge in
            lifted-old (waits_for program st) (numbers st) s place me-inside i k (source-inside i k (session_at st i).waits refl was) was (place_falls i k was))
            (cases_eq i s);
      }

-- ---- every state of every run

first-part : (a b : Bool) → (a && b) ≡ true → a ≡ true
first-part true b e = refl
first-part false b e = absurd (true≢false (sym e))

is-session : (s n : ℕ) → nat_lt s n ≡ true → s < n
is-session s n e = grind (arith, nat_tests, e)

step-ordered : (program : Program) (st : State) (s : ℕ) → All_written st → is_enabled program st s ≡ true → Is_ordered program st → Is_ordered program (step program st s)
unfolding step
step-ordered program st s all enabled ordered = by_kind (after-kind program st s (kind_of_step program st s))
  where
    within : s < length st.sessions
    within = is-session s (length st.sessions) (first-part (nat_lt s (length st.sessions)) (not (session_at st s).ended && is_empty (waits_for program st s)) enabled)

    by_kind : After_step program st s → Is_ordered program (next_state program st s all within ordered)
    by_kind (No_wait none) = no-wait-ordered program st s all within ordered none
    by_kind (A_wait ask are none) = wait-ordered program st s all within ordered ask are none

run-ordered : (program : Program) (schedule : Schedule) (st : State) → All_written st → Is_ordered program st → CanRunFrom program st schedule → Is_ordered program (run_from program st schedule)
unfolding run_from CanRunFrom
run-ordered program [] st all ordered can = ordered
run-ordered program (s ∷ schedule) st all ordered can =
    run-ordered program schedule (step program st s) (step-written program st s all) (step-ordered program st s all can.0 ordered) can.1

nobody-waits : (names : List Text) (j : ℕ) → (slice_index_or (map (λ _. at_start) names) j nobody).waits ≡ None
nobody-waits [] zero = refl
nobody-waits [] (suc j) = refl
nobody-waits (name ∷ names) zero = refl
nobody-waits (name ∷ names) (suc j) = nobody-waits names j

pub opening-ordered : (program : Program) → Is_ordered program (opening program)
opening-ordered program =
    record {
      rank = λ i. 0;
      falls = λ i k edge. absurd (in-none k (subst (λ a. IsIn (blockers_of program (opening program) i a) k) (nobody-waits program.names i) edge));
    }

-- whatever the schedule
pub waits_are_ordered : (program : Program) (schedule : Schedule) → IsSchedule program schedule → Is_ordered program (run program schedule)
waits_are_ordered program schedule can = run-ordered program schedule (opening program) (opening-written program) (opening-ordered program) can

-- ---- somebody can go on

-- who is waited for has a transaction
has-transaction : (program : Program) (db : Database) (ask : Option Ask) (session : Session) → session.transaction ≡ None → is_waited_for program db ask session ≡ true → ⊥
has-transaction program db None session none waits = true≢false (sym waits)
has-transaction program db (Some (For_row row mode)) session none waits =
    true≢false (sym waits ∙ ap (λ t. conflicts_with mode (at row (elim t [ None ↦ [] | Some running ↦ running.work.holdings ]))) none)
has-transaction program db (Some (For_key key values apart)) session none waits =
    true≢false (sym waits ∙ ap (λ t. touches_one db values apart (slice_get program.schema.catalog.keys key) (elim t [ None ↦ [] | Some running ↦ running.work.writes ∷ map (λ saved. saved.work.writes) running.saved ])) none
    ∙ no_works (slice_get program.schema.catalog.keys key))
  where
    no_works : (key : Option UniqueKey) → touches_one db values apart key [] ≡ false
    no_works None = refl
    no_works (Some key) = refl

pub record Can_go_on (program : Program) (st : State) : Type 0 where
  pub session : ℕ
  pub enabled : is_enabled program st session ≡ true

module _ (program : Program) (st : State) (ordered : Is_ordered program st) (over : (j : ℕ) → (session_at st j).ended ≡ true → (session_at st j).transaction ≡ None) where
  is-enabled : (i : ℕ) → i < length st.sessions → (session_at st i).ended ≡ false → waits_for program st i ≡ [] → is_enabled program st i ≡ true
  is-enabled i within going free =
      ap (λ a. a && (not (session_at st i).ended && is_empty (waits_for program st i))) (less (length st.sessions) within) ∙
      ap (λ b. not b && is_empty (waits_for program st i)) going ∙ ap is_empty free
    where
      less : (n : ℕ) → i < n → nat_lt i n ≡ true
      less n e = grind (arith, nat_tests, e)

  goes-on : (i k : ℕ) → IsIn (waits_for program st i) k → (ended : Bool) → (session_at st k).ended ≡ ended → (session_at st k).ended ≡ false
  goes-on i k edge false is = is
  goes-on i k edge true is =
      let found = waited-from program st i (session_at st i).waits k edge in absurd (has-transaction program (last_database st.world.history) (session_at st i).waits (session_at st k) (over k is) found.1.1)

  follow : (n i : ℕ) → ordered.rank i < n → i < length st.sessions → (session_at st i).ended ≡ false → (found : List ℕ) → waits_for program st i ≡ found → Can_go_on program st
  follow zero i low within going found is = absurd (omega (arith, low))
  follow (suc n) i low within going [] is = record { session = i; enabled = is-enabled i within going is }
  follow (suc n) i low within going (k ∷ found) is =
      let edge : IsIn (waits_for program st i) k = subst (λ ks. IsIn ks k) (sym is) (in-first k found) in
      let less = ordered.falls i k edge in
      let there = waited-from program st i (session_at st i).waits k edge in
      follow n k (omega (arith, low, less)) there.0 (goes-on i k edge (session_at st k).ended refl) (waits_for program st k) refl

  -- where a session has not ended, one is enabled
  pub somebody_can_go_on : (i : ℕ) → i < length st.sessions → (session_at st i).ended ≡ false → Can_go_on program st
  somebody_can_go_on i within going = follow (suc (ordered.rank i)) i (omega arith) within going (waits_for program st i) refl
