-- Where the sessions that wait form no cycle, all have ended or one may step; and each program has a default schedule.
use Rattle.std.proofs.Common.{◌≡◌, ◌<◌, ℕ, Bool, true, false, not, ◌&&◌, List, [], ◌∷◌, ◌++◌, Option, Some, None, refl, sym, ◌∙◌, ap, subst, arith, map, ◌⊎◌, inl, inr, below_more}
use Rattle.std.specs.Prelude.{◌+◌, zero, suc, length, slice_index_or, slice_get, nat_lt, ◌==◌, Contains}
use Rattle.std.specs.List.{list_all, list_any}
use Rattle.std.proofs.lemmas.Bool.{false≢true, cases_Bool, and_from, lt-ltb, not_from_false}
use Rattle.aq_base.specs.Maps.{at}
use Rattle.aq_base.proofs.Lists.{Contains-first}
use Rattle.aq_base.specs.Values.{Row}
use Rattle.aq_base.specs.LockModes.{Holdings, conflicts_with}
use Rattle.aq_base.specs.Writes.{Writes}
use Rattle.aq_base.specs.Blockers.{Ask, with_number, others_from, touches_key}
use Rattle.aq_base.specs.Blockers.Ask.{For_row, For_key}
use Rattle.aq_base.specs.Databases.{last_database}
use Rattle.aq_base.specs.declared.catalog.UniqueKey.{UniqueKey}
use Rattle.aq_outcomes.specs.Parties.{key_ask_blockers}
use Rattle.aq_run.specs.Programs.{Program, statement_at}
use Rattle.aq_run.specs.States.{Transaction, Session, State, nobody, opening, session_at, around, held_by, written_by}
use Rattle.aq_run.specs.Waits.{is_empty, is_enabled, blockers, blockers_of, waits_for}
use Rattle.aq_run.specs.Steps.{step}
use Rattle.aq_run.specs.Runs.{Schedule, run_from, run, CanRunFrom, IsSchedule, have_all_ended, IsLeastEnabled, GoesByDefault, IsDefaultSchedule}
use Rattle.aq_run.specs.Measure.{Measure, measure, Falls}
use Rattle.aq_run.proofs.Effected.{run_from-append}
use Rattle.aq_laws.specs.Stacks.{ActionsAreForRows, End_fits, SessionFits}
use Rattle.aq_laws.specs.Waits.{IsRanked}
use Rattle.aq_laws.specs.Progress.{CanGoOn, SomebodyMayStep, DefaultScheduleExists}
use Rattle.aq_laws.proofs.Ranked.{ranked}
use Rattle.aq_laws.specs.Progress.CanGoOn.{All_ended, May_step}
use Rattle.aq_laws.proofs.Stacks.{Session_stands, All_stand, run-stands}
use Rattle.aq_laws.proofs.Finite.{strongly, by-measure, step-falls}

-- ---- who stands in somebody's way

-- the entry of a session passes the test
pub record Stands_in_way {X : Type 0} (test : X → Bool) (of : Session → X) (all : List Session) (first j : ℕ) : Type 0 where
  pub place : ℕ
  pub is : j ≡ first + place
  pub within : place < length all
  pub passes : test (of (slice_index_or all place nobody)) ≡ true

later-in-way : {X : Type 0} (test : X → Bool) (of : Session → X) (one : Session) (all : List Session) (first j : ℕ) → Stands_in_way test of all (first + 1) j → Stands_in_way test of (one ∷ all) first j
later-in-way test of one all first j found = record { place = suc found.place; is = omega (arith, found.is); within = omega (arith, found.within); passes = found.passes }

by-entry : {X : Type 0} (test : X → Bool) (of : Session → X) (one : Session) (all : List Session) (first own j : ℕ) (others : List ℕ) (other passes : Bool) → test (of one) ≡ passes →
    with_number (other && passes) first (others_from (first + 1) own test (map of all)) ≡ j ∷ others →
    ((others : List ℕ) → others_from (first + 1) own test (map of all) ≡ j ∷ others → Stands_in_way test of all (first + 1) j) → Stands_in_way test of (one ∷ all) first j
by-entry test of one all first own j others true true passes is rest =
    record { place = 0; is = sym (ap (λ l. first_in l) is) ∙ omega arith; within = omega arith; passes = passes }
  where
    first_in : List ℕ → ℕ
    first_in [] = 0
    first_in (n ∷ ns) = n
by-entry test of one all first own j others true false passes is rest = later-in-way test of one all first j (rest others is)
by-entry test of one all first own j others false passed passes is rest = later-in-way test of one all first j (rest others is)

in-way : {X : Type 0} (test : X → Bool) (of : Session → X) (all : List Session) (first own j : ℕ) (others : List ℕ) → others_from first own test (map of all) ≡ j ∷ others → Stands_in_way test of all first j
in-way test of [] first own j others is = absurd (cc)
in-way test of (one ∷ all) first own j others is =
    by-entry test of one all first own j others (not (first == own)) (test (of one)) refl is (λ more e. in-way test of all (first + 1) own j more e)

-- ---- who stands in the way has not ended

-- nothing is held or written where there is no transaction
ended-holds : (program : Program) (s : ℕ) (me : Session) → SessionFits program s me → (ended : Bool) → me.ended ≡ ended → ended ≡ true → me.transaction ≡ None
ended-holds program s me fits ended is yes_ended =
    (by_end me.ended (is ∙ yes_ended) fits.end).1
  where
    by_end : (ended : Bool) → ended ≡ true → End_fits ended (statement_at program s me.next) me.transaction me.tasks → (me.tasks ≡ []) × (me.transaction ≡ None)
    by_end true e fit = (fit.0, fit.1.0)
    by_end false e fit = absurd (false≢true e)

goes-by : {X : Type 0} (test : X → Bool) (of : Option Transaction → X) → test (of None) ≡ false → (program : Program) (s : ℕ) (me : Session) → SessionFits program s me → test (of me.transaction) ≡ true → me.ended ≡ false
goes-by test of empty program s me fits passes = by_cases (cases_Bool me.ended)
  where
    by_cases : (me.ended ≡ true) ⊎ (me.ended ≡ false) → me.ended ≡ false
    by_cases (inr going) = going
    by_cases (inl ended) = absurd (false≢true (sym empty ∙ sym (ap (λ t. test (of t)) (ended-holds program s me fits me.ended refl ended)) ∙ passes))

-- a session in the way of another is one of the state's, and hasn't ended
pub record In_way (st : State) (j : ℕ) : Type 0 where
  pub within : j < length st.sessions
  pub goes_on : (session_at st j).ended ≡ false

abbrev held_in : Option Transaction → Holdings
held_in t = elim t [ None ↦ [] | Some running ↦ running.work.holdings ]

abbrev written_in : Option Transaction → List Writes
written_in t = elim t [ None ↦ [] | Some running ↦ running.work.writes ∷ map (λ saved. saved.work.writes) running.saved ]

module _ (program : Program) (st : State) (all : All_stand program st) where
  from-found : {X : Type 0} (test : X → Bool) (of : Option Transaction → X) → test (of None) ≡ false → (j : ℕ) → Stands_in_way test (λ (me : Session). of me.transaction) st.sessions 0 j → In_way st j
  from-found test of empty j found =
      let same : j ≡ found.place = found.is ∙ omega arith in
      let stands : Session_stands program found.place (session_at st found.place) = all found.place found.within in
      subst (λ k. In_way st k) (sym same)
      (record { within = found.within; goes_on = goes-by test of empty program found.place (session_at st found.place) stands.fits found.passes })

  key-in-way : (s j : ℕ) (others : List ℕ) (values : Row) (apart : Option ℕ) (key : Option UniqueKey) → key_ask_blockers (around st) s values apart key ≡ j ∷ others → In_way st j
  key-in-way s j others values apart None is = absurd (cc)
  key-in-way s j others values apart (Some key) is =
      from-found (λ works. list_any (λ writes. list_any (touches_key (last_database st.world.history) key.table key.cols values apart) writes) works) written_in refl j
      (in-way (λ works. list_any (λ writes. list_any (touches_key (last_database st.world.history) key.table key.cols values apart) writes) works) written_by st.sessions 0 s j others is)

  ask-in-way : (s j : ℕ) (others : List ℕ) (ask : Ask) → blockers program st s ask ≡ j ∷ others → In_way st j
  ask-in-way s j others (For_row row mode) is =
      from-found (λ held. conflicts_with mode (at row held)) held_in refl j (in-way (λ held. conflicts_with mode (at row held)) held_by st.sessions 0 s j others is)
  ask-in-way s j others (For_key key values apart) is = key-in-way s j others values apart (slice_get program.schema.catalog.keys key) is

  option-in-way : (s j : ℕ) (others : List ℕ) (ask : Option Ask) → blockers_of program st s ask ≡ j ∷ others → In_way st j
  option-in-way s j others None is = absurd (cc)
  option-in-way s j others (Some ask) is = ask-in-way s j others ask is

  -- ---- following those for whom a session waits, one comes to a session that may step
  module _ (order : IsRanked program st) where
    abbrev Leads : ℕ → Type 0
    Leads n = (j : ℕ) → order.rank j ≡ n → In_way st j → CanGoOn program st

    by-waits : (j : ℕ) → In_way st j → (waits : List ℕ) → waits_for program st j ≡ waits → ((k : ℕ) → order.rank k < order.rank j → In_way st k → CanGoOn program st) → CanGoOn program st
    by-waits j way [] is rest =
        May_step j
        (and_from (nat_lt j (length st.sessions)) (not (session_at st j).ended && is_empty (waits_for program st j)) (lt-ltb j (length st.sessions) way.within)
        (and_from (not (session_at st j).ended) (is_empty (waits_for program st j)) (not_from_false (session_at st j).ended way.goes_on) (ap is_empty is)))
    by-waits j way (k ∷ others) is rest = rest k (order.falls j k (subst (λ l. Contains l k) (sym is) (Contains-first k others))) (option-in-way j k others (session_at st j).waits is)

    leads : (n : ℕ) → Leads n
    leads =
        strongly Leads
        (λ n smaller j is way.
        by-waits j way (waits_for program st j) refl (λ k less. smaller (order.rank k) (subst (λ m. order.rank k < m) is less) k refl))

    -- the first session that hasn't ended
    not-ended : (rest : List Session) (first : ℕ) → list_all (λ session. session.ended) rest ≡ true ⊎ ((place : ℕ) × ((place < length rest) × ((slice_index_or rest place nobody).ended ≡ false)))
    not-ended [] first = inl refl
    not-ended (one ∷ rest) first = by_end (cases_Bool one.ended) (not-ended rest (first + 1))
      where
        by_end : (one.ended ≡ true) ⊎ (one.ended ≡ false) → list_all (λ session. session.ended) rest ≡ true ⊎ ((place : ℕ) × ((place < length rest) × ((slice_index_or rest place nobody).ended ≡ false))) →
            list_all (λ session. session.ended) (one ∷ rest) ≡ true ⊎ ((place : ℕ) × ((place < length (one ∷ rest)) × ((slice_index_or (one ∷ rest) place nobody).ended ≡ false)))
        by_end (inr going) others = inr (0, (omega arith, going))
        by_end (inl ended) (inl all_ended) = inl (and_from one.ended (list_all (λ session. session.ended) rest) ended all_ended)
        by_end (inl ended) (inr (place, (within, going))) = inr (suc place, (omega (arith, within), going))

    pub somebody_can_go_on : CanGoOn program st
    somebody_can_go_on = by_first (not-ended st.sessions 0)
      where
        by_first : list_all (λ session. session.ended) st.sessions ≡ true ⊎ ((place : ℕ) × ((place < length st.sessions) × ((slice_index_or st.sessions place nobody).ended ≡ false))) → CanGoOn program st
        by_first (inl ended) = All_ended ended
        by_first (inr (place, (within, going))) = leads (order.rank place) place refl (record { within = within; goes_on = going })

-- ---- the default schedule

-- a schedule that goes by default from a state until all have ended
record DefaultFrom (program : Program) (st : State) : Type 0 where
  schedule : Schedule
  goes : GoesByDefault program st schedule
  ends : have_all_ended (run_from program st schedule) ≡ true

ends-here : (program : Program) (st : State) → have_all_ended st ≡ true → DefaultFrom program st
unfolding run_from GoesByDefault
ends-here program st ended = record { schedule = []; goes = tt; ends = ended }

steps-first : (program : Program) (st : State) (s : ℕ) → IsLeastEnabled program st s → DefaultFrom program (step program st s) → DefaultFrom program st
unfolding run_from GoesByDefault
steps-first program st s least rest = record { schedule = s ∷ rest.schedule; goes = (least, rest.goes); ends = rest.ends }

-- the least session that may step, where none before a number may and one at the end may
least-from : (program : Program) (st : State) (s n left : ℕ) → n + left ≡ s → is_enabled program st s ≡ true → ((r : ℕ) → r < n → is_enabled program st r ≡ false) → (r : ℕ) × IsLeastEnabled program st r
least-from program st s n zero all enabled none = (s, record { enabled = enabled; least = λ r less. none r (omega (arith, all, less)) })
least-from program st s n (suc left) all enabled none =
    by_test (cases_Bool (is_enabled program st n)) (λ waits. least-from program st s (n + 1) left (omega (arith, all)) enabled (below_more (λ r. is_enabled program st r ≡ false) n none waits))
  where
    by_test : (is_enabled program st n ≡ true) ⊎ (is_enabled program st n ≡ false) → (is_enabled program st n ≡ false → (r : ℕ) × IsLeastEnabled program st r) → (r : ℕ) × IsLeastEnabled program st r
    by_test (inl may) rest = (n, record { enabled = may; least = none })
    by_test (inr waits) rest = rest waits

pub can-append : (program : Program) (st : State) (w : Schedule) (s : ℕ) → CanRunFrom program st w → is_enabled program (run_from program st w) s ≡ true → CanRunFrom program st (w ++ s ∷ [])
unfolding run_from CanRunFrom
can-append program st [] s can enabled = (enabled, tt)
can-append program st (r ∷ w) s can enabled = (can.0, can-append program (step program st r) w s can.1 enabled)

pub run-more : (program : Program) (w : Schedule) (s : ℕ) → run program (w ++ s ∷ []) ≡ step program (run program w) s
unfolding run_from
run-more program w s = run_from-append program (opening program) w (s ∷ [])

module _ (program : Program) (are : ActionsAreForRows program.schema.catalog) (ordered : (schedule : Schedule) → IsSchedule program schedule → IsRanked program (run program schedule)) where
  abbrev Ends_from : Measure → Type 0
  Ends_from m = (w : Schedule) → IsSchedule program w → measure program (run program w) ≡ m → DefaultFrom program (run program w)

  by-progress : (m : Measure) → ((less : Measure) → Falls less m → Ends_from less) → (w : Schedule) → IsSchedule program w → measure program (run program w) ≡ m → CanGoOn program (run program w) → DefaultFrom program (run program w)
  by-progress m smaller w can is (All_ended ended) = ends-here program (run program w) ended
  by-progress m smaller w can is (May_step s enabled) =
      by_least (least-from program (run program w) s 0 s (omega arith) enabled (λ r less. absurd (omega (arith, less))))
    where
      by_least : (r : ℕ) × IsLeastEnabled program (run program w) r → DefaultFrom program (run program w)
      by_least (r, least) =
          steps-first program (run program w) r least
          (subst (λ st. DefaultFrom program st) (run-more program w r)
          (smaller (measure program (run program (w ++ r ∷ [])))
          (subst (λ st. Falls (measure program st) m) (sym (run-more program w r)) (subst (λ k. Falls (measure program (step program (run program w) r)) k) is (step-falls program are (run program w) r (run-stands program are w) least.enabled)))
          (w ++ r ∷ []) (can-append program (opening program) w r can least.enabled) refl))

  default-from : (m : Measure) → Ends_from m
  default-from =
      by-measure Ends_from
      (λ m smaller w can is. by-progress m smaller w can is (somebody_can_go_on program (run program w) (run-stands program are w) (ordered w can)))

  -- where the sessions that wait never form a cycle, the default schedule exists
  pub default_schedule_exists : (schedule : Schedule) × IsDefaultSchedule program schedule
  unfolding run_from CanRunFrom
  default_schedule_exists =
      let default : DefaultFrom program (opening program) = default-from (measure program (run program [])) [] tt refl in
      (default.schedule, record { by_default = default.goes; complete = default.ends })

pub somebody_may_step : SomebodyMayStep
somebody_may_step program are schedule can = somebody_can_go_on program (run program schedule) (run-stands program are schedule) (ranked program schedule can)

pub default_exists : DefaultScheduleExists
default_exists program are = default_schedule_exists program are (ranked program)
