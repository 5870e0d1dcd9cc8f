-- A schedule is refused at the first place at which it can't go on.
use Rattle.std.proofs.Common.{◌≡◌, ℕ, Bool, true, false, List, [], ◌∷◌, ◌++◌, Option, Some, None, refl, sym, ◌∙◌, ap, subst, arith, append_assoc, append-nil}
use Rattle.std.specs.Prelude.{◌+◌, zero, suc, length, replicate}
use Rattle.std.proofs.lemmas.List.{length-append}
use Rattle.aq_base.specs.Names.{Text}
use Rattle.aq_base.specs.declared.script.Item.{Item}
use Rattle.aq_run.specs.Programs.{Program}
use Rattle.aq_run.specs.States.{State, opening}
use Rattle.aq_run.specs.Waits.{is_enabled}
use Rattle.aq_run.specs.Steps.{step}
use Rattle.aq_run.specs.Runs.{Schedule, run_from, run, CanRunFrom, IsSchedule, Replayed, session_named, steps_from, item_from, replayed_from, replayed, first_left, unfinished, refusal_of}
use Rattle.aq_run.specs.Runs.Replayed.{Came_to_end, Not_known, Not_enabled}
use Rattle.aq_laws.specs.Refusals.{Reads, UnknownAt, DisabledAt, CauseIs, RefusalsHaveCauses}
use Rattle.aq_laws.proofs.Progress.{can-append, run-more}

-- ---- items one after the other

replicate-more : {X : Type 0} (n : ℕ) (x : X) → replicate n x ++ x ∷ [] ≡ replicate (suc n) x
replicate-more zero x = refl
replicate-more (suc n) x = ap (λ l. x ∷ l) (replicate-more n x)

reads-more : (program : Program) (done : List Item) (item : Item) (s : ℕ) (w : Schedule) → session_named program item.name ≡ Some s → Reads program done w → Reads program (done ++ item ∷ []) (w ++ replicate item.count s)
reads-more program [] item s w known reads = (s, ([], (known, (ap (λ l. l ++ replicate item.count s) reads ∙ sym (append-nil (replicate item.count s)), refl))))
reads-more program (first ∷ done) item s w known (r, (rest, (first_known, (is, reads)))) = (
  r,
  (
    rest ++ replicate item.count s,
    (first_known, (ap (λ l. l ++ replicate item.count s) is ∙ append_assoc (replicate first.count r) rest (replicate item.count s), reads-more program done item s rest known reads)),
  ),
)

-- ---- what has been replayed of a schedule

-- so many steps could be taken, those of these items
record Came (program : Program) (items : List Item) (count : ℕ) (st : State) : Type 0 where
  steps : Schedule
  reads : Reads program items steps
  can : IsSchedule program steps
  count_is : count ≡ length steps
  state_is : st ≡ run program steps

abbrev Replay_fits : Program → List Item → List Item → Replayed → Type 0
Replay_fits program whole done (Came_to_end count st) = Came program done count st
Replay_fits program whole done (Not_known place name) = UnknownAt program whole place name
Replay_fits program whole done (Not_enabled place name) = DisabledAt program whole place name

one-longer : (steps : Schedule) (taken s : ℕ) → (steps ++ replicate taken s) ++ s ∷ [] ≡ steps ++ replicate (suc taken) s
one-longer steps taken s = append_assoc steps (replicate taken s) (s ∷ []) ∙ ap (λ l. steps ++ l) (replicate-more taken s)

abbrev tested : Replayed → ℕ → Text → Bool → Replayed
tested more place name test = elim test [ true ↦ more | false ↦ Not_enabled place name ]

by-test : (program : Program) (whole done : List Item) (item : Item) (left : List Item) (steps : Schedule) (s taken : ℕ) (more : Replayed) (test : Bool) → is_enabled program (run program (steps ++ replicate taken s)) s ≡ test →
    (is_enabled program (run program (steps ++ replicate taken s)) s ≡ true → Replay_fits program whole (done ++ item ∷ []) more) →
    (is_enabled program (run program (steps ++ replicate taken s)) s ≡ false → DisabledAt program whole (length (steps ++ replicate taken s) + 1) item.name) →
    Replay_fits program whole (done ++ item ∷ []) (tested more (length (steps ++ replicate taken s) + 1) item.name test)
by-test program whole done item left steps s taken more true is goes stops = goes is
by-test program whole done item left steps s taken more false is goes stops = stops is

module _ (program : Program) (whole done : List Item) (item : Item) (left : List Item) (is : whole ≡ done ++ item ∷ left) (steps : Schedule) (reads : Reads program done steps) (s : ℕ)
    (known : session_named program item.name ≡ Some s) where
  -- so many steps of the item are taken, so many are left
  steps-fit : (count taken : ℕ) → taken + count ≡ item.count → IsSchedule program (steps ++ replicate taken s) →
      Replay_fits program whole (done ++ item ∷ []) (steps_from program item.name s count (length (steps ++ replicate taken s)) (run program (steps ++ replicate taken s)))
  steps-fit zero taken all can =
      let same : taken ≡ item.count = omega (arith, all) in
      record {
        steps = steps ++ replicate taken s;
        reads = subst (λ m. Reads program (done ++ item ∷ []) (steps ++ replicate m s)) (sym same) (reads-more program done item s steps known reads);
        can = can;
        count_is = refl;
        state_is = refl;
      }
  steps-fit (suc count) taken all can =
      by-test program whole done item left steps s taken (steps_from program item.name s count (length (steps ++ replicate taken s) + 1) (step program (run program (steps ++ replicate taken s)) s))
      (is_enabled program (run program (steps ++ replicate taken s)) s) refl
      (λ enabled.
      subst (λ n. Replay_fits program whole (done ++ item ∷ []) (steps_from program item.name s count n (step program (run program (steps ++ replicate taken s)) s)))
      (sym (ap length (one-longer steps taken s)) ∙ length-append (steps ++ replicate taken s) (s ∷ []))
      (subst (λ st. Replay_fits program whole (done ++ item ∷ []) (steps_from program item.name s count (length (steps ++ replicate (suc taken) s)) st))
      (sym (ap (λ w. run program w) (one-longer steps taken s)) ∙ run-more program (steps ++ replicate taken s) s)
      (steps-fit count (suc taken) (omega (arith, all)) (subst (λ w. IsSchedule program w) (one-longer steps taken s) (can-append program (opening program) (steps ++ replicate taken s) s can enabled)))))
      (λ disabled. record {
        done = done;
        item = item;
        left = left;
        is = is;
        steps = steps;
        reads = reads;
        session = s;
        name_is = refl;
        known = known;
        taken = taken;
        within = omega (arith, all);
        can = can;
        place_is = refl;
        disabled = disabled;
      })

module _ (program : Program) (whole : List Item) where
  abbrev Goes_on_from : List Item → List Item → Type 0
  Goes_on_from done items = (w : Schedule) → Reads program done w → IsSchedule program w → Replay_fits program whole whole (replayed_from program items (length w) (run program w))

  abbrev continued : List Item → Replayed → Replayed
  continued items result =
      elim result [
        | Came_to_end steps next ↦ replayed_from program items steps next
        | Not_known place name ↦ Not_known place name
        | Not_enabled place name ↦ Not_enabled place name
      ]

  by-result : (done : List Item) (item : Item) (items : List Item) → Goes_on_from (done ++ item ∷ []) items → (result : Replayed) → Replay_fits program whole (done ++ item ∷ []) result →
      Replay_fits program whole whole (continued items result)
  by-result done item items rest (Came_to_end count st) came =
      subst (λ n. Replay_fits program whole whole (replayed_from program items n st)) (sym came.count_is)
      (subst (λ it. Replay_fits program whole whole (replayed_from program items (length came.steps) it)) (sym came.state_is) (rest came.steps came.reads came.can))
  by-result done item items rest (Not_known place name) unknown = unknown
  by-result done item items rest (Not_enabled place name) disabled = disabled

  by-name : (done : List Item) (item : Item) (items : List Item) → whole ≡ done ++ item ∷ items → (w : Schedule) → Reads program done w → IsSchedule program w → (session : Option ℕ) → session_named program item.name ≡ session →
      Replay_fits program whole (done ++ item ∷ []) (item_from program item (length w) (run program w) session)
  by-name done item items is w reads can None unknown =
      record { done = done; item = item; left = items; is = is; steps = w; reads = reads; can = can; place_is = refl; name_is = refl; unknown = unknown }
  by-name done item items is w reads can (Some s) known =
      subst (λ l. Replay_fits program whole (done ++ item ∷ []) (steps_from program item.name s item.count (length l) (run program l))) (append-nil w)
      (steps-fit program whole done item items is w reads s known item.count 0 (omega arith) (subst (λ l. IsSchedule program l) (sym (append-nil w)) can))

  items-fit : (items done : List Item) → whole ≡ done ++ items → Goes_on_from done items
  items-fit [] done is w reads can =
      record { steps = w; reads = subst (λ l. Reads program l w) (sym (is ∙ append-nil done)) reads; can = can; count_is = refl; state_is = refl }
  items-fit (item ∷ items) done is w reads can =
      by-result done item items (items-fit items (done ++ item ∷ []) (is ∙ sym (append_assoc done (item ∷ []) items)))
      (item_from program item (length w) (run program w) (session_named program item.name)) (by-name done item items is w reads can (session_named program item.name) refl)

  by-replay : (result : Replayed) → Replay_fits program whole whole result → CauseIs program whole (refusal_of program result)
  by-replay (Came_to_end count st) came = by_left (first_left st) refl
    where
      by_left : (left : Option ℕ) → first_left st ≡ left → CauseIs program whole (unfinished program count left)
      by_left None none = record { steps = came.steps; reads = came.reads; can = came.can; none_left = ap first_left (sym came.state_is) ∙ none }
      by_left (Some s) first =
          record { steps = came.steps; reads = came.reads; can = came.can; count_is = came.count_is; session = s; first = ap first_left (sym came.state_is) ∙ first; name_is = refl }
  by-replay (Not_known place name) unknown = unknown
  by-replay (Not_enabled place name) disabled = disabled

pub refusals_have_causes : RefusalsHaveCauses
unfolding run_from CanRunFrom
refusals_have_causes program items = by-replay program items (replayed program items) (items-fit program items items [] refl [] refl tt)
