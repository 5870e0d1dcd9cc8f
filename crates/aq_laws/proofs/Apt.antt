-- An event that a statement has queued is of a trigger for statements: in the work of each transaction and in its saved copies.
use Rattle.std.proofs.Common.{◌≡◌, ℕ, Bool, true, false, not, ◌||◌, List, [], ◌∷◌, ◌++◌, Option, Some, None, refl, ap, ◌∙◌}
use Rattle.std.specs.Prelude.{◌+◌, ◌-◌, zero, suc, length, drop, filter, option_map, cond}
use Rattle.std.specs.List.{list_all}
use Rattle.std.proofs.lemmas.Bool.{and_parts, and_from}
use Rattle.std.proofs.lemmas.List.Folds.{list_all-append}
use Rattle.aq_base.specs.Databases.{last_number}
use Rattle.aq_base.specs.ConstraintModes.{with_modes}
use Rattle.aq_base.specs.Events.{Event, is_of_statement}
use Rattle.aq_base.specs.Transitions.{closed}
use Rattle.aq_base.specs.Works.{Work, Opened, Saved, Kind, Mark}
use Rattle.aq_base.specs.Works.Kind.{Level, Constraints, Drain}
use Rattle.aq_base.specs.Works.Mark.{Named, Block as Of_block}
use Rattle.aq_base.specs.Rounds.{without_top, without_top_level, without_first, taken, still_deferred, taking, waiting, ended, queued_on_top}
use Rattle.aq_base.specs.declared.catalog.Op.{Op}
use Rattle.aq_base.specs.declared.catalog.Trigger.{Trigger}
use Rattle.aq_outcomes.specs.Schemas.{Schema, trigger_at, is_deferred}
use Rattle.aq_outcomes.specs.Queued.{is_for_rows, events_of, is_replaced}
use Rattle.aq_outcomes.specs.Rows.{Change}
use Rattle.aq_run.specs.Programs.{Program}
use Rattle.aq_run.specs.States.{Transaction, Session, World}
use Rattle.aq_run.specs.Effects.{Effect, Scene, effect, effects, on_session, with_lock, opening_of, left_after, latest_saved, copied_work, standing_saved, returned, saving, changed, queued, row_of, taking_round, cleared_on_top, change_event, statement_event, set_of, with_set, since_in}
use Rattle.aq_run.specs.Effects.Effect.{Counts_step, Begins, Fixes_snapshot, Opens, Closes_level, Closes_rounds, Takes_round, Locks, Changes, Queues, Closes_set, Finishes, Sets_mode, Saves, Releases, Returns, Commits, Aborts}
use Rattle.aq_run.proofs.Free_plans.{Each}

abbrev pub is_for_statements : Option Trigger → Bool
is_for_statements None = true
is_for_statements (Some trigger) = not (is_for_rows trigger.level)

module _ (schema : Schema) where
  abbrev pub is_apt : Event → Bool
  is_apt event = not (is_of_statement event) || is_for_statements (trigger_at schema event.trigger)

  abbrev pub are_apt : List Event → Type 0
  are_apt events = list_all is_apt events ≡ true

  abbrev pub Opened_apt : List Opened → Type 0
  Opened_apt [] = Unit {0}
  Opened_apt (top ∷ below) = are_apt top.queued × (are_apt top.round × Opened_apt below)

  abbrev pub Work_apt : Work → Type 0
  Work_apt work = are_apt work.deferred × Opened_apt work.opened

  abbrev pub Saved_apt : List Saved → Type 0
  Saved_apt [] = Unit {0}
  Saved_apt (copy ∷ others) = Work_apt copy.work × Saved_apt others

  abbrev pub Apt : Option Transaction → Type 0
  Apt None = Unit {0}
  Apt (Some t) = Work_apt t.work × Saved_apt t.saved

  -- statement events are queued for triggers of statements
  abbrev pub Apt_effect : Effect → Type 0
  Apt_effect (Queues table op triggers) = list_all (λ n. is_for_statements (trigger_at schema n)) triggers ≡ true
  Apt_effect _ = Unit {0}

  -- ---- lists

  all-filter : (test : Event → Bool) (events : List Event) → are_apt events → are_apt (filter test events)
  all-filter test [] all = refl
  all-filter test (event ∷ events) all =
      let parts = and_parts (is_apt event) (list_all is_apt events) all in
      elim (test event) as (λ b. are_apt (cond b (event ∷ filter test events) (filter test events))) [
        | true ↦ and_from (is_apt event) (list_all is_apt (filter test events)) parts.0 (all-filter test events parts.1)
        | false ↦ all-filter test events parts.1
      ]

  all-append : (some more : List Event) → are_apt some → are_apt more → are_apt (some ++ more)
  all-append some more all all' = list_all-append is_apt some more ∙ and_from (list_all is_apt some) (list_all is_apt more) all all'

  all-drop : (events : List Event) → are_apt events → are_apt (drop 1 events)
  all-drop [] all = refl
  all-drop (event ∷ events) all = (and_parts (is_apt event) (list_all is_apt events) all).1

  opened-drop : (opened : List Opened) → Opened_apt opened → Opened_apt (drop 1 opened)
  opened-drop [] apt = tt
  opened-drop (top ∷ below) apt = apt.1.1

  pub saved-drop : (n : ℕ) (saved : List Saved) → Saved_apt saved → Saved_apt (drop n saved)
  saved-drop zero saved apt = apt
  saved-drop (suc n) [] apt = tt
  saved-drop (suc n) (copy ∷ others) apt = saved-drop n others apt.1

  row-events : (event : Event) (last : ℕ) (triggers : List ℕ) → is_of_statement event ≡ false → are_apt (events_of event last triggers)
  row-events event last [] of_row = refl
  row-events event last (trigger ∷ triggers) of_row =
      and_from (not (is_of_statement event) || is_for_statements (trigger_at schema trigger)) (list_all is_apt (events_of event (last + 1) triggers))
      (ap (λ b. not b || is_for_statements (trigger_at schema trigger)) of_row) (row-events event (last + 1) triggers of_row)

  or_right : (a b : Bool) → b ≡ true → (a || b) ≡ true
  or_right true b is = refl
  or_right false b is = is

  statement-events : (event : Event) (last : ℕ) (triggers : List ℕ) → list_all (λ n. is_for_statements (trigger_at schema n)) triggers ≡ true → are_apt (events_of event last triggers)
  statement-events event last [] are = refl
  statement-events event last (trigger ∷ triggers) are =
      let parts = and_parts (is_for_statements (trigger_at schema trigger)) (list_all (λ n. is_for_statements (trigger_at schema n)) triggers) are in
      and_from (not (is_of_statement event) || is_for_statements (trigger_at schema trigger)) (list_all is_apt (events_of event (last + 1) triggers))
      (or_right (not (is_of_statement event)) (is_for_statements (trigger_at schema trigger)) parts.0) (statement-events event (last + 1) triggers parts.1)

  -- ---- works

  queued-apt : (events : List Event) (opened : List Opened) → are_apt events → Opened_apt opened → Opened_apt (queued_on_top events opened)
  queued-apt events [] are apt = tt
  queued-apt events (top ∷ below) are apt = (all-append top.queued events apt.0 are, apt.1)

  cleared-apt : (table : ℕ) (op : Op) (since : ℕ) (opened : List Opened) → Opened_apt opened → Opened_apt (cleared_on_top table op since opened)
  cleared-apt table op since [] apt = tt
  cleared-apt table op since (top ∷ below) apt =
      (all-filter (λ event. not (is_replaced table op since event)) top.queued apt.0, (all-filter (λ event. not (is_replaced table op since event)) top.round apt.1.0, apt.1.1))

  first-apt : (opened : List Opened) → Opened_apt opened → Opened_apt (without_first opened)
  first-apt [] apt = tt
  first-apt (top ∷ below) apt = (apt.0, (all-drop top.round apt.1.0, apt.1.1))

  ended-apt : (work : Work) (opened : List Opened) → are_apt work.deferred → Opened_apt opened → are_apt (ended work.deferred opened)
  ended-apt work [] are apt = are
  ended-apt work (top ∷ below) are apt = all-append work.deferred top.queued are apt.0

  round-apt : (is_late : Event → Bool) (work : Work) (opened : List Opened) → are_apt work.deferred → Opened_apt opened →
      are_apt (waiting is_late work.deferred opened) × Opened_apt (taking is_late work.deferred opened)
  round-apt is_late work [] are apt = (are, tt)
  round-apt is_late work (top ∷ below) are apt = by_kind top.kind
    where
      by_kind : (kind : Kind) → are_apt (still_deferred is_late kind work.deferred top.queued) × (are_apt [] × (are_apt (taken is_late kind work.deferred top.queued) × Opened_apt below))
      by_kind Level = (all-append work.deferred (filter is_late top.queued) are (all-filter is_late top.queued apt.0), (refl, (all-filter (λ event. not (is_late event)) top.queued apt.0, apt.1.1)))
      by_kind Constraints = (all-filter is_late work.deferred are, (refl, (all-filter (λ event. not (is_late event)) work.deferred are, apt.1.1)))
      by_kind Drain = (refl, (refl, (are, apt.1.1)))

  map-apt : (change : Transaction → Transaction) → ((t : Transaction) → Apt (Some t) → Apt (Some (change t))) → (t : Option Transaction) → Apt t → Apt (option_map change t)
  map-apt change keeps None apt = apt
  map-apt change keeps (Some t) apt = keeps t apt

  opening-apt : (kind : Kind) (t : Transaction) → Apt (Some t) → Apt (Some (opening_of kind t))
  opening-apt Level t apt = ((apt.0.0, (refl, (refl, apt.0.1))), apt.1)
  opening-apt Constraints t apt = ((apt.0.0, (refl, (refl, apt.0.1))), apt.1)
  opening-apt Drain t apt = ((apt.0.0, (refl, (refl, apt.0.1))), tt)

  left-apt : (mark : Mark) (copy : Saved) (others : List Saved) → Saved_apt (copy ∷ others) → Saved_apt (elim mark [ Named name ↦ copy ∷ others | Of_block number height ↦ others ])
  left-apt (Named name) copy others apt = apt
  left-apt (Of_block number height) copy others apt = apt.1

  back-apt : (t : Transaction) (saved : List Saved) → Work_apt t.work → Saved_apt saved → Work_apt (copied_work (latest_saved saved) t.work) × Saved_apt (left_after saved)
  back-apt t [] work apt = (work, tt)
  back-apt t (copy ∷ others) work apt = (apt.0, left-apt copy.mark copy others apt)

-- ---- effects

abbrev pub the_event : World → Change → Transaction → Event
the_event world change t = change_event (row_of world change) (world.writes + 1) (set_of change.table change.op (with_set change.table change.op t.events t.work)) change

abbrev pub the_statement_event : ℕ → Op → Transaction → Event
the_statement_event table op t = statement_event table op (set_of table op (with_set table op t.events t.work))

module _ (program : Program) where
  abbrev schema : Schema
  schema = program.schema

  on_session-apt : (world : World) (e : Effect) (me : Session) → Apt_effect schema e → Apt schema me.transaction → Apt schema (on_session program world e me).transaction
  on_session-apt world Counts_step me fine apt = map-apt schema (λ t. record t { steps = t.steps + 1 }) (λ t is. is) me.transaction apt
  on_session-apt world (Begins isolation) me fine apt = ((refl, tt), tt)
  on_session-apt world Fixes_snapshot me fine apt = map-apt schema (λ t. record t { snapshot = Some (last_number world.history) }) (λ t is. is) me.transaction apt
  on_session-apt world (Opens kind task) me fine apt = map-apt schema (opening_of kind) (opening-apt schema kind) me.transaction apt
  on_session-apt world Closes_level me fine apt =
      map-apt schema (λ t. record t { work = without_top_level t.work })
      (λ t is. ((ended-apt schema t.work t.work.opened is.0.0 is.0.1, opened-drop schema t.work.opened is.0.1), is.1)) me.transaction apt
  on_session-apt world Closes_rounds me fine apt =
      map-apt schema (λ t. record t { work = without_top t.work })
      (λ t is. ((ended-apt schema t.work t.work.opened is.0.0 is.0.1, opened-drop schema t.work.opened is.0.1), is.1)) me.transaction apt
  on_session-apt world Takes_round me fine apt =
      map-apt schema (λ t. record t { work = taking_round program.schema t.work })
      (λ t is. (round-apt schema (is_deferred schema t.work.modes) t.work t.work.opened is.0.0 is.0.1, is.1)) me.transaction apt
  on_session-apt world (Locks row mode) me fine apt = map-apt schema (λ t. record t { work = with_lock row mode t.work }) (λ t is. is) me.transaction apt
  on_session-apt world (Changes change None triggers) me fine apt =
      map-apt schema (changed (row_of world change) (world.writes + 1) change None triggers)
      (λ t is. ((is.0.0, queued-apt schema (events_of (the_event world change t) t.events triggers) t.work.opened (row-events schema (the_event world change t) t.events triggers refl) is.0.1), is.1)) me.transaction apt
  on_session-apt world (Changes change (Some mode) triggers) me fine apt =
      map-apt schema (changed (row_of world change) (world.writes + 1) change (Some mode) triggers)
      (λ t is. ((is.0.0, queued-apt schema (events_of (the_event world change t) t.events triggers) t.work.opened (row-events schema (the_event world change t) t.events triggers refl) is.0.1), is.1)) me.transaction apt
  on_session-apt world (Queues table op triggers) me fine apt =
      map-apt schema (queued table op triggers)
      (λ t is. ((is.0.0, queued-apt schema (events_of (the_statement_event table op t) t.events triggers) (cleared_on_top table op (since_in table op (with_set table op t.events t.work)) t.work.opened) (statement-events schema (the_statement_event table op t) t.events triggers fine) (cleared-apt schema table op (since_in table op (with_set table op t.events t.work)) t.work.opened is.0.1)), is.1)) me.transaction apt
  on_session-apt world (Closes_set set) me fine apt = map-apt schema (λ t. record t { work = record (t.work) { sets = closed set t.work.sets } }) (λ t is. is) me.transaction apt
  on_session-apt world (Finishes number ending) me fine apt =
      map-apt schema (λ t. record t { work = record (t.work) { opened = without_first t.work.opened } })
      (λ t is. ((is.0.0, first-apt schema t.work.opened is.0.1), is.1)) me.transaction apt
  on_session-apt world (Sets_mode constraints deferred) me fine apt =
      map-apt schema (λ t. record t { work = record (t.work) { modes = with_modes constraints deferred t.work.modes } }) (λ t is. is) me.transaction apt
  on_session-apt world (Saves mark) me fine apt = map-apt schema (saving mark) (λ t is. (is.0, (is.0, is.1))) me.transaction apt
  on_session-apt world (Releases standing) me fine apt =
      map-apt schema (λ t. record t { saved = standing_saved standing t.saved }) (λ t is. (is.0, saved-drop schema (length t.saved - standing) t.saved is.1)) me.transaction apt
  on_session-apt world (Returns standing code tasks) me fine apt =
      map-apt schema (returned standing)
      (λ t is. back-apt schema t (standing_saved (standing + 1) t.saved) is.0 (saved-drop schema (length t.saved - (standing + 1)) t.saved is.1)) me.transaction apt
  on_session-apt world Commits me fine apt = tt
  on_session-apt world Aborts me fine apt = tt
  on_session-apt world _ me fine apt = apt

  pub effects-apt : (s : ℕ) (es : List Effect) (scene : Scene) → Each (Apt_effect schema) es → Apt schema scene.me.transaction → Apt schema (effects program s es scene).me.transaction
  unfolding effect
  effects-apt s [] scene each apt = apt
  effects-apt s (e ∷ es) scene each apt = effects-apt s es (effect program s e scene) each.1 (on_session-apt scene.world e scene.me each.0 apt)
