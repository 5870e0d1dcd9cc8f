-- What an effect does to what a transaction has written and holds and to its saved copies: a fact of these is kept by every effect where it is
-- kept by the few that touch them.
use Rattle.std.proofs.Common.{◌≡◌, ℕ, List, [], ◌∷◌, Option, Some, None, refl, subst}
use Rattle.std.specs.Prelude.{length, drop, ◌-◌, ◌+◌, option_map}
use Rattle.aq_base.specs.Maps.{with_at}
use Rattle.aq_base.specs.Databases.{last_number}
use Rattle.aq_base.specs.Writes.{Writes}
use Rattle.aq_base.specs.LockModes.{Holdings, locked}
use Rattle.aq_base.specs.ConstraintModes.{with_modes}
use Rattle.aq_base.specs.Transitions.{closed}
use Rattle.aq_base.specs.Rounds.{without_top, without_top_level, without_first}
use Rattle.aq_base.specs.Works.{Work, Saved, Kind, Mark}
use Rattle.aq_base.specs.Works.Kind.{Level, Constraints, Drain}
use Rattle.aq_base.specs.Works.Mark.{Named, Block as Of_block}
use Rattle.aq_base.specs.declared.data.LockMode.{LockMode}
use Rattle.aq_outcomes.specs.Rows.{Change}
use Rattle.aq_run.specs.Programs.{Program}
use Rattle.aq_run.specs.States.{Transaction, Session, World}
use Rattle.aq_run.specs.Effects.{Effect, on_session, with_lock, with_lock_in, with_set, opening_of, left_after, latest_saved, copied_work, standing_saved, returned, saving, changed, queued, row_of, version_of, taking_round}
use Rattle.aq_run.specs.Effects.Effect.{Counts_step, Begins, Fixes_snapshot, Opens, Closes_level, Closes_rounds, Takes_round, Locks, Changes, Queues, Closes_set, Finishes, Sets_mode, Saves, Releases, Returns, Commits, Aborts}

-- of what a transaction has written and holds, and of its copies
abbrev pub Fact : Type 1
Fact = Writes → Holdings → List Saved → Type 0

abbrev pub Of_transaction : Fact → Option Transaction → Type 0
Of_transaction P None = Unit {0}
Of_transaction P (Some t) = P t.work.writes t.work.holdings t.saved

abbrev pub locked_in : ℕ → Option LockMode → Holdings → Holdings
locked_in row None holdings = holdings
locked_in row (Some mode) holdings = locked row mode holdings

-- copies may be dropped and made, and put back
pub record Goes_with_copies (P : Fact) : Type 0 where
  pub starts : P [] [] []
  pub drops : (n : ℕ) (writes : Writes) (holdings : Holdings) (saved : List Saved) → P writes holdings saved → P writes holdings (drop n saved)
  pub saves : (one : Saved) (saved : List Saved) → P one.work.writes one.work.holdings saved → P one.work.writes one.work.holdings (one ∷ saved)
  pub returns : (writes : Writes) (holdings : Holdings) (one : Saved) (saved : List Saved) → P writes holdings (one ∷ saved) → P one.work.writes one.work.holdings saved

-- what the effect does to the fact before, which becomes the one after
abbrev pub Goes_over : World → Fact → Fact → Effect → Type 0
Goes_over world P Q (Locks row mode) = (writes : Writes) (holdings : Holdings) (saved : List Saved) → P writes holdings saved → Q writes (locked row mode holdings) saved
Goes_over world P Q (Changes change lock triggers) =
    (writes : Writes) (holdings : Holdings) (saved : List Saved) → P writes holdings saved →
    Q (with_at (row_of world change) (version_of (world.writes + 1) change) writes) (locked_in (row_of world change) lock holdings) saved
Goes_over world P Q _ = (writes : Writes) (holdings : Holdings) (saved : List Saved) → P writes holdings saved → Q writes holdings saved

module _ (P Q : Fact) (with_copies : Goes_with_copies Q) where
  over-map : (change : Transaction → Transaction) → ((t : Transaction) → Of_transaction P (Some t) → Of_transaction Q (Some (change t))) →
      (t : Option Transaction) → Of_transaction P t → Of_transaction Q (option_map change t)
  over-map change keeps None is = tt
  over-map change keeps (Some t) is = keeps t is

  over-opening : (kind : Kind) (t : Transaction) → Of_transaction Q (Some t) → Of_transaction Q (Some (opening_of kind t))
  over-opening Level t is = is
  over-opening Constraints t is = is
  over-opening Drain t is = all_dropped t.saved (with_copies.drops (length t.saved) t.work.writes t.work.holdings t.saved is)
    where
      all_gone : (saved : List Saved) → drop (length saved) saved ≡ []
      all_gone [] = refl
      all_gone (one ∷ saved) = all_gone saved

      all_dropped : (saved : List Saved) → Q t.work.writes t.work.holdings (drop (length saved) saved) → Q t.work.writes t.work.holdings []
      all_dropped saved is = subst (Q t.work.writes t.work.holdings) (all_gone saved) is

  over-lock : (row write : ℕ) (change : Change) (lock : Option LockMode) (work : Work) (saved : List Saved) →
      Q (with_at row (version_of write change) work.writes) (locked_in row lock work.holdings) saved →
      Q (with_at row (version_of write change) (with_lock_in row lock work).writes) (with_lock_in row lock work).holdings saved
  over-lock row write change None work saved is = is
  over-lock row write change (Some mode) work saved is = is

  over-left : (mark : Mark) (one : Saved) (others : List Saved) → Q one.work.writes one.work.holdings others →
      Q one.work.writes one.work.holdings (elim mark [ Named name ↦ one ∷ others | Of_block number height ↦ others ])
  over-left (Named name) one others is = with_copies.saves one others is
  over-left (Of_block number height) one others is = is

  over-back : (t : Transaction) (saved : List Saved) → Q t.work.writes t.work.holdings saved → Q (copied_work (latest_saved saved) t.work).writes (copied_work (latest_saved saved) t.work).holdings (left_after saved)
  over-back t [] is = is
  over-back t (one ∷ others) is = over-left one.mark one others (with_copies.returns t.work.writes t.work.holdings one others is)

  pub on_session-over : (program : Program) (world : World) (e : Effect) (me : Session) → Goes_over world P Q e → Of_transaction P me.transaction → Of_transaction Q (on_session program world e me).transaction
  on_session-over program world Counts_step me over is = over-map (λ t. record t { steps = t.steps + 1 }) (λ t it. over t.work.writes t.work.holdings t.saved it) me.transaction is
  on_session-over program world (Begins isolation) me over is = with_copies.starts
  on_session-over program world Fixes_snapshot me over is =
      over-map (λ t. record t { snapshot = Some (last_number world.history) }) (λ t it. over t.work.writes t.work.holdings t.saved it) me.transaction is
  on_session-over program world (Opens kind task) me over is = over-map (opening_of kind) (λ t it. over-opening kind t (over t.work.writes t.work.holdings t.saved it)) me.transaction is
  on_session-over program world Closes_level me over is = over-map (λ t. record t { work = without_top_level t.work }) (λ t it. over t.work.writes t.work.holdings t.saved it) me.transaction is
  on_session-over program world Closes_rounds me over is = over-map (λ t. record t { work = without_top t.work }) (λ t it. over t.work.writes t.work.holdings t.saved it) me.transaction is
  on_session-over program world Takes_round me over is = over-map (λ t. record t { work = taking_round program.schema t.work }) (λ t it. over t.work.writes t.work.holdings t.saved it) me.transaction is
  on_session-over program world (Locks row mode) me over is = over-map (λ t. record t { work = with_lock row mode t.work }) (λ t it. over t.work.writes t.work.holdings t.saved it) me.transaction is
  on_session-over program world (Changes change lock triggers) me over is =
      over-map (changed (row_of world change) (world.writes + 1) change lock triggers)
      (λ t it. over-lock (row_of world change) (world.writes + 1) change lock (with_set change.table change.op t.events t.work) t.saved (over t.work.writes t.work.holdings t.saved it)) me.transaction is
  on_session-over program world (Queues table op triggers) me over is = over-map (queued table op triggers) (λ t it. over t.work.writes t.work.holdings t.saved it) me.transaction is
  on_session-over program world (Closes_set set) me over is =
      over-map (λ t. record t { work = record (t.work) { sets = closed set t.work.sets } }) (λ t it. over t.work.writes t.work.holdings t.saved it) me.transaction is
  on_session-over program world (Finishes number ending) me over is =
      over-map (λ t. record t { work = record (t.work) { opened = without_first t.work.opened } }) (λ t it. over t.work.writes t.work.holdings t.saved it) me.transaction is
  on_session-over program world (Sets_mode constraints deferred) me over is =
      over-map (λ t. record t { work = record (t.work) { modes = with_modes constraints deferred t.work.modes } }) (λ t it. over t.work.writes t.work.holdings t.saved it) me.transaction is
  on_session-over program world (Saves mark) me over is =
      over-map (saving mark) (λ t it. with_copies.saves (record { mark = mark; work = t.work }) t.saved (over t.work.writes t.work.holdings t.saved it)) me.transaction is
  on_session-over program world (Releases standing) me over is =
      over-map (λ t. record t { saved = standing_saved standing t.saved })
      (λ t it. with_copies.drops (length t.saved - standing) t.work.writes t.work.holdings t.saved (over t.work.writes t.work.holdings t.saved it)) me.transaction is
  on_session-over program world (Returns standing code tasks) me over is =
      over-map (returned standing)
      (λ t it. over-back t (standing_saved (standing + 1) t.saved) (with_copies.drops (length t.saved - (standing + 1)) t.work.writes t.work.holdings t.saved (over t.work.writes t.work.holdings t.saved it))) me.transaction is
  on_session-over program world Commits me over is = tt
  on_session-over program world Aborts me over is = tt
  on_session-over program world _ me over is = over-same me.transaction over is
    where
      over-same : (t : Option Transaction) → ((writes : Writes) (holdings : Holdings) (saved : List Saved) → P writes holdings saved → Q writes holdings saved) → Of_transaction P t → Of_transaction Q t
      over-same None over is = tt
      over-same (Some t) over is = over t.work.writes t.work.holdings t.saved is
