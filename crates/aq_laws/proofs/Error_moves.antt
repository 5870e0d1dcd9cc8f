-- An error leaves what fits, and less in progress than there was.
use Rattle.std.proofs.Common.{◌≡◌, ◌<◌, ℕ, Bool, true, false, List, [], ◌∷◌, ◌++◌, Option, Some, None, refl, sym, ◌∙◌, ap, subst, arith, length-drop}
use Rattle.std.specs.Prelude.{◌+◌, ◌-◌, suc, length, drop}
use Rattle.std.proofs.lemmas.Option.{none-some}
use Rattle.aq_base.specs.declared.fault.Code.{Code}
use Rattle.aq_base.specs.declared.reply.ReplyLine.{ReplyLine}
use Rattle.aq_run.specs.Programs.{Program}
use Rattle.aq_run.specs.States.{Task, Block_state, Transaction, Session, World}
use Rattle.aq_run.specs.States.Block_state.{Idle, Open, Failed}
use Rattle.aq_run.specs.Faults.{Fault, Finding}
use Rattle.aq_run.specs.Effects.{effect, copied_work, returned, saved_above, standing_saved, left_after}
use Rattle.aq_run.specs.Effects.Effect.{Returns, Tells, Fails_with, Becomes, Replies}
use Rattle.aq_run.specs.Errors.{Catcher, catcher_from, catcher_of, where_caught, latest_named, put_back, finding_effects, on_catcher, error_effects}
use Rattle.aq_run.specs.Replies.{error_lines}
use Rattle.aq_run.specs.Steps.{current}
use Rattle.aq_run.specs.Measure.{weight_of}
use Rattle.aq_laws.specs.Stacks.{Savepoints_fit, Tasks_fit, Block_fits}
use Rattle.aq_laws.proofs.Apt.{Apt, effects-apt}
use Rattle.aq_laws.proofs.Moves.{after, Moved, Is_alive, now, plain-moved, under}
use Rattle.aq_laws.proofs.Catches.{Caught, catches, left-block, Savepoint_at, latest-fits, returned-opened, returned-to-savepoint}

-- how many copies stand before the one that is put back
copies-behind : (all above dropped : ℕ) → dropped ≡ suc above → above < all → all - ((all - dropped) + 1) ≡ above
copies-behind all above dropped is within = omega (arith, is, within)

abbrev standing_of : Transaction → Catcher → ℕ
standing_of t catcher = length t.saved - catcher.dropped

module _ (program : Program) (s : ℕ) (counted : Bool) (n next : ℕ) (block : Block_state) (t : Transaction) (weight : ℕ) (tasks : List Task) where
  abbrev Left : Session → Type 0
  Left me = Moved program s counted n next weight me

  -- the copy of the block that catches it
  caught-moved : Is_alive block → Apt program.schema (Some t) → (counted ≡ false → under tasks t.work.opened < weight) → (catcher : Catcher) → Caught program.schema (current program s next) block t.saved (under tasks t.work.opened) catcher → (code : Code) (world : World) →
      Left (after program s (Returns (length t.saved - catcher.dropped) code catcher.tasks ∷ []) world (now n next block t tasks))
  unfolding effect
  caught-moved alive apt quick catcher caught code world =
      plain-moved program s counted n next block t weight tasks alive apt (Returns (standing_of t catcher) code catcher.tasks ∷ []) (tt, tt) world
      (subst (λ o. Tasks_fit program.schema (current program s next) block catcher.tasks o (left_after (standing_saved ((standing_of t catcher) + 1) t.saved))) (sym opened)
      (subst (λ l. Tasks_fit program.schema (current program s next) block catcher.tasks caught.copy.work.opened l) (sym saved) caught.fits))
      (λ none. omega (arith, ap (λ o. weight_of catcher.tasks o) opened, caught.light, quick none))
    where
      within : caught.above < length t.saved
      within = omega (arith, sym (length-drop caught.above t.saved) ∙ ap length caught.is)

      is : standing_saved ((standing_of t catcher) + 1) t.saved ≡ caught.copy ∷ caught.others
      is = ap (λ m. drop m t.saved) (copies-behind (length t.saved) caught.above catcher.dropped caught.dropped_is within) ∙ caught.is

      opened : (copied_work (saved_above (standing_of t catcher) t.saved) t.work).opened ≡ caught.copy.work.opened
      opened = returned-opened (standing_of t catcher) t.saved t.work caught.copy caught.others is

      saved : left_after (standing_saved ((standing_of t catcher) + 1) t.saved) ≡ caught.others
      saved = ap left_after is ∙ left-block caught.copy.mark caught.copy caught.others caught.height caught.of_block

  -- the latest savepoint's copy, or nothing
  pub put-moved : Apt program.schema (Some t) → (counted ≡ false → 0 < weight) → (left : Block_state) → ((after : Option Transaction) → Block_fits left after []) → (code : Code) (lines : List ReplyLine) (place : Option ℕ) →
      ((standing : ℕ) → place ≡ Some standing → Savepoint_at standing t.saved) → (world : World) →
      Left (after program s (Fails_with code ∷ put_back code place ∷ Becomes left ∷ Replies lines ∷ []) world (now n next block t tasks))
  unfolding effect
  put-moved apt positive left fits code lines None found world =
      record { next_is = refl; goes_on = refl; steps = tt; stands = record { tasks = refl; block = fits None; apt = tt }; lighter = positive }
  put-moved apt positive left fits code lines (Some standing) found world =
      let at : Savepoint_at standing t.saved = found standing refl in
      record {
        next_is = refl;
        goes_on = refl;
        steps = refl;
        stands = record {
          tasks = (
            returned-opened standing t.saved t.work at.copy at.others at.is ∙ at.opened_is,
            subst Savepoints_fit (sym (returned-to-savepoint standing t.saved at)) (at.named, (at.opened_is, at.rest)),
          );
          block = fits (Some (returned standing (record t { steps = n })));
          apt = effects-apt program s (Fails_with code ∷ Returns standing code [] ∷ Becomes left ∷ Replies lines ∷ []) (record { world = world; me = now n next block t tasks }) (tt, (tt, (tt, (tt, tt)))) apt;
        };
        lighter = positive;
      }

pub uncaught-moved : (program : Program) (s : ℕ) (counted : Bool) (n next : ℕ) (block : Block_state) (t : Transaction) (weight : ℕ) (tasks : List Task) →
    Is_alive block → Apt program.schema (Some t) → (counted ≡ false → 0 < weight) → ((standing : ℕ) → latest_named t.saved ≡ Some standing → Savepoint_at standing t.saved) → (fault : Fault) (world : World) →
    Moved program s counted n next weight (after program s (on_catcher (now n next block t tasks) fault None) world (now n next block t tasks))
uncaught-moved program s counted n next Idle t weight tasks alive apt positive found fault world =
    put-moved program s counted n next Idle t weight tasks apt positive Idle (λ after. tt) fault.told.code (fault.warnings ++ error_lines fault.told) (latest_named t.saved) found world
uncaught-moved program s counted n next Open t weight tasks alive apt positive found fault world =
    put-moved program s counted n next Open t weight tasks apt positive Failed (λ after. refl) fault.told.code (fault.warnings ++ error_lines fault.told) (latest_named t.saved) found world
uncaught-moved program s counted n next Failed t weight tasks alive apt positive found fault world = absurd alive

where-is : (b : Bool) (found : Option Catcher) (catcher : Catcher) → where_caught b found ≡ Some catcher → found ≡ Some catcher
where-is true found catcher is = is
where-is false found catcher is = absurd (none-some catcher is)

module _ (program : Program) (s : ℕ) (counted : Bool) (n next : ℕ) (block : Block_state) (t : Transaction) (weight : ℕ) (tasks : List Task)
    (alive : Is_alive block) (apt : Apt program.schema (Some t)) (fit : Tasks_fit program.schema (current program s next) block tasks t.work.opened t.saved)
    (quick : counted ≡ false → under tasks t.work.opened < weight) (fault : Fault) where
  catcher-moved : (world : World) (catcher : Option Catcher) → catcher_of program.schema fault tasks ≡ catcher →
      Moved program s counted n next weight (after program s (on_catcher (now n next block t tasks) fault catcher) world (now n next block t tasks))
  catcher-moved world (Some catcher) is =
      caught-moved program s counted n next block t weight tasks alive apt quick catcher
      (catches program.schema (current program s next) block fault.told.code.0 t.saved catcher 0 tasks t.work.opened fit
      (where-is fault.can_be_caught (catcher_from program.schema fault.told.code.0 0 tasks) catcher is))
      fault.told.code world
  catcher-moved world None is =
      uncaught-moved program s counted n next block t weight tasks alive apt (λ none. omega (arith, quick none))
      (λ standing named. latest-fits program.schema (current program s next) block tasks t.work.opened t.saved standing fit named) fault world

  found-moved : (world : World) (finding : Option Finding) →
      Moved program s counted n next weight (after program s (finding_effects finding ++ on_catcher (now n next block t tasks) fault (catcher_of program.schema fault tasks)) world (now n next block t tasks))
  unfolding effect
  found-moved world None = catcher-moved world (catcher_of program.schema fault tasks) refl
  found-moved world (Some finding) = catcher-moved (effect program s (Tells finding) (record { world = world; me = now n next block t tasks })).world (catcher_of program.schema fault tasks) refl

  pub error-moved : (world : World) → Moved program s counted n next weight (after program s (error_effects program.schema (now n next block t tasks) fault) world (now n next block t tasks))
  unfolding error_effects
  error-moved world = found-moved world fault.finding
