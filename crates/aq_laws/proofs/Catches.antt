-- An error is caught by a block whose copy fits the tasks that it leaves, or the latest savepoint's copy is put back, or the transaction is dropped.
use Rattle.std.proofs.Common.{◌≡◌, ◌<◌, ◌≤◌, ℕ, List, [], ◌∷◌, Option, Some, None, refl, sym, ◌∙◌, ap, subst, arith, drop-drop, length-drop}
use Rattle.std.specs.Prelude.{◌+◌, ◌-◌, zero, suc, length, drop, slice_get}
use Rattle.std.proofs.lemmas.Option.{same_Some, none-some}
use Rattle.aq_base.specs.Names.{Text}
use Rattle.aq_base.specs.Codes.{Code as Body_code}
use Rattle.aq_base.specs.Events.{Event}
use Rattle.aq_base.specs.Frames.{Frame, handler_for, caught_in}
use Rattle.aq_base.specs.Works.{Work, Opened, Saved, Mark}
use Rattle.aq_base.specs.Works.Mark.{Named, Block}
use Rattle.aq_outcomes.specs.Schemas.{Schema, code_at}
use Rattle.aq_run.specs.Programs.{Prepared}
use Rattle.aq_run.specs.States.{Task, Block_state}
use Rattle.aq_run.specs.States.Task.{Changing, Locking, Rounds, Settling, Committing, Acting, Rechecking, Running}
use Rattle.aq_run.specs.Effects.{latest_saved, saved_above, standing_saved, left_after, copied_work}
use Rattle.aq_run.specs.Errors.{Catcher, frame_of, catcher_from, latest_named}
use Rattle.aq_run.specs.Measure.{weight_of}
use Rattle.aq_laws.specs.Stacks.{height_in, Blocks_fit, Savepoints_fit, Tasks_fit}
use Rattle.aq_laws.proofs.Moves.{under, under-most}

-- ---- the open blocks that a frame leaves

-- so many blocks and one more are left
pub record Leaves (blocks outer : List ℕ) : Type 0 where
  pub count : ℕ
  pub within : count < length blocks
  pub is : outer ≡ drop (suc count) blocks

abbrev caught_by : ℕ → List ℕ → Body_code → Text → Option ℕ → Option Frame
caught_by block outer code error handler =
    elim handler [
      | Some distance ↦ Some (record { place = block + distance; blocks = outer })
      | None ↦ caught_in code error outer
    ]

by-handler : (block : ℕ) (outer : List ℕ) (code : Body_code) (error : Text) (caught : Frame) (handler : Option ℕ) →
    caught_by block outer code error handler ≡ Some caught →
    (caught_in code error outer ≡ Some caught → Leaves outer caught.blocks) → Leaves (block ∷ outer) caught.blocks
by-handler block outer code error caught (Some distance) is rest =
    record { count = 0; within = omega arith; is = sym (ap (λ f. f.blocks) (same_Some (record { place = block + distance; blocks = outer }) caught is)) }
by-handler block outer code error caught None is rest =
    let left : Leaves outer caught.blocks = rest is in
    record { count = suc left.count; within = omega (arith, left.within); is = left.is }

caught-leaves : (code : Body_code) (error : Text) (blocks : List ℕ) (caught : Frame) → caught_in code error blocks ≡ Some caught → Leaves blocks caught.blocks
caught-leaves code error [] caught is = absurd (none-some caught is)
caught-leaves code error (block ∷ outer) caught is =
    by-handler block outer code error caught (handler_for error (slice_get code block)) is (λ e. caught-leaves code error outer caught e)

-- ---- copies of blocks

-- the copy behind so many others of a body's blocks, and the rest of them behind it
pub record Copy_at (k rest height : ℕ) (opened : List Opened) (saved : List Saved) : Type 0 where
  pub copy : Saved
  pub others : List Saved
  pub is : drop k saved ≡ copy ∷ others
  pub of_block : height_in copy.mark ≡ Some height
  pub opened_is : copy.work.opened ≡ opened
  pub blocks : Blocks_fit rest height opened others

pub blocks-at : (n k rest height : ℕ) (opened : List Opened) (saved : List Saved) → n ≡ k + suc rest → Blocks_fit n height opened saved → Copy_at k rest height opened saved
blocks-at zero k rest height opened saved all fit = absurd (omega (arith, all))
blocks-at (suc n) k rest height opened [] all fit = absurd fit
blocks-at (suc n) zero rest height opened (copy ∷ others) all fit =
    let behind : n ≡ rest = omega (arith, all) in
    record { copy = copy; others = others; is = refl; of_block = fit.0; opened_is = fit.1.0; blocks = subst (λ m. Blocks_fit m height opened others) behind fit.1.1 }
blocks-at (suc n) (suc k) rest height opened (copy ∷ others) all fit =
    let found : Copy_at k rest height opened others = blocks-at n k rest height opened others (omega (arith, all)) fit.1.1 in
    record { copy = found.copy; others = found.others; is = found.is; of_block = found.of_block; opened_is = found.opened_is; blocks = found.blocks }

pub blocks-length : (n height : ℕ) (opened : List Opened) (saved : List Saved) → Blocks_fit n height opened saved → n ≤ length saved
blocks-length zero height opened saved fit = omega arith
blocks-length (suc n) height opened [] fit = absurd fit
blocks-length (suc n) height opened (copy ∷ others) fit = omega (arith, blocks-length n height opened others fit.1.1)

-- those that are left when some have gone
pub blocks-left : (n k rest height : ℕ) (opened : List Opened) (saved : List Saved) → n ≡ k + rest → Blocks_fit n height opened saved → Blocks_fit rest height opened (drop k saved)
blocks-left n zero rest height opened saved all fit = let behind : n ≡ rest = omega (arith, all) in subst (λ m. Blocks_fit m height opened saved) behind fit
blocks-left zero (suc k) rest height opened saved all fit = absurd (omega (arith, all))
blocks-left (suc n) (suc k) rest height opened [] all fit = absurd fit
blocks-left (suc n) (suc k) rest height opened (copy ∷ others) all fit = blocks-left n k rest height opened others (omega (arith, all)) fit.1.1

abbrev left_by : Mark → Saved → List Saved → List Saved
left_by mark copy others = elim mark [ Named name ↦ copy ∷ others | Block number height ↦ others ]

abbrev latest_by : Mark → List Saved → Option ℕ
latest_by mark others = elim mark [ Named name ↦ Some (length others) | Block number height ↦ latest_named others ]

pub left-block : (mark : Mark) (copy : Saved) (others : List Saved) (height : ℕ) → height_in mark ≡ Some height →
    left_by mark copy others ≡ others
left-block (Named name) copy others height is = absurd (none-some height is)
left-block (Block number it) copy others height is = refl

left-named : (mark : Mark) (copy : Saved) (others : List Saved) → height_in mark ≡ None → left_by mark copy others ≡ copy ∷ others
left-named (Named name) copy others is = refl
left-named (Block number height) copy others is = absurd (none-some height (sym is))

-- ---- the block that catches

-- its copy, behind those of the blocks in it, fits the tasks that are left
pub record Caught (schema : Schema) (statement : Option Prepared) (block : Block_state) (whole : List Saved) (weight : ℕ) (catcher : Catcher) : Type 0 where
  pub above : ℕ
  pub dropped_is : catcher.dropped ≡ suc above
  pub copy : Saved
  pub others : List Saved
  pub is : drop above whole ≡ copy ∷ others
  pub height : ℕ
  pub of_block : height_in copy.mark ≡ Some height
  pub fits : Tasks_fit schema statement block catcher.tasks copy.work.opened others
  pub light : weight_of catcher.tasks copy.work.opened ≤ weight

module _ (schema : Schema) (statement : Option Prepared) (block : Block_state) (error : Text) (whole : List Saved) (catcher : Catcher) where
  heavier : (w w' : ℕ) → w ≤ w' → Caught schema statement block whole w catcher → Caught schema statement block whole w' catcher
  heavier w w' more caught =
      record {
        above = caught.above;
        dropped_is = caught.dropped_is;
        copy = caught.copy;
        others = caught.others;
        is = caught.is;
        height = caught.height;
        of_block = caught.of_block;
        fits = caught.fits;
        light = omega (arith, caught.light, more);
      }

  abbrev Fit : List Task → List Opened → List Saved → Type 0
  Fit tasks opened saved = Tasks_fit schema statement block tasks opened saved

  -- the body on top catches it, in the block behind so many others of its own
  here : (event : Event) (frame : Frame) (below : List Task) (opened : List Opened) (above : ℕ) (caught : Frame) → Fit (Running event frame ∷ below) opened (drop above whole) →
      Leaves frame.blocks caught.blocks → frame_of event frame below above caught ≡ catcher → Caught schema statement block whole (1 + weight_of below opened) catcher
  here event frame below opened above caught fit left is =
      subst (λ c. Caught schema statement block whole (1 + weight_of below opened) c) is (found (length frame.blocks - suc left.count) (omega (arith, left.within)))
    where
      found : (rest : ℕ) → length frame.blocks ≡ left.count + suc rest → Caught schema statement block whole (1 + weight_of below opened) (frame_of event frame below above caught)
      found rest all =
          let at : Copy_at left.count rest (suc (length below)) opened (drop above whole) =
          blocks-at (length frame.blocks) left.count rest (suc (length below)) opened (drop above whole) all fit.1.1.0 in
          let outer : length caught.blocks ≡ rest = ap length left.is ∙ length-drop (suc left.count) frame.blocks ∙ omega (arith, all) in
          let behind : drop (length caught.blocks) at.others ≡ drop (length frame.blocks) (drop above whole) =
          ap (λ m. drop m at.others) outer ∙ ap (λ l. drop rest (drop 1 l)) (sym at.is) ∙ drop-drop rest 1 (drop left.count (drop above whole))
          ∙ drop-drop (1 + rest) left.count (drop above whole) ∙ ap (λ m. drop m (drop above whole)) (omega (arith, all)) in
          record {
            above = above + left.count;
            dropped_is = omega (arith, all, outer);
            copy = at.copy;
            others = at.others;
            is = sym (drop-drop left.count above whole) ∙ at.is;
            height = suc (length below);
            of_block = at.of_block;
            fits = subst (λ o. Fit (Running event caught ∷ below) o at.others) (sym at.opened_is)
                (fit.0, (fit.1.0, (subst (λ m. Blocks_fit m (suc (length below)) opened at.others) (sym outer) at.blocks, subst (λ saved. Fit below opened saved) (sym behind) fit.1.1.1)));
            light = omega (arith, ap (λ o. weight_of below o) at.opened_is);
          }

  abbrev catcher_by : Event → Frame → List Task → ℕ → Option Frame → Option Catcher
  catcher_by event frame below above caught =
      elim caught [
        | Some frame' ↦ Some (frame_of event frame below above frame')
        | None ↦ catcher_from schema error (above + length frame.blocks) below
      ]

  by-body : (event : Event) (frame : Frame) (below : List Task) (opened : List Opened) (above : ℕ) → Fit (Running event frame ∷ below) opened (drop above whole) →
      (caught : Option Frame) → caught_in (code_at schema event.trigger) error frame.blocks ≡ caught →
      catcher_by event frame below above caught ≡ Some catcher →
      (catcher_from schema error (above + length frame.blocks) below ≡ Some catcher → Caught schema statement block whole (weight_of below opened) catcher) →
      Caught schema statement block whole (1 + weight_of below opened) catcher
  by-body event frame below opened above fit (Some caught) found is rest =
      here event frame below opened above caught fit (caught-leaves (code_at schema event.trigger) error frame.blocks caught found) (same_Some (frame_of event frame below above caught) catcher is)
  by-body event frame below opened above fit None found is rest = heavier (weight_of below opened) (1 + weight_of below opened) (omega arith) (rest is)

  nothing-below : (above : ℕ) (below : List Task) (w : ℕ) → below ≡ [] → catcher_from schema error above below ≡ Some catcher → Caught schema statement block whole w catcher
  nothing-below above [] w none is = absurd (none-some catcher is)
  nothing-below above (task ∷ below) w none is = absurd (cc)

  -- what is left of the tasks, without the one on top unless it is a body
  pub catches : (above : ℕ) (tasks : List Task) (opened : List Opened) → Fit tasks opened (drop above whole) → catcher_from schema error above tasks ≡ Some catcher →
      Caught schema statement block whole (under tasks opened) catcher
  catches above [] opened fit is = absurd (none-some catcher is)
  catches above (Changing place left done ∷ below) [] fit is = absurd fit
  catches above (Changing place left done ∷ below) (top ∷ rest) fit is = heavier (under below rest) (weight_of below rest) (under-most below rest) (catches above below rest fit.1.1.1 is)
  catches above (Locking left shown ∷ below) opened fit is = nothing-below above below (weight_of below opened) fit.0 is
  catches above (Rounds place done ∷ below) [] fit is = absurd fit
  catches above (Rounds place done ∷ below) (top ∷ rest) fit is = heavier (under below rest) (weight_of below rest) (under-most below rest) (catches above below rest fit.1.1 is)
  catches above (Settling place ∷ below) [] fit is = absurd fit
  catches above (Settling place ∷ below) (top ∷ rest) fit is = heavier (under below rest) (weight_of below rest) (under-most below rest) (catches above below rest fit.1.1 is)
  catches above (Committing changed ∷ below) [] fit is = absurd fit
  catches above (Committing changed ∷ below) (top ∷ rest) fit is = nothing-below above below (weight_of below rest) fit.1.0 is
  catches above (Acting left done ∷ below) opened fit is = heavier (under below opened) (weight_of below opened) (under-most below opened) (catches above below opened fit.1.1 is)
  catches above (Rechecking done ∷ below) opened fit is = heavier (under below opened) (weight_of below opened) (under-most below opened) (catches above below opened fit.1.1 is)
  catches above (Running event frame ∷ below) opened fit is =
      by-body event frame below opened above fit (caught_in (code_at schema event.trigger) error frame.blocks) refl is
      (λ further.
      heavier (under below opened) (weight_of below opened) (under-most below opened)
      (catches (above + length frame.blocks) below opened (subst (λ saved. Fit below opened saved) (drop-drop (length frame.blocks) above whole) fit.1.1.1) further))

-- ---- the latest savepoint

-- the copy is that of a savepoint, made while nothing was in progress
pub record Savepoint_at (standing : ℕ) (saved : List Saved) : Type 0 where
  pub within : standing + 1 ≤ length saved
  pub copy : Saved
  pub others : List Saved
  pub is : drop (length saved - (standing + 1)) saved ≡ copy ∷ others
  pub named : height_in copy.mark ≡ None
  pub opened_is : copy.work.opened ≡ []
  pub rest : Savepoints_fit others

pub one-more : (standing : ℕ) (copy : Saved) (others : List Saved) → Savepoint_at standing others → Savepoint_at standing (copy ∷ others)
one-more standing copy others at =
    record {
      within = omega (arith, at.within);
      copy = at.copy;
      others = at.others;
      is = ap (λ m. drop m (copy ∷ others)) (behind (length others) at.within) ∙ at.is;
      named = at.named;
      opened_is = at.opened_is;
      rest = at.rest;
    }
  where
    behind : (all : ℕ) → standing + 1 ≤ all → suc all - (standing + 1) ≡ suc (all - (standing + 1))
    behind all within = omega (arith, within)

pub the-latest : (copy : Saved) (others : List Saved) → height_in copy.mark ≡ None → copy.work.opened ≡ [] → Savepoints_fit others → Savepoint_at (length others) (copy ∷ others)
the-latest copy others named opened rest =
    record {
      within = omega arith;
      copy = copy;
      others = others;
      is = ap (λ m. drop m (copy ∷ others)) (none_behind (length others));
      named = named;
      opened_is = opened;
      rest = rest;
    }
  where
    none_behind : (all : ℕ) → suc all - (all + 1) ≡ 0
    none_behind all = omega arith

by-mark : (mark : Mark) (standing : ℕ) (copy : Saved) (others : List Saved) → copy.mark ≡ mark → height_in mark ≡ None → copy.work.opened ≡ [] → Savepoints_fit others →
    latest_by mark others ≡ Some standing → Savepoint_at standing (copy ∷ others)
by-mark (Named name) standing copy others mark named opened rest is =
    subst (λ m. Savepoint_at m (copy ∷ others)) (same_Some (length others) standing is) (the-latest copy others (ap height_in mark) opened rest)
by-mark (Block number height) standing copy others mark named opened rest is = absurd (none-some height (sym named))

pub savepoints-latest : (saved : List Saved) (standing : ℕ) → Savepoints_fit saved → latest_named saved ≡ Some standing → Savepoint_at standing saved
savepoints-latest [] standing fit is = absurd (none-some standing is)
savepoints-latest (copy ∷ others) standing fit is = by-mark copy.mark standing copy others refl fit.0 fit.1.0 fit.1.1 is

not-named : (mark : Mark) (others : List Saved) (height : ℕ) → height_in mark ≡ Some height →
    latest_by mark others ≡ latest_named others
not-named (Named name) others height is = absurd (none-some height is)
not-named (Block number it) others height is = refl

-- the copies of a body's blocks are passed over
behind-blocks : (n height : ℕ) (opened : List Opened) (saved : List Saved) (standing : ℕ) → Blocks_fit n height opened saved →
    (latest_named (drop n saved) ≡ Some standing → Savepoint_at standing (drop n saved)) → latest_named saved ≡ Some standing → Savepoint_at standing saved
behind-blocks zero height opened saved standing fit rest is = rest is
behind-blocks (suc n) height opened [] standing fit rest is = absurd fit
behind-blocks (suc n) height opened (copy ∷ others) standing fit rest is =
    one-more standing copy others
    (behind-blocks n height opened others standing fit.1.1 rest (sym (not-named copy.mark others height fit.0) ∙ is))

none-latest : (saved : List Saved) (standing : ℕ) → saved ≡ [] → latest_named saved ≡ Some standing → Savepoint_at standing saved
none-latest [] standing none is = absurd (none-some standing is)
none-latest (copy ∷ others) standing none is = absurd (cc)

pub latest-fits : (schema : Schema) (statement : Option Prepared) (block : Block_state) (tasks : List Task) (opened : List Opened) (saved : List Saved) (standing : ℕ) →
    Tasks_fit schema statement block tasks opened saved → latest_named saved ≡ Some standing → Savepoint_at standing saved
latest-fits schema statement block [] opened saved standing fit is = savepoints-latest saved standing fit.1 is
latest-fits schema statement block (Changing place left done ∷ below) [] saved standing fit is = absurd fit
latest-fits schema statement block (Changing place left done ∷ below) (top ∷ rest) saved standing fit is = latest-fits schema statement block below rest saved standing fit.1.1.1 is
latest-fits schema statement block (Locking left shown ∷ below) opened saved standing fit is = savepoints-latest saved standing fit.1.1.1 is
latest-fits schema statement block (Rounds place done ∷ below) [] saved standing fit is = absurd fit
latest-fits schema statement block (Rounds place done ∷ below) (top ∷ rest) saved standing fit is = latest-fits schema statement block below rest saved standing fit.1.1 is
latest-fits schema statement block (Settling place ∷ below) [] saved standing fit is = absurd fit
latest-fits schema statement block (Settling place ∷ below) (top ∷ rest) saved standing fit is = latest-fits schema statement block below rest saved standing fit.1.1 is
latest-fits schema statement block (Committing changed ∷ below) [] saved standing fit is = absurd fit
latest-fits schema statement block (Committing changed ∷ below) (top ∷ rest) saved standing fit is = none-latest saved standing fit.1.1.1.0 is
latest-fits schema statement block (Acting left done ∷ below) opened saved standing fit is = latest-fits schema statement block below opened saved standing fit.1.1 is
latest-fits schema statement block (Rechecking done ∷ below) opened saved standing fit is = latest-fits schema statement block below opened saved standing fit.1.1 is
latest-fits schema statement block (Running event frame ∷ below) opened saved standing fit is =
    behind-blocks (length frame.blocks) (suc (length below)) opened saved standing fit.1.1.0
    (λ further. latest-fits schema statement block below opened (drop (length frame.blocks) saved) standing fit.1.1.1 further) is

-- ---- a return

pub returned-opened : (standing : ℕ) (saved : List Saved) (work : Work) (copy : Saved) (others : List Saved) → standing_saved (standing + 1) saved ≡ copy ∷ others →
    (copied_work (saved_above standing saved) work).opened ≡ copy.work.opened
returned-opened standing saved work copy others is = ap (λ l. (copied_work (latest_saved l) work).opened) is

pub returned-to-savepoint : (standing : ℕ) (saved : List Saved) (at : Savepoint_at standing saved) → left_after (standing_saved (standing + 1) saved) ≡ at.copy ∷ at.others
returned-to-savepoint standing saved at = ap left_after at.is ∙ left-named at.copy.mark at.copy at.others at.named
