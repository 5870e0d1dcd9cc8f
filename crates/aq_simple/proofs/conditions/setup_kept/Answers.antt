use Rattle.std.proofs.Common.{◌≡◌, ◌+◌, Bool, true, false, ◌&&◌, length, take, drop, Some, refl, sym, ap, ◌∙◌}
use Rattle.std.specs.List.{slice_get}
use Rattle.std.proofs.lemmas.Bool.{and_left}
use Rattle.std.proofs.lemmas.Option.{slice_get_read}
use Rattle.aq_simple.specs.Conditions.{definition_kept, setup_kept}
use Rattle.aq_simple.proofs.Kept.{setup_step, setup_ends}
use Rattle.aq_simple.proofs.conditions.setup_kept.Goals as goal

pub returns-then-not-definition_kept : goal.returns-then-not-definition_kept
returns-then-not-definition_kept c =
    let setup = c.args.setup.now in
    let placed = c.index-setup-at.result in
    let here : slice_get setup c.setup.at ≡ Some placed = slice_get_read setup (length setup) c.setup.at placed refl c.setup-test.true c.index-setup-at.is in
    let refused : definition_kept (take c.setup.at setup) placed.statement ≡ false = sym c.definition_kept.ensures ∙ c.if-not-definition_kept.true in
    sym (sym c.setup.invariant ∙ (setup_step setup c.setup.at placed here ∙ and_left _ _ refused))

pub setup-preserved : goal.setup-preserved
setup-preserved c =
    let setup = c.args.setup.now in
    let placed = c.index-setup-at.result in
    let here : slice_get setup c.setup.at ≡ Some placed = slice_get_read setup (length setup) c.setup.at placed refl c.setup-test.true c.index-setup-at.is in
    let kept : definition_kept (take c.setup.at setup) placed.statement ≡ true = sym c.definition_kept.ensures ∙ c.if-not-definition_kept.false in
    let rest : Bool = setup_kept (take (c.setup.at + 1) setup) (drop (c.setup.at + 1) setup) in
    sym (setup_step setup c.setup.at placed here ∙ ap (λ (b : Bool). b && rest) kept) ∙ c.setup.invariant

pub returns : goal.returns
returns c = sym (setup_ends c.args.setup.now c.setup.at c.setup-test.false) ∙ c.setup.invariant
