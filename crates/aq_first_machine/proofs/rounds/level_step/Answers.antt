use Rattle.std.proofs.Common.{◌≡◌, [], true, false, refl, ap, sym, ◌∙◌, rules, arith}
use Rattle.std.proofs.lemmas.Grind.{common_steps}
use Rattle.std.proofs.lemmas.List.{nil_from_length}
use Rattle.std.specs.List.{list_any}
use Rattle.aq_first_outcomes.specs.Rows.{is_immediate}
use Rattle.aq_first_run.specs.States.Task.{Rounds}
use Rattle.aq_first_machine.specs.Shown.{Held, answer_shown, in_level}
use Rattle.aq_first_machine.proofs.Firings.{level-fires, level-refused, level-closes, level-takes}
use Rattle.aq_first_machine.proofs.rounds.level_step.Goals as goal

pub returns-in-None-clause-ok : goal.returns-in-None-clause-ok
returns-in-None-clause-ok c =
    let some_inside : c.work.inside.round.items ≡ [] → ⊥ = search rules in
    let some : c.args.work.now.round ≡ [] → ⊥ = λ none. some_inside (ap (λ (h : Held). h.round) c.work.view_is ∙ none) in
    let fires = rw c.in-None.is at c.in_ok-fire.ensures.ok in
    (level-fires c.args.catalog.now c.args.world.now c.args.work.now c.fire.new.work (answer_shown c.args.answer) some fires, rw c.in_ok-fire.ensures.writes c.requires, λ x. x)

pub returns-in-Some-clause-ok : goal.returns-in-Some-clause-ok
returns-in-Some-clause-ok c =
    let some_inside : c.work.inside.round.items ≡ [] → ⊥ = search rules in
    let some : c.args.work.now.round ≡ [] → ⊥ = λ none. some_inside (ap (λ (h : Held). h.round) c.work.view_is ∙ none) in
    let fires = rw c.in-Some.is at c.in_ok-fire.ensures.ok in
    let both = level-refused c.args.catalog.now c.args.world.now c.args.work.now c.fire.new.work (answer_shown c.args.answer) c.in-Some.fault some fires in
    (refl, ap (λ (h : Held). in_level h (Rounds (answer_shown c.args.answer))) both.0, both.1)

pub returns-then-not-has_immediate-clause-ok : goal.returns-then-not-has_immediate-clause-ok
returns-then-not-has_immediate-clause-ok c =
    let none_inside : c.work.inside.round.items ≡ [] = nil_from_length c.work.inside.round.items (grind (arith, common_steps)) in
    let none : c.args.work.now.round ≡ [] = sym (ap (λ (h : Held). h.round) c.work.view_is) ∙ none_inside in
    let later_inside : list_any (is_immediate c.args.catalog.now) c.work.inside.queued.items ≡ false = search rules in
    let later : list_any (is_immediate c.args.catalog.now) c.args.work.now.queued ≡ false = sym (ap (λ (h : Held). list_any (is_immediate c.args.catalog.now) h.queued) c.work.view_is) ∙ later_inside in
    (refl, refl, (c.args.work.now, refl), λ me. level-closes c.args.catalog.now c.args.world.now c.args.work.now (answer_shown c.args.answer) none later me)

pub returns-clause-ok : goal.returns-clause-ok
returns-clause-ok c =
    let none_inside : c.work.inside.round.items ≡ [] = nil_from_length c.work.inside.round.items (grind (arith, common_steps)) in
    let none : c.args.work.now.round ≡ [] = sym (ap (λ (h : Held). h.round) c.work.view_is) ∙ none_inside in
    let some_inside : list_any (is_immediate c.args.catalog.now) c.work.inside.queued.items ≡ true = search rules in
    let some : list_any (is_immediate c.args.catalog.now) c.args.work.now.queued ≡ true = sym (ap (λ (h : Held). list_any (is_immediate c.args.catalog.now) h.queued) c.work.view_is) ∙ some_inside in
    (level-takes c.args.catalog.now c.args.world.now c.args.work.now c.take_round.new.work (answer_shown c.args.answer) none some c.in_ok-take_round.ensures.ok, rw c.in_ok-take_round.ensures.ok c.requires, λ x. x)
