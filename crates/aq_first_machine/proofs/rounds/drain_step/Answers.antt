use Rattle.std.proofs.Common.{◌≡◌, [], map, refl, ap, subst, ◌∙◌, rules, arith}
use Rattle.std.proofs.lemmas.Grind.{common_steps}
use Rattle.std.proofs.lemmas.List.{nil_from_length}
use Rattle.aq_first_run.specs.States.Task.{Committing}
use Rattle.aq_first_machine.specs.Versions.{write_entry}
use Rattle.aq_first_machine.specs.Shown.{Held, answer_shown, in_drain}
use Rattle.aq_first_machine.specs.Advances.{GoesFurther}
use Rattle.aq_first_machine.proofs.Firings.{drain-fires, drain-refused, drain-takes}
use Rattle.aq_first_machine.proofs.rounds.drain_step.Goals as goal

pub returns-in-None-clause-ok : goal.returns-in-None-clause-ok
returns-in-None-clause-ok c =
    let some_inside : c.work.inside.round.items ≡ [] → ⊥ = search rules in
    let some : c.args.work.now.round ≡ [] → ⊥ = λ none. some_inside (ap (λ (h : Held). h.round) c.work.view_is ∙ none) in
    let fires = rw c.in-None.is at c.in_ok-fire.ensures.ok in
    (drain-fires c.args.catalog.now c.args.world.now c.args.work.now c.fire.new.work (answer_shown c.args.answer) some fires, rw c.in_ok-fire.ensures.writes c.requires, λ x. x)

pub returns-in-Some-clause-ok : goal.returns-in-Some-clause-ok
returns-in-Some-clause-ok c =
    let some_inside : c.work.inside.round.items ≡ [] → ⊥ = search rules in
    let some : c.args.work.now.round ≡ [] → ⊥ = λ none. some_inside (ap (λ (h : Held). h.round) c.work.view_is ∙ none) in
    let fires = rw c.in-Some.is at c.in_ok-fire.ensures.ok in
    let both = drain-refused c.args.catalog.now c.args.world.now c.args.work.now c.fire.new.work (answer_shown c.args.answer) c.in-Some.fault some fires in
    (refl, ap (λ (h : Held). in_drain h (Committing (answer_shown c.args.answer))) both.0, both.1)

pub returns-clause-ok : goal.returns-clause-ok
returns-clause-ok c =
    let answer = answer_shown c.args.answer in
    let before : Held = record { writes = map write_entry c.work.inside.writes.items; deferred = c.work.inside.deferred.items; queued = c.work.inside.queued.items; round = c.work.inside.round.items } in
    let after : Held = record before { deferred = before.round; round = before.deferred } in
    let none : c.work.inside.round.items ≡ [] = nil_from_length c.work.inside.round.items (grind (arith, common_steps)) in
    let some : c.work.inside.deferred.items ≡ [] → ⊥ = search rules in
    let P : Held → Type 0 = λ h. GoesFurther c.args.catalog.now c.args.world.now (in_drain h (Committing answer)) c.args.world.now (in_drain after (Committing answer)) in
    rw (c.swap.ensures.x_after, c.swap.ensures.y_after)
    (subst P c.work.view_is (drain-takes c.args.catalog.now c.args.world.now before after answer none some refl), (let order = rw (← c.work.view_is) at c.requires in order), λ x. x)
