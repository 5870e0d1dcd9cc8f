use Rattle.std.proofs.Common.{◌≡◌, true, false, [], ◌∷◌, ◌++◌, map, ap, ◌∙◌, subst}
use Rattle.std.specs.List.{list_any}
use Rattle.aq_base.specs.Names.{Text, same_text}
use Rattle.aq_setup.specs.Constraints.{NamedConstraint}
use Rattle.aq_refusals.specs.Faults.{constraint_exists}
use Rattle.aq_setup.specs.Scopes.{repeats_behind}
use Rattle.aq_refusals.specs.Answers.{IsFault}
use Rattle.aq_additions.proofs.Repeats.{first_again}
use Rattle.aq_tables.proofs.NamedTwice.{named_again, named_anew, grown_more}
use Rattle.aq_tables.proofs.added.constraints_exist.Goals as goal

abbrev name_of : NamedConstraint → Text
name_of n = n.name

pub returns-then-has : goal.returns-then-has
returns-then-has c =
    let x = c.n-item.result in
    let same : c.n.inside.name ≡ x.name = ap name_of c.n.view_is in
    let found : list_any (same_text x.name) c.loop-n.taken ≡ true = cc in
    let again = named_again name_of c.args.taken c.loop-n.taken c.args.all.now c.loop-n.n-index x c.loop-n-test.true c.n-item.is c.loop-n.invariant.0 c.loop-n.invariant.1 found in
    let told : IsFault (constraint_exists c.args.table.now x.name ∷ []) c.constraint_exists.result =
    subst (λ (name : Text). IsFault (constraint_exists c.args.table.now name ∷ []) c.constraint_exists.result) same c.constraint_exists.ensures in
    (tt, first_again (constraint_exists c.args.table.now) (repeats_behind c.args.taken (map name_of c.args.all.now)) x.name c.constraint_exists.result again told)

pub loop-n-preserved : goal.loop-n-preserved
loop-n-preserved c =
    let x = c.n-item.result in
    let same : c.n.inside.name ≡ x.name = ap name_of c.n.view_is in
    let found : list_any (same_text x.name) c.loop-n.taken ≡ false = cc in
    let more : c.add.new.self ≡ c.loop-n.taken ++ x.name ∷ [] = cc (c.in_ok-add.ensures.ok, same) in (
      more ∙ grown_more name_of c.args.taken c.loop-n.taken c.args.all.now c.loop-n.n-index x c.loop-n-test.true c.n-item.is c.loop-n.invariant.0,
      named_anew name_of c.args.taken c.loop-n.taken c.args.all.now c.loop-n.n-index x c.loop-n-test.true c.n-item.is c.loop-n.invariant.0 c.loop-n.invariant.1 found,
    )
