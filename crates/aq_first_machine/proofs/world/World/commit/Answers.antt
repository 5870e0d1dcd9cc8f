use Rattle.std.proofs.Common.{◌≡◌, ◌+◌, ◌++◌, ◌∷◌, [], length, map, rules, arith, refl}
use Rattle.std.proofs.lemmas.Grind.{common_steps}
use Rattle.std.proofs.lemmas.List.{map-append}
use Rattle.aq_first_base.specs.Writes.{overlay}
use Rattle.aq_first_run.specs.States.{last_of}
use Rattle.aq_first_machine.specs.Givens.{given_shown}
use Rattle.aq_first_machine.specs.Versions.{write_entry, databases, with_deletion, versions_made}
use Rattle.aq_first_machine.proofs.Commits.{committed-all, committed-history}
use Rattle.aq_first_machine.proofs.world.World.commit.Goals as goal

pub invariant_of-self-2 : goal.invariant_of-self-2
invariant_of-self-2 c =
    let next : c.in_ok-commit.commit ≡ c.self.inside.commits + 1 = grind (arith, common_steps) in
    let all : c.append_versions.new.versions.items ≡ map (with_deletion c.in_ok-commit.commit (map write_entry c.args.writes.now.items)) c.self.inside.versions.items ++ versions_made c.in_ok-commit.commit c.args.writes.now.items = search rules in
    rw all (committed-all c.self.inside.commits c.in_ok-commit.commit c.self.inside.versions.items c.args.writes.now.items next c.self.invariant)

pub returns-clause-ok : goal.returns-clause-ok
returns-clause-ok c =
    let next : c.in_ok-commit.commit ≡ c.self.inside.commits + 1 = grind (arith, common_steps) in
    let all : c.append_versions.new.versions.items ≡ map (with_deletion c.in_ok-commit.commit (map write_entry c.args.writes.now.items)) c.self.inside.versions.items ++ versions_made c.in_ok-commit.commit c.args.writes.now.items = search rules in
    let ordered = rw (← c.self.view_is) at c.requires in
    let history : databases c.in_ok-commit.commit c.append_versions.new.versions.items ≡ databases c.self.inside.commits c.self.inside.versions.items
    ++ overlay (length (databases c.self.inside.commits c.self.inside.versions.items)) (map write_entry c.args.writes.now.items) (last_of (databases c.self.inside.commits c.self.inside.versions.items)) ∷ [] =
    rw all (committed-history c.self.inside.commits c.in_ok-commit.commit c.self.inside.rows c.self.inside.versions.items c.args.writes.now.items next c.self.invariant ordered) in
    let told : map given_shown c.append.new.self ≡ map given_shown c.self.inside.replies ++ map given_shown c.args.lines = rw c.in_ok-append.ensures.ok (map-append given_shown c.self.inside.replies c.args.lines) in
    rw (← c.self.view_is, history, told) refl
