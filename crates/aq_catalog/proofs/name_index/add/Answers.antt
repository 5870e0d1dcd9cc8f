use Rattle.std.proofs.Common.{ℕ, List, ◌≡◌, ap, ◌∙◌, ◌++◌, ◌∷◌, rules, unwrap_or, [], Some, cond}
use Rattle.std.specs.Map.{lookup}
use Rattle.aq_base.specs.Names.{Text, same_text}
use Rattle.aq_catalog.specs.Indexed.{places_under}
use Rattle.aq_catalog.proofs.Indexing.{updated, left_alone, on_err}
use Rattle.aq_catalog.proofs.name_index.add.Goals as goal

pub returns-in_err-push-in-Some-clause-err : goal.returns-in_err-push-in-Some-clause-err
returns-in_err-push-in-Some-clause-err c =
    let n = c.get_mut.follows.lender c.push.new.self in
    let old = c.args.places.now.entries in
    let as_was : List ℕ → List ℕ = λ xs. xs in
    let same : (q : Text) → places_under n.entries q ≡ places_under old q = λ q.
    updated old n.entries c.args.name.now as_was c.push.new.self ((c.get_mut.follows.holds c.push.new.self).3 (search rules)).0
    (c.in_err-push-in-Some.ensures.err ∙ ap (λ o. unwrap_or o []) c.in-Some.ensures.value) q
    ∙ left_alone (same_text c.args.name.now q) (places_under old q) in
    on_err c.from_residual.result ((q : Text) → places_under n.entries q ≡ places_under old q) same

pub returns-in_ok-insert-in-None-clause-ok : goal.returns-in_ok-insert-in-None-clause-ok
returns-in_ok-insert-in-None-clause-ok c =
    let old = c.args.places.now.entries in
    let w = c.push-in-None.new.self in
    let more : List ℕ → List ℕ = λ xs. xs ++ c.args.place ∷ [] in
    let changes : (q : Text) → lookup (same_text q) c.insert.new.self.entries ≡ cond (same_text c.args.name.now q) (Some w) (lookup (same_text q) old) = λ q.
    c.in_ok-insert-in-None.ensures.updates.0 q
    ∙ (ap (λ k. cond (same_text k q) (Some w) (lookup (same_text q) c.get_mut.follows.lender-at-none.entries)) c.in_ok-copy-in-None.ensures
    ∙ ap (λ m. cond (same_text c.args.name.now q) (Some w) (lookup (same_text q) m.entries)) c.get_mut.follows.holds-at-none) in
    updated old c.insert.new.self.entries c.args.name.now more w changes
    (c.in_ok-push-in-None.ensures.ok ∙ ap more (c.new-found.ensures ∙ ap (λ o. unwrap_or o []) c.in-None.ensures.value))
