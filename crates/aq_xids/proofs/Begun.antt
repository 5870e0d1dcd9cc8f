-- What is shown when a subtransaction begins, and of one that is kept.
use Rattle.std.proofs.Common.{◌≡◌, inl, inr, ℕ, zero, suc, ◌+◌, ◌≤◌, true, false, ◌==◌, cond, List, [], ◌∷◌, ◌++◌, length, Option, Some, None, refl, sym, ap, subst, ◌∙◌, arith}
use Rattle.std.proofs.lemmas.Option.{slice_get_within}
use Rattle.std.proofs.lemmas.List.Sums.{sum_by-append}
use Rattle.aq_xids.specs.Subtransactions.{Subtransaction, Subtransactions, numbered, fate_of, within_by, within_of, is_held, is_held_by, inner, begun, begun_in, same_top, session_if, session_while_held}
use Rattle.aq_xids.specs.Kept.{kept_at, shown, all_shown, held_in, is_committed, IsKept, IsBegunBelow}
use Rattle.aq_xids.specs.declared.kept.Kept.{Kept}
use Rattle.aq_xids.specs.declared.kept.Course.TheVariants as course
use Rattle.aq_xids.specs.declared.kept.Phase.TheVariants.{Running}
use Rattle.aq_xids.specs.declared.kept.Standing.TheVariants.{Transaction, Inner}
use Rattle.aq_xids.specs.declared.fate.Fate.{Fate}
use Rattle.aq_xids.specs.declared.fate.Fate.TheVariants.{Held, Void, Committed}
use Rattle.aq_xids.proofs.Lists.{slice_get-push}
use Rattle.aq_xids.proofs.Shown.{shown_at, numbered-none, all_shown-push, length-all_shown}

pub pushed_kept : (subs : List Kept) (last : ℕ) (kept : Kept) → IsKept subs last → IsBegunBelow (length subs) kept.standing → IsKept (subs ++ kept ∷ []) last
pushed_kept subs last kept is below = record {
  tree = record {
    placed = λ place one e. elim (slice_get-push subs place kept one e) [
      | inl h ↦ subst (λ (k : Kept). IsBegunBelow place k.standing) h.1 (subst (λ (p : ℕ). IsBegunBelow p kept.standing) (sym h.0) below)
      | inr h ↦ is.tree.placed place one h
    ];
  };
  commits = let sums = sum_by-append (λ (k : Kept). cond (is_committed k.standing) 1 0) subs (kept ∷ []) in omega (arith, sums, is.commits);
}

pub begun_shown : (subs : List Kept) (last session number : ℕ) → number ≡ length subs + 1
    → ◌≡◌ {A = Subtransactions} (record { all = all_shown (subs ++ (record { session = session; top = number; standing = Transaction course.Running }) ∷ []); last = last })
    (begun session (record { all = all_shown subs; last = last }))
begun_shown subs last session number e =
    let n : number ≡ length (all_shown subs) + 1 = omega (arith, e, length-all_shown subs) in
    rw (all_shown-push, n) refl

held_by_held : (n : ℕ) (fate : Fate) → is_held_by n fate ≡ true → (h : ℕ) × (fate ≡ Held h)
held_by_held n (Held h) e = (h, refl)
held_by_held n Void e = cc
held_by_held n (Committed c) e = cc

-- what is shown of one that is kept
pub record Shows (kept : Kept) (found : Option Subtransaction) : Type 0 where
  pub sub : Subtransaction
  pub is : found ≡ Some sub
  pub top : sub.top ≡ kept.top
  pub session : sub.session ≡ kept.session

pub numbered-kept : (subs : List Kept) (n : ℕ) (kept : Kept) → kept_at subs n ≡ Some kept → Shows kept (numbered n (all_shown subs))
numbered-kept subs zero kept e = cc
numbered-kept subs (suc place) kept e =
    let at = shown_at subs place kept e in
    record { sub = shown at.front kept; is = at.is; top = refl; session = refl }

inner_by : (all : List Subtransaction) (outer : ℕ) (kept : Kept) (found : Option Subtransaction) → Shows kept found → numbered outer all ≡ found → is_held_by outer (fate_of outer all) ≡ true
    → shown all (record { session = kept.session; top = kept.top; standing = Inner outer Running }) ≡ inner (length all + 1) found
inner_by all outer kept found shows e running =
    let held = held_by_held outer (fate_of outer all) running in
    let number : numbered outer all ≡ Some shows.sub = e ∙ shows.is in
    let fate : held_in (Some (length all + 1)) (fate_of outer all) ≡ Held (length all + 1) = ap (held_in (Some (length all + 1))) held.1 in
    let within : within_of outer all ≡ shows.sub.within = ap within_by number in
    let top = shows.top in let session = shows.session in
    rw shows.is cc

pub begun_in_shown : (subs : List Kept) (last outer : ℕ) (kept : Kept) → kept_at subs outer ≡ Some kept → is_held_by outer (fate_of outer (all_shown subs)) ≡ true
    → ◌≡◌ {A = Subtransactions} (record { all = all_shown (subs ++ (record { session = kept.session; top = kept.top; standing = Inner outer Running }) ∷ []); last = last })
    (begun_in outer (record { all = all_shown subs; last = last }))
begun_in_shown subs last outer kept e running =
    let one = inner_by (all_shown subs) outer kept (numbered outer (all_shown subs)) (numbered-kept subs outer kept e) refl running in
    rw (all_shown-push, one) refl

pub outer_within : (subs : List Kept) (n : ℕ) (kept : Kept) → kept_at subs n ≡ Some kept → n ≤ length subs
outer_within subs zero kept e = omega arith
outer_within subs (suc k) kept e = let h = slice_get_within subs k kept e in omega arith

pub same_top-kept : (subs : List Kept) (a b : ℕ) (x y : Kept) → kept_at subs a ≡ Some x → kept_at subs b ≡ Some y
    → same_top (numbered a (all_shown subs)) (numbered b (all_shown subs)) ≡ (x.top == y.top)
same_top-kept subs a b x y ea eb =
    let sa = numbered-kept subs a x ea in let sb = numbered-kept subs b y eb in
    rw (sa.is, sb.is, sa.top, sb.top) refl

pub session_while_held-kept : (subs : List Kept) (n : ℕ) (kept : Kept) → kept_at subs n ≡ Some kept
    → session_while_held (all_shown subs) (numbered n (all_shown subs)) ≡ session_if (is_held (fate_of kept.top (all_shown subs))) kept.session
session_while_held-kept subs n kept e =
    let s = numbered-kept subs n kept e in
    ap (session_while_held (all_shown subs)) s.is ∙ (ap (λ t. session_if (is_held (fate_of t (all_shown subs))) s.sub.session) s.top ∙ ap (session_if (is_held (fate_of kept.top (all_shown subs)))) s.session)

pub same_top-none_left : (subs : List Kept) (a b : ℕ) → kept_at subs a ≡ None → same_top (numbered a (all_shown subs)) (numbered b (all_shown subs)) ≡ false
same_top-none_left subs a b e = ap (λ one. same_top one (numbered b (all_shown subs))) (numbered-none subs a e)

none_right : (one : Option Subtransaction) → same_top one None ≡ false
none_right None = refl
none_right (Some sub) = refl

pub same_top-none_right : (subs : List Kept) (a b : ℕ) → kept_at subs b ≡ None → same_top (numbered a (all_shown subs)) (numbered b (all_shown subs)) ≡ false
same_top-none_right subs a b e = ap (same_top (numbered a (all_shown subs))) (numbered-none subs b e) ∙ none_right (numbered a (all_shown subs))
