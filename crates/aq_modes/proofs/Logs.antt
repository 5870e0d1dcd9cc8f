-- What is put back is what was replaced.
use Rattle.std.proofs.Common.{◌≡◌, ℕ, Bool, true, false, cond, List, [], ◌∷◌, ◌++◌, Option, Some, None, refl, sym, ap, ◌∙◌, nat_cmp, ◌+◌, ◌≤◌, length, take, drop, slice_get, arith, length-append, ◌<◌, suc, get_or, drop-cons}
use Rattle.std.specs.declared.cmp.Ordering.{Ordering}
use Rattle.std.specs.declared.cmp.Ordering.TheVariants.{Less, Equal, Greater}
use Rattle.std.specs.Ordering.{match_ordering, is_eq}
use Rattle.std.specs.Cmp.{eq_by_cmp_equiv}
use Rattle.std.specs.List.Sorted.{IsStrictlySortedBy}
use Rattle.std.specs.Map.{keys_of, lookup, remove_entry, set_value}
use Rattle.std.specs.BTreeMap.{is_at, insert_entry}
use Rattle.std.specs.FinMap.Entries.{by_order}
use Rattle.std.proofs.lemmas.Cmp.{nat_cmp_total}
use Rattle.std.proofs.lemmas.Map.{lookup-none}
use Rattle.std.proofs.lemmas.Map.Keys.{sorted_tail}
use Rattle.std.proofs.lemmas.Option.{none-some}
use Rattle.std.proofs.lemmas.List.{length-take-le, take-take, take-append-drop}
use Rattle.std.proofs.Math.Seq.{take-append_seam}
use Rattle.aq_base.proofs.Lists.{slice_get-behind, slice_get-append}
use Rattle.std.proofs.lemmas.Map.Entries.{none_below_head}
use Rattle.aq_base.specs.Maps.{at, with_at}
use Rattle.aq_base.specs.ConstraintModes.{Modes, with_some}
use Rattle.aq_modes.specs.Log.{modes_of, own_with, as_before, put_back, put_back_all, undone, before_all, saved_from}
use Rattle.aq_modes.specs.declared.log.Present.{Present}
use Rattle.aq_modes.specs.declared.log.Before.{Before}
use Rattle.aq_modes.specs.declared.log.Entry.{Entry}
use Rattle.aq_modes.specs.declared.log.Entry.TheVariants.{Mark, All, Each}

-- ---- single constraints

self_tied : (c : ℕ) → is_at (nat_cmp c) c ≡ true
self_tied c = (eq_by_cmp_equiv nat_cmp_total).refl c

past_other : (c : ℕ) (o : Option Bool) (e : ℕ × Bool) (es : List (ℕ × Bool)) → is_at (nat_cmp c) e.0 ≡ false → as_before c o (e ∷ es) ≡ e ∷ as_before c o es
past_other c None e es other = ap (λ b. cond b es (e ∷ remove_entry (is_at (nat_cmp c)) es)) other
past_other c (Some s) e es other = ap (λ b. cond b ((e.0, s) ∷ es) (e ∷ set_value (is_at (nat_cmp c)) es s)) other

-- what a constraint had, put back, gives the settings before it was set
pub as_before-insert : (c : ℕ) (d : Bool) (es : List (ℕ × Bool)) → IsStrictlySortedBy nat_cmp (keys_of es) → as_before c (lookup (is_at (nat_cmp c)) es) (insert_entry nat_cmp es c d) ≡ es
as_before-insert c d [] rise = ap (λ b. cond b [] ((c, d) ∷ [])) (self_tied c)
as_before-insert c d (e ∷ es) rise = by_order_of (nat_cmp c e.0) refl (as_before-insert c d es (sorted_tail nat_cmp e.0 (keys_of es) rise))
  where
    found : Bool → Option Bool
    found b = cond b (Some e.1) (lookup (is_at (nat_cmp c)) es)

    by_order_of : (o : Ordering) → nat_cmp c e.0 ≡ o → as_before c (lookup (is_at (nat_cmp c)) es) (insert_entry nat_cmp es c d) ≡ es
        → as_before c (lookup (is_at (nat_cmp c)) (e ∷ es)) (match_ordering (nat_cmp c e.0) ((c, d) ∷ e ∷ es) ((e.0, d) ∷ es) (e ∷ insert_entry nat_cmp es c d)) ≡ e ∷ es
    by_order_of Less is rest =
        ap (λ o. as_before c (lookup (is_at (nat_cmp c)) (e ∷ es)) (match_ordering o ((c, d) ∷ e ∷ es) ((e.0, d) ∷ es) (e ∷ insert_entry nat_cmp es c d))) is
        ∙ ap (λ o. as_before c o ((c, d) ∷ e ∷ es)) (lookup-none (is_at (nat_cmp c)) (e ∷ es) (none_below_head nat_cmp_total c e es rise is))
        ∙ ap (λ b. cond b (e ∷ es) ((c, d) ∷ remove_entry (is_at (nat_cmp c)) (e ∷ es))) (self_tied c)
    by_order_of Equal is rest =
        ap (λ o. as_before c (lookup (is_at (nat_cmp c)) (e ∷ es)) (match_ordering o ((c, d) ∷ e ∷ es) ((e.0, d) ∷ es) (e ∷ insert_entry nat_cmp es c d))) is
        ∙ ap (λ o. as_before c (found (is_eq o)) ((e.0, d) ∷ es)) is
        ∙ ap (λ o. cond (is_eq o) ((e.0, e.1) ∷ es) ((e.0, d) ∷ set_value (is_at (nat_cmp c)) es e.1)) is
    by_order_of Greater is rest =
        ap (λ o. as_before c (lookup (is_at (nat_cmp c)) (e ∷ es)) (match_ordering o ((c, d) ∷ e ∷ es) ((e.0, d) ∷ es) (e ∷ insert_entry nat_cmp es c d))) is
        ∙ ap (λ o. as_before c (found (is_eq o)) (e ∷ insert_entry nat_cmp es c d)) is
        ∙ past_other c (lookup (is_at (nat_cmp c)) es) e (insert_entry nat_cmp es c d) (ap is_eq is)
        ∙ ap (λ t. e ∷ t) rest

unset : (c : ℕ) (s : Bool) (es : List (ℕ × Bool)) → lookup (is_at (nat_cmp c)) es ≡ None → set_value (is_at (nat_cmp c)) es s ≡ es
unset c s [] none = refl
unset c s (e ∷ es) none = by_test (is_at (nat_cmp c) e.0) none (unset c s es)
  where
    by_test : (b : Bool) → cond b (Some e.1) (lookup (is_at (nat_cmp c)) es) ≡ None → (lookup (is_at (nat_cmp c)) es ≡ None → set_value (is_at (nat_cmp c)) es s ≡ es)
        → cond b ((e.0, s) ∷ es) (e ∷ set_value (is_at (nat_cmp c)) es s) ≡ e ∷ es
    by_test true some rest = absurd (none-some e.1 (sym some))
    by_test false none rest = ap (λ t. e ∷ t) (rest none)

-- nothing is put back where the constraint has no setting to replace
pub put_back-none : (b : Before) (s : Bool) (es : List (ℕ × Bool)) → b.setting ≡ Some s → lookup (is_at (nat_cmp b.con)) es ≡ None → put_back b es ≡ es
put_back-none b s es has none = ap (λ o. as_before b.con o es) has ∙ unset b.con s es none

pub put_back-some : (b : Before) (s : Bool) (es : List (ℕ × Bool)) → b.setting ≡ Some s → set_value (is_at (nat_cmp b.con)) es s ≡ put_back b es
put_back-some b s es has = ap (λ o. as_before b.con o es) (sym has)

pub put_back_all-push : (bs : List Before) (b : Before) (own : List (ℕ × Bool)) → put_back_all (bs ++ b ∷ []) own ≡ put_back_all bs (put_back b own)
put_back_all-push [] b own = refl
put_back_all-push (x ∷ bs) b own = ap (put_back x) (put_back_all-push bs b own)

-- one more constraint is set
pub put_back_all-set : (bs : List Before) (b : Before) (own next first : List (ℕ × Bool)) → put_back_all bs own ≡ first → put_back b next ≡ own → put_back_all (bs ++ b ∷ []) next ≡ first
put_back_all-set bs b own next first was is = put_back_all-push bs b next ∙ ap (put_back_all bs) is ∙ was

same_branch : {X : Type 0} (o : Ordering) (a b c : X) → match_ordering o a b c ≡ by_order o a b c
same_branch Less a b c = refl
same_branch Equal a b c = refl
same_branch Greater a b c = refl

pub insert_entry-with_at : (c : ℕ) (d : Bool) (es : List (ℕ × Bool)) → insert_entry nat_cmp es c d ≡ with_at c d es
insert_entry-with_at c d [] = refl
insert_entry-with_at c d (e ∷ es) =
    ap (λ t. match_ordering (nat_cmp c e.0) ((c, d) ∷ e ∷ es) ((e.0, d) ∷ es) (e ∷ t)) (insert_entry-with_at c d es)
    ∙ same_branch (nat_cmp c e.0) ((c, d) ∷ e ∷ es) ((e.0, d) ∷ es) (e ∷ with_at c d es)

pub lookup-at : (c : ℕ) (es : List (ℕ × Bool)) → lookup (is_at (nat_cmp c)) es ≡ at c es
lookup-at c [] = refl
lookup-at c (e ∷ es) = ap (λ o. cond (is_at (nat_cmp c) e.0) (Some e.1) o) (lookup-at c es)

pub with_some-own_with : (cons : List ℕ) (d : Bool) (all : Option Bool) (own : List (ℕ × Bool)) → with_some cons d (record { all = all; own = own }) ≡ record { all = all; own = own_with cons d own }
with_some-own_with [] d all own = refl
with_some-own_with (c ∷ cons) d all own =
    with_some-own_with cons d all (with_at c d own) ∙ ap (λ o. record { all = all; own = own_with cons d o }) (sym (insert_entry-with_at c d own))

-- ---- logs

pub before_all-push : (es : List Entry) (e : Entry) (m : Modes) → before_all (es ++ e ∷ []) m ≡ before_all es (undone e m)
before_all-push [] e m = refl
before_all-push (x ∷ es) e m = ap (undone x) (before_all-push es e m)

pub saved_from-mark : (es : List Entry) (m : Modes) → saved_from (es ++ Mark ∷ []) m ≡ saved_from es m ++ m ∷ []
saved_from-mark [] m = refl
saved_from-mark (Mark ∷ es) m = λ i. before_all-push es Mark m i ∷ saved_from-mark es m i
saved_from-mark (All r ∷ es) m = saved_from-mark es m
saved_from-mark (Each bs ∷ es) m = saved_from-mark es m

pub saved_from-all : (es : List Entry) (r : Present) (m : Modes) → saved_from (es ++ All r ∷ []) m ≡ saved_from es (modes_of r)
saved_from-all [] r m = refl
saved_from-all (Mark ∷ es) r m = λ i. before_all-push es (All r) m i ∷ saved_from-all es r m i
saved_from-all (All q ∷ es) r m = saved_from-all es r m
saved_from-all (Each bs ∷ es) r m = saved_from-all es r m

pub saved_from-each : (es : List Entry) (bs : _) (m : Modes) → saved_from (es ++ Each bs ∷ []) m ≡ saved_from es (undone (Each bs) m)
saved_from-each [] bs m = refl
saved_from-each (Mark ∷ es) bs m = λ i. before_all-push es (Each bs) m i ∷ saved_from-each es bs m i
saved_from-each (All q ∷ es) bs m = saved_from-each es bs m
saved_from-each (Each q ∷ es) bs m = saved_from-each es bs m

pub all-kept : (es les pushed : List Entry) (r present : Present) (m : Modes) → les ≡ es → pushed ≡ les ++ All r ∷ [] → r ≡ present → saved_from pushed m ≡ saved_from es (modes_of present)
all-kept es les pushed r present m same is was =
    ap (λ x. saved_from x m) is ∙ ap (λ x. saved_from (x ++ All r ∷ []) m) same ∙ saved_from-all es r m ∙ ap (λ x. saved_from es (modes_of x)) was

pub each-kept : (es les pushed : List Entry) (bs : _) (m before : Modes) → les ≡ es → pushed ≡ les ++ Each bs ∷ [] → undone (Each bs) m ≡ before → saved_from pushed m ≡ saved_from es before
each-kept es les pushed bs m before same is was =
    ap (λ x. saved_from x m) is ∙ ap (λ x. saved_from (x ++ Each bs ∷ []) m) same ∙ saved_from-each es bs m ∙ ap (saved_from es) was

pub mark-kept : (es pushed : List Entry) (m : Modes) → pushed ≡ es ++ Mark ∷ [] → saved_from pushed m ≡ saved_from es m ++ m ∷ []
mark-kept es pushed m is = ap (λ x. saved_from x m) is ∙ saved_from-mark es m

-- ---- what stands before the last of the first elements of a list, and that last one

pub front-take : {X : Type 0} (xs : List X) (x : X) (all : List X) (k n : ℕ) → n ≡ k + 1 → n ≤ length all → xs ++ x ∷ [] ≡ take n all → xs ≡ take k all
front-take xs x all k n one within is =
    let len : length xs ≡ k = omega (arith, length-append xs (x ∷ []), ap length is, length-take-le n all within) in
    sym (take-append_seam xs (x ∷ [])) ∙ ap (take (length xs)) is ∙ take-take (length xs) n all (omega arith) ∙ ap (λ j. take j all) len

pub last-take : {X : Type 0} (xs : List X) (x : X) (all : List X) (k n : ℕ) → n ≡ k + 1 → n ≤ length all → xs ++ x ∷ [] ≡ take n all → slice_get all k ≡ Some x
last-take xs x all k n one within is =
    let len : length xs ≡ k = omega (arith, length-append xs (x ∷ []), ap length is, length-take-le n all within) in
    let here : slice_get (take n all) k ≡ Some x = ap (slice_get (take n all)) (sym len) ∙ ap (λ l. slice_get l (length xs)) (sym is) ∙ slice_get-behind xs x [] in
    ap (λ l. slice_get l k) (sym (take-append-drop n all)) ∙ slice_get-append (take n all) (drop n all) k x here

-- one more of the constraints is set
pub own_with-step : (cons rest : List ℕ) (c : ℕ) (d : Bool) (own next : List (ℕ × Bool)) → cons ≡ c ∷ rest → next ≡ insert_entry nat_cmp own c d → own_with rest d next ≡ own_with cons d own
own_with-step cons rest c d own next front is = ap (own_with rest d) is ∙ ap (λ l. own_with l d own) (sym front)

pub as_before-set : (c : ℕ) (setting : Option Bool) (d : Bool) (own next : List (ℕ × Bool)) → IsStrictlySortedBy nat_cmp (keys_of own) → setting ≡ lookup (is_at (nat_cmp c)) own → next ≡ insert_entry nat_cmp own c d → as_before c setting next ≡ own
as_before-set c setting d own next rise was is = (λ i. as_before c (was i) (is i)) ∙ as_before-insert c d own rise

pub drop-step : (xs : List ℕ) (i x : ℕ) → i < length xs → x ≡ get_or xs i x → drop i xs ≡ x ∷ drop (i + 1) xs
drop-step xs i x within is = drop-cons xs i x within ∙ (λ j. is' j ∷ drop (one j) xs)
  where
    is' : get_or xs i x ≡ x
    is' = sym is

    one : suc i ≡ i + 1
    one = omega arith
