-- The last list of a stack.
use Rattle.std.proofs.Common.{◌≡◌, ℕ, zero, suc, List, [], ◌∷◌, length, get_or, refl, ap, arith}
use Rattle.std.proofs.Math.ListN.{set}
use Rattle.aq_base.specs.declared.catalog.Op.{Op}
use Rattle.aq_events.specs.Entries.{count_cancelled}
use Rattle.aq_events.specs.declared.entries.Entry.{Entry}
use Rattle.aq_levels.specs.Stacks.{on_top, count_on_top}

pub set-on_top : (f : List Entry → List Entry) (levels : List (List Entry)) (last : ℕ) (list : List Entry) (d : List Entry) → length levels ≡ suc last → list ≡ f (get_or levels last d) → set levels last list ≡ on_top f levels
set-on_top f [] last list d many is = absurd (omega arith)
set-on_top f (first ∷ []) zero list d many is = ap (λ l. l ∷ []) is
set-on_top f (first ∷ []) (suc last) list d many is = absurd (omega arith)
set-on_top f (first ∷ next ∷ levels) zero list d many is = absurd (omega arith)
set-on_top f (first ∷ next ∷ levels) (suc last) list d many is = ap (λ ls. first ∷ ls) (set-on_top f (next ∷ levels) last list d (omega arith) is)

pub count-on_top : (table : ℕ) (op : Op) (number : ℕ) (levels : List (List Entry)) (last : ℕ) (d : List Entry) → length levels ≡ suc last → count_cancelled table op number (get_or levels last d) ≡ count_on_top table op number levels
count-on_top table op number [] last d many = absurd (omega arith)
count-on_top table op number (first ∷ []) zero d many = refl
count-on_top table op number (first ∷ []) (suc last) d many = absurd (omega arith)
count-on_top table op number (first ∷ next ∷ levels) zero d many = absurd (omega arith)
count-on_top table op number (first ∷ next ∷ levels) (suc last) d many = count-on_top table op number (next ∷ levels) last d (omega arith)
