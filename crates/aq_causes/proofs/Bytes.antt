-- Known bytes over several reads and writes.
use Rattle.std.proofs.Common.{◌≡◌, ℕ, ◌+◌, ◌-◌, ◌≤◌, List, ◌++◌, length, take, drop, sym, ◌∙◌, ap, arith, append_assoc, length-append, OnErr}
use Rattle.std.specs.Prelude.{Option, None, Some, Result, Ok, Err}
use Rattle.std.specs.Io.KnownBytes.{Consumes, Appends}
use Rattle.std.proofs.Math.Seq.{take-add}
use Rattle.std.proofs.lemmas.List.{take_rest, drop-drop, take-append-drop, length-take}
use Rattle.aq_causes.specs.Gathered.{Gave}

-- two reads one after the other
pub Consumes-append : (left mid after : Option (List ℕ)) (xs ys : List ℕ) → Consumes left mid xs → Consumes mid after ys → Consumes left after (xs ++ ys)
Consumes-append None mid after xs ys first second = tt
Consumes-append (Some ls) None after xs ys first second = absurd first
Consumes-append (Some ls) (Some ms) None xs ys first second = absurd second
Consumes-append (Some ls) (Some ms) (Some ns) xs ys first second = rw append_assoc (first ∙ ap (λ zs. xs ++ zs) second)

-- two writes one after the other
pub Appends-append : (old mid new : Option (List ℕ)) (xs ys : List ℕ) → Appends old mid xs → Appends mid new ys → Appends old new (xs ++ ys)
Appends-append None mid new xs ys first second = tt
Appends-append (Some os) None new xs ys first second = absurd first
Appends-append (Some os) (Some ms) None xs ys first second = absurd second
Appends-append (Some os) (Some ms) (Some ns) xs ys first second = second ∙ ap (λ zs. zs ++ ys) first ∙ append_assoc os xs ys

-- two writes one after the other, of a slice's front and then of the front of its rest
pub Appends-take_more : (old mid new : Option (List ℕ)) (bytes : List ℕ) (at n : ℕ) → Appends old mid (take at bytes) → Appends mid new (take n (take (length bytes - at) (drop at bytes))) → Appends old new (take (at + n) bytes)
Appends-take_more old mid new bytes at n first second =
    rw (take-add at n bytes)
    (Appends-append old mid new (take at bytes) (take n (drop at bytes)) first (rw (take_rest bytes at) at second))

-- a read that copies the front of what is left, from some place on, to a buffer's front
pub drop-copied : (bytes buf : List ℕ) (at n : ℕ) → take n buf ≡ take n (take (length bytes - at) (drop at bytes)) → drop at bytes ≡ take n buf ++ drop (at + n) bytes
drop-copied bytes buf at n front =
    rw (front, take_rest bytes at, ← drop-drop n at bytes) (sym (take-append-drop n (drop at bytes)))

-- a source that gave some bytes, and then some of a buffer
pub Gave-more : (left mid after : Option (List ℕ)) (given buf : List ℕ) (n : ℕ) → Consumes left mid given → 1 ≤ n → n ≤ length buf → Consumes mid after (take n buf) → Gave left after (λ m. 1 ≤ m)
Gave-more left mid after given buf n first some within second =
    (given ++ take n buf, omega (arith, length-append given (take n buf), length-take n buf), Consumes-append left mid after given (take n buf) first second)

-- a fact that holds anyway, of an error
pub OnErr-of : {T E : Type 0} {P : Type 0} (r : Result T E) → P → OnErr r P
OnErr-of (Ok x) fact = tt
OnErr-of (Err e) fact = fact
