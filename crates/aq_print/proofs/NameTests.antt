-- Tests of names.
use Rattle.std.proofs.Common.{◌≡◌, ℕ, Bool, List, [], ◌∷◌, ◌&&◌, ◌==◌, refl, ap, map}
use Rattle.std.specs.Prelude.{nat_eq}
use Rattle.std.specs.List.{list_all}
use Rattle.std.specs.Char.{to_ascii_lowercase}
use Rattle.std.specs.Cmp.Lexicographic.{pointwise}

-- a text is the same in lower case where each byte is
pub same_in_lower_case : (text : List ℕ) → pointwise nat_eq (map to_ascii_lowercase text) text ≡ list_all (λ byte. to_ascii_lowercase byte == byte) text
same_in_lower_case [] = refl
same_in_lower_case (byte ∷ text) = ap (λ (b : Bool). (to_ascii_lowercase byte == byte) && b) (same_in_lower_case text)
