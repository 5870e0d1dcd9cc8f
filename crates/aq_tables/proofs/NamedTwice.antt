-- The first of some named things that has a name that is taken, where the names taken grow.
use Rattle.std.proofs.Common.{◌≡◌, ℕ, ◌+◌, ◌<◌, true, false, ◌||◌, List, [], ◌∷◌, ◌++◌, Some, length, map, take, get_or, append_assoc, ap, sym, ◌∙◌, arith}
use Rattle.std.specs.List.{list_any}
use Rattle.std.proofs.lemmas.List.{take_more, get_or-map, length-map}
use Rattle.std.proofs.lemmas.List.Folds.{list_any-append}
use Rattle.aq_base.specs.Names.{Text, same_text}
use Rattle.aq_setup.specs.Scopes.{repeats_behind}
use Rattle.aq_setup.specs.Triggers.{first_text}
use Rattle.aq_additions.proofs.Repeats.{Left, repeat_found, repeat_not}

module _ {A : Type 0} (name_of : A → Text) (before taken : List Text) (all : List A) (i : ℕ) (x : A) (within : i < length all) (is : x ≡ get_or all i x) (grown : taken ≡ before ++ take i (map name_of all)) where
  name_within : i < length (map name_of all)
  name_within = omega (arith, length-map all name_of, within)

  name_is : name_of x ≡ get_or (map name_of all) i (name_of x)
  name_is = ap name_of is ∙ sym (get_or-map name_of all i x (name_of x) within)

  stood : (list_any (same_text (name_of x)) before || list_any (same_text (name_of x)) (take i (map name_of all))) ≡ list_any (same_text (name_of x)) taken
  stood = sym (list_any-append (same_text (name_of x)) before (take i (map name_of all))) ∙ ap (list_any (same_text (name_of x))) (sym grown)

  pub named_again : Left before (map name_of all) i → list_any (same_text (name_of x)) taken ≡ true → Some (name_of x) ≡ first_text (repeats_behind before (map name_of all))
  named_again left found = repeat_found before (map name_of all) i (name_of x) name_within name_is left (stood ∙ found)

  pub named_anew : Left before (map name_of all) i → list_any (same_text (name_of x)) taken ≡ false → Left before (map name_of all) (i + 1)
  named_anew left found = repeat_not before (map name_of all) i (name_of x) name_within name_is left (stood ∙ found)

  pub grown_more : taken ++ name_of x ∷ [] ≡ before ++ take (i + 1) (map name_of all)
  grown_more =
      ap (λ l. l ++ name_of x ∷ []) grown ∙ append_assoc before (take i (map name_of all)) (name_of x ∷ [])
      ∙ ap (λ y. before ++ (take i (map name_of all) ++ y ∷ [])) name_is ∙ ap (λ l. before ++ l) (sym (take_more (map name_of all) i (name_of x) name_within))
