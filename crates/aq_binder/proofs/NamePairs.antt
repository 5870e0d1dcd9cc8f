-- The first fault of lists that stand one behind the other, where each fault is made of an element.
use Rattle.std.proofs.Common.{◌≡◌, ap, sym, subst, ◌∙◌, List, [], ◌++◌, map}
use Rattle.std.proofs.lemmas.List.{map-append}
use Rattle.aq_base.specs.declared.fault.SqlFault.{SqlFault}
use Rattle.aq_refusals.specs.declared.fault.CatFault.{CatFault}
use Rattle.aq_refusals.specs.Answers.{IsFault}
use Rattle.aq_refusals.proofs.Telling.{first_stays}

pub mapped_first_stays : {A : Type 0} (f : A → SqlFault) (front behind : List A) (e : CatFault) → IsFault (map f front) e → IsFault (map f (front ++ behind)) e
mapped_first_stays f front behind e told =
    subst (λ (l : List SqlFault). IsFault l e) (sym (map-append f front behind)) (first_stays (map f front) (map f behind) e told)

pub mapped_behind : {A : Type 0} (f : A → SqlFault) (front behind : List A) → map f front ≡ [] → map f (front ++ behind) ≡ map f behind
mapped_behind f front behind none = map-append f front behind ∙ ap (λ (l : List SqlFault). l ++ map f behind) none
