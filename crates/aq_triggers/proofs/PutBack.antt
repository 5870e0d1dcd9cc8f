-- A trigger that was added is taken away again.
use Rattle.std.proofs.Common.{◌≡◌, [], ◌∷◌, ◌++◌, ap, ◌∙◌, arith}
use Rattle.aq_base.specs.declared.catalog.Trigger.{Trigger}
use Rattle.aq_catalog.specs.Catalogs.{Catalog}
use Rattle.aq_catalog.specs.declared.mark.Mark.{Mark}
use Rattle.aq_catalog.specs.Marks.{mark_of, shortened}
use Rattle.aq_catalog.proofs.Shortening.{shortened_trigger, shortened_not}

abbrev with_one_more : Catalog → Trigger → Catalog
with_one_more cat t = record cat { triggers = cat.triggers ++ t ∷ [] }

pub put_back : (old pushed kept now : Catalog) (m : Mark) (t : Trigger) → m ≡ mark_of old → pushed ≡ with_one_more old t → kept ≡ pushed → now ≡ shortened m kept → now ≡ old
put_back old pushed kept now m t marked pushes keeps back =
    back
    ∙ ap (shortened m) (keeps ∙ pushes)
    ∙ ap (λ (n : Mark). shortened n (with_one_more old t)) marked
    ∙ shortened_trigger (mark_of old) old t (omega arith)
    ∙ shortened_not old
