-- A trigger whose parts are made, and the catalog that has it.
use Rattle.std.proofs.Common.{◌≡◌, ℕ, List, [], ◌∷◌, ◌++◌, Option, Some, None, sym, ap, ◌∙◌}
use Rattle.aq_base.specs.Names.{Text}
use Rattle.aq_base.specs.declared.catalog.Decl.{Decl}
use Rattle.aq_base.specs.declared.catalog.Op.{Op}
use Rattle.aq_base.specs.declared.trigger.Each.{Each}
use Rattle.aq_base.specs.declared.bound_expr.BoundExpr.{BoundExpr}
use Rattle.aq_base.specs.declared.catalog.Constraint.{Constraint}
use Rattle.aq_base.specs.declared.catalog.Does.{Does}
use Rattle.aq_base.specs.declared.catalog.Trigger.{Trigger}
use Rattle.aq_catalog.specs.Catalogs.{Catalog}
use Rattle.aq_setup.specs.Triggers.{Wanted, made_trigger, with_trigger}
use Rattle.aq_triggers.specs.TriggerLines.{constraint_of}

abbrev trigger_of : Text → ℕ → List Op → List ℕ → Each → Option BoundExpr → Option ℕ → Does → Option Text → Option Text → Trigger
trigger_of name table fired cols level condition con does old_table new_table =
    record { name = name; table = table; ops = fired; cols = cols; level = level; condition = condition; con = con; does = does; old_table = old_table; new_table = new_table }

pub same_trigger : (a a' : Text) (b b' : ℕ) (c c' : List Op) (d d' : List ℕ) (e e' : Each) (f f' : Option BoundExpr) (g g' : Option ℕ) (h h' : Does) (i i' : Option Text) (j j' : Option Text)
    → a ≡ a' → b ≡ b' → c ≡ c' → d ≡ d' → e ≡ e' → f ≡ f' → g ≡ g' → h ≡ h' → i ≡ i' → j ≡ j'
    → trigger_of a b c d e f g h i j ≡ trigger_of a' b' c' d' e' f' g' h' i' j'
same_trigger a a' b b' c c' d d' e e' f f' g g' h h' i i' j j' p q r s t u v w x y =
    ap (λ z. trigger_of z b c d e f g h i j) p ∙ ap (λ z. trigger_of a' z c d e f g h i j) q ∙ ap (λ z. trigger_of a' b' z d e f g h i j) r
    ∙ ap (λ z. trigger_of a' b' c' z e f g h i j) s ∙ ap (λ z. trigger_of a' b' c' d' z f g h i j) t ∙ ap (λ z. trigger_of a' b' c' d' e' z g h i j) u
    ∙ ap (λ z. trigger_of a' b' c' d' e' f' z h i j) v ∙ ap (λ z. trigger_of a' b' c' d' e' f' g' z i j) w ∙ ap (λ z. trigger_of a' b' c' d' e' f' g' h' z j) x
    ∙ ap (λ z. trigger_of a' b' c' d' e' f' g' h' i' z) y

abbrev timed : Wanted → Option Decl → Wanted
timed w timing = record w { timing = timing }

abbrev and_trigger : Catalog → Trigger → Catalog
and_trigger cat t = record cat { triggers = cat.triggers ++ t ∷ [] }

abbrev and_both : Catalog → Trigger → Constraint → Catalog
and_both cat t k = record cat { triggers = cat.triggers ++ t ∷ []; constraints = cat.constraints ++ k ∷ [] }

-- a trigger alone
pub adds_trigger : (w : Wanted) (old new : Catalog) (t : Trigger) → w.timing ≡ None → t ≡ made_trigger old w → new ≡ and_trigger old t → new ≡ with_trigger w old
adds_trigger w old new t none made pushed =
    pushed ∙ ap (and_trigger old) (made ∙ ap (λ timing. made_trigger old (timed w timing)) none) ∙ sym (ap (λ timing. with_trigger (timed w timing) old) none)

-- a trigger and its constraint
pub adds_both : (w : Wanted) (old new : Catalog) (t : Trigger) (k : Constraint) (decl : Decl) → w.timing ≡ Some decl → t ≡ made_trigger old w
    → k ≡ constraint_of old w decl → new ≡ and_both old t k → new ≡ with_trigger w old
adds_both w old new t k decl some made constrained pushed =
    pushed ∙ ap (λ (found : Constraint). and_both old t found) constrained
    ∙ ap (λ (found : Trigger). and_both old found (constraint_of old w decl)) (made ∙ ap (λ timing. made_trigger old (timed w timing)) some)
    ∙ sym (ap (λ timing. with_trigger (timed w timing) old) some)
