use Rattle.std.proofs.Common.{ap, ◌∙◌, ◌++◌, ◌∷◌, [], refl, sym}
use Rattle.aq_modes.specs.Log.{modes_of}
use Rattle.aq_modes.proofs.Logs.{mark-kept, all-kept, each-kept}
use Rattle.aq_modes.proofs.log.back_to_last_mark.Goals as goal

pub returns-in-Mark-clause-saved : goal.returns-in-Mark-clause-saved
returns-in-Mark-clause-saved c =
    sym c.entries.invariant
    ∙ mark-kept c.pop.new.self.items c.entries.log.items (modes_of c.entries.present) (c.in-Some.ensures.items ∙ ap (λ e. c.pop.new.self.items ++ e ∷ []) c.in-Mark.is)

pub entries-preserved-in-All : goal.entries-preserved-in-All
entries-preserved-in-All c =
    sym (all-kept c.pop.new.self.items c.pop.new.self.items c.entries.log.items c.in-All.replaced c.in-All.replaced (modes_of c.entries.present) refl (c.in-Some.ensures.items ∙ ap (λ e. c.pop.new.self.items ++ e ∷ []) c.in-All.is) refl)
    ∙ c.entries.invariant

pub entries-preserved : goal.entries-preserved
entries-preserved c =
    sym (each-kept c.pop.new.self.items c.pop.new.self.items c.entries.log.items c.in-Each.before (modes_of c.entries.present) _ refl (c.in-Some.ensures.items ∙ ap (λ e. c.pop.new.self.items ++ e ∷ []) c.in-Each.is) (ap (λ own. record { all = c.entries.present.all; own = own }) (sym c.put_back_all.ensures)))
    ∙ c.entries.invariant
