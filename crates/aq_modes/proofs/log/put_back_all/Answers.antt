use Rattle.std.proofs.Common.{ap, ◌∙◌, sym}
use Rattle.aq_modes.specs.Log.{put_back_all}
use Rattle.aq_modes.proofs.Logs.{put_back_all-push}
use Rattle.aq_modes.proofs.log.put_back_all.Goals as goal

pub left-preserved : goal.left-preserved
left-preserved c =
    ap (put_back_all c.pop.new.self.items) c.put_back.ensures
    ∙ sym (put_back_all-push c.pop.new.self.items c.in-Some.last c.left.own.entries)
    ∙ ap (λ bs. put_back_all bs c.left.own.entries) (sym c.in-Some.ensures.items)
    ∙ c.left.invariant
