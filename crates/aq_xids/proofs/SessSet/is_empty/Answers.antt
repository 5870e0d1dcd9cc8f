use Rattle.std.proofs.Common.{not, is_some, sym, ap, ◌∙◌}
use Rattle.std.specs.Option.{option_map}
use Rattle.aq_xids.specs.Sets.{members}
use Rattle.aq_xids.specs.declared.SessNo.{SessNo}
use Rattle.aq_xids.proofs.Ranges.{find_itself}
use Rattle.aq_xids.proofs.SessSet.is_empty.Goals as goal

pub returns-in-Some : goal.returns-in-Some
returns-in-Some c =
    ap (λ found. not (is_some (option_map (λ (s : SessNo). s.0) found))) (sym c.in-Some.is)
    ∙ (ap (λ found. not (is_some found)) c.first_common.ensures.first ∙ find_itself (members c.args.self.0))

pub returns-in-None : goal.returns-in-None
returns-in-None c =
    ap (λ found. not (is_some (option_map (λ (s : SessNo). s.0) found))) (sym c.in-None.is)
    ∙ (ap (λ found. not (is_some found)) c.first_common.ensures.first ∙ find_itself (members c.args.self.0))
