use Rattle.std.proofs.Common.{ap, ◌∙◌, sym}
use Rattle.std.specs.Option.{option_copied_mut}
use Rattle.aq_modes.proofs.Logs.{put_back-none}
use Rattle.aq_modes.proofs.log.put_back.Goals as goal

pub returns-in_default : goal.returns-in_default
returns-in_default c =
    ap (λ m. m.entries) c.get_mut.follows.holds-at-none
    ∙ sym (put_back-none c.args.before c.in-Some.setting c.args.own.now.entries c.in-Some.is (sym c.get_mut.ensures.value ∙ ap option_copied_mut c.in_default.is))
