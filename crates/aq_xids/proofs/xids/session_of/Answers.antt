use Rattle.std.proofs.Common.{sym, ap, ◌∙◌}
use Rattle.aq_xids.specs.Kept.{all_shown}
use Rattle.aq_xids.specs.Subtransactions.{session_if, session_while_held, is_held}
use Rattle.aq_xids.proofs.Shown.{numbered-none}
use Rattle.aq_xids.proofs.Begun.{session_while_held-kept}
use Rattle.aq_xids.proofs.xids.session_of.Goals as goal

pub returns-in_default : goal.returns-in_default
returns-in_default c =
    sym (ap (session_while_held (all_shown c.args.subs.now)) (numbered-none c.args.subs.now c.args.number (sym c.kept_of.ensures.value ∙ c.in_default.is)))

pub returns-in-Held : goal.returns-in-Held
returns-in-Held c =
    sym (session_while_held-kept c.args.subs.now c.args.number c.in-Some.kept (sym c.kept_of.ensures.value ∙ c.in-Some.is)
    ∙ ap (λ fate. session_if (is_held fate) c.in-Some.kept.session) (sym c.fate_in.ensures ∙ c.in-Held.is))

pub returns-in-Void : goal.returns-in-Void
returns-in-Void c =
    sym (session_while_held-kept c.args.subs.now c.args.number c.in-Some.kept (sym c.kept_of.ensures.value ∙ c.in-Some.is)
    ∙ ap (λ fate. session_if (is_held fate) c.in-Some.kept.session) (sym c.fate_in.ensures ∙ c.in-Void.is))

pub returns-in-Committed : goal.returns-in-Committed
returns-in-Committed c =
    sym (session_while_held-kept c.args.subs.now c.args.number c.in-Some.kept (sym c.kept_of.ensures.value ∙ c.in-Some.is)
    ∙ ap (λ fate. session_if (is_held fate) c.in-Some.kept.session) (sym c.fate_in.ensures ∙ c.in-Committed.is))
