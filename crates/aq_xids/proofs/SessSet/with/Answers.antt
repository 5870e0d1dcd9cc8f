use Rattle.std.proofs.Common.{◌==◌, ap}
use Rattle.std.proofs.lemmas.Nat.Bits.{bit_at_set_same, bit_at_set_other}
use mir.Syntax.{w16}
use Rattle.aq_xids.proofs.SessSet.with.Goals as goal

pub returns-clause-there : goal.returns-clause-there
returns-clause-there c = ap (λ bit. bit == 1) (bit_at_set_same w16 c.args.self.0 c.args.session.0 c.requires)

pub returns-clause-others : goal.returns-clause-others
returns-clause-others c s h = ap (λ bit. bit == 1) (bit_at_set_other w16 c.args.self.0 c.args.session.0 c.requires s h)
