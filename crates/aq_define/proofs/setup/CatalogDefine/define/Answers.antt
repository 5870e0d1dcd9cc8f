use Rattle.aq_setup.specs.Order.{in_order}
use Rattle.aq_setup.specs.Setup.{setup_faults, defined}
use Rattle.aq_define.proofs.Behind.{refused, back_again}
use Rattle.aq_define.proofs.setup.CatalogDefine.define.Goals as goal

pub returns-in-Err-clause-err : goal.returns-in-Err-clause-err
returns-in-Err-clause-err c =
    refused (in_order (setup_faults c.args.natives.now c.args.self.now c.args.s.now)) (defined c.args.self.now c.args.s.now) c.in-Err.fault c.in-Err.ensures.told.1

pub returns-in-Err-clause-kept : goal.returns-in-Err-clause-kept
returns-in-Err-clause-kept c =
    back_again c.mark-mark.result c.args.self.now c.make.new.catalog c.back_to.new.self c.mark-mark.ensures c.back_to.ensures c.in-Err.ensures.kept
