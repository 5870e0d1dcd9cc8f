use Rattle.std.proofs.Common.{nat_lt, rules, tests}
use Rattle.std.proofs.lemmas.Fn.{filter_same}
use Rattle.aq_catalog.proofs.of_table.keep_keys.Goals as goal

pub returns : goal.returns
returns c = filter_same _ (λ n. nat_lt n c.args.bound) _ (λ x b g h. search (rules, tests)) _ _ c.retain.ensures.filtered
