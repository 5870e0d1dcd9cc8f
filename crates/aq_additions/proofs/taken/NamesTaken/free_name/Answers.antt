use Rattle.std.proofs.Common.{◌≡◌, true, IfOk, subst, arith, rules}
use Rattle.std.specs.List.{list_any}
use Rattle.aq_base.specs.Names.{Text, same_text}
use Rattle.aq_additions.proofs.FreeNames.{free_numbered}
use Rattle.aq_additions.proofs.taken.NamesTaken.free_name.Goals as goal

pub returns-clause-made : goal.returns-clause-made
returns-clause-made c =
    let itself : list_any (same_text c.args.name) c.args.self.now ≡ true = search rules in
    subst (λ (name : Text). IfOk c.with_number.result (λ made. made ≡ name))
    (free_numbered c.args.self.now c.args.name c.in_ok-number.number c.in_ok-number.ensures.positive (omega arith) itself c.in_ok-number.ensures.lesser c.in_ok-number.ensures.free)
    c.with_number.ensures
