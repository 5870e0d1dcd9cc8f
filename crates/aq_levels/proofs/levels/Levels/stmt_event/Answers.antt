use Rattle.std.proofs.Common.{◌≡◌, ◌-◌, ◌++◌, ◌∷◌, [], ap, ◌∙◌, arith, suc, length}
use Rattle.aq_events.specs.Entries.{waiting_entry}
use Rattle.aq_levels.proofs.Tops.{set-on_top}
use Rattle.aq_levels.proofs.levels.Levels.stmt_event.Goals as goal

pub returns-clause-ok : goal.returns-clause-ok
returns-clause-ok c =
    let levels = c.self.inside.lists.items in
    let last = c.len-last.result - 1 in
    let list = c.index_mut.result.now in
    let many : length levels ≡ suc last = omega (arith, ap length c.self.view_is) in
    rw (← c.self.view_is) (set-on_top (λ l. l ++ waiting_entry c.args.event ∷ []) levels last c.append.new.self list many (c.in_ok-append.ensures.ok ∙ ap (λ l. l ++ waiting_entry c.args.event ∷ []) c.index_mut.ensures.value))
