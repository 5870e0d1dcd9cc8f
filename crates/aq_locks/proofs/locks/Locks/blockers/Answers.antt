use Rattle.std.proofs.Common.{◌≡◌, Option, Some, None, nat_cmp, sym, ap, ◌∙◌}
use Rattle.std.specs.BTreeMap.{get}
use Rattle.std.specs.List.{filter}
use Rattle.std.specs.Prelude.{not, ◌&&◌, ◌==◌}
use Rattle.aq_base.specs.Blockers.{row_blockers}
use Rattle.aq_base.specs.LockModes.{conflicts_with}
use Rattle.aq_xids.specs.Sets.{all_sessions}
use Rattle.aq_locks.specs.Logs.{Logs, all_holdings}
use Rattle.aq_locks.specs.Rows.{Holders, mode_at, items_of}
use Rattle.aq_locks.proofs.Blocked.{row_blockers_by, none_blocks}
use Rattle.aq_locks.proofs.locks.Locks.blockers.Goals as goal

pub returns-in-None : goal.returns-in-None
returns-in-None c =
    let free : get nat_cmp c.self.inside.rows c.args.row ≡ None = rw (← c.get.ensures) (sym c.in-None.ensures.value) in
    none_blocks c.self.inside.rows c.empty.result.0 c.args.session.0 c.args.row c.args.mode c.empty.ensures.none (λ n. ap (mode_at n) free)
    ∙ (row_blockers_by c.self.inside.rows (items_of c.self.inside.logs) c.args.session.0 c.args.row c.args.mode c.self.invariant
    ∙ ap (λ (l : Logs). row_blockers c.args.session.0 (all_holdings l) c.args.row c.args.mode) c.self.view_is)

pub returns-in-Some : goal.returns-in-Some
returns-in-Some c =
    let there : Some c.in-Some.modes.now ≡ get nat_cmp c.self.inside.rows c.args.row = rw (← c.get.ensures) c.in-Some.ensures.value in
    (c.blockers_among.ensures ∙ ap (λ (found : Option Holders). filter (λ n. not (n == c.args.session.0) && conflicts_with c.args.mode (mode_at n found)) all_sessions) there)
    ∙ (row_blockers_by c.self.inside.rows (items_of c.self.inside.logs) c.args.session.0 c.args.row c.args.mode c.self.invariant
    ∙ ap (λ (l : Logs). row_blockers c.args.session.0 (all_holdings l) c.args.row c.args.mode) c.self.view_is)
