use Rattle.std.proofs.Common.{◌≡◌, ◌<◌, [], ◌∷◌, ◌++◌, true, false, length, map, sym, ap, ◌∙◌, arith}
use Rattle.std.specs.Prelude.{slice_index_or}
use Rattle.aq_base.specs.Maps.{at}
use Rattle.aq_locks.specs.Logs.{holdings_of, covers}
use Rattle.aq_locks.specs.Rows.{items_of, locks_of, mode_in, IsLocks}
use Rattle.aq_locks.specs.declared.log.Taken.{Taken}
use Rattle.aq_locks.proofs.Held.{held_more, logged_more}
use Rattle.aq_locks.proofs.Sessions.{locks_changed, locks_kept, covers_shown, covered_shown, pushed_shown}
use Rattle.aq_locks.proofs.log.take_lock.Goals as goal

pub returns-then-covers-clause-ok : goal.returns-then-covers-clause-ok
returns-then-covers-clause-ok c =
    let so : covers (mode_in c.args.rows.now c.args.row c.args.session) c.args.mode ≡ true = ap (λ held. covers held c.args.mode) (sym c.mode_of-before.ensures) ∙ (sym c.covers.ensures ∙ c.if-covers.true) in
    covered_shown (items_of c.args.logs.now) c.args.session c.args.row c.args.mode
    (covers_shown c.args.rows.now (items_of c.args.logs.now) c.args.session c.args.row c.args.mode true c.requires.locks c.requires.session so)

pub returns-in-Ok-clause-locks : goal.returns-in-Ok-clause-locks
returns-in-Ok-clause-locks c =
    let t : Taken = record { row = c.args.row; mode = c.args.mode; before = c.mode_of-before.result } in
    let items = items_of c.args.logs.now in
    let log = slice_index_or items c.args.session [] in
    let kept : IsLocks c.add_row.new.rows items = locks_kept c.args.rows.now c.add_row.new.rows items c.requires.locks (λ row s. c.in_ok-add_row.ensures.keeps row s) in
    let was : t.before ≡ at t.row (holdings_of (locks_of log)) = c.mode_of-before.ensures ∙ c.requires.locks.held c.args.session c.requires.session c.args.row in
    let so : covers (at t.row (holdings_of (locks_of log))) t.mode ≡ false = ap (λ held. covers held c.args.mode) (sym was) ∙ (sym c.covers.ensures ∙ c.if-covers.false) in
    let held = held_more c.add_row.new.rows c.set_mode.new.rows c.args.session log t c.set_mode.ensures (kept.held c.args.session c.requires.session) so in
    let logged = logged_more log t (kept.logged c.args.session c.requires.session) was in
    rw c.in-Ok.ensures.ok (locks_changed c.add_row.new.rows c.set_mode.new.rows items c.args.session (log ++ t ∷ []) kept c.requires.session held logged c.set_mode.ensures.others)

pub returns-in-Ok-clause-ok : goal.returns-in-Ok-clause-ok
returns-in-Ok-clause-ok c =
    let so : covers (mode_in c.args.rows.now c.args.row c.args.session) c.args.mode ≡ false = ap (λ held. covers held c.args.mode) (sym c.mode_of-before.ensures) ∙ (sym c.covers.ensures ∙ c.if-covers.false) in
    let within : c.args.session < length (items_of c.args.logs.now) = let l = c.requires.locks.sessions in let s = c.requires.session in omega arith in
    ap (λ items. map locks_of items) c.in-Ok.ensures.ok
    ∙ pushed_shown (items_of c.args.logs.now) c.args.session (record { row = c.args.row; mode = c.args.mode; before = c.mode_of-before.result }) within
    (covers_shown c.args.rows.now (items_of c.args.logs.now) c.args.session c.args.row c.args.mode false c.requires.locks c.requires.session so)

pub returns-in-Err-clause-locks : goal.returns-in-Err-clause-locks
returns-in-Err-clause-locks c =
    rw c.in-Err.ensures.err (locks_kept c.args.rows.now c.drop_free.new.rows (items_of c.args.logs.now) c.requires.locks
    (λ row s. c.drop_free.ensures row s ∙ c.in_ok-add_row.ensures.keeps row s))
