use Rattle.std.proofs.Common.{◌≡◌, ◌≤◌, [], take, drop}
use Rattle.std.specs.Prelude.{sum_by}
use Rattle.aq_simple.specs.Simple.{line_not, keeps_session, rows_of}
use Rattle.aq_simple.proofs.lines.keep_session.Given as goal

abbrev pub invariant-loop-placed : goal.invariant-loop-placed
invariant-loop-placed l =
    record {
      total : l.rows ≡ sum_by rows_of (take l.placed-index l.statements);
      limit : l.rows ≤ 1000;
      line : line_not (keeps_session l.setup) (take l.placed-index l.statements) (drop l.placed-index l.statements) ≡ line_not (keeps_session l.setup) [] l.statements;
    }
