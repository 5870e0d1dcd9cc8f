use Rattle.std.proofs.Common.{◌≡◌, Some, take, drop}
use Rattle.aq_simple.specs.Forms.{simple_statements}
use Rattle.aq_simple.specs.Simple.{line_not, keeps_setup, setup_line}
use Rattle.aq_simple.proofs.lines.kept_setup.Given as goal

abbrev pub invariant-loop-placed : goal.invariant-loop-placed
invariant-loop-placed l =
    record {
      simple : simple_statements (take l.placed-index l.setup) ≡ Some l.kept;
      line : line_not keeps_setup (take l.placed-index l.setup) (drop l.placed-index l.setup) ≡ setup_line l.setup;
    }
