use Rattle.std.proofs.Common.{◌≡◌, drop}
use Rattle.std.specs.List.{flat_map}
use Rattle.aq_setup.specs.Tables.{listed_twice}
use Rattle.aq_tables.proofs.tables.all_listed_twice.Given as goal

abbrev pub invariant-loop-c : goal.invariant-loop-c
invariant-loop-c l = flat_map listed_twice (drop l.c-index l.all) ≡ flat_map listed_twice l.all
