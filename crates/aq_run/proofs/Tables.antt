-- The rows of each table at the end of a run, in the order of their numbers.
use Rattle.std.proofs.Common.{List, map}
use Rattle.std.specs.List.{enumerate_from}
use Rattle.aq_base.specs.Values.{Row}
use Rattle.aq_base.specs.Databases.{rows_of, last_database}
use Rattle.aq_run.specs.Programs.{Program}
use Rattle.aq_run.specs.States.{State}

abbrev pub final_tables : Program → State → List (List Row)
final_tables program st =
    map (λ table. map (λ entry. entry.1.values) (rows_of table.0 (last_database st.world.history))) (enumerate_from 0 program.schema.catalog.tables)
