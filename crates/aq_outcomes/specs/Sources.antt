-- The rows that a statement works on: the new rows of an INSERT, the targets of an UPDATE or DELETE, the new version of an UPDATE.
use Rattle.std.specs.Prelude.{ℕ, Bool, true, false, ◌==◌, List, [], ◌∷◌, map, Option, Some, None, Result, Ok, Err, find, slice_get, slice_set}
use Rattle.std.specs.List.{enumerate_from}
use Rattle.aq_base.specs.Values.{Row, values_at}
use Rattle.aq_base.specs.Terms.{Term}
use Rattle.aq_base.specs.Statements.{Given, Insert, Assignment}
use Rattle.aq_base.specs.Statements.Given.{Value_of, Its_default}
use Rattle.aq_base.specs.Statements.Source.{Values, Query}
use Rattle.aq_base.specs.Databases.{Database, rows_of}
use Rattle.aq_base.specs.Transitions.{Transition, old_rows_of, new_rows_of}
use Rattle.aq_base.specs.declared.value.Value.{Value}
use Rattle.aq_base.specs.declared.script.Kind.{Kind}
use Rattle.aq_base.specs.declared.bound_data.BoundFrom.{BoundFrom}
use Rattle.aq_base.specs.declared.bound_data.BoundFrom.TheVariants as tables
use Rattle.aq_base.specs.declared.catalog.Column.{Column}
use Rattle.aq_expr.specs.Operators.{Answer, stored}
use Rattle.aq_expr.specs.Evaluation.{Surroundings, term_value}
use Rattle.aq_outcomes.specs.Queued.{condition_holds}
use Rattle.aq_outcomes.specs.References.{default_of, with_first}

-- the first item without a value decides
abbrev pub with_item : {A : Type 0} → Result A Kind → Result (List A) Kind → Result (List A) Kind
with_item (Err kind) others = Err kind
with_item (Ok item) (Err kind) = Err kind
with_item (Ok item) (Ok others) = Ok (item ∷ others)

-- ---- values

-- a value as a column keeps it
abbrev pub kept_in : Option Column → Answer → Answer
kept_in None answer = answer
kept_in (Some col) (Ok value) = stored value col.kind
kept_in (Some col) (Err kind) = Err kind

abbrev pub given_value : Surroundings → Option Column → Given → Answer
given_value around col (Value_of term) = kept_in col (term_value around term)
given_value around col Its_default = default_of col

-- ---- a row of an INSERT: the values that are given, in the order of the text, and then the defaults of the other columns

abbrev pub with_cell : ℕ → Answer → Result (List (ℕ × Value)) Kind → Result (List (ℕ × Value)) Kind
with_cell col (Err kind) cells = Err kind
with_cell col (Ok value) (Err kind) = Err kind
with_cell col (Ok value) (Ok cells) = Ok ((col, value) ∷ cells)

abbrev pub given_cells : Surroundings → List Column → List ℕ → List Given → Result (List (ℕ × Value)) Kind
given_cells around cols (n ∷ numbers) (given ∷ others) = with_cell n (given_value around (slice_get cols n) given) (given_cells around cols numbers others)
given_cells around cols _ _ = Ok []

abbrev pub cell_or_default : List (ℕ × Value) → ℕ × Column → Answer
cell_or_default cells entry =
    elim (find (λ cell. cell.0 == entry.0) cells) [ Some cell ↦ Ok cell.1 | None ↦ default_of (Some entry.1) ]

abbrev pub completed_from : List (ℕ × Value) → List (ℕ × Column) → Result Row Kind
completed_from cells [] = Ok []
completed_from cells (entry ∷ others) = with_first (cell_or_default cells entry) (completed_from cells others)

abbrev pub completed : List Column → Result (List (ℕ × Value)) Kind → Result Row Kind
completed cols (Err kind) = Err kind
completed cols (Ok cells) = completed_from cells (enumerate_from 0 cols)

-- the first columns of the table, where none are named
abbrev pub target_columns : List Column → Option (List ℕ) → List ℕ
target_columns cols None = map (λ entry. entry.0) (enumerate_from 0 cols)
target_columns cols (Some numbers) = numbers

abbrev pub inserted_row : Surroundings → List Column → Option (List ℕ) → List Given → Result Row Kind
inserted_row around cols numbers givens = completed cols (given_cells around cols (target_columns cols numbers) givens)

abbrev pub inserted_rows : Surroundings → List Column → Option (List ℕ) → List (List Given) → Result (List Row) Kind
inserted_rows around cols numbers [] = Ok []
inserted_rows around cols numbers (givens ∷ others) =
    with_item (inserted_row around cols numbers givens) (inserted_rows around cols numbers others)

-- ---- the rows of a query

-- those of a table as the statement sees it, or of the transition set of the event whose body it stands in
abbrev pub query_rows : Database → Option Transition → BoundFrom → List Row
query_rows view set (tables.Table table) = map (λ entry. entry.1.values) (rows_of table view)
query_rows view set tables.OldTable = old_rows_of set
query_rows view set tables.NewTable = new_rows_of set

abbrev pub on_row : Surroundings → Row → Surroundings
on_row around row = record around { row = Some row }

-- a row that doesn't pass the condition gives none, and its values are not evaluated
abbrev pub with_passing : Result Bool Kind → Result Row Kind → Result (List Row) Kind → Result (List Row) Kind
with_passing (Err kind) row others = Err kind
with_passing (Ok false) row others = others
with_passing (Ok true) row others = with_item row others

abbrev pub queried_rows : Surroundings → List Column → Option (List ℕ) → List Given → Option Term → List Row → Result (List Row) Kind
queried_rows around cols numbers givens condition [] = Ok []
queried_rows around cols numbers givens condition (row ∷ others) =
    with_passing (condition_holds (on_row around row) condition) (inserted_row (on_row around row) cols numbers givens) (queried_rows around cols numbers givens condition others)

-- the new rows of an INSERT, or the kind of which a number is out of range
unfoldable pub new_rows : Surroundings → List Column → Database → Option Transition → Insert → Result (List Row) Kind
new_rows around cols view set insert =
    elim (insert.source) [
      | Values rows ↦ inserted_rows around cols insert.columns rows
      | Query values rows condition ↦ queried_rows around cols insert.columns (map Value_of values) condition (query_rows view set rows)
    ]

-- ---- the targets of the other statements: the rows of the table, by their numbers, for which the condition is true

abbrev pub with_target : ℕ → Result Bool Kind → Result (List ℕ) Kind → Result (List ℕ) Kind
with_target row (Err kind) others = Err kind
with_target row (Ok false) others = others
with_target row (Ok true) others = with_item (Ok row) others

abbrev pub targets_in : Surroundings → Option Term → Database → Result (List ℕ) Kind
targets_in around condition [] = Ok []
targets_in around condition (entry ∷ others) =
    with_target entry.0 (condition_holds (on_row around entry.1.values) condition) (targets_in around condition others)

unfoldable pub targets : Surroundings → ℕ → Option Term → Database → Result (List ℕ) Kind
targets around table condition view = targets_in around condition (rows_of table view)

-- ---- the new version of an UPDATE: every value is evaluated on the old one

abbrev pub put_cell : ℕ → Answer → Result Row Kind → Result Row Kind
put_cell col (Err kind) row = Err kind
put_cell col (Ok value) (Err kind) = Err kind
put_cell col (Ok value) (Ok row) = Ok (slice_set row col value)

abbrev pub assigned : Surroundings → List Column → List Assignment → Row → Result Row Kind
assigned around cols [] row = Ok row
assigned around cols (a ∷ others) row =
    put_cell a.column (given_value around (slice_get cols a.column) a.value) (assigned around cols others row)

abbrev pub new_version : Surroundings → List Column → List Assignment → Row → Result Row Kind
new_version around cols assignments row = assigned (on_row around row) cols assignments row

-- ---- what a SELECT shows of a row

abbrev pub shown : Option (List ℕ) → Row → Row
shown None row = row
shown (Some numbers) row = values_at numbers row
