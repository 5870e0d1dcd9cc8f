-- Statements before a place stand for the catalog that they make, so that both keep the same names and limits.
use Rattle.std.proofs.Common.{◌≡◌, ℕ, suc, ◌+◌, ◌≤◌, ◌<◌, Bool, true, false, cond, not, ◌&&◌, ◌||◌, ltb, ◌==◌, nat_lt, nat_le, List, [], ◌∷◌, ◌++◌, length, map, Option, Some, None, refl, sym, ap, ◌∙◌, subst, arith, append_assoc, zero-add, add-zero}
use Rattle.std.specs.Prelude.{is_some, is_none, find, option_map, option_and_then, slice_get, sum_by}
use Rattle.std.specs.List.{list_all, list_any, position_or_len, position_from}
use Rattle.std.specs.Option.{option_or}
use Rattle.std.proofs.lemmas.Bool.{and_from, and_parts, both_ways, ltb-false, eq-eqb, ne_eqb}
use Rattle.std.proofs.lemmas.List.{length-map, map-append, append-nil, length-append}
use Rattle.std.proofs.lemmas.List.Folds.{find_at, list_any-append, list_all-append}
use Rattle.std.proofs.lemmas.List.Sums.{sum_by-cons, sum_by_push}
use Rattle.std.proofs.lemmas.Iterator.Adapters.{position_from-zero}
use Rattle.std.proofs.lemmas.Option.{slice_get_past}
use Rattle.aq_base.specs.Values.{Row}
use Rattle.aq_base.specs.Names.{Text, same_text, is_name, is_short, all_differ, primary_key_name, foreign_key_name}
use Rattle.aq_first_base.specs.Catalogs.{Catalog}
use Rattle.aq_first_base.specs.Setup.{no_tables, table_number, referred, is_primary, column_of, primary_items, adds_table, adds_key, adds_keys, adds_foreign_key, adds_reference, adds_references, creates, setup_from, catalog_of}
use Rattle.aq_first_base.specs.Scripts.{is_reference, constraint_fits, column_fits, with_keys, can_create, can_set_up, rows_fit, table_named, can_run, session_fits, rows_in_session, fits_first_language}
use Rattle.aq_first_base.specs.declared.catalog.Table.{Table}
use Rattle.aq_first_base.specs.declared.catalog.UniqueKey.{UniqueKey}
use Rattle.aq_first_base.specs.declared.catalog.ForeignKey.{ForeignKey}
use Rattle.aq_base.specs.declared.catalog.Decl.{Decl}
use Rattle.aq_first_base.specs.declared.simple.SimpleConstraint.{SimpleConstraint}
use Rattle.aq_first_base.specs.declared.simple.SimpleConstraint.TheVariants.{PrimaryKey, References}
use Rattle.aq_first_base.specs.declared.simple.SimpleColumn.{SimpleColumn}
use Rattle.aq_first_base.specs.declared.simple.SimpleStatement.{SimpleStatement}
use Rattle.aq_first_base.specs.declared.simple.SimpleStatement.TheVariants.{CreateTable, Insert, Delete, Begin, Commit, Rollback}
use Rattle.aq_first_base.specs.declared.simple.SimplePlaced.{SimplePlaced}
use Rattle.aq_first_base.specs.declared.simple.SimpleSession.{SimpleSession}
use Rattle.aq_first_base.specs.declared.simple.SimpleScript.{SimpleScript}
use Rattle.aq_simple.specs.Conditions.{created, items_named, items_with, primaries_in, references_in, has_primary, constraint_kept, column_kept, statement_references, references_before, create_kept, setup_kept, rows_kept, run_kept, session_kept, statements_in, script_kept}

-- ---- what statements make

abbrev is_create : SimpleStatement → Bool
is_create (CreateTable table items) = true
is_create (Insert table rows) = false
is_create (Delete table) = false
is_create Begin = false
is_create Commit = false
is_create Rollback = false

abbrev no_table : Table
no_table = record { name = []; cols = []; not_null = [] }

abbrev table_from : SimpleStatement → Table
table_from (CreateTable table items) = record { name = table; cols = map column_of items; not_null = primary_items 0 items }
table_from (Insert table rows) = no_table
table_from (Delete table) = no_table
table_from Begin = no_table
table_from Commit = no_table
table_from Rollback = no_table

abbrev tables_of : List SimplePlaced → List Table
tables_of earlier = map (λ placed. table_from placed.statement) earlier

abbrev key_of : ℕ → Text → ℕ → Option SimpleConstraint → List UniqueKey
key_of number table col None = []
key_of number table col (Some PrimaryKey) = record { name = primary_key_name table; table = number; cols = col ∷ [] } ∷ []
key_of number table col (Some (References parent decl)) = []

abbrev item_keys : ℕ → Text → ℕ → List SimpleColumn → List UniqueKey
item_keys number table col [] = []
item_keys number table col (item ∷ items) = key_of number table col item.constraint ++ item_keys number table (col + 1) items

abbrev statement_keys : ℕ → SimpleStatement → List UniqueKey
statement_keys number (CreateTable table items) = item_keys number table 0 items
statement_keys number (Insert table rows) = []
statement_keys number (Delete table) = []
statement_keys number Begin = []
statement_keys number Commit = []
statement_keys number Rollback = []

abbrev keys_from : ℕ → List SimplePlaced → List UniqueKey
keys_from number [] = []
keys_from number (placed ∷ others) = statement_keys number placed.statement ++ keys_from (number + 1) others

-- the tables and keys of a catalog are those that statements create
record IsMadeBy (earlier : List SimplePlaced) (cat : Catalog) : Type 0 where
  only : list_all (λ placed. is_create placed.statement) earlier ≡ true
  tables : cat.tables ≡ tables_of earlier
  keys : cat.keys ≡ keys_from 0 earlier

-- ---- looking up a table

abbrev is_named : Text → Table → Bool
is_named name table = same_text table.name name

number_is_none : (name : Text) (number : ℕ) (earlier : List SimplePlaced) → list_all (λ placed. is_create placed.statement) earlier ≡ true
    → is_none (position_from (is_named name) number (tables_of earlier)) ≡ is_none (items_named earlier name)
number_is_none name number [] only = refl
number_is_none name number (placed ∷ others) only = head placed.statement others only (number_is_none name (number + 1) others)
  where
    head : (statement : SimpleStatement) (others : List SimplePlaced) → (is_create statement && list_all (λ placed. is_create placed.statement) others) ≡ true
        → (list_all (λ placed. is_create placed.statement) others ≡ true → is_none (position_from (is_named name) (number + 1) (tables_of others)) ≡ is_none (items_named others name))
        → is_none (cond (is_named name (table_from statement)) (Some number) (position_from (is_named name) (number + 1) (tables_of others))) ≡ is_none (option_or (created name statement) (items_named others name))
    head (CreateTable table items) others only rest = elim (same_text table name) as (λ v. is_none (cond v (Some number) (position_from (is_named name) (number + 1) (tables_of others))) ≡ is_none (option_or (cond v (Some items) None) (items_named others name))) [
      | true ↦ refl
      | false ↦ rest only
    ]
    head (Insert table rows) others only rest = absurd cc
    head (Delete table) others only rest = absurd cc
    head Begin others only rest = absurd cc
    head Commit others only rest = absurd cc
    head Rollback others only rest = absurd cc

rows_are : (name : Text) (rows : List Row) (earlier : List SimplePlaced) → list_all (λ placed. is_create placed.statement) earlier ≡ true
    → rows_fit (find (is_named name) (tables_of earlier)) rows ≡ rows_kept (items_named earlier name) rows
rows_are name rows [] only = refl
rows_are name rows (placed ∷ others) only = head placed.statement others only (rows_are name rows others)
  where
    head : (statement : SimpleStatement) (others : List SimplePlaced) → (is_create statement && list_all (λ placed. is_create placed.statement) others) ≡ true
        → (list_all (λ placed. is_create placed.statement) others ≡ true → rows_fit (find (is_named name) (tables_of others)) rows ≡ rows_kept (items_named others name) rows)
        → rows_fit (cond (is_named name (table_from statement)) (Some (table_from statement)) (find (is_named name) (tables_of others))) rows ≡ rows_kept (option_or (created name statement) (items_named others name)) rows
    head (CreateTable table items) others only rest = elim (same_text table name) as (λ v. rows_fit (cond v (Some (table_from (CreateTable table items))) (find (is_named name) (tables_of others))) rows ≡ rows_kept (option_or (cond v (Some items) None) (items_named others name)) rows) [
      | true ↦ rw length-map refl
      | false ↦ rest only
    ]
    head (Insert table rows') others only rest = absurd cc
    head (Delete table) others only rest = absurd cc
    head Begin others only rest = absurd cc
    head Commit others only rest = absurd cc
    head Rollback others only rest = absurd cc

found_is : (name : Text) (cat : Catalog) → table_named cat name ≡ find (is_named name) cat.tables
found_is name cat = (elim (ltb (position_or_len (is_named name) cat.tables) (length cat.tables)) as
    (λ v. ltb (position_or_len (is_named name) cat.tables) (length cat.tables) ≡ v → on v ≡ find (is_named name) cat.tables) [
      | true ↦ λ e. sym (find_at (is_named name) cat.tables)
      | false ↦ λ e. sym (find_at (is_named name) cat.tables ∙ slice_get_past cat.tables (position_or_len (is_named name) cat.tables) (ltb-false _ _ e))
    ]) refl
  where
    number : Option ℕ → Option Table
    number None = None
    number (Some n) = slice_get cat.tables n

    on : Bool → Option Table
    on v = number (cond v (Some (position_or_len (is_named name) cat.tables)) None)

-- ---- looking up a key

or_false : (b : Bool) → (b || false) ≡ b
or_false true = refl
or_false false = refl

abbrev has_key : List UniqueKey → ℕ → Bool
has_key keys number = list_any (λ key. key.table == number) keys

is_some_any : (number : ℕ) (keys : List UniqueKey) → is_some (find (λ key. key.table == number) keys) ≡ has_key keys number
is_some_any number [] = refl
is_some_any number (key ∷ keys) = elim (key.table == number) as (λ v. is_some (cond v (Some key) (find (λ key. key.table == number) keys)) ≡ (v || has_key keys number)) [
  | true ↦ refl
  | false ↦ is_some_any number keys
]

key_there : (number : ℕ) (table : Text) (col : ℕ) (constraint : Option SimpleConstraint) → has_key (key_of number table col constraint) number ≡ is_primary constraint
key_there number table col None = refl
key_there number table col (Some PrimaryKey) = rw (eq-eqb number number refl) refl
key_there number table col (Some (References parent decl)) = refl

keys_there : (number : ℕ) (table : Text) (col : ℕ) (items : List SimpleColumn) → has_key (item_keys number table col items) number ≡ list_any (λ item. is_primary item.constraint) items
keys_there number table col [] = refl
keys_there number table col (item ∷ items) =
    list_any-append (λ key. key.table == number) (key_of number table col item.constraint) (item_keys number table (col + 1) items)
    ∙ rw (key_there number table col item.constraint, keys_there number table (col + 1) items) refl

key_apart : (number other : ℕ) (table : Text) (col : ℕ) (constraint : Option SimpleConstraint) → (number ≡ other → ⊥) → has_key (key_of number table col constraint) other ≡ false
key_apart number other table col None apart = refl
key_apart number other table col (Some PrimaryKey) apart = rw (ne_eqb number other apart) refl
key_apart number other table col (Some (References parent decl)) apart = refl

keys_apart : (number other : ℕ) (table : Text) (col : ℕ) (items : List SimpleColumn) → (number ≡ other → ⊥) → has_key (item_keys number table col items) other ≡ false
keys_apart number other table col [] apart = refl
keys_apart number other table col (item ∷ items) apart =
    list_any-append (λ key. key.table == other) (key_of number table col item.constraint) (item_keys number table (col + 1) items)
    ∙ rw (key_apart number other table col item.constraint apart, keys_apart number other table (col + 1) items apart) refl

statement_apart : (number other : ℕ) (statement : SimpleStatement) → (number ≡ other → ⊥) → has_key (statement_keys number statement) other ≡ false
statement_apart number other (CreateTable table items) apart = keys_apart number other table 0 items apart
statement_apart number other (Insert table rows) apart = refl
statement_apart number other (Delete table) apart = refl
statement_apart number other Begin apart = refl
statement_apart number other Commit apart = refl
statement_apart number other Rollback apart = refl

keys_later : (number other : ℕ) (earlier : List SimplePlaced) → other < number → has_key (keys_from number earlier) other ≡ false
keys_later number other [] less = refl
keys_later number other (placed ∷ others) less =
    let apart : number ≡ other → ⊥ = λ e. omega (arith, e) in
    list_any-append (λ key. key.table == other) (statement_keys number placed.statement) (keys_from (number + 1) others)
    ∙ rw (statement_apart number other placed.statement apart, keys_later (number + 1) other others (omega arith)) refl

-- whether a table of a number has a key
abbrev keyed : List UniqueKey → Option ℕ → Bool
keyed keys None = false
keyed keys (Some number) = has_key keys number

keyed_is : (name : Text) (number : ℕ) (keys : List UniqueKey) (earlier : List SimplePlaced) → list_all (λ placed. is_create placed.statement) earlier ≡ true
    → ((other : ℕ) → number ≤ other → has_key keys other ≡ has_key (keys_from number earlier) other)
    → keyed keys (position_from (is_named name) number (tables_of earlier)) ≡ has_primary (items_named earlier name)
keyed_is name number keys [] only same = refl
keyed_is name number keys (placed ∷ others) only same = head placed.statement only same (keyed_is name (number + 1) keys others)
  where
    head : (statement : SimpleStatement) → (is_create statement && list_all (λ placed. is_create placed.statement) others) ≡ true
        → ((other : ℕ) → number ≤ other → has_key keys other ≡ has_key (statement_keys number statement ++ keys_from (number + 1) others) other)
        → (list_all (λ placed. is_create placed.statement) others ≡ true → ((other : ℕ) → number + 1 ≤ other → has_key keys other ≡ has_key (keys_from (number + 1) others) other) → keyed keys (position_from (is_named name) (number + 1) (tables_of others)) ≡ has_primary (items_named others name))
        → keyed keys (cond (is_named name (table_from statement)) (Some number) (position_from (is_named name) (number + 1) (tables_of others))) ≡ has_primary (option_or (created name statement) (items_named others name))
    head (CreateTable table items) only same rest =
        let later : (other : ℕ) → number + 1 ≤ other → has_key keys other ≡ has_key (keys_from (number + 1) others) other = λ other le.
        let apart : number ≡ other → ⊥ = λ e. omega (arith, e) in
        same other (omega arith) ∙ (list_any-append (λ key. key.table == other) (item_keys number table 0 items) (keys_from (number + 1) others) ∙ rw (keys_apart number other table 0 items apart) refl) in
        let own : has_key keys number ≡ list_any (λ item. is_primary item.constraint) items =
        same number (omega arith) ∙ (list_any-append (λ key. key.table == number) (item_keys number table 0 items) (keys_from (number + 1) others)
        ∙ rw (keys_there number table 0 items, keys_later (number + 1) number others (omega arith)) (or_false _)) in
        elim (same_text table name) as (λ v. keyed keys (cond v (Some number) (position_from (is_named name) (number + 1) (tables_of others))) ≡ has_primary (option_or (cond v (Some items) None) (items_named others name))) [
          | true ↦ own
          | false ↦ rest only later
        ]
    head (Insert table rows) only same rest = absurd cc
    head (Delete table) only same rest = absurd cc
    head Begin only same rest = absurd cc
    head Commit only same rest = absurd cc
    head Rollback only same rest = absurd cc

referred_is : (name : Text) (keys : List UniqueKey) (number : Option ℕ)
    → is_some {T = ℕ × List ℕ} (option_and_then (λ number. option_map (λ cols. (number, cols)) (option_map (λ k. k.cols) (find (λ k. k.table == number) keys))) number) ≡ keyed keys number
referred_is name keys None = refl
referred_is name keys (Some number) = some_mapped (find (λ k. k.table == number) keys) ∙ is_some_any number keys
  where
    some_mapped : (found : Option UniqueKey) → is_some {T = ℕ × List ℕ} (option_map (λ cols. (number, cols)) (option_map (λ k. k.cols) found)) ≡ is_some found
    some_mapped None = refl
    some_mapped (Some key) = refl

-- ---- what both say of a name

module _ (earlier : List SimplePlaced) (cat : Catalog) (made : IsMadeBy earlier cat) (name : Text) where
  none_same : is_none (table_number name cat) ≡ is_none (items_named earlier name)
  none_same = ap (λ (o : Option ℕ). is_none o) (position_from-zero (is_named name) cat.tables)
      ∙ (ap (λ (ts : List Table). is_none (position_from (is_named name) 0 ts)) made.tables ∙ number_is_none name 0 earlier made.only)

  rows_same : (rows : List Row) → rows_fit (table_named cat name) rows ≡ rows_kept (items_named earlier name) rows
  rows_same rows = ap (λ (o : Option Table). rows_fit o rows) (found_is name cat ∙ ap (λ (ts : List Table). find (is_named name) ts) made.tables) ∙ rows_are name rows earlier made.only

  referred_same : is_some (referred name cat) ≡ has_primary (items_named earlier name)
  referred_same = referred_is name cat.keys (table_number name cat)
      ∙ (ap (λ (o : Option ℕ). keyed cat.keys o) (position_from-zero (is_named name) cat.tables ∙ ap (λ (ts : List Table). position_from (is_named name) 0 ts) made.tables)
      ∙ (ap (λ (ks : List UniqueKey). keyed ks (position_from (is_named name) 0 (tables_of earlier))) made.keys
      ∙ keyed_is name 0 (keys_from 0 earlier) earlier made.only (λ other le. refl)))

-- ---- a table's keys and foreign keys

record AddsKeys (old new : Catalog) (keys : List UniqueKey) : Type 0 where
  tables : new.tables ≡ old.tables
  keys_are : new.keys ≡ old.keys ++ keys
  fks : new.fks ≡ old.fks

key_added : (number : ℕ) (table : Text) (col : ℕ) (constraint : Option SimpleConstraint) (cat : Catalog) → AddsKeys cat (adds_key number table col constraint cat) (key_of number table col constraint)
key_added number table col None cat = record { tables = refl; keys_are = sym (append-nil cat.keys); fks = refl }
key_added number table col (Some PrimaryKey) cat = record { tables = refl; keys_are = refl; fks = refl }
key_added number table col (Some (References parent decl)) cat = record { tables = refl; keys_are = sym (append-nil cat.keys); fks = refl }

keys_added : (number : ℕ) (table : Text) (col : ℕ) (items : List SimpleColumn) (cat : Catalog) → AddsKeys cat (adds_keys number table col items cat) (item_keys number table col items)
keys_added number table col [] cat = record { tables = refl; keys_are = sym (append-nil cat.keys); fks = refl }
keys_added number table col (item ∷ items) cat =
    let a = key_added number table col item.constraint cat in
    let b = keys_added number table (col + 1) items (adds_key number table col item.constraint cat) in
    record {
      tables = b.tables ∙ a.tables;
      keys_are = b.keys_are ∙ (ap (λ (ks : List UniqueKey). ks ++ item_keys number table (col + 1) items) a.keys_are ∙ append_assoc cat.keys (key_of number table col item.constraint) (item_keys number table (col + 1) items));
      fks = b.fks ∙ a.fks;
    }

record AddsReferences (old new : Catalog) (count : ℕ) : Type 0 where
  tables : new.tables ≡ old.tables
  keys : new.keys ≡ old.keys
  fks : length new.fks ≡ length old.fks + count

abbrev reference_there : (Text → Bool) → Option SimpleConstraint → Bool
reference_there there None = true
reference_there there (Some PrimaryKey) = true
reference_there there (Some (References parent decl)) = there parent

foreign_key_added : (number : ℕ) (table : Text) (col : ℕ) (name : Text) (decl : Decl) (parent : Option (ℕ × List ℕ)) (cat : Catalog) → is_some parent ≡ true → AddsReferences cat (adds_foreign_key number table col name decl parent cat) 1
foreign_key_added number table col name decl None cat there = absurd cc
foreign_key_added number table col name decl (Some parent) cat there = record { tables = refl; keys = refl; fks = length-append cat.fks _ }

reference_added : (number : ℕ) (table : Text) (col : ℕ) (name : Text) (constraint : Option SimpleConstraint) (cat : Catalog) → reference_there (λ parent. is_some (referred parent cat)) constraint ≡ true
    → AddsReferences cat (adds_reference number table col name constraint cat) (cond (is_reference constraint) 1 0)
reference_added number table col name None cat there = record { tables = refl; keys = refl; fks = omega arith }
reference_added number table col name (Some PrimaryKey) cat there = record { tables = refl; keys = refl; fks = omega arith }
reference_added number table col name (Some (References parent decl)) cat there = foreign_key_added number table col name decl (referred parent cat) cat there

still_there : (old new : Catalog) (constraint : Option SimpleConstraint) → new.tables ≡ old.tables → new.keys ≡ old.keys → reference_there (λ parent. is_some (referred parent old)) constraint ≡ true → reference_there (λ parent. is_some (referred parent new)) constraint ≡ true
still_there old new None tables keys there = refl
still_there old new (Some PrimaryKey) tables keys there = refl
still_there old new (Some (References parent decl)) tables keys there = rw (tables, keys) there

all_still_there : (old new : Catalog) (items : List SimpleColumn) → new.tables ≡ old.tables → new.keys ≡ old.keys → list_all (λ item. reference_there (λ parent. is_some (referred parent old)) item.constraint) items ≡ true
    → list_all (λ item. reference_there (λ parent. is_some (referred parent new)) item.constraint) items ≡ true
all_still_there old new [] tables keys there = refl
all_still_there old new (item ∷ items) tables keys there =
    let p = and_parts (reference_there (λ parent. is_some (referred parent old)) item.constraint) _ there in
    and_from _ _ (still_there old new item.constraint tables keys p.0) (all_still_there old new items tables keys p.1)

references_added : (number : ℕ) (table : Text) (col : ℕ) (items : List SimpleColumn) (cat : Catalog) → list_all (λ item. reference_there (λ parent. is_some (referred parent cat)) item.constraint) items ≡ true
    → AddsReferences cat (adds_references number table col items cat) (references_in items)
references_added number table col [] cat there = record { tables = refl; keys = refl; fks = omega arith }
references_added number table col (item ∷ items) cat there =
    let p = and_parts (reference_there (λ parent. is_some (referred parent cat)) item.constraint) (list_all (λ item. reference_there (λ parent. is_some (referred parent cat)) item.constraint) items) there in
    let next : Catalog = adds_reference number table col item.name item.constraint cat in
    let a = reference_added number table col item.name item.constraint cat p.0 in
    let b = references_added number table (col + 1) items next (all_still_there cat next items a.tables a.keys p.1) in
    let count : references_in (item ∷ items) ≡ cond (is_reference item.constraint) 1 0 + references_in items = sum_by-cons (λ (item : SimpleColumn). cond (is_reference item.constraint) 1 0) item items in
    record { tables = b.tables ∙ a.tables; keys = b.keys ∙ a.keys; fks = omega (arith, b.fks, a.fks, count) }

tables_len : (earlier : List SimplePlaced) (cat : Catalog) → IsMadeBy earlier cat → length cat.tables ≡ length earlier
tables_len earlier cat made = ap (λ (ts : List Table). length ts) made.tables ∙ length-map earlier (λ placed. table_from placed.statement)

-- ---- one more table, with its keys

keys_from-push : (number : ℕ) (earlier : List SimplePlaced) (placed : SimplePlaced) → keys_from number (earlier ++ placed ∷ []) ≡ keys_from number earlier ++ statement_keys (number + length earlier) placed.statement
keys_from-push number [] placed = rw add-zero (append-nil (statement_keys number placed.statement))
keys_from-push number (first ∷ others) placed =
    let e : number + 1 + length others ≡ number + suc (length others) = omega arith in
    ap (λ (ks : List UniqueKey). statement_keys number first.statement ++ ks) (keys_from-push (number + 1) others placed)
    ∙ (sym (append_assoc (statement_keys number first.statement) (keys_from (number + 1) others) (statement_keys (number + 1 + length others) placed.statement))
    ∙ ap (λ (n : ℕ). (statement_keys number first.statement ++ keys_from (number + 1) others) ++ statement_keys n placed.statement) e)

or_none : {A : Type 0} (o : Option A) → option_or o None ≡ o
or_none None = refl
or_none (Some x) = refl

or_later : {A : Type 0} (first second third more : Option A) → more ≡ option_or second third → option_or first more ≡ option_or (option_or first second) third
or_later None second third more e = e
or_later (Some x) second third more e = refl

items_pushed : (name : Text) (earlier : List SimplePlaced) (placed : SimplePlaced) → items_named (earlier ++ placed ∷ []) name ≡ option_or (items_named earlier name) (created name placed.statement)
items_pushed name [] placed = or_none (created name placed.statement)
items_pushed name (first ∷ others) placed =
    or_later (created name first.statement) (items_named others name) (created name placed.statement) (items_named (others ++ placed ∷ []) name) (items_pushed name others placed)

all_create-push : (earlier : List SimplePlaced) (placed : SimplePlaced) → list_all (λ placed. is_create placed.statement) earlier ≡ true → is_create placed.statement ≡ true → list_all (λ placed. is_create placed.statement) (earlier ++ placed ∷ []) ≡ true
all_create-push earlier placed only new =
    list_all-append (λ (placed : SimplePlaced). is_create placed.statement) earlier (placed ∷ []) ∙ rw (only, new) refl

with_keys_made : (earlier : List SimplePlaced) (cat : Catalog) (line : ℕ) (table : Text) (items : List SimpleColumn) → IsMadeBy earlier cat
    → IsMadeBy (earlier ++ record { line = line; statement = CreateTable table items } ∷ []) (with_keys cat table items)
with_keys_made earlier cat line table items made =
    let placed : SimplePlaced = record { line = line; statement = CreateTable table items } in
    let number : ℕ = length cat.tables in
    let added = keys_added number table 0 items (adds_table table items cat) in
    let number_is : number ≡ length earlier = tables_len earlier cat made in
    record {
      only = all_create-push earlier placed made.only refl;
      tables = added.tables ∙ (ap (λ (ts : List Table). ts ++ table_from (CreateTable table items) ∷ []) made.tables ∙ sym (map-append (λ (placed : SimplePlaced). table_from placed.statement) earlier (placed ∷ [])));
      keys = added.keys_are ∙ (ap (λ (ks : List UniqueKey). ks ++ item_keys number table 0 items) made.keys
          ∙ (ap (λ (n : ℕ). keys_from 0 earlier ++ item_keys n table 0 items) (number_is ∙ sym (zero-add (length earlier))) ∙ sym (keys_from-push 0 earlier placed)));
    }

-- ---- both keep the same

record Stands (earlier : List SimplePlaced) (cat : Catalog) : Type 0 where
  made : IsMadeBy earlier cat
  fks : length cat.fks ≡ references_before earlier

reference_same : (earlier : List SimplePlaced) (cat : Catalog) (line : ℕ) (table : Text) (items : List SimpleColumn) → IsMadeBy (earlier ++ record { line = line; statement = CreateTable table items } ∷ []) cat
    → (parent : Text) → has_primary (items_with earlier table items parent) ≡ is_some (referred parent cat)
reference_same earlier cat line table items made parent =
    let placed : SimplePlaced = record { line = line; statement = CreateTable table items } in
    sym (referred_same (earlier ++ placed ∷ []) cat made parent ∙ ap (λ (o : Option (List SimpleColumn)). has_primary o) (items_pushed parent earlier placed))

constraint_same : (earlier : List SimplePlaced) (cat : Catalog) (line : ℕ) (table : Text) (items : List SimpleColumn) → IsMadeBy (earlier ++ record { line = line; statement = CreateTable table items } ∷ []) cat
    → (col : Text) (constraint : Option SimpleConstraint) → constraint_kept earlier table items col constraint ≡ constraint_fits cat table col constraint
constraint_same earlier cat line table items made col None = refl
constraint_same earlier cat line table items made col (Some PrimaryKey) = refl
constraint_same earlier cat line table items made col (Some (References parent decl)) =
    ap (λ (there : Bool). there && is_short (foreign_key_name table col)) (reference_same earlier cat line table items made parent)

columns_same : (earlier : List SimplePlaced) (cat : Catalog) (line : ℕ) (table : Text) (items : List SimpleColumn) → IsMadeBy (earlier ++ record { line = line; statement = CreateTable table items } ∷ []) cat
    → (some : List SimpleColumn) → list_all (column_kept earlier table items) some ≡ list_all (column_fits cat table) some
columns_same earlier cat line table items made [] = refl
columns_same earlier cat line table items made (item ∷ others) =
    ap (λ (fits : Bool). fits && list_all (column_kept earlier table items) others) (constraint_same earlier cat line table items made item.name item.constraint)
    ∙ ap (λ (rest : Bool). column_fits cat table item && rest) (columns_same earlier cat line table items made others)

create_same : (earlier : List SimplePlaced) (cat : Catalog) → Stands earlier cat → (table : Text) (items : List SimpleColumn) → create_kept earlier table items ≡ can_create cat table items
create_same earlier cat stands table items =
    let none = sym (none_same earlier cat stands.made table) in
    let tables = sym (tables_len earlier cat stands.made) in
    let keyed : Catalog = with_keys cat table items in
    let columns = columns_same earlier keyed 0 table items (with_keys_made earlier cat 0 table items stands.made) items in
    let fks = sym stands.fks in
    let short : Bool = nat_le (length items) 32 in
    let differ : Bool = all_differ (map (λ item. item.name) items) in
    let primary : Bool = nat_le (primaries_in items) 1 in
    ap (λ (a : Bool). a && nat_lt (length earlier) 64 && short && differ && list_all (column_kept earlier table items) items && primary && nat_le (references_before earlier + references_in items) 128) none
    ∙ (ap (λ (n : ℕ). is_none (table_number table cat) && nat_lt n 64 && short && differ && list_all (column_kept earlier table items) items && primary && nat_le (references_before earlier + references_in items) 128) tables
    ∙ (ap (λ (b : Bool). is_none (table_number table cat) && nat_lt (length cat.tables) 64 && short && differ && b && primary && nat_le (references_before earlier + references_in items) 128) columns
    ∙ ap (λ (k : ℕ). is_none (table_number table cat) && nat_lt (length cat.tables) 64 && short && differ && list_all (column_fits keyed table) items && primary && nat_le (k + references_in items) 128) fks))

-- ---- one more statement

constraint_there : (earlier : List SimplePlaced) (cat : Catalog) (line : ℕ) (table : Text) (items : List SimpleColumn) → IsMadeBy (earlier ++ record { line = line; statement = CreateTable table items } ∷ []) cat
    → (col : Text) (constraint : Option SimpleConstraint) → constraint_kept earlier table items col constraint ≡ true → reference_there (λ parent. is_some (referred parent cat)) constraint ≡ true
constraint_there earlier cat line table items made col None kept = refl
constraint_there earlier cat line table items made col (Some PrimaryKey) kept = refl
constraint_there earlier cat line table items made col (Some (References parent decl)) kept =
    sym (reference_same earlier cat line table items made parent) ∙ (and_parts (has_primary (items_with earlier table items parent)) (is_short (foreign_key_name table col)) kept).0

columns_there : (earlier : List SimplePlaced) (cat : Catalog) (line : ℕ) (table : Text) (items : List SimpleColumn) → IsMadeBy (earlier ++ record { line = line; statement = CreateTable table items } ∷ []) cat
    → (some : List SimpleColumn) → list_all (column_kept earlier table items) some ≡ true → list_all (λ item. reference_there (λ parent. is_some (referred parent cat)) item.constraint) some ≡ true
columns_there earlier cat line table items made [] kept = refl
columns_there earlier cat line table items made (item ∷ others) kept =
    let p = and_parts (column_kept earlier table items item) (list_all (column_kept earlier table items) others) kept in
    and_from _ _ (constraint_there earlier cat line table items made item.name item.constraint p.0) (columns_there earlier cat line table items made others p.1)

columns_of_kept : (earlier : List SimplePlaced) (table : Text) (items : List SimpleColumn) → create_kept earlier table items ≡ true → list_all (column_kept earlier table items) items ≡ true
columns_of_kept earlier table items kept =
    let first : Bool = is_none (items_named earlier table) && nat_lt (length earlier) 64 && nat_le (length items) 32 && all_differ (map (λ item. item.name) items) in
    let a = and_parts (first && list_all (column_kept earlier table items) items && nat_le (primaries_in items) 1) (nat_le (references_before earlier + references_in items) 128) kept in
    let b = and_parts (first && list_all (column_kept earlier table items) items) (nat_le (primaries_in items) 1) a.0 in
    (and_parts first (list_all (column_kept earlier table items) items) b.0).1

created_stands : (earlier : List SimplePlaced) (cat : Catalog) (line : ℕ) (table : Text) (items : List SimpleColumn) → Stands earlier cat → create_kept earlier table items ≡ true
    → Stands (earlier ++ record { line = line; statement = CreateTable table items } ∷ []) (creates table items cat)
created_stands earlier cat line table items stands kept =
    let placed : SimplePlaced = record { line = line; statement = CreateTable table items } in
    let number : ℕ = length cat.tables in
    let two : Catalog = with_keys cat table items in
    let then = with_keys_made earlier cat line table items stands.made in
    let there = columns_there earlier two line table items then items (columns_of_kept earlier table items kept) in
    let refs = references_added number table 0 items two there in
    let sum : references_before (earlier ++ placed ∷ []) ≡ references_before earlier + references_in items = sum_by_push (λ (placed : SimplePlaced). statement_references placed.statement) earlier placed in
    let before : length two.fks ≡ length cat.fks = ap (λ (fks : List ForeignKey). length fks) (keys_added number table 0 items (adds_table table items cat)).fks in
    record {
      made = record { only = then.only; tables = refs.tables ∙ then.tables; keys = refs.keys ∙ then.keys };
      fks = refs.fks ∙ (ap (λ (n : ℕ). n + references_in items) (before ∙ stands.fks) ∙ sym sum);
    }

-- ---- all of a setup

record SetsUp (earlier setup : List SimplePlaced) (cat : Catalog) : Type 0 where
  same : setup_kept earlier setup ≡ can_set_up cat setup
  stands : setup_kept earlier setup ≡ true → Stands (earlier ++ setup) (setup_from cat setup)

sets_up_created : (earlier : List SimplePlaced) (cat : Catalog) (line : ℕ) (table : Text) (items : List SimpleColumn) (others : List SimplePlaced) → Stands earlier cat
    → ((stands : Stands (earlier ++ record { line = line; statement = CreateTable table items } ∷ []) (creates table items cat)) → SetsUp (earlier ++ record { line = line; statement = CreateTable table items } ∷ []) others (creates table items cat))
    → (kept : Bool) → create_kept earlier table items ≡ kept → SetsUp earlier (record { line = line; statement = CreateTable table items } ∷ others) cat
sets_up_created earlier cat line table items others stands later true kept =
    let placed : SimplePlaced = record { line = line; statement = CreateTable table items } in
    let can : can_create cat table items ≡ true = sym (create_same earlier cat stands table items) ∙ kept in
    let rest = later (created_stands earlier cat line table items stands kept) in
    record {
      same = ap (λ (b : Bool). b && setup_kept (earlier ++ placed ∷ []) others) kept ∙ (rest.same ∙ sym (ap (λ (b : Bool). b && can_set_up (creates table items cat) others) can));
      stands = λ h. subst (λ (ps : List SimplePlaced). Stands ps (setup_from (creates table items cat) others)) (append_assoc earlier (placed ∷ []) others)
          (rest.stands (sym (ap (λ (b : Bool). b && setup_kept (earlier ++ placed ∷ []) others) kept) ∙ h));
    }
sets_up_created earlier cat line table items others stands later false kept =
    let placed : SimplePlaced = record { line = line; statement = CreateTable table items } in
    let can : can_create cat table items ≡ false = sym (create_same earlier cat stands table items) ∙ kept in
    let not_kept : setup_kept earlier (placed ∷ others) ≡ false = ap (λ (b : Bool). b && setup_kept (earlier ++ placed ∷ []) others) kept in
    record {
      same = not_kept ∙ sym (ap (λ (b : Bool). b && can_set_up (creates table items cat) others) can);
      stands = λ h. absurd (both_ways _ not_kept h);
    }

sets_up : (earlier setup : List SimplePlaced) (cat : Catalog) → Stands earlier cat → SetsUp earlier setup cat
sets_up earlier [] cat stands = record { same = refl; stands = λ h. subst (λ (ps : List SimplePlaced). Stands ps cat) (sym (append-nil earlier)) stands }
sets_up earlier (placed ∷ others) cat stands =
    head placed.line placed.statement
    (λ table items. sets_up (earlier ++ record { line = placed.line; statement = CreateTable table items } ∷ []) others (creates table items cat))
  where
    head : (line : ℕ) (statement : SimpleStatement)
        → ((table : Text) (items : List SimpleColumn) → Stands (earlier ++ record { line = line; statement = CreateTable table items } ∷ []) (creates table items cat)
        → SetsUp (earlier ++ record { line = line; statement = CreateTable table items } ∷ []) others (creates table items cat))
        → SetsUp earlier (record { line = line; statement = statement } ∷ others) cat
    head line (CreateTable table items) later = sets_up_created earlier cat line table items others stands (later table items) (create_kept earlier table items) refl
    head line (Insert table rows) later = record { same = refl; stands = λ h. absurd cc }
    head line (Delete table) later = record { same = refl; stands = λ h. absurd cc }
    head line Begin later = record { same = refl; stands = λ h. absurd cc }
    head line Commit later = record { same = refl; stands = λ h. absurd cc }
    head line Rollback later = record { same = refl; stands = λ h. absurd cc }

-- ---- sessions and scripts

some_not_none : {A : Type 0} (o : Option A) → is_some o ≡ not (is_none o)
some_not_none None = refl
some_not_none (Some x) = refl

run_same : (earlier : List SimplePlaced) (cat : Catalog) → IsMadeBy earlier cat → (statement : SimpleStatement) → run_kept earlier statement ≡ can_run cat statement
run_same earlier cat made (CreateTable table items) = refl
run_same earlier cat made (Insert table rows) = sym (rows_same earlier cat made table rows)
run_same earlier cat made (Delete table) =
    some_not_none (items_named earlier table) ∙ (ap (λ (b : Bool). not b) (sym (none_same earlier cat made table)) ∙ sym (some_not_none (table_number table cat)))
run_same earlier cat made Begin = refl
run_same earlier cat made Commit = refl
run_same earlier cat made Rollback = refl

runs_same : (earlier : List SimplePlaced) (cat : Catalog) → IsMadeBy earlier cat → (statements : List SimplePlaced)
    → list_all (λ placed. run_kept earlier placed.statement) statements ≡ list_all (λ placed. can_run cat placed.statement) statements
runs_same earlier cat made [] = refl
runs_same earlier cat made (placed ∷ others) =
    ap (λ (fits : Bool). fits && list_all (λ placed. run_kept earlier placed.statement) others) (run_same earlier cat made placed.statement)
    ∙ ap (λ (rest : Bool). can_run cat placed.statement && rest) (runs_same earlier cat made others)

sessions_same : (earlier : List SimplePlaced) (cat : Catalog) → IsMadeBy earlier cat → (sessions : List SimpleSession) → list_all (session_kept earlier) sessions ≡ list_all (session_fits cat) sessions
sessions_same earlier cat made [] = refl
sessions_same earlier cat made (session ∷ others) =
    ap (λ (fits : Bool). (is_name session.name && fits) && list_all (session_kept earlier) others) (runs_same earlier cat made session.statements)
    ∙ ap (λ (rest : Bool). session_fits cat session && rest) (sessions_same earlier cat made others)

and_true : (b : Bool) → (b && true) ≡ b
and_true true = refl
and_true false = refl

and_false : (b : Bool) → (b && false) ≡ false
and_false true = refl
and_false false = refl

turned : (schedule sessions : Bool) → (schedule && sessions) ≡ (sessions && schedule)
turned true true = refl
turned true false = refl
turned false true = refl
turned false false = refl

ordered : (none few statements rows fits : Bool) → (((none && few) && statements) && rows && true && fits) ≡ (true && fits && few && none && statements && rows)
ordered none few statements rows true = and_true _ ∙ (and_true _ ∙ ap (λ (b : Bool). b && statements && rows) (turned none few))
ordered none few statements rows false = and_false _

refused : (none few statements rows fits more : Bool) → (((none && few) && statements) && rows && false && fits) ≡ (false && more && few && none && statements && rows)
refused none few statements rows fits more = ap (λ (b : Bool). b && fits) (and_false ((none && few) && statements && rows))

nothing_stands : Stands [] no_tables
nothing_stands = record { made = record { only = refl; tables = refl; keys = refl }; fks = refl }

in_order : Bool → Bool → Bool → Bool → Bool → Bool → Bool
in_order none few statements rows setup sessions = none && few && statements && rows && setup && sessions

as_defined : Bool → Bool → Bool → Bool → Bool → Bool → Bool
as_defined none few statements rows setup sessions = setup && sessions && few && none && statements && rows

same_conditions : (none few statements rows kept can : Bool) (keep fit : Bool) → kept ≡ can → (kept ≡ true → keep ≡ fit) → in_order none few statements rows kept keep ≡ as_defined none few statements rows can fit
unfolding in_order as_defined
same_conditions none few statements rows true can keep fit same sessions =
    ap (λ (b : Bool). none && few && statements && rows && true && b) (sessions refl)
    ∙ (ordered none few statements rows fit ∙ ap (λ (b : Bool). b && fit && few && none && statements && rows) same)
same_conditions none few statements rows false can keep fit same sessions =
    refused none few statements rows keep fit ∙ ap (λ (b : Bool). b && fit && few && none && statements && rows) same

pub script_kept_is : (script : SimpleScript) → script_kept script ≡ fits_first_language script
unfolding script_kept in_order as_defined
script_kept_is script =
    let sets = sets_up [] script.setup no_tables nothing_stands in
    same_conditions (is_none script.schedule) (nat_le (length script.sessions) 1) (nat_le (statements_in script) 65536) (nat_le (sum_by rows_in_session script.sessions) 1000)
    (setup_kept [] script.setup) (can_set_up no_tables script.setup) (list_all (session_kept script.setup) script.sessions) (list_all (session_fits (catalog_of script)) script.sessions)
    sets.same (λ kept. sessions_same script.setup (catalog_of script) (sets.stands kept).made script.sessions)
