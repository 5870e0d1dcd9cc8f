-- What every committed database has to satisfy, said of a database alone.
use Rattle.std.specs.Prelude.{◌≡◌, ℕ, Bool, true, false, not, ◌&&◌, ◌||◌, List, Some, None, Contains, unwrap_or, slice_get}
use Rattle.std.specs.List.{list_all}
use Rattle.aq_base.specs.Values.{Row, keys_match, values_at, has_no_null, is_null}
use Rattle.aq_base.specs.Maps.{at}
use Rattle.aq_base.specs.Databases.{Database, Stored, has_key}
use Rattle.aq_base.specs.Rules.{Rule, is_kept}
use Rattle.aq_base.specs.declared.value.Value.TheVariants.{Null}
use Rattle.aq_base.specs.declared.catalog.Table.{Table}
use Rattle.aq_base.specs.declared.catalog.UniqueKey.{UniqueKey}
use Rattle.aq_base.specs.declared.catalog.ForeignKey.{ForeignKey}

abbrev pub all_null : Row → Bool
all_null row = list_all is_null row

-- some values are null and some are not
abbrev pub is_mixture : Row → Bool
is_mixture key = not (has_no_null key) && not (all_null key)

-- a child row with this key refers to a parent: without MATCH FULL one null frees it, with MATCH FULL only nulls throughout
abbrev pub is_reference : Bool → Row → Bool
is_reference full key = has_no_null key || (full && not (all_null key))

-- a row of the database is in the parent table and has the key
pub record HasParent (f : ForeignKey) (key : Row) (db : Database) : Type 0 where
  pub number : ℕ
  pub row : Stored
  pub stands : at number db ≡ Some row
  pub has : has_key f.parent f.parent_cols key row ≡ true

-- Each child row that refers to a parent has one (PostgreSQL manual, page CREATE TABLE, REFERENCES). A key with a null in it is no parent's:
-- under MATCH FULL a mixture of nulls and values stands nowhere.
abbrev pub ReferencesHold : List ForeignKey → Database → Type 0
ReferencesHold fks db =
    (f : ForeignKey) → Contains fks f → (number : ℕ) (row : Stored) → at number db ≡ Some row → row.table ≡ f.child →
    is_reference f.full (values_at f.child_cols row.values) ≡ true → HasParent f (values_at f.child_cols row.values) db

-- No two rows of a table agree on the columns of one unique key without a null (PostgreSQL manual, page CREATE TABLE, UNIQUE).
abbrev pub KeysAreUnique : List UniqueKey → Database → Type 0
KeysAreUnique keys db =
    (k : UniqueKey) → Contains keys k → (m n : ℕ) (one other : Stored) → at m db ≡ Some one → at n db ≡ Some other → one.table ≡ k.table → other.table ≡ k.table →
    keys_match (values_at k.cols one.values) (values_at k.cols other.values) ≡ true → m ≡ n

-- No row has a null in a column of its table that holds none (PostgreSQL manual, page CREATE TABLE, NOT NULL).
abbrev pub NotNullHolds : List Table → Database → Type 0
NotNullHolds tables db =
    (number : ℕ) (row : Stored) → at number db ≡ Some row → (table : Table) → slice_get tables row.table ≡ Some table →
    (col : ℕ) → Contains table.not_null col → is_null (unwrap_or (slice_get row.values col) Null) ≡ false

-- Each row of a table with a native check keeps its rule, as a row that is new.
abbrev pub RulesHold : List (ℕ × Rule) → Database → Type 0
RulesHold checks db =
    (check : ℕ × Rule) → Contains checks check → (number : ℕ) (row : Stored) → at number db ≡ Some row → row.table ≡ check.0 →
    is_kept check.1 None row.values ≡ true
