-- Transition sets: the rows that the statements of a level have changed, for each table and operation (PostgreSQL manual, page CREATE
-- TRIGGER, REFERENCING; PostgreSQL source, trigger.c, AfterTriggersTableData). A set is opened by the first change, or the first queueing of
-- statement events, of its table and operation at a level where none is open; it closes when a trigger that reads it fires.
use Rattle.std.specs.Prelude.{ℕ, ◌+◌, Bool, true, false, ◌&&◌, ◌==◌, not, List, [], ◌∷◌, ◌++◌, length, map, filter, find, Option, Some, None, unwrap_or, option_map, if◌then◌else◌}
use Rattle.aq_base.specs.Values.{Row}
use Rattle.aq_base.specs.declared.catalog.Op.{Op}
use Rattle.aq_base.specs.declared.catalog.Op.TheVariants.{Insert, Update, Delete}

pub record Transition : Type 0 where
  -- its place among the transaction's sets, counted from 1
  pub number : ℕ
  pub level : ℕ
  pub table : ℕ
  pub op : Op
  -- how many events the transaction had queued when the set was opened
  pub since : ℕ
  pub is_open : Bool
  -- the old and the new versions of the rows, in the order of the changes
  pub old : List Row
  pub new : List Row

abbrev pub same_op : Op → Op → Bool
same_op Insert Insert = true
same_op Update Update = true
same_op Delete Delete = true
same_op _ _ = false

-- the open set of a table and an operation at a level
abbrev pub is_open_for : ℕ → ℕ → Op → Transition → Bool
is_open_for level table op set = set.is_open && (set.level == level && (set.table == table && same_op set.op op))

abbrev pub opened_set : ℕ → ℕ → ℕ → Op → ℕ → Transition
opened_set number level table op since =
    record { number = number; level = level; table = table; op = op; since = since; is_open = true; old = []; new = [] }

abbrev pub unless_there : Option Transition → Transition → List Transition → List Transition
unless_there None opened sets = opened ∷ sets
unless_there (Some set) opened sets = sets

-- the sets, the latest first, with one that is open for the table and the operation
abbrev pub with_open_set : ℕ → ℕ → Op → ℕ → List Transition → List Transition
with_open_set level table op since sets =
    unless_there (find (is_open_for level table op) sets) (opened_set (length sets + 1) level table op since) sets

abbrev pub number_of_set : Option Transition → ℕ
number_of_set None = 0
number_of_set (Some set) = set.number

-- the number of the open set, and of how many events it stands behind
abbrev pub open_number : ℕ → ℕ → Op → List Transition → ℕ
open_number level table op sets = number_of_set (find (is_open_for level table op) sets)

abbrev pub open_since : ℕ → ℕ → Op → List Transition → ℕ
open_since level table op sets = unwrap_or (option_map (λ set. set.since) (find (is_open_for level table op) sets)) 0

abbrev pub listed : Option Row → List Row
listed None = []
listed (Some row) = row ∷ []

abbrev pub with_versions : Option Row → Option Row → Transition → Transition
with_versions old new set = record set { old = set.old ++ listed old; new = set.new ++ listed new }

-- a change fills the open set
abbrev pub filled : ℕ → ℕ → Op → Option Row → Option Row → List Transition → List Transition
filled level table op old new sets = map (λ set. if is_open_for level table op set then with_versions old new set else set) sets

abbrev pub closed_as : ℕ → Transition → Transition
closed_as number set = record set { is_open = set.is_open && not (set.number == number) }

abbrev pub closed : ℕ → List Transition → List Transition
closed number sets = map (closed_as number) sets

-- a level that closes ends its sets
abbrev pub without_level : ℕ → List Transition → List Transition
without_level level sets = filter (λ set. not (set.level == level)) sets

abbrev pub set_at : ℕ → List Transition → Option Transition
set_at number sets = find (λ set. set.number == number) sets

abbrev pub old_rows_of : Option Transition → List Row
old_rows_of None = []
old_rows_of (Some set) = set.old

abbrev pub new_rows_of : Option Transition → List Row
new_rows_of None = []
new_rows_of (Some set) = set.new
