-- What holds in every state of a run.
use Rattle.std.proofs.Common.{◌≡◌, ℕ, ◌<◌, ◌≤◌, Bool, true, false, List, [], ◌∷◌, ◌++◌, length, Option, Some, None, slice_get, Contains}
use Rattle.aq_base.specs.Values.{Row, values_at, has_no_null}
use Rattle.aq_base.specs.Maps.{at}
use Rattle.aq_first_base.specs.Catalogs.{Catalog}
use Rattle.aq_first_base.specs.Databases.{Database, Stored}
use Rattle.aq_first_base.specs.References.{HasParent, KeysAreUnique, NotNullHolds}
use Rattle.aq_first_base.specs.Writes.{Write, Writes, overlay}
use Rattle.aq_first_base.specs.Works.{Event, Opened}
use Rattle.aq_first_base.specs.Works.Kind.{Level, Drain}
use Rattle.aq_first_base.specs.declared.catalog.ForeignKey.{ForeignKey}
use Rattle.aq_first_base.specs.declared.catalog.Trigger.{Trigger}
use Rattle.aq_first_base.specs.declared.catalog.Does.TheVariants.{Check, Parent}
use Rattle.aq_base.proofs.Maps.{KeysRise}
use Rattle.aq_first_outcomes.specs.References.{key_in}
use Rattle.aq_first_run.specs.States.{Operation, Target, Answer, Block, Task, Transaction, State, last_of, session_at}
use Rattle.aq_first_run.specs.States.Block.{Idle, Open, Failed}
use Rattle.aq_first_run.specs.States.Operation.{Inserting, Deleting}
use Rattle.aq_first_run.specs.States.Target.{New_row, Old_row}
use Rattle.aq_first_run.specs.States.Task.{Rows, Rounds, Committing}
use Rattle.aq_first_run.specs.Effects.{Scene}
use Rattle.aq_first_laws.specs.Committed.{DatabaseStands}

-- what a transaction with these writes sees
abbrev pub view_of : List Database → Writes → Database
view_of history writes = overlay (length history) writes (last_of history)

-- ---- references

-- a row that stands refers to a parent, by the foreign key with a number
pub record Refers (cat : Catalog) (view : Database) (fk : ℕ) (f : ForeignKey) (row : ℕ) (child : Stored) : Type 0 where
  pub key : slice_get cat.fks fk ≡ Some f
  pub stands : at row view ≡ Some child
  pub in_child : child.table ≡ f.child
  pub no_null : has_no_null (values_at f.child_cols child.values) ≡ true

-- an event that is still to fire checks the row's newest version, by the foreign key with a number
pub record CheckWaits (cat : Catalog) (fk row : ℕ) (writes : Writes) (events : List Event) : Type 0 where
  pub event : Event
  pub waits : Contains events event
  pub trigger : Trigger
  pub of_trigger : slice_get cat.triggers event.trigger ≡ Some trigger
  pub checks : trigger.does ≡ Check fk
  pub of_row : event.row ≡ row
  pub write : Write
  pub written : at row writes ≡ Some write
  pub live : write.number ≡ event.write

-- an event that is still to fire looks for rows that refer to a parent which had the key, by the foreign key with a number
pub record ParentWaits (cat : Catalog) (fk : ℕ) (f : ForeignKey) (key : Row) (events : List Event) : Type 0 where
  pub event : Event
  pub waits : Contains events event
  pub trigger : Trigger
  pub of_trigger : slice_get cat.triggers event.trigger ≡ Some trigger
  pub looks : trigger.does ≡ Parent fk
  pub old_key : key_in f.parent_cols event.old ≡ key

-- the reference of a row by a key has its parent, or an event that is still to fire refuses what lacks it
pub data ReferenceStands (cat : Catalog) (view : Database) (writes : Writes) (events : List Event) (fk : ℕ) (f : ForeignKey) (row : ℕ) (key : Row) : Type 0 where
  Covered : (parent : HasParent f key view) → ReferenceStands cat view writes events fk f row key
  Check_to_come : (waits : CheckWaits cat fk row writes events) → ReferenceStands cat view writes events fk f row key
  Parent_to_come : (waits : ParentWaits cat fk f key events) → ReferenceStands cat view writes events fk f row key

abbrev pub ReferencesStand : Catalog → Database → Writes → List Event → Type 0
ReferencesStand cat view writes events =
    (fk : ℕ) (f : ForeignKey) (row : ℕ) (child : Stored) → Refers cat view fk f row child →
    ReferenceStands cat view writes events fk f row (values_at f.child_cols child.values)

-- ---- what a transaction has done

-- the event's row is written by its change or by a later one, and has its image where it is the same one
pub record EventFits (writes : Writes) (event : Event) : Type 0 where
  pub write : Write
  pub written : at event.row writes ≡ Some write
  pub not_older : event.write ≤ write.number
  pub image : write.number ≡ event.write → write.image ≡ event.new

-- the databases, and the row numbers that were drawn
pub record HistoryStands (cat : Catalog) (history : List Database) (rows : ℕ) : Type 0 where
  pub all : (db : Database) → Contains history db → DatabaseStands cat db
  pub last : DatabaseStands cat (last_of history)
  pub rise : KeysRise (last_of history)
  pub drawn : (row : ℕ) (stored : Stored) → at row (last_of history) ≡ Some stored → row ≤ rows

-- the numbers of a written row and of its change were drawn
pub record Drawn (rows numbers row : ℕ) (write : Write) : Type 0 where
  pub row_drawn : row ≤ rows
  pub number_drawn : write.number ≤ numbers

-- what a transaction has written, with the events that are still to fire
pub record WorkStands (cat : Catalog) (history : List Database) (rows numbers : ℕ) (writes : Writes) (events : List Event) : Type 0 where
  pub rise : KeysRise writes
  pub drawn : (row : ℕ) (write : Write) → at row writes ≡ Some write → Drawn rows numbers row write
  pub keys : KeysAreUnique cat.keys (view_of history writes)
  pub not_null : NotNullHolds cat.tables (view_of history writes)
  pub references : ReferencesStand cat (view_of history writes) writes events
  pub fit : (event : Event) → Contains events event → EventFits writes event

-- ---- what is in progress

-- an INSERT has rows, and a DELETE rows of its table as far as they still stand
abbrev pub TargetFits : Database → Operation → Target → Type 0
TargetFits view (Inserting table) (New_row values) = Unit {0}
TargetFits view (Inserting table) (Old_row number) = ⊥
TargetFits view (Deleting table) (New_row values) = ⊥
TargetFits view (Deleting table) (Old_row number) = (stored : Stored) → at number view ≡ Some stored → stored.table ≡ table

abbrev pub TargetsFit : Database → Operation → List Target → Type 0
TargetsFit view operation left = (target : Target) → Contains left target → TargetFits view operation target

-- a transaction with this opened
abbrev pub with_work : Writes → List Event → List Opened → Option Transaction
with_work writes deferred opened = Some (record { work = record { writes = writes; deferred = deferred; opened = opened } })

-- a transaction with the level of one statement, or with the drain
abbrev pub with_level : Writes → List Event → List Event → List Event → Option Transaction
with_level writes deferred queued round = with_work writes deferred (record { kind = Level; queued = queued; round = round } ∷ [])

abbrev pub with_drain : Writes → List Event → List Event → Option Transaction
with_drain writes deferred round = with_work writes deferred (record { kind = Drain; queued = []; round = round } ∷ [])

-- a statement on rows runs outside a block or in an open one
pub data HasNotFailed : Block → Type 0 where
  Is_idle : HasNotFailed Idle
  Is_open : HasNotFailed Open

-- What is in progress fits the block and the transaction. Events wait for the commit, in the level of the statement, and in the drain.
pub data SessionStands (cat : Catalog) (history : List Database) (rows numbers : ℕ) : Block → List Task → Option Transaction → Bool → Type 0 where
  Outside : SessionStands cat history rows numbers Idle [] None false
  In_block : (writes : Writes) (deferred : List Event)
      → WorkStands cat history rows numbers writes deferred
      → SessionStands cat history rows numbers Open [] (with_work writes deferred []) false
  In_failed_block : SessionStands cat history rows numbers Failed [] None false
  In_rows : (block : Block) → HasNotFailed block → (operation : Operation) (left : List Target) (count : ℕ) (writes : Writes) (deferred queued : List Event)
      → TargetsFit (view_of history writes) operation left → WorkStands cat history rows numbers writes (deferred ++ queued)
      → SessionStands cat history rows numbers block (Rows operation left count ∷ []) (with_level writes deferred queued []) false
  In_rounds : (block : Block) → HasNotFailed block → (answer : Answer) (writes : Writes) (deferred queued round : List Event)
      → WorkStands cat history rows numbers writes (round ++ (deferred ++ queued))
      → SessionStands cat history rows numbers block (Rounds answer ∷ []) (with_level writes deferred queued round) false
  In_drain : (answer : Answer) (writes : Writes) (deferred round : List Event)
      → WorkStands cat history rows numbers writes (round ++ deferred)
      → SessionStands cat history rows numbers Idle (Committing answer ∷ []) (with_drain writes deferred round) false
  Over : (block : Block) → SessionStands cat history rows numbers block [] None true

-- the world and a session
pub record SceneStands (cat : Catalog) (scene : Scene) : Type 0 where
  pub history : HistoryStands cat scene.world.history scene.world.rows
  pub session : SessionStands cat scene.world.history scene.world.rows scene.world.writes scene.me.block scene.me.tasks scene.me.transaction scene.me.ended

-- a state with one session at the most
pub record StateStands (cat : Catalog) (st : State) : Type 0 where
  pub one : length st.sessions ≤ 1
  pub history : HistoryStands cat st.world.history st.world.rows
  pub sessions : (s : ℕ) → s < length st.sessions
      → SessionStands cat st.world.history st.world.rows st.world.writes (session_at st s).block (session_at st s).tasks (session_at st s).transaction (session_at st s).ended
