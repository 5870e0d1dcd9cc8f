-- What a step may do. A step is a list of effects, done one after the other.
use Rattle.std.specs.Prelude.{ℕ, ◌+◌, true, List, [], ◌∷◌, ◌++◌, map, drop, filter, Option, Some, None, option_map}
use Rattle.aq_base.specs.Values.{Row}
use Rattle.aq_base.specs.Maps.{with_at}
use Rattle.aq_first_base.specs.Catalogs.{Catalog}
use Rattle.aq_first_base.specs.Databases.{Database}
use Rattle.aq_first_base.specs.Writes.{Write}
use Rattle.aq_first_base.specs.Works.{Event, Kind, Opened, Work}
use Rattle.aq_base.specs.declared.reply.ReplyLine.{ReplyLine}
use Rattle.aq_first_outcomes.specs.Rows.{insert_events, delete_events, is_deferred, is_immediate}
use Rattle.aq_first_run.specs.States.{Block, Task, Transaction, Session, Given, World, latest_view}

pub data Effect : Type 0 where
  -- the session goes on to its next statement
  Takes_statement : Effect
  -- a transaction begins
  Begins : Effect
  -- a query level opens, or the drain
  Opens : (kind : Kind) → Effect
  -- what is in progress from now on
  Goes_on : (tasks : List Task) → Effect
  -- a row is inserted: it gets its number, its version enters the writes and its events the level's list
  Inserts : (table : ℕ) → (values : Row) → Effect
  -- a row is deleted: its version enters the writes and its events the level's list
  Deletes : (table : ℕ) → (row : ℕ) → (values : Row) → Effect
  -- the level's immediate events are taken as a firing round, and the others wait for the commit
  Takes_round : Effect
  -- all events that wait for the commit are taken as a firing round of the drain
  Takes_deferred : Effect
  -- the first event of the round is done
  Finishes : Effect
  -- the level's events, all of them deferred, wait for the commit
  Closes_level : Effect
  -- the transaction's view becomes the next database
  Commits : Effect
  -- the transaction and all that it has done is dropped
  Aborts : Effect
  Replies : (lines : List ReplyLine) → Effect
  -- the state of the transaction block
  Blocks : (block : Block) → Effect
  -- the session has ended
  Ends : Effect

-- what an effect of a session may change
pub record Scene : Type 0 where
  pub world : World
  pub me : Session

abbrev pub in_transaction : (Transaction → Transaction) → Scene → Scene
in_transaction change scene = record scene { me = record (scene.me) { transaction = option_map change scene.me.transaction } }

abbrev pub in_work : (Work → Work) → Scene → Scene
in_work change scene = in_transaction (λ t. record t { work = change t.work }) scene

-- the top level changed
abbrev pub on_top : (Opened → Opened) → List Opened → List Opened
on_top change [] = []
on_top change (level ∷ below) = change level ∷ below

abbrev pub with_events : List Event → Opened → Opened
with_events events level = record level { queued = level.queued ++ events }

-- the level with its immediate events as the round
abbrev pub with_round : Catalog → Opened → Opened
with_round cat level = record level { queued = []; round = filter (is_immediate cat) level.queued }

-- the drain with these events as the round
abbrev pub with_all : List Event → Opened → Opened
with_all events drain = record drain { round = events }

-- the events of the top level that wait for the commit
abbrev pub left_over : Catalog → List Opened → List Event
left_over cat [] = []
left_over cat (level ∷ below) = filter (is_deferred cat) level.queued

abbrev pub takes_round : Catalog → Work → Work
takes_round cat work = record work { deferred = work.deferred ++ left_over cat work.opened; opened = on_top (with_round cat) work.opened }

abbrev pub takes_deferred : Work → Work
takes_deferred work = record work { deferred = []; opened = on_top (with_all work.deferred) work.opened }

abbrev pub closes_level : Catalog → Work → Work
closes_level cat work = record work { deferred = work.deferred ++ left_over cat work.opened; opened = drop 1 work.opened }

abbrev pub without_first : Opened → Opened
without_first level = record level { round = drop 1 level.round }

-- a row's new version and the events of its change
abbrev pub with_version : ℕ → Write → List Event → Work → Work
with_version row version events work = record work { writes = with_at row version work.writes; opened = on_top (with_events events) work.opened }

abbrev pub with_row : Catalog → ℕ → ℕ → ℕ → Row → Work → Work
with_row cat row write table values work =
    with_version row (record { table = table; image = Some values; number = write }) (insert_events cat table row write values) work

abbrev pub without_row : Catalog → ℕ → ℕ → ℕ → Row → Work → Work
without_row cat row write table values work =
    with_version row (record { table = table; image = None; number = write }) (delete_events cat table row write values) work

-- what a commit appends to the history
abbrev pub committed : World → Option Transaction → List Database
committed world None = []
committed world (Some t) = latest_view world t.work ∷ []

abbrev pub fresh : Transaction
fresh = record { work = record { writes = []; deferred = []; opened = [] } }

abbrev pub given : ℕ → ℕ → List ReplyLine → List Given
given s statement lines = map (λ line. record { session = s; statement = statement; line = line }) lines

unfoldable pub effect : Catalog → ℕ → Effect → Scene → Scene
effect cat s Takes_statement scene = record scene { me = record (scene.me) { next = scene.me.next + 1 } }
effect cat s Begins scene = record scene { me = record (scene.me) { transaction = Some fresh } }
effect cat s (Opens kind) scene = in_work (λ work. record work { opened = record { kind = kind; queued = []; round = [] } ∷ work.opened }) scene
effect cat s (Goes_on tasks) scene = record scene { me = record (scene.me) { tasks = tasks } }
effect cat s (Inserts table values) scene =
    record {
      world = record (scene.world) { rows = scene.world.rows + 1; writes = scene.world.writes + 1 };
      me = (in_work (with_row cat (scene.world.rows + 1) (scene.world.writes + 1) table values) scene).me;
    }
effect cat s (Deletes table row values) scene =
    record {
      world = record (scene.world) { writes = scene.world.writes + 1 };
      me = (in_work (without_row cat row (scene.world.writes + 1) table values) scene).me;
    }
effect cat s Takes_round scene = in_work (takes_round cat) scene
effect cat s Takes_deferred scene = in_work takes_deferred scene
effect cat s Finishes scene = in_work (λ work. record work { opened = on_top without_first work.opened }) scene
effect cat s Closes_level scene = in_work (closes_level cat) scene
effect cat s Commits scene =
    record {
      world = record (scene.world) { history = scene.world.history ++ committed scene.world scene.me.transaction };
      me = record (scene.me) { transaction = None };
    }
effect cat s Aborts scene = record scene { me = record (scene.me) { transaction = None } }
effect cat s (Replies lines) scene = record scene { world = record (scene.world) { replies = scene.world.replies ++ given s scene.me.next lines } }
effect cat s (Blocks block) scene = record scene { me = record (scene.me) { block = block } }
effect cat s Ends scene = record scene { me = record (scene.me) { ended = true } }

-- the effects, one after the other
abbrev pub effects : Catalog → ℕ → List Effect → Scene → Scene
effects cat s [] scene = scene
effects cat s (one ∷ others) scene = effects cat s others (effect cat s one scene)
