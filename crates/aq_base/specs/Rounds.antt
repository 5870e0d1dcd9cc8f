-- Which events a firing round takes (PostgreSQL source, trigger.c, afterTriggerMarkEvents). A test says which events are deferred now.
use Rattle.std.specs.Prelude.{Bool, not, List, [], ◌∷◌, ◌++◌, filter, drop}
use Rattle.aq_base.specs.Events.{Event}
use Rattle.aq_base.specs.Transitions.{without_level}
use Rattle.aq_base.specs.Works.{Kind, Opened, Work, level_of}
use Rattle.aq_base.specs.Works.Kind.{Level, Constraints, Drain}

-- A level takes its immediate events, SET CONSTRAINTS the waiting events that are immediate now, the drain all waiting events.
abbrev pub taken : (Event → Bool) → Kind → List Event → List Event → List Event
taken is_deferred Level deferred queued = filter (λ event. not (is_deferred event)) queued
taken is_deferred Constraints deferred queued = filter (λ event. not (is_deferred event)) deferred
taken is_deferred Drain deferred queued = deferred

-- the events that wait for the commit afterwards, order kept: a level's deferred events come last
abbrev pub still_deferred : (Event → Bool) → Kind → List Event → List Event → List Event
still_deferred is_deferred Level deferred queued = deferred ++ filter is_deferred queued
still_deferred is_deferred Constraints deferred queued = filter is_deferred deferred
still_deferred is_deferred Drain deferred queued = []

-- what the next round of the top of the stack would take
abbrev pub next_round : (Event → Bool) → Work → List Opened → List Event
next_round is_deferred work [] = []
next_round is_deferred work (top ∷ below) = taken is_deferred top.kind work.deferred top.queued

abbrev pub taking : (Event → Bool) → List Event → List Opened → List Opened
taking is_deferred deferred [] = []
taking is_deferred deferred (top ∷ below) = record top { queued = []; round = taken is_deferred top.kind deferred top.queued } ∷ below

abbrev pub waiting : (Event → Bool) → List Event → List Opened → List Event
waiting is_deferred deferred [] = deferred
waiting is_deferred deferred (top ∷ below) = still_deferred is_deferred top.kind deferred top.queued

abbrev pub with_round : (Event → Bool) → Work → Work
with_round is_deferred work =
    record work { deferred = waiting is_deferred work.deferred work.opened; opened = taking is_deferred work.deferred work.opened }

-- a level, or the rounds of a SET CONSTRAINTS, ends without a round: its events, all of them deferred, wait for the commit
abbrev pub ended : List Event → List Opened → List Event
ended deferred [] = deferred
ended deferred (top ∷ below) = deferred ++ top.queued

abbrev pub without_top : Work → Work
without_top work = record work { deferred = ended work.deferred work.opened; opened = drop 1 work.opened }

abbrev pub without_top_level : Work → Work
without_top_level work = record (without_top work) { sets = without_level (level_of work) work.sets }

-- ---- the events of the top

-- the first event of the round
abbrev pub round_of : List Opened → List Event
round_of [] = []
round_of (top ∷ below) = top.round

abbrev pub queued_on_top : List Event → List Opened → List Opened
queued_on_top events [] = []
queued_on_top events (top ∷ below) = record top { queued = top.queued ++ events } ∷ below

-- the first event of the round is done
abbrev pub without_first : List Opened → List Opened
without_first [] = []
without_first (top ∷ below) = record top { round = drop 1 top.round } ∷ below
