-- Lists of events with what has become of each, and the sublists that wait or that a firing has taken.
use Rattle.std.specs.Prelude.{ℕ, ◌+◌, Bool, true, false, ◌&&◌, ◌==◌, List, [], ◌∷◌, ◌++◌, map, filter, take, drop, nat_le, if◌then◌else◌}
use Rattle.aq_base.specs.Events.{Event, is_of_statement}
use Rattle.aq_base.specs.Transitions.{same_op}
use Rattle.aq_base.specs.declared.catalog.Op.{Op}
use Rattle.aq_events.specs.declared.entries.Fate.{Fate}
use Rattle.aq_events.specs.declared.entries.Fate.TheVariants.{Waiting, Taken, Done, Dropped}
use Rattle.aq_events.specs.declared.entries.Entry.{Entry}
use Rattle.aq_events.specs.declared.entries.Turn.{Turn}
use Rattle.aq_events.specs.declared.entries.Turn.TheVariants.{Finish, Remove, RemoveWaiting, Unmark, Cancel}

-- ---- one fate

abbrev pub waits : Fate → Bool
waits Waiting = true
waits (Taken firing) = false
waits (Done firing) = false
waits Dropped = false

-- taken by the firing, and not done
abbrev pub is_in : ℕ → Fate → Bool
is_in firing Waiting = false
is_in firing (Taken by) = by == firing
is_in firing (Done by) = false
is_in firing Dropped = false

-- neither done nor dropped
abbrev pub is_owed : Fate → Bool
is_owed Waiting = true
is_owed (Taken firing) = true
is_owed (Done firing) = false
is_owed Dropped = false

abbrev pub is_taken : Fate → Bool
is_taken Waiting = false
is_taken (Taken firing) = true
is_taken (Done firing) = false
is_taken Dropped = false

-- taken by a firing from this number on, done or not
abbrev pub is_taken_since : ℕ → Fate → Bool
is_taken_since firing Waiting = false
is_taken_since firing (Taken by) = nat_le firing by
is_taken_since firing (Done by) = nat_le firing by
is_taken_since firing Dropped = false

-- ---- what the list stands for

abbrev pub event_of : Entry → Event
event_of entry = entry.event

abbrev pub events_of : List Entry → List Event
events_of entries = map event_of entries

abbrev pub waiting_of : List Entry → List Event
waiting_of entries = map event_of (filter (λ entry. waits entry.fate) entries)

abbrev pub round_of : ℕ → List Entry → List Event
round_of firing entries = map event_of (filter (λ entry. is_in firing entry.fate) entries)

abbrev pub waiting_entry : Event → Entry
waiting_entry event = record { event = event; fate = Waiting }

-- ---- what happens to it

abbrev pub is_cancelled : ℕ → Op → ℕ → Entry → Bool
is_cancelled table op from entry =
    is_of_statement entry.event && (entry.event.table == table && (same_op entry.event.op op && (nat_le from entry.event.number && is_owed entry.fate)))

abbrev pub turns : Turn → Entry → Bool
turns (Finish number) entry = (entry.event.number == number) && is_taken entry.fate
turns (Remove number) entry = (entry.event.number == number) && is_owed entry.fate
turns RemoveWaiting entry = waits entry.fate
turns (Unmark firing) entry = is_taken_since firing entry.fate
turns (Cancel table op from) entry = is_cancelled table op from entry

abbrev pub done : Fate → Fate
done Waiting = Waiting
done (Taken firing) = Done firing
done (Done firing) = Done firing
done Dropped = Dropped

abbrev pub target : Turn → Fate → Fate
target (Finish number) fate = done fate
target (Remove number) fate = Dropped
target RemoveWaiting fate = Dropped
target (Unmark firing) fate = Waiting
target (Cancel table op from) fate = Dropped

abbrev pub turned : Turn → Entry → Entry
turned turn entry = if turns turn entry then record entry { fate = target turn entry.fate } else entry

abbrev pub turned_from : ℕ → Turn → List Entry → List Entry
turned_from place turn entries = take place entries ++ map (turned turn) (drop place entries)

abbrev pub count_turned : Turn → List Entry → ℕ
count_turned turn [] = 0
count_turned turn (entry ∷ entries) = (if turns turn entry then 1 else 0) + count_turned turn entries

abbrev pub marks : Bool → Entry → Bool
marks pick entry = pick && waits entry.fate

abbrev pub marked_as : Bool → ℕ → Entry → Entry
marked_as pick firing entry = if marks pick entry then record entry { fate = Taken firing } else entry

abbrev pub marked : List Bool → ℕ → List Entry → List Entry
marked [] firing entries = entries
marked (pick ∷ picks) firing [] = []
marked (pick ∷ picks) firing (entry ∷ entries) = marked_as pick firing entry ∷ marked picks firing entries

abbrev pub count_marked : List Bool → List Entry → ℕ
count_marked [] entries = 0
count_marked (pick ∷ picks) [] = 0
count_marked (pick ∷ picks) (entry ∷ entries) = (if marks pick entry then 1 else 0) + count_marked picks entries

abbrev pub marked_from : ℕ → List Bool → ℕ → List Entry → List Entry
marked_from place picks firing entries = take place entries ++ marked picks firing (drop place entries)

-- the first of the list is done
abbrev pub first_done : List Entry → List Entry
first_done [] = []
first_done (entry ∷ entries) = record entry { fate = done entry.fate } ∷ entries

abbrev pub done_at : ℕ → List Entry → List Entry
done_at place entries = take place entries ++ first_done (drop place entries)

-- the place of the first event that the firing has taken and that is not done, or the length
abbrev pub first_place : ℕ → List Entry → ℕ
first_place firing [] = 0
first_place firing (entry ∷ entries) = if is_in firing entry.fate then 0 else first_place firing entries + 1

-- ---- the same, by the names of the calls

abbrev pub finished : ℕ → List Entry → List Entry
finished number entries = turned_from 0 (Finish number) entries

abbrev pub removed : ℕ → List Entry → List Entry
removed number entries = turned_from 0 (Remove number) entries

abbrev pub without_waiting_from : ℕ → List Entry → List Entry
without_waiting_from place entries = turned_from place RemoveWaiting entries

abbrev pub unmarked_from : ℕ → ℕ → List Entry → List Entry
unmarked_from place firing entries = turned_from place (Unmark firing) entries

abbrev pub cancelled_from : ℕ → ℕ → Op → ℕ → List Entry → List Entry
cancelled_from place table op number entries = turned_from place (Cancel table op number) entries

abbrev pub count_cancelled : ℕ → Op → ℕ → List Entry → ℕ
count_cancelled table op number entries = count_turned (Cancel table op number) entries
