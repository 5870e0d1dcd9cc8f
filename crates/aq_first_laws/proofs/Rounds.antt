-- Events that are taken as a round, and those that wait for the commit.
use Rattle.std.proofs.Common.{◌≡◌, true, false, not, ◌⊎◌, inl, inr, List, [], ◌++◌, filter, Contains, ap, subst, append-nil}
use Rattle.std.proofs.lemmas.Bool.{cases_Bool}
use Rattle.std.proofs.lemmas.List.Elements.{Contains-append_left, Contains-append_right, Contains-append_cases}
use Rattle.aq_first_base.specs.Catalogs.{Catalog}
use Rattle.aq_first_base.specs.Works.{Event}
use Rattle.aq_base.proofs.Lists.{Contains-filter, Kept-filter}
use Rattle.aq_first_outcomes.specs.Rows.{is_deferred, is_immediate}
use Rattle.aq_first_laws.proofs.Works.{SameEvents}

-- each event is immediate or deferred
parted : (cat : Catalog) (queued : List Event) (event : Event) → Contains queued event → Contains (filter (is_immediate cat) queued) event ⊎ Contains (filter (is_deferred cat) queued) event
parted cat queued event c = by_test (cases_Bool (is_deferred cat event))
  where
    by_test : (is_deferred cat event ≡ true) ⊎ (is_deferred cat event ≡ false) → Contains (filter (is_immediate cat) queued) event ⊎ Contains (filter (is_deferred cat) queued) event
    by_test (inl waits) = inr (Contains-filter (is_deferred cat) queued event c waits)
    by_test (inr fires) = inl (Contains-filter (is_immediate cat) queued event c (ap not fires))

-- a round is taken from the level, and the others join those that wait for the commit
pub SameEvents-round : (cat : Catalog) (deferred queued : List Event)
    → SameEvents (deferred ++ queued) (filter (is_immediate cat) queued ++ ((deferred ++ filter (is_deferred cat) queued) ++ []))
SameEvents-round cat deferred queued = rw append-nil (record { here = here; there = there })
  where
    round : List Event
    round = filter (is_immediate cat) queued

    others : List Event
    others = filter (is_deferred cat) queued

    queued_here : (event : Event) → Contains round event ⊎ Contains others event → Contains (round ++ (deferred ++ others)) event
    queued_here event (inl fires) = Contains-append_left round (deferred ++ others) event fires
    queued_here event (inr waits) = Contains-append_right round (deferred ++ others) event (Contains-append_right deferred others event waits)

    by_place : (event : Event) → Contains deferred event ⊎ Contains queued event → Contains (round ++ (deferred ++ others)) event
    by_place event (inl old) = Contains-append_right round (deferred ++ others) event (Contains-append_left deferred others event old)
    by_place event (inr new) = queued_here event (parted cat queued event new)

    here : (event : Event) → Contains (deferred ++ queued) event → Contains (round ++ (deferred ++ others)) event
    here event c = by_place event (Contains-append_cases deferred queued event c)

    deferred_there : (event : Event) → Contains deferred event ⊎ Contains others event → Contains (deferred ++ queued) event
    deferred_there event (inl old) = Contains-append_left deferred queued event old
    deferred_there event (inr waits) = Contains-append_right deferred queued event (Kept-filter (is_deferred cat) queued event waits).was

    back : (event : Event) → Contains round event ⊎ Contains (deferred ++ others) event → Contains (deferred ++ queued) event
    back event (inl fires) = Contains-append_right deferred queued event (Kept-filter (is_immediate cat) queued event fires).was
    back event (inr rest) = deferred_there event (Contains-append_cases deferred others event rest)

    there : (event : Event) → Contains (round ++ (deferred ++ others)) event → Contains (deferred ++ queued) event
    there event c = back event (Contains-append_cases round (deferred ++ others) event c)

-- where no event is immediate, all join those that wait for the commit
pub SameEvents-close : (cat : Catalog) (deferred queued : List Event) → filter (is_immediate cat) queued ≡ [] → SameEvents (deferred ++ queued) (deferred ++ filter (is_deferred cat) queued)
SameEvents-close cat deferred queued none =
    subst (λ events. SameEvents (deferred ++ queued) (events ++ (deferred ++ filter (is_deferred cat) queued))) none
    (rw append-nil at (SameEvents-round cat deferred queued))
