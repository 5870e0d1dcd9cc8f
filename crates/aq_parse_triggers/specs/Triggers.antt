-- Parts of the rules of triggers that have a function of their own.
use Rattle.std.specs.Prelude.{List, [], ◌∷◌, Option, codes}
use Rattle.aq_base.specs.Names.{Text as Bytes}
use Rattle.aq_base.specs.declared.trigger.TriggerEvent.{TriggerEvent}
use Rattle.aq_base.specs.declared.trigger.Transition.{Transition}
use Rattle.aq_base.specs.declared.trigger.TransitionTable.{TransitionTable}
use Rattle.aq_base.specs.declared.trigger.Transition.TheVariants.{Old, New}
use Rattle.aq_base.specs.declared.trigger.Each.{Each}
use Rattle.aq_base.specs.declared.trigger.Each.TheVariants.{Row, Statement}
use Rattle.aq_grammar.specs.Terminals.{Keyword}
use Rattle.aq_grammar.specs.Rules.{Rule, Both, Either, Differing}
use Rattle.aq_grammar.specs.Forms.{word, ◌▸◌, says, optional, name, public_name}
use Rattle.aq_grammar.specs.Triggers.{insert_event, delete_event, update_event, with_events, last_event, more_events, table_as, transitions_of, events, for_each, Watched}
use Rattle.aq_parse_triggers.specs.declared.events.EventKind.{EventKind}
use Rattle.aq_parse_triggers.specs.declared.events.EventKind.TheVariants.{Insert, Delete, Update}
use Rattle.aq_parse_triggers.specs.declared.watching.Watch.{Watch}

abbrev pub event_word : EventKind → Bytes
event_word Insert = codes "insert"
event_word Delete = codes "delete"
event_word Update = codes "update"

abbrev pub event_rule : EventKind → Rule TriggerEvent
event_rule Insert = insert_event
event_rule Delete = delete_event
event_rule Update = update_event

-- an event, and perhaps another
abbrev pub two_events : Rule TriggerEvent → Rule TriggerEvent → Rule (List TriggerEvent)
two_events first second = Both with_events first (last_event second)

-- an event, and perhaps more out of two others
abbrev pub events_from : Rule TriggerEvent → Bytes → Rule TriggerEvent → Rule TriggerEvent → Rule (List TriggerEvent)
events_from first text second third = Both with_events first (more_events text second third)

abbrev pub version_word : Transition → Bytes
version_word Old = codes "old"
version_word New = codes "new"

-- a transition table, and perhaps a second with another name
abbrev pub tables_from : Transition → Transition → Rule (List TransitionTable)
tables_from first second =
    Differing (transitions_of first second) (table_as (version_word first) ▸ name) (λ text. text) (Keyword (version_word second) ∷ [])
    (table_as (version_word second))

-- EACH, where it is said
abbrev pub each : Rule (Option (Unit {0}))
each = optional (Keyword (codes "each") ∷ []) (word (codes "each"))

abbrev pub row_or_statement : Rule Each
row_or_statement = Either (Keyword (codes "row") ∷ []) (says (codes "row") Row) (says (codes "statement") Statement)

abbrev pub for_each_row : Rule (Unit {0})
for_each_row = for_each (word (codes "row"))

-- what an AFTER trigger watches
abbrev pub watched_after : Rule Watched
watched_after = word (codes "after") ▸ Both (λ events table. record { events = events; table = table }) events (word (codes "on") ▸ public_name)

-- how the grammar sees what a function returned
abbrev pub watched_view : Watch → Watched
watched_view watched = record { events = watched.events; table = watched.table }
