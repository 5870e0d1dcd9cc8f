-- CREATE FUNCTION and CREATE TRIGGER (PostgreSQL manual, pages of these names).
--     function   = CREATE FUNCTION function() RETURNS trigger (LANGUAGE plpgsql AS code | AS code LANGUAGE plpgsql)
--     trigger    = CREATE TRIGGER name AFTER event {OR event} ON table [REFERENCING {(OLD | NEW) TABLE [AS] name}]
--                  [FOR [EACH] (ROW | STATEMENT)] [WHEN (expression)] EXECUTE (FUNCTION | PROCEDURE) function()
--     constraint = CREATE CONSTRAINT TRIGGER name AFTER event {OR event} ON table [timing] FOR [EACH] ROW [WHEN (expression)]
--                  EXECUTE (FUNCTION | PROCEDURE) function()
--     event      = INSERT | DELETE | UPDATE [OF columns]
-- Each event stands once at the most, and so do the old and the new table, whose names differ.
use Rattle.std.specs.Prelude.{List, [], ◌∷◌, Option, Some, None, codes}
use Rattle.aq_base.specs.Names.{Text as Bytes}
use Rattle.aq_base.specs.declared.catalog.Decl.{Decl}
use Rattle.aq_lex.specs.declared.token.Symbol.TheVariants.{OpenParen, CloseParen}
use Rattle.aq_grammar.specs.Terminals.{Keyword}
use Rattle.aq_grammar.specs.Rules.{Rule, Refusal, Done, Both, Either, Differing, Unless}
use Rattle.aq_grammar.specs.declared.scope.Scope.TheVariants.{InCondition}
use Rattle.aq_grammar.specs.Forms.{word, sign, ◌▸◌, ◌◂◌, mapped, says, optional, in_parentheses, name, names, public_name, refuse_word}
use Rattle.aq_grammar.specs.Expressions.{whole_expression}
use Rattle.aq_grammar.specs.Bodies.{code}
use Rattle.aq_grammar.specs.Tables.{timing_without}
use Rattle.aq_base.specs.declared.expr.Expr.{Expr}
use Rattle.aq_base.specs.declared.trigger.TriggerEvent.{TriggerEvent}
use Rattle.aq_base.specs.declared.trigger.Transition.{Transition}
use Rattle.aq_base.specs.declared.trigger.TransitionTable.{TransitionTable}
use Rattle.aq_base.specs.declared.trigger.Each.{Each}
use Rattle.aq_base.specs.declared.statement.Statement.{Statement}
use Rattle.aq_base.specs.declared.trigger.TriggerEvent.TheVariants.{Insert as On_insert, Delete as On_delete, Update as On_update}
use Rattle.aq_base.specs.declared.trigger.Transition.TheVariants.{Old as Old_table, New as New_table}
use Rattle.aq_base.specs.declared.trigger.Each.TheVariants.{Row as Each_row, Statement as Each_statement}
use Rattle.aq_base.specs.declared.statement.Statement.TheVariants.{CreateFunction, CreateTrigger, CreateConstraintTrigger}

-- `()`
unfoldable pub no_arguments : Rule (Unit {0})
no_arguments = sign OpenParen ▸ sign CloseParen

abbrev pub language : Rule (Unit {0})
language = word (codes "language") ▸ word (codes "plpgsql")

unfoldable pub create_function : Rule Statement
create_function =
    word (codes "function")
    ▸ Both (λ name body. CreateFunction (record { name = name; body = body })) (public_name ◂ no_arguments ◂ word (codes "returns") ◂ word (codes "trigger"))
    (Either (Keyword (codes "language") ∷ []) (language ▸ word (codes "as") ▸ code) (word (codes "as") ▸ code ◂ language))

unfoldable pub insert_event : Rule TriggerEvent
insert_event = says (codes "insert") On_insert

unfoldable pub delete_event : Rule TriggerEvent
delete_event = says (codes "delete") On_delete

unfoldable pub update_event : Rule TriggerEvent
update_event = mapped On_update (word (codes "update") ▸ optional (Keyword (codes "of") ∷ []) (word (codes "of") ▸ names))

abbrev pub one_event : TriggerEvent → List TriggerEvent
one_event event = event ∷ []

abbrev pub with_events : TriggerEvent → List TriggerEvent → List TriggerEvent
with_events event others = event ∷ others

-- perhaps one more event
abbrev pub last_event : Rule TriggerEvent → Rule (List TriggerEvent)
last_event event = Either (Keyword (codes "or") ∷ []) (word (codes "or") ▸ mapped one_event event) (Done [])

-- perhaps more events, out of two
abbrev pub more_events : Bytes → Rule TriggerEvent → Rule TriggerEvent → Rule (List TriggerEvent)
more_events first a b =
    Either (Keyword (codes "or") ∷ [])
    (word (codes "or") ▸ Either (Keyword first ∷ []) (Both with_events a (last_event b)) (Both with_events b (last_event a)))
    (Done [])

unfoldable pub events : Rule (List TriggerEvent)
events =
    Either (Keyword (codes "insert") ∷ []) (Both with_events insert_event (more_events (codes "delete") delete_event update_event))
    (Either (Keyword (codes "delete") ∷ []) (Both with_events delete_event (more_events (codes "insert") insert_event update_event))
    (Both with_events update_event (more_events (codes "insert") insert_event delete_event)))

abbrev pub table_as : Bytes → Rule (Unit {0})
table_as version = word version ▸ (word (codes "table") ◂ optional (Keyword (codes "as") ∷ []) (word (codes "as")))

abbrev pub transition : Transition → Bytes → TransitionTable
transition version name = record { transition = version; name = name }

abbrev pub transitions_of : Transition → Transition → Bytes → Option Bytes → List TransitionTable
transitions_of first second name None = transition first name ∷ []
transitions_of first second name (Some other) = transition first name ∷ transition second other ∷ []

unfoldable pub transition_tables : Rule (List TransitionTable)
transition_tables =
    Either (Keyword (codes "old") ∷ [])
    (Differing (transitions_of Old_table New_table) (table_as (codes "old") ▸ name) (λ text. text) (Keyword (codes "new") ∷ []) (table_as (codes "new")))
    (Either (Keyword (codes "new") ∷ [])
    (Differing (transitions_of New_table Old_table) (table_as (codes "new") ▸ name) (λ text. text) (Keyword (codes "old") ∷ []) (table_as (codes "old"))) (Done []))

unfoldable pub referencing : Rule (Option (List TransitionTable))
referencing = optional (Keyword (codes "referencing") ∷ []) (word (codes "referencing") ▸ transition_tables)

abbrev pub for_each : {A : Type 0} → Rule A → Rule A
for_each a = word (codes "for") ▸ optional (Keyword (codes "each") ∷ []) (word (codes "each")) ▸ a

-- per statement, where nothing is said
unfoldable pub fires_for : Rule Each
fires_for =
    Either (Keyword (codes "for") ∷ []) (for_each (Either (Keyword (codes "row") ∷ []) (says (codes "row") Each_row) (says (codes "statement") Each_statement)))
    (Done Each_statement)

unfoldable pub when_part : Rule (Option Expr)
when_part = optional (Keyword (codes "when") ∷ []) (word (codes "when") ▸ in_parentheses (whole_expression InCondition))

unfoldable pub executes : Rule Bytes
executes =
    word (codes "execute") ▸ Either (Keyword (codes "function") ∷ []) (word (codes "function")) (word (codes "procedure")) ▸ public_name ◂ no_arguments

abbrev pub not_after : List Refusal
not_after = refuse_word (codes "before") (codes "BEFORE triggers are not supported") ∷ refuse_word (codes "instead") (codes "INSTEAD OF triggers are not supported") ∷ []

-- the events of a trigger and its table
pub record Watched : Type 0 where
  pub events : List TriggerEvent
  pub table : Bytes

unfoldable pub watched : Rule Watched
watched =
    Unless not_after (word (codes "after") ▸ Both (λ events table. record { events = events; table = table }) events (word (codes "on") ▸ public_name))

-- what a trigger does, and where
pub record Fired : Type 0 where
  pub condition : Option Expr
  pub function : Bytes

unfoldable pub fired : Rule Fired
fired = Both (λ condition function. record { condition = condition; function = function }) when_part executes

abbrev pub trigger_of : Bytes → Watched × (Option (List TransitionTable) × (Each × Fired)) → Statement
trigger_of name (watched, (transitions, (each, fired))) =
    CreateTrigger (record {
      name = name;
      events = watched.events;
      table = watched.table;
      transitions = transitions;
      each = each;
      condition = fired.condition;
      function = fired.function;
    })

unfoldable pub create_trigger : Rule Statement
create_trigger =
    word (codes "trigger")
    ▸ Both trigger_of name
    (Both (λ watched others. (watched, others)) watched
    (Both (λ transitions others. (transitions, others)) referencing (Both (λ each fired. (each, fired)) fires_for fired)))

abbrev pub constraint_trigger_of : Bytes → Watched × (Decl × Fired) → Statement
constraint_trigger_of name (watched, (timing, fired)) =
    CreateConstraintTrigger (record {
      name = name;
      events = watched.events;
      table = watched.table;
      timing = timing;
      condition = fired.condition;
      function = fired.function;
    })

unfoldable pub create_constraint_trigger : Rule Statement
create_constraint_trigger =
    word (codes "constraint") ▸ word (codes "trigger")
    ▸ Both constraint_trigger_of name
    (Both (λ watched others. (watched, others)) watched
    (Both (λ timing fired. (timing, fired)) (timing_without []) (for_each (word (codes "row")) ▸ fired)))
