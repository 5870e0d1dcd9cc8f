-- What a run goes by: the catalog, and of each session its name and its statements. Nothing changes the catalog after the setup, so a
-- statement is bound once; a fault of its binding is met when it starts.
use Rattle.std.specs.Prelude.{ℕ, List, Option, Result, Ok, Err, map, option_and_then, unwrap_or, slice_get, []}
use Rattle.aq_base.specs.Names.{Text}
use Rattle.aq_base.specs.Rules.{Rule}
use Rattle.aq_base.specs.Statements.{Statement, statement_of}
use Rattle.aq_base.specs.declared.bound_statement.Bound.{Bound}
use Rattle.aq_base.specs.declared.fault.SqlFault.{SqlFault}
use Rattle.aq_catalog.specs.Catalogs.{Catalog}
use Rattle.aq_outcomes.specs.Schemas.{Schema, schema_of}

-- the forms whose names may be unknown
pub data Form : Type 0 where
  -- INSERT, UPDATE, DELETE, SELECT
  On_rows : Form
  On_constraints : Form

pub data Prepared : Type 0 where
  Ready : (statement : Statement) → Prepared
  Refused : (form : Form) → (fault : SqlFault) → Prepared

pub record Program : Type 0 where
  pub schema : Schema
  -- of each session
  pub names : List Text
  pub statements : List (List Prepared)

abbrev pub prepared : Form × Result Bound SqlFault → Prepared
prepared entry = elim (entry.1) [ Ok bound ↦ Ready (statement_of bound) | Err fault ↦ Refused entry.0 fault ]

-- a session's name, and its statements as they were bound
abbrev pub Bound_session : Type 0
Bound_session = Text × List (Form × Result Bound SqlFault)

abbrev pub program_of : Catalog → List (Text × Rule) → List Bound_session → Program
program_of cat rules sessions =
    record {
      schema = schema_of cat rules;
      names = map (λ session. session.0) sessions;
      statements = map (λ session. map prepared session.1) sessions;
    }

abbrev pub session_name : Program → ℕ → Text
session_name program s = unwrap_or (slice_get program.names s) []

-- a session's statement, counted from 0
abbrev pub statement_at : Program → ℕ → ℕ → Option Prepared
statement_at program s n = option_and_then (λ statements. slice_get statements n) (slice_get program.statements s)
