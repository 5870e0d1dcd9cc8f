-- The limits of a transaction.
use Rattle.std.specs.Prelude.{ℕ}

-- changes of rows
abbrev pub change_limit : ℕ
change_limit = 524288

-- events that are queued
abbrev pub event_limit : ℕ
event_limit = 524288

-- steps on a row, an event, an action's row or a statement of a body
abbrev pub step_limit : ℕ
step_limit = 4194304

-- savepoints and blocks that are open together
abbrev pub saved_limit : ℕ
saved_limit = 64

-- query levels that are open together
abbrev pub level_limit : ℕ
level_limit = 64
