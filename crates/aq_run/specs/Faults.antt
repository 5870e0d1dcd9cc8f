-- A fault of a step: what its reply says, what the trace shows before it, and whether a block may catch it.
use Rattle.std.specs.Prelude.{ℕ, Bool, true, false, List, [], Option, Some, None}
use Rattle.aq_base.specs.Values.{Row}
use Rattle.aq_base.specs.declared.fault.SqlFault.{SqlFault}
use Rattle.aq_base.specs.declared.reply.ReplyLine.{ReplyLine}

-- what a check has found
pub data Finding : Type 0 where
  -- the key that no parent row has, and the number of the database in which it was looked for
  No_parent : (key : Row) → (number : ℕ) → Finding
  -- a parent row, and a child row that still refers to it
  A_pair : (parent : ℕ) → (child : ℕ) → Finding

pub record Fault : Type 0 where
  -- what its reply says before it
  pub warnings : List ReplyLine
  pub told : SqlFault
  pub finding : Option Finding
  -- no block catches the fault of the limit on steps
  pub can_be_caught : Bool

abbrev pub plain : SqlFault → Fault
plain fault = record { warnings = []; told = fault; finding = None; can_be_caught = true }

abbrev pub found : Finding → SqlFault → Fault
found finding fault = record { warnings = []; told = fault; finding = Some finding; can_be_caught = true }

abbrev pub final : SqlFault → Fault
final fault = record { warnings = []; told = fault; finding = None; can_be_caught = false }

abbrev pub warned : List ReplyLine → SqlFault → Fault
warned warnings fault = record (plain fault) { warnings = warnings }
