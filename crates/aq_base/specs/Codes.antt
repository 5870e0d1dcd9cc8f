-- The body of a trigger function as a list of instructions with jumps, all of them forward. A place in the list stands for what is left to do.
use Rattle.std.specs.Prelude.{ℕ, ◌+◌, List, [], ◌∷◌, ◌++◌, length, map, Option, Some, None}
use Rattle.std.specs.List.{flat_map}
use Rattle.aq_base.specs.Names.{Text}
use Rattle.aq_base.specs.Terms.{Term, term_of}
use Rattle.aq_base.specs.Statements.{Change_of_rows, insert_of, update_of, delete_of}
use Rattle.aq_base.specs.Statements.Change_of_rows.{Inserts, Updates, Deletes}
use Rattle.aq_base.specs.declared.body.Condition.{Condition}
use Rattle.aq_base.specs.declared.modes.SetConstraints.{SetConstraints}
use Rattle.aq_base.specs.declared.bound_body.BoundBody.{BoundBody}
use Rattle.aq_base.specs.declared.bound_body.BoundBodyStatement.{BoundBodyStatement, BoundBodyStatement-F, fold-BoundBodyStatement}
use Rattle.aq_base.specs.declared.bound_body.BoundBodyStatement.TheOpen as bodies
use Rattle.aq_base.specs.declared.bound_body.BoundElseIf.{BoundElseIf-F}
use Rattle.aq_base.specs.declared.bound_body.BoundHandler.{BoundHandler, BoundHandler-F, fold-BoundHandler}

-- a handler of a block: what it catches, and how far behind the block's first instruction it begins
abbrev pub Handles : Type 0
Handles = List Condition × ℕ

pub data Instruction : Type 0 where
  -- where the condition isn't true, so many instructions are passed over
  Unless : (condition : Term) → (passed : ℕ) → Instruction
  Passes_over : (passed : ℕ) → Instruction
  -- a block with handlers begins, and its statements have ended without an error
  Enters : (handlers : List Handles) → Instruction
  Leaves : Instruction
  Raises : (text : Text) → Instruction
  Returns : Instruction
  Changes : (change : Change_of_rows) → Instruction
  Sets : (set : SetConstraints) → Instruction

abbrev pub Code : Type 0
Code = List Instruction

-- ---- of a bound body

-- a handler with its instructions
abbrev pub Handler : Type 0
Handler = List Condition × Code

-- the handlers one behind the other; from the end of each all later ones are passed over
abbrev pub handlers_code : List Handler → Code
handlers_code [] = []
handlers_code (handler ∷ others) = handler.1 ++ (Passes_over (length (handlers_code others)) ∷ handlers_code others)

-- where they begin, from a first distance on
abbrev pub handlers_from : ℕ → List Handler → List Handles
handlers_from distance [] = []
handlers_from distance (handler ∷ others) = (handler.0, distance) ∷ handlers_from (distance + (length handler.1 + 1)) others

-- a block: without handlers its statements alone
abbrev pub block_code : Code → List Handler → Code
block_code statements [] = statements
block_code statements (handler ∷ others) =
    Enters (handlers_from (length statements + 3) (handler ∷ others))
    ∷ (statements ++ (Leaves ∷ Passes_over (length (handlers_code (handler ∷ others))) ∷ handlers_code (handler ∷ others)))

-- what is done where a condition is true, and what else
abbrev pub choice_code : Term → Code → Code → Code
choice_code condition then_ else_ = Unless condition (length then_ + 1) ∷ (then_ ++ (Passes_over (length else_) ∷ else_))

abbrev pub joined : List Code → Code
joined codes = flat_map (λ code. code) codes

abbrev pub joined_in : Option (List Code) → Code
joined_in None = []
joined_in (Some codes) = joined codes

-- the ELSIFs, each with its condition, and then the ELSE
abbrev pub choices_code : List (Term × Code) → Code → Code
choices_code [] else_ = else_
choices_code (branch ∷ others) else_ = choice_code branch.0 branch.1 (choices_code others else_)

abbrev pub else_if_step : BoundElseIf-F Code (Term × Code) Handler → Term × Code
else_if_step branch = (term_of branch.condition, joined branch.then)

abbrev pub handler_step : BoundHandler-F Code (Term × Code) Handler → Handler
handler_step handler = (handler.conditions, joined handler.statements)

abbrev pub code_step : BoundBodyStatement-F Code (Term × Code) Handler → Code
code_step (bodies.If condition then_ else_ifs otherwise) = choice_code (term_of condition) (joined then_) (choices_code else_ifs (joined_in otherwise))
code_step (bodies.Raise text) = Raises text ∷ []
code_step (bodies.Return what) = Returns ∷ []
code_step (bodies.Insert s) = Changes (Inserts (insert_of s)) ∷ []
code_step (bodies.Update s) = Changes (Updates (update_of s)) ∷ []
code_step (bodies.Delete s) = Changes (Deletes (delete_of s)) ∷ []
code_step (bodies.SetConstraints s) = Sets s ∷ []
code_step (bodies.Block statements handlers) = block_code (joined statements) handlers

abbrev pub statement_code : BoundBodyStatement → Code
statement_code = fold-BoundBodyStatement Code (Term × Code) Handler code_step else_if_step handler_step

abbrev pub handler_code : BoundHandler → Handler
handler_code = fold-BoundHandler Code (Term × Code) Handler code_step else_if_step handler_step

abbrev pub code_of : BoundBody → Code
code_of body = block_code (flat_map statement_code body.statements) (map handler_code body.handlers)
