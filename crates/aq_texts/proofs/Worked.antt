-- Canonical texts of small statements.
use Rattle.std.proofs.Common.{◌≡◌, ℕ, refl, ap, ap₂, ◌∙◌, pos, negsuc, true, false, List, [], ◌∷◌, ◌++◌, Some, None, codes}
use Rattle.std.specs.Fmt.{digits}
use Rattle.aq_base.specs.declared.value.Value.TheVariants as values
use Rattle.aq_base.specs.declared.expr.Comparison.TheVariants as comparisons
use Rattle.aq_base.specs.declared.expr.Expr.TheVariants.{Constant, Column, Unary, Binary}
use Rattle.aq_base.specs.declared.expr.UnaryOperator.TheVariants.{Negate, Not}
use Rattle.aq_base.specs.declared.expr.BinaryOperator.{BinaryOperator}
use Rattle.aq_base.specs.declared.expr.BinaryOperator.TheVariants.{Multiply, Add, Compare, And}
use Rattle.aq_base.specs.declared.body.Condition.{Condition}
use Rattle.aq_base.specs.declared.body.Condition.TheVariants as caught
use Rattle.aq_base.specs.declared.body.Handler.{Handler}
use Rattle.aq_texts.proofs.Bodies.{handler_is}
use Rattle.aq_base.specs.declared.constraint.Match.TheVariants as matches
use Rattle.aq_base.specs.declared.constraint.Action.TheVariants as actions
use Rattle.aq_base.specs.declared.constraint.ColumnConstraint.TheVariants as on_columns
use Rattle.aq_base.specs.declared.constraint.TableConstraint.TheVariants as on_tables
use Rattle.aq_base.specs.declared.script.Kind.TheVariants as kinds
use Rattle.aq_base.specs.declared.table.TableItem.TheVariants as items
use Rattle.aq_base.specs.declared.trigger.TriggerEvent.TheVariants as events
use Rattle.aq_base.specs.declared.trigger.Transition.TheVariants as transitions
use Rattle.aq_base.specs.declared.trigger.Each.TheVariants as each
use Rattle.aq_base.specs.declared.statement.Isolation.TheVariants as isolations
use Rattle.aq_base.specs.declared.statement.Statement.TheVariants as statements
use Rattle.aq_base.specs.declared.expr.Expr.{Expr}
use Rattle.aq_texts.specs.Canon.{Operand, unary, infix_words, between, printed, expression, begin_end, exception, body, statement_line, canon}
use Rattle.aq_texts.specs.Written.{Written, written}
use Rattle.aq_texts.proofs.Expressions.{constant_is, column_is, unary_is, binary_is}

abbrev number : (n : ℕ) → Expr
number n = Constant (values.Int (pos n))

abbrev joined : Expr → BinaryOperator → Expr → Expr
joined a operator b = Binary a operator b

-- two operands that are printed so
join : (a b : Expr) (operator : BinaryOperator) (x y : Operand) → printed a ≡ x → printed b ≡ y → printed (joined a operator b) ≡ between x (infix_words operator) y
join a b operator x y h k = binary_is a operator b ∙ ap₂ (λ (v w : Operand). between v (infix_words operator) w) h k

-- a + 1 * 2 = 3 AND NOT b: each operand that is an operator itself stands in parentheses
operators : written (expression (joined (joined (joined (Column (codes "a")) Add (joined (number 1) Multiply (number 2))) (Compare comparisons.Equal) (number 3)) And (Unary Not (Column (codes "b")))))
    ≡ codes "((a + (1 * 2)) = 3) AND (NOT b)"
unfolding digits
operators =
    let one_by_two = join (number 1) (number 2) Multiply _ _ (constant_is (values.Int (pos 1))) (constant_is (values.Int (pos 2))) in
    let added = join (Column (codes "a")) (joined (number 1) Multiply (number 2)) Add _ _ (column_is (codes "a")) one_by_two in
    let compared = join (joined (Column (codes "a")) Add (joined (number 1) Multiply (number 2))) (number 3) (Compare comparisons.Equal) _ _ added (constant_is (values.Int (pos 3))) in
    let not_b = unary_is Not (Column (codes "b")) ∙ ap (λ (x : Operand). unary Not x) (column_is (codes "b")) in
    let whole =
    join (joined (joined (Column (codes "a")) Add (joined (number 1) Multiply (number 2))) (Compare comparisons.Equal) (number 3)) (Unary Not (Column (codes "b"))) And _ _ compared not_b in
    ap (λ (x : Operand). written x.tokens) whole

-- a sign of a sign
signs : written (expression (Unary Negate (Unary Negate (Column (codes "x"))))) ≡ codes "-(-x)"
signs =
    let inner = unary_is Negate (Column (codes "x")) ∙ ap (λ (x : Operand). unary Negate x) (column_is (codes "x")) in
    let whole = unary_is Negate (Unary Negate (Column (codes "x"))) ∙ ap (λ (x : Operand). unary Negate x) inner in
    ap (λ (x : Operand). written x.tokens) whole

-- names that are quoted: a reserved word, upper case, a quote, a leading digit
names : statement_line (statements.Savepoint (codes "Select")) ++ statement_line (statements.Release (codes "select"))
    ++ statement_line (statements.RollbackTo (codes "a\"b")) ++ statement_line (statements.Savepoint (codes "1a")) ++ statement_line (statements.Savepoint (codes "x$1"))
    ≡ codes "SAVEPOINT \"Select\";\nRELEASE \"select\";\nROLLBACK TO \"a\"\"b\";\nSAVEPOINT \"1a\";\nSAVEPOINT x$1;\n"
names = refl

-- a table: what is left out, and the order of what is printed
table : statement_line (statements.CreateTable (record {
  table = codes "c";
  items =
      items.Column (codes "id") kinds.Integer (on_columns.NotNull ∷ on_columns.Default (values.Int (negsuc 4)) ∷ on_columns.PrimaryKey (Some (codes "k")) ∷ [])
      ∷ items.Column (codes "up") kinds.Bigint
      (on_columns.References None (record {
        table = codes "c";
        columns = None;
        matching = matches.Simple;
        on_delete = actions.NoAction;
        set_columns = None;
        on_update = actions.NoAction;
        timing = record { deferrable = false; deferred = false };
      }) ∷ [])
      ∷ items.Constraint (on_tables.ForeignKey None (codes "id" ∷ codes "up" ∷ []) (record {
        table = codes "p";
        columns = Some (codes "a" ∷ codes "b" ∷ []);
        matching = matches.Full;
        on_delete = actions.SetNull;
        set_columns = Some (codes "up" ∷ []);
        on_update = actions.Cascade;
        timing = record { deferrable = true; deferred = true };
      })) ∷ [];
})) ≡ codes "CREATE TABLE c (id integer NOT NULL DEFAULT -5 CONSTRAINT k PRIMARY KEY, up bigint REFERENCES c, FOREIGN KEY (id, up) REFERENCES p (a, b) MATCH FULL ON DELETE SET NULL (up) ON UPDATE CASCADE DEFERRABLE INITIALLY DEFERRED);\n"
unfolding digits
table = refl

-- a trigger: what is always printed
trigger : statement_line (statements.CreateTrigger (record {
  name = codes "x";
  events = events.Insert ∷ events.Update (Some (codes "a" ∷ codes "b" ∷ [])) ∷ [];
  table = codes "t";
  transitions = Some (record { transition = transitions.New; name = codes "n" } ∷ []);
  each = each.Statement;
  condition = None;
  function = codes "f";
})) ≡ codes "CREATE TRIGGER x AFTER INSERT OR UPDATE OF a, b ON t REFERENCING NEW TABLE AS n FOR EACH STATEMENT EXECUTE FUNCTION f();\n"
trigger = refl

-- a setup that is empty is left out, a schedule with nothing in it isn't
script : canon (record {
  setup = [];
  sessions =
      record {
        name = codes "a";
        statements =
            record { line = 7; statement = statements.Begin isolations.RepeatableRead }
            ∷ record { line = 9; statement = statements.Release (codes "s") } ∷ record { line = 9; statement = statements.Commit } ∷ [];
      }
      ∷ [];
  schedule = Some (record { name = codes "a"; count = 12 } ∷ record { name = codes "b"; count = 1 } ∷ []);
}) ≡ codes "\\session a\nBEGIN ISOLATION LEVEL REPEATABLE READ;\nRELEASE s;\nCOMMIT;\n\\schedule a*12 b*1\n"
unfolding digits
script = refl

-- a handler of a block
abbrev handler_of : List Condition → Handler
handler_of conditions = record { conditions = conditions; statements = [] }

-- the code of a function: the conditions of its handlers
code : written (body (record { statements = []; handlers = handler_of (caught.UniqueViolation ∷ caught.SqlState (record { 0 = codes "P0001" }) ∷ []) ∷ handler_of (caught.Others ∷ []) ∷ [] }))
    ≡ codes "BEGIN EXCEPTION WHEN unique_violation OR SQLSTATE 'P0001' THEN WHEN OTHERS THEN END"
code =
    ap₂ (λ (x y : List Written). written (begin_end [] (exception (x ∷ y ∷ [])))) (handler_is (handler_of (caught.UniqueViolation ∷ caught.SqlState (record { 0 = codes "P0001" }) ∷ [])))
    (handler_is (handler_of (caught.Others ∷ [])))
