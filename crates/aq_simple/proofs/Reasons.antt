-- A script that runs has no statement with which it leaves the forms.
use Rattle.std.proofs.Common.{◌≡◌, ℕ, suc, subst, ◌+◌, ◌≤◌, Bool, true, false, cond, ◌&&◌, List, [], ◌∷◌, ◌++◌, length, Option, Some, None, refl, sym, ap, ◌∙◌, arith}
use Rattle.std.specs.Prelude.{is_none, option_map, option_and_then, sum_by, nat_le}
use Rattle.std.specs.List.{list_all}
use Rattle.std.proofs.lemmas.Bool.{and_parts, le-leb, leb-true}
use Rattle.std.proofs.lemmas.List.Sums.{sum_by-cons, sum_by_push}
use Rattle.aq_base.specs.Names.{is_name}
use Rattle.aq_first_base.specs.Scripts.{rows_in, rows_in_session}
use Rattle.aq_base.specs.declared.script.Placed.{Placed}
use Rattle.aq_base.specs.declared.script.SessionText.{SessionText}
use Rattle.aq_base.specs.declared.script.Script.{Script}
use Rattle.aq_first_base.specs.declared.simple.SimpleStatement.{SimpleStatement}
use Rattle.aq_first_base.specs.declared.simple.SimplePlaced.{SimplePlaced}
use Rattle.aq_first_base.specs.declared.simple.SimpleSession.{SimpleSession}
use Rattle.aq_first_base.specs.declared.simple.SimpleScript.{SimpleScript}
use Rattle.aq_simple.specs.Conditions.{definition_kept, setup_kept, run_kept, session_kept, statements_in, script_kept}
use Rattle.aq_simple.specs.Forms.{all_of, simple_statement, simple_placed, simple_statements, simple_session, simple_script}
use Rattle.aq_simple.specs.Simple.{Runs, line_not, rows_of, keeps_setup, keeps_session, sessions_line, statement_line}
use Rattle.aq_simple.proofs.Lists.{some_is, none_is_not, before_all, all_of-push}
use Rattle.aq_simple.proofs.Stands.{script_kept_is}

-- ---- what a list of simple statements says of its elements

record Begins {B : Type 0} (first : Option B) (others : Option (List B)) (all : List B) : Type 0 where
  head : B
  tail : List B
  gives : first ≡ Some head
  more : others ≡ Some tail
  whole : head ∷ tail ≡ all

begins : {B : Type 0} (first : Option B) (others : Option (List B)) (all : List B) → before_all first others ≡ Some all → Begins first others all
begins None others all e = none_is_not all e
begins (Some y) None all e = none_is_not all e
begins (Some y) (Some ys) all e = record { head = y; tail = ys; gives = refl; more = refl; whole = some_is (y ∷ ys) all e }

statement_is : (placed : Placed) (simple : SimplePlaced) → simple_placed placed ≡ Some simple → simple_statement placed.statement ≡ Some simple.statement
statement_is placed simple e = one (simple_statement placed.statement) e
  where
    one : (o : Option SimpleStatement) → option_map {U = SimplePlaced} (λ statement. record { line = placed.line; statement = statement }) o ≡ Some simple → o ≡ Some simple.statement
    one None e = none_is_not simple e
    one (Some statement) e = ap (λ (p : SimplePlaced). Some p.statement) (some_is {A = SimplePlaced} (record { line = placed.line; statement = statement }) simple e)

-- ---- the setup

setup_step : (earlier : List Placed) (placed : Placed) (others : List Placed) (before : List SimplePlaced) (head : SimplePlaced) → simple_statements earlier ≡ Some before
    → simple_placed placed ≡ Some head → definition_kept before head.statement ≡ true → line_not keeps_setup earlier (placed ∷ others) ≡ line_not keeps_setup (earlier ++ placed ∷ []) others
setup_step earlier placed others before head so_far gives kept = let is = statement_is placed head gives in rw (so_far, is, kept) refl

setup_keeps : (earlier setup : List Placed) (before after : List SimplePlaced) → simple_statements earlier ≡ Some before → simple_statements setup ≡ Some after → setup_kept before after ≡ true
    → line_not keeps_setup earlier setup ≡ None
setup_keeps earlier [] before after so_far rest kept = refl
setup_keeps earlier (placed ∷ others) before after so_far rest kept =
    let b = begins (simple_placed placed) (simple_statements others) after rest in
    let all_kept : setup_kept before (b.head ∷ b.tail) ≡ true = subst (λ (ps : List SimplePlaced). setup_kept before ps ≡ true) (sym b.whole) kept in
    let p = and_parts (definition_kept before b.head.statement) (setup_kept (before ++ b.head ∷ []) b.tail) all_kept in
    setup_step earlier placed others before b.head so_far b.gives p.0
    ∙ setup_keeps (earlier ++ placed ∷ []) others (before ++ b.head ∷ []) b.tail (all_of-push simple_placed earlier before placed b.head so_far b.gives) b.more p.1

-- ---- the sessions

abbrev rows_all : List SimplePlaced → ℕ
rows_all statements = sum_by (λ placed. rows_in placed.statement) statements

rows_are : (placed : Placed) (statement : SimpleStatement) → simple_statement placed.statement ≡ Some statement → rows_of placed ≡ rows_in statement
rows_are placed statement is = rw is refl

session_step : (setup : List SimplePlaced) (earlier : List Placed) (placed : Placed) (others : List Placed) (statement : SimpleStatement) → simple_statement placed.statement ≡ Some statement
    → run_kept setup statement ≡ true → sum_by rows_of earlier + rows_of placed ≤ 1000
    → line_not (keeps_session setup) earlier (placed ∷ others) ≡ line_not (keeps_session setup) (earlier ++ placed ∷ []) others
session_step setup earlier placed others statement is kept few =
    let within : nat_le (sum_by rows_of earlier + rows_of placed) 1000 ≡ true = le-leb _ _ few in
    rw (within, is, kept) refl

session_keeps : (setup : List SimplePlaced) (earlier statements : List Placed) (after : List SimplePlaced) → simple_statements statements ≡ Some after
    → list_all (λ placed. run_kept setup placed.statement) after ≡ true → sum_by rows_of earlier + rows_all after ≤ 1000
    → line_not (keeps_session setup) earlier statements ≡ None
session_keeps setup earlier [] after rest kept few = refl
session_keeps setup earlier (placed ∷ others) after rest kept few =
    let b = begins (simple_placed placed) (simple_statements others) after rest in
    let all_kept : list_all (λ placed. run_kept setup placed.statement) (b.head ∷ b.tail) ≡ true = subst (λ (ps : List SimplePlaced). list_all (λ placed. run_kept setup placed.statement) ps ≡ true) (sym b.whole) kept in
    let p = and_parts (run_kept setup b.head.statement) (list_all (λ placed. run_kept setup placed.statement) b.tail) all_kept in
    let is = statement_is placed b.head b.gives in
    let rows = rows_are placed b.head.statement is in
    let sum : rows_all after ≡ rows_in b.head.statement + rows_all b.tail
    = ap (λ (ps : List SimplePlaced). rows_all ps) (sym b.whole) ∙ sum_by-cons (λ (placed : SimplePlaced). rows_in placed.statement) b.head b.tail in
    let pushed = sum_by_push rows_of earlier placed in
    session_step setup earlier placed others b.head.statement is p.0 (omega (arith, rows, sum, few))
    ∙ session_keeps setup (earlier ++ placed ∷ []) others b.tail b.more p.1 (omega (arith, rows, sum, few, pushed))

statements_are : (session : SessionText) (simple : SimpleSession) → simple_session session ≡ Some simple → simple_statements session.statements ≡ Some simple.statements
statements_are session simple e = one (simple_statements session.statements) e
  where
    one : (o : Option (List SimplePlaced)) → option_map {U = SimpleSession} (λ statements. record { name = session.name; statements = statements }) o ≡ Some simple → o ≡ Some simple.statements
    one None e = none_is_not simple e
    one (Some statements) e = ap (λ (s : SimpleSession). Some s.statements) (some_is {A = SimpleSession} (record { name = session.name; statements = statements }) simple e)

sessions_keep : (setup : List SimplePlaced) (sessions : List SessionText) (after : List SimpleSession) → all_of simple_session sessions ≡ Some after → length after ≤ 1
    → list_all (session_kept setup) after ≡ true → sum_by rows_in_session after ≤ 1000 → sessions_line setup sessions ≡ None
sessions_keep setup [] after rest one kept few = refl
sessions_keep setup (session ∷ []) after rest one kept few =
    let b = begins (simple_session session) (all_of simple_session []) after rest in
    let all_kept : list_all (session_kept setup) (b.head ∷ b.tail) ≡ true = subst (λ (ss : List SimpleSession). list_all (session_kept setup) ss ≡ true) (sym b.whole) kept in
    let p = and_parts (session_kept setup b.head) (list_all (session_kept setup) b.tail) all_kept in
    let q = and_parts (is_name b.head.name) (list_all (λ placed. run_kept setup placed.statement) b.head.statements) p.0 in
    let sum : sum_by rows_in_session after ≡ rows_in_session b.head + sum_by rows_in_session b.tail
    = ap (λ (ss : List SimpleSession). sum_by rows_in_session ss) (sym b.whole) ∙ sum_by-cons rows_in_session b.head b.tail in
    let kept_so = session_keeps setup [] session.statements b.head.statements (statements_are session b.head b.gives) q.1 (omega (arith, sum, few)) in
    rw kept_so refl
sessions_keep setup (session ∷ second ∷ others) after rest one kept few =
    let b = begins (simple_session session) (all_of simple_session (second ∷ others)) after rest in
    let d = begins (simple_session second) (all_of simple_session others) b.tail b.more in
    let two : suc (suc (length d.tail)) ≡ length after = ap (λ (ss : List SimpleSession). suc (length ss)) d.whole ∙ ap (λ (ss : List SimpleSession). length ss) b.whole in
    absurd (omega (arith, two, one))

record Parts (script : Script) (simple : SimpleScript) : Type 0 where
  setup : simple_statements script.setup ≡ Some simple.setup
  sessions : all_of simple_session script.sessions ≡ Some simple.sessions

parts : (script : Script) (simple : SimpleScript) → simple_script script ≡ Some simple → Parts script simple
parts script simple e = one (is_none script.schedule) (simple_statements script.setup) (all_of simple_session script.sessions) refl refl e
  where
    one : (none : Bool) (setup : Option (List SimplePlaced)) (sessions : Option (List SimpleSession)) → simple_statements script.setup ≡ setup → all_of simple_session script.sessions ≡ sessions
        → cond none (option_and_then (λ setup. option_map {U = SimpleScript} (λ sessions. record { setup = setup; sessions = sessions; schedule = None }) sessions) setup) None ≡ Some simple → Parts script simple
    one false setup sessions a b e = none_is_not simple e
    one true None sessions a b e = none_is_not simple e
    one true (Some setup) None a b e = none_is_not simple e
    one true (Some setup) (Some sessions) a b e =
        let same = some_is {A = SimpleScript} (record { setup = setup; sessions = sessions; schedule = None }) simple e in
        record { setup = a ∙ ap (λ (s : SimpleScript). Some s.setup) same; sessions = b ∙ ap (λ (s : SimpleScript). Some s.sessions) same }

record Kept (simple : SimpleScript) : Type 0 where
  one : length simple.sessions ≤ 1
  few : sum_by rows_in_session simple.sessions ≤ 1000
  setup : setup_kept [] simple.setup ≡ true
  sessions : list_all (session_kept simple.setup) simple.sessions ≡ true

kept_of : (simple : SimpleScript) → script_kept simple ≡ true → Kept simple
unfolding script_kept
kept_of simple e =
    let one : Bool = nat_le (length simple.sessions) 1 in
    let many : Bool = nat_le (statements_in simple) 65536 in
    let few : Bool = nat_le (sum_by rows_in_session simple.sessions) 1000 in
    let p = and_parts (is_none simple.schedule && one && many && few && setup_kept [] simple.setup) (list_all (session_kept simple.setup) simple.sessions) e in
    let q = and_parts (is_none simple.schedule && one && many && few) (setup_kept [] simple.setup) p.0 in
    let r = and_parts (is_none simple.schedule && one && many) few q.0 in
    let s = and_parts (is_none simple.schedule && one) many r.0 in
    let t = and_parts (is_none simple.schedule) one s.0 in
    record { one = leb-true _ _ t.1; few = leb-true _ _ r.1; setup = q.1; sessions = p.1 }

-- a script that runs has no line at which it leaves the forms
pub no_line : (script : Script) (simple : SimpleScript) → Runs script simple → statement_line script ≡ None
no_line script simple runs =
    let p = parts script simple runs.0 in
    let k = kept_of simple (script_kept_is simple ∙ runs.1) in
    let setup = setup_keeps [] script.setup [] simple.setup refl p.setup k.setup in
    let sessions = sessions_keep simple.setup script.sessions simple.sessions p.sessions k.one k.sessions k.few in
    rw (setup, p.setup, sessions) refl
