-- Where a code has been read, no more IFs and blocks lie within one another than may: where one more would be opened, reading stops.
use Rattle.std.proofs.Common.{◌≡◌, ℕ, zero, suc, ◌≤◌, max, Bool, true, false, ◌&&◌, ◌||◌, List, [], ◌∷◌, length, map, Option, Some, None, refl, sym, subst, codes, arith, if◌then◌else◌}
use Rattle.aq_base.specs.declared.fault.SqlFault.{SqlFault}
use Rattle.aq_base.specs.declared.expr.Expr.{Expr}
use Rattle.aq_base.specs.declared.body.BodyStatement.{BodyStatement}
use Rattle.aq_base.specs.declared.body.BodyStatement.TheVariants as bodies
use Rattle.aq_base.specs.Names.{Text as Bytes}
use Rattle.aq_base.specs.declared.body.ElseIf.{ElseIf}
use Rattle.aq_base.specs.declared.body.Handler.{Handler}
use Rattle.aq_base.specs.declared.body.Body.{Body}
use Rattle.aq_base.specs.declared.statement.Statement.{Statement}
use Rattle.aq_lex.specs.declared.token.Symbol.TheVariants.{Semicolon}
use Rattle.aq_lex.specs.Lexemes.{PlacedLexeme}
use Rattle.aq_grammar.specs.declared.scope.Scope.TheVariants.{InCode}
use Rattle.aq_grammar.specs.Terminals.{Terminal, Keyword, fits, begins, text_of}
use Rattle.aq_grammar.specs.Rules.{Nonterminal, ValueOf, Refusal, Rule, Done, Token, Both, Either, Many, Block, refused}
use Rattle.aq_grammar.specs.Reading.{Outcome, Read, Stop, Syntax, Reader, ◌>>=◌, stop_or, read_both, read_either, read_called, read_token, read_each, read_many, read_by}
use Rattle.aq_grammar.specs.Calls.{called_within}
use Rattle.aq_grammar.specs.Nonterminals.{rules, reads_called, reads}
use Rattle.aq_grammar.specs.Forms.{sign, ◌▸◌, ◌◂◌, mapped, optional}
use Rattle.aq_grammar.specs.Changes.{insert, update, delete, set_constraints}
use Rattle.aq_grammar.specs.Bodies.{opens_too_many, unsupported_statements, refused_in_code, less_room, inner_block, else_if, otherwise, if_of, if_statement, handler, handlers, body, block_of, raise, return_, body_statement, body_words, block, code}
use Rattle.aq_grammar.specs.Triggers.{create_function, create_trigger, create_constraint_trigger}
use Rattle.aq_grammar.specs.Tables.{create_table, alter_table}
use Rattle.aq_grammar.specs.Statements.{created, supported_in_setup}
use Rattle.aq_forms.proofs.Depths.{deepest, statement_depth, block_depth, branches_depth, handlers_depth, body_depth, perhaps_deep, HasRoom, if_depth, block_is_deep, raise_depth, return_depth, insert_depth, update_depth, delete_depth, set_constraints_depth}
use Rattle.aq_forms.proofs.BlockEnds.{others_none}

-- what was read by the one and then the other
bound : {A B : Type 0} (outcome : Outcome A) (f : A → List PlacedLexeme → Outcome B) (y : B) (rest : List PlacedLexeme) → (outcome >>= f) ≡ Read y rest
    → (x : A) × (middle : List PlacedLexeme) × (outcome ≡ Read x middle) × (f x middle ≡ Read y rest)
bound (Read x middle) f y rest e = (x, middle, refl, e)
bound (Stop reason place) f y rest e = cc

free_of : {A : Type 0} (fault : Option SqlFault) (tokens rest : List PlacedLexeme) (outcome : Outcome A) (x : A) → stop_or fault tokens outcome ≡ Read x rest
    → (fault ≡ None) × (outcome ≡ Read x rest)
free_of None tokens rest outcome x e = (refl, e)
free_of (Some fault) tokens rest outcome x e = cc

-- what is read satisfies a predicate
abbrev Gives : {A : Type 0} → Reader A → (A → Type 0) → Type 0
Gives {A} reader P = (tokens rest : List PlacedLexeme) (x : A) → reader tokens ≡ Read x rest → P x

-- anything
abbrev Any : {A : Type 0} → A → Type 0
Any x = Unit {0}

abbrev AllOf : {A : Type 0} → (A → Type 0) → List A → Type 0
AllOf P [] = Unit {0}
AllOf P (x ∷ others) = P x × AllOf P others

gives_any : {A : Type 0} (reader : Reader A) → Gives reader Any
gives_any reader tokens rest x e = tt

gives_both : {A B C : Type 0} (f : A → B → C) (first : Reader A) (second : Reader B) (P : A → Type 0) (Q : B → Type 0) (R : C → Type 0) → Gives first P → Gives second Q
    → ((x : A) (y : B) → P x → Q y → R (f x y)) → Gives (read_both f first (λ x. second)) R
gives_both f first second P Q R one other both tokens rest z e =
    let (x, middle, x_read, e1) = bound (first tokens) (λ a rest. second rest >>= λ b last. Read (f a b) last) z rest e in
    let (y, last, y_read, e2) = bound (second middle) (λ b last. Read (f x b) last) z rest e1 in
    let same : f x y ≡ z = cc in
    subst R same (both x y (one tokens middle x x_read) (other middle last y y_read))

gives_test : {A : Type 0} (test : Bool) (first second : Outcome A) (P : A → Type 0) (rest : List PlacedLexeme) (x : A) → (first ≡ Read x rest → P x) → (second ≡ Read x rest → P x)
    → (if test then first else second) ≡ Read x rest → P x
gives_test true first second P rest x one other e = one e
gives_test false first second P rest x one other e = other e

gives_each : {A : Type 0} (most : ℕ) (kinds : List Terminal) (refusals : List Refusal) (reader : Reader A) (P : A → Type 0)
    → ((tokens rest : List PlacedLexeme) (x : A) → refused refusals tokens ≡ None → reader tokens ≡ Read x rest → P x) → Gives (read_each most kinds refusals reader) (AllOf P)
gives_each zero kinds refusals reader P one tokens rest xs e =
    let read = (free_of (refused refusals tokens) tokens rest (Read [] tokens) xs e).1 in
    let none : [] ≡ xs = cc in
    subst (AllOf P) none tt
gives_each (suc most) kinds refusals reader P one tokens rest xs e =
    let (none, read) =
    free_of (refused refusals tokens) tokens rest
    (if begins kinds tokens then read_both (λ x others. x ∷ others) reader (λ x. read_each most kinds refusals reader) tokens else Read [] tokens) xs e in
    gives_test (begins kinds tokens) (read_both (λ x others. x ∷ others) reader (λ x. read_each most kinds refusals reader) tokens) (Read [] tokens) (AllOf P) rest xs
    (next (gives_each most kinds refusals reader P one) none) ended read
  where
    ended : Read [] tokens ≡ Read xs rest → AllOf P xs
    ended e = let none : [] ≡ xs = cc in subst (AllOf P) none tt

    next : Gives (read_each most kinds refusals reader) (AllOf P) → refused refusals tokens ≡ None → read_both (λ x others. x ∷ others) reader (λ x. read_each most kinds refusals reader) tokens ≡ Read xs rest → AllOf P xs
    next all none e =
        let (x, middle, x_read, e1) =
        bound (reader tokens) (λ x middle. read_each most kinds refusals reader middle >>= λ others last. Read (x ∷ others) last) xs rest e in
        let (others, last, others_read, e2) = bound (read_each most kinds refusals reader middle) (λ others last. Read (x ∷ others) last) xs rest e1 in
        let same : x ∷ others ≡ xs = cc in
        subst (AllOf P) same (one tokens middle x none x_read, all middle last others others_read)

gives_many : {A B : Type 0} (kinds : List Terminal) (refusals : List Refusal) (f : List A → B) (reader : Reader A) (P : A → Type 0) (Q : B → Type 0)
    → ((tokens rest : List PlacedLexeme) (x : A) → refused refusals tokens ≡ None → reader tokens ≡ Read x rest → P x) → ((xs : List A) → AllOf P xs → Q (f xs))
    → Gives (read_many kinds refusals f reader) Q
gives_many kinds refusals f reader P Q one all tokens rest y e =
    let (xs, middle, read, e1) = bound (read_each (length tokens) kinds refusals reader tokens) (λ xs rest. Read (f xs) rest) y rest e in
    let same : f xs ≡ y = cc in
    subst Q same (all xs (gives_each (length tokens) kinds refusals reader P one tokens middle xs read))

gives_either : {A : Type 0} (kinds : List Terminal) (first second : Reader A) (P : A → Type 0) → Gives first P → Gives second P → Gives (read_either kinds first second) P
gives_either kinds first second P one other tokens rest x e =
    gives_test (begins kinds tokens) (first tokens) (second tokens) P rest x (one tokens rest x) (other tokens rest x) e

gives_called : {A B : Type 0} (f : A → B) (reader : Reader A) (P : A → Type 0) (Q : B → Type 0) → Gives reader P → ((x : A) → P x → Q (f x)) → Gives (read_called f reader) Q
gives_called f reader P Q one so tokens rest y e =
    let (x, middle, read, e1) = bound (reader tokens) (λ x rest. Read (f x) rest) y rest e in
    let same : f x ≡ y = cc in
    subst Q same (so x (one tokens middle x read))

gives_done : {A : Type 0} (x : A) (P : A → Type 0) → P x → Gives (λ tokens. Read x tokens) P
gives_done x P so tokens rest y e = let same : x ≡ y = cc in subst P same so

gives_token : {A : Type 0} (kind : Terminal) (f : PlacedLexeme → A) (P : A → Type 0) → ((token : PlacedLexeme) → P (f token)) → Gives (read_token kind f) P
gives_token kind f P so [] rest x e = cc
gives_token kind f P so (token ∷ tokens) rest x e =
    gives_test (fits kind token) (Read (f token) tokens) (Stop Syntax (token ∷ tokens)) P rest x (λ e. subst P (same e) (so token)) (λ e. none e) e
  where
    same : Read (f token) tokens ≡ Read x rest → f token ≡ x
    same e = cc

    none : Stop Syntax (token ∷ tokens) ≡ Read x rest → P x
    none e = cc

-- ---- the same of rules, which stand in the type, so that antt finds them

module _ (calls : (n : Nonterminal) → Reader (ValueOf n)) where
  -- what is read by the rule satisfies the predicate
  record ReadsOnly {A : Type 0} (r : Rule A) (P : A → Type 0) : Type 0 where
    so : Gives (read_by calls r) P

  anything : {A : Type 0} {r : Rule A} → ReadsOnly r Any
  anything {r = r} = record { so = gives_any (read_by calls r) }

  both : {A B C : Type 0} {f : A → B → C} {a : Rule A} {b : Rule B} {P : A → Type 0} {Q : B → Type 0} {R : C → Type 0} → ReadsOnly a P → ReadsOnly b Q
      → ((x : A) (y : B) → P x → Q y → R (f x y)) → ReadsOnly (Both f a b) R
  both {f = f} {a = a} {b = b} {P = P} {Q = Q} {R = R} one other whole =
      record { so = gives_both f (read_by calls a) (read_by calls b) P Q R one.so other.so whole }

  behind : {A B : Type 0} {a : Rule A} {b : Rule B} {Q : B → Type 0} → ReadsOnly b Q → ReadsOnly (a ▸ b) Q
  behind other = both anything other (λ x y p q. q)

  before : {A B : Type 0} {a : Rule A} {b : Rule B} {P : A → Type 0} → ReadsOnly a P → ReadsOnly (a ◂ b) P
  before one = both one anything (λ x y p q. p)

  told : {A B : Type 0} {f : A → B} {a : Rule A} {P : A → Type 0} {Q : B → Type 0} → ReadsOnly a P → ((x : A) → P x → Q (f x)) → ReadsOnly (mapped f a) Q
  told one whole = both one anything (λ x y p q. whole x p)

  either : {A : Type 0} {kinds : List Terminal} {a b : Rule A} {P : A → Type 0} → ReadsOnly a P → ReadsOnly b P → ReadsOnly (Either kinds a b) P
  either {kinds = kinds} {a = a} {b = b} {P = P} one other = record { so = gives_either kinds (read_by calls a) (read_by calls b) P one.so other.so }

  token : {A : Type 0} {kind : Terminal} {f : PlacedLexeme → A} {P : A → Type 0} → ((token : PlacedLexeme) → P (f token)) → ReadsOnly (Token kind f) P
  token {kind = kind} {f = f} {P = P} whole = record { so = gives_token kind f P whole }

  done : {A : Type 0} {x : A} {P : A → Type 0} → P x → ReadsOnly (Done x) P
  done {x = x} {P = P} whole = record { so = gives_done x P whole }

  many : {A B : Type 0} {kinds : List Terminal} {refusals : List Refusal} {f : List A → B} {a : Rule A} {P : A → Type 0} {Q : B → Type 0} → ReadsOnly a P
      → ((xs : List A) → AllOf P xs → Q (f xs)) → ReadsOnly (Many kinds refusals f a) Q
  many {kinds = kinds} {refusals = refusals} {f = f} {a = a} {P = P} {Q = Q} one whole =
      record { so = gives_many kinds refusals f (read_by calls a) P Q (λ tokens rest x none e. one.so tokens rest x e) whole }

  perhaps : {A : Type 0} {kinds : List Terminal} {a : Rule A} {P : A → Type 0} {Q : Option A → Type 0} → ReadsOnly a P → ((x : A) → P x → Q (Some x)) → Q None
      → ReadsOnly (optional kinds a) Q
  perhaps one whole none = either (told one whole) (done none)

-- none of them is deeper than so
all_deepest : (room : ℕ) {A : Type 0} (depth : A → ℕ) (xs : List A) → AllOf (λ x. depth x ≤ room) xs → deepest (map depth xs) ≤ room
all_deepest room depth [] all = omega arith
all_deepest room depth (x ∷ others) all = let so = all_deepest room depth others all.1 in omega (arith, all.0)

-- ---- the statements of a code

abbrev Depth_is_none : BodyStatement → Type 0
Depth_is_none s = statement_depth s ≡ 0

-- where the word of an IF or a block is refused, none begins
none_begins : (text : Bytes) (others : List Refusal) (tokens : List PlacedLexeme) → refused (opens_too_many text ∷ others) tokens ≡ None → begins (Keyword text ∷ []) tokens ≡ false
none_begins text others [] none = refl
none_begins text others (token ∷ tokens) none = by_test (fits (Keyword text) token) none
  where
    by_test : (test : Bool) → (if test && true then Some (opens_too_many text).fault else refused others (token ∷ tokens)) ≡ None → (test || false) ≡ false
    by_test true none = cc
    by_test false none = refl

module _ (calls : (n : Nonterminal) → Reader (ValueOf n)) where
  raise_is_flat : ReadsOnly calls raise Depth_is_none
  unfolding raise
  raise_is_flat = behind calls (behind calls (token calls (λ token. raise_depth (text_of token))))

  return_is_flat : ReadsOnly calls return_ Depth_is_none
  unfolding return_
  return_is_flat = behind calls (told calls (anything calls) (λ what so. return_depth what))

  -- a statement but IF and a block
  flat : Rule BodyStatement
  flat =
      Either (Keyword (codes "raise") ∷ []) raise
      (Either (Keyword (codes "return") ∷ []) return_
      (Either (Keyword (codes "insert") ∷ []) (mapped bodies.Insert (insert InCode))
      (Either (Keyword (codes "update") ∷ []) (mapped bodies.Update (update InCode))
      (Either (Keyword (codes "delete") ∷ []) (mapped bodies.Delete (delete InCode)) (mapped bodies.SetConstraints set_constraints)))))

  flat_is_flat : ReadsOnly calls flat Depth_is_none
  unfolding flat
  flat_is_flat =
      either calls raise_is_flat (either calls return_is_flat
      (either calls (told calls (anything calls) (λ s so. insert_depth s)) (either calls (told calls (anything calls) (λ s so. update_depth s))
      (either calls (told calls (anything calls) (λ s so. delete_depth s)) (told calls (anything calls) (λ s so. set_constraints_depth s))))))

  flat_in_room : (room : ℕ) → ReadsOnly calls flat (λ s. statement_depth s ≤ suc room)
  flat_in_room room = record { so = λ tokens rest s e. shallow s (flat_is_flat.so tokens rest s e) }
    where
      shallow : (s : BodyStatement) → statement_depth s ≡ 0 → statement_depth s ≤ suc room
      shallow s e = omega arith

  -- ---- IF, where its blocks have room

  abbrev HasBlocks : ℕ → Type 0
  HasBlocks room = ReadsOnly calls (inner_block room) (λ statements. block_depth statements ≤ less_room room)

  abbrev EndsWithin : ℕ → List ElseIf × Option (List BodyStatement) → Type 0
  EndsWithin room ended = (branches_depth ended.0 ≤ room) × (perhaps_deep block_depth ended.1 ≤ room)

  abbrev IsWithin : ℕ → List BodyStatement × (List ElseIf × Option (List BodyStatement)) → Type 0
  IsWithin room parts = (block_depth parts.0 ≤ room) × EndsWithin room parts.1

  branch_in_room : (room : ℕ) → HasBlocks (suc room) → ReadsOnly calls (else_if (suc room)) (λ branch. block_depth branch.then ≤ room)
  unfolding else_if
  branch_in_room room blocks = behind calls (both calls (anything calls) (behind calls blocks) (λ e statements p q. q))

  otherwise_in_room : (room : ℕ) → HasBlocks (suc room) → ReadsOnly calls (otherwise (suc room)) (λ last. perhaps_deep block_depth last ≤ room)
  unfolding otherwise
  otherwise_in_room room blocks = perhaps calls (behind calls blocks) (λ statements p. p) (omega arith)

  if_in_room : (room : ℕ) → HasBlocks (suc room) → ReadsOnly calls (if_statement (suc room)) (λ s. statement_depth s ≤ suc room)
  unfolding if_statement
  if_in_room room blocks =
      behind calls
      (both calls {Q = IsWithin room} (anything calls)
      (behind calls (both calls {P = λ statements. block_depth statements ≤ room} {Q = EndsWithin room} blocks
      (before calls (before calls
      (both calls {P = λ branches. branches_depth branches ≤ room} {Q = λ last. perhaps_deep block_depth last ≤ room}
      (many calls (branch_in_room room blocks) (λ xs all. all_deepest room (λ (branch : ElseIf). block_depth branch.then) xs all)) (otherwise_in_room room blocks)
      (λ branches last p q. (p, q)))))
      (λ first ended p q. (p, q))))
      (λ condition parts p q. whole condition parts q))
    where
      whole : (condition : Expr) (parts : List BodyStatement × (List ElseIf × Option (List BodyStatement))) → IsWithin room parts
          → statement_depth (if_of condition parts) ≤ suc room
      whole condition (first, (others, last)) (p, (q, r)) =
          let depth : statement_depth (bodies.If condition first others last) ≡ suc (max (block_depth first) (max (branches_depth others) (perhaps_deep block_depth last))) =
          if_depth condition first others last in
          omega arith

  -- ---- blocks with their handlers

  handler_in_room : (room : ℕ) → HasBlocks (suc room) → ReadsOnly calls (handler (suc room)) (λ found. block_depth found.statements ≤ room)
  unfolding handler
  handler_in_room room blocks = behind calls (both calls (anything calls) (behind calls blocks) (λ conditions statements p q. q))

  handlers_in_room : (room : ℕ) → HasBlocks (suc room) → ReadsOnly calls (handlers (suc room)) (λ found. handlers_depth found ≤ room)
  unfolding handlers
  handlers_in_room room blocks =
      either calls
      (behind calls
      (both calls {P = λ (found : Handler). block_depth found.statements ≤ room} {Q = λ found. handlers_depth found ≤ room} (handler_in_room room blocks)
      (many calls (handler_in_room room blocks) (λ xs all. all_deepest room (λ (found : Handler). block_depth found.statements) xs all))
      (λ first others p q. omega arith)))
      (done calls (omega arith))

  body_in_room : (room : ℕ) → HasBlocks (suc room) → ReadsOnly calls (body (suc room)) (λ found. body_depth found ≤ suc room)
  unfolding body
  body_in_room room blocks =
      behind calls (before calls
      (both calls {P = λ statements. block_depth statements ≤ room} {Q = λ found. handlers_depth found ≤ room} blocks (handlers_in_room room blocks)
      (λ statements found p q. omega arith)))

  block_statement_in_room : (room : ℕ) → HasBlocks (suc room) → ReadsOnly calls (mapped block_of (body (suc room))) (λ s. statement_depth s ≤ suc room)
  block_statement_in_room room blocks = told calls (body_in_room room blocks) (λ found p. whole found p)
    where
      whole : (found : Body) → body_depth found ≤ suc room → statement_depth (block_of found) ≤ suc room
      whole found p =
          let depth : statement_depth (block_of found) ≡ body_depth found = block_is_deep found.statements found.handlers in
          subst (λ (depth : ℕ). depth ≤ suc room) (sym depth) p

  -- IF and a block are read only where there is room for them
  statement_in_room : (room : ℕ) → HasBlocks room → (tokens rest : List PlacedLexeme) (s : BodyStatement) → refused (refused_in_code room) tokens ≡ None
      → read_by calls (body_statement room) tokens ≡ Read s rest → statement_depth s ≤ room
  unfolding body_statement flat
  statement_in_room zero blocks tokens rest s none e =
      let behind_if = others_none (opens_too_many (codes "if")) (opens_too_many (codes "begin") ∷ unsupported_statements) tokens none in
      let no_if : begins (Keyword (codes "if") ∷ []) tokens ≡ false = none_begins (codes "if") (opens_too_many (codes "begin") ∷ unsupported_statements) tokens none in
      let no_block : begins (Keyword (codes "begin") ∷ []) tokens ≡ false = none_begins (codes "begin") unsupported_statements tokens behind_if in
      let others_read =
      subst
      (λ (test : Bool).
      (if test then read_by calls (if_statement zero) tokens
      else (if begins (Keyword (codes "begin") ∷ []) tokens then read_by calls (mapped block_of (body zero)) tokens else read_by calls flat tokens)) ≡ Read s rest)
      no_if e in
      let flat_read : read_by calls flat tokens ≡ Read s rest =
      subst (λ (test : Bool). (if test then read_by calls (mapped block_of (body zero)) tokens else read_by calls flat tokens) ≡ Read s rest) no_block others_read in
      let flat_depth : statement_depth s ≡ 0 = flat_is_flat.so tokens rest s flat_read in
      omega arith
  statement_in_room (suc room) blocks tokens rest s none e =
      let found : ReadsOnly calls (Either (Keyword (codes "if") ∷ []) (if_statement (suc room))
      (Either (Keyword (codes "begin") ∷ []) (mapped block_of (body (suc room))) flat)) (λ s. statement_depth s ≤ suc room) =
      either calls (if_in_room room blocks) (either calls (block_statement_in_room room blocks) (flat_in_room room)) in
      found.so tokens rest s e

  block_in_room : (room : ℕ) → HasBlocks room → ReadsOnly calls (block room) (λ statements. block_depth statements ≤ room)
  unfolding block
  block_in_room room blocks =
      record {
        so = gives_many body_words (refused_in_code room) (λ statements. statements) (read_by calls (body_statement room ◂ sign Semicolon)) (λ s. statement_depth s ≤ room)
            (λ statements. block_depth statements ≤ room) ended_in_room (λ xs all. all_deepest room statement_depth xs all);
      }
    where
      ended_in_room : (tokens rest : List PlacedLexeme) (s : BodyStatement) → refused (refused_in_code room) tokens ≡ None
          → read_by calls (body_statement room ◂ sign Semicolon) tokens ≡ Read s rest → statement_depth s ≤ room
      ended_in_room tokens rest s none e =
          let (x, middle, x_read, e1) = bound (read_by calls (body_statement room) tokens) (λ x middle. read_by calls (sign Semicolon) middle >>= λ y last. Read x last) s rest e in
          let (y, last, y_read, e2) = bound (read_by calls (sign Semicolon) middle) (λ (y : Unit {0}) last. Read x last) s rest e1 in
          let same : x ≡ s = cc in
          subst (λ (s : BodyStatement). statement_depth s ≤ room) same (statement_in_room room blocks tokens middle x none x_read)

-- so many calls within one another read no deeper code
within_room : (most room : ℕ) → Gives (called_within rules most (Block room)) (λ statements. block_depth statements ≤ room)
unfolding rules
within_room zero room tokens rest statements e = cc
within_room (suc most) room tokens rest statements e =
    (block_in_room (called_within rules most) room
    (record {
      so = gives_called (λ statements. statements) (called_within rules most (Block (less_room room))) (λ statements. block_depth statements ≤ less_room room)
          (λ statements. block_depth statements ≤ less_room room) (within_room most (less_room room)) (λ statements p. p);
    })).so tokens rest statements e

pub read_block_has_room : (room : ℕ) (tokens rest : List PlacedLexeme) (statements : List BodyStatement) → reads_called (Block room) tokens ≡ Read statements rest
    → block_depth statements ≤ room
unfolding reads_called
read_block_has_room room tokens rest statements e = within_room (suc (length tokens)) room tokens rest statements e

-- ---- statements of a setup

code_has_room : ReadsOnly reads_called code (λ found. body_depth found ≤ 100)
unfolding code
code_has_room =
    behind reads_called (before reads_called (before reads_called (body_in_room reads_called 99
    (record {
      so = gives_called (λ statements. statements) (reads_called (Block 99)) (λ statements. block_depth statements ≤ 99) (λ statements. block_depth statements ≤ 99)
          (read_block_has_room 99) (λ statements p. p);
    }))))

function_has_room : ReadsOnly reads_called create_function HasRoom
unfolding create_function
function_has_room =
    behind reads_called
    (both reads_called (anything reads_called)
    (either reads_called {P = λ found. body_depth found ≤ 100} (behind reads_called (behind reads_called code_has_room))
    (behind reads_called (before reads_called code_has_room))) (λ name body p q. q))

-- other statements have no code

table_has_room : ReadsOnly reads_called create_table HasRoom
unfolding create_table
table_has_room = behind reads_called (both reads_called (anything reads_called) (anything reads_called) (λ table items p q. tt))

altered_has_room : ReadsOnly reads_called alter_table HasRoom
unfolding alter_table
altered_has_room =
    behind reads_called (behind reads_called (behind reads_called (both reads_called (anything reads_called) (anything reads_called) (λ table constraint p q. tt))))

trigger_has_room : ReadsOnly reads_called create_trigger HasRoom
unfolding create_trigger
trigger_has_room = behind reads_called (both reads_called (anything reads_called) (anything reads_called) (λ name parts p q. tt))

constraint_trigger_has_room : ReadsOnly reads_called create_constraint_trigger HasRoom
unfolding create_constraint_trigger
constraint_trigger_has_room = behind reads_called (behind reads_called (both reads_called (anything reads_called) (anything reads_called) (λ name parts p q. tt)))

created_has_room : ReadsOnly reads_called created HasRoom
unfolding created
created_has_room =
    either reads_called table_has_room
    (either reads_called function_has_room (either reads_called trigger_has_room constraint_trigger_has_room))

setup_has_room : ReadsOnly reads_called supported_in_setup HasRoom
unfolding supported_in_setup
setup_has_room = either reads_called (behind reads_called created_has_room) altered_has_room

-- a statement of a setup that has been read
pub read_setup_has_room : (tokens rest : List PlacedLexeme) (s : Statement) → reads supported_in_setup tokens ≡ Read s rest → HasRoom s
read_setup_has_room tokens rest s e = setup_has_room.so tokens rest s e

-- with its `;`
pub read_ended_has_room : (tokens rest : List PlacedLexeme) (s : Statement) → reads (supported_in_setup ◂ sign Semicolon) tokens ≡ Read s rest → HasRoom s
read_ended_has_room tokens rest s e =
    let found : ReadsOnly reads_called (supported_in_setup ◂ sign Semicolon) HasRoom = before reads_called setup_has_room in
    found.so tokens rest s e
