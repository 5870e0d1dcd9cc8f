-- How a loop stands that reads forms one after the other.
use Rattle.std.proofs.Common.{◌≡◌, ℕ, zero, suc, ◌+◌, ◌≤◌, ◌<◌, Bool, true, false, List, [], ◌∷◌, ◌++◌, length, if◌then◌else◌, Option, Some, None, Result, Ok, Err, ◌-◌, ◌||◌, drop, refl, sym, ap, ◌∙◌, subst, append_assoc, arith, le_refl, replicate}
use Rattle.std.proofs.lemmas.Bool.{cond-true, cond-false}
use Rattle.std.proofs.lemmas.List.{append-nil, replicate_more}
use Rattle.aq_base.specs.declared.fault.SqlFault.{SqlFault}
use Rattle.aq_lex.specs.Lexemes.{PlacedLexeme}
use Rattle.aq_lex.specs.declared.token.Symbol.TheVariants.{Comma}
use Rattle.aq_base.specs.declared.expr.Expr.{Expr}
use Rattle.aq_base.specs.declared.expr.Expr.TheVariants.{Unary}
use Rattle.aq_base.specs.declared.expr.UnaryOperator.{UnaryOperator}
use Rattle.aq_grammar.specs.Terminals.{Terminal, Sign, fits, begins}
use Rattle.aq_grammar.specs.Rules.{Refusal}
use Rattle.aq_grammar.specs.Rules.{refused}
use Rattle.aq_grammar.specs.Reading.{Outcome, Read, Stop, Syntax as Syntax_, Refused as Refused_, Reader, ◌>>=◌, stop_or, read_token, read_each, read_many}
use Rattle.aq_grammar.specs.declared.fault.ReadFault.{ReadFault}
use Rattle.aq_grammar.specs.declared.fault.ReadFault.TheVariants.{NoMemory, Syntax, Refused}
use Rattle.aq_grammar.specs.Expressions.{before, from_left}
use Rattle.aq_grammar.specs.Forms.{sign}
use Rattle.aq_grammar.specs.Nonterminals.{reads}
use Rattle.aq_grammar.specs.Steps.{Fails, Gives, RefusesSo, read_next, read_listed}
use Rattle.aq_grammar.specs.Shorter.{token_is_shorter}

-- a fault of a part is a fault of the whole
pub fails_on : {A B : Type 0} (fault : ReadFault) (outcome : Outcome A) (f : A → List PlacedLexeme → Outcome B) → Fails fault outcome → Fails fault (outcome >>= f)
fails_on NoMemory outcome f h = tt
fails_on (Syntax left) outcome f (rest, stops, is_left) = (rest, ap (λ o. o >>= f) stops, is_left)
fails_on (Refused left fault) outcome f (rest, stops, is_left) = (rest, ap (λ o. o >>= f) stops, is_left)

pub fails_as : {A : Type 0} (fault : ReadFault) (a b : Outcome A) → a ≡ b → Fails fault a → Fails fault b
fails_as fault a b e h = subst (λ o. Fails fault o) e h

pub gives_fault : {X Y : Type 0} (view : X → Y) (result : Result (X × List PlacedLexeme) ReadFault) (fault : ReadFault) (outcome : Outcome Y)
    → result ≡ Err fault → Fails fault outcome → Gives view result outcome
gives_fault view result fault outcome e h = subst (λ r. Gives view r outcome) (sym e) h

-- what is read is handed on
pub handed_on : {A : Type 0} (outcome : Outcome A) → (outcome >>= λ x rest. Read x rest) ≡ outcome
handed_on (Read x rest) = refl
handed_on (Stop reason rest) = refl

module _ {A : Type 0} (kinds : List Terminal) (refusals : List Refusal) (reader : Reader A) where
  -- the trees so far, and those that are still read
  abbrev pub with_front : List A → Outcome (List A) → Outcome (List A)
  with_front before outcome = outcome >>= λ found rest. Read (before ++ found) rest

  pub record Stands (before : List A) (tokens : List PlacedLexeme) (total : Outcome (List A)) : Type 0 where
    pub most : ℕ
    pub enough : length tokens ≤ most
    pub same : with_front before (read_each most kinds refusals reader tokens) ≡ total

  with_one : (before : List A) (x : A) (outcome : Outcome (List A)) → with_front before (outcome >>= λ others last. Read (x ∷ others) last) ≡ with_front (before ++ x ∷ []) outcome
  with_one before x (Read found rest) = ap (λ (xs : List A). Read xs rest) (sym (append_assoc before (x ∷ []) found))
  with_one before x (Stop reason rest) = refl

  -- nothing is refused there
  abbrev pub IsFree : List PlacedLexeme → Type 0
  IsFree tokens = refused refusals tokens ≡ None

  -- one tree and then others
  abbrev step : ℕ → List PlacedLexeme → Outcome (List A)
  step most tokens = reader tokens >>= λ y behind. read_each most kinds refusals reader behind >>= λ others last. Read (y ∷ others) last

  abbrev none_left : List PlacedLexeme → Outcome (List A)
  none_left tokens = Read [] tokens

  free_goes_on : (tokens : List PlacedLexeme) (outcome : Outcome (List A)) → IsFree tokens → stop_or (refused refusals tokens) tokens outcome ≡ outcome
  free_goes_on tokens outcome free = ap (λ (o : Option SqlFault). stop_or o tokens outcome) free

  barred_stops : (tokens : List PlacedLexeme) (outcome : Outcome (List A)) (fault : SqlFault) → refused refusals tokens ≡ Some fault
      → stop_or (refused refusals tokens) tokens outcome ≡ Stop (Refused_ fault) tokens
  barred_stops tokens outcome fault barred = ap (λ (o : Option SqlFault). stop_or o tokens outcome) barred

  one_fails : (most : ℕ) (tokens : List PlacedLexeme) → IsFree tokens → begins kinds tokens ≡ true → read_each (suc most) kinds refusals reader tokens ≡ step most tokens
  one_fails most tokens free begun =
      free_goes_on tokens (if begins kinds tokens then step most tokens else none_left tokens) free ∙ cond-true (begins kinds tokens) (step most tokens) (none_left tokens) begun

  one_more : (most : ℕ) (tokens rest : List PlacedLexeme) (x : A) → IsFree tokens → begins kinds tokens ≡ true → reader tokens ≡ Read x rest
      → read_each (suc most) kinds refusals reader tokens ≡ (read_each most kinds refusals reader rest >>= λ others last. Read (x ∷ others) last)
  one_more most tokens rest x free begun read =
      one_fails most tokens free begun ∙ ap (λ (o : Outcome A). o >>= λ y behind. read_each most kinds refusals reader behind >>= λ others last. Read (y ∷ others) last) read

  no_more : (most : ℕ) (tokens : List PlacedLexeme) → IsFree tokens → begins kinds tokens ≡ false → read_each most kinds refusals reader tokens ≡ Read [] tokens
  no_more zero tokens free begun = free_goes_on tokens (none_left tokens) free
  no_more (suc most) tokens free begun =
      free_goes_on tokens (if begins kinds tokens then step most tokens else none_left tokens) free ∙ cond-false (begins kinds tokens) (step most tokens) (none_left tokens) begun

  is_barred : (most : ℕ) (tokens : List PlacedLexeme) (fault : SqlFault) → refused refusals tokens ≡ Some fault → read_each most kinds refusals reader tokens ≡ Stop (Refused_ fault) tokens
  is_barred zero tokens fault barred = barred_stops tokens (none_left tokens) fault barred
  is_barred (suc most) tokens fault barred = barred_stops tokens (if begins kinds tokens then step most tokens else none_left tokens) fault barred

  pub begun_with : (tokens : List PlacedLexeme) → Stands [] tokens (read_each (length tokens) kinds refusals reader tokens)
  begun_with tokens = record { most = length tokens; enough = omega arith; same = same_front (read_each (length tokens) kinds refusals reader tokens) }
    where
      same_front : (outcome : Outcome (List A)) → with_front [] outcome ≡ outcome
      same_front (Read found rest) = refl
      same_front (Stop reason rest) = refl

  goes_on_at : (most : ℕ) (before : List A) (tokens rest : List PlacedLexeme) (x : A) (total : Outcome (List A)) → length rest < length tokens → length tokens ≤ most
      → IsFree tokens → begins kinds tokens ≡ true → reader tokens ≡ Read x rest → with_front before (read_each most kinds refusals reader tokens) ≡ total
      → Stands (before ++ x ∷ []) rest total
  goes_on_at zero before tokens rest x total less enough free begun read so_far = absurd (omega arith)
  goes_on_at (suc most) before tokens rest x total less enough free begun read so_far = record {
    most = most;
    enough = omega arith;
    same = sym (with_one before x (read_each most kinds refusals reader rest)) ∙ (ap (λ (o : Outcome (List A)). with_front before o) (sym (one_more most tokens rest x free begun read)) ∙ so_far);
  }

  pub goes_on_with : (before : List A) (tokens rest : List PlacedLexeme) (x : A) (total : Outcome (List A)) → length rest < length tokens → Stands before tokens total
      → IsFree tokens → begins kinds tokens ≡ true → reader tokens ≡ Read x rest → Stands (before ++ x ∷ []) rest total
  goes_on_with before tokens rest x total less stands free begun read = goes_on_at stands.most before tokens rest x total less stands.enough free begun read stands.same

  fails_at : (most : ℕ) (fault : ReadFault) (before : List A) (tokens : List PlacedLexeme) (total : Outcome (List A)) → 1 ≤ length tokens → length tokens ≤ most
      → IsFree tokens → begins kinds tokens ≡ true → Fails fault (reader tokens) → with_front before (read_each most kinds refusals reader tokens) ≡ total → Fails fault total
  fails_at zero fault before tokens total some enough free begun fails so_far = absurd (omega arith)
  fails_at (suc most) fault before tokens total some enough free begun fails so_far =
      fails_as fault _ total so_far (fails_on fault _ _ (fails_as fault _ _ (sym (one_fails most tokens free begun)) (fails_on fault (reader tokens) _ fails)))

  pub fails_with : (fault : ReadFault) (before : List A) (tokens : List PlacedLexeme) (total : Outcome (List A)) → 1 ≤ length tokens → Stands before tokens total
      → IsFree tokens → begins kinds tokens ≡ true → Fails fault (reader tokens) → Fails fault total
  fails_with fault before tokens total some stands free begun fails = fails_at stands.most fault before tokens total some stands.enough free begun fails stands.same

  pub ends_with_all : (before : List A) (tokens : List PlacedLexeme) (total : Outcome (List A)) → Stands before tokens total → IsFree tokens → begins kinds tokens ≡ false
      → total ≡ Read before tokens
  ends_with_all before tokens total stands free begun =
      sym stands.same ∙ (ap (λ (o : Outcome (List A)). with_front before o) (no_more stands.most tokens free begun) ∙ ap (λ (xs : List A). Read xs tokens) (append-nil before))

  pub ends_barred : (before : List A) (tokens : List PlacedLexeme) (fault : SqlFault) (total : Outcome (List A)) → Stands before tokens total → refused refusals tokens ≡ Some fault
      → total ≡ Stop (Refused_ fault) tokens
  ends_barred before tokens fault total stands barred = sym stands.same ∙ ap (λ (o : Outcome (List A)). with_front before o) (is_barred stands.most tokens fault barred)

  pub some_tokens : (tokens : List PlacedLexeme) → begins kinds tokens ≡ true → 1 ≤ length tokens
  some_tokens [] begun = cc
  some_tokens (token ∷ tokens) begun = omega arith

  pub many_begin : (tokens : List PlacedLexeme) → Stands [] tokens (read_many kinds refusals (λ xs. xs) reader tokens)
  many_begin tokens =
      subst (λ (total : Outcome (List A)). Stands [] tokens total) (sym (handed_on (read_each (length tokens) kinds refusals reader tokens))) (begun_with tokens)

  -- nothing is refused there, or what is refused is a fault of the whole
  pub is_free : (x : Unit {0}) (tokens : List PlacedLexeme) → RefusesSo refusals (Ok x) tokens → IsFree tokens
  unfolding RefusesSo
  is_free x tokens refuses = refuses

  pub refuses_with : (fault : ReadFault) (before : List A) (tokens : List PlacedLexeme) (total : Outcome (List A)) → Stands before tokens total
      → RefusesSo refusals (Err fault) tokens → Fails fault total
  unfolding RefusesSo
  refuses_with NoMemory before tokens total stands refuses = tt
  refuses_with (Syntax left) before tokens total stands refuses = absurd refuses
  refuses_with (Refused left fault) before tokens total stands (is_left, barred) = (tokens, ends_barred before tokens fault total stands barred, is_left)

-- operators joined from the left
module _ {A : Type 0} (joined : Expr → A → Expr) (kinds : List Terminal) (reader : Reader A) (first : Expr) where
  pub joined_last : (e : Expr) (before : List A) (x : A) → from_left joined e (before ++ x ∷ []) ≡ joined (from_left joined e before) x
  joined_last e [] x = refl
  joined_last e (y ∷ before) x = joined_last (joined e y) before x

  -- the operators so far give this expression, and others are still read
  pub record IsJoined (left : Expr) (tokens : List PlacedLexeme) (total : Outcome (List A)) : Type 0 where
    pub operators : List A
    pub is_left : left ≡ from_left joined first operators
    pub stands : Stands kinds [] reader operators tokens total

  pub chain_begins : (tokens : List PlacedLexeme) → IsJoined first tokens (read_many kinds [] (λ xs. xs) reader tokens)
  chain_begins tokens = record { operators = []; is_left = refl; stands = many_begin kinds [] reader tokens }

  pub chain_goes_on : (left next : Expr) (tokens rest : List PlacedLexeme) (x : A) (total : Outcome (List A)) → length rest < length tokens → IsJoined left tokens total
      → begins kinds tokens ≡ true → reader tokens ≡ Read x rest → next ≡ joined left x → IsJoined next rest total
  chain_goes_on left next tokens rest x total less so_far begun read is_next = record {
    operators = so_far.operators ++ x ∷ [];
    is_left = is_next ∙ (ap (λ e. joined e x) so_far.is_left ∙ sym (joined_last first so_far.operators x));
    stands = goes_on_with kinds [] reader so_far.operators tokens rest x total less so_far.stands refl begun read;
  }

  abbrev with_left : Outcome (List A) → Outcome Expr
  with_left outcome = outcome >>= λ others rest. Read (from_left joined first others) rest

  pub chain_fails : (fault : ReadFault) (left : Expr) (tokens : List PlacedLexeme) (total : Outcome (List A)) → IsJoined left tokens total
      → begins kinds tokens ≡ true → Fails fault (reader tokens) → Fails fault (total >>= λ others rest. Read (from_left joined first others) rest)
  chain_fails fault left tokens total so_far begun fails =
      fails_on fault total _
      (fails_with kinds [] reader fault so_far.operators tokens total (some_tokens kinds [] reader tokens begun) so_far.stands refl begun fails)

  pub chain_ends : (left : Expr) (tokens : List PlacedLexeme) (total : Outcome (List A)) → IsJoined left tokens total → begins kinds tokens ≡ false
      → (total >>= λ others rest. Read (from_left joined first others) rest) ≡ Read left tokens
  chain_ends left tokens total so_far ended =
      ap with_left (ends_with_all kinds [] reader so_far.operators tokens total so_far.stands refl ended) ∙ ap (λ e. Read e tokens) (sym so_far.is_left)

-- one form, and others behind commas
module _ {A : Type 0} (reader : Reader A) where
  abbrev behind_comma : Outcome (Unit {0}) → Outcome A
  behind_comma outcome = outcome >>= λ x rest. reader rest >>= λ y last. Read y last

  next_is : (tokens behind : List PlacedLexeme) → reads (sign Comma) tokens ≡ Read tt behind → read_next reader tokens ≡ reader behind
  next_is tokens behind comma = ap behind_comma comma ∙ handed_on (reader behind)

  pub listed_fails_first : (fault : ReadFault) (tokens : List PlacedLexeme) → Fails fault (reader tokens) → Fails fault (read_listed reader tokens)
  unfolding read_listed
  listed_fails_first fault tokens fails = fails_on fault (reader tokens) _ fails

  abbrev others : List PlacedLexeme → Outcome (List A)
  others tokens = read_many (Sign Comma ∷ []) [] (λ xs. xs) (read_next reader) tokens

  front_is : (x : A) (outcome : Outcome (List A)) → (outcome >>= λ found rest. Read ((x ∷ []) ++ found) rest) ≡ ((outcome >>= λ xs rest. Read xs rest) >>= λ xs last. Read (x ∷ xs) last)
  front_is x (Read found rest) = refl
  front_is x (Stop reason rest) = refl

  pub listed_begins : (tokens rest : List PlacedLexeme) (x : A) → reader tokens ≡ Read x rest
      → Stands (Sign Comma ∷ []) [] (read_next reader) (x ∷ []) rest (read_listed reader tokens)
  unfolding read_listed
  listed_begins tokens rest x read = record {
    most = length rest;
    enough = le_refl (length rest);
    same = front_is x (read_each (length rest) (Sign Comma ∷ []) [] (read_next reader) rest)
        ∙ ap (λ (o : Outcome A). o >>= λ y behind. others behind >>= λ ys last. Read (y ∷ ys) last) (sym read);
  }

  pub listed_goes_on : (before : List A) (tokens behind rest : List PlacedLexeme) (x : A) (total : Outcome (List A)) → length rest < length behind
      → Stands (Sign Comma ∷ []) [] (read_next reader) before tokens total → begins (Sign Comma ∷ []) tokens ≡ true → reads (sign Comma) tokens ≡ Read tt behind
      → reader behind ≡ Read x rest → Stands (Sign Comma ∷ []) [] (read_next reader) (before ++ x ∷ []) rest total
  listed_goes_on before tokens behind rest x total less stands begun comma read =
      let shorter : length behind < length tokens = token_is_shorter (Sign Comma) (λ token. tt) tokens behind tt comma in
      goes_on_with (Sign Comma ∷ []) [] (read_next reader) before tokens rest x total (omega arith) stands refl begun (next_is tokens behind comma ∙ read)

  pub listed_fails : (fault : ReadFault) (before : List A) (tokens behind : List PlacedLexeme) (total : Outcome (List A))
      → Stands (Sign Comma ∷ []) [] (read_next reader) before tokens total → begins (Sign Comma ∷ []) tokens ≡ true → reads (sign Comma) tokens ≡ Read tt behind
      → Fails fault (reader behind) → Fails fault total
  listed_fails fault before tokens behind total stands begun comma fails =
      fails_with (Sign Comma ∷ []) [] (read_next reader) fault before tokens total (some_tokens (Sign Comma ∷ []) [] (read_next reader) tokens begun) stands refl begun
      (fails_as fault (reader behind) (read_next reader tokens) (sym (next_is tokens behind comma)) fails)

-- operators before an operand: the number of tokens that are passed is the number of operators
abbrev pub read_prefixes : Terminal → Reader (List (Unit {0}))
read_prefixes kind tokens = read_many (kind ∷ []) [] (λ xs. xs) (read_token kind (λ token. tt)) tokens

abbrev pub times : ℕ → List (Unit {0})
times n = replicate n tt

pub record IsCounted (kind : Terminal) (tokens rest : List PlacedLexeme) : Type 0 where
  pub passed : length rest ≤ length tokens
  pub stands : Stands (kind ∷ []) [] (read_token kind (λ token. tt)) (times (length tokens - length rest)) rest (read_prefixes kind tokens)

none_passed : (size : ℕ) → times (size - size) ≡ []
none_passed size = let none : size - size ≡ 0 = omega arith in ap times none

of_one : (b : Bool) → (b || false) ≡ true → b ≡ true
of_one true h = refl
of_one false h = h

pub count_begins : (kind : Terminal) (tokens : List PlacedLexeme) → IsCounted kind tokens tokens
count_begins kind tokens = record {
  passed = le_refl (length tokens);
  stands = subst (λ front. Stands (kind ∷ []) [] (read_token kind (λ token. tt)) front tokens (read_prefixes kind tokens)) (sym (none_passed (length tokens)))
      (many_begin (kind ∷ []) [] (read_token kind (λ token. tt)) tokens);
}

one_passed : (size rest : ℕ) → suc rest ≤ size → times (size - suc rest) ++ tt ∷ [] ≡ times (size - rest)
one_passed size rest less = let next : size - suc rest + 1 ≡ size - rest = omega arith in replicate_more (size - suc rest) tt ∙ ap times next

pub count_goes_on : (kind : Terminal) (tokens rest : List PlacedLexeme) → IsCounted kind tokens rest → begins (kind ∷ []) rest ≡ true → IsCounted kind tokens (drop 1 rest)
count_goes_on kind tokens [] counted begun = cc
count_goes_on kind tokens (token ∷ rest) counted begun =
    let fit : fits kind token ≡ true = of_one (fits kind token) begun in
    record {
      passed = let h : length (token ∷ rest) ≤ length tokens = counted.passed in omega arith;
      stands = subst (λ front. Stands (kind ∷ []) [] (read_token kind (λ token. tt)) front rest (read_prefixes kind tokens))
          (one_passed (length tokens) (length rest) counted.passed)
          (goes_on_with (kind ∷ []) [] (read_token kind (λ token. tt)) (times (length tokens - length (token ∷ rest))) (token ∷ rest) rest tt _ (omega arith)
          counted.stands refl begun (cond-true (fits kind token) (Read tt rest) (Stop Syntax_ (token ∷ rest)) fit));
    }

pub count_ends : (kind : Terminal) (tokens rest : List PlacedLexeme) → IsCounted kind tokens rest → begins (kind ∷ []) rest ≡ false
    → read_prefixes kind tokens ≡ Read (times (length tokens - length rest)) rest
count_ends kind tokens rest counted ended = ends_with_all (kind ∷ []) [] (read_token kind (λ token. tt)) _ rest _ counted.stands refl ended

-- an operator more before an operand
before_operand : (operator : UnaryOperator) (n : ℕ) (e : Expr) → before operator (times n) (Unary operator e) ≡ Unary operator (before operator (times n) e)
before_operand operator zero e = refl
before_operand operator (suc n) e = ap (λ (made : Expr). Unary operator made) (before_operand operator n e)

pub one_before : (operator : UnaryOperator) (n : ℕ) (e : Expr) → 0 < n → before operator (times (n - 1)) (Unary operator e) ≡ before operator (times n) e
one_before operator zero e some = absurd (omega arith)
one_before operator (suc n) e some =
    let less : suc n - 1 ≡ n = omega arith in ap (λ m. before operator (times m) (Unary operator e)) less ∙ before_operand operator n e
