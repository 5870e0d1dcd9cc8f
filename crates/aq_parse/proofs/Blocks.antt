-- How the statements of a code are read, and that fewer tokens are left behind them.
use Rattle.std.proofs.Common.{◌≡◌, ℕ, ◌≤◌, ◌<◌, true, false, List, [], ◌∷◌, ◌++◌, length, codes, None, Ok, Err, refl, sym, ap, ◌∙◌, subst, arith, le_refl}
use Rattle.aq_base.specs.Names.{Text as Bytes}
use Rattle.aq_base.specs.declared.expr.Expr.{Expr}
use Rattle.aq_base.specs.declared.body.BodyStatement.{BodyStatement}
use Rattle.aq_base.specs.declared.body.ElseIf.{ElseIf}
use Rattle.aq_base.specs.declared.body.Handler.{Handler}
use Rattle.aq_base.specs.declared.body.Condition.{Condition}
use Rattle.aq_lex.specs.Lexemes.{PlacedLexeme}
use Rattle.aq_lex.specs.declared.token.Symbol.TheVariants.{Semicolon}
use Rattle.aq_grammar.specs.declared.scope.Scope.TheVariants.{InCode}
use Rattle.aq_grammar.specs.declared.fault.ReadFault.{ReadFault}
use Rattle.aq_grammar.specs.Terminals.{Terminal, Keyword, Sign, begins}
use Rattle.aq_grammar.specs.Rules.{Rule, Block, Both, Many, Call, refused}
use Rattle.aq_grammar.specs.Forms.{word, sign, ◌▸◌}
use Rattle.aq_grammar.specs.Expressions.{whole_expression}
use Rattle.aq_grammar.specs.Bodies.{body_words, refused_in_code, inner_block, block, body_statement, else_if, branch, condition, conditions, handler, handler_of}
use Rattle.aq_grammar.specs.Reading.{Outcome, Read, ◌>>=◌, read_many, read_each}
use Rattle.aq_grammar.specs.Nonterminals.{rules, reads_called, reads}
use Rattle.aq_grammar.specs.Steps.{Fails, RefusesSo}
use Rattle.aq_grammar.proofs.Fuel.{Shortens, token_shortens, both_shortens}
use Rattle.aq_grammar.proofs.Grammar.{is_read_so}
use Rattle.aq_grammar.proofs.NoLonger.{reads_any, no_longer}
use Rattle.aq_grammar.proofs.Loops.{Stands, goes_on_with, fails_with, fails_on, ends_with_all, handed_on, some_tokens, many_begin, is_free, refuses_with}
use Rattle.aq_parse.specs.Bodies.{condition_then, conditions_then, or_condition, ended_statement, else_ifs, some}

-- a form that begins with a word leaves fewer tokens
behind_word : {A : Type 0} (text : Bytes) (r : Rule A) (tokens rest : List PlacedLexeme) (x : A) → reads (word text ▸ r) tokens ≡ Read x rest → length rest < length tokens
behind_word text r tokens rest x read =
    let (less, shorter) =
    subst (Shortens false (length tokens)) read
    (both_shortens (λ x y. y) false true (reads (word text)) (λ x. reads r) tokens (token_shortens (Keyword text) (λ token. tt) tokens) (λ x. reads_any r)) in
    shorter refl

pub ended_is_shorter : (room : ℕ) (tokens rest : List PlacedLexeme) (x : BodyStatement) → reads (ended_statement room) tokens ≡ Read x rest → length rest < length tokens
ended_is_shorter room tokens rest x read =
    let (less, shorter) =
    subst (Shortens false (length tokens)) read
    (both_shortens (λ x y. x) true false (reads (body_statement room)) (λ x. reads (sign Semicolon)) tokens (reads_any (body_statement room) tokens)
    (λ x. token_shortens (Sign Semicolon) (λ token. tt))) in
    shorter refl

pub else_if_is_shorter : (room : ℕ) (tokens rest : List PlacedLexeme) (x : ElseIf) → reads (else_if room) tokens ≡ Read x rest → length rest < length tokens
unfolding else_if
else_if_is_shorter room tokens rest x read = behind_word (codes "elsif") (Both branch (whole_expression InCode) (word (codes "then") ▸ inner_block room)) tokens rest x read

pub handler_is_shorter : (room : ℕ) (tokens rest : List PlacedLexeme) (x : Handler) → reads (handler room) tokens ≡ Read x rest → length rest < length tokens
unfolding handler
handler_is_shorter room tokens rest x read = behind_word (codes "when") (Both handler_of conditions (word (codes "then") ▸ inner_block room)) tokens rest x read

pub or_condition_is_shorter : (tokens rest : List PlacedLexeme) (x : Condition) → reads or_condition tokens ≡ Read x rest → length rest < length tokens
or_condition_is_shorter tokens rest x read = behind_word (codes "or") condition tokens rest x read

pub else_ifs_are_no_longer : (room : ℕ) (tokens rest : List PlacedLexeme) (x : List ElseIf) → reads (else_ifs room) tokens ≡ Read x rest → length rest ≤ length tokens
else_ifs_are_no_longer room tokens rest x read = no_longer (else_ifs room) tokens rest x read

pub condition_leaves : (tokens rest : List PlacedLexeme) (x : Expr) → reads condition_then tokens ≡ Read x rest → length rest ≤ length tokens
condition_leaves tokens rest x read = no_longer condition_then tokens rest x read

pub conditions_leave : (tokens rest : List PlacedLexeme) (x : List Condition) → reads conditions_then tokens ≡ Read x rest → length rest ≤ length tokens
conditions_leave tokens rest x read = no_longer conditions_then tokens rest x read

pub block_leaves : (room : ℕ) (tokens rest : List PlacedLexeme) (x : List BodyStatement) → reads_called (Block room) tokens ≡ Read x rest → length rest ≤ length tokens
block_leaves room tokens rest x read =
    no_longer (Call (Block room) (λ statements. statements)) tokens rest x (ap (λ (o : Outcome (List BodyStatement)). o >>= λ statements last. Read statements last) read)

block_is : (room : ℕ) (tokens : List PlacedLexeme) → reads_called (Block room) tokens ≡ read_many body_words (refused_in_code room) (λ xs. xs) (reads (ended_statement room)) tokens
unfolding rules block
block_is room tokens = is_read_so (Block room) tokens

pub is_free_in_code : (room : ℕ) (x : Unit {0}) (tokens : List PlacedLexeme) → RefusesSo (refused_in_code room) (Ok x) tokens → refused (refused_in_code room) tokens ≡ None
is_free_in_code room x tokens refuses = is_free body_words (refused_in_code room) (reads (ended_statement room)) x tokens refuses

-- what has been read of a code's statements
pub record IsBlock (room : ℕ) (tokens rest : List PlacedLexeme) (statements : List BodyStatement) : Type 0 where
  pub stands : Stands body_words (refused_in_code room) (reads (ended_statement room)) statements rest (reads_called (Block room) tokens)
  pub free : refused (refused_in_code room) rest ≡ None
  pub no_longer : length rest ≤ length tokens

begun : (room : ℕ) (tokens : List PlacedLexeme) → Stands body_words (refused_in_code room) (reads (ended_statement room)) [] tokens (reads_called (Block room) tokens)
begun room tokens =
    subst (λ total. Stands body_words (refused_in_code room) (reads (ended_statement room)) [] tokens total) (sym (block_is room tokens))
    (many_begin body_words (refused_in_code room) (reads (ended_statement room)) tokens)

pub block_begins : (room : ℕ) (tokens : List PlacedLexeme) → refused (refused_in_code room) tokens ≡ None → IsBlock room tokens tokens []
block_begins room tokens free = record { stands = begun room tokens; free = free; no_longer = le_refl (length tokens) }

next_stands : (room : ℕ) (tokens rest after : List PlacedLexeme) (statements : List BodyStatement) (next : BodyStatement) → IsBlock room tokens rest statements
    → begins body_words rest ≡ true → reads (ended_statement room) rest ≡ Read next after
    → Stands body_words (refused_in_code room) (reads (ended_statement room)) (statements ++ next ∷ []) after (reads_called (Block room) tokens)
next_stands room tokens rest after statements next so_far begin read =
    goes_on_with body_words (refused_in_code room) (reads (ended_statement room)) statements rest after next _ (ended_is_shorter room rest after next read)
    so_far.stands so_far.free begin read

pub block_goes_on : (room : ℕ) (tokens rest after : List PlacedLexeme) (statements : List BodyStatement) (next : BodyStatement) → IsBlock room tokens rest statements
    → begins body_words rest ≡ true → reads (ended_statement room) rest ≡ Read next after → refused (refused_in_code room) after ≡ None
    → IsBlock room tokens after (statements ++ next ∷ [])
block_goes_on room tokens rest after statements next so_far begin read free =
    let shorter : length after < length rest = ended_is_shorter room rest after next read in
    let before : length rest ≤ length tokens = so_far.no_longer in
    record { stands = next_stands room tokens rest after statements next so_far begin read; free = free; no_longer = omega arith }

pub block_fails : (room : ℕ) (fault : ReadFault) (tokens rest : List PlacedLexeme) (statements : List BodyStatement) → IsBlock room tokens rest statements
    → begins body_words rest ≡ true → Fails fault (reads (ended_statement room) rest) → Fails fault (reads_called (Block room) tokens)
block_fails room fault tokens rest statements so_far begin fails =
    fails_with body_words (refused_in_code room) (reads (ended_statement room)) fault statements rest _
    (some_tokens body_words (refused_in_code room) (reads (ended_statement room)) rest begin) so_far.stands so_far.free begin fails

pub block_refused : (room : ℕ) (fault : ReadFault) (tokens : List PlacedLexeme) → RefusesSo (refused_in_code room) (Err fault) tokens → Fails fault (reads_called (Block room) tokens)
block_refused room fault tokens refuses =
    refuses_with body_words (refused_in_code room) (reads (ended_statement room)) fault [] tokens _ (begun room tokens) refuses

pub block_refused_behind : (room : ℕ) (fault : ReadFault) (tokens rest after : List PlacedLexeme) (statements : List BodyStatement) (next : BodyStatement)
    → IsBlock room tokens rest statements → begins body_words rest ≡ true → reads (ended_statement room) rest ≡ Read next after
    → RefusesSo (refused_in_code room) (Err fault) after → Fails fault (reads_called (Block room) tokens)
block_refused_behind room fault tokens rest after statements next so_far begin read refuses =
    refuses_with body_words (refused_in_code room) (reads (ended_statement room)) fault (statements ++ next ∷ []) after _
    (next_stands room tokens rest after statements next so_far begin read) refuses

-- what has been read of the ELSIFs
pub record AreElseIfs (room : ℕ) (tokens rest : List PlacedLexeme) (branches : List ElseIf) : Type 0 where
  pub stands : Stands (Keyword (codes "elsif") ∷ []) [] (reads (else_if room)) branches rest (reads (else_ifs room) tokens)
  pub no_longer : length rest ≤ length tokens

pub else_ifs_go_on : (room : ℕ) (tokens rest after : List PlacedLexeme) (branches : List ElseIf) (next : ElseIf) → AreElseIfs room tokens rest branches
    → begins (Keyword (codes "elsif") ∷ []) rest ≡ true → reads (else_if room) rest ≡ Read next after → AreElseIfs room tokens after (branches ++ next ∷ [])
else_ifs_go_on room tokens rest after branches next so_far begin read =
    let shorter : length after < length rest = else_if_is_shorter room rest after next read in
    let before : length rest ≤ length tokens = so_far.no_longer in
    record {
      stands = goes_on_with (Keyword (codes "elsif") ∷ []) [] (reads (else_if room)) branches rest after next _ shorter so_far.stands refl begin read;
      no_longer = omega arith;
    }

-- what has been read of at least one form
pub record AreSome {A : Type 0} (kind : Terminal) (first next : Rule A) (tokens rest : List PlacedLexeme) (found : List A) : Type 0 where
  pub stands : Stands (kind ∷ []) [] (reads next) found rest (reads (some kind first next) tokens)
  pub no_longer : length rest ≤ length tokens

pub some_begin : {A : Type 0} (kind : Terminal) (first next : Rule A) (tokens rest : List PlacedLexeme) (x : A) → reads first tokens ≡ Read x rest
    → AreSome kind first next tokens rest (x ∷ [])
some_begin {A} kind first next tokens rest x read = record {
  stands =
      record {
        most = length rest;
        enough = le_refl (length rest);
        same =
            ap (λ (o : Outcome (List A)). o >>= λ others last. Read (x ∷ others) last) (sym (handed_on (read_each (length rest) (kind ∷ []) [] (reads next) rest)))
            ∙ ap (λ (o : Outcome A). o >>= λ y behind. reads (Many (kind ∷ []) [] (λ others. others) next) behind >>= λ others last. Read (y ∷ others) last) (sym read);
      };
  no_longer = no_longer first tokens rest x read;
}

pub some_go_on : {A : Type 0} (kind : Terminal) (first next : Rule A) (tokens rest after : List PlacedLexeme) (found : List A) (x : A) → AreSome kind first next tokens rest found
    → begins (kind ∷ []) rest ≡ true → reads next rest ≡ Read x after → length after < length rest → AreSome kind first next tokens after (found ++ x ∷ [])
some_go_on kind first next tokens rest after found x so_far begin read shorter =
    let before : length rest ≤ length tokens = so_far.no_longer in
    record { stands = goes_on_with (kind ∷ []) [] (reads next) found rest after x _ shorter so_far.stands refl begin read; no_longer = omega arith }

pub some_fail_first : {A : Type 0} (kind : Terminal) (first next : Rule A) (fault : ReadFault) (tokens : List PlacedLexeme) → Fails fault (reads first tokens)
    → Fails fault (reads (some kind first next) tokens)
some_fail_first kind first next fault tokens fails = fails_on fault (reads first tokens) _ fails

pub some_fail : {A : Type 0} (kind : Terminal) (first next : Rule A) (fault : ReadFault) (tokens rest : List PlacedLexeme) (found : List A)
    → AreSome kind first next tokens rest found → begins (kind ∷ []) rest ≡ true → Fails fault (reads next rest) → Fails fault (reads (some kind first next) tokens)
some_fail kind first next fault tokens rest found so_far begin fails =
    fails_with (kind ∷ []) [] (reads next) fault found rest _ (some_tokens (kind ∷ []) [] (reads next) rest begin) so_far.stands refl begin fails

pub some_end : {A : Type 0} (kind : Terminal) (first next : Rule A) (tokens rest : List PlacedLexeme) (found : List A) → AreSome kind first next tokens rest found
    → begins (kind ∷ []) rest ≡ false → reads (some kind first next) tokens ≡ Read found rest
some_end kind first next tokens rest found so_far ended = ends_with_all (kind ∷ []) [] (reads next) found rest _ so_far.stands refl ended
