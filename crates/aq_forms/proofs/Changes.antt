-- INSERT, UPDATE, DELETE, SELECT and SET CONSTRAINTS are printed freely.
use Rattle.std.proofs.Common.{◌≡◌, List, [], ◌∷◌, ◌++◌, Option, Some, None, codes, refl}
use Rattle.aq_base.specs.Names.{Text as Bytes}
use Rattle.aq_lex.specs.declared.token.Symbol.TheVariants.{OpenParen, Times, Equal}
use Rattle.aq_lex.specs.Lexemes.{PlacedLexeme}
use Rattle.aq_grammar.specs.Terminals.{Keyword, Sign as Mark_kind}
use Rattle.aq_grammar.specs.Rules.{Rule, Both, Either, Unless}
use Rattle.aq_grammar.specs.declared.scope.Scope.{Scope}
use Rattle.aq_grammar.specs.Forms.{word, sign, ◌▸◌, mapped, says, listed, in_parentheses, name, names, public_name}
use Rattle.aq_grammar.specs.Expressions.{whole_expression}
use Rattle.aq_grammar.specs.Changes.{end_without, joins, returning, on_conflict, where_part, given, row_values, from_table, query, source, column_list, insert_of, insert, assignment, update_of, update, delete_of, delete, columns, no_wait, lock_mode, lock, select_of, select, constraints, constraint_mode, set_constraints}
use Rattle.aq_base.specs.declared.expr.Expr.{Expr}
use Rattle.aq_base.specs.declared.data.Given.{Given}
use Rattle.aq_base.specs.declared.data.Source.{Source}
use Rattle.aq_base.specs.declared.data.Insert.{Insert}
use Rattle.aq_base.specs.declared.data.Assignment.{Assignment}
use Rattle.aq_base.specs.declared.data.Update.{Update}
use Rattle.aq_base.specs.declared.data.Delete.{Delete}
use Rattle.aq_base.specs.declared.data.LockMode.{LockMode}
use Rattle.aq_base.specs.declared.data.Select.{Select}
use Rattle.aq_base.specs.declared.modes.SetConstraints.{SetConstraints}
use Rattle.aq_base.specs.declared.data.Given.TheVariants.{Value as Value_given, Default as Default_given}
use Rattle.aq_base.specs.declared.data.Source.TheVariants.{Values}
use Rattle.aq_base.specs.declared.data.Columns.TheVariants.{All as All_columns, Named as Named_columns}
use Rattle.aq_base.specs.declared.data.LockMode.TheVariants.{Update as For_update, NoKeyUpdate as For_no_key_update, Share as For_share, KeyShare as For_key_share}
use Rattle.aq_base.specs.declared.modes.ConstraintMode.TheVariants.{Deferred, Immediate}
use Rattle.aq_base.specs.declared.modes.Constraints.TheVariants.{All as All_constraints, Named as Named_constraints}
use Rattle.aq_texts.specs.Written.{Written, say, Name, Mark, columns as columns_tokens, names as names_tokens, listed as listed_tokens, in_parentheses as in_parentheses_tokens}
use Rattle.aq_texts.specs.Canon.{perhaps, expression as expression_tokens, given as given_tokens, where_part as where_tokens, source as source_tokens, insert as insert_tokens, assignment as assignment_tokens, update as update_tokens, delete as delete_tokens, shown_columns, lock as lock_tokens, select as select_tokens, constraints as constraints_tokens, mode as mode_token, set_constraints as set_constraints_tokens}
use Rattle.aq_forms.proofs.Expressions.{expression_free}
use Rattle.aq_forms.proofs.Derived.{Derives}
use Rattle.aq_forms.proofs.Combining.{IsFree, Anything, Semicolon_next, Nothing_refused, MayFollow, says_free, behind_word, left_free, right_free}
use Rattle.aq_forms.proofs.Printing.{Prints, prints_as, prints_says, prints_word, prints_word_mapped, prints_word_both, prints_sign, prints_mark, prints_both, prints_mapped, prints_either, prints_optional, prints_unless, prints_end, prints_listed, prints_parentheses, name_tokens, prints_name, prints_public_name, prints_names, semicolon_next}

-- ---- parts in which no expression stands

pub prints_columns : (Behind : List PlacedLexeme → Type 0) → Prints column_list (perhaps columns_tokens) Behind
unfolding column_list
prints_columns Behind =
    prints_optional (Mark_kind OpenParen ∷ []) (in_parentheses names) columns_tokens Behind (prints_parentheses names names_tokens Behind (prints_names Anything))

pub prints_shown : (Behind : List PlacedLexeme → Type 0) → Prints columns shown_columns Behind
unfolding columns
prints_shown Behind =
    prints_either (Mark_kind Times ∷ []) (mapped (λ star. All_columns) (sign Times)) (mapped Named_columns names) shown_columns Behind
    (prints_mapped (λ star. All_columns) (sign Times) (λ star. Mark Times ∷ []) shown_columns Behind (λ star. refl) (prints_sign Times Behind))
    (prints_mapped Named_columns names names_tokens shown_columns Behind (λ xs. refl) (prints_names Behind))

pub prints_constraints : (Behind : List PlacedLexeme → Type 0) → Prints constraints constraints_tokens Behind
unfolding constraints
prints_constraints Behind =
    prints_either (Keyword (codes "all") ∷ []) (says (codes "all") All_constraints) (mapped Named_constraints (listed public_name)) constraints_tokens Behind
    (prints_says (codes "ALL") (codes "all") All_constraints constraints_tokens Behind refl refl refl)
    (prints_mapped Named_constraints (listed public_name) names_tokens constraints_tokens Behind (λ xs. refl)
    (prints_listed public_name name_tokens Behind (prints_public_name Anything)))

pub prints_mode : (Behind : List PlacedLexeme → Type 0) → Prints constraint_mode (λ mode. mode_token mode ∷ []) Behind
unfolding constraint_mode
prints_mode Behind =
    prints_either (Keyword (codes "deferred") ∷ []) (says (codes "deferred") Deferred) (says (codes "immediate") Immediate) (λ mode. mode_token mode ∷ []) Behind
    (prints_says (codes "DEFERRED") (codes "deferred") Deferred (λ mode. mode_token mode ∷ []) Behind refl refl refl)
    (prints_says (codes "IMMEDIATE") (codes "immediate") Immediate (λ mode. mode_token mode ∷ []) Behind refl refl refl)

pub set_constraints_free : (Behind : List PlacedLexeme → Type 0) (s : SetConstraints) → Derives set_constraints s → IsFree set_constraints s (set_constraints_tokens s) Behind
unfolding set_constraints
set_constraints_free Behind =
    let parts = Both (λ constraints mode. record { constraints = constraints; mode = mode }) constraints constraint_mode in
    let print : SetConstraints → List Written = λ s. constraints_tokens s.constraints ++ mode_token s.mode ∷ [] in
    prints_word (codes "SET") (codes "set") (word (codes "constraints") ▸ parts) (λ s. say (codes "CONSTRAINTS") ∷ print s) Behind refl refl
    (prints_word (codes "CONSTRAINTS") (codes "constraints") parts print Behind refl refl
    (prints_both (λ constraints mode. record { constraints = constraints; mode = mode }) constraints constraint_mode constraints_tokens (λ mode. mode_token mode ∷ []) print Behind
    (λ found mode. refl) (prints_constraints Anything) (prints_mode Behind)))

-- ---- locks

-- behind FOR
abbrev pub mode_tokens : LockMode → List Written
mode_tokens For_update = say (codes "UPDATE") ∷ []
mode_tokens For_no_key_update = say (codes "NO") ∷ say (codes "KEY") ∷ say (codes "UPDATE") ∷ []
mode_tokens For_share = say (codes "SHARE") ∷ []
mode_tokens For_key_share = say (codes "KEY") ∷ say (codes "SHARE") ∷ []

abbrev pub for_tokens : LockMode → List Written
for_tokens mode = say (codes "FOR") ∷ mode_tokens mode

pub lock_is : (mode : LockMode) → for_tokens mode ≡ lock_tokens mode
lock_is For_update = refl
lock_is For_no_key_update = refl
lock_is For_share = refl
lock_is For_key_share = refl

pub lock_mode_free : (mode : LockMode) (Behind : List PlacedLexeme → Type 0) → IsFree lock_mode mode (mode_tokens mode) Behind
unfolding lock_mode
lock_mode_free mode Behind = by_mode mode
  where
    key_share : Rule LockMode
    key_share = word (codes "key") ▸ says (codes "share") For_key_share

    shares : Rule LockMode
    shares = Either (Keyword (codes "share") ∷ []) (says (codes "share") For_share) key_share

    no_key_update : Rule LockMode
    no_key_update = word (codes "no") ▸ word (codes "key") ▸ says (codes "update") For_no_key_update

    others : Rule LockMode
    others = Either (Keyword (codes "no") ∷ []) no_key_update shares

    second : (mode : LockMode) → IsFree others mode (mode_tokens mode) Behind → IsFree lock_mode mode (mode_tokens mode) Behind
    second mode free = right_free (Keyword (codes "update") ∷ []) (says (codes "update") For_update) others mode (mode_tokens mode) Behind free

    third : (mode : LockMode) → IsFree shares mode (mode_tokens mode) Behind → IsFree lock_mode mode (mode_tokens mode) Behind
    third mode free = second mode (right_free (Keyword (codes "no") ∷ []) no_key_update shares mode (mode_tokens mode) Behind free)

    by_mode : (mode : LockMode) → IsFree lock_mode mode (mode_tokens mode) Behind
    by_mode For_update =
        left_free (Keyword (codes "update") ∷ []) (says (codes "update") For_update) others For_update (mode_tokens For_update) Behind
        (says_free (codes "UPDATE") (codes "update") For_update Behind refl refl)
    by_mode For_no_key_update =
        second For_no_key_update (left_free (Keyword (codes "no") ∷ []) no_key_update shares For_no_key_update (mode_tokens For_no_key_update) Behind
        (behind_word (codes "NO") (codes "no") (word (codes "key") ▸ says (codes "update") For_no_key_update) For_no_key_update (say (codes "KEY") ∷ say (codes "UPDATE") ∷ []) Behind refl refl
        (behind_word (codes "KEY") (codes "key") (says (codes "update") For_no_key_update) For_no_key_update (say (codes "UPDATE") ∷ []) Behind refl refl
        (says_free (codes "UPDATE") (codes "update") For_no_key_update Behind refl refl))))
    by_mode For_share =
        third For_share (left_free (Keyword (codes "share") ∷ []) (says (codes "share") For_share) key_share For_share (mode_tokens For_share) Behind
        (says_free (codes "SHARE") (codes "share") For_share Behind refl refl))
    by_mode For_key_share =
        third For_key_share (right_free (Keyword (codes "share") ∷ []) (says (codes "share") For_share) key_share For_key_share (mode_tokens For_key_share) Behind
        (behind_word (codes "KEY") (codes "key") (says (codes "share") For_key_share) For_key_share (say (codes "SHARE") ∷ []) Behind refl refl
        (says_free (codes "SHARE") (codes "share") For_key_share Behind refl refl)))

pub prints_lock : Prints lock (perhaps lock_tokens) Semicolon_next
unfolding lock
prints_lock =
    prints_optional (Keyword (codes "for") ∷ []) (word (codes "for") ▸ end_without no_wait lock_mode) lock_tokens Semicolon_next
    (prints_as (word (codes "for") ▸ end_without no_wait lock_mode) for_tokens lock_tokens Semicolon_next lock_is
    (prints_word (codes "FOR") (codes "for") (end_without no_wait lock_mode) mode_tokens Semicolon_next refl refl
    (prints_end no_wait lock_mode mode_tokens Semicolon_next (semicolon_next no_wait (λ line others. refl)) (λ mode derived. lock_mode_free mode Semicolon_next))))

-- ---- no join behind FROM and a table

abbrev pub ended_tokens : Option Expr → Option LockMode → List Written
ended_tokens condition mode = where_tokens condition ++ perhaps lock_tokens mode

lock_joins_none : (mode : Option LockMode) → MayFollow (perhaps lock_tokens mode) Semicolon_next (Nothing_refused joins)
lock_joins_none None lines at rest behind = semicolon_next joins (λ line others. refl) rest behind
lock_joins_none (Some For_update) lines at rest behind = refl
lock_joins_none (Some For_no_key_update) lines at rest behind = refl
lock_joins_none (Some For_share) lines at rest behind = refl
lock_joins_none (Some For_key_share) lines at rest behind = refl

joins_none : (condition : Option Expr) (mode : Option LockMode) → MayFollow (ended_tokens condition mode) Semicolon_next (Nothing_refused joins)
joins_none (Some e) mode lines at rest behind = refl
joins_none None mode lines at rest behind = lock_joins_none mode lines at rest behind

where_joins_none : (condition : Option Expr) → MayFollow (where_tokens condition) Semicolon_next (Nothing_refused joins)
where_joins_none (Some e) lines at rest behind = refl
where_joins_none None lines at rest behind = semicolon_next joins (λ line others. refl) rest behind

-- ---- parts in which expressions stand

abbrev pub row_tokens : List Given → List Written
row_tokens row = in_parentheses_tokens (listed_tokens given_tokens row)

abbrev pub table_tokens : Bytes × Option Expr → List Written
table_tokens found = say (codes "FROM") ∷ Name found.0 ∷ where_tokens found.1

module _ (scope : Scope) where
  prints_expression : (Behind : List PlacedLexeme → Type 0) → Prints (whole_expression scope) expression_tokens Behind
  prints_expression Behind e derived = expression_free scope e Behind derived

  pub prints_where : (Behind : List PlacedLexeme → Type 0) → Prints (where_part scope) where_tokens Behind
  unfolding where_part
  prints_where Behind =
      prints_optional (Keyword (codes "where") ∷ []) (word (codes "where") ▸ whole_expression scope) (λ e. say (codes "WHERE") ∷ expression_tokens e) Behind
      (prints_word (codes "WHERE") (codes "where") (whole_expression scope) expression_tokens Behind refl refl (prints_expression Behind))

  pub prints_given : (Behind : List PlacedLexeme → Type 0) → Prints (given scope) given_tokens Behind
  unfolding given
  prints_given Behind =
      prints_either (Keyword (codes "default") ∷ []) (says (codes "default") Default_given) (mapped Value_given (whole_expression scope)) given_tokens Behind
      (prints_says (codes "DEFAULT") (codes "default") Default_given given_tokens Behind refl refl refl)
      (prints_mapped Value_given (whole_expression scope) expression_tokens given_tokens Behind (λ e. refl) (prints_expression Behind))

  pub prints_row : (Behind : List PlacedLexeme → Type 0) → Prints (row_values scope) row_tokens Behind
  unfolding row_values
  prints_row Behind =
      prints_parentheses (listed (given scope)) (listed_tokens given_tokens) Behind (prints_listed (given scope) given_tokens Anything (prints_given Anything))

  pub prints_table : Prints (from_table scope) table_tokens Semicolon_next
  unfolding from_table
  prints_table =
      let behind = Unless joins (where_part scope) in
      let both = Both (λ table condition. (table, condition)) public_name behind in
      let print : Bytes × Option Expr → List Written = λ found. Name found.0 ∷ where_tokens found.1 in
      prints_word (codes "FROM") (codes "from") both print Semicolon_next refl refl
      (prints_both (λ table condition. (table, condition)) public_name behind name_tokens where_tokens print Semicolon_next (λ table condition. refl) (prints_public_name Anything)
      (prints_unless joins (where_part scope) where_tokens Semicolon_next where_joins_none (prints_where Semicolon_next)))

  pub prints_source : Prints (source scope) source_tokens Semicolon_next
  unfolding source
  prints_source =
      prints_either (Keyword (codes "values") ∷ []) (word (codes "values") ▸ mapped Values (listed (row_values scope)))
      (word (codes "select") ▸ Both query (listed (whole_expression scope)) (from_table scope)) source_tokens Semicolon_next
      (prints_word_mapped (codes "VALUES") (codes "values") Values (listed (row_values scope)) (listed_tokens row_tokens) source_tokens Semicolon_next refl refl (λ rows. refl)
      (prints_listed (row_values scope) row_tokens Semicolon_next (prints_row Anything)))
      (prints_word_both (codes "SELECT") (codes "select") query (listed (whole_expression scope)) (from_table scope) (listed_tokens expression_tokens) table_tokens source_tokens
      Semicolon_next refl refl (λ values found. refl) (prints_listed (whole_expression scope) expression_tokens Anything (prints_expression Anything)) prints_table)

  pub insert_free : (s : Insert) → Derives (insert scope) s → IsFree (insert scope) s (insert_tokens s) Semicolon_next
  unfolding insert
  insert_free =
      let rows = Both (λ columns source. (columns, source)) column_list (source scope) in
      let both = Both insert_of public_name rows in
      let behind_table : Option (List Bytes) × Source → List Written = λ found. perhaps columns_tokens found.0 ++ source_tokens found.1 in
      let print : Insert → List Written = λ s. Name s.table ∷ (perhaps columns_tokens s.columns ++ source_tokens s.source) in
      let whole = end_without (returning ∷ on_conflict ∷ []) both in
      prints_word (codes "INSERT") (codes "insert") (word (codes "into") ▸ whole) (λ s. say (codes "INTO") ∷ print s) Semicolon_next refl refl
      (prints_word (codes "INTO") (codes "into") whole print Semicolon_next refl refl
      (prints_end (returning ∷ on_conflict ∷ []) both print Semicolon_next (semicolon_next (returning ∷ on_conflict ∷ []) (λ line others. refl))
      (prints_both insert_of public_name rows name_tokens behind_table print Semicolon_next (λ table found. refl) (prints_public_name Anything)
      (prints_both (λ columns source. (columns, source)) column_list (source scope) (perhaps columns_tokens) source_tokens behind_table Semicolon_next (λ columns source. refl)
      (prints_columns Anything) prints_source))))

  pub prints_assignment : (Behind : List PlacedLexeme → Type 0) → Prints (assignment scope) assignment_tokens Behind
  unfolding assignment
  prints_assignment Behind =
      prints_both (λ column value. record { column = column; value = value }) name (sign Equal ▸ given scope) name_tokens (λ value. Mark Equal ∷ given_tokens value) assignment_tokens Behind
      (λ column value. refl) (prints_name Anything) (prints_mark Equal (given scope) given_tokens Behind (prints_given Behind))

  pub update_free : (s : Update) → Derives (update scope) s → IsFree (update scope) s (update_tokens s) Semicolon_next
  unfolding update
  update_free =
      let parts = Both (λ assignments condition. (assignments, condition)) (listed (assignment scope)) (where_part scope) in
      let set = word (codes "set") ▸ parts in
      let both = Both update_of public_name set in
      let behind_set : List Assignment × Option Expr → List Written = λ found. listed_tokens assignment_tokens found.0 ++ where_tokens found.1 in
      let print : Update → List Written = λ s. Name s.table ∷ say (codes "SET") ∷ (listed_tokens assignment_tokens s.assignments ++ where_tokens s.condition) in
      prints_word (codes "UPDATE") (codes "update") (end_without (returning ∷ []) both) print Semicolon_next refl refl
      (prints_end (returning ∷ []) both print Semicolon_next (semicolon_next (returning ∷ []) (λ line others. refl))
      (prints_both update_of public_name set name_tokens (λ found. say (codes "SET") ∷ behind_set found) print Semicolon_next (λ table found. refl) (prints_public_name Anything)
      (prints_word (codes "SET") (codes "set") parts behind_set Semicolon_next refl refl
      (prints_both (λ assignments condition. (assignments, condition)) (listed (assignment scope)) (where_part scope) (listed_tokens assignment_tokens) where_tokens behind_set
      Semicolon_next (λ assignments condition. refl) (prints_listed (assignment scope) assignment_tokens Anything (prints_assignment Anything)) (prints_where Semicolon_next)))))

  pub delete_free : (s : Delete) → Derives (delete scope) s → IsFree (delete scope) s (delete_tokens s) Semicolon_next
  unfolding delete
  delete_free =
      let print : Delete → List Written = λ s. say (codes "FROM") ∷ Name s.table ∷ where_tokens s.condition in
      prints_word (codes "DELETE") (codes "delete") (end_without (returning ∷ []) (mapped delete_of (from_table scope))) print Semicolon_next refl refl
      (prints_end (returning ∷ []) (mapped delete_of (from_table scope)) print Semicolon_next (semicolon_next (returning ∷ []) (λ line others. refl))
      (prints_mapped delete_of (from_table scope) table_tokens print Semicolon_next (λ found. refl) prints_table))

  pub select_free : (s : Select) → Derives (select scope) s → IsFree (select scope) s (select_tokens s) Semicolon_next
  unfolding select
  select_free =
      let parts = Both (λ condition lock. (condition, lock)) (where_part scope) lock in
      let table = Both (λ table others. (table, others)) public_name (Unless joins parts) in
      let behind_table : Option Expr × Option LockMode → List Written = λ found. ended_tokens found.0 found.1 in
      let from_on : Bytes × (Option Expr × Option LockMode) → List Written = λ found. Name found.0 ∷ ended_tokens found.1.0 found.1.1 in
      prints_word_both (codes "SELECT") (codes "select") select_of columns (word (codes "from") ▸ table) shown_columns (λ found. say (codes "FROM") ∷ from_on found) select_tokens
      Semicolon_next refl refl (λ columns found. refl) (prints_shown Anything)
      (prints_word (codes "FROM") (codes "from") table from_on Semicolon_next refl refl
      (prints_both (λ table others. (table, others)) public_name (Unless joins parts) name_tokens behind_table from_on Semicolon_next (λ table others. refl) (prints_public_name Anything)
      (prints_unless joins parts behind_table Semicolon_next (λ found. joins_none found.0 found.1)
      (prints_both (λ condition lock. (condition, lock)) (where_part scope) lock where_tokens (perhaps lock_tokens) behind_table Semicolon_next (λ condition lock. refl)
      (prints_where Anything) prints_lock))))
