-- CREATE TABLE and ALTER TABLE, as they are printed, are read as the same.
use Rattle.std.proofs.Common.{◌≡◌, ℕ, suc, true, false, Bool, ◌&&◌, List, [], ◌∷◌, ◌++◌, Some, None, inl, inr, refl, sym, ap, subst, codes, flat_map, if◌then◌else◌}
use Rattle.aq_base.specs.Names.{Text as Bytes, same_text}
use Rattle.aq_base.specs.declared.fault.SqlFault.{SqlFault}
use Rattle.aq_base.specs.declared.script.Kind.{Kind}
use Rattle.aq_base.specs.declared.script.Kind.TheVariants as kinds
use Rattle.aq_base.specs.declared.constraint.TableConstraint.{TableConstraint}
use Rattle.aq_base.specs.declared.constraint.TableConstraint.TheVariants.{PrimaryKey, Unique, ForeignKey}
use Rattle.aq_base.specs.declared.constraint.ColumnConstraint.{ColumnConstraint}
use Rattle.aq_base.specs.declared.table.TableItem.{TableItem}
use Rattle.aq_base.specs.declared.table.TableItem.TheVariants.{Column, Constraint}
use Rattle.aq_base.specs.declared.table.CreateTable.{CreateTable as Creation}
use Rattle.aq_base.specs.declared.table.AlterTable.{AlterTable as Change}
use Rattle.aq_base.specs.declared.statement.Statement.{Statement}
use Rattle.aq_base.specs.declared.statement.Statement.TheVariants.{CreateTable, AlterTable}
use Rattle.aq_lex.specs.declared.token.Symbol.TheVariants.{OpenParen, CloseParen, Comma}
use Rattle.aq_lex.specs.Lexemes.{PlacedLexeme, Word}
use Rattle.aq_grammar.specs.Terminals.{Keyword, Sign, begin_with, is_of_kind}
use Rattle.aq_grammar.specs.Forms.{word, ◌▸◌, name}
use Rattle.aq_grammar.specs.Tables.{kind, column_item, item, items, other_items, other_constraints, behind_items, create_table, added, alter_table}
use Rattle.aq_grammar.proofs.Apart.{same_text_is}
use Rattle.aq_texts.specs.Written.{Written, Said, Name, is_bare, listed as listed_tokens, in_parentheses as in_parentheses_tokens}
use Rattle.aq_texts.specs.Canon.{statement, kind as kind_token, column_constraint, table_item, table_constraint as table_constraint_tokens}
use Rattle.aq_forms.proofs.Laid.{lexeme_of, laid}
use Rattle.aq_forms.proofs.Derived.{DerivesSome, Derives}
use Rattle.aq_forms.proofs.Combining.{IsFree, Anything, MayFollow, Nothing_refused, Semicolon_next, behind_word}
use Rattle.aq_forms.proofs.Names.{IsNamed, name_named, public_named}
use Rattle.aq_forms.proofs.Composing.{Rest, Prints, Symbol_next, semicolon_is_symbol, before_symbol, nothing_prints, says_prints, word_then, both_print_any, mapped_prints, left_prints, right_prints, unless_prints, prints_before, end_prints, parentheses_print}
use Rattle.aq_forms.proofs.Validity.{both_valid, then_valid, first_valid, parentheses_valid, Listed, listed_valid, listed_prints, name_prints, public_prints}
use Rattle.aq_forms.proofs.Constraints.{IsTableConstraint, table_constraint_valid, table_constraint_prints}
use Rattle.aq_forms.proofs.ColumnConstraints.{AreConstraints, constraints_valid, constraints_print}

-- ---- what the rules give

abbrev pub IsItem : TableItem → Type 0
IsItem (Column name k found) = IsNamed name × AreConstraints found false
IsItem (Constraint constraint) = IsTableConstraint constraint

column_valid : (x : TableItem) → Derives column_item x → IsItem x
unfolding column_item
column_valid x derived =
    both_valid IsItem
    (λ text described named rest.
    both_valid (λ described. IsItem (Column text described.0 described.1))
    (λ kind found e d. (name_named DerivesSome text named, constraints_valid false found d)) rest) derived

item_valid : (x : TableItem) → Derives item x → IsItem x
unfolding item
item_valid x (inl derived) = first_valid IsItem (λ c d. table_constraint_valid DerivesSome c d) derived
item_valid x (inr derived) = column_valid x derived

items_valid : (xs : List TableItem) → Derives items xs → Listed IsItem xs
unfolding items
items_valid xs derived = listed_valid DerivesSome item IsItem item_valid xs derived

-- the statement creates a table
abbrev pub IsCreation : Statement → Type 0
IsCreation s = (made : Creation) × (s ≡ CreateTable made) × IsNamed made.table × Listed IsItem made.items

creation_valid : (s : Statement) → Derives create_table s → IsCreation s
unfolding create_table
creation_valid s derived =
    then_valid IsCreation
    (λ a b d. both_valid IsCreation
    (λ table found named rest. (
      record { table = table; items = found },
      refl,
      public_named DerivesSome table named,
      first_valid (Listed IsItem) (λ xs inner. parentheses_valid (Listed IsItem) items_valid inner) rest,
    )) d) derived

-- the statement adds a constraint to a table
abbrev pub IsChange : Statement → Type 0
IsChange s = (made : Change) × (s ≡ AlterTable made) × IsNamed made.table × IsTableConstraint made.constraint

added_valid : (c : TableConstraint) → Derives added c → IsTableConstraint c
unfolding added
added_valid c derived = then_valid IsTableConstraint (λ a b d. table_constraint_valid DerivesSome b d) derived

change_valid : (s : Statement) → Derives alter_table s → IsChange s
unfolding alter_table
change_valid s derived =
    then_valid IsChange
    (λ a b d. then_valid IsChange
    (λ a b d. then_valid IsChange
    (λ a b d. both_valid IsChange
    (λ table constraint named rest. (record { table = table; constraint = constraint }, refl, public_named DerivesSome table named, added_valid constraint rest)) d) d) d) derived

-- ---- how they are printed

kind_prints : (k : Kind) (Behind : Rest) → Prints kind k (kind_token k ∷ []) Behind
unfolding kind
kind_prints kinds.Integer Behind = left_prints (says_prints refl)
kind_prints kinds.Bigint Behind = right_prints (right_prints (right_prints (left_prints (says_prints refl))))
kind_prints kinds.Boolean Behind = right_prints (right_prints (right_prints (right_prints (right_prints (left_prints (says_prints refl))))))
kind_prints kinds.Text Behind = right_prints (right_prints (right_prints (right_prints (right_prints (right_prints (right_prints (says_prints refl)))))))

-- a bare name is unreserved
not_reserved : (text : Bytes) → is_bare text ≡ true → is_of_kind (Keyword (codes "check")) (Word text) ≡ false
not_reserved text bare = by_test (same_text text (codes "check")) refl
  where
    by_test : (b : Bool) → same_text text (codes "check") ≡ b → b ≡ false
    by_test false e = refl
    by_test true e = sym (subst (λ (found : Bytes). is_bare found ≡ true) (same_text_is text (codes "check") e) bare)

-- a name is not CHECK
not_check : (text : Bytes) → IsNamed text → is_of_kind (Keyword (codes "check")) (lexeme_of (Name text)) ≡ false
not_check text (short, inl bare) = rw bare (not_reserved text bare)
not_check text (short, inr quoted) = rw quoted.0 refl

-- the tests of the words that are refused where an item may begin, behind which no parenthesis and no USING stands
none_of_them : (check exclude : Bool) (a b c : SqlFault) → check ≡ false
    → (if check && true then Some a else if exclude && false then Some b else if exclude && false then Some c else None) ≡ None
none_of_them check true a b c e = rw e refl
none_of_them check false a b c e = rw e refl

-- none of the words that are refused where an item may begin
abbrev pub Begins_item : Rest
Begins_item rest = Nothing_refused other_items rest

table_constraint_begins : (c : TableConstraint) → MayFollow (table_constraint_tokens c) Symbol_next Begins_item
table_constraint_begins (PrimaryKey None columns) lines at rest next = refl
table_constraint_begins (PrimaryKey (Some text) columns) lines at rest next = refl
table_constraint_begins (Unique None columns) lines at rest next = refl
table_constraint_begins (Unique (Some text) columns) lines at rest next = refl
table_constraint_begins (ForeignKey None columns reference) lines at rest next = refl
table_constraint_begins (ForeignKey (Some text) columns reference) lines at rest next = refl

module _ (text : Bytes) (named : IsNamed text) where
  -- whatever stands behind the column's name, if it begins with neither a parenthesis nor USING
  named_begins : (line : ℕ) (rest : List PlacedLexeme) → begin_with (Sign OpenParen ∷ []) rest ≡ false → begin_with (Keyword (codes "using") ∷ []) rest ≡ false
      → Begins_item (record { line = line; lexeme = lexeme_of (Name text) } ∷ rest)
  named_begins line rest no_parenthesis no_using =
      rw (no_parenthesis, no_using)
      (none_of_them (is_of_kind (Keyword (codes "check")) (lexeme_of (Name text))) (is_of_kind (Keyword (codes "exclude")) (lexeme_of (Name text))) _ _ _ (not_check text named))

  column_begins : (k : Kind) (found : List ColumnConstraint) → MayFollow (table_item (Column text k found)) Symbol_next Begins_item
  column_begins kinds.Integer found lines at rest next = named_begins (lines at) (laid lines (suc at) (kind_token kinds.Integer ∷ flat_map column_constraint found) ++ rest) refl refl
  column_begins kinds.Bigint found lines at rest next = named_begins (lines at) (laid lines (suc at) (kind_token kinds.Bigint ∷ flat_map column_constraint found) ++ rest) refl refl
  column_begins kinds.Boolean found lines at rest next = named_begins (lines at) (laid lines (suc at) (kind_token kinds.Boolean ∷ flat_map column_constraint found) ++ rest) refl refl
  column_begins kinds.Text found lines at rest next = named_begins (lines at) (laid lines (suc at) (kind_token kinds.Text ∷ flat_map column_constraint found) ++ rest) refl refl

item_begins : (x : TableItem) → IsItem x → MayFollow (table_item x) Symbol_next Begins_item
item_begins (Column text k found) valid = column_begins text valid.0 k found
item_begins (Constraint c) valid = table_constraint_begins c

-- nothing is refused before a symbol
no_refused_behind : (rest : List PlacedLexeme) → Symbol_next rest → Nothing_refused behind_items rest
no_refused_behind = before_symbol (Nothing_refused behind_items) (λ line symbol others apart. refl)

added_begins : (c : TableConstraint) → MayFollow (table_constraint_tokens c) Symbol_next (Nothing_refused other_constraints)
added_begins (PrimaryKey None columns) lines at rest next = refl
added_begins (PrimaryKey (Some text) columns) lines at rest next = refl
added_begins (Unique None columns) lines at rest next = refl
added_begins (Unique (Some text) columns) lines at rest next = refl
added_begins (ForeignKey None columns reference) lines at rest next = refl
added_begins (ForeignKey (Some text) columns reference) lines at rest next = refl

change_prints : (s : Statement) → IsChange s → Prints alter_table s (statement s) Symbol_next
unfolding alter_table added
change_prints s (made, e, named, valid) =
    rw e
    (word_then refl (word_then refl
    (both_print_any {ws = []} (right_prints nothing_prints)
    (both_print_any {ws = Name made.table ∷ []} (public_prints made.table Anything named)
    (word_then refl (unless_prints (table_constraint_prints made.constraint valid) (added_begins made.constraint)))))))

pub alter_table_free : (s : Statement) → Derives alter_table s → IsFree alter_table s (statement s) Semicolon_next
alter_table_free s derived = (prints_before (change_prints s (change_valid s derived)) semicolon_is_symbol).free

column_prints : (text : Bytes) (k : Kind) (found : List ColumnConstraint) → IsNamed text → AreConstraints found false
    → Prints column_item (Column text k found) (table_item (Column text k found)) Symbol_next
unfolding column_item
column_prints text k found named valid =
    both_print_any {f = λ text described. Column text described.0 described.1} {ws = Name text ∷ []} (name_prints text Anything named)
    (both_print_any {ws = kind_token k ∷ []} (kind_prints k Anything) (constraints_print false found valid))

item_prints : (x : TableItem) → IsItem x → Prints item x (table_item x) Symbol_next
unfolding item
item_prints (Column text k found) valid = unless_prints (right_prints (column_prints text k found valid.0 valid.1)) (item_begins (Column text k found) valid)
item_prints (Constraint c) valid = unless_prints (left_prints (mapped_prints {f = Constraint} (table_constraint_prints c valid))) (item_begins (Constraint c) valid)

items_print : (xs : List TableItem) → Listed IsItem xs → Prints items xs (listed_tokens table_item xs) Symbol_next
unfolding items
items_print xs valid = listed_prints item IsItem table_item Symbol_next item_prints xs Symbol_next valid (λ line rest. (line, Comma, rest, refl, refl)) (λ rest next. next)

-- behind CREATE
abbrev pub created_tokens : Creation → List Written
created_tokens made = Said (codes "TABLE") ∷ Name made.table ∷ in_parentheses_tokens (listed_tokens table_item made.items)

creation_prints : (made : Creation) → IsNamed made.table → Listed IsItem made.items → Prints create_table (CreateTable made) (created_tokens made) Symbol_next
unfolding create_table
creation_prints made named valid =
    word_then refl
    (both_print_any {f = λ table items. CreateTable (record { table = table; items = items })} {ws = Name made.table ∷ []} (public_prints made.table Anything named)
    (end_prints (parentheses_print (items_print made.items valid) (λ line rest. (line, CloseParen, rest, refl, refl))) no_refused_behind))

-- it is printed with CREATE, and the rule with the tokens behind that
pub created_table_free : (s : Statement) → Derives create_table s
    → (tokens : List Written) × (statement s ≡ Said (codes "CREATE") ∷ tokens) × IsFree create_table s tokens Semicolon_next
created_table_free s derived = created s (creation_valid s derived)
  where
    created : (s : Statement) → IsCreation s → (tokens : List Written) × (statement s ≡ Said (codes "CREATE") ∷ tokens) × IsFree create_table s tokens Semicolon_next
    created s (made, e, named, valid) = (
      created_tokens made,
      ap statement e,
      subst (λ (s : Statement). IsFree create_table s (created_tokens made) Semicolon_next) (sym e) (prints_before (creation_prints made named valid) semicolon_is_symbol).free,
    )

pub create_table_free : (s : Statement) → Derives create_table s → IsFree (word (codes "create") ▸ create_table) s (statement s) Semicolon_next
create_table_free s derived =
    let found = created_table_free s derived in
    subst (λ (tokens : List Written). IsFree (word (codes "create") ▸ create_table) s tokens Semicolon_next) (sym found.1)
    (behind_word (codes "CREATE") (codes "create") create_table s found.0 Semicolon_next refl refl found.2)
