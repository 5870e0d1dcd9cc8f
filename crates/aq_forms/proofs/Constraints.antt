-- Constants, references and the constraints of a table, as they are printed, are read as the same.
use Rattle.std.proofs.Common.{◌≡◌, ℕ, zero, suc, true, false, Bool, if◌then◌else◌, List, [], ◌∷◌, ◌++◌, Option, Some, None, inl, inr, refl, sym, subst, codes, ◌^◌}
use Rattle.std.specs.Prelude.{ℤ, pos, negsuc, neg_ℤ, nat_lt, IsUtf8}
use Rattle.std.proofs.lemmas.List.{append_assoc, append-nil}
use Rattle.aq_base.specs.Names.{Text as Bytes}
use Rattle.aq_base.specs.declared.value.Value.{Value}
use Rattle.aq_base.specs.declared.value.Value.TheVariants.{Null, Bool as Truth, Int, Text as Words}
use Rattle.aq_base.specs.declared.catalog.Decl.{Decl}
use Rattle.aq_base.specs.declared.constraint.Match.{Match}
use Rattle.aq_base.specs.declared.constraint.Match.TheVariants as matches
use Rattle.aq_base.specs.declared.constraint.Action.{Action}
use Rattle.aq_base.specs.declared.constraint.Action.TheVariants.{NoAction, Restrict, Cascade, SetNull, SetDefault}
use Rattle.aq_base.specs.declared.constraint.Reference.{Reference}
use Rattle.aq_base.specs.declared.constraint.TableConstraint.{TableConstraint}
use Rattle.aq_base.specs.declared.constraint.TableConstraint.TheVariants.{PrimaryKey, Unique, ForeignKey}
use Rattle.aq_lex.specs.declared.token.Symbol.{Symbol as SymbolName}
use Rattle.aq_lex.specs.declared.token.Symbol.TheVariants.{OpenParen}
use Rattle.aq_lex.specs.Lexemes.{PlacedLexeme, Lexeme, Word, QuotedName, Integer, Text, Symbol, Directive}
use Rattle.aq_grammar.specs.Terminals.{Keyword, Sign as Sign_kind, same_symbol, begin_with, Number as Number_kind, Literal as Literal_kind, number_is, text_is, is_literal, lexeme_number, lexeme_text}
use Rattle.aq_grammar.specs.Rules.{Nonterminal, ValueOf, Both, Either}
use Rattle.aq_grammar.specs.Forms.{word, ◌▸◌, says, in_parentheses, name, names, unsupported}
use Rattle.aq_grammar.specs.Changes.{column_list}
use Rattle.aq_grammar.specs.Tables.{constant, number, partial_match, matching, setting, plain_action, deletion, update_list, null_list, default_list, update_setting, action, action_on, Actions, actions_of, actions, Target, target_of, target, reference_of, constraint_name, timing_without, not_valid, behind_key, other_constraints, table_primary_key, table_unique, table_foreign_key, bare_table_constraint, table_constraint}
use Rattle.aq_texts.specs.Written.{Written, Said, Name, Number, Literal, Sign, columns as columns_tokens}
use Rattle.aq_texts.specs.Canon.{perhaps, timing, constant as constant_tokens, matching as matching_tokens, action_on as action_on_tokens, reference as reference_tokens, constraint_name as constraint_name_tokens, table_constraint as table_constraint_tokens}
use Rattle.aq_forms.proofs.Sound.{IsSound}
use Rattle.aq_forms.proofs.Laid.{laid}
use Rattle.aq_forms.proofs.Derived.{Trees, DerivesBy}
use Rattle.aq_forms.proofs.Combining.{Anything, MayFollow, Nothing_refused, token_free, minus_free}
use Rattle.aq_forms.proofs.Names.{IsNamed, name_named, public_named}
use Rattle.aq_forms.proofs.Composing.{Rest, Prints, Symbol_next, before_symbol, nothing_prints, says_prints, word_then, both_print, both_print_any, mapped_prints, left_prints, right_prints, some_prints, none_prints, unless_prints, end_prints, prints_as, prints_before}
use Rattle.aq_forms.proofs.Validity.{both_valid, then_valid, first_valid, parentheses_valid, Listed, names_valid, name_prints, public_prints, columns_print}
use Rattle.aq_forms.proofs.Timing.{IsTiming, timing_is, timing_prints}

-- ---- constants

abbrev pub IsNumber : ℕ → Type 0
IsNumber n = nat_lt n (2 ^ 63) ≡ true

-- what a constant of the text is
abbrev pub IsConstant : Value → Type 0
IsConstant Null = Unit {0}
IsConstant (Truth b) = Unit {0}
IsConstant (Int (pos n)) = IsNumber n
IsConstant (Int (negsuc n)) = IsNumber (suc n)
IsConstant (Words text) = IsUtf8 text × (is_literal text ≡ true)

number_of_lexeme : (lexeme : Lexeme) → number_is (λ number. nat_lt number (2 ^ 63)) lexeme ≡ true → IsNumber (lexeme_number lexeme)
number_of_lexeme (Integer number) fit = fit
number_of_lexeme (Word text) fit = cc
number_of_lexeme (QuotedName text) fit = cc
number_of_lexeme (Text text) fit = cc
number_of_lexeme (Symbol symbol) fit = cc
number_of_lexeme (Directive directive) fit = cc

literal_of_lexeme : (lexeme : Lexeme) → text_is is_literal lexeme ≡ true → IsSound lexeme → IsConstant (Words (lexeme_text lexeme))
literal_of_lexeme (Text text) fit sound = (sound, fit)
literal_of_lexeme (Integer number) fit sound = cc
literal_of_lexeme (Word text) fit sound = cc
literal_of_lexeme (QuotedName text) fit sound = cc
literal_of_lexeme (Symbol symbol) fit sound = cc
literal_of_lexeme (Directive directive) fit sound = cc

-- zero below zero is zero
negative_is : (n : ℕ) → IsNumber n → IsConstant (Int (neg_ℤ (pos n)))
negative_is zero small = small
negative_is (suc n) small = small

module _ (calls : (n : Nonterminal) → Trees (ValueOf n)) where
  number_valid : (P : ℤ → Type 0) (z : ℤ) → ((n : ℕ) → IsNumber n → P (pos n)) → DerivesBy calls number z → P z
  number_valid P z h (token, fit, sound, e) = subst P (sym e) (h (lexeme_number token.lexeme) (number_of_lexeme token.lexeme fit))

  pub constant_valid : (value : Value) → DerivesBy calls constant value → IsConstant value
  unfolding constant
  constant_valid value (inl (token, fit, sound, e)) = rw e tt
  constant_valid value (inr (inl (token, fit, sound, e))) = rw e tt
  constant_valid value (inr (inr (inl (token, fit, sound, e)))) = rw e tt
  constant_valid value (inr (inr (inr (inl derived)))) =
      first_valid IsConstant (λ text d. subst (λ (text : Bytes). IsConstant (Words text)) (sym d.3) (literal_of_lexeme d.0.lexeme d.1 d.2)) derived
  constant_valid value (inr (inr (inr (inr (inl derived))))) =
      then_valid IsConstant (λ a b d. first_valid IsConstant (λ z e. number_valid (λ z. IsConstant (Int (neg_ℤ z))) z negative_is e) d) derived
  constant_valid value (inr (inr (inr (inr (inr derived))))) = first_valid IsConstant (λ z e. number_valid (λ z. IsConstant (Int z)) z (λ n small. small) e) derived

number_prints : (n : ℕ) (Behind : Rest) → IsNumber n → Prints number (pos n) (Number n ∷ []) Behind
number_prints n Behind small = record { free = token_free Number_kind (λ token. pos (lexeme_number token.lexeme)) (Number n) (pos n) Behind (λ line. small) small (λ line. refl) }

pub constant_prints : (value : Value) (Behind : Rest) → IsConstant value → Prints constant value (constant_tokens value) Behind
unfolding constant
constant_prints Null Behind valid = left_prints (says_prints refl)
constant_prints (Truth true) Behind valid = right_prints (left_prints (says_prints refl))
constant_prints (Truth false) Behind valid = right_prints (right_prints (left_prints (says_prints refl)))
constant_prints (Words text) Behind valid =
    right_prints (right_prints (right_prints (left_prints (mapped_prints
    (record { free = token_free Literal_kind (λ token. lexeme_text token.lexeme) (Literal text) text Behind (λ line. valid.1) valid.0 (λ line. refl) })))))
constant_prints (Int (pos n)) Behind valid = right_prints (right_prints (right_prints (right_prints (right_prints (mapped_prints (number_prints n Behind valid))))))
constant_prints (Int (negsuc n)) Behind valid =
    right_prints (right_prints (right_prints (right_prints (left_prints
    (both_print_any {ws = Sign ∷ []} (record { free = minus_free Anything }) (mapped_prints {f = λ z. Int (neg_ℤ z)} (number_prints (suc n) Behind valid)))))))

-- ---- references

action_words : Action → List Written
action_words NoAction = Said (codes "NO") ∷ Said (codes "ACTION") ∷ []
action_words Restrict = Said (codes "RESTRICT") ∷ []
action_words Cascade = Said (codes "CASCADE") ∷ []
action_words SetNull = Said (codes "SET") ∷ Said (codes "NULL") ∷ []
action_words SetDefault = Said (codes "SET") ∷ Said (codes "DEFAULT") ∷ []

-- columns that may be left out
abbrev pub PerhapsColumns : Option (List Bytes) → Type 0
PerhapsColumns None = Unit {0}
PerhapsColumns (Some columns) = Listed IsNamed columns

module _ (calls : (n : Nonterminal) → Trees (ValueOf n)) where
  pub columns_valid : (columns : List Bytes) → DerivesBy calls (in_parentheses names) columns → Listed IsNamed columns
  columns_valid columns derived = parentheses_valid (Listed IsNamed) (names_valid calls) derived

  column_list_valid : (columns : Option (List Bytes)) → DerivesBy calls column_list columns → PerhapsColumns columns
  unfolding column_list
  column_list_valid columns (inl derived) = first_valid PerhapsColumns columns_valid derived
  column_list_valid columns (inr e) = rw e tt

column_list_prints : (columns : Option (List Bytes)) (Behind : Rest) → PerhapsColumns columns → Prints column_list columns (perhaps columns_tokens columns) Behind
unfolding column_list
column_list_prints None Behind valid = none_prints
column_list_prints (Some columns) Behind valid = some_prints (columns_print columns Behind valid)

-- the list of columns stands where the deletion sets columns
abbrev pub IsDeletion : Action × Option (List Bytes) → Type 0
IsDeletion (SetNull, columns) = PerhapsColumns columns
IsDeletion (SetDefault, columns) = PerhapsColumns columns
IsDeletion (_, columns) = columns ≡ None

deletion_prints : (a : Action) (columns : Option (List Bytes)) (Behind : Rest) → IsDeletion (a, columns)
    → Prints deletion (a, columns) (action_words a ++ perhaps columns_tokens columns) Behind
unfolding deletion setting plain_action action_words
deletion_prints NoAction columns Behind valid = rw valid (right_prints (mapped_prints {f = λ action. (action, None)} (left_prints (word_then refl (says_prints refl)))))
deletion_prints Restrict columns Behind valid = rw valid (right_prints (mapped_prints {f = λ action. (action, None)} (right_prints (left_prints (says_prints refl)))))
deletion_prints Cascade columns Behind valid = rw valid (right_prints (mapped_prints {f = λ action. (action, None)} (right_prints (right_prints (says_prints refl)))))
deletion_prints SetNull columns Behind valid =
    left_prints
    (both_print_any {f = λ action columns. (action, columns)} {ws = Said (codes "SET") ∷ Said (codes "NULL") ∷ []} (word_then refl (left_prints (says_prints refl)))
    (column_list_prints columns Behind valid))
deletion_prints SetDefault columns Behind valid =
    left_prints
    (both_print_any {f = λ action columns. (action, columns)} {ws = Said (codes "SET") ∷ Said (codes "DEFAULT") ∷ []} (word_then refl (right_prints (says_prints refl)))
    (column_list_prints columns Behind valid))

-- no list of columns begins
abbrev pub No_list : Rest
No_list rest = Nothing_refused (update_list null_list) rest

no_default_list : (rest : List PlacedLexeme) → No_list rest → Nothing_refused (update_list default_list) rest
no_default_list rest none = by_test (begin_with (Sign_kind OpenParen ∷ []) rest) none
  where
    by_test : (b : Bool) → (if b then Some (unsupported null_list) else None) ≡ None → (if b then Some (unsupported default_list) else None) ≡ None
    by_test true e = cc
    by_test false e = refl

action_prints : (a : Action) → Prints action a (action_words a) No_list
unfolding action update_setting plain_action action_words
action_prints NoAction = right_prints (left_prints (word_then refl (says_prints refl)))
action_prints Restrict = right_prints (right_prints (left_prints (says_prints refl)))
action_prints Cascade = right_prints (right_prints (right_prints (says_prints refl)))
action_prints SetNull = left_prints (word_then refl (left_prints (end_prints (says_prints refl) (λ rest none. none))))
action_prints SetDefault = left_prints (word_then refl (right_prints (end_prints (says_prints refl) no_default_list)))

update_prints : (a : Action) → Prints (action_on (codes "update") action NoAction) a (action_on_tokens (codes "UPDATE") a) No_list
unfolding action_words
update_prints NoAction = right_prints nothing_prints
update_prints a = left_prints (word_then refl (word_then refl (action_prints a)))

update_alone : (u : Action) → Prints actions (actions_of (NoAction, None) u) (Said (codes "ON") ∷ Said (codes "UPDATE") ∷ action_words u) No_list
unfolding actions
update_alone u =
    left_prints (word_then refl (right_prints (word_then refl
    (prints_as (both_print {f = λ on_update deletion. actions_of deletion on_update} (action_prints u) (right_prints nothing_prints) (λ lines at rest none. none))
    (sym (append-nil (action_words u)))))))

delete_first : (d : Action) (columns : Option (List Bytes)) (u : Action) → IsDeletion (d, columns)
    → Prints actions (actions_of (d, columns) u)
    (Said (codes "ON") ∷ Said (codes "DELETE") ∷ ((action_words d ++ perhaps columns_tokens columns) ++ action_on_tokens (codes "UPDATE") u)) No_list
unfolding actions
delete_first d columns u valid =
    left_prints (word_then refl (left_prints (word_then refl (both_print_any {f = actions_of} (deletion_prints d columns Anything valid) (update_prints u)))))

abbrev pub actions_tokens : Action → Option (List Bytes) → Action → List Written
actions_tokens on_delete columns on_update =
    action_on_tokens (codes "DELETE") on_delete ++ (perhaps columns_tokens columns ++ action_on_tokens (codes "UPDATE") on_update)

actions_print : (d : Action) (columns : Option (List Bytes)) (u : Action) → IsDeletion (d, columns) → Prints actions (actions_of (d, columns) u) (actions_tokens d columns u) No_list
unfolding action_words actions
actions_print NoAction columns NoAction valid = rw valid (right_prints nothing_prints)
actions_print NoAction columns u valid = rw valid (update_alone u)
actions_print d columns u valid = delete_first d columns u valid

-- neither MATCH PARTIAL nor a list of columns stands behind a reference
abbrev pub No_partial_match : Rest
No_partial_match rest = Nothing_refused (partial_match ∷ []) rest

abbrev pub Behind_target : Rest
Behind_target rest = No_partial_match rest × No_list rest

matching_prints : (m : Match) → Prints matching m (matching_tokens m) No_partial_match
unfolding matching
matching_prints matches.Simple = unless_prints (right_prints nothing_prints) (λ lines at rest none. none)
matching_prints matches.Full = unless_prints (left_prints (word_then refl (right_prints (says_prints refl)))) (λ lines at rest none. refl)

actions_follow : (d : Action) (columns : Option (List Bytes)) (u : Action) → IsDeletion (d, columns) → MayFollow (actions_tokens d columns u) Behind_target No_partial_match
actions_follow NoAction columns NoAction valid lines at rest none = rw valid none.0
actions_follow NoAction columns u valid lines at rest none = rw valid refl
actions_follow d columns u valid lines at rest none = refl

abbrev pub IsActions : Actions → Type 0
IsActions a = IsDeletion (a.on_delete, a.set_columns)

abbrev pub IsTarget : Target → Type 0
IsTarget t = IsNamed t.table × PerhapsColumns t.columns × IsActions t.actions

module _ (calls : (n : Nonterminal) → Trees (ValueOf n)) where
  setting_valid : (columns : Option (List Bytes)) (a : Action) → PerhapsColumns columns → DerivesBy calls setting a → IsDeletion (a, columns)
  unfolding setting
  setting_valid columns a valid derived = then_valid (λ a. IsDeletion (a, columns)) (λ said a d. chosen a d) derived
    where
      chosen : (a : Action) → DerivesBy calls (Either (Keyword (codes "null") ∷ []) (says (codes "null") SetNull) (says (codes "default") SetDefault)) a → IsDeletion (a, columns)
      chosen a (inl (token, fit, sound, e)) = rw e valid
      chosen a (inr (token, fit, sound, e)) = rw e valid

  plain_valid : (a : Action) → DerivesBy calls plain_action a → IsDeletion (a, None)
  unfolding plain_action
  plain_valid a (inl derived) = then_valid (λ a. IsDeletion (a, None)) (λ said a d. rw d.3 refl) derived
  plain_valid a (inr (inl (token, fit, sound, e))) = rw e refl
  plain_valid a (inr (inr (token, fit, sound, e))) = rw e refl

  deletion_valid : (d : Action × Option (List Bytes)) → DerivesBy calls deletion d → IsDeletion d
  unfolding deletion
  deletion_valid d (inl derived) = both_valid IsDeletion (λ a columns set listed. setting_valid columns a (column_list_valid calls columns listed) set) derived
  deletion_valid d (inr derived) = first_valid IsDeletion (λ a own. plain_valid a own) derived

  deletion_perhaps_valid : (d : Action × Option (List Bytes)) → DerivesBy calls (action_on (codes "delete") deletion (NoAction, None)) d → IsDeletion d
  deletion_perhaps_valid d (inl derived) = then_valid IsDeletion (λ a b later. then_valid IsDeletion (λ a b own. deletion_valid b own) later) derived
  deletion_perhaps_valid d (inr e) = rw e refl

  actions_valid : (a : Actions) → DerivesBy calls actions a → IsActions a
  unfolding actions
  actions_valid a (inl derived) = then_valid IsActions (λ said b later. chosen b later) derived
    where
      chosen : (a : Actions)
          → DerivesBy calls
          (Either (Keyword (codes "delete") ∷ []) (word (codes "delete") ▸ Both actions_of deletion (action_on (codes "update") action NoAction))
          (word (codes "update") ▸ Both (λ on_update deletion. actions_of deletion on_update) action (action_on (codes "delete") deletion (NoAction, None)))) a → IsActions a
      chosen a (inl derived) = then_valid IsActions (λ said b later. both_valid IsActions (λ d u own other. deletion_valid d own) later) derived
      chosen a (inr derived) = then_valid IsActions (λ said b later. both_valid IsActions (λ u d other own. deletion_perhaps_valid d own) later) derived
  actions_valid a (inr e) = rw e refl

  pub target_valid : (t : Target) → DerivesBy calls target t → IsTarget t
  unfolding target
  target_valid t derived =
      then_valid IsTarget
      (λ a b d. both_valid IsTarget
      (λ table others named rest.
      both_valid (λ others. IsTarget (target_of table others))
      (λ columns last listed e.
      both_valid (λ last. IsTarget (target_of table (columns, last)))
      (λ matched acts matches acted. (public_named calls table named, column_list_valid calls columns listed, actions_valid acts acted)) e) rest) d) derived

abbrev pub target_tokens : Target → List Written
target_tokens t =
    Said (codes "REFERENCES") ∷ Name t.table
    ∷ (perhaps columns_tokens t.columns ++ (matching_tokens t.matching ++ actions_tokens t.actions.on_delete t.actions.set_columns t.actions.on_update))

pub target_prints : (t : Target) → IsTarget t → Prints target t (target_tokens t) Behind_target
unfolding target
target_prints t valid =
    let acts = t.actions in
    word_then refl
    (both_print_any {ws = Name t.table ∷ []} (public_prints t.table Anything valid.0)
    (both_print_any (column_list_prints t.columns Anything valid.1)
    (both_print (matching_prints t.matching) (prints_before (actions_print acts.on_delete acts.set_columns acts.on_update valid.2) (λ rest none. none.1))
    (actions_follow acts.on_delete acts.set_columns acts.on_update valid.2))))

abbrev pub IsReference : Reference → Type 0
IsReference r = IsNamed r.table × PerhapsColumns r.columns × IsDeletion (r.on_delete, r.set_columns) × IsTiming r.timing

-- a reference without its timing
abbrev pub target_part : Reference → Target
target_part r = record { table = r.table; columns = r.columns; matching = r.matching; actions = record { on_delete = r.on_delete; set_columns = r.set_columns; on_update = r.on_update } }

reference_is : (r : Reference) → reference_tokens r ≡ target_tokens (target_part r) ++ timing r.timing
reference_is r = simp append_assoc

-- a timing is neither a word of a match nor a list
pub timing_no_match : (t : Decl) → IsTiming t → (lines : ℕ → ℕ) (at : ℕ) (rest : List PlacedLexeme) → Behind_target rest → Behind_target (laid lines at (timing t) ++ rest)
timing_no_match t (inl e) lines at rest none = rw e none
timing_no_match t (inr (inl e)) lines at rest none = rw e (refl, refl)
timing_no_match t (inr (inr e)) lines at rest none = rw e (refl, refl)

pub no_list : (symbol : SymbolName) → same_symbol symbol OpenParen ≡ false → (line : ℕ) (others : List PlacedLexeme) → No_list (record { line = line; lexeme = Symbol symbol } ∷ others)
no_list symbol apart line others = rw apart refl

no_match : (rest : List PlacedLexeme) → Symbol_next rest → Behind_target rest
no_match = before_symbol Behind_target (λ line symbol others apart. (refl, no_list symbol apart line others))

abbrev pub Not_valid_next : Rest
Not_valid_next rest = Nothing_refused (not_valid ∷ []) rest

valid_next : (rest : List PlacedLexeme) → Symbol_next rest → Not_valid_next rest
valid_next = before_symbol Not_valid_next (λ line symbol others apart. refl)

timing_valid : (t : Decl) → IsTiming t → MayFollow (timing t) Symbol_next Not_valid_next
timing_valid t (inl e) lines at rest next = rw e (valid_next rest next)
timing_valid t (inr (inl e)) lines at rest next = rw e refl
timing_valid t (inr (inr e)) lines at rest next = rw e refl

reference_prints : (r : Reference) → IsReference r → Prints (Both reference_of target (timing_without (not_valid ∷ []))) r (reference_tokens r) Symbol_next
reference_prints r valid =
    prints_as
    (both_print (target_prints (target_part r) (valid.0, valid.1, valid.2)) (timing_prints (not_valid ∷ []) Symbol_next valid_next r.timing valid.3 (timing_valid r.timing valid.3))
    (λ lines at rest next. timing_no_match r.timing valid.3 lines at rest (no_match rest next))) (reference_is r)

-- ---- the constraints of a table

abbrev pub PerhapsNamed : Option Bytes → Type 0
PerhapsNamed None = Unit {0}
PerhapsNamed (Some name) = IsNamed name

abbrev pub IsTableConstraint : TableConstraint → Type 0
IsTableConstraint (PrimaryKey name columns) = PerhapsNamed name × Listed IsNamed columns
IsTableConstraint (Unique name columns) = PerhapsNamed name × Listed IsNamed columns
IsTableConstraint (ForeignKey name columns reference) = PerhapsNamed name × Listed IsNamed columns × IsReference reference

-- a constraint without its name
abbrev pub AreTableConstraints : (Option Bytes → TableConstraint) → Type 0
AreTableConstraints named = (name : Option Bytes) → PerhapsNamed name → IsTableConstraint (named name)

module _ (calls : (n : Nonterminal) → Trees (ValueOf n)) where
  primary_valid : (named : Option Bytes → TableConstraint) → DerivesBy calls table_primary_key named → AreTableConstraints named
  unfolding table_primary_key
  primary_valid named derived =
      then_valid AreTableConstraints
      (λ a b d. then_valid AreTableConstraints
      (λ a b d. first_valid AreTableConstraints
      (λ columns e name own. (own, first_valid (Listed IsNamed) (columns_valid calls) e)) d) d) derived

  unique_valid : (named : Option Bytes → TableConstraint) → DerivesBy calls table_unique named → AreTableConstraints named
  unfolding table_unique
  unique_valid named derived =
      then_valid AreTableConstraints
      (λ a b d. first_valid AreTableConstraints (λ columns e name own. (own, first_valid (Listed IsNamed) (columns_valid calls) e)) d) derived

  reference_valid : (r : Reference) → DerivesBy calls (Both reference_of target (timing_without (not_valid ∷ []))) r → IsReference r
  reference_valid r derived =
      both_valid IsReference
      (λ t decl aimed timed. let own = target_valid calls t aimed in (own.0, own.1, own.2, timing_is calls (not_valid ∷ []) decl timed)) derived

  foreign_valid : (named : Option Bytes → TableConstraint) → DerivesBy calls table_foreign_key named → AreTableConstraints named
  unfolding table_foreign_key
  foreign_valid named derived =
      then_valid AreTableConstraints
      (λ a b d. then_valid AreTableConstraints
      (λ a b d. both_valid AreTableConstraints
      (λ columns reference listed referred name own. (own, columns_valid calls columns listed, reference_valid reference referred)) d) d) derived

  bare_valid : (named : Option Bytes → TableConstraint) → DerivesBy calls bare_table_constraint named → AreTableConstraints named
  unfolding bare_table_constraint
  bare_valid named (inl derived) = primary_valid named derived
  bare_valid named (inr (inl derived)) = unique_valid named derived
  bare_valid named (inr (inr derived)) = foreign_valid named derived

  pub constraint_name_valid : (text : Bytes) → DerivesBy calls constraint_name text → IsNamed text
  constraint_name_valid text derived = then_valid IsNamed (λ a b d. name_named calls b d) derived

  pub table_constraint_valid : (c : TableConstraint) → DerivesBy calls table_constraint c → IsTableConstraint c
  unfolding table_constraint
  table_constraint_valid c (inl derived) =
      both_valid IsTableConstraint (λ text named own d. bare_valid named d (Some text) (constraint_name_valid text own)) derived
  table_constraint_valid c (inr derived) = first_valid IsTableConstraint (λ named d. bare_valid named d None tt) derived

-- none of the words that are refused behind a key
abbrev pub No_deferring : Rest
No_deferring rest = Nothing_refused behind_key rest

no_deferring : (rest : List PlacedLexeme) → Symbol_next rest → No_deferring rest
no_deferring = before_symbol No_deferring (λ line symbol others apart. refl)

pub constraint_name_prints : (text : Bytes) (Behind : Rest) → IsNamed text → Prints constraint_name text (Said (codes "CONSTRAINT") ∷ Name text ∷ []) Behind
constraint_name_prints text Behind named = word_then refl (name_prints text Behind named)

-- with its name, if it has one
named_prints :
    (named : Option Bytes → TableConstraint) (ws : List Written) → Prints bare_table_constraint named ws Symbol_next
    → MayFollow ws Symbol_next (Nothing_refused other_constraints) → (name : Option Bytes) → PerhapsNamed name
    → Prints table_constraint (named name) (constraint_name_tokens name ++ ws) Symbol_next
unfolding table_constraint
named_prints named ws bare none None own = right_prints (mapped_prints {f = λ named. named None} bare)
named_prints named ws bare none (Some text) own =
    left_prints
    (both_print_any {f = λ text named. named (Some text)} {ws = Said (codes "CONSTRAINT") ∷ Name text ∷ []} (constraint_name_prints text Anything own) (unless_prints bare none))

pub table_constraint_prints : (c : TableConstraint) → IsTableConstraint c → Prints table_constraint c (table_constraint_tokens c) Symbol_next
unfolding bare_table_constraint table_primary_key table_unique table_foreign_key
table_constraint_prints (PrimaryKey name columns) valid =
    named_prints (λ named. PrimaryKey named columns) (Said (codes "PRIMARY") ∷ Said (codes "KEY") ∷ columns_tokens columns)
    (left_prints (word_then refl (word_then refl (mapped_prints {f = λ columns named. PrimaryKey named columns} (end_prints (columns_print columns Symbol_next valid.1) no_deferring)))))
    (λ lines at rest next. refl) name valid.0
table_constraint_prints (Unique name columns) valid =
    named_prints (λ named. Unique named columns) (Said (codes "UNIQUE") ∷ columns_tokens columns)
    (right_prints (left_prints (word_then refl (mapped_prints {f = λ columns named. Unique named columns} (end_prints (columns_print columns Symbol_next valid.1) no_deferring)))))
    (λ lines at rest next. refl) name valid.0
table_constraint_prints (ForeignKey name columns reference) valid =
    named_prints (λ named. ForeignKey named columns reference) (Said (codes "FOREIGN") ∷ Said (codes "KEY") ∷ (columns_tokens columns ++ reference_tokens reference))
    (right_prints (right_prints (word_then refl (word_then refl
    (both_print_any {f = λ columns reference named. ForeignKey named columns reference} (columns_print columns Anything valid.1) (reference_prints reference valid.2))))))
    (λ lines at rest next. refl) name valid.0
