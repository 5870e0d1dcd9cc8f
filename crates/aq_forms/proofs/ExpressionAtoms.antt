-- An atom without parentheses that was read is printed as tokens that spell it freely.
use Rattle.std.proofs.Common.{◌≡◌, ◌^◌, Bool, true, false, not, List, [], ◌∷◌, map, Option, Some, None, inl, inr, ◌⊎◌, refl, sym, ap, ◌∙◌, subst, codes}
use Rattle.std.specs.Prelude.{pos, nat_lt, IsUtf8}
use Rattle.std.specs.Char.{to_ascii_lowercase}
use Rattle.aq_base.specs.Names.{Text as Bytes, same_text}
use Rattle.aq_base.specs.declared.value.Value.TheVariants.{Null, Bool as Truth, Int, Text as Words}
use Rattle.aq_base.specs.declared.expr.Expr.{Expr}
use Rattle.aq_base.specs.declared.expr.Expr.TheVariants.{Constant, Column, Qualified, Old, New, Operation}
use Rattle.aq_lex.specs.Lexemes.{Lexeme, Word, QuotedName, Integer, Text, Symbol, Directive}
use Rattle.aq_lex.specs.declared.token.Symbol.TheVariants.{Dot}
use Rattle.aq_grammar.specs.declared.scope.Scope.{Scope}
use Rattle.aq_grammar.specs.declared.scope.Scope.TheVariants.{InStatement, InCondition, InCode}
use Rattle.aq_grammar.specs.Terminals.{Terminal, Keyword, NameOf, NameBut, Number as Number_kind, Sign as Mark_kind, is_of_kind, is_literal, is_literal_in_code, number_is, text_is, text_of, number_of, lexeme_text, lexeme_number}
use Rattle.aq_grammar.specs.Rules.{Nonterminal, ValueOf, Rule, Token, Both, Either}
use Rattle.aq_grammar.specs.Forms.{word, sign, says, ◌▸◌, mapped, name}
use Rattle.aq_grammar.specs.Expressions.{literal_in, column_or_qualified, column_of_public, behind_dot, behind_public, column, operation_or_column, old_column, new_column, column_of_row_or, named, word_or_named, plain_atom}
use Rattle.aq_texts.specs.Written.{Written, Said, say, Name, Number, Literal, Mark}
use Rattle.aq_texts.specs.Canon.{printed, atom as an_atom}
use Rattle.aq_texts.proofs.Expressions.{constant_is, column_is, qualified_is, old_is, new_is, operation_is}
use Rattle.aq_forms.proofs.Sound.{is_folded_word, IsSound}
use Rattle.aq_forms.proofs.Derived.{Trees, DerivesBy}
use Rattle.aq_forms.proofs.Combining.{Anything, token_free, says_free, both_any, behind_word, behind_mark, mapped_free, left_free, right_free, some_free, none_free}
use Rattle.aq_forms.proofs.Names.{IsNamed, name_fits, name_sound, name_text_is, derived_name, name_named, name_free}
use Rattle.aq_forms.proofs.ExpressionLevels.{IsPrinted}

-- the expression is printed as an atom, by this rule
abbrev pub IsAtomBy : Rule Expr → Expr → Type 0
IsAtomBy r e = (tokens : List Written) × (printed e ≡ an_atom tokens) × IsPrinted r e tokens

left_atom : (kinds : List Terminal) (a b : Rule Expr) (e : Expr) → IsAtomBy a e → IsAtomBy (Either kinds a b) e
left_atom kinds a b e found = (found.0, found.1, left_free kinds a b e found.0 Anything found.2)

right_atom : (kinds : List Terminal) (a b : Rule Expr) (e : Expr) → IsAtomBy b e → IsAtomBy (Either kinds a b) e
right_atom kinds a b e found = (found.0, found.1, right_free kinds a b e found.0 Anything found.2)

-- ---- columns

name_of_free : (text : Bytes) → IsNamed text → same_text text (codes "public") ≡ true → IsPrinted (Token (NameOf (codes "public")) text_of) text (Name text ∷ [])
name_of_free text own e =
    token_free (NameOf (codes "public")) text_of (Name text) text Anything (λ line. name_fits (λ text. same_text text (codes "public")) text own e)
    (name_sound text own) (λ line. sym (name_text_is text))

name_but_free : (text : Bytes) → IsNamed text → same_text text (codes "public") ≡ false → IsPrinted (Token (NameBut (codes "public")) text_of) text (Name text ∷ [])
name_but_free text own e =
    token_free (NameBut (codes "public")) text_of (Name text) text Anything (λ line. name_fits (λ text. not (same_text text (codes "public"))) text own (ap not e))
    (name_sound text own) (λ line. sym (name_text_is text))

abbrev pub public_column : Rule Expr
public_column = Both column_of_public (Token (NameOf (codes "public")) text_of) behind_public

abbrev pub other_column : Rule Expr
other_column = Both column_or_qualified (Token (NameBut (codes "public")) text_of) behind_dot

no_dot_free : IsPrinted behind_dot None []
unfolding behind_dot
no_dot_free = none_free (Mark_kind Dot ∷ []) (sign Dot ▸ name) Anything

dot_free : (text : Bytes) → IsNamed text → IsPrinted behind_dot (Some text) (Mark Dot ∷ Name text ∷ [])
unfolding behind_dot
dot_free text own =
    some_free (Mark_kind Dot ∷ []) (sign Dot ▸ name) text (Mark Dot ∷ Name text ∷ []) Anything
    (behind_mark Dot name text (Name text ∷ []) Anything (name_free text Anything own))

no_public_dot_free : IsPrinted behind_public None []
unfolding behind_public
no_public_dot_free = none_free (Mark_kind Dot ∷ []) (sign Dot ▸ Both (λ x y. (x, y)) name behind_dot) Anything

public_dot_free : (text : Bytes) → IsNamed text → IsPrinted behind_public (Some (text, None)) (Mark Dot ∷ Name text ∷ [])
unfolding behind_public
public_dot_free text own =
    some_free (Mark_kind Dot ∷ []) (sign Dot ▸ Both (λ x y. (x, y)) name behind_dot) (text, None) (Mark Dot ∷ Name text ∷ []) Anything
    (behind_mark Dot (Both (λ x y. (x, y)) name behind_dot) (text, None) (Name text ∷ []) Anything
    (both_any (λ x y. (x, y)) name behind_dot text None (Name text ∷ []) [] Anything (name_free text Anything own) no_dot_free))

column_free : (text : Bytes) → IsNamed text → IsPrinted column (Column text) (Name text ∷ [])
unfolding column
column_free text own = by_test (same_text text (codes "public")) refl
  where
    by_test : (b : Bool) → same_text text (codes "public") ≡ b → IsPrinted column (Column text) (Name text ∷ [])
    by_test true e =
        left_free (NameOf (codes "public") ∷ []) public_column other_column (Column text) (Name text ∷ []) Anything
        (both_any column_of_public (Token (NameOf (codes "public")) text_of) behind_public text None (Name text ∷ []) [] Anything (name_of_free text own e) no_public_dot_free)
    by_test false e =
        right_free (NameOf (codes "public") ∷ []) public_column other_column (Column text) (Name text ∷ []) Anything
        (both_any column_or_qualified (Token (NameBut (codes "public")) text_of) behind_dot text None (Name text ∷ []) [] Anything (name_but_free text own e) no_dot_free)

qualified_free : (table text : Bytes) → IsNamed table → IsNamed text → IsPrinted column (Qualified table text) (Name table ∷ Mark Dot ∷ Name text ∷ [])
unfolding column
qualified_free table text first second = by_test (same_text table (codes "public")) refl
  where
    by_test : (b : Bool) → same_text table (codes "public") ≡ b → IsPrinted column (Qualified table text) (Name table ∷ Mark Dot ∷ Name text ∷ [])
    by_test true e =
        left_free (NameOf (codes "public") ∷ []) public_column other_column (Qualified table text) (Name table ∷ Mark Dot ∷ Name text ∷ []) Anything
        (both_any column_of_public (Token (NameOf (codes "public")) text_of) behind_public table (Some (text, None)) (Name table ∷ []) (Mark Dot ∷ Name text ∷ []) Anything
        (name_of_free table first e) (public_dot_free text second))
    by_test false e =
        right_free (NameOf (codes "public") ∷ []) public_column other_column (Qualified table text) (Name table ∷ Mark Dot ∷ Name text ∷ []) Anything
        (both_any column_or_qualified (Token (NameBut (codes "public")) text_of) behind_dot table (Some text) (Name table ∷ []) (Mark Dot ∷ Name text ∷ []) Anything
        (name_but_free table first e) (dot_free text second))

column_of : (text : Bytes) → IsNamed text → IsAtomBy column (Column text)
column_of text own = (Name text ∷ [], column_is text, column_free text own)

qualified_of : (table text : Bytes) → IsNamed table → IsNamed text → IsAtomBy column (Qualified table text)
qualified_of table text first second = (Name table ∷ Mark Dot ∷ Name text ∷ [], qualified_is table text, qualified_free table text first second)

-- ---- what was read

-- a number that was read is printed as one that fits
number_fits : (lexeme : Lexeme) → number_is (λ number. nat_lt number (2 ^ 63)) lexeme ≡ true → nat_lt (lexeme_number lexeme) (2 ^ 63) ≡ true
number_fits (Word text) fit = cc
number_fits (QuotedName text) fit = cc
number_fits (Integer number) fit = fit
number_fits (Text text) fit = cc
number_fits (Symbol symbol) fit = cc
number_fits (Directive directive) fit = cc

pub text_fits : (test : Bytes → Bool) (lexeme : Lexeme) → text_is test lexeme ≡ true → IsSound lexeme → (test (lexeme_text lexeme) ≡ true) × IsUtf8 (lexeme_text lexeme)
text_fits test (Word text) fit sound = cc
text_fits test (QuotedName text) fit sound = cc
text_fits test (Integer number) fit sound = cc
text_fits test (Text text) fit sound = (fit, sound)
text_fits test (Symbol symbol) fit sound = cc
text_fits test (Directive directive) fit sound = cc

literal_fits : (scope : Scope) (lexeme : Lexeme) → is_of_kind (literal_in scope) lexeme ≡ true → IsSound lexeme
    → (is_of_kind (literal_in scope) (Text (lexeme_text lexeme)) ≡ true) × IsUtf8 (lexeme_text lexeme)
literal_fits InStatement lexeme fit sound = text_fits is_literal lexeme fit sound
literal_fits InCondition lexeme fit sound = text_fits is_literal lexeme fit sound
literal_fits InCode lexeme fit sound = text_fits is_literal_in_code lexeme fit sound

module _ (calls : (n : Nonterminal) → Trees (ValueOf n)) where
  either_atom : (kinds : List Terminal) (a b : Rule Expr) (e : Expr) → (DerivesBy calls a e → IsAtomBy a e) → (DerivesBy calls b e → IsAtomBy b e)
      → DerivesBy calls (Either kinds a b) e → IsAtomBy (Either kinds a b) e
  either_atom kinds a b e first second (inl derived) = left_atom kinds a b e (first derived)
  either_atom kinds a b e first second (inr derived) = right_atom kinds a b e (second derived)

  -- a word that says something by itself
  says_atom : (text word : Bytes) (x e : Expr) → printed x ≡ an_atom (Said text ∷ []) → is_folded_word (map to_ascii_lowercase text) ≡ true
      → same_text (map to_ascii_lowercase text) word ≡ true → DerivesBy calls (says word x) e → IsAtomBy (says word x) e
  says_atom text word x e is folded same (token, fit, sound, found) =
      subst (IsAtomBy (says word x)) (sym found) (Said text ∷ [], is, says_free text word x Anything folded same)

  dot_derived : (x : Option Bytes) → DerivesBy calls behind_dot x → (x ≡ None) ⊎ ((text : Bytes) × IsNamed text × (x ≡ Some text))
  unfolding behind_dot
  dot_derived x (inl (text, end, (before, found, dot, derived, a), none, b)) = inr (found, name_named calls found derived, b ∙ ap Some a)
  dot_derived x (inr none) = inl none

  third_atom : (first second : Bytes) (third : Option Bytes) → IsNamed first → IsNamed second → (third ≡ None) ⊎ ((text : Bytes) × IsNamed text × (third ≡ Some text))
      → IsAtomBy column (column_of_public first (Some (second, third)))
  third_atom first second third a b (inl none) =
      subst (λ (x : Option Bytes). IsAtomBy column (column_of_public first (Some (second, x)))) (sym none) (qualified_of first second a b)
  third_atom first second third a b (inr (text, own, is)) =
      subst (λ (x : Option Bytes). IsAtomBy column (column_of_public first (Some (second, x)))) (sym is) (qualified_of second text b own)

  public_atom : (first : Bytes) (behind : Option (Bytes × Option Bytes)) → IsNamed first → DerivesBy calls behind_public behind
      → IsAtomBy column (column_of_public first behind)
  unfolding behind_public
  public_atom first behind own (inl (found, end, (before, two, dot, (second, third, name_derived, third_derived, a), b), none, c)) =
      subst (λ (x : Option (Bytes × Option Bytes)). IsAtomBy column (column_of_public first x)) (sym (c ∙ ap Some (b ∙ a)))
      (third_atom first second third own (name_named calls second name_derived) (dot_derived third third_derived))
  public_atom first behind own (inr none) =
      subst (λ (x : Option (Bytes × Option Bytes)). IsAtomBy column (column_of_public first x)) (sym none) (column_of first own)

  other_atom : (first : Bytes) (behind : Option Bytes) → IsNamed first → (behind ≡ None) ⊎ ((text : Bytes) × IsNamed text × (behind ≡ Some text))
      → IsAtomBy column (column_or_qualified first behind)
  other_atom first behind own (inl none) = subst (λ (x : Option Bytes). IsAtomBy column (column_or_qualified first x)) (sym none) (column_of first own)
  other_atom first behind own (inr (text, second, is)) =
      subst (λ (x : Option Bytes). IsAtomBy column (column_or_qualified first x)) (sym is) (qualified_of first text own second)

  column_atom : (e : Expr) → DerivesBy calls column e → IsAtomBy column e
  unfolding column
  column_atom e (inl (first, behind, (token, fit, sound, is), derived, whole)) =
      subst (IsAtomBy column) (sym whole)
      (public_atom first behind (subst IsNamed (sym is) (derived_name (λ text. same_text text (codes "public")) token fit sound).0) derived)
  column_atom e (inr (first, behind, (token, fit, sound, is), derived, whole)) =
      subst (IsAtomBy column) (sym whole)
      (other_atom first behind (subst IsNamed (sym is) (derived_name (λ text. not (same_text text (codes "public"))) token fit sound).0) (dot_derived behind derived))

  operation_atom : (e : Expr) → DerivesBy calls operation_or_column e → IsAtomBy operation_or_column e
  unfolding operation_or_column
  operation_atom e derived =
      either_atom (Keyword (codes "tg_op") ∷ []) (says (codes "tg_op") Operation) column e
      (says_atom (codes "TG_OP") (codes "tg_op") Operation e operation_is refl refl) (column_atom e) derived

  old_atom : (e : Expr) → DerivesBy calls old_column e → IsAtomBy old_column e
  unfolding old_column
  old_atom e (before, behind, old, (between, found, dot, (text, end, derived, none, a), b), c) =
      subst (IsAtomBy old_column) (sym (c ∙ b ∙ a)) (
        say (codes "OLD") ∷ Mark Dot ∷ Name text ∷ [],
        old_is text,
        behind_word (codes "OLD") (codes "old") (sign Dot ▸ mapped Old name) (Old text) (Mark Dot ∷ Name text ∷ []) Anything refl refl
            (behind_mark Dot (mapped Old name) (Old text) (Name text ∷ []) Anything
            (mapped_free Old name text (Name text ∷ []) Anything (name_free text Anything (name_named calls text derived)))),
      )

  new_atom : (e : Expr) → DerivesBy calls new_column e → IsAtomBy new_column e
  unfolding new_column
  new_atom e (before, behind, new, (between, found, dot, (text, end, derived, none, a), b), c) =
      subst (IsAtomBy new_column) (sym (c ∙ b ∙ a)) (
        say (codes "NEW") ∷ Mark Dot ∷ Name text ∷ [],
        new_is text,
        behind_word (codes "NEW") (codes "new") (sign Dot ▸ mapped New name) (New text) (Mark Dot ∷ Name text ∷ []) Anything refl refl
            (behind_mark Dot (mapped New name) (New text) (Name text ∷ []) Anything
            (mapped_free New name text (Name text ∷ []) Anything (name_free text Anything (name_named calls text derived)))),
      )

  row_atom : (others : Rule Expr) (e : Expr) → (DerivesBy calls others e → IsAtomBy others e) → DerivesBy calls (column_of_row_or others) e
      → IsAtomBy (column_of_row_or others) e
  row_atom others e other derived =
      either_atom (Keyword (codes "old") ∷ []) old_column (Either (Keyword (codes "new") ∷ []) new_column others) e (old_atom e)
      (either_atom (Keyword (codes "new") ∷ []) new_column others e (new_atom e) other) derived

  named_atom : (scope : Scope) (e : Expr) → DerivesBy calls (named scope) e → IsAtomBy (named scope) e
  unfolding named
  named_atom InStatement e derived = column_atom e derived
  named_atom InCondition e derived = row_atom column e (column_atom e) derived
  named_atom InCode e derived = row_atom operation_or_column e (operation_atom e) derived

  word_atom : (scope : Scope) (e : Expr) → DerivesBy calls (word_or_named scope) e → IsAtomBy (word_or_named scope) e
  unfolding word_or_named
  word_atom scope e derived =
      either_atom (Keyword (codes "null") ∷ []) (says (codes "null") (Constant Null)) from_true e
      (says_atom (codes "NULL") (codes "null") (Constant Null) e (constant_is Null) refl refl)
      (either_atom (Keyword (codes "true") ∷ []) (says (codes "true") (Constant (Truth true))) from_false e
      (says_atom (codes "TRUE") (codes "true") (Constant (Truth true)) e (constant_is (Truth true)) refl refl)
      (either_atom (Keyword (codes "false") ∷ []) (says (codes "false") (Constant (Truth false))) (named scope) e
      (says_atom (codes "FALSE") (codes "false") (Constant (Truth false)) e (constant_is (Truth false)) refl refl) (named_atom scope e))) derived
    where
      from_false : Rule Expr
      from_false = Either (Keyword (codes "false") ∷ []) (says (codes "false") (Constant (Truth false))) (named scope)

      from_true : Rule Expr
      from_true = Either (Keyword (codes "true") ∷ []) (says (codes "true") (Constant (Truth true))) from_false

  number_atom : (e : Expr) → DerivesBy calls (Token Number_kind (λ token. Constant (Int (pos (number_of token))))) e
      → IsAtomBy (Token Number_kind (λ token. Constant (Int (pos (number_of token))))) e
  number_atom e (token, fit, sound, is) =
      subst (IsAtomBy (Token Number_kind (λ token. Constant (Int (pos (number_of token)))))) (sym is) (
        Number (number_of token) ∷ [],
        constant_is (Int (pos (number_of token))),
        token_free Number_kind (λ token. Constant (Int (pos (number_of token)))) (Number (number_of token)) (Constant (Int (pos (number_of token)))) Anything
            (λ line. number_fits token.lexeme fit) (number_fits token.lexeme fit) (λ line. refl),
      )

  text_atom : (scope : Scope) (e : Expr) → DerivesBy calls (Token (literal_in scope) (λ token. Constant (Words (text_of token)))) e
      → IsAtomBy (Token (literal_in scope) (λ token. Constant (Words (text_of token)))) e
  text_atom scope e (token, fit, sound, is) =
      subst (IsAtomBy (Token (literal_in scope) (λ token. Constant (Words (text_of token))))) (sym is) (
        Literal (text_of token) ∷ [],
        constant_is (Words (text_of token)),
        token_free (literal_in scope) (λ token. Constant (Words (text_of token))) (Literal (text_of token)) (Constant (Words (text_of token))) Anything
            (λ line. (literal_fits scope token.lexeme fit sound).0) (literal_fits scope token.lexeme fit sound).1 (λ line. refl),
      )

  pub plain_atom_is : (scope : Scope) (e : Expr) → DerivesBy calls (plain_atom scope) e → IsAtomBy (plain_atom scope) e
  unfolding plain_atom
  plain_atom_is scope e derived =
      either_atom (Number_kind ∷ []) (Token Number_kind (λ token. Constant (Int (pos (number_of token)))))
      (Either (literal_in scope ∷ []) (Token (literal_in scope) (λ token. Constant (Words (text_of token)))) (word_or_named scope)) e (number_atom e)
      (either_atom (literal_in scope ∷ []) (Token (literal_in scope) (λ token. Constant (Words (text_of token)))) (word_or_named scope) e (text_atom scope e) (word_atom scope e))
      derived
