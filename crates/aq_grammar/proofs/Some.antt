-- Every rule that leads back to itself spells something.
use Rattle.std.proofs.Common.{refl, ℕ, zero, Bool, List, [], ◌∷◌, inl, inr}
use Rattle.aq_lex.specs.Lexemes.{PlacedLexeme, Integer}
use Rattle.aq_grammar.specs.Rules.{Nonterminal, ValueOf, Form, Rule, SpellsBy, Expression, Block, ColumnConstraints, ReferenceEnd}
use Rattle.aq_grammar.specs.declared.scope.Scope.{Scope}
use Rattle.aq_grammar.specs.Calls.{Called, CalledWithin}
use Rattle.aq_grammar.specs.Nonterminals.{rules}
use Rattle.aq_grammar.specs.Expressions as e
use Rattle.aq_grammar.specs.Bodies.{block}
use Rattle.aq_grammar.specs.Tables.{column_constraints, reference_end, other_column_constraints}
use Rattle.aq_grammar.proofs.Languages.{IsSpelled}

none : (n : Nonterminal) → Form (ValueOf n)
none n = CalledWithin rules zero n

-- a whole form, with its tree and its tokens
abbrev Spelled : {A : Type 0} → Rule A → List PlacedLexeme → Type 0
Spelled {A} r u = (x : A) × SpellsBy none r x u

zero_token : PlacedLexeme
zero_token = record { line = 1; lexeme = Integer 0 }

abbrev alone : List PlacedLexeme
alone = zero_token ∷ []

spelled_atom : (scope : Scope) → Spelled (e.atom scope) alone
unfolding e.atom e.plain_atom zero_token
spelled_atom scope = (_, inr (inl (zero_token, refl, refl, refl)))

spelled_signed : (scope : Scope) → Spelled (e.signed scope) alone
unfolding e.signed
spelled_signed scope = let a = spelled_atom scope in (_, ([], alone, [], a.0, ([], refl, refl), a.1, refl, refl))

spelled_product : (scope : Scope) → Spelled (e.product scope) alone
unfolding e.product
spelled_product scope = let a = spelled_signed scope in (_, (alone, [], a.0, [], a.1, ([], refl, refl), refl, refl))

spelled_sum : (scope : Scope) → Spelled (e.sum scope) alone
unfolding e.sum
spelled_sum scope = let a = spelled_product scope in (_, (alone, [], a.0, [], a.1, ([], refl, refl), refl, refl))

spelled_comparison : (scope : Scope) → Spelled (e.comparison scope) alone
unfolding e.comparison
spelled_comparison scope = let a = spelled_sum scope in (_, (alone, [], a.0, _, a.1, inr (refl, refl), refl, refl))

spelled_test : (scope : Scope) → Spelled (e.test scope) alone
unfolding e.test
spelled_test scope = let a = spelled_comparison scope in (_, (alone, [], a.0, [], a.1, ([], refl, refl), refl, refl))

spelled_negation : (scope : Scope) → Spelled (e.negation scope) alone
unfolding e.negation
spelled_negation scope = let a = spelled_test scope in (_, ([], alone, [], a.0, ([], refl, refl), a.1, refl, refl))

spelled_conjunction : (scope : Scope) → Spelled (e.conjunction scope) alone
unfolding e.conjunction
spelled_conjunction scope = let a = spelled_negation scope in (_, (alone, [], a.0, [], a.1, ([], refl, refl), refl, refl))

spelled_expression : (scope : Scope) → Spelled (e.expression scope) alone
unfolding e.expression
spelled_expression scope = let a = spelled_conjunction scope in (_, (alone, [], a.0, [], a.1, ([], refl, refl), refl, refl))

spelled_block : (room : ℕ) → Spelled (block room) []
unfolding block
spelled_block room = (_, ([], refl, refl))

spelled_others : (has_default : Bool) → Spelled (other_column_constraints has_default) []
unfolding other_column_constraints
spelled_others has_default = (_, inr (refl, refl))

spelled_constraints : (has_default : Bool) → Spelled (column_constraints has_default) []
unfolding column_constraints
spelled_constraints has_default = (_, inr (refl, refl))

spelled_end : (has_default : Bool) → Spelled (reference_end has_default) []
unfolding reference_end
spelled_end has_default = let a = spelled_others has_default in (_, inr (inr ([], [], a.0, tt, a.1, (refl, refl), refl, refl)))

pub spelled : (n : Nonterminal) → IsSpelled (Called rules n)
unfolding rules none
spelled (Expression scope) = let a = spelled_expression scope in (a.0, alone, (1, a.1))
spelled (Block room) = let a = spelled_block room in (a.0, [], (1, a.1))
spelled (ColumnConstraints has_default) = let a = spelled_constraints has_default in (a.0, [], (1, a.1))
spelled (ReferenceEnd has_default) = let a = spelled_end has_default in (a.0, [], (1, a.1))
