-- Behind a constraint of a column fewer tokens are left.
use Rattle.std.proofs.Common.{◌≡◌, ℕ, ◌<◌, Bool, true, false, List, [], ◌∷◌, length, Option, Some, None, codes, refl, subst}
use Rattle.std.proofs.lemmas.Bool.{cond_both}
use Rattle.aq_base.specs.declared.fault.SqlFault.{SqlFault}
use Rattle.aq_base.specs.Names.{Text as Bytes}
use Rattle.aq_base.specs.declared.constraint.ColumnConstraint.{ColumnConstraint}
use Rattle.aq_base.specs.declared.constraint.ColumnConstraint.TheVariants.{References}
use Rattle.aq_lex.specs.Lexemes.{PlacedLexeme}
use Rattle.aq_grammar.specs.Terminals.{Keyword, begins, begin_with}
use Rattle.aq_grammar.specs.Rules.{Rule, refused}
use Rattle.aq_grammar.specs.Forms.{name, names, public_name}
use Rattle.aq_grammar.specs.Reading.{Outcome, Read, Stop, ◌>>=◌, stop_or, read_either}
use Rattle.aq_grammar.specs.Nonterminals.{rules, marks, reads_called, reads}
use Rattle.aq_grammar.specs.Sets.{marks_by, is_fit_by}
use Rattle.aq_grammar.specs.Changes as c
use Rattle.aq_grammar.specs.Tables as t
use Rattle.aq_grammar.specs.Tables.{immediate, not_valid, other_constraints, reference_of, constraint_begins}
use Rattle.aq_grammar.proofs.Fuel.{Shortens, shortens_by, called_shortens_by, bind_shortens, called_shortens, both_shortens, either_shortens, stop_or_shortens, nothing_shortens}
use Rattle.aq_grammar.proofs.Fit.{rules_fit}
use Rattle.aq_parse_tables.specs.ColumnConstraints.{read_column_timing, read_column_reference, read_named, read_with_name, read_constraint, read_next, read_default_or, primary_key, unique, not_null, with_default}

rule_shortens : {A : Type 0} (r : Rule A) → is_fit_by marks r ≡ true → (tokens : List PlacedLexeme) → Shortens (marks_by marks r).is_empty (length tokens) (reads r tokens)
unfolding reads_called
rule_shortens r fit tokens = shortens_by reads_called marks (called_shortens_by rules marks rules_fit) r fit tokens

timing_shortens : (tokens : List PlacedLexeme) → Shortens true (length tokens) (read_column_timing tokens)
unfolding read_column_timing marks t.perhaps_timing t.given_timing t.deferring t.behind_deferrable t.behind_not_deferrable t.initially_alone t.initially
timing_shortens tokens =
    stop_or_shortens true (refused (not_valid ∷ other_constraints) tokens) tokens _
    (cond_both (begin_with (Keyword (codes "not") ∷ Keyword (codes "null") ∷ []) tokens) (Read immediate tokens) (reads (t.perhaps_timing (not_valid ∷ [])) tokens)
    (Shortens true (length tokens)) (λ e. nothing_shortens immediate tokens) (λ e. rule_shortens (t.perhaps_timing (not_valid ∷ [])) refl tokens))

reference_shortens : (tokens : List PlacedLexeme) → Shortens false (length tokens) (read_column_reference tokens)
unfolding read_column_reference marks t.target t.matching t.actions t.action t.update_setting t.deletion t.plain_action t.setting public_name name names c.column_list
reference_shortens tokens =
    both_shortens reference_of false true (λ rest. reads t.target rest) (λ target. read_column_timing) tokens (rule_shortens t.target refl tokens) (λ target. timing_shortens)

named_shortens : (key : Option Bytes) (tokens : List PlacedLexeme) → Shortens false (length tokens) (read_named key tokens)
unfolding read_named marks
named_shortens key tokens =
    either_shortens (Keyword (codes "primary") ∷ []) false (λ rest. reads (primary_key key) rest)
    (read_either (Keyword (codes "unique") ∷ []) (λ rest. reads (unique key) rest) (λ rest. read_column_reference rest >>= λ reference last. Read (References key reference) last)) tokens
    (rule_shortens (primary_key key) refl tokens)
    (either_shortens (Keyword (codes "unique") ∷ []) false (λ rest. reads (unique key) rest)
    (λ rest. read_column_reference rest >>= λ reference last. Read (References key reference) last) tokens
    (rule_shortens (unique key) refl tokens)
    (called_shortens false (length tokens) (λ reference. References key reference) (read_column_reference tokens) (reference_shortens tokens)))

with_name_shortens : (tokens : List PlacedLexeme) → Shortens false (length tokens) (read_with_name tokens)
unfolding read_with_name marks name
with_name_shortens tokens =
    bind_shortens false false (length tokens) (reads t.constraint_name tokens) (λ key rest. stop_or (refused other_constraints rest) rest (read_named (Some key) rest))
    (rule_shortens t.constraint_name refl tokens)
    (λ key rest. stop_or_shortens false (refused other_constraints rest) rest (read_named (Some key) rest) (named_shortens (Some key) rest))

plain_shortens : (tokens : List PlacedLexeme)
    → Shortens false (length tokens) (read_either (Keyword (codes "constraint") ∷ []) read_with_name (read_named None) tokens)
plain_shortens tokens =
    either_shortens (Keyword (codes "constraint") ∷ []) false read_with_name (read_named None) tokens (with_name_shortens tokens) (named_shortens None tokens)

default_shortens : (has_default : Bool) (tokens : List PlacedLexeme)
    → Shortens false (length tokens) (read_default_or has_default (read_either (Keyword (codes "constraint") ∷ []) read_with_name (read_named None)) tokens)
unfolding marks t.constant
default_shortens true tokens = plain_shortens tokens
default_shortens false tokens =
    either_shortens (Keyword (codes "default") ∷ []) false (λ rest. reads with_default rest) (read_either (Keyword (codes "constraint") ∷ []) read_with_name (read_named None))
    tokens (rule_shortens with_default refl tokens) (plain_shortens tokens)

constraint_shortens : (has_default : Bool) (tokens : List PlacedLexeme) → Shortens false (length tokens) (read_constraint has_default tokens)
unfolding read_constraint marks
constraint_shortens has_default tokens =
    either_shortens (Keyword (codes "not") ∷ []) false (λ rest. reads not_null rest)
    (read_default_or has_default (read_either (Keyword (codes "constraint") ∷ []) read_with_name (read_named None))) tokens (rule_shortens not_null refl tokens)
    (default_shortens has_default tokens)

-- a constraint is read, behind which fewer tokens are left
abbrev pub LeavesFewer : ℕ → Outcome (Option ColumnConstraint) → Type 0
LeavesFewer size (Read None rest) = Unit {0}
LeavesFewer size (Read (Some constraint) rest) = length rest < size
LeavesFewer size (Stop reason rest) = Unit {0}

some_fewer : (size : ℕ) (found : Outcome ColumnConstraint) → Shortens false size found → LeavesFewer size (found >>= λ constraint rest. Read (Some constraint) rest)
some_fewer size (Read constraint rest) (less, shorter) = shorter refl
some_fewer size (Stop reason rest) shorter = tt

unless_fewer : (size : ℕ) (fault : Option SqlFault) (tokens : List PlacedLexeme) (found : Outcome (Option ColumnConstraint)) → LeavesFewer size found
    → LeavesFewer size (stop_or fault tokens found)
unless_fewer size None tokens found fewer = fewer
unless_fewer size (Some fault) tokens found fewer = tt

next_fewer : (has_default : Bool) (tokens : List PlacedLexeme) → LeavesFewer (length tokens) (read_next has_default tokens)
unfolding read_next
next_fewer has_default tokens =
    unless_fewer (length tokens) (refused other_constraints tokens) tokens _
    (cond_both (begins (constraint_begins has_default) tokens) (read_constraint has_default tokens >>= λ constraint rest. Read (Some constraint) rest) (Read None tokens)
    (LeavesFewer (length tokens)) (λ e. some_fewer (length tokens) (read_constraint has_default tokens) (constraint_shortens has_default tokens)) (λ e. tt))

pub next_is_shorter :
    (has_default : Bool) (tokens rest : List PlacedLexeme) (constraint : ColumnConstraint) → read_next has_default tokens ≡ Read (Some constraint) rest
    → length rest < length tokens
next_is_shorter has_default tokens rest constraint read = subst (LeavesFewer (length tokens)) read (next_fewer has_default tokens)
