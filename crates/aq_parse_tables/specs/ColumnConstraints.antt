-- One constraint of a column, as it is read before those behind it.
use Rattle.std.specs.Prelude.{Bool, true, false, List, [], ◌∷◌, Option, Some, None, codes, if◌then◌else◌}
use Rattle.aq_base.specs.Names.{Text as Bytes}
use Rattle.aq_base.specs.declared.catalog.Decl.{Decl}
use Rattle.aq_base.specs.declared.constraint.Reference.{Reference}
use Rattle.aq_base.specs.declared.constraint.ColumnConstraint.{ColumnConstraint}
use Rattle.aq_base.specs.declared.constraint.ColumnConstraint.TheVariants.{NotNull, Default, PrimaryKey, Unique, References}
use Rattle.aq_lex.specs.Lexemes.{PlacedLexeme}
use Rattle.aq_grammar.specs.Terminals.{Keyword, begin_with}
use Rattle.aq_grammar.specs.Rules.{Rule, Done, Unless, ColumnConstraints}
use Rattle.aq_grammar.specs.Forms.{word, ◌▸◌, mapped}
use Rattle.aq_grammar.specs.Reading.{Outcome, Read, Reader, ◌>>=◌, read_both, read_either, read_unless}
use Rattle.aq_grammar.specs.Nonterminals.{reads, reads_called}
use Rattle.aq_grammar.specs.Tables.{immediate, not_valid, other_constraints, behind_key, perhaps_timing, target, reference_of, constant, constraint_name, constraint_begins}

-- when a column's reference is checked: a NOT NULL behind it is a constraint of its own
unfoldable pub read_column_timing : Reader Decl
read_column_timing tokens =
    read_unless (not_valid ∷ other_constraints)
    (λ rest. if begin_with (Keyword (codes "not") ∷ Keyword (codes "null") ∷ []) rest then Read immediate rest else reads (perhaps_timing (not_valid ∷ [])) rest) tokens

unfoldable pub read_column_reference : Reader Reference
read_column_reference tokens = read_both reference_of (reads target) (λ target. read_column_timing) tokens

abbrev pub primary_key : Option Bytes → Rule ColumnConstraint
primary_key name = word (codes "primary") ▸ word (codes "key") ▸ Unless behind_key (Done (PrimaryKey name))

abbrev pub unique : Option Bytes → Rule ColumnConstraint
unique name = word (codes "unique") ▸ Unless behind_key (Done (Unique name))

-- a constraint that may have a name, behind its name
unfoldable pub read_named : Option Bytes → Reader ColumnConstraint
read_named name tokens =
    read_either (Keyword (codes "primary") ∷ []) (reads (primary_key name))
    (read_either (Keyword (codes "unique") ∷ []) (reads (unique name)) (λ rest. read_column_reference rest >>= λ reference last. Read (References name reference) last)) tokens

unfoldable pub read_with_name : Reader ColumnConstraint
read_with_name tokens = reads constraint_name tokens >>= λ name rest. read_unless other_constraints (read_named (Some name)) rest

abbrev pub not_null : Rule ColumnConstraint
not_null = word (codes "not") ▸ word (codes "null") ▸ Done NotNull

abbrev pub with_default : Rule ColumnConstraint
with_default = word (codes "default") ▸ mapped Default constant

-- a DEFAULT, where there is none yet
abbrev pub read_default_or : Bool → Reader ColumnConstraint → Reader ColumnConstraint
read_default_or true others tokens = others tokens
read_default_or false others tokens = read_either (Keyword (codes "default") ∷ []) (reads with_default) others tokens

unfoldable pub read_constraint : Bool → Reader ColumnConstraint
read_constraint has_default tokens =
    read_either (Keyword (codes "not") ∷ []) (reads not_null)
    (read_default_or has_default (read_either (Keyword (codes "constraint") ∷ []) read_with_name (read_named None))) tokens

-- the next constraint, or none where they end
unfoldable pub read_next : Bool → Reader (Option ColumnConstraint)
read_next has_default tokens =
    read_unless other_constraints
    (read_either (constraint_begins has_default) (λ rest. read_constraint has_default rest >>= λ constraint last. Read (Some constraint) last) (λ rest. Read None rest)) tokens

-- there has been a DEFAULT, with this constraint
abbrev pub has_default_with : Bool → ColumnConstraint → Bool
has_default_with has_default NotNull = has_default
has_default_with has_default (Default value) = true
has_default_with has_default (PrimaryKey name) = has_default
has_default_with has_default (Unique name) = has_default
has_default_with has_default (References name reference) = has_default

-- the constraints behind the next one, with it before them
abbrev pub then_others : Bool → Option ColumnConstraint → List PlacedLexeme → Outcome (List ColumnConstraint)
then_others has_default None rest = Read [] rest
then_others has_default (Some constraint) rest =
    reads_called (ColumnConstraints (has_default_with has_default constraint)) rest >>= λ others last. Read (constraint ∷ others) last
