-- The constraints of a column are read one by one.
use Rattle.std.proofs.Common.{◌≡◌, Bool, true, false, ◌&&◌, ◌||◌, List, [], ◌∷◌, ◌++◌, Option, Some, None, codes, if◌then◌else◌, refl, sym, ap, ◌∙◌, append_assoc}
use Rattle.std.proofs.lemmas.List.{append-nil}
use Rattle.aq_base.specs.Names.{Text as Bytes}
use Rattle.aq_base.specs.declared.fault.SqlFault.{SqlFault}
use Rattle.aq_base.specs.declared.catalog.Decl.{Decl}
use Rattle.aq_base.specs.declared.constraint.ColumnConstraint.{ColumnConstraint}
use Rattle.aq_base.specs.declared.constraint.ColumnConstraint.TheVariants.{NotNull, Default, PrimaryKey, Unique, References}
use Rattle.aq_lex.specs.Lexemes.{PlacedLexeme}
use Rattle.aq_grammar.specs.Terminals.{Keyword, begins, begin_with, fits, is_of}
use Rattle.aq_grammar.specs.Rules.{Done, Both, Either, Unless, ColumnConstraints, ReferenceEnd, refused}
use Rattle.aq_grammar.specs.Forms.{word, ◌▸◌, mapped}
use Rattle.aq_grammar.specs.Reading.{Outcome, Read, Stop, Syntax, ◌>>=◌, stop_or, read_either}
use Rattle.aq_grammar.specs.Nonterminals.{rules, reads, reads_called}
use Rattle.aq_grammar.specs.Tables as t
use Rattle.aq_grammar.specs.Tables.{Target, immediate, not_valid, other_constraints, behind_key, target, reference_of, references_then, constraints, constant, constraint_name, constraint_begins, other_begins, named_constraint}
use Rattle.aq_grammar.specs.declared.fault.ReadFault.{ReadFault}
use Rattle.aq_grammar.specs.Steps.{Fails}
use Rattle.aq_grammar.proofs.Grammar.{is_read_so}
use Rattle.aq_grammar.proofs.Loops.{fails_on, fails_as}
use Rattle.aq_grammar.proofs.Tokens.{one_kind}
use Rattle.aq_parse_tables.specs.ColumnConstraints.{read_column_timing, read_column_reference, read_named, read_with_name, read_constraint, read_next, read_default_or, then_others, has_default_with, not_null, with_default}
use Rattle.aq_parse_tables.proofs.Joining.{handed_on, bind_both, then_both, either_both, unless_both, unless_then, mapped_both}

-- a list of constraints that is read
abbrev Others : Type 0
Others = Outcome (List ColumnConstraint)

abbrev others_of : Bool → List PlacedLexeme → Others
others_of has_default = reads_called (ColumnConstraints has_default)

column_is :
    (has_default : Bool) (tokens : List PlacedLexeme)
    → others_of has_default tokens
    ≡ stop_or (refused other_constraints tokens) tokens
    (if begins (constraint_begins has_default) tokens
    then reads (Either (Keyword (codes "not") ∷ []) (word (codes "not") ▸ t.not_null has_default) (t.others_then has_default)) tokens
    else Read [] tokens)
unfolding rules t.column_constraints
column_is has_default tokens = is_read_so (ColumnConstraints has_default) tokens

-- ---- behind a reference

none_else : (b : Bool) (fault : SqlFault) (other : Option SqlFault) → (if b then Some fault else other) ≡ None → other ≡ None
none_else true fault other e = cc
none_else false fault other e = e

module _ (others : List PlacedLexeme → Others) (valid : List PlacedLexeme → Option SqlFault) where
  abbrev behind : Decl → List PlacedLexeme → Outcome (Decl × List ColumnConstraint)
  behind timing rest = others rest >>= λ constraints last. Read (timing, constraints) last

  -- constraints behind a timing, where NOT VALID may not stand
  abbrev with_others : Outcome Decl → Outcome (Decl × List ColumnConstraint)
  with_others timing =
      timing >>= λ decl rest. stop_or (valid rest) rest (others rest >>= λ x last. Read x last) >>= λ constraints last. Read (decl, constraints) last

  abbrev ended : Outcome Decl → Outcome Decl
  ended timing = timing >>= λ decl rest. stop_or (valid rest) rest (Read (tt {0}) rest) >>= λ x last. Read decl last

  timed_at :
      (fault : Option SqlFault) (timing : Decl) (rest : List PlacedLexeme)
      → (stop_or fault rest (others rest >>= λ x last. Read x last) >>= λ constraints last. Read (timing, constraints) last)
      ≡ (stop_or fault rest (Read (tt {0}) rest) >>= (λ x last. Read timing last) >>= behind)
  timed_at None timing rest = ap (λ (o : Others). o >>= λ constraints last. Read (timing, constraints) last) (handed_on (others rest))
  timed_at (Some fault) timing rest = refl

  timed : (timing : Outcome Decl) → with_others timing ≡ (ended timing >>= behind)
  timed (Read timing rest) = timed_at (valid rest) timing rest
  timed (Stop reason rest) = refl

  at_once : Others → Outcome (Decl × List ColumnConstraint)
  at_once found = found >>= λ constraints last. Read (immediate, constraints) last

  -- behind NOT, which begins NOT NULL or NOT DEFERRABLE
  behind_not :
      (is_null : Bool) (tokens : List PlacedLexeme) (null : Others) (timing : Outcome Decl) → others tokens ≡ (null >>= λ x last. Read x last)
      → ((if is_null then (null >>= λ constraints last. Read (immediate, constraints) last) else with_others timing) >>= λ x last. Read x last)
      ≡ ((if is_null then Read immediate tokens else ended (timing >>= λ x last. Read x last)) >>= behind)
  behind_not true tokens null timing same =
      handed_on (null >>= λ constraints last. Read (immediate, constraints) last)
      ∙ ap (λ (o : Others). o >>= λ constraints last. Read (immediate, constraints) last) (sym (same ∙ handed_on null))
  behind_not false tokens null timing same =
      handed_on (with_others timing) ∙ (timed timing ∙ ap (λ (o : Outcome Decl). ended o >>= behind) (sym (handed_on timing)))

  -- behind a reference, by what the first token is
  end_at :
      (is_not waits goes_on : Bool) (tokens rest : List PlacedLexeme) (is_null : List PlacedLexeme → Bool) (null : List PlacedLexeme → Others)
      (timing : List PlacedLexeme → Outcome Decl) (waiting : Outcome Decl) (more : Others) (b : Bool)
      → b ≡ is_null rest
      → others tokens
      ≡ (if is_not || goes_on
      then (if is_not || false
      then ((if is_not then Read (tt {0}) rest else Stop Syntax tokens) >>= λ x last. null last >>= λ y end. Read y end)
      else more)
      else Read [] tokens)
      → (if is_not || false
      then ((if is_not then Read (tt {0}) rest else Stop Syntax tokens)
      >>= λ x last. (if is_null last then (null last >>= λ constraints end. Read (immediate, constraints) end) else with_others (timing last)) >>= λ y end. Read y end)
      else if waits then with_others waiting
      else ((if goes_on then more else Read [] tokens) >>= λ constraints last. Read (immediate, constraints) last))
      ≡ ((if is_not && b then Read immediate tokens
      else if is_not || waits
      then ended
      (if is_not || false
      then ((if is_not then Read (tt {0}) rest else Stop Syntax tokens) >>= λ x last. timing last >>= λ y end. Read y end)
      else waiting)
      else Read immediate tokens)
      >>= behind)
  end_at true waits goes_on tokens rest is_null null timing waiting more b e same =
      behind_not (is_null rest) tokens (null rest) (timing rest) same
      ∙ ap (λ (c : Bool). (if c then Read immediate tokens else ended (timing rest >>= λ x last. Read x last)) >>= behind) (sym e)
  end_at false true goes_on tokens rest is_null null timing waiting more b e same = timed waiting
  end_at false false goes_on tokens rest is_null null timing waiting more b e same =
      ap (λ (o : Others). o >>= λ constraints last. Read (immediate, constraints) last) (sym same)

free_of : (has_default : Bool) (tokens : List PlacedLexeme) (found : Others) → refused (not_valid ∷ other_constraints) tokens ≡ None
    → stop_or (refused other_constraints tokens) tokens found ≡ found
free_of has_default tokens found free =
    ap (λ (o : Option SqlFault). stop_or o tokens found)
    (none_else (begin_with not_valid.words tokens) not_valid.fault (refused other_constraints tokens) free)

-- what comes behind a reference is its timing, and then constraints
end_is : (has_default : Bool) (tokens : List PlacedLexeme)
    → reads_called (ReferenceEnd has_default) tokens ≡ (read_column_timing tokens >>= behind (others_of has_default) (λ rest. refused (not_valid ∷ []) rest))
unfolding rules t.reference_end t.other_column_constraints t.perhaps_timing t.given_timing read_column_timing
end_is has_default [] =
    is_read_so (ReferenceEnd has_default) [] ∙ ap (λ (o : Others). o >>= λ constraints last. Read (immediate, constraints) last) (sym (column_is has_default []))
end_is has_default (token ∷ rest) =
    let others = others_of has_default in
    let valid : List PlacedLexeme → Option SqlFault = λ last. refused (not_valid ∷ []) last in
    is_read_so (ReferenceEnd has_default) (token ∷ rest)
    ∙ unless_then (refused (not_valid ∷ other_constraints) (token ∷ rest)) (token ∷ rest) _ _ (behind others valid)
    (λ free.
    end_at others valid (fits (Keyword (codes "not")) token) (is_of (Keyword (codes "deferrable") ∷ Keyword (codes "initially") ∷ []) token)
    (is_of (other_begins has_default) token) (token ∷ rest) rest (λ last. begins (Keyword (codes "null") ∷ []) last) (λ last. reads (t.not_null has_default) last)
    (λ last. reads (word (codes "deferrable") ▸ t.behind_not_deferrable) last) (reads t.deferring (token ∷ rest)) (reads (t.others_then has_default) (token ∷ rest))
    (begin_with (Keyword (codes "null") ∷ []) rest) (sym (one_kind (Keyword (codes "null")) rest))
    (column_is has_default (token ∷ rest) ∙ free_of has_default (token ∷ rest) _ free))

-- ---- one constraint and those behind it

-- the constraints behind one, with it before them
abbrev then_one : Bool → ColumnConstraint → List PlacedLexeme → Others
then_one has_default constraint rest = then_others has_default (Some constraint) rest

abbrev handed : {A : Type 0} → A → List PlacedLexeme → Outcome A
handed x rest = Read x rest

-- a constraint that waits for its name gets it
abbrev at : Option Bytes → (Option Bytes → List ColumnConstraint) → List PlacedLexeme → Others
at name named rest = Read (named name) rest

module _ (has_default : Bool) (name : Option Bytes) where
  -- the constraints behind a reference, with it before them
  abbrev from_target : Target → Decl × List ColumnConstraint → List PlacedLexeme → Others
  from_target target found rest = Read (references_then name target found) rest

  paired : (target : Target) (timing : Decl) (found : Others)
      → (found >>= (λ constraints last. Read (timing, constraints) last) >>= from_target target)
      ≡ (found >>= λ constraints last. Read (References name (reference_of target timing) ∷ constraints) last)
  paired to timing (Read constraints rest) = refl
  paired to timing (Stop reason rest) = refl

  by_timing : (target : Target) (timing : Outcome Decl)
      → (timing >>= (λ decl rest. others_of has_default rest >>= λ constraints last. Read (decl, constraints) last) >>= from_target target)
      ≡ (timing >>= (λ decl last. Read (reference_of target decl) last) >>= (λ reference last. Read (References name reference) last) >>= then_one has_default)
  by_timing to (Read timing rest) = paired to timing (others_of has_default rest)
  by_timing to (Stop reason rest) = refl

  by_target : (target : Outcome Target)
      → (target
      >>= (λ found rest.
      reads_called (ReferenceEnd has_default) rest >>= (λ x last. Read x last) >>= λ others last. Read (λ (named : Option Bytes). references_then named found others) last)
      >>= at name)
      ≡ (target >>= (λ found rest. read_column_timing rest >>= λ timing last. Read (reference_of found timing) last)
      >>= (λ reference last. Read (References name reference) last) >>= then_one has_default)
  by_target (Read target rest) =
      mapped_both (reads_called (ReferenceEnd has_default) rest) (λ others (named : Option Bytes). references_then named target others) (at name) (from_target target)
      (λ x last. refl)
      ∙ (ap (λ (o : Outcome (Decl × List ColumnConstraint)). o >>= from_target target) (end_is has_default rest) ∙ by_timing target (read_column_timing rest))
  by_target (Stop reason rest) = refl

  -- a key, behind which constraints may stand
  key_is : (key : Option Bytes → ColumnConstraint) (tokens : List PlacedLexeme) → has_default_with has_default (key name) ≡ has_default
      → (reads (Unless behind_key (mapped (λ others (named : Option Bytes). key named ∷ others) (constraints has_default))) tokens >>= at name)
      ≡ (reads (Unless behind_key (Done (key name))) tokens >>= then_one has_default)
  key_is key tokens no_default =
      unless_both (refused behind_key tokens) tokens (reads (mapped (λ others (named : Option Bytes). key named ∷ others) (constraints has_default)) tokens) (Read (key name) tokens) (at name)
      (then_one has_default)
      (λ free.
      mapped_both (others_of has_default tokens) (λ others (named : Option Bytes). key named ∷ others) (at name) (λ others last. Read (key name ∷ others) last) (λ x last. refl)
      ∙ ap (λ (b : Bool). others_of b tokens >>= λ others last. Read (key name ∷ others) last) (sym no_default))

named_is : (has_default : Bool) (name : Option Bytes) (tokens : List PlacedLexeme)
    → (reads (named_constraint has_default) tokens >>= at name) ≡ (read_named name tokens >>= then_one has_default)
unfolding t.named_constraint read_named read_column_reference
named_is has_default name tokens =
    either_both (begins (Keyword (codes "primary") ∷ []) tokens) _ _ _ _ (at name) (then_one has_default)
    (then_both (reads (word (codes "primary")) tokens) _ _ (at name) (then_one has_default)
    (λ rest. then_both (reads (word (codes "key")) rest) _ _ (at name) (then_one has_default) (λ last. key_is has_default name PrimaryKey last refl)))
    (either_both (begins (Keyword (codes "unique") ∷ []) tokens) _ _ _ _ (at name) (then_one has_default)
    (then_both (reads (word (codes "unique")) tokens) _ _ (at name) (then_one has_default) (λ rest. key_is has_default name Unique rest refl))
    (by_target has_default name (reads target tokens)))

-- a constraint with a name or without one
named_or_not : (has_default : Bool) (tokens : List PlacedLexeme)
    → (reads
    (Either (Keyword (codes "constraint") ∷ [])
    (Both (λ text (named : Option Bytes → List ColumnConstraint). named (Some text)) constraint_name (Unless other_constraints (named_constraint has_default)))
    (mapped (λ (named : Option Bytes → List ColumnConstraint). named None) (named_constraint has_default))) tokens
    >>= handed)
    ≡ (read_either (Keyword (codes "constraint") ∷ []) read_with_name (read_named None) tokens >>= then_one has_default)
unfolding read_with_name
named_or_not has_default tokens =
    either_both (begins (Keyword (codes "constraint") ∷ []) tokens) _ _ _ _ handed (then_one has_default)
    (bind_both (reads constraint_name tokens) _ _ handed (then_one has_default)
    (λ text rest.
    handed_on _
    ∙ unless_both (refused other_constraints rest) rest (reads (named_constraint has_default) rest) (read_named (Some text) rest) (at (Some text)) (then_one has_default)
    (λ free. named_is has_default (Some text) rest)))
    (handed_on _ ∙ named_is has_default None tokens)

default_is : (tokens : List PlacedLexeme)
    → (reads (word (codes "default") ▸ Both (λ value others. Default value ∷ others) constant (constraints true)) tokens >>= handed)
    ≡ (reads with_default tokens >>= then_one false)
default_is tokens =
    then_both (reads (word (codes "default")) tokens) _ _ handed (then_one false)
    (λ rest.
    bind_both (reads constant rest) _ _ handed (then_one false)
    (λ value last. mapped_both (others_of true last) (λ others. Default value ∷ others) handed (λ others end. Read (Default value ∷ others) end) (λ x end. refl)))

others_are : (has_default : Bool) (tokens : List PlacedLexeme)
    → (reads (t.others_then has_default) tokens >>= handed)
    ≡ (read_default_or has_default (read_either (Keyword (codes "constraint") ∷ []) read_with_name (read_named None)) tokens >>= then_one has_default)
unfolding t.others_then
others_are true tokens = named_or_not true tokens
others_are false tokens =
    either_both (begins (Keyword (codes "default") ∷ []) tokens) _ _ _ _ handed (then_one false) (default_is tokens) (named_or_not false tokens)

null_is : (has_default : Bool) (tokens : List PlacedLexeme)
    → (reads (word (codes "not") ▸ t.not_null has_default) tokens >>= handed) ≡ (reads not_null tokens >>= then_one has_default)
unfolding t.not_null
null_is has_default tokens =
    then_both (reads (word (codes "not")) tokens) _ _ handed (then_one has_default)
    (λ rest.
    then_both (reads (word (codes "null")) rest) _ (λ last. Read NotNull last) handed (then_one has_default)
    (λ last. mapped_both (others_of has_default last) (λ others. NotNull ∷ others) handed (λ others end. Read (NotNull ∷ others) end) (λ x end. refl)))

constraint_is : (has_default : Bool) (tokens : List PlacedLexeme)
    → reads (Either (Keyword (codes "not") ∷ []) (word (codes "not") ▸ t.not_null has_default) (t.others_then has_default)) tokens
    ≡ (read_constraint has_default tokens >>= then_one has_default)
unfolding read_constraint
constraint_is has_default tokens =
    sym (handed_on _)
    ∙ either_both (begins (Keyword (codes "not") ∷ []) tokens) _ _ _ _ handed (then_one has_default) (null_is has_default tokens) (others_are has_default tokens)

some_is : (has_default : Bool) (found : Outcome ColumnConstraint)
    → (found >>= then_one has_default) ≡ (found >>= (λ constraint rest. Read (Some constraint) rest) >>= then_others has_default)
some_is has_default (Read constraint rest) = refl
some_is has_default (Stop reason rest) = refl

perhaps_is :
    (has_default begun : Bool) (tokens : List PlacedLexeme) (all : Others) (found : Outcome ColumnConstraint) → all ≡ (found >>= then_one has_default)
    → (if begun then all else Read [] tokens)
    ≡ ((if begun then (found >>= λ constraint rest. Read (Some constraint) rest) else Read None tokens) >>= then_others has_default)
perhaps_is has_default true tokens all found same = same ∙ some_is has_default found
perhaps_is has_default false tokens all found same = refl

-- constraints are the next one, and those behind it
pub next_is : (has_default : Bool) (tokens : List PlacedLexeme)
    → reads_called (ColumnConstraints has_default) tokens ≡ (read_next has_default tokens >>= then_others has_default)
unfolding read_next
next_is has_default tokens =
    column_is has_default tokens
    ∙ unless_then (refused other_constraints tokens) tokens _ _ (then_others has_default)
    (λ free. perhaps_is has_default (begins (constraint_begins has_default) tokens) tokens _ (read_constraint has_default tokens) (constraint_is has_default tokens))

-- ---- the loop

-- the constraints so far, and those that are still read
abbrev with_front : List ColumnConstraint → Others → Others
with_front before found = found >>= λ others rest. Read (before ++ others) rest

-- so many constraints are read, behind which others may stand
pub record IsReadSoFar (has_default : Bool) (before : List ColumnConstraint) (tokens : List PlacedLexeme) (total : Others) : Type 0 where
  pub same : with_front before (others_of has_default tokens) ≡ total

with_one : (before : List ColumnConstraint) (constraint : ColumnConstraint) (found : Others)
    → with_front before (found >>= λ others last. Read (constraint ∷ others) last) ≡ with_front (before ++ constraint ∷ []) found
with_one before constraint (Read others rest) = ap (λ (all : List ColumnConstraint). Read all rest) (sym (append_assoc before (constraint ∷ []) others))
with_one before constraint (Stop reason rest) = refl

pub so_far_more :
    (has_default : Bool) (before : List ColumnConstraint) (tokens rest : List PlacedLexeme) (constraint : ColumnConstraint) (total : Others)
    → IsReadSoFar has_default before tokens total → read_next has_default tokens ≡ Read (Some constraint) rest
    → IsReadSoFar (has_default_with has_default constraint) (before ++ constraint ∷ []) rest total
so_far_more has_default before tokens rest constraint total so_far read = record {
  same =
      sym (with_one before constraint (others_of (has_default_with has_default constraint) rest))
      ∙ (ap (λ (found : Outcome (Option ColumnConstraint)). with_front before (found >>= then_others has_default)) (sym read)
      ∙ (ap (λ (found : Others). with_front before found) (sym (next_is has_default tokens)) ∙ so_far.same));
}

pub so_far_all :
    (has_default : Bool) (before : List ColumnConstraint) (tokens rest : List PlacedLexeme) (total : Others)
    → IsReadSoFar has_default before tokens total → read_next has_default tokens ≡ Read None rest → total ≡ Read before rest
so_far_all has_default before tokens rest total so_far read =
    sym so_far.same
    ∙ (ap (λ (found : Others). with_front before found)
    (next_is has_default tokens ∙ ap (λ (found : Outcome (Option ColumnConstraint)). found >>= then_others has_default) read)
    ∙ ap (λ (all : List ColumnConstraint). Read all rest) (append-nil before))

pub so_far_fails :
    (fault : ReadFault) (has_default : Bool) (before : List ColumnConstraint) (tokens : List PlacedLexeme) (total : Others)
    → IsReadSoFar has_default before tokens total → Fails fault (read_next has_default tokens) → Fails fault total
so_far_fails fault has_default before tokens total so_far fails =
    fails_as fault _ total so_far.same
    (fails_on fault (others_of has_default tokens) _
    (fails_as fault _ (others_of has_default tokens) (sym (next_is has_default tokens)) (fails_on fault (read_next has_default tokens) (then_others has_default) fails)))
