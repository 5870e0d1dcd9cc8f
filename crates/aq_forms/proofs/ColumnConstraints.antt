-- The constraints of a column, as they are printed, are read as the same.
use Rattle.std.proofs.Common.{◌≡◌, ℕ, zero, suc, true, false, Bool, List, [], ◌∷◌, ◌++◌, Option, Some, None, inl, inr, refl, sym, subst, codes, flat_map}
use Rattle.std.proofs.lemmas.List.{append_assoc}
use Rattle.aq_base.specs.Names.{Text as Bytes}
use Rattle.aq_base.specs.declared.value.Value.{Value}
use Rattle.aq_base.specs.declared.catalog.Decl.{Decl}
use Rattle.aq_base.specs.declared.constraint.Reference.{Reference}
use Rattle.aq_base.specs.declared.constraint.ColumnConstraint.{ColumnConstraint}
use Rattle.aq_base.specs.declared.constraint.ColumnConstraint.TheVariants.{NotNull, Default, PrimaryKey, Unique, References}
use Rattle.aq_grammar.specs.Terminals.{Keyword}
use Rattle.aq_grammar.specs.Rules.{Nonterminal, ValueOf, Rule, Both, Either, Call, Unless, ColumnConstraints, ReferenceEnd}
use Rattle.aq_grammar.specs.Forms.{word, ◌▸◌, mapped}
use Rattle.aq_grammar.specs.Nonterminals.{rules}
use Rattle.aq_grammar.specs.Tables.{constraint_name, immediate, with_timing, references_then, behind_key, not_valid, other_constraints, constraints, not_null, named_constraint, others_then, column_constraints, other_column_constraints, behind_timing, deferring, behind_not_deferrable, reference_end, decl}
use Rattle.aq_texts.specs.Written.{Written, Said, Name}
use Rattle.aq_texts.specs.Canon.{timing, column_constraint, constraint_name as constraint_name_tokens, reference as reference_tokens}
use Rattle.aq_forms.proofs.Reading.{called_free}
use Rattle.aq_forms.proofs.Derived.{Trees, DerivesBy, DerivesWithin, DerivesSome}
use Rattle.aq_forms.proofs.Combining.{Anything, MayFollow, Nothing_refused}
use Rattle.aq_forms.proofs.Composing.{Rest, Prints, Symbol_next, before_symbol, nothing_prints, word_then, both_print, both_print_any, mapped_prints, left_prints, right_prints, unless_prints, prints_as}
use Rattle.aq_forms.proofs.Validity.{both_valid, then_valid, first_valid}
use Rattle.aq_forms.proofs.Timing.{IsTiming, not_deferrable_is, deferring_is, deferring_prints}
use Rattle.aq_forms.proofs.Constraints.{IsConstant, constant_valid, constant_prints, IsReference, PerhapsNamed, target_valid, target_part, target_tokens, target_prints, Behind_target, no_list, constraint_name_valid, constraint_name_prints}

-- ---- what the rules give

-- constraints behind a DEFAULT or behind none, of which one at the most is another
abbrev pub AreConstraints : List ColumnConstraint → Bool → Type 0
AreConstraints [] has_default = Unit {0}
AreConstraints (NotNull ∷ others) has_default = AreConstraints others has_default
AreConstraints (Default value ∷ others) has_default = (has_default ≡ false) × IsConstant value × AreConstraints others true
AreConstraints (PrimaryKey name ∷ others) has_default = PerhapsNamed name × AreConstraints others has_default
AreConstraints (Unique name ∷ others) has_default = PerhapsNamed name × AreConstraints others has_default
AreConstraints (References name reference ∷ others) has_default = PerhapsNamed name × IsReference reference × AreConstraints others has_default

abbrev pub Constrained : Bool → List ColumnConstraint → Type 0
Constrained has_default found = AreConstraints found has_default

-- what comes behind REFERENCES
abbrev pub EndsReference : Bool → Decl × List ColumnConstraint → Type 0
EndsReference has_default found = IsTiming found.0 × AreConstraints found.1 has_default

-- constraints of which the first is without its name
abbrev pub NamedConstrained : Bool → (Option Bytes → List ColumnConstraint) → Type 0
NamedConstrained has_default named = (name : Option Bytes) → PerhapsNamed name → AreConstraints (named name) has_default

-- a constraint with a name or without one, and those behind it
abbrev pub perhaps_named : Bool → Rule (List ColumnConstraint)
perhaps_named has_default =
    Either (Keyword (codes "constraint") ∷ []) (Both (λ text named. named (Some text)) constraint_name (Unless other_constraints (named_constraint has_default)))
    (mapped (λ named. named None) (named_constraint has_default))

-- by calls that give such constraints
module _ (calls : (n : Nonterminal) → Trees (ValueOf n)) (called : (d : Bool) (found : List ColumnConstraint) → calls (ColumnConstraints d) found → AreConstraints found d)
    (ended : (d : Bool) (found : Decl × List ColumnConstraint) → calls (ReferenceEnd d) found → EndsReference d found) where
  called_valid : (d : Bool) (found : List ColumnConstraint) → DerivesBy calls (constraints d) found → AreConstraints found d
  called_valid d found (others, derived, e) = rw e (called d others derived)

  ended_valid : (d : Bool) (found : Decl × List ColumnConstraint) → DerivesBy calls (Call (ReferenceEnd d) (λ others. others)) found → EndsReference d found
  ended_valid d found (others, derived, e) = subst (EndsReference d) (sym e) (ended d others derived)

  not_null_valid : (d : Bool) (found : List ColumnConstraint) → DerivesBy calls (not_null d) found → AreConstraints found d
  unfolding not_null
  not_null_valid d found derived = then_valid (Constrained d) (λ a b e. first_valid (Constrained d) (λ others c. called_valid d others c) e) derived

  named_valid : (d : Bool) (named : Option Bytes → List ColumnConstraint) → DerivesBy calls (named_constraint d) named → NamedConstrained d named
  unfolding named_constraint
  named_valid d named (inl derived) =
      then_valid (NamedConstrained d)
      (λ a b e. then_valid (NamedConstrained d) (λ a b e. first_valid (NamedConstrained d) (λ others c name own. (own, called_valid d others c)) e) e) derived
  named_valid d named (inr (inl derived)) =
      then_valid (NamedConstrained d) (λ a b e. first_valid (NamedConstrained d) (λ others c name own. (own, called_valid d others c)) e) derived
  named_valid d named (inr (inr derived)) =
      both_valid (NamedConstrained d)
      (λ aimed others e c name own.
      let targeted = target_valid calls aimed e in let rest = ended_valid d others c in (own, (targeted.0, targeted.1, targeted.2, rest.0), rest.1)) derived

  perhaps_named_valid : (d : Bool) (found : List ColumnConstraint) → DerivesBy calls (perhaps_named d) found → AreConstraints found d
  perhaps_named_valid d found (inl derived) =
      both_valid (Constrained d) (λ text named own e. named_valid d named e (Some text) (constraint_name_valid calls text own)) derived
  perhaps_named_valid d found (inr derived) = first_valid (Constrained d) (λ named e. named_valid d named e None tt) derived

  others_valid : (d : Bool) (found : List ColumnConstraint) → DerivesBy calls (others_then d) found → AreConstraints found d
  unfolding others_then
  others_valid true found derived = perhaps_named_valid true found derived
  others_valid false found (inl derived) =
      then_valid (Constrained false)
      (λ a b e. both_valid (Constrained false) (λ value others v c. (refl, constant_valid calls value v, called_valid true others c)) e) derived
  others_valid false found (inr derived) = perhaps_named_valid false found derived

  column_valid : (d : Bool) (found : List ColumnConstraint) → DerivesBy calls (column_constraints d) found → AreConstraints found d
  unfolding column_constraints
  column_valid d found (inl (inl derived)) = then_valid (Constrained d) (λ a others e. not_null_valid d others e) derived
  column_valid d found (inl (inr derived)) = others_valid d found derived
  column_valid d found (inr e) = rw e tt

  other_column_valid : (d : Bool) (found : List ColumnConstraint) → DerivesBy calls (other_column_constraints d) found → AreConstraints found d
  unfolding other_column_constraints
  other_column_valid d found (inl derived) = others_valid d found derived
  other_column_valid d found (inr e) = rw e tt

  behind_valid : (d : Bool) (rule : Rule Decl) (found : Decl × List ColumnConstraint) → ((t : Decl) → DerivesBy calls rule t → IsTiming t)
      → DerivesBy calls (behind_timing rule d) found → EndsReference d found
  behind_valid d rule found timed derived = both_valid (EndsReference d) (λ t others e c. (timed t e, called_valid d others c)) derived

  end_valid : (d : Bool) (found : Decl × List ColumnConstraint) → DerivesBy calls (reference_end d) found → EndsReference d found
  unfolding reference_end
  end_valid d found (inl derived) = then_valid (EndsReference d) not_then derived
    where
      not_then :
          (a : Unit {0}) (found : Decl × List ColumnConstraint)
          → DerivesBy calls (Either (Keyword (codes "null") ∷ []) (mapped (with_timing immediate) (not_null d))
          (behind_timing (word (codes "deferrable") ▸ behind_not_deferrable) d)) found → EndsReference d found
      not_then a found (inl derived) = first_valid (EndsReference d) (λ others e. (inl refl, not_null_valid d others e)) derived
      not_then a found (inr derived) = behind_valid d (word (codes "deferrable") ▸ behind_not_deferrable) found (not_deferrable_is calls) derived
  end_valid d found (inr (inl derived)) = behind_valid d deferring found (deferring_is calls) derived
  end_valid d found (inr (inr derived)) = first_valid (EndsReference d) (λ others e. (inl refl, other_column_valid d others e)) derived

within_valid :
    (most : ℕ) → ((d : Bool) (found : List ColumnConstraint) → DerivesWithin most (ColumnConstraints d) found → AreConstraints found d)
    × ((d : Bool) (found : Decl × List ColumnConstraint) → DerivesWithin most (ReferenceEnd d) found → EndsReference d found)
unfolding rules
within_valid zero = (λ d found derived. absurd derived, λ d found derived. absurd derived)
within_valid (suc most) =
    let both = within_valid most in
    (λ d found derived. column_valid (DerivesWithin most) both.0 both.1 d found derived, λ d found derived. end_valid (DerivesWithin most) both.0 both.1 d found derived)

-- constraints of a column, by the rule
pub constraints_valid : (d : Bool) (found : List ColumnConstraint) → DerivesBy DerivesSome (constraints d) found → AreConstraints found d
constraints_valid d found (others, (most, derived), e) = rw e ((within_valid most).0 d others derived)

-- ---- how they are printed

abbrev pub all_tokens : List ColumnConstraint → List Written
all_tokens found = flat_map column_constraint found

-- none of the words that are refused where a constraint may begin
abbrev pub Begins_well : Rest
Begins_well rest =
    Nothing_refused other_constraints rest × Nothing_refused behind_key rest × Nothing_refused (not_valid ∷ []) rest
    × Nothing_refused (not_valid ∷ other_constraints) rest × Behind_target rest

begin_well : (found : List ColumnConstraint) → MayFollow (all_tokens found) Symbol_next Begins_well
begin_well [] lines at rest next = before_symbol Begins_well (λ line symbol others apart. (refl, refl, refl, refl, (refl, no_list symbol apart line others))) rest next
begin_well (NotNull ∷ others) lines at rest next = (refl, refl, refl, refl, (refl, refl))
begin_well (Default value ∷ others) lines at rest next = (refl, refl, refl, refl, (refl, refl))
begin_well (PrimaryKey None ∷ others) lines at rest next = (refl, refl, refl, refl, (refl, refl))
begin_well (PrimaryKey (Some name) ∷ others) lines at rest next = (refl, refl, refl, refl, (refl, refl))
begin_well (Unique None ∷ others) lines at rest next = (refl, refl, refl, refl, (refl, refl))
begin_well (Unique (Some name) ∷ others) lines at rest next = (refl, refl, refl, refl, (refl, refl))
begin_well (References None reference ∷ others) lines at rest next = (refl, refl, refl, refl, (refl, refl))
begin_well (References (Some name) reference ∷ others) lines at rest next = (refl, refl, refl, refl, (refl, refl))

end_begins : (t : Decl) → IsTiming t → (found : List ColumnConstraint) → MayFollow (timing t ++ all_tokens found) Symbol_next Behind_target
end_begins t (inl e) found lines at rest next = rw e (begin_well found lines at rest next).4
end_begins t (inr (inl e)) found lines at rest next = rw e (refl, refl)
end_begins t (inr (inr e)) found lines at rest next = rw e (refl, refl)

-- the tokens of a reference and those behind it: its target, and what comes behind that
reference_and : (r : Reference) (ws : List Written) → reference_tokens r ++ ws ≡ target_tokens (target_part r) ++ (timing r.timing ++ ws)
reference_and r ws = simp append_assoc

-- constraints of a column, and the same behind REFERENCES
abbrev pub ArePrinted : Bool → List ColumnConstraint → Type 0
ArePrinted d found =
    Prints (column_constraints d) found (all_tokens found) Symbol_next
    × ((t : Decl) → IsTiming t → Prints (reference_end d) (t, found) (timing t ++ all_tokens found) Symbol_next)

call_alone : (d : Bool) (found : List ColumnConstraint) → Prints (column_constraints d) found (all_tokens found) Symbol_next
    → Prints (constraints d) found (all_tokens found) Symbol_next
unfolding rules
call_alone d found alone = record { free = called_free (ColumnConstraints d) (λ others. others) found (all_tokens found) Symbol_next alone.free }

call_prints : (d : Bool) (found : List ColumnConstraint) → ArePrinted d found → Prints (constraints d) found (all_tokens found) Symbol_next
call_prints d found printed = call_alone d found printed.0

call_ends : (d : Bool) (t : Decl) (found : List ColumnConstraint) → IsTiming t → ArePrinted d found
    → Prints (Call (ReferenceEnd d) (λ others. others)) (t, found) (timing t ++ all_tokens found) Symbol_next
unfolding rules
call_ends d t found timed printed =
    record { free = called_free (ReferenceEnd d) (λ others. others) (t, found) (timing t ++ all_tokens found) Symbol_next (printed.1 t timed).free }

not_null_prints : (d : Bool) (others : List ColumnConstraint) → ArePrinted d others
    → Prints (not_null d) (NotNull ∷ others) (Said (codes "NULL") ∷ all_tokens others) Symbol_next
unfolding not_null
not_null_prints d others printed = word_then refl (mapped_prints {f = λ others. NotNull ∷ others} (call_prints d others printed))

primary_prints : (d : Bool) (others : List ColumnConstraint) → ArePrinted d others
    → Prints (named_constraint d) (λ name. PrimaryKey name ∷ others) (Said (codes "PRIMARY") ∷ Said (codes "KEY") ∷ all_tokens others) Symbol_next
unfolding named_constraint
primary_prints d others printed =
    left_prints (word_then refl (word_then refl
    (unless_prints (mapped_prints {f = λ others name. PrimaryKey name ∷ others} (call_prints d others printed)) (λ lines at rest next. (begin_well others lines at rest next).1))))

unique_prints : (d : Bool) (others : List ColumnConstraint) → ArePrinted d others
    → Prints (named_constraint d) (λ name. Unique name ∷ others) (Said (codes "UNIQUE") ∷ all_tokens others) Symbol_next
unfolding named_constraint
unique_prints d others printed =
    right_prints (left_prints (word_then refl
    (unless_prints (mapped_prints {f = λ others name. Unique name ∷ others} (call_prints d others printed)) (λ lines at rest next. (begin_well others lines at rest next).1))))

references_print : (d : Bool) (r : Reference) (others : List ColumnConstraint) → IsReference r → ArePrinted d others
    → Prints (named_constraint d) (λ name. References name r ∷ others) (reference_tokens r ++ all_tokens others) Symbol_next
unfolding named_constraint
references_print d r others valid printed =
    right_prints (right_prints
    (prints_as
    (both_print {f = λ target others name. references_then name target others} (target_prints (target_part r) (valid.0, valid.1, valid.2)) (call_ends d r.timing others valid.3 printed)
    (end_begins r.timing valid.3 others)) (reference_and r (all_tokens others))))

-- with its name, if it has one
named_prints :
    (d : Bool) (named : Option Bytes → List ColumnConstraint) (ws : List Written) → Prints (named_constraint d) named ws Symbol_next
    → MayFollow ws Symbol_next (Nothing_refused other_constraints) → (name : Option Bytes) → PerhapsNamed name
    → Prints (perhaps_named d) (named name) (constraint_name_tokens name ++ ws) Symbol_next
named_prints d named ws bare none None own = right_prints (mapped_prints {f = λ named. named None} bare)
named_prints d named ws bare none (Some text) own =
    left_prints
    (both_print_any {f = λ text named. named (Some text)} {ws = Said (codes "CONSTRAINT") ∷ Name text ∷ []} (constraint_name_prints text Anything own) (unless_prints bare none))

no_default : (d : Bool) (found : List ColumnConstraint) (ws : List Written) → Prints (perhaps_named d) found ws Symbol_next → Prints (others_then d) found ws Symbol_next
unfolding others_then
no_default true found ws prints = prints
no_default false found ws prints = right_prints prints

default_prints : (value : Value) (others : List ColumnConstraint) → IsConstant value → ArePrinted true others
    → Prints (others_then false) (Default value ∷ others) (all_tokens (Default value ∷ others)) Symbol_next
unfolding others_then
default_prints value others valid printed =
    left_prints (word_then refl (both_print_any {f = λ value others. Default value ∷ others} (constant_prints value Anything valid) (call_prints true others printed)))

deferred_end : (d deferred : Bool) (found : List ColumnConstraint) → Prints (constraints d) found (all_tokens found) Symbol_next
    → Prints (reference_end d) (decl true deferred, found) (timing (decl true deferred) ++ all_tokens found) Symbol_next
unfolding reference_end
deferred_end d deferred found printed =
    unless_prints
    (right_prints (left_prints
    (both_print_any {f = with_timing} (deferring_prints deferred Anything) (unless_prints printed (λ lines at rest next. (begin_well found lines at rest next).2)))))
    (λ lines at rest next. refl)

-- what comes behind REFERENCES, where the constraints are printed by themselves and there with no timing
ends : (d : Bool) (found : List ColumnConstraint) → Prints (column_constraints d) found (all_tokens found) Symbol_next
    → Prints (reference_end d) (immediate, found) (all_tokens found) Symbol_next → ArePrinted d found
ends d found alone at_once = (alone, by_timing)
  where
    deferrable_end : (deferred : Bool) → Prints (reference_end d) (decl true deferred, found) (timing (decl true deferred) ++ all_tokens found) Symbol_next
    deferrable_end deferred = deferred_end d deferred found (call_alone d found alone)

    by_timing : (t : Decl) → IsTiming t → Prints (reference_end d) (t, found) (timing t ++ all_tokens found) Symbol_next
    by_timing t (inl e) = rw e at_once
    by_timing t (inr (inl e)) = rw e (deferrable_end false)
    by_timing t (inr (inr e)) = rw e (deferrable_end true)

-- constraints that begin otherwise than with NOT
others_printed : (d : Bool) (found : List ColumnConstraint) → Prints (others_then d) found (all_tokens found) Symbol_next → ArePrinted d found
unfolding column_constraints reference_end other_column_constraints
others_printed d found prints =
    ends d found (unless_prints (left_prints (right_prints prints)) (λ lines at rest next. (begin_well found lines at rest next).0))
    (unless_prints (right_prints (right_prints (mapped_prints {f = with_timing immediate} (left_prints prints)))) (λ lines at rest next. (begin_well found lines at rest next).3))

nothing_printed : (d : Bool) → ArePrinted d []
unfolding column_constraints reference_end other_column_constraints
nothing_printed d =
    ends d [] (unless_prints (right_prints nothing_prints) (λ lines at rest next. (begin_well [] lines at rest next).0))
    (unless_prints (right_prints (right_prints (mapped_prints {f = with_timing immediate} (right_prints nothing_prints)))) (λ lines at rest next. (begin_well [] lines at rest next).3))

not_null_printed : (d : Bool) (others : List ColumnConstraint) → ArePrinted d others → ArePrinted d (NotNull ∷ others)
unfolding column_constraints reference_end
not_null_printed d others printed =
    ends d (NotNull ∷ others) (unless_prints (left_prints (left_prints (word_then refl (not_null_prints d others printed)))) (λ lines at rest next. refl))
    (unless_prints (left_prints (word_then refl (left_prints (mapped_prints {f = with_timing immediate} (not_null_prints d others printed))))) (λ lines at rest next. refl))

all_printed : (found : List ColumnConstraint) (d : Bool) → AreConstraints found d → ArePrinted d found
all_printed [] d valid = nothing_printed d
all_printed (NotNull ∷ others) d valid = not_null_printed d others (all_printed others d valid)
all_printed (Default value ∷ others) d valid =
    rw valid.0 (others_printed false (Default value ∷ others) (default_prints value others valid.1 (all_printed others true valid.2)))
all_printed (PrimaryKey name ∷ others) d valid =
    others_printed d (PrimaryKey name ∷ others)
    (no_default d (PrimaryKey name ∷ others) (all_tokens (PrimaryKey name ∷ others))
    (prints_as
    (named_prints d (λ name. PrimaryKey name ∷ others) (Said (codes "PRIMARY") ∷ Said (codes "KEY") ∷ all_tokens others) (primary_prints d others (all_printed others d valid.1))
    (λ lines at rest next. refl) name valid.0) (append_assoc (constraint_name_tokens name) (Said (codes "PRIMARY") ∷ Said (codes "KEY") ∷ []) (all_tokens others))))
all_printed (Unique name ∷ others) d valid =
    others_printed d (Unique name ∷ others)
    (no_default d (Unique name ∷ others) (all_tokens (Unique name ∷ others))
    (prints_as
    (named_prints d (λ name. Unique name ∷ others) (Said (codes "UNIQUE") ∷ all_tokens others) (unique_prints d others (all_printed others d valid.1))
    (λ lines at rest next. refl) name valid.0) (append_assoc (constraint_name_tokens name) (Said (codes "UNIQUE") ∷ []) (all_tokens others))))
all_printed (References name reference ∷ others) d valid =
    others_printed d (References name reference ∷ others)
    (no_default d (References name reference ∷ others) (all_tokens (References name reference ∷ others))
    (prints_as
    (named_prints d (λ name. References name reference ∷ others) (reference_tokens reference ++ all_tokens others)
    (references_print d reference others valid.1 (all_printed others d valid.2)) (λ lines at rest next. refl) name valid.0)
    (append_assoc (constraint_name_tokens name) (reference_tokens reference) (all_tokens others))))

-- the constraints of a column, as they are printed
pub constraints_print : (d : Bool) (found : List ColumnConstraint) → AreConstraints found d → Prints (constraints d) found (flat_map column_constraint found) Symbol_next
constraints_print d found valid = call_prints d found (all_printed found d valid)
