-- CREATE TRIGGER and CREATE CONSTRAINT TRIGGER are printed as tokens that are read as the same trigger.
use Rattle.std.proofs.Common.{◌≡◌, List, [], ◌∷◌, ◌++◌, Option, Some, inl, inr, refl, sym, ap, ◌∙◌, subst, codes}
use Rattle.aq_base.specs.Names.{Text as Bytes}
use Rattle.aq_base.specs.declared.catalog.Decl.{Decl}
use Rattle.aq_base.specs.declared.expr.Expr.{Expr}
use Rattle.aq_base.specs.declared.statement.Statement.{Statement}
use Rattle.aq_base.specs.declared.trigger.TransitionTable.{TransitionTable}
use Rattle.aq_base.specs.declared.trigger.Each.{Each}
use Rattle.aq_base.specs.declared.trigger.Each.TheVariants as each
use Rattle.aq_lex.specs.declared.token.Symbol.TheVariants.{CloseParen}
use Rattle.aq_lex.specs.Lexemes.{PlacedLexeme}
use Rattle.aq_grammar.specs.declared.scope.Scope.TheVariants.{InCondition}
use Rattle.aq_grammar.specs.Terminals.{Keyword}
use Rattle.aq_grammar.specs.Rules.{Rule, Done, Both, Either}
use Rattle.aq_grammar.specs.Forms.{word, ◌▸◌, ◌◂◌, says, optional, in_parentheses, name, public_name}
use Rattle.aq_grammar.specs.Expressions.{whole_expression}
use Rattle.aq_grammar.specs.Tables.{timing_without}
use Rattle.aq_grammar.specs.Triggers.{no_arguments, Watched, watched, referencing, for_each, fires_for, when_part, executes, Fired, fired, trigger_of, create_trigger, constraint_trigger_of, create_constraint_trigger}
use Rattle.aq_texts.specs.Written.{Written, say, Name, Mark, Call, in_parentheses as in_parentheses_tokens}
use Rattle.aq_texts.specs.Canon as canon
use Rattle.aq_texts.specs.Canon.{perhaps}
use Rattle.aq_forms.proofs.Derived.{DerivesSome, Derives}
use Rattle.aq_forms.proofs.Combining.{IsFree, Anything, says_free, word_free, both_any, then_free, behind_word, before_free, left_free, right_free, some_free, none_free, parentheses_any}
use Rattle.aq_forms.proofs.Names.{IsNamed, name_named, name_free, public_named, public_free}
use Rattle.aq_forms.proofs.Expressions.{expression_free}
use Rattle.aq_forms.proofs.Timing.{timing_free}
use Rattle.aq_forms.proofs.Functions.{IsCreated, no_arguments_free}
use Rattle.aq_forms.proofs.Events.{watched_tokens, watched_free}
use Rattle.aq_forms.proofs.TransitionTables.{referencing_free}

-- ---- FOR EACH and EXECUTE FUNCTION

-- EACH is always printed
for_each_free : {A : Type 0} (a : Rule A) (x : A) (vs : List Written) (Behind : List PlacedLexeme → Type 0) → IsFree a x vs Behind
    → IsFree (for_each a) x (say (codes "FOR") ∷ say (codes "EACH") ∷ vs) Behind
for_each_free a x vs Behind free =
    behind_word (codes "FOR") (codes "for") (optional (Keyword (codes "each") ∷ []) (word (codes "each")) ▸ a) x (say (codes "EACH") ∷ vs) Behind refl refl
    (then_free (optional (Keyword (codes "each") ∷ []) (word (codes "each"))) a (Some tt) x (say (codes "EACH") ∷ []) vs Behind
    (some_free (Keyword (codes "each") ∷ []) (word (codes "each")) tt (say (codes "EACH") ∷ []) Anything (word_free (codes "EACH") (codes "each") Anything refl refl)) free)

-- and so is STATEMENT
fires_for_free : (found : Each) (Behind : List PlacedLexeme → Type 0) → IsFree fires_for found (canon.for_each found) Behind
unfolding fires_for
fires_for_free each.Row Behind =
    left_free (Keyword (codes "for") ∷ [])
    (for_each (Either (Keyword (codes "row") ∷ []) (says (codes "row") each.Row) (says (codes "statement") each.Statement))) (Done each.Statement) each.Row
    (canon.for_each each.Row) Behind
    (for_each_free (Either (Keyword (codes "row") ∷ []) (says (codes "row") each.Row) (says (codes "statement") each.Statement)) each.Row (say (codes "ROW") ∷ []) Behind
    (left_free (Keyword (codes "row") ∷ []) (says (codes "row") each.Row) (says (codes "statement") each.Statement) each.Row (say (codes "ROW") ∷ []) Behind
    (says_free (codes "ROW") (codes "row") each.Row Behind refl refl)))
fires_for_free each.Statement Behind =
    left_free (Keyword (codes "for") ∷ [])
    (for_each (Either (Keyword (codes "row") ∷ []) (says (codes "row") each.Row) (says (codes "statement") each.Statement))) (Done each.Statement) each.Statement
    (canon.for_each each.Statement) Behind
    (for_each_free (Either (Keyword (codes "row") ∷ []) (says (codes "row") each.Row) (says (codes "statement") each.Statement)) each.Statement (say (codes "STATEMENT") ∷ []) Behind
    (right_free (Keyword (codes "row") ∷ []) (says (codes "row") each.Row) (says (codes "statement") each.Statement) each.Statement (say (codes "STATEMENT") ∷ []) Behind
    (says_free (codes "STATEMENT") (codes "statement") each.Statement Behind refl refl)))

executes_free : (function : Bytes) (Behind : List PlacedLexeme → Type 0) → Derives executes function → IsFree executes function (canon.executes function) Behind
unfolding executes
executes_free function Behind (_, _, _, (_, _, _, (own, _, derived, _, c), b), a) =
    let named : IsNamed function = subst IsNamed (sym (a ∙ (b ∙ c))) (public_named DerivesSome own derived) in
    let kind = Either (Keyword (codes "function") ∷ []) (word (codes "function")) (word (codes "procedure")) in
    behind_word (codes "EXECUTE") (codes "execute") (kind ▸ public_name ◂ no_arguments) function (say (codes "FUNCTION") ∷ canon.function function) Behind refl refl
    (then_free kind (public_name ◂ no_arguments) tt function (say (codes "FUNCTION") ∷ []) (canon.function function) Behind
    (left_free (Keyword (codes "function") ∷ []) (word (codes "function")) (word (codes "procedure")) tt (say (codes "FUNCTION") ∷ []) Anything
    (word_free (codes "FUNCTION") (codes "function") Anything refl refl))
    (before_free public_name no_arguments function tt (Name function ∷ []) (Call ∷ Mark CloseParen ∷ []) Anything Behind (public_free function Anything named)
    (no_arguments_free Behind) (λ lines at rest behind. tt)))

abbrev fired_of : Option Expr → Bytes → Fired
fired_of condition function = record { condition = condition; function = function }

abbrev fired_tokens : Fired → List Written
fired_tokens found = canon.when_part found.condition ++ canon.executes found.function

abbrev fires : Rule (Each × Fired)
fires = Both (λ each fired. (each, fired)) fires_for fired

abbrev on_tables : Rule (Option (List TransitionTable) × (Each × Fired))
on_tables = Both (λ transitions others. (transitions, others)) referencing fires

abbrev trigger : Rule (Watched × (Option (List TransitionTable) × (Each × Fired)))
trigger = Both (λ watched others. (watched, others)) watched on_tables

abbrev for_rows : Rule Fired
for_rows = for_each (word (codes "row")) ▸ fired

abbrev timed : Rule (Decl × Fired)
timed = Both (λ timing fired. (timing, fired)) (timing_without []) for_rows

abbrev constraint_trigger : Rule (Watched × (Decl × Fired))
constraint_trigger = Both (λ watched others. (watched, others)) watched timed

abbrev trigger_tokens : Watched → Option (List TransitionTable) → Each → Fired → List Written
trigger_tokens found transitions each action = watched_tokens found ++ (perhaps canon.referencing transitions ++ (canon.for_each each ++ fired_tokens action))

abbrev constraint_tokens : Watched → Decl → Fired → List Written
constraint_tokens found timing action = watched_tokens found ++ (canon.timing timing ++ (canon.for_each each.Row ++ fired_tokens action))

when_free : (condition : Option Expr) (Behind : List PlacedLexeme → Type 0) → Derives when_part condition → IsFree when_part condition (canon.when_part condition) Behind
unfolding when_part
when_free condition Behind (inl (_, _, (_, _, _, (_, _, _, (own, _, derived, _, d), c), b), _, a)) =
    let whole : condition ≡ Some own = a ∙ ap Some (b ∙ (c ∙ d)) in
    subst (λ (condition : Option Expr). IsFree when_part condition (canon.when_part condition) Behind) (sym whole)
    (some_free (Keyword (codes "when") ∷ []) (word (codes "when") ▸ in_parentheses (whole_expression InCondition)) own
    (say (codes "WHEN") ∷ in_parentheses_tokens (canon.expression own)) Behind
    (behind_word (codes "WHEN") (codes "when") (in_parentheses (whole_expression InCondition)) own (in_parentheses_tokens (canon.expression own)) Behind refl refl
    (parentheses_any (whole_expression InCondition) own (canon.expression own) Behind (expression_free InCondition own Anything derived))))
when_free condition Behind (inr e) =
    subst (λ (condition : Option Expr). IsFree when_part condition (canon.when_part condition) Behind) (sym e)
    (none_free (Keyword (codes "when") ∷ []) (word (codes "when") ▸ in_parentheses (whole_expression InCondition)) Behind)

fired_free : (found : Fired) (Behind : List PlacedLexeme → Type 0) → Derives fired found → IsFree fired found (fired_tokens found) Behind
unfolding fired
fired_free found Behind (condition, function, condition_derived, function_derived, e) =
    subst (λ (found : Fired). IsFree fired found (fired_tokens found) Behind) (sym e)
    (both_any fired_of when_part executes condition function (canon.when_part condition) (canon.executes function) Behind (when_free condition Anything condition_derived)
    (executes_free function Behind function_derived))

-- what stands behind the name of a trigger
trigger_free : (found : Watched) (transitions : Option (List TransitionTable)) (each : Each) (action : Fired) (Behind : List PlacedLexeme → Type 0) → Derives watched found
    → Derives referencing transitions → Derives fired action → IsFree trigger (found, (transitions, (each, action))) (trigger_tokens found transitions each action) Behind
trigger_free found transitions each action Behind found_derived transitions_derived action_derived =
    both_any (λ watched others. (watched, others)) watched on_tables found (transitions, (each, action)) (watched_tokens found)
    (perhaps canon.referencing transitions ++ (canon.for_each each ++ fired_tokens action)) Behind (watched_free found Anything found_derived)
    (both_any (λ transitions others. (transitions, others)) referencing fires transitions (each, action) (perhaps canon.referencing transitions)
    (canon.for_each each ++ fired_tokens action) Behind (referencing_free transitions Anything transitions_derived)
    (both_any (λ each fired. (each, fired)) fires_for fired each action (canon.for_each each) (fired_tokens action) Behind (fires_for_free each Anything)
    (fired_free action Behind action_derived)))

pub create_trigger_free : (s : Statement) (Behind : List PlacedLexeme → Type 0) → Derives create_trigger s → IsCreated create_trigger s Behind
unfolding create_trigger
create_trigger_free s Behind
    (_, _, _, (named, parts, name_derived, (found, others, found_derived, (transitions, last, transitions_derived, (each, action, _, action_derived, e), d), c), b), a) =
    let same_others : others ≡ (transitions, (each, action)) = d ∙ ap (λ (last : Each × Fired). (transitions, last)) e in
    let same_parts : parts ≡ (found, (transitions, (each, action))) = c ∙ ap (λ (others : Option (List TransitionTable) × (Each × Fired)). (found, others)) same_others in
    let whole : s ≡ trigger_of named (found, (transitions, (each, action))) = a ∙ (b ∙ ap (trigger_of named) same_parts) in
    let tokens = say (codes "TRIGGER") ∷ Name named ∷ trigger_tokens found transitions each action in
    record {
      tokens = tokens;
      is = ap canon.statement whole;
      free = subst (λ (s : Statement). IsFree create_trigger s tokens Behind) (sym whole)
          (behind_word (codes "TRIGGER") (codes "trigger") (Both trigger_of name trigger) (trigger_of named (found, (transitions, (each, action))))
          (Name named ∷ trigger_tokens found transitions each action) Behind refl refl
          (both_any trigger_of name trigger named (found, (transitions, (each, action))) (Name named ∷ []) (trigger_tokens found transitions each action) Behind
          (name_free named Anything (name_named DerivesSome named name_derived))
          (trigger_free found transitions each action Behind found_derived transitions_derived action_derived)));
    }

constraint_free : (found : Watched) (timing : Decl) (action : Fired) (Behind : List PlacedLexeme → Type 0) → Derives watched found → Derives (timing_without []) timing
    → Derives fired action → IsFree constraint_trigger (found, (timing, action)) (constraint_tokens found timing action) Behind
constraint_free found timing action Behind found_derived timing_derived action_derived =
    both_any (λ watched others. (watched, others)) watched timed found (timing, action) (watched_tokens found)
    (canon.timing timing ++ (canon.for_each each.Row ++ fired_tokens action)) Behind (watched_free found Anything found_derived)
    (both_any (λ timing fired. (timing, fired)) (timing_without []) for_rows timing action (canon.timing timing) (canon.for_each each.Row ++ fired_tokens action) Behind
    (timing_free timing Anything timing_derived)
    (then_free (for_each (word (codes "row"))) fired tt action (canon.for_each each.Row) (fired_tokens action) Behind
    (for_each_free (word (codes "row")) tt (say (codes "ROW") ∷ []) Anything (word_free (codes "ROW") (codes "row") Anything refl refl)) (fired_free action Behind action_derived)))

pub create_constraint_trigger_free : (s : Statement) (Behind : List PlacedLexeme → Type 0) → Derives create_constraint_trigger s
    → IsCreated create_constraint_trigger s Behind
unfolding create_constraint_trigger
create_constraint_trigger_free s Behind
    (_, _, _, (_, _, _, (named, parts, name_derived, (found, others, found_derived, (timing, action, timing_derived, (_, own, _, action_derived, f), e), d), c), b), a) =
    let same_others : others ≡ (timing, own) = e ∙ ap (λ (action : Fired). (timing, action)) f in
    let same_parts : parts ≡ (found, (timing, own)) = d ∙ ap (λ (others : Decl × Fired). (found, others)) same_others in
    let whole : s ≡ constraint_trigger_of named (found, (timing, own)) = a ∙ (b ∙ (c ∙ ap (constraint_trigger_of named) same_parts)) in
    let tokens = say (codes "CONSTRAINT") ∷ say (codes "TRIGGER") ∷ Name named ∷ constraint_tokens found timing own in
    record {
      tokens = tokens;
      is = ap canon.statement whole;
      free = subst (λ (s : Statement). IsFree create_constraint_trigger s tokens Behind) (sym whole)
          (behind_word (codes "CONSTRAINT") (codes "constraint") (word (codes "trigger") ▸ Both constraint_trigger_of name constraint_trigger)
          (constraint_trigger_of named (found, (timing, own))) (say (codes "TRIGGER") ∷ Name named ∷ constraint_tokens found timing own) Behind refl refl
          (behind_word (codes "TRIGGER") (codes "trigger") (Both constraint_trigger_of name constraint_trigger) (constraint_trigger_of named (found, (timing, own)))
          (Name named ∷ constraint_tokens found timing own) Behind refl refl
          (both_any constraint_trigger_of name constraint_trigger named (found, (timing, own)) (Name named ∷ []) (constraint_tokens found timing own) Behind
          (name_free named Anything (name_named DerivesSome named name_derived))
          (constraint_free found timing own Behind found_derived timing_derived action_derived))));
    }
