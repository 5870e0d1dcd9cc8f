-- The line in which a run tells its schedule is read as that schedule.
use Rattle.std.proofs.Common.{◌≡◌, ℕ, zero, suc, ◌<◌, ◌≤◌, ◌+◌, ◌^◌, ◌==◌, Bool, true, false, not, ◌&&◌, List, [], ◌∷◌, ◌++◌, length, flat_map, map, replicate, Option, Some, inl, inr, refl, sym, ap, ap₂, ◌∙◌, subst, ◌⊎◌, arith, append_assoc, if◌then◌else◌, codes}
use Rattle.std.proofs.lemmas.List.{append-nil}
use Rattle.std.proofs.lemmas.Bool.{and_parts, and_from}
use Rattle.std.proofs.lemmas.Bool.Decides.{nat_tests}
use Rattle.std.proofs.lemmas.Slice.Eq.{bytes_eq-Decides}
use Rattle.std.specs.Prelude.{nat_lt}
use Rattle.std.specs.List.{list_all}
use Rattle.std.specs.Fmt.{decimal}
use Rattle.std.specs.Char.{to_ascii_lowercase}
use Rattle.aq_base.specs.Names.{Text as Bytes, begins_word, goes_on_in_word, same_text, is_name, is_word, is_short, is_reserved, is_apart_from, all_differ}
use Rattle.aq_base.specs.declared.script.Item.{Item}
use Rattle.aq_base.specs.declared.script.Script.{Script}
use Rattle.aq_base.specs.declared.script.SessionText.{SessionText}
use Rattle.aq_base.specs.declared.fault.SqlFault.{SqlFault}
use Rattle.aq_lex.specs.declared.token.Symbol.TheVariants.{Times}
use Rattle.aq_lex.specs.Tokens.{quoted, begins_word as begins_any_word, goes_on_in_word as goes_on_in_any_word, is_word as is_any_word}
use Rattle.aq_lex.specs.declared.token.Directive.TheVariants.{Schedule}
use Rattle.aq_lex.specs.Lexemes.{PlacedLexeme, Directive}
use Rattle.aq_grammar.specs.Terminals.{PlainName, Count, Sign, is_plain_name, number_of as number_in}
use Rattle.aq_grammar.specs.Forms.{sign, ◌▸◌}
use Rattle.aq_grammar.specs.Rules.{Token as Token_rule, Either, Done}
use Rattle.aq_grammar.specs.Reading.{Outcome, Read, Stop, Refused, ◌>>=◌, read_both}
use Rattle.aq_grammar.specs.Nonterminals.{marks, reads, Spells, Bars}
use Rattle.aq_grammar.specs.Sets.{marks_by}
use Rattle.aq_grammar.proofs.Grammar.{is_read_right}
use Rattle.aq_script.specs.Sections.{session_name, item, items, schedule, script_of}
use Rattle.aq_script.specs.Parsing.{read_setup, read_all_sessions, at_end, whole_script}
use Rattle.aq_script.specs.Reading.{Reads}
use Rattle.aq_script.proofs.Fit.{schedule_fits}
use Rattle.aq_script.proofs.RefusedLines.{reads_by}
use Rattle.aq_script.proofs.Scripts.{schedule_has, schedule_plain}
use Rattle.aq_texts.specs.Written.{Written, Name, Number, Repeat, Heading as Heading_token, is_bare, name_text, blank_between, text_behind}
use Rattle.aq_texts.specs.Canon.{item as item_tokens, line}
use Rattle.aq_texts.specs.Schedules.{name_at, with_step, runs_of, run_item, schedule_line}
use Rattle.aq_first_run.proofs.Told_runs.{steps_of-runs_of, RunsFit, RunsFit-runs_of, not_there}
use Rattle.aq_forms.proofs.Sound.{IsSound}
use Rattle.aq_forms.proofs.Laid.{lexeme_of, laid}
use Rattle.aq_forms.proofs.Free.{Free}
use Rattle.aq_forms.proofs.Combining.{IsFree, AreFree, Anything, both_any, many_free}
use Rattle.aq_forms.proofs.PrintedLines.{AllSound, Headed, are_sound, line_lexes}
use Rattle.aq_forms.proofs.ReadingLimited.{right_reads}
use Rattle.aq_canon.specs.ScheduleLines.{number_of, steps_of, schedule_alone, ScheduleReadsBack}
use Rattle.aq_canon.proofs.Outcomes.{both_read}
use Rattle.aq_canon.proofs.Statements.{less_test}
use Rattle.aq_forms.proofs.Names.{bare_lexeme}
use Rattle.aq_canon.proofs.Schedules.{schedule_tokens, plain_free, times_free, some_again}

-- ---- names

begins_lower : (byte : ℕ) → begins_word byte ≡ true → (begins_any_word byte ≡ true) × (to_ascii_lowercase byte ≡ byte)
begins_lower byte h = (grind (arith, nat_tests), grind (arith, nat_tests))

goes_on_lower : (byte : ℕ) → goes_on_in_word byte ≡ true → (goes_on_in_any_word byte ≡ true) × (to_ascii_lowercase byte ≡ byte)
goes_on_lower byte h = (grind (arith, nat_tests), grind (arith, nat_tests))

all_lower : (bytes : Bytes) → list_all goes_on_in_word bytes ≡ true → (list_all goes_on_in_any_word bytes ≡ true) × (map to_ascii_lowercase bytes ≡ bytes)
all_lower [] h = (refl, refl)
all_lower (byte ∷ bytes) h =
    let p = and_parts (goes_on_in_word byte) (list_all goes_on_in_word bytes) h in
    let first = goes_on_lower byte p.0 in
    let others = all_lower bytes p.1 in
    (and_from (goes_on_in_any_word byte) (list_all goes_on_in_any_word bytes) first.0 others.0, ap₂ (λ (b : ℕ) (bs : Bytes). b ∷ bs) first.1 others.1)

word_lower : (bytes : Bytes) → is_word bytes ≡ true → (is_any_word bytes ≡ true) × (map to_ascii_lowercase bytes ≡ bytes)
word_lower [] h = cc
word_lower (byte ∷ bytes) h =
    let p = and_parts (begins_word byte) (list_all goes_on_in_word bytes) h in
    let first = begins_lower byte p.0 in
    let others = all_lower bytes p.1 in
    (and_from (begins_any_word byte) (list_all goes_on_in_any_word bytes) first.0 others.0, ap₂ (λ (b : ℕ) (bs : Bytes). b ∷ bs) first.1 others.1)

-- a name of a session is printed bare
record IsBareName (name : Bytes) : Type 0 where
  bare : is_bare name ≡ true
  plain : is_plain_name (lexeme_of (Name name)) ≡ true
  sound : IsSound (lexeme_of (Name name))

bare_name : (name : Bytes) → is_name name ≡ true → IsBareName name
bare_name name h =
    let p = three_parts (is_word name) (is_short name) (not (is_reserved name)) h in
    let lower = word_lower name p.0 in
    let same = (bytes_eq-Decides (map to_ascii_lowercase name) name).1 lower.1 in
    let bare = three (is_any_word name) (same_text (map to_ascii_lowercase name) name) (not (is_reserved name)) lower.0 same p.2 in
    let is = bare_lexeme name bare in
    record {
      bare = bare;
      plain = ap is_plain_name is ∙ and_from (is_short name) (not (is_reserved name)) p.1 p.2;
      sound = subst IsSound (sym is) (and_from (is_any_word name) (same_text (map to_ascii_lowercase name) name) lower.0 same);
    }
  where
    three_parts : (a b c : Bool) → (a && b && c) ≡ true → (a ≡ true) × (b ≡ true) × (c ≡ true)
    three_parts true true true e = (refl, refl, refl)
    three_parts a b c e = cc

    three : (a b c : Bool) → a ≡ true → b ≡ true → c ≡ true → (a && b && c) ≡ true
    three true true true d e f = refl
    three a b c d e f = cc

named_at : (names : List Bytes) (s : ℕ) → list_all is_name names ≡ true → s < length names → is_name (name_at names s) ≡ true
named_at [] s h below = absurd (omega (arith, below))
named_at (name ∷ names) zero h below = (and_parts (is_name name) (list_all is_name names) h).0
named_at (name ∷ names) (suc s) h below = named_at names s (and_parts (is_name name) (list_all is_name names) h).1 (omega (arith, below))

-- a name tells its session
number_at : (names : List Bytes) (s : ℕ) → all_differ names ≡ true → s < length names → number_of names (name_at names s) ≡ s
number_at [] s h below = absurd (omega (arith, below))
number_at (name ∷ names) zero h below = ap (λ (test : Bool). if test then 0 else suc (number_of names name)) ((bytes_eq-Decides name name).1 refl)
number_at (name ∷ names) (suc s) h below =
    let p = and_parts (is_apart_from names name) (all_differ names) h in
    let under : s < length names = omega (arith, below) in
    by_test (same_text name (name_at names s)) refl p.0 under (number_at names s p.1 under)
  where
    by_test : (test : Bool) → same_text name (name_at names s) ≡ test → is_apart_from names name ≡ true → s < length names → number_of names (name_at names s) ≡ s
        → (if test then 0 else suc (number_of names (name_at names s))) ≡ suc s
    by_test true e apart under rest = absurd (not_there names name s apart under ((bytes_eq-Decides name (name_at names s)).0 e))
    by_test false e apart under rest = ap suc rest

-- ---- the items of a schedule

item_of : List Bytes → ℕ × ℕ → Item
item_of names run = record { name = name_at names run.0; count = run.1 }

-- each run has a step
abbrev AllStep : List (ℕ × ℕ) → Type 0
AllStep [] = Unit {0}
AllStep (run ∷ runs) = (1 ≤ run.1) × AllStep runs

step_with : (s : ℕ) (runs : List (ℕ × ℕ)) → AllStep runs → AllStep (with_step s runs)
step_with s [] all = (omega arith, tt)
step_with s (first ∷ others) all = by_test (s == first.0)
  where
    by_test : (test : Bool) → AllStep (if test then (first.0, first.1 + 1) ∷ others else (s, 1) ∷ first ∷ others)
    by_test true = (omega arith, all.1)
    by_test false = (omega arith, all)

all_step : (steps : List ℕ) → AllStep (runs_of steps)
all_step [] = tt
all_step (s ∷ steps) = step_with s (runs_of steps) (all_step steps)

counts_fit : (count most : ℕ) → 1 ≤ count → count ≤ most → most < 2 ^ 63 → (nat_lt 0 count && nat_lt count (2 ^ 63)) ≡ true
counts_fit count most some within less =
    and_from (nat_lt 0 count) (nat_lt count (2 ^ 63)) (less_test 0 count (omega (arith, some))) (less_test count (2 ^ 63) (omega (arith, within, less)))

run_free : (names : List Bytes) (run : ℕ × ℕ) → IsBareName (name_at names run.0) → (nat_lt 0 run.1 && nat_lt run.1 (2 ^ 63)) ≡ true
    → IsFree item (item_of names run) (item_tokens (item_of names run)) Anything
unfolding item item_of
run_free names run name fit =
    both_any (λ name count. record { name = name; count = count }) session_name (Either (Sign Times ∷ []) (sign Times ▸ Token_rule Count number_in) (Done 1)) (name_at names run.0) run.1
    (Name (name_at names run.0) ∷ []) (Repeat ∷ Number run.1 ∷ []) Anything (plain_free (name_at names run.0) name.bare name.plain name.sound) (times_free run.1 fit)

runs_free : (names : List Bytes) (most : ℕ) (runs : List (ℕ × ℕ)) → list_all is_name names ≡ true → most < 2 ^ 63 → RunsFit (length names) most runs → AllStep runs
    → AreFree item item_tokens Anything (map (item_of names) runs)
runs_free names most [] named less fit all = tt
runs_free names most (run ∷ runs) named less fit all =
    (run_free names run (bare_name (name_at names run.0) (named_at names run.0 named fit.0)) (counts_fit run.1 most all.0 fit.1 less), runs_free names most runs named less fit.2 all.1)

items_steps : (names : List Bytes) (most : ℕ) (runs : List (ℕ × ℕ)) → all_differ names ≡ true → RunsFit (length names) most runs
    → steps_of names (map (item_of names) runs) ≡ flat_map (λ (run : ℕ × ℕ). replicate run.1 run.0) runs
unfolding item_of
items_steps names most [] differ fit = refl
items_steps names most (run ∷ runs) differ fit =
    ap₂ (λ (s : ℕ) (others : List ℕ). replicate run.1 s ++ others) (number_at names run.0 differ fit.0) (items_steps names most runs differ fit.2)

-- ---- the text

bare_text : (name : Bytes) → is_bare name ≡ true → name_text name ≡ name
bare_text name e = ap (λ (test : Bool). if test then name else quoted 34 name) e

joined : (name digits last : Bytes) → 32 ∷ (name ++ 42 ∷ (digits ++ last)) ≡ (codes " " ++ name ++ codes "*" ++ digits) ++ last
joined name digits last =
    ap (λ (text : Bytes). 32 ∷ text) (sym (append_assoc name (42 ∷ []) (digits ++ last)) ∙ sym (append_assoc (name ++ 42 ∷ []) digits last))

items_text : (names : List Bytes) (most : ℕ) (runs : List (ℕ × ℕ)) (before : Written) → ((name : Bytes) → blank_between before (Name name) ≡ 32 ∷ []) → list_all is_name names ≡ true
    → RunsFit (length names) most runs → text_behind before (flat_map item_tokens (map (item_of names) runs)) ≡ flat_map (run_item names) runs
unfolding item_of
items_text names most [] before blank named fit = refl
items_text names most (run ∷ runs) before blank named fit =
    let name = name_at names run.0 in
    let bare = bare_name name (named_at names run.0 named fit.0) in
    let others = items_text names most runs (Number run.1) (λ name. refl) named fit.2 in
    ap₂ (λ (gap text : Bytes). gap ++ (text ++ 42 ∷ (decimal run.1 ++ text_behind (Number run.1) (flat_map item_tokens (map (item_of names) runs))))) (blank name) (bare_text name bare.bare)
    ∙ ap (λ (last : Bytes). 32 ∷ (name ++ 42 ∷ (decimal run.1 ++ last))) others
    ∙ joined name (decimal run.1) (flat_map (run_item names) runs)

-- ---- the line is read

script_read : (found : List Item) (tokens : List PlacedLexeme) (line : ℕ) → reads schedule (record { line = line; lexeme = Directive Schedule } ∷ tokens) ≡ Read (Some found) []
    → whole_script (record { line = line; lexeme = Directive Schedule } ∷ tokens) ≡ Read (schedule_alone found) []
script_read found tokens line e =
    let all : List PlacedLexeme = record { line = line; lexeme = Directive Schedule } ∷ tokens in
    ap (λ (o : Outcome Script). o >>= at_end)
    (both_read script_of read_setup
    (λ setup. read_both (λ (sessions : List SessionText) (items : Option (List Item)). (sessions, items)) (read_all_sessions (length setup)) (λ sessions. reads schedule)) all all [] []
    ([], Some found) refl
    (both_read (λ (sessions : List SessionText) (items : Option (List Item)). (sessions, items)) (read_all_sessions 0) (λ sessions. reads schedule) all all [] [] (Some found) refl e))

schedule_read : (found : List Item) (u : List PlacedLexeme) → Spells schedule (Some found) u → reads schedule u ≡ Read (Some found) []
schedule_read found u spelled =
    let whole = append-nil u in
    ap (reads schedule) (sym whole) ∙ by_outcome
    (right_reads (Spells schedule) (Bars schedule) (marks_by marks schedule) schedule_has.keeps (Some found) u [] spelled refl (reads schedule (u ++ []))
    (is_read_right schedule schedule_fits (u ++ [])))
  where
    by_outcome :
        (reads schedule (u ++ []) ≡ Read (Some found) [])
        ⊎ ((fault : SqlFault) × (front : List PlacedLexeme) × (place : List PlacedLexeme) × (reads schedule (u ++ []) ≡ Stop (Refused fault) place) × Bars schedule front place fault)
        → reads schedule (u ++ []) ≡ Read (Some found) []
    by_outcome (inl e) = e
    by_outcome (inr (fault, front, place, e, bar)) = absurd (schedule_has.keeps.plain schedule_plain front place fault bar)

pub schedule_reads_back : ScheduleReadsBack
schedule_reads_back names steps named differ below less =
    let runs = runs_of steps in
    let fit = RunsFit-runs_of names steps below in
    let found = map (item_of names) runs in
    let tokens = schedule_tokens (Some found) in
    let free : (lines : ℕ → ℕ) (at : ℕ) → Free items found (laid lines at (flat_map item_tokens found)) [] =
    λ lines at. many_free (PlainName ∷ []) (λ items. items) item item_tokens found Anything (runs_free names (length steps) runs named less fit (all_step steps)) lines at [] tt in
    let sound : AllSound (flat_map item_tokens found) = (some_again found (λ n. 0) 0 (free (λ n. 0) 1)).sound in
    let text : line tokens ≡ 92 ∷ schedule_line names steps =
    ap (λ (text : Bytes). 92 ∷ (codes "schedule" ++ text) ++ 10 ∷ []) (items_text names (length steps) runs (Heading_token Schedule) (λ name. refl) named fit) in
    let (lexed_tokens, place, lexed, are) = line_lexes tokens (Headed Schedule (flat_map item_tokens found) (are_sound (λ n. 0) 0 (flat_map item_tokens found) sound)) in
    let again = some_again found place 0 (free place 1) in
    let read = script_read found (laid place 1 (flat_map item_tokens found)) (place 0) (schedule_read found (laid place 0 tokens) again.spelled) in (
      found,
      subst (λ (bytes : Bytes). Reads bytes (schedule_alone found)) text (reads_by (line tokens) lexed_tokens (schedule_alone found) lexed (ap whole_script are ∙ read)),
      items_steps names (length steps) runs differ fit ∙ steps_of-runs_of steps,
    )
