-- A schedule is read again from its line.
use Rattle.std.proofs.Common.{◌≡◌, ℕ, suc, true, false, ◌&&◌, List, [], ◌∷◌, ◌++◌, flat_map, Option, Some, None, inl, inr, refl, sym, ap, ◌∙◌, subst, ◌⊎◌}
use Rattle.std.proofs.lemmas.List.{append-nil}
use Rattle.std.proofs.lemmas.Bool.{and_parts}
use Rattle.std.specs.Prelude.{nat_lt, ◌^◌}
use Rattle.aq_base.specs.declared.script.Item.{Item}
use Rattle.aq_lex.specs.declared.token.Directive.TheVariants.{Schedule}
use Rattle.aq_lex.specs.declared.token.Symbol.TheVariants.{Times}
use Rattle.aq_lex.specs.Lexemes.{PlacedLexeme, Lexeme, Word, QuotedName, Integer, Text, Symbol, Directive}
use Rattle.aq_grammar.specs.Terminals.{Heading, PlainName, Count, Sign, fits, begins, is_of_kind, is_plain_name, text_of, number_of, lexeme_number}
use Rattle.aq_grammar.specs.Rules.{Nonterminal, ValueOf, Token, Either, Done}
use Rattle.aq_grammar.specs.Sets.{is_fit_by}
use Rattle.aq_grammar.specs.Reading.{Outcome, Read, read_both}
use Rattle.aq_grammar.specs.Forms.{sign, ◌▸◌}
use Rattle.aq_grammar.specs.Nonterminals.{marks, reads, Spells, Bars}
use Rattle.aq_grammar.proofs.Grammar.{is_read_right}
use Rattle.aq_grammar.proofs.Languages.{IsRight, Explains, rest_of}
use Rattle.aq_script.specs.Sections.{heading, session_name, item, items, schedule}
use Rattle.aq_texts.specs.Written.{Written, Name, Number, Repeat, Heading as Heading_token, is_bare}
use Rattle.aq_texts.specs.Canon.{item as item_tokens}
use Rattle.aq_forms.proofs.Sound.{IsSound, HaveTexts}
use Rattle.aq_forms.proofs.Laid.{lexeme_of, laid}
use Rattle.aq_forms.proofs.Derived.{Trees, DerivesBy, DerivesEach, DerivesSome}
use Rattle.aq_forms.proofs.Free.{ReadsOrLimit, Free}
use Rattle.aq_forms.proofs.Combining.{IsFree, AreFree, Anything, token_free, symbol_free, then_free, both_any, left_free, many_free}
use Rattle.aq_forms.proofs.Names.{plain_named, name_text_is, bare_lexeme, plain_lexeme}
use Rattle.aq_forms.proofs.Reading.{free_reads, free_spells, free_sound}
use Rattle.aq_forms.proofs.PrintedLines.{AllSound, all_sound}
use Rattle.aq_forms.proofs.Deriving.{derives}
use Rattle.aq_forms.proofs.Headings.{has_no_heading}
use Rattle.aq_canon.proofs.Outcomes.{both_parts, both_again}
use Rattle.aq_canon.proofs.Repeated.{choice_parts}
use Rattle.aq_canon.proofs.Statements.{texts_before}
use Rattle.aq_canon.proofs.Sessions.{token_parts}

-- ---- items

-- a count is a number that isn't 0
count_parts : (lexeme : Lexeme) → is_of_kind Count lexeme ≡ true → (lexeme ≡ Integer (lexeme_number lexeme)) × ((nat_lt 0 (lexeme_number lexeme) && nat_lt (lexeme_number lexeme) (2 ^ 63)) ≡ true)
count_parts (Word text) fit = cc
count_parts (QuotedName text) fit = cc
count_parts (Integer number) fit = (refl, fit)
count_parts (Text text) fit = cc
count_parts (Symbol symbol) fit = cc
count_parts (Directive directive) fit = cc

count_free : (count : ℕ) → (nat_lt 0 count && nat_lt count (2 ^ 63)) ≡ true → IsFree (Token Count number_of) count (Number count ∷ []) Anything
count_free count fit =
    token_free Count number_of (Number count) count Anything (λ line. fit) (and_parts (nat_lt 0 count) (nat_lt count (2 ^ 63)) fit).1 (λ line. refl)

pub times_free : (count : ℕ) → (nat_lt 0 count && nat_lt count (2 ^ 63)) ≡ true
    → IsFree (Either (Sign Times ∷ []) (sign Times ▸ Token Count number_of) (Done 1)) count (Repeat ∷ Number count ∷ []) Anything
times_free count fit =
    left_free (Sign Times ∷ []) (sign Times ▸ Token Count number_of) (Done 1) count (Repeat ∷ Number count ∷ []) Anything
    (then_free (sign Times) (Token Count number_of) tt count (Repeat ∷ []) (Number count ∷ []) Anything (symbol_free Times Repeat tt Anything refl) (count_free count fit))

pub plain_free : (name : List ℕ) → is_bare name ≡ true → is_plain_name (lexeme_of (Name name)) ≡ true → IsSound (lexeme_of (Name name))
    → IsFree session_name name (Name name ∷ []) Anything
plain_free name bare plain sound = token_free PlainName text_of (Name name) name Anything (λ line. plain) sound (λ line. sym (name_text_is name))

-- a name that was read is printed bare
plain_again : (token : PlacedLexeme) → fits PlainName token ≡ true → IsSound token.lexeme → IsFree session_name (text_of token) (Name (text_of token) ∷ []) Anything
plain_again token fit sound =
    let named = plain_named token fit sound in
    let is : lexeme_of (Name (text_of token)) ≡ token.lexeme = bare_lexeme (text_of token) named.1 ∙ sym (plain_lexeme token.lexeme fit) in
    plain_free (text_of token) named.1 (ap is_plain_name is ∙ fit) (subst IsSound (sym is) sound)

item_free : (calls : (n : Nonterminal) → Trees (ValueOf n)) (x : Item) → DerivesBy calls item x → IsFree item x (item_tokens x) Anything
unfolding item
item_free calls x (name, count, (token, fit, sound, e), inl (said, number, times, (found, count_fit, count_sound, d), c), whole) =
    subst (λ (x : Item). IsFree item x (item_tokens x) Anything) (sym whole)
    (both_any (λ name count. record { name = name; count = count }) session_name (Either (Sign Times ∷ []) (sign Times ▸ Token Count number_of) (Done 1)) name count (Name name ∷ [])
    (Repeat ∷ Number count ∷ []) Anything (subst (λ (text : List ℕ). IsFree session_name text (Name text ∷ []) Anything) (sym e) (plain_again token fit sound))
    (times_free count (subst (λ (n : ℕ). (nat_lt 0 n && nat_lt n (2 ^ 63)) ≡ true) (sym (c ∙ d)) (count_parts found.lexeme count_fit).1)))
item_free calls x (name, count, (token, fit, sound, e), inr one, whole) =
    subst (λ (x : Item). IsFree item x (item_tokens x) Anything) (sym whole)
    (both_any (λ name count. record { name = name; count = count }) session_name (Either (Sign Times ∷ []) (sign Times ▸ Token Count number_of) (Done 1)) name count (Name name ∷ [])
    (Repeat ∷ Number count ∷ []) Anything (subst (λ (text : List ℕ). IsFree session_name text (Name text ∷ []) Anything) (sym e) (plain_again token fit sound))
    (times_free count (subst (λ (n : ℕ). (nat_lt 0 n && nat_lt n (2 ^ 63)) ≡ true) (sym one) refl)))

items_all : (calls : (n : Nonterminal) → Trees (ValueOf n)) (xs : List Item) → DerivesEach (DerivesBy calls item) xs → AreFree item item_tokens Anything xs
items_all calls [] all = tt
items_all calls (x ∷ xs) all = (item_free calls x all.0, items_all calls xs all.1)

items_fit : is_fit_by marks items ≡ true
unfolding item
items_fit = refl

pub items_free : (calls : (n : Nonterminal) → Trees (ValueOf n)) (xs : List Item) → DerivesBy calls items xs → IsFree items xs (flat_map item_tokens xs) Anything
items_free calls xs (found, all, e) =
    subst (λ (xs : List Item). IsFree items xs (flat_map item_tokens xs) Anything) (sym e)
    (many_free (PlainName ∷ []) (λ items. items) item item_tokens found Anything (items_all calls found all))

-- ---- the line

abbrev pub schedule_tokens : Option (List Item) → List Written
schedule_tokens None = []
schedule_tokens (Some found) = Heading_token Schedule ∷ flat_map item_tokens found

-- the tokens of its items can be printed
abbrev pub IsSoundSchedule : Option (List Item) → Type 0
IsSoundSchedule None = Unit {0}
IsSoundSchedule (Some found) = AllSound (flat_map item_tokens found)

pub record ScheduleAgain (found : Option (List Item)) (tokens : List PlacedLexeme) : Type 0 where
  pub sound : IsSoundSchedule found
  pub spelled : Spells schedule found tokens
  pub read : ReadsOrLimit (reads schedule tokens) found []

items_have_none : has_no_heading items ≡ true
unfolding item
items_have_none = refl

-- items that were read are read again
items_again : (tokens rest : List PlacedLexeme) (found : List Item) → HaveTexts tokens → reads items tokens ≡ Read found rest → (lines : ℕ → ℕ) (at : ℕ)
    → Free items found (laid lines at (flat_map item_tokens found)) []
items_again tokens rest found texts read lines at =
    by_right (is_read_right items items_fit tokens) read
  where
    by_right : IsRight (Spells items) (Bars items) tokens (reads items tokens) → reads items tokens ≡ Read found rest → Free items found (laid lines at (flat_map item_tokens found)) []
    by_right right e =
        let whole : tokens ≡ right.front ++ rest = right.whole ∙ ap (λ (o : Outcome (List Item)). right.front ++ rest_of o) e in
        let explained : Explains (Spells items) (Bars items) (Read found rest) right.front =
        subst (λ (o : Outcome (List Item)). Explains (Spells items) (Bars items) o right.front) e right.explained in
        items_free DerivesSome found
        (derives items found right.front items_have_none explained.spelled (texts_before right.front rest (subst HaveTexts whole texts))) lines at [] tt

none_again : ScheduleAgain None []
unfolding schedule
none_again = record { sound = tt; spelled = inr (refl, refl); read = inl refl }

pub some_again : (found : List Item) (lines : ℕ → ℕ) (at : ℕ) → Free items found (laid lines (suc at) (flat_map item_tokens found)) []
    → ScheduleAgain (Some found) (laid lines at (schedule_tokens (Some found)))
unfolding schedule
some_again found lines at free =
    let title : PlacedLexeme = record { line = lines at; lexeme = Directive Schedule } in
    let behind = laid lines (suc at) (flat_map item_tokens found) in
    let read : ReadsOrLimit (reads items behind) found [] =
    subst (λ (u : List PlacedLexeme). ReadsOrLimit (reads items u) found []) (append-nil behind) (free_reads items found behind [] items_fit refl free) in
    record {
      sound = all_sound lines (suc at) (flat_map item_tokens found) (free_sound items found behind [] free);
      spelled =
          inl (
            title ∷ behind,
            [],
            found,
            tt,
            (title ∷ [], behind, tt, found, (title, refl, refl, refl), free_spells items found behind [] free, refl, refl),
            (refl, refl),
            sym (append-nil (title ∷ behind)),
            refl,
          );
      read =
          both_again (λ x (y : Unit {0}). Some x) (λ tokens. read_both (λ (x : Unit {0}) y. y) (reads (heading Schedule)) (λ x. reads items) tokens) (λ x tokens. Read tt tokens)
          (title ∷ behind) [] [] found tt
          (both_again (λ (x : Unit {0}) y. y) (reads (heading Schedule)) (λ x. reads items) (title ∷ behind) behind [] tt found (inl refl) read) (inl refl);
    }

pub schedule_again : (tokens : List PlacedLexeme) (found : Option (List Item)) → HaveTexts tokens → reads schedule tokens ≡ Read found [] → (lines : ℕ → ℕ) (at : ℕ)
    → ScheduleAgain found (laid lines at (schedule_tokens found))
unfolding schedule
schedule_again tokens found texts read lines at =
    by_choice
    (choice_parts (begins (Heading Schedule ∷ []) tokens)
    (read_both (λ x (y : Unit {0}). Some x) (λ tokens. read_both (λ (x : Unit {0}) y. y) (reads (heading Schedule)) (λ x. reads items) tokens) (λ x tokens. Read tt tokens) tokens) (Read None tokens)
    found [] read)
  where
    Said : Type 0
    Said =
        read_both (λ x (y : Unit {0}). Some x) (λ tokens. read_both (λ (x : Unit {0}) y. y) (reads (heading Schedule)) (λ x. reads items) tokens) (λ x tokens. Read tt tokens) tokens
        ≡ Read found []

    by_choice : ((begins (Heading Schedule ∷ []) tokens ≡ true) × Said)
        ⊎ ((begins (Heading Schedule ∷ []) tokens ≡ false) × (◌≡◌ {A = Outcome (Option (List Item))} (Read None tokens) (Read found [])))
        → ScheduleAgain found (laid lines at (schedule_tokens found))
    by_choice (inl (begun, said)) =
        let (its, nothing, middle, first, second, whole) =
        both_parts (λ x (y : Unit {0}). Some x) (λ tokens. read_both (λ (x : Unit {0}) y. y) (reads (heading Schedule)) (λ x. reads items) tokens) (λ x tokens. Read tt tokens) tokens [] found said in
        let (title, its', behind, heading_read, items_read, its_whole) = both_parts (λ (x : Unit {0}) y. y) (reads (heading Schedule)) (λ x. reads items) tokens middle its first in
        let (token, tokens_are, fit, value) = token_parts (Heading Schedule) (λ token. tt) tokens behind title heading_read in
        let texts_left : HaveTexts (token ∷ behind) = subst HaveTexts tokens_are texts in
        let free = items_again behind middle its' texts_left.1 items_read lines (suc at) in
        subst (λ (x : Option (List Item)). ScheduleAgain x (laid lines at (schedule_tokens x))) (sym (whole ∙ ap Some its_whole)) (some_again its' lines at free)
    by_choice (inr (ended, said)) = let none : found ≡ None = cc in subst (λ (x : Option (List Item)). ScheduleAgain x (laid lines at (schedule_tokens x))) (sym none) none_again
