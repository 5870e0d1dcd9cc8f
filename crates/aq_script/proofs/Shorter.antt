-- Behind an item, a statement and a session fewer tokens are left.
use Rattle.std.proofs.Common.{◌≡◌, ℕ, ◌<◌, Bool, true, false, List, length, refl, subst}
use Rattle.aq_base.specs.Names.{Text as Bytes}
use Rattle.aq_base.specs.declared.script.Item.{Item}
use Rattle.aq_base.specs.declared.script.Placed.{Placed}
use Rattle.aq_base.specs.declared.script.SessionText.{SessionText}
use Rattle.aq_lex.specs.declared.token.Directive.TheVariants.{Session}
use Rattle.aq_lex.specs.Lexemes.{PlacedLexeme}
use Rattle.aq_grammar.specs.Terminals.{PlainName, Heading, text_of}
use Rattle.aq_grammar.specs.Rules.{refused}
use Rattle.aq_grammar.specs.Reading.{Outcome, Read, read_unless}
use Rattle.aq_grammar.specs.Nonterminals.{rules, marks, reads_called, reads}
use Rattle.aq_grammar.proofs.Fit.{rules_fit}
use Rattle.aq_grammar.proofs.Fuel.{Shortens, shortens_at_least, stop_or_shortens, called_shortens, token_shortens, both_shortens, shortens_by, called_shortens_by}
use Rattle.aq_grammar.proofs.Shorter.{reads_shorten}
use Rattle.aq_script.specs.Sections.{Section, in_session, kinds_of, ended, heading, session_name, item, refused_names}
use Rattle.aq_script.specs.Parsing.{line_of, read_placed, refused_behind, read_all_statements, read_name, read_session}
use Rattle.aq_script.proofs.Fit.{SectionFits, session_fits, item_fits}
use Rattle.aq_script.proofs.Loops.{each_shortens_behind}
use Rattle.aq_script.proofs.Statements.{one_more, ended_fits, repeats}

pub item_is_shorter : (tokens rest : List PlacedLexeme) (x : Item) → reads item tokens ≡ Read x rest → length rest < length tokens
unfolding item
item_is_shorter = reads_shorten item item_fits refl

ended_shortens : (section : Section) → SectionFits section → (tokens : List PlacedLexeme) → Shortens false (length tokens) (reads (ended section) tokens)
unfolding reads_called
ended_shortens section fits tokens =
    subst (λ (is_empty : Bool). Shortens is_empty (length tokens) (reads (ended section) tokens)) (repeats section fits 0).whole
    (shortens_by reads_called marks (called_shortens_by rules marks rules_fit) (ended section) (ended_fits section fits) tokens)

placed_shortens : (section : Section) → SectionFits section → (tokens : List PlacedLexeme) → Shortens false (length tokens) (read_placed section tokens)
placed_shortens section fits tokens =
    called_shortens false (length tokens) (λ statement. record { line = line_of tokens; statement = statement }) (reads (ended section) tokens)
    (ended_shortens section fits tokens)

-- what is left is shorter than what there was
left_is_shorter : {A : Type 0} (size : ℕ) (outcome : Outcome A) (x : A) (rest : List PlacedLexeme) → Shortens false size outcome → outcome ≡ Read x rest → length rest < size
left_is_shorter size outcome x rest shortens read = let (less, shorter) = subst (Shortens false size) read shortens in shorter refl

pub placed_is_shorter : (section : Section) → SectionFits section → (tokens rest : List PlacedLexeme) (x : Placed) → read_placed section tokens ≡ Read x rest
    → length rest < length tokens
placed_is_shorter section fits tokens rest x read = left_is_shorter (length tokens) (read_placed section tokens) x rest (placed_shortens section fits tokens) read

statements_shorten : (section : Section) → SectionFits section → (statements : ℕ) (tokens : List PlacedLexeme)
    → Shortens true (length tokens) (read_all_statements section statements tokens)
statements_shorten section fits statements tokens =
    each_shortens_behind (kinds_of section) (refused_behind section) (λ before. read_placed section) one_more
    (λ before rest. shortens_at_least true (length rest) _ (placed_shortens section fits rest)) (length tokens) statements tokens

name_shortens : (names : List Bytes) (tokens : List PlacedLexeme) → Shortens false (length tokens) (read_name names tokens)
name_shortens names tokens =
    both_shortens (λ said name. name) false true (reads (heading Session)) (λ said. read_unless (refused_names names) (reads session_name)) tokens
    (token_shortens (Heading Session) (λ token. tt) tokens)
    (λ said rest. stop_or_shortens true (refused (refused_names names) rest) rest _ (shortens_at_least true (length rest) _ (token_shortens PlainName text_of rest)))

session_shortens : (statements : ℕ) (names : List Bytes) (tokens : List PlacedLexeme) → Shortens false (length tokens) (read_session statements names tokens)
session_shortens statements names tokens =
    both_shortens (λ name found. record { name = name; statements = found }) false true (read_name names) (λ name. read_all_statements in_session statements) tokens
    (name_shortens names tokens) (λ name. statements_shorten in_session session_fits statements)

pub session_is_shorter : (statements : ℕ) (names : List Bytes) (tokens rest : List PlacedLexeme) (x : SessionText) → read_session statements names tokens ≡ Read x rest
    → length rest < length tokens
session_is_shorter statements names tokens rest x read =
    left_is_shorter (length tokens) (read_session statements names tokens) x rest (session_shortens statements names tokens) read
