-- A rule that fits and can't be empty leaves fewer tokens than there were.
use Rattle.std.proofs.Common.{◌≡◌, ◌<◌, true, false, List, length, subst}
use Rattle.aq_lex.specs.Lexemes.{PlacedLexeme}
use Rattle.aq_grammar.specs.Rules.{Rule}
use Rattle.aq_grammar.specs.Sets.{marks_by, is_fit_by}
use Rattle.aq_grammar.specs.Reading.{Read}
use Rattle.aq_grammar.specs.Nonterminals.{rules, marks, reads_called, reads}
use Rattle.aq_grammar.proofs.Fuel.{Shortens, shortens_by, called_shortens_by}
use Rattle.aq_grammar.proofs.Fit.{rules_fit}

pub reads_shorten : {A : Type 0} (r : Rule A) → is_fit_by marks r ≡ true → (marks_by marks r).is_empty ≡ false
    → (tokens rest : List PlacedLexeme) (x : A) → reads r tokens ≡ Read x rest → length rest < length tokens
unfolding reads_called
reads_shorten r fit some tokens rest x read =
    let (less, shorter) =
    subst (Shortens (marks_by marks r).is_empty (length tokens)) read (shortens_by reads_called marks (called_shortens_by rules marks rules_fit) r fit tokens) in
    shorter some
