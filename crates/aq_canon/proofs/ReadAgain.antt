-- A statement that was read in a section is read again from its printed tokens.
use Rattle.std.proofs.Common.{◌≡◌, ℕ, true, false, List, [], ◌∷◌, ◌++◌, refl, sym, ap, ◌∙◌, subst, append_assoc, None}
use Rattle.aq_base.specs.declared.statement.Statement.{Statement}
use Rattle.aq_lex.specs.declared.token.Symbol.TheVariants.{Semicolon}
use Rattle.aq_lex.specs.Lexemes.{PlacedLexeme, Symbol}
use Rattle.aq_grammar.specs.Terminals.{begins}
use Rattle.aq_grammar.specs.Rules.{Rule, refused}
use Rattle.aq_grammar.specs.Forms.{sign, ◌◂◌}
use Rattle.aq_grammar.specs.Reading.{Outcome, Read}
use Rattle.aq_grammar.specs.Sets.{marks_by, is_fit_by}
use Rattle.aq_grammar.specs.Nonterminals.{marks, reads, Spells, Bars}
use Rattle.aq_grammar.specs.Statements.{supported_in_setup, supported_in_session, setup_statement, session_statement}
use Rattle.aq_grammar.proofs.Apart.{same_kinds_sound}
use Rattle.aq_grammar.proofs.Grammar.{is_read_right}
use Rattle.aq_grammar.proofs.Keeping.{begun_by}
use Rattle.aq_grammar.proofs.Languages.{IsRight, Explains, rest_of}
use Rattle.aq_script.specs.Sections.{Section, in_setup, in_session, kinds_of, ended}
use Rattle.aq_script.proofs.Fit.{SectionFits}
use Rattle.aq_script.proofs.ReadStatements.{section_fits}
use Rattle.aq_script.proofs.Statements.{ended_fits, ended_has, repeats, same_begins}
use Rattle.aq_parse.specs.declared.statements.Place.TheVariants as places
use Rattle.aq_texts.specs.Written.{Mark}
use Rattle.aq_texts.specs.Canon.{statement, statement_tokens}
use Rattle.aq_forms.proofs.Sound.{HaveTexts}
use Rattle.aq_forms.proofs.Laid.{laid, past, laid_append}
use Rattle.aq_forms.proofs.Derived.{Derives}
use Rattle.aq_forms.proofs.Combining.{IsFree, Anything, Semicolon_next, mark_free, before_free}
use Rattle.aq_forms.proofs.Deriving.{derives}
use Rattle.aq_forms.proofs.Headings.{has_no_heading, session_statement_has_none, setup_statement_has_none}
use Rattle.aq_forms.proofs.PrintedLines.{all_sound}
use Rattle.aq_forms.proofs.Reading.{free_spells, free_sound, free_reads}
use Rattle.aq_forms.proofs.Rooms.{read_ended_has_room}
use Rattle.aq_forms.proofs.SessionStatements.{session_statement_free, session_unrefused}
use Rattle.aq_forms.proofs.SetupStatements.{supported_in_setup_free, setup_unrefused}
use Rattle.aq_canon.proofs.Statements.{IsReadAgain, AreReadAgain, texts_before}

-- the statement's tree, from what was read
derived_read : (rule : Rule Statement) (fit : is_fit_by marks (rule ◂ sign Semicolon) ≡ true) → has_no_heading rule ≡ true → (s : Statement) (tokens middle : List PlacedLexeme) → HaveTexts tokens
    → reads (rule ◂ sign Semicolon) tokens ≡ Read s middle → Derives rule s
derived_read rule fit none s tokens middle texts read = by_right (is_read_right (rule ◂ sign Semicolon) fit tokens)
  where
    by_right : IsRight (Spells (rule ◂ sign Semicolon)) (Bars (rule ◂ sign Semicolon)) tokens (reads (rule ◂ sign Semicolon) tokens) → Derives rule s
    by_right right =
        let whole : tokens ≡ right.front ++ middle = right.whole ∙ ap (λ (o : Outcome Statement). right.front ++ rest_of o) read in
        let explained : Explains (Spells (rule ◂ sign Semicolon)) (Bars (rule ◂ sign Semicolon)) (Read s middle) right.front =
        subst (λ (o : Outcome Statement). Explains (Spells (rule ◂ sign Semicolon)) (Bars (rule ◂ sign Semicolon)) o right.front) read right.explained in
        let (front, behind, x, y, first, second, cut, value) = explained.spelled in
        let front_texts : HaveTexts (front ++ behind) = subst HaveTexts cut (texts_before right.front middle (subst HaveTexts whole texts)) in
        subst (Derives rule) (sym value) (derives rule x front none first (texts_before front behind front_texts))

module _ (section : Section) (fits : SectionFits section) where
  -- a statement whose tokens are free, and in whose place nothing is refused
  pub again_by : (s : Statement) → IsFree section.statement s (statement s) Semicolon_next
      → ((lines : ℕ → ℕ) (at : ℕ) (rest : List PlacedLexeme) → Semicolon_next rest → refused section.refused (laid lines at (statement s) ++ rest) ≡ None) → (lines : ℕ → ℕ) (at : ℕ)
      (rest : List PlacedLexeme) → IsReadAgain section s (laid lines at (statement_tokens s)) rest
  again_by s is_free unrefused lines at rest =
      let tokens = laid lines at (statement_tokens s) in
      let ended_free : IsFree (ended section) s (statement_tokens s) Anything =
      before_free section.statement (sign Semicolon) s tt (statement s) (Mark Semicolon ∷ []) Semicolon_next Anything is_free (mark_free Semicolon Anything)
      (λ lines at rest any. (lines at, rest, refl)) in
      let free = ended_free lines at rest tt in
      let spelled = free_spells (ended section) s tokens rest free in
      let next : PlacedLexeme = record { line = lines (past at (statement s)); lexeme = Symbol Semicolon } in
      let cut : tokens ++ rest ≡ laid lines at (statement s) ++ next ∷ rest =
      ap (λ (u : List PlacedLexeme). u ++ rest) (laid_append lines at (statement s) (Mark Semicolon ∷ [])) ∙ append_assoc (laid lines at (statement s)) (next ∷ []) rest in
      record {
        read = free_reads (ended section) s tokens rest (ended_fits section fits) (goes_on_no_more rest) free;
        spelled = spelled;
        begun = begun_at tokens spelled;
        free = ap (refused section.refused) cut ∙ unrefused lines at (next ∷ rest) (lines (past at (statement s)), rest, refl);
        sound = all_sound lines at (statement_tokens s) (free_sound (ended section) s tokens rest free);
      }
    where
      goes_on_no_more : (rest : List PlacedLexeme) → begins (marks_by marks (ended section)).goes_on rest ≡ false
      goes_on_no_more [] = refl
      goes_on_no_more (token ∷ rest) = refl

      begun_at : (tokens : List PlacedLexeme) → Spells (ended section) s tokens → begins (kinds_of section) (tokens ++ rest) ≡ true
      begun_at [] spelled = absurd ((ended_has section fits).keeps.not_empty (repeats section fits 0).whole s spelled)
      begun_at (token ∷ tokens) spelled =
          same_kinds_sound (kinds_of section) (marks_by marks (ended section)).begins token (same_begins section fits) ∙ begun_by (ended_has section fits).keeps s token tokens spelled

session_none : has_no_heading supported_in_session ≡ true
unfolding session_statement
session_none = session_statement_has_none

setup_none : has_no_heading supported_in_setup ≡ true
unfolding setup_statement
setup_none = setup_statement_has_none

pub session_statements_again : AreReadAgain in_session
session_statements_again s tokens middle texts read lines at rest =
    let derived = derived_read supported_in_session (ended_fits in_session (section_fits places.Session)) session_none s tokens middle texts read in
    again_by in_session (section_fits places.Session) s (session_statement_free s derived) (session_unrefused s derived) lines at rest

pub setup_statements_again : AreReadAgain in_setup
setup_statements_again s tokens middle texts read lines at rest =
    let derived = derived_read supported_in_setup (ended_fits in_setup (section_fits places.Setup)) setup_none s tokens middle texts read in
    again_by in_setup (section_fits places.Setup) s (supported_in_setup_free s derived (read_ended_has_room tokens middle s read))
    (λ lines at rest behind. setup_unrefused s derived lines at rest tt) lines at rest
