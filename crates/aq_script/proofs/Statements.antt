-- Statements one after the other are read as by their rule.
use Rattle.std.proofs.Common.{◌≡◌, ℕ, ◌+◌, true, false, List, [], ◌∷◌, length, sym, subst, arith, le_refl}
use Rattle.aq_base.specs.declared.fault.SqlFault.{SqlFault}
use Rattle.aq_base.specs.declared.script.Placed.{Placed}
use Rattle.aq_lex.specs.Lexemes.{PlacedLexeme}
use Rattle.aq_grammar.specs.Sets.{of_many, marks_by, is_fit_by, same_kinds}
use Rattle.aq_grammar.specs.Nonterminals.{marks, Spells, Bars}
use Rattle.aq_grammar.proofs.Languages.{HasMarks, IsRight}
use Rattle.aq_grammar.proofs.Keeping.{AreRepeated, fit_many}
use Rattle.aq_grammar.proofs.RightFit.{kinds_many}
use Rattle.aq_grammar.proofs.RightForms.{AreAlike, alike_right}
use Rattle.aq_grammar.proofs.Grammar.{is_read_right}
use Rattle.aq_script.specs.Sections.{Section, kinds_of, ended, SpellsPlaced, SpellsStatements, BarsStatement, BarsStatements}
use Rattle.aq_script.specs.Parsing.{read_placed, refused_behind, read_all_statements}
use Rattle.aq_grammar.proofs.Each.{after, BarsEach, EachFit, each_fit, each_has}
use Rattle.aq_script.proofs.Each.{right_each_behind}
use Rattle.aq_script.proofs.Fit.{SectionFits}
use Rattle.aq_script.proofs.Lines.{right_with_line, has_with_line}
use Rattle.aq_script.proofs.Marked.{rule_has, has_fewer}

abbrev pub one_more : ℕ → Placed → ℕ
one_more statements placed = statements + 1

after_statements : (statements : ℕ) (xs : List Placed) → after one_more statements xs ≡ statements + length xs
after_statements statements [] = omega arith
after_statements statements (x ∷ xs) = let e = after_statements (statements + 1) xs in omega arith

module _ (section : Section) (fits : SectionFits section) where
  pub ended_fits : is_fit_by marks (ended section) ≡ true
  ended_fits = (fit_many marks (kinds_of section) (refused_behind section 0) (λ xs. xs) (ended section) (fits.repeated 0)).0

  pub repeats : (statements : ℕ) → AreRepeated (refused_behind section statements) (marks_by marks (ended section))
  repeats statements = (fit_many marks (kinds_of section) (refused_behind section statements) (λ xs. xs) (ended section) (fits.repeated statements)).1

  pub same_begins : same_kinds (kinds_of section) (marks_by marks (ended section)).begins ≡ true
  same_begins = kinds_many marks (kinds_of section) (refused_behind section 0) (λ xs. xs) (ended section) (fits.repeated 0)

  pub ended_has : HasMarks (Spells (ended section)) (Bars (ended section)) (marks_by marks (ended section))
  ended_has = rule_has (ended section) ended_fits

  pub placed_has : HasMarks (SpellsPlaced section) (Bars (ended section)) (marks_by marks (ended section))
  placed_has =
      has_with_line (Spells (ended section)) (ended_has.keeps.not_empty (repeats 0).whole) (Bars (ended section)) (marks_by marks (ended section)) (repeats 0).whole ended_has

  placed_right : (tokens : List PlacedLexeme) → IsRight (SpellsPlaced section) (Bars (ended section)) tokens (read_placed section tokens)
  placed_right tokens =
      right_with_line (Spells (ended section)) (ended_has.keeps.not_empty (repeats 0).whole) (Bars (ended section)) tokens _
      (is_read_right (ended section) ended_fits tokens)

  pub statements_fit : EachFit (kinds_of section) one_more (refused_behind section) (SpellsPlaced section) (λ before. Bars (ended section))
  statements_fit =
      each_fit one_more (refused_behind section) (SpellsPlaced section) (λ before. Bars (ended section)) (marks_by marks (ended section)) (λ before. placed_has) repeats
      (kinds_of section) same_begins

  statements_from : (statements : ℕ) (u rest : List PlacedLexeme) (fault : SqlFault)
      → BarsEach one_more (refused_behind section) (SpellsPlaced section) (λ before. Bars (ended section)) statements u rest fault → BarsStatements section statements u rest fault
  statements_from statements u rest fault (front, behind, xs, s, e, bar) =
      (front, behind, xs, s, e, subst (λ (n : ℕ). BarsStatement section n behind rest fault) (after_statements statements xs) bar)

  pub statements_back : (statements : ℕ) (u rest : List PlacedLexeme) (fault : SqlFault) → BarsStatements section statements u rest fault
      → BarsEach one_more (refused_behind section) (SpellsPlaced section) (λ before. Bars (ended section)) statements u rest fault
  statements_back statements u rest fault (front, behind, xs, s, e, bar) =
      (front, behind, xs, s, e, subst (λ (n : ℕ). BarsStatement section n behind rest fault) (sym (after_statements statements xs)) bar)

  statements_alike : (statements : ℕ) → AreAlike (SpellsStatements section) (SpellsStatements section)
      (BarsEach one_more (refused_behind section) (SpellsPlaced section) (λ before. Bars (ended section)) statements) (BarsStatements section statements)
  statements_alike statements =
      record { spelled = λ x u s. s; spelled_back = λ x u s. s; barred = statements_from statements; barred_back = statements_back statements }

  pub statements_right : (statements : ℕ) (tokens : List PlacedLexeme)
      → IsRight (SpellsStatements section) (BarsStatements section statements) tokens (read_all_statements section statements tokens)
  statements_right statements tokens =
      alike_right (SpellsStatements section) (SpellsStatements section)
      (BarsEach one_more (refused_behind section) (SpellsPlaced section) (λ before. Bars (ended section)) statements) (BarsStatements section statements) tokens
      (read_all_statements section statements tokens) (statements_alike statements)
      (right_each_behind (kinds_of section) one_more (refused_behind section) (SpellsPlaced section) (λ before. Bars (ended section)) statements_fit
      (λ before. read_placed section) (λ before. placed_right) (length tokens) statements tokens (le_refl (length tokens)))

  pub statements_has : (statements : ℕ) → HasMarks (SpellsStatements section) (BarsStatements section statements)
      (record (of_many (refused_behind section statements) (marks_by marks (ended section))) { is_plain = false })
  statements_has statements =
      has_fewer (BarsStatements section statements) (statements_back statements)
      (each_has one_more (refused_behind section) (SpellsPlaced section) (λ before. Bars (ended section)) (marks_by marks (ended section)) (λ before. placed_has) repeats statements)
