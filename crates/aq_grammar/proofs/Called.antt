-- What holds of every rule holds of the nonterminals, whose rules lead back to one another.
use Rattle.std.proofs.Common.{◌≡◌, ℕ, zero, suc, ◌<◌, max, true, inl, inr, List, [], ◌∷◌, ◌++◌, length, sym, ◌∙◌, subst, arith, le_refl}
use Rattle.std.proofs.Math.Nat.{le-max_left, le-max_right}
use Rattle.aq_lex.specs.Lexemes.{PlacedLexeme}
use Rattle.aq_grammar.specs.Terminals.{Terminal, is_of, begins}
use Rattle.aq_grammar.specs.Rules.{Nonterminal, ValueOf, Rule, Form, Bar, BarsNone, SpellsBy, BarsBy}
use Rattle.aq_grammar.specs.Reading.{read_by}
use Rattle.aq_grammar.specs.Sets.{Marks, marks_by, is_fit_by}
use Rattle.aq_grammar.specs.Calls.{Rules, AreFit, CalledWithin, Called, BarredWithin, BarsCalled, called}
use Rattle.aq_grammar.proofs.Languages.{KeepsMarks, HasMarks, BeginsSo, IsSpelled, IsBehindBeginning, IsRight}
use Rattle.aq_grammar.proofs.Keeping.{keeps_by}
use Rattle.aq_grammar.proofs.Beginning.{begins_by, barred_by}
use Rattle.aq_grammar.proofs.RightForms.{AreAlike, alike_right}
use Rattle.aq_grammar.proofs.RightRules.{right_by}
use Rattle.aq_grammar.proofs.Fixpoint.{IsPart, IsPartOfBar, begins_part, within_part, Rises, AtSome, BarsAtSome, called_is, barred_is}
use Rattle.aq_grammar.proofs.Fuel.{called_reads}

-- a form that has less keeps the marks too
pub keeps_part :
    {A : Type 0} (Spelled Part : Form A) (bars fewer : Bar) (marks : Marks) → IsPart Part Spelled → IsPartOfBar fewer bars → KeepsMarks Spelled bars marks
    → KeepsMarks Part fewer marks
keeps_part Spelled Part bars fewer marks part less keeps =
    record {
      begun = λ token u b. keeps.begun token u (begins_part Part Spelled part (token ∷ u) b);
      gone_on = λ x u token spelled b. keeps.gone_on x u token (part x u spelled) (begins_part Part Spelled part (u ++ token ∷ []) b);
      not_empty = λ e x spelled. keeps.not_empty e x (part x [] spelled);
      opened = λ rest fault barred. keeps.opened rest fault (less [] rest fault barred);
      plain = λ e u rest fault barred. keeps.plain e u rest fault (less u rest fault barred);
    }

-- what spells nothing and refuses nothing keeps any marks
nothing_keeps : {A : Type 0} (Spelled : Form A) (marks : Marks) → ((x : A) (u : List PlacedLexeme) → Spelled x u → ⊥) → KeepsMarks Spelled BarsNone marks
nothing_keeps Spelled marks none =
    record {
      begun = λ token u b. absurd (none b.1 ((token ∷ u) ++ b.0) b.2);
      gone_on = λ x u token spelled b. absurd (none x u spelled);
      not_empty = λ e x spelled. none x [] spelled;
      opened = λ rest fault barred. absurd barred;
      plain = λ e u rest fault barred. barred;
    }

keeps_at_some :
    {A : Type 0} (levels : ℕ → Form A) (marks : Marks) → Rises levels → ((k : ℕ) → KeepsMarks (levels k) BarsNone marks) → KeepsMarks (AtSome levels) BarsNone marks
keeps_at_some levels marks rise keeps =
    record {
      begun = λ token u b. (keeps b.2.0).begun token u (b.0, b.1, b.2.1);
      gone_on =
          λ x u token spelled b.
          (keeps (max spelled.0 b.2.0)).gone_on x u token (rise spelled.0 (max spelled.0 b.2.0) (le-max_left spelled.0 b.2.0) x u spelled.1)
          (b.0, b.1, rise b.2.0 (max spelled.0 b.2.0) (le-max_right spelled.0 b.2.0) b.1 ((u ++ token ∷ []) ++ b.0) b.2.1);
      not_empty = λ e x spelled. (keeps spelled.0).not_empty e x spelled.1;
      opened = λ rest fault barred. absurd barred;
      plain = λ e u rest fault barred. barred;
    }

bars_keep_at_some :
    {A : Type 0} (Spelled : Form A) (levels : ℕ → Bar) (marks : Marks) → ((k : ℕ) → KeepsMarks Spelled (levels k) marks) → KeepsMarks Spelled (BarsAtSome levels) marks
bars_keep_at_some Spelled levels marks keeps =
    record {
      begun = (keeps 0).begun;
      gone_on = (keeps 0).gone_on;
      not_empty = (keeps 0).not_empty;
      opened = λ rest fault barred. (keeps barred.0).opened rest fault barred.1;
      plain = λ e u rest fault barred. (keeps barred.0).plain e u rest fault barred.1;
    }

-- a form that has more begins so too
begins_so_alike : {A : Type 0} (Spelled More : Form A) (marks : Marks) → IsPart Spelled More → BeginsSo Spelled marks → BeginsSo More marks
begins_so_alike Spelled More marks part so =
    record {
      begin = λ token e. begins_part Spelled More part (token ∷ []) (so.begin token e);
      empty = λ e. ((so.empty e).0, part (so.empty e).0 [] (so.empty e).1);
    }

module _ (rules : Rules) (marks : Nonterminal → Marks) (fits : AreFit rules marks) where
  -- the marks of a nonterminal are those of its rule
  rule_keeps :
      (n : Nonterminal) (Spelled : Form (ValueOf n)) (bars : Bar) → KeepsMarks Spelled bars (marks_by marks (rules n)) → KeepsMarks Spelled bars (marks n)
  rule_keeps n Spelled bars keeps =
      record {
        begun = λ token u b. subst (λ (kinds : List Terminal). is_of kinds token ≡ true) (sym (fits.begins n)) (keeps.begun token u b);
        gone_on = λ x u token spelled b. fits.goes_on n token (keeps.gone_on x u token spelled b);
        not_empty = λ e. keeps.not_empty (sym (fits.is_empty n) ∙ e);
        opened = λ rest fault barred. subst (λ (kinds : List Terminal). begins kinds rest ≡ true) (sym (fits.opens n)) (keeps.opened rest fault barred);
        plain = λ e. keeps.plain (sym (fits.is_plain n) ∙ e);
      }

  rule_begins : (n : Nonterminal) (Spelled : Form (ValueOf n)) → BeginsSo Spelled (marks_by marks (rules n)) → BeginsSo Spelled (marks n)
  rule_begins n Spelled so =
      record {
        begin = λ token e. so.begin token (subst (λ (kinds : List Terminal). is_of kinds token ≡ true) (fits.begins n) e);
        empty = λ e. so.empty (sym (fits.is_empty n) ∙ e);
      }

  rule_is_alike : (n : Nonterminal) → AreAlike (SpellsBy (Called rules) (rules n)) (Called rules n) (BarsBy (Called rules) (BarsCalled rules) (rules n)) (BarsCalled rules n)
  rule_is_alike n =
      record {
        spelled = λ x u. (called_is rules n x u).1;
        spelled_back = λ x u. (called_is rules n x u).0;
        barred = λ u rest fault. (barred_is rules n u rest fault).1;
        barred_back = λ u rest fault. (barred_is rules n u rest fault).0;
      }

  within_keeps : (most : ℕ) (n : Nonterminal) → KeepsMarks (CalledWithin rules most n) BarsNone (marks n)
  within_keeps zero n = nothing_keeps (CalledWithin rules 0 n) (marks n) (λ x u spelled. spelled)
  within_keeps (suc most) n =
      rule_keeps n (CalledWithin rules (suc most) n) BarsNone
      (keeps_part (SpellsBy (CalledWithin rules most) (rules n)) (CalledWithin rules (suc most) n) (BarsBy (CalledWithin rules most) (λ m. BarsNone) (rules n)) BarsNone
      (marks_by marks (rules n)) (λ x u spelled. spelled) (λ u rest fault barred. absurd barred)
      (keeps_by (CalledWithin rules most) (λ m. BarsNone) marks (within_keeps most) (rules n) (fits.fit n)))

  barred_within_keeps : (most : ℕ) (n : Nonterminal) → KeepsMarks (Called rules n) (BarredWithin rules most n) (marks n)
  barred_within_keeps zero n =
      keeps_part (Called rules n) (Called rules n) BarsNone (BarredWithin rules 0 n) (marks n) (λ x u spelled. spelled) (λ u rest fault barred. barred)
      (keeps_at_some (λ k. CalledWithin rules k n) (marks n) (λ k more less. within_part rules k more less n) (λ k. within_keeps k n))
  barred_within_keeps (suc most) n =
      rule_keeps n (Called rules n) (BarredWithin rules (suc most) n)
      (keeps_part (SpellsBy (Called rules) (rules n)) (Called rules n) (BarsBy (Called rules) (BarredWithin rules most) (rules n)) (BarredWithin rules (suc most) n)
      (marks_by marks (rules n)) (λ x u. (called_is rules n x u).0) (λ u rest fault barred. barred)
      (keeps_by (Called rules) (BarredWithin rules most) marks (barred_within_keeps most) (rules n) (fits.fit n)))

  -- a nonterminal keeps its marks
  pub called_keeps : (n : Nonterminal) → KeepsMarks (Called rules n) (BarsCalled rules n) (marks n)
  called_keeps n = bars_keep_at_some (Called rules n) (λ k. BarredWithin rules k n) (marks n) (λ k. barred_within_keeps k n)

  -- where each nonterminal spells something
  module _ (some : (n : Nonterminal) → IsSpelled (Called rules n)) where
    -- each beginning that the marks of a nonterminal name is one
    pub called_begins : (n : Nonterminal) → BeginsSo (Called rules n) (marks n)
    called_begins n =
        rule_begins n (Called rules n)
        (begins_so_alike (SpellsBy (Called rules) (rules n)) (Called rules n) (marks_by marks (rules n)) (λ x u. (called_is rules n x u).1)
        (begins_by (Called rules) marks some (rules n) (fits.fit n) (inl (fits.guarded n))))

    within_barred : (most : ℕ) (n : Nonterminal) → IsBehindBeginning (Called rules n) (BarredWithin rules most n)
    within_barred zero n u rest fault barred = absurd barred
    within_barred (suc most) n u rest fault barred =
        begins_part (SpellsBy (Called rules) (rules n)) (Called rules n) (λ x v. (called_is rules n x v).1) u
        (barred_by (Called rules) (BarredWithin rules most) marks some (within_barred most) (rules n) (fits.fit n) u rest fault barred)

    -- what stands before a place that a nonterminal refuses begins it
    pub called_barred : (n : Nonterminal) → IsBehindBeginning (Called rules n) (BarsCalled rules n)
    called_barred n u rest fault barred = within_barred barred.0 n u rest fault barred.1

    -- a nonterminal has its marks
    pub called_has : (n : Nonterminal) → HasMarks (Called rules n) (BarsCalled rules n) (marks n)
    called_has n = record { keeps = called_keeps n; some = some n; begins_so = called_begins n; barred = called_barred n }

    right_of_fewer :
        (most : ℕ) (n : Nonterminal) (tokens : List PlacedLexeme) → length tokens < most → IsRight (Called rules n) (BarsCalled rules n) tokens (called rules n tokens)
    right_of_fewer zero n tokens less = absurd (omega arith)
    right_of_fewer (suc most) n tokens less =
        subst (IsRight (Called rules n) (BarsCalled rules n) tokens) (sym (called_reads rules marks fits n tokens))
        (alike_right (SpellsBy (Called rules) (rules n)) (Called rules n) (BarsBy (Called rules) (BarsCalled rules) (rules n)) (BarsCalled rules n) tokens
        (read_by (called rules) (rules n) tokens) (rule_is_alike n)
        (right_by (Called rules) (BarsCalled rules) marks (called rules) called_has (length tokens) (λ m rest shorter. right_of_fewer most m rest (omega arith))
        (rules n) (fits.fit n) tokens (inr (le_refl (length tokens), fits.guarded n))))

    -- reading a nonterminal is right
    pub right_called : (n : Nonterminal) (tokens : List PlacedLexeme) → IsRight (Called rules n) (BarsCalled rules n) tokens (called rules n tokens)
    right_called n tokens = right_of_fewer (suc (length tokens)) n tokens (le_refl (suc (length tokens)))

    -- reading any fit rule over the nonterminals is right
    pub right_rule :
        {A : Type 0} (r : Rule A) → is_fit_by marks r ≡ true → (tokens : List PlacedLexeme)
        → IsRight (SpellsBy (Called rules) r) (BarsBy (Called rules) (BarsCalled rules) r) tokens (read_by (called rules) r tokens)
    right_rule r fit tokens =
        right_by (Called rules) (BarsCalled rules) marks (called rules) called_has (suc (length tokens)) (λ n rest less. right_called n rest) r fit tokens
        (inl (le_refl (suc (length tokens))))
