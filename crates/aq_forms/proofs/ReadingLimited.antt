-- What is read of tokens that spell a tree, where no token comes that goes on with it: the tree, or a place among them is refused.
use Rattle.std.proofs.Common.{◌≡◌, false, List, ◌∷◌, ◌++◌, ◌⊎◌, inl, inr, refl, sym, subst}
use Rattle.std.proofs.lemmas.Bool.{both_ways}
use Rattle.aq_base.specs.declared.fault.SqlFault.{SqlFault}
use Rattle.aq_lex.specs.Lexemes.{PlacedLexeme}
use Rattle.aq_grammar.specs.Terminals.{is_of, begins}
use Rattle.aq_grammar.specs.Rules.{Form, Bar, Begins}
use Rattle.aq_grammar.specs.Reading.{Outcome, Read, Stop, Syntax, Refused}
use Rattle.aq_grammar.specs.Sets.{Marks}
use Rattle.aq_grammar.specs.Places.{IsStuck, IsRead}
use Rattle.aq_grammar.proofs.Languages.{KeepsMarks, IsRight, Explains, rest_of}
use Rattle.aq_grammar.proofs.Cuts.{Compared, Same, Longer, Shorter, compare}
use Rattle.aq_grammar.proofs.RightForms.{begins_whole, begins_first}

module _ {A : Type 0} (Spelled : Form A) (bars : Bar) (a : Marks) (keeps : KeepsMarks Spelled bars a) (x : A) (u rest : List PlacedLexeme) (spelled : Spelled x u)
    (none : begins a.goes_on rest ≡ false) where
  -- the tree is read, or a place is refused
  abbrev ReadsOrBars : Outcome A → Type 0
  ReadsOrBars outcome =
      (outcome ≡ Read x rest)
      ⊎ ((fault : SqlFault) × (front : List PlacedLexeme) × (place : List PlacedLexeme) × (outcome ≡ Stop (Refused fault) place) × bars front place fault)

  -- no beginning goes on behind the whole
  not_longer : (token : PlacedLexeme) (more front place : List PlacedLexeme) → front ≡ u ++ token ∷ more → rest ≡ token ∷ more ++ place → Begins Spelled front → ⊥
  not_longer token more front place e p begun =
      both_ways (is_of a.goes_on token) (subst (λ w. begins a.goes_on w ≡ false) p none)
      (keeps.gone_on x u token spelled (begins_first Spelled u token more (subst (λ w. Begins Spelled w) e begun)))

  -- nothing is stuck before its end
  not_shorter : (token : PlacedLexeme) (more front place : List PlacedLexeme) → u ≡ front ++ token ∷ more → place ≡ token ∷ more ++ rest
      → IsStuck Spelled bars front place → ⊥
  not_shorter token more front place e p stuck =
      stuck.past token (more ++ rest) p (begins_first Spelled front token more (subst (λ w. Begins Spelled w) e (begins_whole Spelled x u spelled)))

  read_at : (y : A) (front place : List PlacedLexeme) → Compared front place u rest → IsRead Spelled bars y front place → Read y place ≡ Read x rest
  read_at y front place (Same e p) r = let same : x ≡ y = r.only x (subst (λ w. Spelled x w) (sym e) spelled) in cc
  read_at y front place (Longer token more e p) r = absurd (not_longer token more front place e p (begins_whole Spelled y front r.spelled))
  read_at y front place (Shorter token more e p) r = absurd (not_shorter token more front place e p r.stuck)

  explained_at : (outcome : Outcome A) (front : List PlacedLexeme) → Compared front (rest_of outcome) u rest → Explains Spelled bars outcome front → ReadsOrBars outcome
  explained_at (Read y place) front at r = inl (read_at y front place at r)
  explained_at (Stop Syntax place) front (Same e p) r = absurd (r.part x (subst (λ w. Spelled x w) (sym e) spelled))
  explained_at (Stop Syntax place) front (Longer token more e p) r = absurd (not_longer token more front place e p r.begun)
  explained_at (Stop Syntax place) front (Shorter token more e p) r = absurd (not_shorter token more front place e p r.stuck)
  explained_at (Stop (Refused fault) place) front at r = inr (fault, front, place, refl, r.barred)

  pub right_reads : (outcome : Outcome A) → IsRight Spelled bars (u ++ rest) outcome → ReadsOrBars outcome
  right_reads outcome right = explained_at outcome right.front (compare right.front (rest_of outcome) u rest (sym right.whole)) right.explained
