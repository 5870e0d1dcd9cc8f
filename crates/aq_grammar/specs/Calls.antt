-- The rules of the nonterminals lead back to one another: what they spell, what they refuse and how they are read.
-- Each is said for so many calls within one another, and then for any number of them.
use Rattle.std.specs.Prelude.{◌≡◌, ℕ, zero, suc, true, length}
use Rattle.aq_lex.specs.Lexemes.{PlacedLexeme}
use Rattle.aq_grammar.specs.Terminals.{is_of}
use Rattle.aq_grammar.specs.Rules.{Nonterminal, ValueOf, Rule, Form, Bar, SpellsBy, BarsBy}
use Rattle.aq_grammar.specs.Reading.{Reader, Stop, Syntax, read_by}
use Rattle.aq_grammar.specs.Sets.{Marks, marks_by, is_fit_by}

-- the rule of each nonterminal
abbrev pub Rules : Type 1
Rules = (n : Nonterminal) → Rule (ValueOf n)

-- The tokens are the tree by the nonterminal's rule, with fewer calls within one another than so many.
abbrev pub CalledWithin : Rules → ℕ → (n : Nonterminal) → Form (ValueOf n)
CalledWithin rules zero n x u = ⊥
CalledWithin rules (suc most) n x u = SpellsBy (CalledWithin rules most) (rules n) x u

-- the tokens are the tree by the nonterminal's rule
abbrev pub Called : Rules → (n : Nonterminal) → Form (ValueOf n)
Called rules n x u = (most : ℕ) × CalledWithin rules most n x u

-- The place is refused by the nonterminal's rule, with fewer calls around it than so many.
abbrev pub BarredWithin : Rules → ℕ → (n : Nonterminal) → Bar
BarredWithin rules zero n u rest fault = ⊥
BarredWithin rules (suc most) n u rest fault = BarsBy (Called rules) (BarredWithin rules most) (rules n) u rest fault

-- the place is refused by the nonterminal's rule
abbrev pub BarsCalled : Rules → (n : Nonterminal) → Bar
BarsCalled rules n u rest fault = (most : ℕ) × BarredWithin rules most n u rest fault

-- The nonterminal is read, with fewer calls within one another than so many.
abbrev pub called_within : Rules → ℕ → (n : Nonterminal) → Reader (ValueOf n)
called_within rules zero n tokens = Stop Syntax tokens
called_within rules (suc most) n tokens = read_by (called_within rules most) (rules n) tokens

-- The nonterminal is read: no more calls lie within one another than there are tokens, and one.
abbrev pub called : Rules → (n : Nonterminal) → Reader (ValueOf n)
called rules n tokens = called_within rules (suc (length tokens)) n tokens

-- One token of lookahead is enough for each rule, none calls before its first token, and the marks of the nonterminals are those of their rules.
-- A nonterminal may go on with more tokens than its rule does: where a rule ends in a call, no list would be its own part.
pub record AreFit (rules : Rules) (marks : Nonterminal → Marks) : Type 0 where
  pub fit : (n : Nonterminal) → is_fit_by marks (rules n) ≡ true
  pub guarded : (n : Nonterminal) → (marks_by marks (rules n)).is_guarded ≡ true
  pub begins : (n : Nonterminal) → (marks n).begins ≡ (marks_by marks (rules n)).begins
  pub goes_on : (n : Nonterminal) (token : PlacedLexeme) → is_of (marks_by marks (rules n)).goes_on token ≡ true → is_of (marks n).goes_on token ≡ true
  pub opens : (n : Nonterminal) → (marks n).opens ≡ (marks_by marks (rules n)).opens
  pub is_empty : (n : Nonterminal) → (marks n).is_empty ≡ (marks_by marks (rules n)).is_empty
  pub is_plain : (n : Nonterminal) → (marks n).is_plain ≡ (marks_by marks (rules n)).is_plain
