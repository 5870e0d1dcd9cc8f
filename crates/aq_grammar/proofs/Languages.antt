-- What a form keeps whose first tokens are known, and what reading it comes to. Both are said of any form, whatever its rule.
use Rattle.std.specs.Prelude.{◌≡◌, true, false, List, [], ◌∷◌, ◌++◌}
use Rattle.aq_base.specs.declared.fault.SqlFault.{SqlFault}
use Rattle.aq_lex.specs.Lexemes.{PlacedLexeme}
use Rattle.aq_grammar.specs.Terminals.{is_of, begins}
use Rattle.aq_grammar.specs.Rules.{Form, Bar, Begins}
use Rattle.aq_grammar.specs.Reading.{Outcome, Read, Stop, Syntax, Refused}
use Rattle.aq_grammar.specs.Sets.{Marks}
use Rattle.aq_grammar.specs.Places.{IsClear, IsStuck, IsRead}

-- the form has no more than these marks say
pub record KeepsMarks {A : Type 0} (Spelled : Form A) (bars : Bar) (marks : Marks) : Type 0 where
  pub begun : (token : PlacedLexeme) (u : List PlacedLexeme) → Begins Spelled (token ∷ u) → is_of marks.begins token ≡ true
  pub gone_on : (x : A) (u : List PlacedLexeme) (token : PlacedLexeme) → Spelled x u → Begins Spelled (u ++ token ∷ []) → is_of marks.goes_on token ≡ true
  pub not_empty : marks.is_empty ≡ false → (x : A) → Spelled x [] → ⊥
  pub opened : (rest : List PlacedLexeme) (fault : SqlFault) → bars [] rest fault → begins marks.opens rest ≡ true
  pub plain : marks.is_plain ≡ true → (u rest : List PlacedLexeme) (fault : SqlFault) → bars u rest fault → ⊥

-- something is spelled so
abbrev pub IsSpelled : {A : Type 0} → Form A → Type 0
IsSpelled {A} Spelled = (x : A) × (u : List PlacedLexeme) × Spelled x u

-- each beginning that the marks name is one
pub record BeginsSo {A : Type 0} (Spelled : Form A) (marks : Marks) : Type 0 where
  pub begin : (token : PlacedLexeme) → is_of marks.begins token ≡ true → Begins Spelled (token ∷ [])
  pub empty : marks.is_empty ≡ true → (x : A) × Spelled x []

-- what stands before a place that is refused begins the form
abbrev pub IsBehindBeginning : {A : Type 0} → Form A → Bar → Type 0
IsBehindBeginning Spelled bars = (u rest : List PlacedLexeme) (fault : SqlFault) → bars u rest fault → Begins Spelled u

-- the form has these marks
pub record HasMarks {A : Type 0} (Spelled : Form A) (bars : Bar) (marks : Marks) : Type 0 where
  pub keeps : KeepsMarks Spelled bars marks
  pub some : IsSpelled Spelled
  pub begins_so : BeginsSo Spelled marks
  pub barred : IsBehindBeginning Spelled bars

-- the front begins the form and isn't whole, and no token that comes goes on with it
pub record IsStopped {A : Type 0} (Spelled : Form A) (bars : Bar) (front rest : List PlacedLexeme) : Type 0 where
  pub clear : IsClear bars front rest
  pub begun : Begins Spelled front
  pub part : (x : A) → Spelled x front → ⊥
  pub stuck : IsStuck Spelled bars front rest

-- the front begins the form, and what comes is refused
pub record IsRefusal {A : Type 0} (Spelled : Form A) (bars : Bar) (fault : SqlFault) (front rest : List PlacedLexeme) : Type 0 where
  pub clear : IsClear bars front rest
  pub begun : Begins Spelled front
  pub barred : bars front rest fault

abbrev pub Explains : {A : Type 0} → Form A → Bar → Outcome A → List PlacedLexeme → Type 0
Explains Spelled bars (Read x rest) front = IsRead Spelled bars x front rest
Explains Spelled bars (Stop Syntax rest) front = IsStopped Spelled bars front rest
Explains Spelled bars (Stop (Refused fault) rest) front = IsRefusal Spelled bars fault front rest

abbrev pub rest_of : {A : Type 0} → Outcome A → List PlacedLexeme
rest_of (Read x rest) = rest
rest_of (Stop reason rest) = rest

-- the outcome is right for the tokens
pub record IsRight {A : Type 0} (Spelled : Form A) (bars : Bar) (tokens : List PlacedLexeme) (outcome : Outcome A) : Type 0 where
  pub front : List PlacedLexeme
  pub whole : tokens ≡ front ++ rest_of outcome
  pub explained : Explains Spelled bars outcome front
