-- Which token of a text is refused, and with which fault: the first that passes a limit, or through which the tokens begin no form, or at
-- which a form begins that is known and not supported.
use Rattle.std.specs.Prelude.{◌≡◌, ◌^◌, Bool, true, false, List, [], ◌∷◌, ◌++◌, Option, Some, None, codes, nat_lt, if◌then◌else◌, ◌⊎◌}
use Rattle.aq_base.specs.Names.{Text as Bytes, is_short}
use Rattle.aq_base.specs.declared.fault.SqlFault.{SqlFault}
use Rattle.aq_lex.specs.declared.token.Symbol.TheVariants.{OpenParen}
use Rattle.aq_lex.specs.Lexemes.{PlacedLexeme, Lexeme, Word, QuotedName, Integer, Text, Symbol, Directive}
use Rattle.aq_grammar.specs.Terminals.{Keyword, Sign, is_literal, begin_with}
use Rattle.aq_grammar.specs.Rules.{Form, Bar, Begins}
use Rattle.aq_grammar.specs.Forms.{limit, unsupported}

-- no place within the front is refused
abbrev pub IsClear : Bar → List PlacedLexeme → List PlacedLexeme → Type 0
IsClear bars front rest =
    (before : List PlacedLexeme) (token : PlacedLexeme) (behind : List PlacedLexeme) (fault : SqlFault) → front ≡ before ++ token ∷ behind → bars before (token ∷ behind ++ rest) fault → ⊥

-- the form doesn't go on with the token behind the front, and nothing is refused there
pub record IsStuck {A : Type 0} (Spelled : Form A) (bars : Bar) (front rest : List PlacedLexeme) : Type 0 where
  pub past : (token : PlacedLexeme) (behind : List PlacedLexeme) → rest ≡ token ∷ behind → Begins Spelled (front ++ token ∷ []) → ⊥
  pub free : (fault : SqlFault) → bars front rest fault → ⊥

-- the front is all that is read: the tree is the only one that it spells
pub record IsRead {A : Type 0} (Spelled : Form A) (bars : Bar) (x : A) (front rest : List PlacedLexeme) : Type 0 where
  pub clear : IsClear bars front rest
  pub spelled : Spelled x front
  pub only : (y : A) → Spelled y front → y ≡ x
  pub stuck : IsStuck Spelled bars front rest

-- ---- the fault of a place

abbrev pub syntax_error : SqlFault
syntax_error = record { code = record { 0 = codes "42601" }; text = codes "syntax error"; detail = None }

-- `name "NAME" is too long`
abbrev pub long_name : Bytes → SqlFault
long_name name = record { code = record { 0 = codes "42622" }; text = codes "name " ++ 34 ∷ (name ++ 34 ∷ codes " is too long"); detail = None }

abbrev pub out_of_range : SqlFault
out_of_range = record { code = record { 0 = codes "22003" }; text = codes "bigint out of range"; detail = None }

abbrev pub long_text : SqlFault
long_text = limit (codes "more than 1000 bytes in a text")

-- a name above 63 bytes, a number above 2 ^ 63 - 1, a text above 1,000 bytes, wherever it stands
abbrev pub own_fault : Lexeme → Option SqlFault
own_fault (Word text) = if is_short text then None else Some (long_name text)
own_fault (QuotedName text) = if is_short text then None else Some (long_name text)
own_fault (Integer number) = if nat_lt number (2 ^ 63) then None else Some out_of_range
own_fault (Text text) = if is_literal text then None else Some long_text
own_fault (Symbol symbol) = None
own_fault (Directive directive) = None

-- `(` SELECT
abbrev pub begins_subquery : List PlacedLexeme → Bool
begins_subquery tokens = begin_with (Sign OpenParen ∷ Keyword (codes "select") ∷ []) tokens

abbrev pub subquery_fault : SqlFault
subquery_fault = unsupported (codes "subqueries are not supported")

-- where nothing is barred: a subquery, or a token that doesn't go on with what stands before it
abbrev pub UnbarredFault : {A : Type 0} → Form A → List PlacedLexeme → PlacedLexeme → Bool → SqlFault → Type 0
UnbarredFault Spelled front token true fault = fault ≡ subquery_fault
UnbarredFault Spelled front token false fault = (Begins Spelled (front ++ token ∷ []) → ⊥) × (fault ≡ syntax_error)

abbrev pub TokenFault : {A : Type 0} → Form A → Bar → List PlacedLexeme → PlacedLexeme → List PlacedLexeme → Option SqlFault → SqlFault → Type 0
TokenFault Spelled bars front token behind (Some own) fault = fault ≡ own
TokenFault Spelled bars front token behind None fault =
    bars front (token ∷ behind) fault
    ⊎ (((barred : SqlFault) → bars front (token ∷ behind) barred → ⊥) × UnbarredFault Spelled front token (begins_subquery (token ∷ behind)) fault)

-- the fault of the first of the tokens, or of their end, where these stand before them
abbrev pub FaultAt : {A : Type 0} → Form A → Bar → List PlacedLexeme → List PlacedLexeme → SqlFault → Type 0
FaultAt {A} Spelled bars front [] fault = ((x : A) → Spelled x front → ⊥) × (fault ≡ syntax_error)
FaultAt Spelled bars front (token ∷ behind) fault = TokenFault Spelled bars front token behind (own_fault token.lexeme) fault

abbrev pub BarsSubqueries : Bar
BarsSubqueries front rest fault = begins_subquery rest ≡ true

-- the first place that is refused is behind the front, with the fault
pub record IsRefusedAt {A : Type 0} (Spelled : Form A) (bars : Bar) (front rest : List PlacedLexeme) (fault : SqlFault) : Type 0 where
  pub clear : IsClear bars front rest
  pub no_subquery : IsClear BarsSubqueries front rest
  pub begun : Begins Spelled front
  pub fault_at : FaultAt Spelled bars front rest fault
