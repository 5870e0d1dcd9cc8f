-- A statement that is read from a place in tokens, and why none can be read there. A place is a number of tokens before it.
use Rattle.std.specs.Prelude.{◌≡◌, ◌≤◌, ℕ, ◌-◌, List, length, take, drop}
use Rattle.aq_base.specs.Names.{Text as Bytes}
use Rattle.aq_base.specs.declared.fault.SqlFault.{SqlFault}
use Rattle.aq_base.specs.declared.statement.Statement.{Statement}
use Rattle.aq_lex.specs.Lexemes.{PlacedLexeme}
use Rattle.aq_grammar.specs.Rules.{Rule}
use Rattle.aq_grammar.specs.Forms.{unsupported}
use Rattle.aq_grammar.specs.Nonterminals.{Spells, Bars}
use Rattle.aq_grammar.specs.Places.{IsRead, IsRefusedAt, syntax_error}
use Rattle.aq_parse.specs.declared.parsing.Parsed.{Parsed}
use Rattle.aq_parse.specs.declared.parsing.ParseFault.{ParseFault}
use Rattle.aq_parse.specs.declared.parsing.ParseFault.TheVariants.{NoMemory, Limit, Unsupported, Syntax}

-- the tokens from one place to another
abbrev pub between : ℕ → ℕ → List PlacedLexeme → List PlacedLexeme
between from to tokens = take (to - from) (drop from tokens)

-- the tokens between the two places are all that is read there, and the statement is the only one that they spell
pub record IsParsed (rule : Rule Statement) (tokens : List PlacedLexeme) (from : ℕ) (parsed : Parsed) : Type 0 where
  pub behind : from ≤ parsed.next
  pub within : parsed.next ≤ length tokens
  pub read : IsRead (Spells rule) (Bars rule) parsed.statement (between from parsed.next tokens) (drop parsed.next tokens)

-- no statement is read, and of the places from there on this is the first that is refused
pub record IsRefusedStatement (rule : Rule Statement) (tokens : List PlacedLexeme) (from at : ℕ) (fault : SqlFault) : Type 0 where
  pub behind : from ≤ at
  pub within : at ≤ length tokens
  pub refused : IsRefusedAt (Spells rule) (Bars rule) (between from at tokens) (drop at tokens) fault
  pub none_read : (parsed : Parsed) → IsParsed rule tokens from parsed → ⊥

-- neither a form that is known and not supported, nor a syntax error
pub record IsLimit (fault : SqlFault) : Type 0 where
  pub supported : (text : Bytes) → fault ≡ unsupported text → ⊥
  pub no_syntax_error : fault ≡ syntax_error → ⊥

abbrev pub IsParseFault : Rule Statement → List PlacedLexeme → ℕ → ParseFault → Type 0
IsParseFault rule tokens from NoMemory = Unit {0}
IsParseFault rule tokens from (Limit at fault) = IsRefusedStatement rule tokens from at fault × IsLimit fault
IsParseFault rule tokens from (Unsupported at name) = IsRefusedStatement rule tokens from at (unsupported name)
IsParseFault rule tokens from (Syntax at) = IsRefusedStatement rule tokens from at syntax_error

-- the fault of a place, as it is told
abbrev pub IsToldAs : ℕ → SqlFault → ParseFault → Type 0
IsToldAs at fault NoMemory = ⊥
IsToldAs at fault (Limit place said) = (place ≡ at) × (said ≡ fault) × IsLimit said
IsToldAs at fault (Unsupported place name) = (place ≡ at) × (fault ≡ unsupported name)
IsToldAs at fault (Syntax place) = (place ≡ at) × (fault ≡ syntax_error)

-- the same of a place in so many tokens, which is the tokens from there on
abbrev pub IsPlaceTold : ℕ → List PlacedLexeme × SqlFault → ParseFault → Type 0
IsPlaceTold count (place, fault) told = IsToldAs (count - length place) fault told
