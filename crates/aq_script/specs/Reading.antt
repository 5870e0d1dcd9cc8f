-- When bytes are a script, and which line is refused, with which fault, where they are none.
use Rattle.std.specs.Prelude.{◌≡◌, ℕ, List, [], ◌∷◌, ◌++◌, length, take}
use Rattle.aq_base.specs.declared.fault.SqlFault.{SqlFault}
use Rattle.aq_base.specs.declared.script.Script.{Script}
use Rattle.aq_lex.specs.declared.token.Token.{Token}
use Rattle.aq_lex.specs.Tokens.{Lexes, NoTokenAt}
use Rattle.aq_lex.specs.Lexemes.{PlacedLexeme, lexemes, line_at}
use Rattle.aq_grammar.specs.Rules.{Begins}
use Rattle.aq_grammar.specs.Places.{IsClear, BarsSubqueries, syntax_error, IsRefusedAt}
use Rattle.aq_script.specs.Sections.{SpellsScript, BarsScript}
use Rattle.aq_script.specs.declared.fault.ScriptFault.{ScriptFault}
use Rattle.aq_script.specs.declared.fault.ScriptFault.TheVariants.{NoMemory, Refused}

-- the bytes are tokens, the tokens are the script by the grammar, and at no place a limit is passed, a session's name is repeated or a form is refused
pub record Reads (bytes : List ℕ) (script : Script) : Type 0 where
  pub tokens : List Token
  pub lexed : Lexes bytes tokens
  pub spelled : SpellsScript script (lexemes bytes tokens)
  pub clear : IsClear BarsScript (lexemes bytes tokens) []

-- the bytes are no script
abbrev pub HasNoReading : List ℕ → Type 0
HasNoReading bytes = (script : Script) → Reads bytes script → ⊥

-- the bytes as far as they are tokens: all of them, or those before the first at which no token begins
pub data AreTokens (bytes : List ℕ) : List ℕ → Type 0 where
  All : AreTokens bytes bytes
  Before : (at : ℕ) → NoTokenAt bytes at → AreTokens bytes (take at bytes)

-- the tokens begin a script, and nothing is refused in them
pub record BeginsScript (u : List PlacedLexeme) : Type 0 where
  pub begun : Begins SpellsScript u
  pub clear : IsClear BarsScript u []
  pub no_subquery : IsClear BarsSubqueries u []

-- The line of the first place that is refused, with its fault: that of a token, of the byte at which no token begins, or of the end of the bytes.
pub data IsRefusedLine (bytes : List ℕ) : ℕ → SqlFault → Type 0 where
  AtToken : (front_bytes : List ℕ) (tokens : List Token) (front : List PlacedLexeme) (token : PlacedLexeme) (behind : List PlacedLexeme) (fault : SqlFault) →
      AreTokens bytes front_bytes → Lexes front_bytes tokens → lexemes front_bytes tokens ≡ front ++ token ∷ behind →
      IsRefusedAt SpellsScript BarsScript front (token ∷ behind) fault → IsRefusedLine bytes token.line fault
  AtByte : (at : ℕ) (tokens : List Token) → NoTokenAt bytes at → Lexes (take at bytes) tokens → BeginsScript (lexemes (take at bytes) tokens) →
      IsRefusedLine bytes (line_at bytes at) syntax_error
  AtEnd : (tokens : List Token) (fault : SqlFault) → Lexes bytes tokens → IsRefusedAt SpellsScript BarsScript (lexemes bytes tokens) [] fault →
      IsRefusedLine bytes (line_at bytes (length bytes)) fault

-- a fact of the line that is refused and of its fault
abbrev pub IfRefused : ScriptFault → (ℕ → SqlFault → Type 0) → Type 0
IfRefused NoMemory P = Unit {0}
IfRefused (Refused line fault) P = P line fault
