-- The first place that is refused in tokens, and the line of a place.
use Rattle.std.specs.Prelude.{◌≡◌, ℕ, List, [], ◌∷◌, ◌++◌, length, ◌⊎◌}
use Rattle.aq_lex.specs.Lexemes.{PlacedLexeme}
use Rattle.aq_grammar.specs.Places.{syntax_error, IsRefusedAt}
use Rattle.aq_grammar.specs.declared.place.RefusedPlace.{RefusedPlace}
use Rattle.aq_script.specs.Sections.{SpellsScript, BarsScript}
use Rattle.aq_script.specs.Reading.{BeginsScript}

-- the first place that is refused in the tokens, told by how many of them come from it on
pub record IsRefusedPlace (tokens : List PlacedLexeme) (found : RefusedPlace) : Type 0 where
  pub front : List PlacedLexeme
  pub place : List PlacedLexeme
  pub whole : tokens ≡ front ++ place
  pub left : found.left ≡ length place
  pub refused : IsRefusedAt SpellsScript BarsScript front place found.fault

-- the same where a byte stands behind the tokens at which none begins: that byte is refused if the tokens begin a script
abbrev pub IsRefusedBefore : List PlacedLexeme → RefusedPlace → Type 0
IsRefusedBefore tokens found = IsRefusedPlace tokens found ⊎ (BeginsScript tokens × (found.left ≡ 0) × (found.fault ≡ syntax_error))

-- the line of the first of the tokens, or that of their end
abbrev pub line_or : ℕ → List PlacedLexeme → ℕ
line_or end [] = end
line_or end (token ∷ tokens) = token.line
