-- The model of `Lexed`.
use Rattle.std.specs.Prelude.{List}
use Rattle.aq_lex.specs.declared.lexed.Lexed.TheInside.{Inside}
use Rattle.aq_lex.specs.Lexemes.{PlacedLexeme, lexemes, AreTexts, IsFirstLine}

abbrev pub lexed_view : Inside → List PlacedLexeme
lexed_view a = lexemes a.bytes.now a.tokens.now

pub record IsLexed (a : Inside) : Type 0 where
  pub texts : AreTexts a.bytes.now a.tokens.now
  pub line : IsFirstLine a.bytes.now a.tokens.now a.line
