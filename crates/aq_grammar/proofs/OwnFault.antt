-- The fault of a first token, by what kind of token it is.
use Rattle.std.proofs.Common.{◌≡◌, ℕ, ◌^◌, Bool, true, false, List, [], ◌∷◌, Option, Some, None, ℤ, pos, refl, ap, ◌∙◌, sym, nat_lt, if◌then◌else◌}
use Rattle.aq_base.specs.Names.{Text as Bytes}
use Rattle.aq_base.specs.declared.fault.SqlFault.{SqlFault}
use Rattle.aq_lex.specs.declared.token.TokenKind.{TokenKind}
use Rattle.aq_lex.specs.declared.token.TokenKind.TheVariants as kinds
use Rattle.aq_lex.specs.Lexemes.{PlacedLexeme, Lexeme, Word, QuotedName, Integer, Text, Symbol, Directive, first_kind, first_text, first_integer, kind_of, text_of, integer_of}
use Rattle.aq_grammar.specs.Places.{own_fault, out_of_range}
use Rattle.aq_grammar.specs.Stopping.{name_fault, text_fault, integer_fault, first_fault}
use Rattle.aq_grammar.proofs.Tokens.{small_is}

abbrev pub kind_fault : Option TokenKind → Option Bytes → Option ℤ → Option SqlFault
kind_fault None text number = None
kind_fault (Some kinds.Word) text number = name_fault text
kind_fault (Some kinds.QuotedName) text number = name_fault text
kind_fault (Some kinds.Integer) text number = integer_fault number
kind_fault (Some kinds.Text) text number = text_fault text
kind_fault (Some (kinds.Symbol symbol)) text number = None
kind_fault (Some (kinds.Directive directive)) text number = None

range_fault : (fits : Bool) (number : ℕ) → (if fits then None else Some out_of_range) ≡ integer_fault (if fits then Some (pos number) else None)
range_fault true number = refl
range_fault false number = refl

lexeme_fault : (lexeme : Lexeme) → own_fault lexeme ≡ kind_fault (Some (kind_of lexeme)) (text_of lexeme) (integer_of lexeme)
lexeme_fault (Word text) = refl
lexeme_fault (QuotedName text) = refl
lexeme_fault (Integer number) = range_fault (nat_lt number (2 ^ 63)) number ∙ ap integer_fault (sym (small_is number))
lexeme_fault (Text text) = refl
lexeme_fault (Symbol symbol) = refl
lexeme_fault (Directive directive) = refl

pub fault_by_kind : (tokens : List PlacedLexeme) → first_fault tokens ≡ kind_fault (first_kind tokens) (first_text tokens) (first_integer tokens)
fault_by_kind [] = refl
fault_by_kind (token ∷ tokens) = lexeme_fault token.lexeme
