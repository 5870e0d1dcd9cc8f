-- The place that is refused where reading stops, and its fault.
use Rattle.std.specs.Prelude.{◌≡◌, ℕ, ℤ, ◌-◌, ◌&&◌, List, [], ◌∷◌, length, drop, Option, Some, None, nat_lt, if◌then◌else◌}
use Rattle.aq_base.specs.Names.{Text as Bytes, is_short}
use Rattle.aq_base.specs.declared.fault.SqlFault.{SqlFault}
use Rattle.aq_lex.specs.Lexemes.{PlacedLexeme}
use Rattle.aq_grammar.specs.Reading.{Reason, Syntax, Refused}
use Rattle.aq_grammar.specs.Terminals.{is_literal}
use Rattle.aq_grammar.specs.Places.{own_fault, long_name, out_of_range, long_text, syntax_error, begins_subquery, subquery_fault}
use Rattle.aq_grammar.specs.declared.place.RefusedPlace.{RefusedPlace}

abbrev pub or_own : Option SqlFault → SqlFault → SqlFault
or_own None fault = fault
or_own (Some own) fault = own

-- the fault of a name and of a text that are too long, and of an integer that 64 bits with a sign don't have
abbrev pub name_fault : Option Bytes → Option SqlFault
name_fault None = None
name_fault (Some name) = if is_short name then None else Some (long_name name)

abbrev pub text_fault : Option Bytes → Option SqlFault
text_fault None = None
text_fault (Some text) = if is_literal text then None else Some long_text

abbrev pub integer_fault : Option ℤ → Option SqlFault
integer_fault None = Some out_of_range
integer_fault (Some number) = None

-- the fault of a first token that is too long or too large
abbrev pub first_fault : List PlacedLexeme → Option SqlFault
first_fault [] = None
first_fault (token ∷ rest) = own_fault token.lexeme

-- the fault of tokens with which no form goes on: that of a first token that is too long, or of a subquery
abbrev pub syntax_fault : List PlacedLexeme → SqlFault
syntax_fault [] = syntax_error
syntax_fault (token ∷ rest) = or_own (own_fault token.lexeme) (if begins_subquery (token ∷ rest) then subquery_fault else syntax_error)

abbrev pub fault_of : Reason → List PlacedLexeme → SqlFault
fault_of Syntax rest = syntax_fault rest
fault_of (Refused fault) rest = fault

-- the rest, with one token before it
abbrev pub one_before : List PlacedLexeme → List PlacedLexeme → List PlacedLexeme
one_before tokens rest = drop (length tokens - length rest - 1) tokens

-- the place in all tokens that is refused where reading stops at the rest, and its fault: a subquery is refused at its `(`
abbrev pub refused_place : List PlacedLexeme → Reason → List PlacedLexeme → List PlacedLexeme × SqlFault
refused_place tokens reason rest =
    if nat_lt (length rest) (length tokens) && begins_subquery (one_before tokens rest) then (one_before tokens rest, subquery_fault) else (rest, fault_of reason rest)

-- why reading stops, where a fault is told or none is
abbrev pub reason_of : Option SqlFault → Reason
reason_of None = Syntax
reason_of (Some fault) = Refused fault

-- the last so many tokens
abbrev pub last_tokens : ℕ → List PlacedLexeme → List PlacedLexeme
last_tokens left tokens = drop (length tokens - left) tokens

-- the place has so many tokens from it on, and this fault
abbrev pub IsPlace : RefusedPlace → List PlacedLexeme × SqlFault → Type 0
IsPlace found (place, fault) = (found.left ≡ length place) × (found.fault ≡ fault)
