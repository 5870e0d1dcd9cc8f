-- Finding the tokens, blanks and comments of bytes from left to right.
use Rattle.std.specs.Prelude.{ℕ, suc, ◌+◌, ◌-◌, Bool, true, false, ◌&&◌, ◌||◌, ◌==◌, List, [], ◌∷◌, take, drop, Option, Some, None, option_map, option_and_then, codes, nat_eq, if◌then◌else◌}
use Rattle.std.specs.List.{starts_with}
use Rattle.std.specs.Str.{is_utf8}
use Rattle.std.specs.Char.{is_ascii_digit}
use Rattle.aq_lex.specs.declared.token.Symbol.{Symbol as SymbolName}
use Rattle.aq_lex.specs.declared.token.Symbol.TheVariants.{OpenParen, CloseParen, Comma, Semicolon, Dot, Plus, Minus, Times, Equal, Unequal, Less, AtMost, Greater, AtLeast, DollarQuote}
use Rattle.aq_lex.specs.declared.token.Directive.TheVariants.{Setup, Session, Schedule}
use Rattle.aq_lex.specs.declared.token.TokenKind.TheVariants.{Word, QuotedName, Integer, Text, Symbol, Directive}
use Rattle.aq_lex.specs.declared.token.Token.{Token as TokenRecord}
use Rattle.aq_lex.specs.declared.piece.Piece.{Piece}
use Rattle.aq_lex.specs.declared.piece.Piece.TheVariants.{Blank, Comment, Token}
use Rattle.aq_lex.specs.declared.piece.Class.{Class}
use Rattle.aq_lex.specs.declared.piece.Class.TheVariants.{InWord, Digit, InLine}
use Rattle.aq_lex.specs.Tokens.{is_blank, begins_word, goes_on_in_word, is_in_line}

abbrev pub is_of_class : Class → ℕ → Bool
is_of_class InWord byte = goes_on_in_word byte
is_of_class Digit byte = is_ascii_digit byte
is_of_class InLine byte = is_in_line byte

-- the number of bytes before the first that fails the test
abbrev pub front_len : (ℕ → Bool) → List ℕ → ℕ
front_len test [] = 0
front_len test (byte ∷ bytes) = if test byte then suc (front_len test bytes) else 0

-- The number of bytes up to a quote that ends a text, and that quote. The test says that an odd number of quotes stand
-- directly before the bytes.
abbrev pub quote_end : ℕ → Bool → List ℕ → Option ℕ
quote_end quote false [] = None
quote_end quote true [] = Some 0
quote_end quote false (byte ∷ bytes) = option_map (λ len. suc len) (quote_end quote (byte == quote) bytes)
quote_end quote true (byte ∷ bytes) = if byte == quote then option_map (λ len. suc len) (quote_end quote false bytes) else Some 0

-- the length of a text between quotes, from the bytes behind the first quote
abbrev pub literal_len : ℕ → List ℕ → Option ℕ
literal_len quote bytes =
    option_and_then (λ len. if is_utf8 (take (len - 1) bytes) then Some (suc len) else None) (quote_end quote false bytes)

abbrev pub name_at : List ℕ → Option (Piece × ℕ)
name_at bytes = option_and_then (λ len. if len == 2 then None else Some (Token QuotedName, len)) (literal_len 34 bytes)

abbrev pub text_at : List ℕ → Option (Piece × ℕ)
text_at bytes = option_map (λ len. (Token Text, len)) (literal_len 39 bytes)

-- the comment whose `--` stands before the bytes
abbrev pub comment_at : List ℕ → Option (Piece × ℕ)
comment_at bytes = if is_utf8 (take (front_len is_in_line bytes) bytes) then Some (Comment, front_len is_in_line bytes + 2) else None

abbrev pub directive_at : List ℕ → Option (Piece × ℕ)
directive_at bytes =
    if starts_with nat_eq bytes (codes "\\setup") then Some (Token (Directive Setup), 6)
    else (if starts_with nat_eq bytes (codes "\\session") then Some (Token (Directive Session), 8)
    else (if starts_with nat_eq bytes (codes "\\schedule") then Some (Token (Directive Schedule), 9) else None))

-- the symbol of two bytes
abbrev pub long_symbol : ℕ → ℕ → Option SymbolName
long_symbol byte next =
    if byte == 60 && next == 61 then Some AtMost
    else (if byte == 60 && next == 62 then Some Unequal
    else (if byte == 62 && next == 61 then Some AtLeast
    else (if byte == 33 && next == 61 then Some Unequal
    else (if byte == 36 && next == 36 then Some DollarQuote else None))))

-- the symbol of one byte
abbrev pub short_symbol : ℕ → Option SymbolName
short_symbol byte =
    if byte == 40 then Some OpenParen
    else (if byte == 41 then Some CloseParen
    else (if byte == 44 then Some Comma
    else (if byte == 59 then Some Semicolon
    else (if byte == 46 then Some Dot
    else (if byte == 43 then Some Plus
    else (if byte == 45 then Some Minus
    else (if byte == 42 then Some Times
    else (if byte == 61 then Some Equal
    else (if byte == 60 then Some Less
    else (if byte == 62 then Some Greater else None))))))))))

abbrev pub long_symbol_at : ℕ → List ℕ → Option SymbolName
long_symbol_at byte [] = None
long_symbol_at byte (next ∷ bytes) = long_symbol byte next

-- a symbol of two bytes before one of one byte
abbrev pub longer_symbol : Option SymbolName → Option SymbolName → Option (Piece × ℕ)
longer_symbol (Some long) short = Some (Token (Symbol long), 2)
longer_symbol None short = option_map (λ symbol. (Token (Symbol symbol), 1)) short

-- a byte comes first
abbrev pub begins_with : ℕ → List ℕ → Bool
begins_with first [] = false
begins_with first (byte ∷ bytes) = byte == first

abbrev pub mark_at : ℕ → List ℕ → Option (Piece × ℕ)
mark_at byte bytes =
    if byte == 45 && begins_with 45 bytes then comment_at (drop 1 bytes)
    else longer_symbol (long_symbol_at byte bytes) (short_symbol byte)

abbrev pub literal_at : Bool → ℕ → List ℕ → Option (Piece × ℕ)
literal_at is_first byte bytes =
    if byte == 34 then name_at bytes
    else (if byte == 39 then text_at bytes
    else (if byte == 92 then (if is_first then directive_at (byte ∷ bytes) else None)
    else mark_at byte bytes))

-- what the bytes begin with, and its length
unfoldable pub piece_at : Bool → List ℕ → Option (Piece × ℕ)
piece_at is_first [] = None
piece_at is_first (byte ∷ bytes) =
    if is_blank byte then Some (Blank, 1)
    else (if begins_word byte then Some (Token Word, front_len goes_on_in_word (byte ∷ bytes))
    else (if is_ascii_digit byte then Some (Token Integer, front_len is_ascii_digit (byte ∷ bytes))
    else literal_at is_first byte bytes))

-- whether no token stands before the place behind a piece, which begins with a byte
abbrev pub is_first_behind : Bool → Piece → ℕ → Bool
is_first_behind is_first Blank byte = is_first || byte == 10
is_first_behind is_first Comment byte = is_first
is_first_behind is_first (Token kind) byte = false

-- the token that a piece is
abbrev pub tokens_of : Piece → ℕ → ℕ → List TokenRecord
tokens_of Blank from to = []
tokens_of Comment from to = []
tokens_of (Token kind) from to = record { kind = kind; from = from; to = to } ∷ []

-- what is left behind a byte, without the second of two quotes
abbrev pub past_quote : ℕ → ℕ → List ℕ → List ℕ
past_quote quote byte bytes = if byte == quote then drop 1 bytes else bytes
