-- The definitions on small scripts.
use Rattle.std.proofs.Common.{◌≡◌, [], ◌∷◌, codes, refl, true, false, inr}
use Rattle.aq_lex.specs.declared.token.Symbol.TheVariants.{Unequal}
use Rattle.aq_lex.specs.declared.token.Directive.TheVariants.{Session}
use Rattle.aq_lex.specs.declared.token.TokenKind.TheVariants.{Word, Integer, Symbol, Directive}
use Rattle.aq_lex.specs.Tokens.{Lexes, Starts, BehindBlank, BehindToken, beginning}
use Rattle.aq_lex.specs.Lexemes as values
use Rattle.aq_lex.specs.Lexemes.{lexemes, unquoted, number_of}

-- an integer and a word
digit_and_word : Lexes (codes "1a") (record { kind = Integer; from = 0; to = 1 } ∷ record { kind = Word; from = 1; to = 2 } ∷ [])
digit_and_word =
    let one = BehindToken [] beginning Integer (codes "1") (codes "a") Starts (refl, refl) in
    record {
      place = record { at = 2; is_first = false };
      lexes = BehindToken (record { kind = Integer; from = 0; to = 1 } ∷ []) (record { at = 1; is_first = false }) Word (codes "a") [] one (refl, refl);
    }

-- a directive behind a blank, directly in front of a word
directive_and_word : Lexes (codes " \\sessiona") (record { kind = Directive Session; from = 1; to = 9 } ∷ record { kind = Word; from = 9; to = 10 } ∷ [])
directive_and_word =
    let blank = BehindBlank [] beginning 32 (codes "\\sessiona") Starts refl in
    let one = BehindToken [] (record { at = 1; is_first = true }) (Directive Session) (codes "\\session") (codes "a") blank (refl, refl) in
    record {
      place = record { at = 10; is_first = false };
      lexes = BehindToken (record { kind = Directive Session; from = 1; to = 9 } ∷ []) (record { at = 9; is_first = false }) Word (codes "a") [] one (refl, refl);
    }

-- both spellings of one symbol
second_spelling : Lexes (codes "!=") (record { kind = Symbol Unequal; from = 0; to = 2 } ∷ [])
second_spelling = record {
  place = record { at = 2; is_first = false };
  lexes = BehindToken [] beginning (Symbol Unequal) (codes "!=") [] Starts (inr refl, refl);
}

-- values: a word is folded, and lines are counted by the LFs before a token
word_on_line_two : lexemes (codes "a\nBc") (record { kind = Word; from = 2; to = 4 } ∷ []) ≡ record { line = 2; lexeme = values.Word (codes "bc") } ∷ []
word_on_line_two = refl

quotes_in_text : unquoted 39 (codes "'x''''y'") ≡ codes "x''y"
quotes_in_text = refl

empty_text : unquoted 39 (codes "''") ≡ []
empty_text = refl

zeros_in_front : number_of (codes "007") ≡ 7
zeros_in_front = refl

above_64_bits : number_of (codes "18446744073709551616") ≡ 18446744073709551616
above_64_bits = refl
