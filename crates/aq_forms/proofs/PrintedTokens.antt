-- The bytes of a printed token spell it, in front of what goes on with no such token.
use Rattle.std.proofs.Common.{◌≡◌, ◌≢◌, ℕ, ◌+◌, ◌-◌, ◌*◌, ◌/◌, ◌%◌, ◌^◌, ◌<◌, ◌≤◌, Bool, true, false, ◌||◌, eqb, List, [], ◌∷◌, ◌++◌, map, refl, ap, ◌∙◌, arith, cond, inl, decimal}
use Rattle.std.specs.List.{list_all}
use Rattle.std.specs.Str.{IsUtf8}
use Rattle.std.specs.Char.{to_ascii_lowercase, is_ascii_digit}
use Rattle.std.proofs.lemmas.Bool.{and_parts, and_from, or_parts, ltb-true, not_from_false, not-true}
use Rattle.std.proofs.lemmas.Bool.Decides.{nat_tests}
use Rattle.std.proofs.lemmas.List.Sums.{fold-append}
use Rattle.std.proofs.lemmas.List.Folds.{list_all-append}
use Rattle.std.proofs.lemmas.Fmt.{decimal_by_steps}
use Rattle.aq_base.specs.Names.{Text as Bytes, same_text}
use Rattle.aq_lex.specs.declared.token.Symbol.{Symbol as SymbolName}
use Rattle.aq_lex.specs.declared.token.Symbol.TheVariants.{OpenParen, CloseParen, Comma, Semicolon, Dot, Plus, Minus, Times, Equal, Unequal, Less, AtMost, Greater, AtLeast, DollarQuote}
use Rattle.aq_lex.specs.declared.token.Directive.{Directive as DirectiveName}
use Rattle.aq_lex.specs.Tokens.{begins_word, goes_on_in_word, begins_otherwise, is_word, are_digits, quoted, SpellsSymbol, goes_on_in_symbol, SpellsToken}
use Rattle.aq_lex.specs.Lexemes.{Lexeme, Word, QuotedName, Integer, Text, number_of, kind_of, lexeme_of as value_of}
use Rattle.aq_lex.proofs.Values.{unquoted_quoted}
use Rattle.aq_texts.specs.Written.{Written, Said, Heading, Name, Number, Literal, Mark, Sign, Call, Repeat, is_bare, symbol_text, token_text}
use Rattle.aq_grammar.proofs.Apart.{same_text_is}
use Rattle.aq_forms.proofs.Sound.{is_folded_word, IsSound}
use Rattle.aq_forms.proofs.Laid.{lexeme_of}

-- a byte that would go on with the token
abbrev pub goes_on : Written → ℕ → Bool
goes_on (Said text) byte = goes_on_in_word byte
goes_on (Heading directive) byte = false
goes_on (Name name) byte = goes_on_in_word byte || eqb byte 34
goes_on (Number number) byte = is_ascii_digit byte
goes_on (Literal text) byte = eqb byte 39
goes_on (Mark symbol) byte = goes_on_in_symbol symbol byte
goes_on Sign byte = eqb byte 45
goes_on Call byte = false
goes_on Repeat byte = false

-- the bytes of a printed token spell a token that has its value
pub record Spells (is_first : Bool) (lexeme : Lexeme) (bytes behind : List ℕ) : Type 0 where
  pub spelled : SpellsToken is_first (kind_of lexeme) bytes behind
  pub value : value_of (kind_of lexeme) bytes ≡ lexeme

-- ---- words

unfolded_begins : (byte : ℕ) → begins_word (to_ascii_lowercase byte) ≡ true → begins_word byte ≡ true
unfolded_begins byte h = grind (arith, nat_tests)

unfolded_goes_on : (byte : ℕ) → goes_on_in_word (to_ascii_lowercase byte) ≡ true → goes_on_in_word byte ≡ true
unfolded_goes_on byte h = grind (arith, nat_tests)

all_unfolded : (bytes : List ℕ) → list_all goes_on_in_word (map to_ascii_lowercase bytes) ≡ true → list_all goes_on_in_word bytes ≡ true
all_unfolded [] h = refl
all_unfolded (byte ∷ bytes) h =
    let p = and_parts (goes_on_in_word (to_ascii_lowercase byte)) (list_all goes_on_in_word (map to_ascii_lowercase bytes)) h in
    and_from (goes_on_in_word byte) (list_all goes_on_in_word bytes) (unfolded_goes_on byte p.0) (all_unfolded bytes p.1)

-- bytes are a word if they are one in lower case
word_unfolded : (bytes : List ℕ) → is_word (map to_ascii_lowercase bytes) ≡ true → is_word bytes ≡ true
word_unfolded [] h = h
word_unfolded (byte ∷ bytes) h =
    let p = and_parts (begins_word (to_ascii_lowercase byte)) (list_all goes_on_in_word (map to_ascii_lowercase bytes)) h in
    and_from (begins_word byte) (list_all goes_on_in_word bytes) (unfolded_begins byte p.0) (all_unfolded bytes p.1)

pub said_is_word : (text : Bytes) → IsSound (Word (map to_ascii_lowercase text)) → is_word text ≡ true
said_is_word text sound =
    let folded : Bytes = map to_ascii_lowercase text in
    word_unfolded text (and_parts (is_word folded) (same_text (map to_ascii_lowercase folded) folded) sound).0

-- ---- numbers

-- digits, and the number that they write
abbrev pub AreDigitsOf : ℕ → List ℕ → Type 0
AreDigitsOf number digits = (are_digits digits ≡ true) × (number_of digits ≡ number)

one_digit : (number : ℕ) → number < 10 → AreDigitsOf number ((48 + number) ∷ [])
one_digit number small =
    let digit : is_ascii_digit (48 + number) ≡ true = grind (arith, nat_tests) in
    (and_from (is_ascii_digit (48 + number)) true digit refl, omega arith)

are_more : (digits : List ℕ) (digit : ℕ) → are_digits digits ≡ true → is_ascii_digit digit ≡ true → are_digits (digits ++ digit ∷ []) ≡ true
are_more [] digit all one = cc
are_more (first ∷ digits) digit all one =
    let p = and_parts (is_ascii_digit first) (list_all is_ascii_digit digits) all in
    and_from (is_ascii_digit first) (list_all is_ascii_digit (digits ++ digit ∷ [])) p.0
    (list_all-append is_ascii_digit digits (digit ∷ []) ∙ and_from (list_all is_ascii_digit digits) (list_all is_ascii_digit (digit ∷ [])) p.1 (and_from (is_ascii_digit digit) true one refl))

one_digit_more : (number : ℕ) (digits : List ℕ) → 10 ≤ number → AreDigitsOf (number / 10) digits → AreDigitsOf number (digits ++ (48 + number % 10) ∷ [])
one_digit_more number digits large so_far =
    let last : number % 10 < 10 = omega arith in
    let digit : is_ascii_digit (48 + number % 10) ≡ true = grind (arith, nat_tests) in
    let value : number_of (digits ++ (48 + number % 10) ∷ []) ≡ 10 * number_of digits + (48 + number % 10 - 48) =
    fold-append (λ number digit. 10 * number + (digit - 48)) 0 digits ((48 + number % 10) ∷ []) in
    (are_more digits (48 + number % 10) so_far.0 digit, value ∙ omega (arith, so_far.1))

pub decimal_digits : (number : ℕ) → number < 2 ^ 64 → AreDigitsOf number (decimal number)
decimal_digits number small = decimal_by_steps AreDigitsOf one_digit one_digit_more number small

pub sound_digits : (number : ℕ) → IsSound (Integer number) → AreDigitsOf number (decimal number)
sound_digits number sound = let h : number < 2 ^ 63 = ltb-true number (2 ^ 63) sound in decimal_digits number (omega arith)

-- ---- symbols

spells_symbol : (symbol : SymbolName) → SpellsSymbol symbol (symbol_text symbol)
spells_symbol OpenParen = refl
spells_symbol CloseParen = refl
spells_symbol Comma = refl
spells_symbol Semicolon = refl
spells_symbol Dot = refl
spells_symbol Plus = refl
spells_symbol Minus = refl
spells_symbol Times = refl
spells_symbol Equal = refl
spells_symbol Unequal = inl refl
spells_symbol Less = refl
spells_symbol AtMost = refl
spells_symbol Greater = refl
spells_symbol AtLeast = refl
spells_symbol DollarQuote = refl

-- ---- names

either_otherwise : (test other : ℕ → Bool) (behind : List ℕ) → begins_otherwise (λ byte. test byte || other byte) behind ≡ true
    → (begins_otherwise test behind ≡ true) × (begins_otherwise other behind ≡ true)
either_otherwise test other [] h = (refl, refl)
either_otherwise test other (byte ∷ behind) h =
    let p = or_parts (test byte) (other byte) (not-true (test byte || other byte) h) in
    (not_from_false (test byte) p.0, not_from_false (other byte) p.1)

word_spelled : (is_first : Bool) (text behind : Bytes) → is_folded_word text ≡ true → begins_otherwise goes_on_in_word behind ≡ true → Spells is_first (Word text) text behind
word_spelled is_first text behind sound ends =
    let p = and_parts (is_word text) (same_text (map to_ascii_lowercase text) text) sound in
    record { spelled = (p.0, ends); value = ap (λ (x : Bytes). Word x) (same_text_is (map to_ascii_lowercase text) text p.1) }

quoted_spelled : (is_first : Bool) (text behind : Bytes) → (text ≢ []) × IsUtf8 text → begins_otherwise (λ byte. eqb byte 34) behind ≡ true
    → Spells is_first (QuotedName text) (quoted 34 text) behind
quoted_spelled is_first text behind sound ends = record {
  spelled = (text, sound.0, record { spelled = refl; utf8 = sound.1; ends = ends });
  value = ap (λ (x : Bytes). QuotedName x) (unquoted_quoted 34 text);
}

name_spelled : (is_first bare : Bool) (text behind : Bytes) → IsSound (cond bare (Word text) (QuotedName text)) → begins_otherwise (goes_on (Name text)) behind ≡ true
    → Spells is_first (cond bare (Word text) (QuotedName text)) (cond bare text (quoted 34 text)) behind
name_spelled is_first true text behind sound ends = word_spelled is_first text behind sound (either_otherwise goes_on_in_word (λ byte. eqb byte 34) behind ends).0
name_spelled is_first false text behind sound ends = quoted_spelled is_first text behind sound (either_otherwise goes_on_in_word (λ byte. eqb byte 34) behind ends).1

-- ---- all tokens

pub spells : (is_first : Bool) (token : Written) (behind : Bytes) → IsSound (lexeme_of token) → begins_otherwise (goes_on token) behind ≡ true
    → Spells is_first (lexeme_of token) (token_text token) behind
spells is_first (Said text) behind sound ends = record { spelled = (said_is_word text sound, ends); value = refl }
spells is_first (Heading directive) behind sound ends = absurd sound
spells is_first (Name name) behind sound ends = name_spelled is_first (is_bare name) name behind sound ends
spells is_first (Number number) behind sound ends =
    let digits = sound_digits number sound in
    record { spelled = (digits.0, ends); value = ap (λ (n : ℕ). Integer n) digits.1 }
spells is_first (Literal text) behind sound ends = record {
  spelled = (text, record { spelled = refl; utf8 = sound; ends = ends });
  value = ap (λ (x : Bytes). Text x) (unquoted_quoted 39 text);
}
spells is_first (Mark symbol) behind sound ends = record { spelled = (spells_symbol symbol, ends); value = refl }
spells is_first Sign behind sound ends = record { spelled = (refl, ends); value = refl }
spells is_first Call behind sound ends = record { spelled = (refl, ends); value = refl }
spells is_first Repeat behind sound ends = record { spelled = (refl, ends); value = refl }

-- a directive is the first token of its line
pub heading_spells : (directive : DirectiveName) (behind : Bytes) → Spells true (lexeme_of (Heading directive)) (token_text (Heading directive)) behind
heading_spells directive behind = record { spelled = (refl, refl); value = refl }
