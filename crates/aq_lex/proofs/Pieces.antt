-- What is found at the front of bytes is the one blank, comment or token that begins there.
use Rattle.std.proofs.Common.{◌≡◌, ◌≢◌, ℕ, suc, ◌+◌, Bool, true, false, cond, ◌&&◌, ◌||◌, eqb, List, [], ◌∷◌, ◌++◌, length, take, drop, codes, nat_eq, Option, Some, None, refl, sym, ap, ◌∙◌, subst, length-append, arith, ◌⊎◌, inl, inr}
use Rattle.std.specs.List.{list_all, starts_with}
use Rattle.std.specs.Str.{IsUtf8, is_utf8}
use Rattle.std.specs.Char.{is_ascii_digit}
use Rattle.std.proofs.lemmas.Str.{IsUtf8-from_is_utf8, is_utf8-from_IsUtf8}
use Rattle.std.proofs.lemmas.Bool.{and_parts, and_from, not-true, not_from_false, eqb-true, eqb-false, ne_eqb, both_ways, or_from, or_parts, cond-false}
use Rattle.std.proofs.lemmas.Bool.Decides.{nat_tests, Decides-eqb}
use Rattle.std.proofs.lemmas.List.{take_at}
use Rattle.std.proofs.lemmas.Slice.Eq.{starts_is}
use Rattle.aq_lex.specs.declared.token.Symbol.{Symbol as SymbolName}
use Rattle.aq_lex.specs.declared.token.Symbol.TheVariants.{OpenParen, CloseParen, Comma, Semicolon, Dot, Plus, Minus, Times, Equal, Unequal, Less, AtMost, Greater, AtLeast, DollarQuote}
use Rattle.aq_lex.specs.declared.token.Directive.{Directive as DirectiveName}
use Rattle.aq_lex.specs.declared.token.Directive.TheVariants.{Setup, Session, Schedule}
use Rattle.aq_lex.specs.declared.token.TokenKind.{TokenKind}
use Rattle.aq_lex.specs.declared.token.TokenKind.TheVariants.{Word, QuotedName, Integer, Text, Symbol, Directive}
use Rattle.aq_lex.specs.declared.piece.Piece.{Piece}
use Rattle.aq_lex.specs.declared.piece.Piece.TheVariants.{Blank, Comment, Token}
use Rattle.aq_lex.specs.Tokens.{is_blank, begins_word, goes_on_in_word, is_in_line, begins_otherwise, doubled, quoted, SpellsSymbol, goes_on_in_symbol, directive_bytes, SpellsToken, IsComment}
use Rattle.aq_lex.specs.Lexing.{front_len, literal_len, name_at, text_at, comment_at, directive_at, long_symbol, short_symbol, long_symbol_at, longer_symbol, begins_with, mark_at, literal_at, piece_at}
use Rattle.aq_lex.proofs.Bytes.{chosen, some_is, none_is_not, mapped_some, then_some, cut_one, cut_of, front_again, literal_takes, literal_again, quoted_behind}

-- the bytes that spell a piece, with what stands behind them
abbrev pub SpellsPiece : Bool → Piece → List ℕ → List ℕ → Type 0
SpellsPiece is_first Blank bytes behind = (byte : ℕ) × (bytes ≡ byte ∷ []) × (is_blank byte ≡ true)
SpellsPiece is_first Comment bytes behind = IsComment bytes behind
SpellsPiece is_first (Token kind) bytes behind = SpellsToken is_first kind bytes behind

-- bytes begin with a piece of a length
pub record Found (is_first : Bool) (bytes : List ℕ) (piece : Piece) (len : ℕ) : Type 0 where
  pub spelling : List ℕ
  pub behind : List ℕ
  pub parts : bytes ≡ spelling ++ behind
  pub size : len ≡ length spelling
  pub spelled : SpellsPiece is_first piece spelling behind

found_as : (is_first : Bool) (bytes : List ℕ) (a b : Piece × ℕ) → ◌≡◌ {A = Option (Piece × ℕ)} (Some a) (Some b) → Found is_first bytes a.0 a.1 → Found is_first bytes b.0 b.1
found_as is_first bytes a b e found = subst (λ (f : Piece × ℕ). Found is_first bytes f.0 f.1) (some_is a b e) found

-- ---- which bytes begin what

pub word_not_blank : (byte : ℕ) → begins_word byte ≡ true → is_blank byte ≡ false
word_not_blank byte h = grind (arith, nat_tests)

pub word_goes_on : (byte : ℕ) → begins_word byte ≡ true → goes_on_in_word byte ≡ true
word_goes_on byte h = grind (arith, nat_tests)

pub digit_not_blank : (byte : ℕ) → is_ascii_digit byte ≡ true → is_blank byte ≡ false
digit_not_blank byte h = grind (arith, nat_tests)

pub digit_begins_no_word : (byte : ℕ) → is_ascii_digit byte ≡ true → begins_word byte ≡ false
digit_begins_no_word byte h = grind (arith, nat_tests)

-- ---- symbols

picked : (byte n : ℕ) (s t : SymbolName) (rest : Option SymbolName) → cond (eqb byte n) (Some s) rest ≡ Some t → ((byte ≡ n) × (s ≡ t)) ⊎ (rest ≡ Some t)
picked byte n s t rest e = elim (chosen (eqb byte n) (Some s) rest (Some t) e) [
  | inl g ↦ inl (eqb-true byte n g.0, some_is s t g.1)
  | inr g ↦ inr g.1
]

short_so : (byte n : ℕ) (s t : SymbolName) → SpellsSymbol s (n ∷ []) → (byte ≡ n) × (s ≡ t) → SpellsSymbol t (byte ∷ [])
short_so byte n s t spelled e = subst (λ (u : SymbolName). SpellsSymbol u (byte ∷ [])) e.1 (subst (λ (b : ℕ). SpellsSymbol s (b ∷ [])) (sym e.0) spelled)

short_spelled : (byte : ℕ) (t : SymbolName) → short_symbol byte ≡ Some t → SpellsSymbol t (byte ∷ [])
short_spelled byte t e = elim (picked byte 40 OpenParen t _ e) [
  | inl g ↦ short_so byte 40 OpenParen t refl g
  | inr e ↦ elim (picked byte 41 CloseParen t _ e) [
    | inl g ↦ short_so byte 41 CloseParen t refl g
    | inr e ↦ elim (picked byte 44 Comma t _ e) [
      | inl g ↦ short_so byte 44 Comma t refl g
      | inr e ↦ elim (picked byte 59 Semicolon t _ e) [
        | inl g ↦ short_so byte 59 Semicolon t refl g
        | inr e ↦ elim (picked byte 46 Dot t _ e) [
          | inl g ↦ short_so byte 46 Dot t refl g
          | inr e ↦ elim (picked byte 43 Plus t _ e) [
            | inl g ↦ short_so byte 43 Plus t refl g
            | inr e ↦ elim (picked byte 45 Minus t _ e) [
              | inl g ↦ short_so byte 45 Minus t refl g
              | inr e ↦ elim (picked byte 42 Times t _ e) [
                | inl g ↦ short_so byte 42 Times t refl g
                | inr e ↦ elim (picked byte 61 Equal t _ e) [
                  | inl g ↦ short_so byte 61 Equal t refl g
                  | inr e ↦ elim (picked byte 60 Less t _ e) [
                    | inl g ↦ short_so byte 60 Less t refl g
                    | inr e ↦ elim (picked byte 62 Greater t _ e) [
                      | inl g ↦ short_so byte 62 Greater t refl g
                      | inr e ↦ none_is_not t e
                    ]
                  ]
                ]
              ]
            ]
          ]
        ]
      ]
    ]
  ]
]

picked_two : (byte next m n : ℕ) (s t : SymbolName) (rest : Option SymbolName) → cond (eqb byte m && eqb next n) (Some s) rest ≡ Some t
    → ((byte ≡ m) × (next ≡ n) × (s ≡ t)) ⊎ (rest ≡ Some t)
picked_two byte next m n s t rest e = elim (chosen (eqb byte m && eqb next n) (Some s) rest (Some t) e) [
  | inl g ↦ let p = and_parts (eqb byte m) (eqb next n) g.0 in inl (eqb-true byte m p.0, eqb-true next n p.1, some_is s t g.1)
  | inr g ↦ inr g.1
]

-- a symbol of two bytes is spelled by them, and no byte goes on with it
abbrev IsLong : ℕ → ℕ → SymbolName → Type 0
IsLong byte next t = SpellsSymbol t (byte ∷ next ∷ []) × ((bytes : List ℕ) → begins_otherwise (goes_on_in_symbol t) bytes ≡ true)

long_so : (byte next m n : ℕ) (s t : SymbolName) → IsLong m n s → (byte ≡ m) × (next ≡ n) × (s ≡ t) → IsLong byte next t
long_so byte next m n s t long e =
    subst (λ (u : SymbolName). IsLong byte next u) e.2 (subst (λ (b : ℕ). IsLong b next s) (sym e.0) (subst (λ (b : ℕ). IsLong m b s) (sym e.1) long))

never : (bytes : List ℕ) → begins_otherwise (λ byte. false) bytes ≡ true
never [] = refl
never (byte ∷ bytes) = refl

long_spelled : (byte next : ℕ) (t : SymbolName) → long_symbol byte next ≡ Some t → IsLong byte next t
long_spelled byte next t e = elim (picked_two byte next 60 61 AtMost t _ e) [
  | inl g ↦ long_so byte next 60 61 AtMost t (refl, never) g
  | inr e ↦ elim (picked_two byte next 60 62 Unequal t _ e) [
    | inl g ↦ long_so byte next 60 62 Unequal t (inl refl, never) g
    | inr e ↦ elim (picked_two byte next 62 61 AtLeast t _ e) [
      | inl g ↦ long_so byte next 62 61 AtLeast t (refl, never) g
      | inr e ↦ elim (picked_two byte next 33 61 Unequal t _ e) [
        | inl g ↦ long_so byte next 33 61 Unequal t (inr refl, never) g
        | inr e ↦ elim (picked_two byte next 36 36 DollarQuote t _ e) [
          | inl g ↦ long_so byte next 36 36 DollarQuote t (refl, never) g
          | inr e ↦ none_is_not t e
        ]
      ]
    ]
  ]
]

head_is : (a b : ℕ) → a ∷ [] ≡ b ∷ [] → a ≡ b
head_is a b e = cc

not_less : (next : ℕ) → long_symbol 60 next ≡ None → (eqb next 61 || eqb next 62) ≡ false
not_less next e = elim (chosen (eqb next 61) (Some AtMost) _ None e) [
  | inl g ↦ absurd (none_is_not AtMost (sym g.1))
  | inr g ↦ elim (chosen (eqb next 62) (Some Unequal) _ None g.1) [
    | inl k ↦ absurd (none_is_not Unequal (sym k.1))
    | inr k ↦ or_from (eqb next 61) (eqb next 62) g.0 k.0
  ]
]

not_greater : (next : ℕ) → long_symbol 62 next ≡ None → eqb next 61 ≡ false
not_greater next e = elim (chosen (eqb next 61) (Some AtLeast) _ None e) [
  | inl g ↦ absurd (none_is_not AtLeast (sym g.1))
  | inr g ↦ g.0
]

-- where no symbol of two bytes stands and no comment begins, no byte goes on with the symbol of one byte
not_longer : (byte next : ℕ) (t : SymbolName) → SpellsSymbol t (byte ∷ []) → long_symbol byte next ≡ None → (eqb byte 45 && eqb next 45) ≡ false
    → goes_on_in_symbol t next ≡ false
not_longer byte next OpenParen h none line = refl
not_longer byte next CloseParen h none line = refl
not_longer byte next Comma h none line = refl
not_longer byte next Semicolon h none line = refl
not_longer byte next Dot h none line = refl
not_longer byte next Plus h none line = refl
not_longer byte next Minus h none line = subst (λ (b : ℕ). (eqb b 45 && eqb next 45) ≡ false) (head_is byte 45 h) line
not_longer byte next Times h none line = refl
not_longer byte next Equal h none line = refl
not_longer byte next Unequal h none line = refl
not_longer byte next Less h none line = not_less next (subst (λ (b : ℕ). long_symbol b next ≡ None) (head_is byte 60 h) none)
not_longer byte next AtMost h none line = refl
not_longer byte next Greater h none line = not_greater next (subst (λ (b : ℕ). long_symbol b next ≡ None) (head_is byte 62 h) none)
not_longer byte next AtLeast h none line = refl
not_longer byte next DollarQuote h none line = refl

short_ends : (byte : ℕ) (bytes : List ℕ) (t : SymbolName) → SpellsSymbol t (byte ∷ []) → long_symbol_at byte bytes ≡ None → (eqb byte 45 && begins_with 45 bytes) ≡ false
    → begins_otherwise (goes_on_in_symbol t) bytes ≡ true
short_ends byte [] t h none line = refl
short_ends byte (next ∷ bytes) t h none line = not_from_false (goes_on_in_symbol t next) (not_longer byte next t h none line)

long_found : (is_first : Bool) (byte : ℕ) (bytes : List ℕ) (symbol : SymbolName) (found : Piece × ℕ) → long_symbol_at byte bytes ≡ Some symbol
    → ◌≡◌ {A = Option (Piece × ℕ)} (Some (Token (Symbol symbol), 2)) (Some found) → Found is_first (byte ∷ bytes) found.0 found.1
long_found is_first byte [] symbol found long f = none_is_not symbol long
long_found is_first byte (next ∷ bytes) symbol found long f =
    let is = long_spelled byte next symbol long in
    found_as is_first (byte ∷ next ∷ bytes) (Token (Symbol symbol), 2) found f
    (record { spelling = byte ∷ next ∷ []; behind = bytes; parts = refl; size = refl; spelled = (is.0, is.1 bytes) })

symbol_found : (is_first : Bool) (byte : ℕ) (bytes : List ℕ) (found : Piece × ℕ) → (eqb byte 45 && begins_with 45 bytes) ≡ false
    → longer_symbol (long_symbol_at byte bytes) (short_symbol byte) ≡ Some found → Found is_first (byte ∷ bytes) found.0 found.1
symbol_found is_first byte bytes found line e = (elim (long_symbol_at byte bytes) as (λ v. long_symbol_at byte bytes ≡ v → longer_symbol v (short_symbol byte) ≡ Some found → Found is_first (byte ∷ bytes) found.0 found.1) [
  | None ↦ λ none f.
      let m = mapped_some (λ symbol. (Token (Symbol symbol), 1)) (short_symbol byte) found f in
      let spelled = short_spelled byte m.0 m.1 in
      found_as is_first (byte ∷ bytes) (Token (Symbol m.0), 1) found (ap (λ (x : Piece × ℕ). Some x) m.2)
      (record { spelling = byte ∷ []; behind = bytes; parts = refl; size = refl; spelled = (spelled, short_ends byte bytes m.0 spelled none line) })
  | Some symbol ↦ λ long f. long_found is_first byte bytes symbol found long f
]) refl e

-- ---- the other pieces that are found

word_found : (is_first : Bool) (byte : ℕ) (bytes : List ℕ) → begins_word byte ≡ true → Found is_first (byte ∷ bytes) (Token Word) (front_len goes_on_in_word (byte ∷ bytes))
word_found is_first byte bytes h =
    let inner = cut_of goes_on_in_word bytes in
    let cut = cut_one goes_on_in_word byte bytes (word_goes_on byte h) inner in
    record {
      spelling = byte ∷ inner.front;
      behind = inner.behind;
      parts = cut.parts;
      size = cut.size;
      spelled = (and_from (begins_word byte) (list_all goes_on_in_word inner.front) h inner.passes, inner.fails);
    }

integer_found : (is_first : Bool) (byte : ℕ) (bytes : List ℕ) → is_ascii_digit byte ≡ true → Found is_first (byte ∷ bytes) (Token Integer) (front_len is_ascii_digit (byte ∷ bytes))
integer_found is_first byte bytes h =
    let inner = cut_of is_ascii_digit bytes in
    let cut = cut_one is_ascii_digit byte bytes h inner in
    record { spelling = byte ∷ inner.front; behind = inner.behind; parts = cut.parts; size = cut.size; spelled = (cut.passes, inner.fails) }

-- the text between two quotes is empty where the quotes are all
not_empty : (quote len : ℕ) (text : List ℕ) → len ≡ length (quoted quote text) → eqb len 2 ≡ false → text ≢ []
not_empty quote len text size h none =
    eqb-false len 2 h (size ∙ ap (λ (x : List ℕ). length (quoted quote x)) none)

name_found : (is_first : Bool) (bytes : List ℕ) (found : Piece × ℕ) → name_at bytes ≡ Some found → Found is_first (34 ∷ bytes) found.0 found.1
name_found is_first bytes found e =
    let t = then_some (λ len. cond (eqb len 2) None (Some (Token QuotedName, len))) (literal_len 34 bytes) found e in
    elim (chosen (eqb t.0 2) None (Some (Token QuotedName, t.0)) (Some found) t.2) [
      | inl g ↦ none_is_not found g.1
      | inr g ↦
          let literal = literal_takes 34 bytes t.0 (omega arith) t.1 in
          found_as is_first (34 ∷ bytes) (Token QuotedName, t.0) found g.1
          (record {
            spelling = quoted 34 literal.text;
            behind = literal.behind;
            parts = literal.parts;
            size = literal.size;
            spelled = (literal.text, not_empty 34 t.0 literal.text literal.size g.0, literal.quotes);
          })
    ]

text_found : (is_first : Bool) (bytes : List ℕ) (found : Piece × ℕ) → text_at bytes ≡ Some found → Found is_first (39 ∷ bytes) found.0 found.1
text_found is_first bytes found e =
    let m = mapped_some (λ len. (Token Text, len)) (literal_len 39 bytes) found e in
    let literal = literal_takes 39 bytes m.0 (omega arith) m.1 in
    found_as is_first (39 ∷ bytes) (Token Text, m.0) found (ap (λ (x : Piece × ℕ). Some x) m.2)
    (record { spelling = quoted 39 literal.text; behind = literal.behind; parts = literal.parts; size = literal.size; spelled = (literal.text, literal.quotes) })

comment_found : (is_first : Bool) (bytes : List ℕ) (found : Piece × ℕ) → comment_at bytes ≡ Some found → Found is_first (45 ∷ 45 ∷ bytes) found.0 found.1
comment_found is_first bytes found e =
    let cut = cut_of is_in_line bytes in
    elim (chosen (is_utf8 (take (front_len is_in_line bytes) bytes)) (Some (Comment, front_len is_in_line bytes + 2)) None (Some found) e) [
      | inl g ↦
          let front : take (front_len is_in_line bytes) bytes ≡ cut.front =
          ap (λ (x : List ℕ). take (front_len is_in_line bytes) x) cut.parts ∙ take_at cut.front cut.behind (front_len is_in_line bytes) (sym cut.size) in
          found_as is_first (45 ∷ 45 ∷ bytes) (Comment, front_len is_in_line bytes + 2) found g.1
          (record {
            spelling = 45 ∷ 45 ∷ cut.front;
            behind = cut.behind;
            parts = ap (λ (x : List ℕ). 45 ∷ 45 ∷ x) cut.parts;
            size = omega (arith, cut.size);
            spelled = record {
              text = cut.front;
              spelled = refl;
              in_line = cut.passes;
              utf8 = subst IsUtf8 front (IsUtf8-from_is_utf8 (take (front_len is_in_line bytes) bytes) g.0);
              ends = cut.fails;
            };
          })
      | inr g ↦ none_is_not found g.1
    ]

directive_found : (bytes : List ℕ) (found : Piece × ℕ) → directive_at bytes ≡ Some found → Found true bytes found.0 found.1
directive_found bytes found e =
    elim (chosen (starts_with nat_eq bytes (codes "\\setup")) (Some (Token (Directive Setup), 6)) _ (Some found) e) [
      | inl g ↦ found_as true bytes (Token (Directive Setup), 6) found g.1
          (record { spelling = codes "\\setup"; behind = drop 6 bytes; parts = (starts_is Decides-eqb bytes (codes "\\setup") _ refl).0 g.0; size = refl; spelled = (refl, refl) })
      | inr g ↦ elim (chosen (starts_with nat_eq bytes (codes "\\session")) (Some (Token (Directive Session), 8)) _ (Some found) g.1) [
        | inl k ↦ found_as true bytes (Token (Directive Session), 8) found k.1
            (record { spelling = codes "\\session"; behind = drop 8 bytes; parts = (starts_is Decides-eqb bytes (codes "\\session") _ refl).0 k.0; size = refl; spelled = (refl, refl) })
        | inr k ↦ elim (chosen (starts_with nat_eq bytes (codes "\\schedule")) (Some (Token (Directive Schedule), 9)) None (Some found) k.1) [
          | inl m ↦ found_as true bytes (Token (Directive Schedule), 9) found m.1
              (record { spelling = codes "\\schedule"; behind = drop 9 bytes; parts = (starts_is Decides-eqb bytes (codes "\\schedule") _ refl).0 m.0; size = refl; spelled = (refl, refl) })
          | inr m ↦ none_is_not found m.1
        ]
      ]
    ]

first_found : (is_first : Bool) (bytes : List ℕ) (found : Piece × ℕ) → cond is_first (directive_at bytes) None ≡ Some found → Found is_first bytes found.0 found.1
first_found true bytes found e = directive_found bytes found e
first_found false bytes found e = none_is_not found e

line_found : (is_first : Bool) (byte : ℕ) (bytes : List ℕ) (found : Piece × ℕ) → (eqb byte 45 && begins_with 45 bytes) ≡ true → comment_at (drop 1 bytes) ≡ Some found
    → Found is_first (byte ∷ bytes) found.0 found.1
line_found is_first byte [] found line e = absurd (both_ways _ refl (and_parts (eqb byte 45) false line).1)
line_found is_first byte (next ∷ bytes) found line e =
    let p = and_parts (eqb byte 45) (eqb next 45) line in
    let moved = subst (λ (b : ℕ). Found is_first (45 ∷ b ∷ bytes) found.0 found.1) (sym (eqb-true next 45 p.1)) (comment_found is_first bytes found e) in
    subst (λ (b : ℕ). Found is_first (b ∷ next ∷ bytes) found.0 found.1) (sym (eqb-true byte 45 p.0)) moved

mark_found : (is_first : Bool) (byte : ℕ) (bytes : List ℕ) (found : Piece × ℕ) → mark_at byte bytes ≡ Some found → Found is_first (byte ∷ bytes) found.0 found.1
mark_found is_first byte bytes found e =
    elim (chosen (eqb byte 45 && begins_with 45 bytes) (comment_at (drop 1 bytes)) (longer_symbol (long_symbol_at byte bytes) (short_symbol byte)) (Some found) e) [
      | inl g ↦ line_found is_first byte bytes found g.0 g.1
      | inr g ↦ symbol_found is_first byte bytes found g.0 g.1
    ]

literal_found : (is_first : Bool) (byte : ℕ) (bytes : List ℕ) (found : Piece × ℕ) → literal_at is_first byte bytes ≡ Some found → Found is_first (byte ∷ bytes) found.0 found.1
literal_found is_first byte bytes found e =
    elim (chosen (eqb byte 34) (name_at bytes) _ (Some found) e) [
      | inl g ↦ subst (λ (b : ℕ). Found is_first (b ∷ bytes) found.0 found.1) (sym (eqb-true byte 34 g.0)) (name_found is_first bytes found g.1)
      | inr g ↦ elim (chosen (eqb byte 39) (text_at bytes) _ (Some found) g.1) [
        | inl k ↦ subst (λ (b : ℕ). Found is_first (b ∷ bytes) found.0 found.1) (sym (eqb-true byte 39 k.0)) (text_found is_first bytes found k.1)
        | inr k ↦ elim (chosen (eqb byte 92) (cond is_first (directive_at (byte ∷ bytes)) None) (mark_at byte bytes) (Some found) k.1) [
          | inl m ↦ first_found is_first (byte ∷ bytes) found m.1
          | inr m ↦ mark_found is_first byte bytes found m.1
        ]
      ]
    ]

pub piece_takes : (is_first : Bool) (bytes : List ℕ) (found : Piece × ℕ) → piece_at is_first bytes ≡ Some found → Found is_first bytes found.0 found.1
unfolding piece_at
piece_takes is_first [] found e = none_is_not found e
piece_takes is_first (byte ∷ bytes) found e =
    elim (chosen (is_blank byte) (Some (Blank, 1)) _ (Some found) e) [
      | inl g ↦ found_as is_first (byte ∷ bytes) (Blank, 1) found g.1 (record { spelling = byte ∷ []; behind = bytes; parts = refl; size = refl; spelled = (byte, refl, g.0) })
      | inr g ↦ elim (chosen (begins_word byte) (Some (Token Word, front_len goes_on_in_word (byte ∷ bytes))) _ (Some found) g.1) [
        | inl k ↦ found_as is_first (byte ∷ bytes) (Token Word, front_len goes_on_in_word (byte ∷ bytes)) found k.1 (word_found is_first byte bytes k.0)
        | inr k ↦ elim (chosen (is_ascii_digit byte) (Some (Token Integer, front_len is_ascii_digit (byte ∷ bytes))) (literal_at is_first byte bytes) (Some found) k.1) [
          | inl m ↦ found_as is_first (byte ∷ bytes) (Token Integer, front_len is_ascii_digit (byte ∷ bytes)) found m.1 (integer_found is_first byte bytes m.0)
          | inr m ↦ literal_found is_first byte bytes found m.1
        ]
      ]
    ]

-- ---- what is spelled is found

-- a piece is found in front of what stands behind it
abbrev pub IsFound : Bool → Piece → List ℕ → List ℕ → Type 0
IsFound is_first piece spelling behind = piece_at is_first (spelling ++ behind) ≡ Some (piece, length spelling)

blank_again : (is_first : Bool) (spelling behind : List ℕ) → SpellsPiece is_first Blank spelling behind → IsFound is_first Blank spelling behind
unfolding piece_at
blank_again is_first spelling behind h = rw (h.1, h.2) refl

word_again : (is_first : Bool) (spelling behind : List ℕ) → SpellsToken is_first Word spelling behind → IsFound is_first (Token Word) spelling behind
unfolding piece_at
word_again is_first [] behind h = absurd (both_ways _ refl h.0)
word_again is_first (byte ∷ bytes) behind h =
    let p = and_parts (begins_word byte) (list_all goes_on_in_word bytes) h.0 in
    rw (word_not_blank byte p.0, p.0, word_goes_on byte p.0, front_again goes_on_in_word bytes behind p.1 h.1) refl

integer_again : (is_first : Bool) (spelling behind : List ℕ) → SpellsToken is_first Integer spelling behind → IsFound is_first (Token Integer) spelling behind
unfolding piece_at
integer_again is_first [] behind h = absurd (both_ways _ refl h.0)
integer_again is_first (byte ∷ bytes) behind h =
    let p = and_parts (is_ascii_digit byte) (list_all is_ascii_digit bytes) h.0 in
    rw (digit_not_blank byte p.0, digit_begins_no_word byte p.0, p.0, front_again is_ascii_digit bytes behind p.1 h.1) refl

-- a text between quotes that is no empty one is more than its quotes
longer_name : (text : List ℕ) → text ≢ [] → eqb (length (quoted 34 text)) 2 ≡ false
longer_name [] h = absurd (h refl)
longer_name (byte ∷ text) h = ne_eqb (length (quoted 34 (byte ∷ text))) 2 (λ e. elim (eqb byte 34) as (λ v. length (34 ∷ ((cond v (34 ∷ 34 ∷ []) (byte ∷ []) ++ doubled 34 text) ++ 34 ∷ [])) ≡ 2 → ⊥) [
  | true ↦ λ e. absurd (omega (arith, e))
  | false ↦ λ e. absurd (omega (arith, e, length-append (doubled 34 text) (34 ∷ [])))
] e)

name_again : (is_first : Bool) (spelling behind : List ℕ) → SpellsToken is_first QuotedName spelling behind → IsFound is_first (Token QuotedName) spelling behind
unfolding piece_at
name_again is_first spelling behind h =
    let parts : spelling ++ behind ≡ 34 ∷ (doubled 34 h.0 ++ 34 ∷ behind) = ap (λ (x : List ℕ). x ++ behind) h.2.spelled ∙ quoted_behind 34 h.0 behind in
    let found : name_at (doubled 34 h.0 ++ 34 ∷ behind) ≡ Some (Token QuotedName, length (quoted 34 h.0)) =
    rw (literal_again 34 h.0 spelling behind (omega arith) h.2) (cond-false (eqb (length (quoted 34 h.0)) 2) None (Some (Token QuotedName, length (quoted 34 h.0))) (longer_name h.0 h.1)) in
    ap (λ (x : List ℕ). piece_at is_first x) parts ∙ (found ∙ ap (λ (x : List ℕ). Some (Token QuotedName, length x)) (sym h.2.spelled))

text_again : (is_first : Bool) (spelling behind : List ℕ) → SpellsToken is_first Text spelling behind → IsFound is_first (Token Text) spelling behind
unfolding piece_at
text_again is_first spelling behind h =
    let parts : spelling ++ behind ≡ 39 ∷ (doubled 39 h.0 ++ 39 ∷ behind) = ap (λ (x : List ℕ). x ++ behind) h.1.spelled ∙ quoted_behind 39 h.0 behind in
    let found : text_at (doubled 39 h.0 ++ 39 ∷ behind) ≡ Some (Token Text, length (quoted 39 h.0)) =
    rw (literal_again 39 h.0 spelling behind (omega arith) h.1) refl in
    ap (λ (x : List ℕ). piece_at is_first x) parts ∙ (found ∙ ap (λ (x : List ℕ). Some (Token Text, length x)) (sym h.1.spelled))

comment_again : (is_first : Bool) (spelling behind : List ℕ) → IsComment spelling behind → IsFound is_first Comment spelling behind
unfolding piece_at
comment_again is_first spelling behind h =
    let size = front_again is_in_line h.text behind h.in_line h.ends in
    let front : take (length h.text) (h.text ++ behind) ≡ h.text = take_at h.text behind (length h.text) refl in
    let utf8 : is_utf8 h.text ≡ true = is_utf8-from_IsUtf8 h.text h.utf8 in
    let two : length h.text + 2 ≡ suc (suc (length h.text)) = omega arith in
    rw (h.spelled, size, front, utf8, two) refl

no_long : (byte : ℕ) (behind : List ℕ) → ((next : ℕ) → long_symbol byte next ≡ None) → long_symbol_at byte behind ≡ None
no_long byte [] none = refl
no_long byte (next ∷ behind) none = none next

-- `-` is followed by no other, `<` by neither `=` nor `>`, and `>` by no `=`
no_line : (behind : List ℕ) → begins_otherwise (goes_on_in_symbol Minus) behind ≡ true → begins_with 45 behind ≡ false
no_line [] ends = refl
no_line (next ∷ behind) ends = not-true (eqb next 45) ends

less_ends : (behind : List ℕ) → begins_otherwise (goes_on_in_symbol Less) behind ≡ true → long_symbol_at 60 behind ≡ None
less_ends [] ends = refl
less_ends (next ∷ behind) ends = let p = or_parts (eqb next 61) (eqb next 62) (not-true (eqb next 61 || eqb next 62) ends) in rw (p.0, p.1) refl

greater_ends : (behind : List ℕ) → begins_otherwise (goes_on_in_symbol Greater) behind ≡ true → long_symbol_at 62 behind ≡ None
greater_ends [] ends = refl
greater_ends (next ∷ behind) ends = let h : eqb next 61 ≡ false = not-true (eqb next 61) ends in rw h refl

symbol_again : (is_first : Bool) (symbol : SymbolName) (spelling behind : List ℕ) → SpellsSymbol symbol spelling → begins_otherwise (goes_on_in_symbol symbol) behind ≡ true
    → IsFound is_first (Token (Symbol symbol)) spelling behind
unfolding piece_at
symbol_again is_first OpenParen spelling behind h ends = rw (h, no_long 40 behind (λ next. refl)) refl
symbol_again is_first CloseParen spelling behind h ends = rw (h, no_long 41 behind (λ next. refl)) refl
symbol_again is_first Comma spelling behind h ends = rw (h, no_long 44 behind (λ next. refl)) refl
symbol_again is_first Semicolon spelling behind h ends = rw (h, no_long 59 behind (λ next. refl)) refl
symbol_again is_first Dot spelling behind h ends = rw (h, no_long 46 behind (λ next. refl)) refl
symbol_again is_first Plus spelling behind h ends = rw (h, no_long 43 behind (λ next. refl)) refl
symbol_again is_first Minus spelling behind h ends = rw (h, no_line behind ends, no_long 45 behind (λ next. refl)) refl
symbol_again is_first Times spelling behind h ends = rw (h, no_long 42 behind (λ next. refl)) refl
symbol_again is_first Equal spelling behind h ends = rw (h, no_long 61 behind (λ next. refl)) refl
symbol_again is_first Unequal spelling behind h ends = elim h [ inl e ↦ rw e refl | inr e ↦ rw e refl ]
symbol_again is_first Less spelling behind h ends = rw (h, less_ends behind ends) refl
symbol_again is_first AtMost spelling behind h ends = rw h refl
symbol_again is_first Greater spelling behind h ends = rw (h, greater_ends behind ends) refl
symbol_again is_first AtLeast spelling behind h ends = rw h refl
symbol_again is_first DollarQuote spelling behind h ends = rw h refl

directive_again : (is_first : Bool) (directive : DirectiveName) (spelling behind : List ℕ) → spelling ≡ directive_bytes directive → is_first ≡ true
    → IsFound is_first (Token (Directive directive)) spelling behind
unfolding piece_at
directive_again is_first Setup spelling behind h first = rw (h, first) refl
directive_again is_first Session spelling behind h first = rw (h, first) refl
directive_again is_first Schedule spelling behind h first = rw (h, first) refl

token_again : (is_first : Bool) (kind : TokenKind) (spelling behind : List ℕ) → SpellsToken is_first kind spelling behind → IsFound is_first (Token kind) spelling behind
token_again is_first Word spelling behind h = word_again is_first spelling behind h
token_again is_first QuotedName spelling behind h = name_again is_first spelling behind h
token_again is_first Integer spelling behind h = integer_again is_first spelling behind h
token_again is_first Text spelling behind h = text_again is_first spelling behind h
token_again is_first (Symbol symbol) spelling behind h = symbol_again is_first symbol spelling behind h.0 h.1
token_again is_first (Directive directive) spelling behind h = directive_again is_first directive spelling behind h.0 h.1

pub piece_again : (is_first : Bool) (piece : Piece) (spelling behind : List ℕ) → SpellsPiece is_first piece spelling behind → IsFound is_first piece spelling behind
piece_again is_first Blank spelling behind h = blank_again is_first spelling behind h
piece_again is_first Comment spelling behind h = comment_again is_first spelling behind h
piece_again is_first (Token kind) spelling behind h = token_again is_first kind spelling behind h
