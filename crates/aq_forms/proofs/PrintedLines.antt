-- Printed lines are lexed as the tokens that they were printed with.
use Rattle.std.proofs.Common.{◌≡◌, ℕ, suc, ◌+◌, ◌-◌, Bool, true, false, not, ◌&&◌, ◌||◌, eqb, List, [], ◌∷◌, ◌++◌, length, drop, get_or, map, refl, sym, ap, subst, ◌∙◌, arith, cond, inl, inr, append_assoc}
use Rattle.std.specs.List.{list_all, flat_map}
use Rattle.std.specs.Char.{is_ascii_digit}
use Rattle.std.proofs.lemmas.Bool.{and_parts, or_from, or_right, not_from_false, not-true, or_cases, cond_both}
use Rattle.std.proofs.lemmas.Bool.Decides.{nat_tests}
use Rattle.std.proofs.lemmas.List.{map-append, append-nil, take_at, drop_at}
use Rattle.aq_base.specs.Names.{Text as Bytes}
use Rattle.aq_lex.specs.declared.token.Symbol.{Symbol as SymbolName}
use Rattle.aq_lex.specs.declared.token.Symbol.TheVariants.{OpenParen, CloseParen, Comma, Semicolon, Dot, Minus, Less, Greater}
use Rattle.aq_lex.specs.declared.token.Directive.{Directive as DirectiveName}
use Rattle.aq_lex.specs.declared.token.TokenKind.{TokenKind}
use Rattle.aq_lex.specs.declared.token.Token.{Token}
use Rattle.aq_lex.specs.Tokens.{is_blank, begins_word, goes_on_in_word, begins_otherwise, is_word, are_digits, quoted, goes_on_in_symbol, Place, beginning, LexesTo, Starts, BehindBlank, BehindToken, Lexes, token_at, behind_blank, behind_token}
use Rattle.aq_lex.specs.Lexemes.{PlacedLexeme, Lexeme, Word, QuotedName, kind_of, token_bytes, lexeme, lexemes, lexeme_of as value_of}
use Rattle.aq_lex.proofs.Once.{Before, before}
use Rattle.aq_texts.specs.Written.{Written, Said, Heading, Name, Number, Literal, Mark, Sign, Call, Repeat, is_bare, token_text, joins_next, joins_last, is_minus, blank_between, text_behind, written}
use Rattle.aq_texts.specs.Canon.{line}
use Rattle.aq_forms.proofs.Sound.{IsSound, AreSound}
use Rattle.aq_forms.proofs.Laid.{lexeme_of, laid}
use Rattle.aq_forms.proofs.PrintedTokens.{goes_on, Spells, spells, heading_spells, said_is_word, sound_digits}

-- ---- bytes that go on with no token

-- an LF, a space, or one of `(`, `)`, `*`, `,`, `.` and `;`
abbrev is_stop : ℕ → Bool
is_stop byte = eqb byte 10 || eqb byte 32 || eqb byte 40 || eqb byte 41 || eqb byte 42 || eqb byte 44 || eqb byte 46 || eqb byte 59

record Stops (byte : ℕ) : Type 0 where
  word : goes_on_in_word byte ≡ false
  digit : is_ascii_digit byte ≡ false
  quote : eqb byte 34 ≡ false
  apostrophe : eqb byte 39 ≡ false
  minus : eqb byte 45 ≡ false
  equal : eqb byte 61 ≡ false
  greater : eqb byte 62 ≡ false

stop_word : (byte : ℕ) → is_stop byte ≡ true → goes_on_in_word byte ≡ false
stop_word byte h = grind (arith, nat_tests)

stops : (byte : ℕ) → is_stop byte ≡ true → Stops byte
stops byte h = record {
  word = stop_word byte h;
  digit = grind (arith, nat_tests);
  quote = grind (arith, nat_tests);
  apostrophe = grind (arith, nat_tests);
  minus = grind (arith, nat_tests);
  equal = grind (arith, nat_tests);
  greater = grind (arith, nat_tests);
}

symbol_stops : (symbol : SymbolName) (byte : ℕ) → Stops byte → goes_on_in_symbol symbol byte ≡ false
symbol_stops Minus byte stops = stops.minus
symbol_stops Less byte stops = or_from (eqb byte 61) (eqb byte 62) stops.equal stops.greater
symbol_stops Greater byte stops = stops.equal
symbol_stops other byte stops = refl

stops_all : (token : Written) (byte : ℕ) → Stops byte → goes_on token byte ≡ false
stops_all (Said text) byte stops = stops.word
stops_all (Heading directive) byte stops = refl
stops_all (Name name) byte stops = or_from (goes_on_in_word byte) (eqb byte 34) stops.word stops.quote
stops_all (Number number) byte stops = stops.digit
stops_all (Literal text) byte stops = stops.apostrophe
stops_all (Mark symbol) byte stops = symbol_stops symbol byte stops
stops_all Sign byte stops = stops.minus
stops_all Call byte stops = refl
stops_all Repeat byte stops = refl

-- what begins with such a byte stops all tokens
stopped : (token : Written) (byte : ℕ) (behind : Bytes) → is_stop byte ≡ true → begins_otherwise (goes_on token) (byte ∷ behind) ≡ true
stopped token byte behind h = not_from_false (goes_on token byte) (stops_all token byte (stops byte h))

-- ---- tokens with no blank between them

-- a token that joins the last one begins with a byte that goes on with none
joined_last : (token next : Written) (behind : Bytes) → joins_last next ≡ true → begins_otherwise (goes_on token) (token_text next ++ behind) ≡ true
joined_last token Call behind joins = stopped token 40 behind refl
joined_last token Repeat behind joins = stopped token 42 behind refl
joined_last token (Mark CloseParen) behind joins = stopped token 41 behind refl
joined_last token (Mark Comma) behind joins = stopped token 44 behind refl
joined_last token (Mark Semicolon) behind joins = stopped token 59 behind refl
joined_last token (Mark Dot) behind joins = stopped token 46 behind refl
joined_last token next behind joins = cc

-- where no byte goes on with a token, none behind it does
never : (bytes : Bytes) → begins_otherwise (λ byte. false) bytes ≡ true
never [] = refl
never (byte ∷ bytes) = refl

word_begins : (byte : ℕ) → begins_word byte ≡ true → not (eqb byte 45) ≡ true
word_begins byte h = grind (arith, nat_tests)

digit_begins : (byte : ℕ) → is_ascii_digit byte ≡ true → not (eqb byte 45) ≡ true
digit_begins byte h = grind (arith, nat_tests)

no_minus_word : (text behind : Bytes) → is_word text ≡ true → begins_otherwise (λ byte. eqb byte 45) (text ++ behind) ≡ true
no_minus_word [] behind h = cc
no_minus_word (byte ∷ text) behind h = word_begins byte (and_parts (begins_word byte) (list_all goes_on_in_word text) h).0

no_minus_digits : (digits behind : Bytes) → are_digits digits ≡ true → begins_otherwise (λ byte. eqb byte 45) (digits ++ behind) ≡ true
no_minus_digits [] behind h = cc
no_minus_digits (byte ∷ digits) behind h = digit_begins byte (and_parts (is_ascii_digit byte) (list_all is_ascii_digit digits) h).0

no_minus_name : (bare : Bool) (text behind : Bytes) → IsSound (cond bare (Word text) (QuotedName text)) → begins_otherwise (λ byte. eqb byte 45) (cond bare text (quoted 34 text) ++ behind) ≡ true
no_minus_name true text behind sound = no_minus_word text behind (and_parts (is_word text) _ sound).0
no_minus_name false text behind sound = refl

-- a token that is no minus sign doesn't begin with one
no_minus : (next : Written) (behind : Bytes) → IsSound (lexeme_of next) → is_minus next ≡ false → begins_otherwise (λ byte. eqb byte 45) (token_text next ++ behind) ≡ true
no_minus (Said text) behind sound other = no_minus_word text behind (said_is_word text sound)
no_minus (Heading directive) behind sound other = absurd sound
no_minus (Name name) behind sound other = no_minus_name (is_bare name) name behind sound
no_minus (Number number) behind sound other = no_minus_digits (token_text (Number number)) behind (sound_digits number sound).0
no_minus (Literal text) behind sound other = refl
no_minus (Mark Minus) behind sound other = cc
no_minus (Mark symbol) behind sound other = refl
no_minus Sign behind sound other = cc
no_minus Call behind sound other = refl
no_minus Repeat behind sound other = refl

-- behind a token that joins the next one only a second minus sign would go on with the first
joined_next : (token next : Written) (behind : Bytes) → IsSound (lexeme_of next) → (joins_next token && not (is_minus token && is_minus next)) ≡ true
    → begins_otherwise (goes_on token) (token_text next ++ behind) ≡ true
joined_next (Mark OpenParen) next behind sound joins = never (token_text next ++ behind)
joined_next (Mark Dot) next behind sound joins = never (token_text next ++ behind)
joined_next Sign next behind sound joins = no_minus next behind sound (not-true (is_minus next) joins)
joined_next Call next behind sound joins = never (token_text next ++ behind)
joined_next Repeat next behind sound joins = never (token_text next ++ behind)
joined_next token next behind sound joins = cc

-- ---- what stands behind a token of a line

-- the tokens can be printed within a statement, on whichever lines
abbrev pub AllSound : List Written → Type 0
AllSound [] = Unit {0}
AllSound (token ∷ tokens) = IsSound (lexeme_of token) × AllSound tokens

pub all_sound : (lines : ℕ → ℕ) (at : ℕ) (tokens : List Written) → AreSound (laid lines at tokens) → AllSound tokens
all_sound lines at [] sound = tt
all_sound lines at (token ∷ tokens) sound = (sound.0, all_sound lines (suc at) tokens sound.1)

pub are_sound : (lines : ℕ → ℕ) (at : ℕ) (tokens : List Written) → AllSound tokens → AreSound (laid lines at tokens)
are_sound lines at [] sound = tt
are_sound lines at (token ∷ tokens) sound = (sound.0, are_sound lines (suc at) tokens sound.1)

pub all_sound_append : (a b : List Written) → AllSound a → AllSound b → AllSound (a ++ b)
all_sound_append [] b first second = second
all_sound_append (token ∷ a) b first second = (first.0, all_sound_append a b first.1 second)

-- no byte behind a token goes on with it
ends : (token : Written) (tokens : List Written) (rest : Bytes) → AllSound tokens → begins_otherwise (goes_on token) (text_behind token tokens ++ 10 ∷ rest) ≡ true
ends token [] rest sound = stopped token 10 rest refl
ends token (next ∷ tokens) rest sound =
    cond_both ((joins_next token && not (is_minus token && is_minus next)) || joins_last next) [] (32 ∷ [])
    (λ (blank : Bytes). begins_otherwise (goes_on token) ((blank ++ (token_text next ++ text_behind next tokens)) ++ 10 ∷ rest) ≡ true)
    (λ joins.
    let behind : Bytes = text_behind next tokens ++ 10 ∷ rest in
    let at_once : begins_otherwise (goes_on token) (token_text next ++ behind) ≡ true =
    elim (or_cases (joins_next token && not (is_minus token && is_minus next)) (joins_last next) joins) [
      | inl e ↦ joined_next token next behind sound.0 e
      | inr e ↦ joined_last token next behind e
    ] in
    subst (λ (x : Bytes). begins_otherwise (goes_on token) x ≡ true) (sym (append_assoc (token_text next) (text_behind next tokens) (10 ∷ rest))) at_once)
    (λ parted. stopped token 32 ((token_text next ++ text_behind next tokens) ++ 10 ∷ rest) refl)

-- ---- tokens, one behind the other

-- the bytes before these are the tokens that are done
record SoFar (bytes : Bytes) (done : List Written) (behind : Bytes) : Type 0 where
  tokens : List Token
  place : Place
  lexes : LexesTo bytes tokens place behind
  values : map (lexeme bytes) tokens ≡ map lexeme_of done

bytes_of : (bytes spelling behind : Bytes) (kind : TokenKind) (place : Place) → Before bytes place.at (spelling ++ behind) → token_bytes bytes (token_at kind spelling place) ≡ spelling
bytes_of bytes spelling behind kind place b =
    let len : place.at + length spelling - place.at ≡ length spelling = omega arith in
    let from : drop place.at bytes ≡ spelling ++ behind = ap (λ (x : Bytes). drop place.at x) b.parts ∙ drop_at b.front (spelling ++ behind) place.at b.size in
    rw (len, from) (take_at spelling behind (length spelling) refl)

one_more : (bytes : Bytes) (done : List Written) (token : Written) (behind : Bytes) (so_far : SoFar bytes done (token_text token ++ behind))
    → Spells so_far.place.is_first (lexeme_of token) (token_text token) behind → SoFar bytes (done ++ token ∷ []) behind
one_more bytes done token behind so_far spelled =
    let kind : TokenKind = kind_of (lexeme_of token) in
    let found : Token = token_at kind (token_text token) so_far.place in
    let inside = bytes_of bytes (token_text token) behind kind so_far.place (before bytes so_far.tokens so_far.place (token_text token ++ behind) so_far.lexes) in
    let value : lexeme bytes found ≡ lexeme_of token = ap (λ (x : Bytes). value_of kind x) inside ∙ spelled.value in
    record {
      tokens = so_far.tokens ++ found ∷ [];
      place = behind_token (token_text token) so_far.place;
      lexes = BehindToken so_far.tokens so_far.place kind (token_text token) behind so_far.lexes spelled.spelled;
      values = map-append (lexeme bytes) so_far.tokens (found ∷ [])
          ∙ (λ i. so_far.values i ++ value i ∷ [])
          ∙ sym (map-append lexeme_of done (token ∷ []));
    }

past_byte : (bytes : Bytes) (done : List Written) (byte : ℕ) (behind : Bytes) → SoFar bytes done (byte ∷ behind) → is_blank byte ≡ true → SoFar bytes done behind
past_byte bytes done byte behind so_far blank = record {
  tokens = so_far.tokens;
  place = behind_blank byte so_far.place;
  lexes = BehindBlank so_far.tokens so_far.place byte behind so_far.lexes blank;
  values = so_far.values;
}

past_blank : (bytes : Bytes) (done : List Written) (token next : Written) (more rest : Bytes) → SoFar bytes done ((blank_between token next ++ (token_text next ++ more)) ++ rest)
    → SoFar bytes done (token_text next ++ (more ++ rest))
past_blank bytes done token next more rest =
    let moved : SoFar bytes done ((token_text next ++ more) ++ rest) → SoFar bytes done (token_text next ++ (more ++ rest)) =
    λ so_far. subst (λ (x : Bytes). SoFar bytes done x) (append_assoc (token_text next) more rest) so_far in
    cond_both ((joins_next token && not (is_minus token && is_minus next)) || joins_last next) [] (32 ∷ [])
    (λ (blank : Bytes). SoFar bytes done ((blank ++ (token_text next ++ more)) ++ rest) → SoFar bytes done (token_text next ++ (more ++ rest)))
    (λ joins so_far. moved so_far) (λ parted so_far. moved (past_byte bytes done 32 ((token_text next ++ more) ++ rest) so_far refl))

-- the tokens of a line behind one of them
tokens_behind : (bytes : Bytes) (done : List Written) (token : Written) (tokens : List Written) (rest : Bytes) → AllSound tokens
    → SoFar bytes done (text_behind token tokens ++ 10 ∷ rest) → SoFar bytes (done ++ tokens) (10 ∷ rest)
tokens_behind bytes done token [] rest sound so_far = subst (λ (x : List Written). SoFar bytes x (10 ∷ rest)) (sym (append-nil done)) so_far
tokens_behind bytes done token (next ∷ tokens) rest sound so_far =
    let at_next = past_blank bytes done token next (text_behind next tokens) (10 ∷ rest) so_far in
    let behind_next = one_more bytes done next (text_behind next tokens ++ 10 ∷ rest) at_next
    (spells at_next.place.is_first next (text_behind next tokens ++ 10 ∷ rest) sound.0 (ends next tokens rest sound.1)) in
    subst (λ (x : List Written). SoFar bytes x (10 ∷ rest)) (append_assoc done (next ∷ []) tokens)
    (tokens_behind bytes (done ++ next ∷ []) next tokens rest sound.1 behind_next)

-- ---- lines

-- the tokens that are done are whole lines
record AtLine (bytes : Bytes) (done : List Written) (behind : Bytes) : Type 0 where
  so_far : SoFar bytes done behind
  is_first : so_far.place.is_first ≡ true

-- a line of tokens that can be printed within a statement, perhaps behind a heading
pub data IsLine : List Written → Type 0 where
  Plain : (tokens : List Written) → AreSound (laid (λ n. 0) 0 tokens) → IsLine tokens
  Headed : (directive : DirectiveName) (tokens : List Written) → AreSound (laid (λ n. 0) 0 tokens) → IsLine (Heading directive ∷ tokens)

abbrev pub AllLines : List (List Written) → Type 0
AllLines [] = Unit {0}
AllLines (tokens ∷ lines) = IsLine tokens × AllLines lines

first_token : (bytes : Bytes) (done : List Written) (token : Written) (tokens : List Written) (rest : Bytes) → AllSound tokens
    → ((is_first : Bool) (behind : Bytes) → is_first ≡ true → begins_otherwise (goes_on token) behind ≡ true → Spells is_first (lexeme_of token) (token_text token) behind)
    → AtLine bytes done (written (token ∷ tokens) ++ 10 ∷ rest) → SoFar bytes (done ++ token ∷ tokens) (10 ∷ rest)
first_token bytes done token tokens rest sound spelled here =
    let behind : Bytes = text_behind token tokens ++ 10 ∷ rest in
    let at_line = subst (λ (x : Bytes). AtLine bytes done x) (append_assoc (token_text token) (text_behind token tokens) (10 ∷ rest)) here in
    let behind_first = one_more bytes done token behind at_line.so_far (spelled at_line.so_far.place.is_first behind at_line.is_first (ends token tokens rest sound)) in
    subst (λ (x : List Written). SoFar bytes x (10 ∷ rest)) (append_assoc done (token ∷ []) tokens)
    (tokens_behind bytes (done ++ token ∷ []) token tokens rest sound behind_first)

plain_line : (bytes : Bytes) (done tokens : List Written) (rest : Bytes) → AllSound tokens → AtLine bytes done (written tokens ++ 10 ∷ rest) → SoFar bytes (done ++ tokens) (10 ∷ rest)
plain_line bytes done [] rest sound at_line = subst (λ (x : List Written). SoFar bytes x (10 ∷ rest)) (sym (append-nil done)) at_line.so_far
plain_line bytes done (token ∷ tokens) rest sound at_line =
    first_token bytes done token tokens rest sound.1 (λ is_first behind first otherwise. spells is_first token behind sound.0 otherwise) at_line

tokens_of_line : (bytes : Bytes) (done tokens : List Written) (rest : Bytes) → IsLine tokens → AtLine bytes done (written tokens ++ 10 ∷ rest) → SoFar bytes (done ++ tokens) (10 ∷ rest)
tokens_of_line bytes done tokens rest (Plain tokens' sound) at_line = plain_line bytes done tokens' rest (all_sound (λ n. 0) 0 tokens' sound) at_line
tokens_of_line bytes done tokens rest (Headed directive others sound) at_line =
    first_token bytes done (Heading directive) others rest (all_sound (λ n. 0) 0 others sound)
    (λ is_first behind first otherwise. subst (λ (b : Bool). Spells b (lexeme_of (Heading directive)) (token_text (Heading directive)) behind) (sym first) (heading_spells directive behind)) at_line

past_line : (bytes : Bytes) (done : List Written) (rest : Bytes) → SoFar bytes done (10 ∷ rest) → AtLine bytes done rest
unfolding past_byte
past_line bytes done rest so_far = record { so_far = past_byte bytes done 10 rest so_far refl; is_first = or_right so_far.place.is_first true refl }

all_lines : (bytes : Bytes) (done : List Written) (lines : List (List Written)) → AllLines lines → AtLine bytes done (flat_map line lines) → SoFar bytes (done ++ flat_map (λ tokens. tokens) lines) []
all_lines bytes done [] all at_line = subst (λ (x : List Written). SoFar bytes x []) (sym (append-nil done)) at_line.so_far
all_lines bytes done (tokens ∷ lines) all at_line =
    let here = subst (λ (x : Bytes). AtLine bytes done x) (append_assoc (written tokens) (10 ∷ []) (flat_map line lines)) at_line in
    let next = past_line bytes (done ++ tokens) (flat_map line lines) (tokens_of_line bytes done tokens (flat_map line lines) all.0 here) in
    subst (λ (x : List Written). SoFar bytes x []) (append_assoc done tokens (flat_map (λ tokens. tokens) lines)) (all_lines bytes (done ++ tokens) lines all.1 next)

-- ---- the lines of lexemes

-- lexemes that have the values of printed tokens are those tokens, where each is on its own line
placed_so : (found : List PlacedLexeme) (tokens : List Written) (lines : ℕ → ℕ) (at : ℕ) → map (λ (p : PlacedLexeme). p.lexeme) found ≡ map lexeme_of tokens
    → ((k : ℕ) → lines (at + k) ≡ get_or (map (λ (p : PlacedLexeme). p.line) found) k 0) → found ≡ laid lines at tokens
placed_so [] [] lines at values each = refl
placed_so [] (token ∷ tokens) lines at values each = absurd cc
placed_so (first ∷ found) [] lines at values each = absurd cc
placed_so (first ∷ found) (token ∷ tokens) lines at values each =
    let same : at + 0 ≡ at = omega arith in
    let here : first.line ≡ lines at = sym (each 0) ∙ ap lines same in
    let value : first.lexeme ≡ lexeme_of token = cc in
    let later : (k : ℕ) → lines (suc at + k) ≡ get_or (map (λ (p : PlacedLexeme). p.line) found) k 0 =
    λ k. let e : suc at + k ≡ at + suc k = omega arith in ap lines e ∙ each (suc k) in
    let others = placed_so found tokens lines (suc at) (cc) later in
    λ i. record { line = here i; lexeme = value i } ∷ others i

values_of : (bytes : Bytes) (tokens : List Token) → map (λ (p : PlacedLexeme). p.lexeme) (lexemes bytes tokens) ≡ map (lexeme bytes) tokens
values_of bytes [] = refl
values_of bytes (token ∷ tokens) = ap (λ (x : List Lexeme). lexeme bytes token ∷ x) (values_of bytes tokens)

-- ---- the theorems

-- printed lines are lexed as their tokens
pub lines_lex : (lines : List (List Written)) → AllLines lines
    → (tokens : List Token) × (place : ℕ → ℕ) × Lexes (flat_map line lines) tokens × (lexemes (flat_map line lines) tokens ≡ laid place 0 (flat_map (λ tokens. tokens) lines))
lines_lex lines all =
    let bytes : Bytes = flat_map line lines in
    let start : AtLine bytes [] bytes = record { so_far = record { tokens = []; place = beginning; lexes = Starts; values = refl }; is_first = refl } in
    let end = all_lines bytes [] lines all start in
    let found : List PlacedLexeme = lexemes bytes end.tokens in
    let place : ℕ → ℕ = λ n. get_or (map (λ (p : PlacedLexeme). p.line) found) n 0 in
    let values : map (λ (p : PlacedLexeme). p.lexeme) found ≡ map lexeme_of (flat_map (λ tokens. tokens) lines) = values_of bytes end.tokens ∙ end.values in
    let each : (k : ℕ) → place (0 + k) ≡ place k = λ k. let e : 0 + k ≡ k = omega arith in ap place e in
    (end.tokens, place, record { place = end.place; lexes = end.lexes }, placed_so found (flat_map (λ tokens. tokens) lines) place 0 values each)

-- a printed line by itself is lexed as its tokens
pub line_lexes : (tokens : List Written) → IsLine tokens → (found : List Token) × (place : ℕ → ℕ) × Lexes (line tokens) found × (lexemes (line tokens) found ≡ laid place 0 tokens)
line_lexes tokens is =
    let alone = lines_lex (tokens ∷ []) (is, tt) in (
      alone.0,
      alone.1,
      subst (λ (x : Bytes). Lexes x alone.0) (append-nil (line tokens)) alone.2,
      ap (λ (x : Bytes). lexemes x alone.0) (sym (append-nil (line tokens))) ∙ alone.3 ∙ ap (λ (x : List Written). laid alone.1 0 x) (append-nil tokens),
    )
