-- Going over bytes from left to right, piece by piece: there is one way to do it.
use Rattle.std.proofs.Common.{◌≡◌, ℕ, ◌+◌, ◌<◌, ◌≤◌, Bool, true, false, List, [], ◌∷◌, ◌++◌, length, drop, Option, Some, None, IfSome, refl, sym, ap, ◌∙◌, subst, length-append, arith, inl, inr}
use Rattle.std.proofs.lemmas.List.{append-nil, drop_at}
use Rattle.std.proofs.lemmas.Bool.{both_ways, not_from_false, false_from_ne_true}
use Rattle.aq_lex.specs.declared.token.Symbol.{Symbol as SymbolName}
use Rattle.aq_lex.specs.declared.token.Symbol.TheVariants.{OpenParen, CloseParen, Comma, Semicolon, Dot, Plus, Minus, Times, Equal, Unequal, Less, AtMost, Greater, AtLeast, DollarQuote}
use Rattle.aq_lex.specs.declared.token.Directive.{Directive as DirectiveName}
use Rattle.aq_lex.specs.declared.token.Directive.TheVariants.{Setup, Session, Schedule}
use Rattle.aq_lex.specs.declared.token.TokenKind.{TokenKind}
use Rattle.aq_lex.specs.declared.token.TokenKind.TheVariants.{Word, QuotedName, Integer, Text, Symbol, Directive}
use Rattle.aq_lex.specs.declared.token.Token.{Token as TokenRecord}
use Rattle.aq_lex.specs.declared.piece.Piece.{Piece}
use Rattle.aq_lex.specs.declared.piece.Piece.TheVariants.{Blank, Comment, Token}
use Rattle.aq_lex.specs.Tokens.{is_blank, behind_blank, directive_bytes, SpellsSymbol, SpellsToken, Place, LexesTo, BehindBlank, BehindComment, BehindToken, Lexes, BeginsNothing, NoTokenAt}
use Rattle.aq_lex.specs.Lexing.{piece_at, is_first_behind, tokens_of}
use Rattle.aq_lex.proofs.Bytes.{none_is_not}
use Rattle.aq_lex.proofs.Pieces.{SpellsPiece, piece_takes, piece_again}

-- ---- a piece is not empty

symbol_some : (symbol : SymbolName) (bytes : List ℕ) → SpellsSymbol symbol bytes → 0 < length bytes
symbol_some OpenParen bytes h = rw h (omega arith)
symbol_some CloseParen bytes h = rw h (omega arith)
symbol_some Comma bytes h = rw h (omega arith)
symbol_some Semicolon bytes h = rw h (omega arith)
symbol_some Dot bytes h = rw h (omega arith)
symbol_some Plus bytes h = rw h (omega arith)
symbol_some Minus bytes h = rw h (omega arith)
symbol_some Times bytes h = rw h (omega arith)
symbol_some Equal bytes h = rw h (omega arith)
symbol_some Unequal bytes h = elim h [ inl e ↦ rw e (omega arith) | inr e ↦ rw e (omega arith) ]
symbol_some Less bytes h = rw h (omega arith)
symbol_some AtMost bytes h = rw h (omega arith)
symbol_some Greater bytes h = rw h (omega arith)
symbol_some AtLeast bytes h = rw h (omega arith)
symbol_some DollarQuote bytes h = rw h (omega arith)

directive_some : (directive : DirectiveName) (bytes : List ℕ) → bytes ≡ directive_bytes directive → 0 < length bytes
directive_some Setup bytes h = rw h (omega arith)
directive_some Session bytes h = rw h (omega arith)
directive_some Schedule bytes h = rw h (omega arith)

token_some : (is_first : Bool) (kind : TokenKind) (bytes behind : List ℕ) → SpellsToken is_first kind bytes behind → 0 < length bytes
token_some is_first Word [] behind h = absurd (both_ways _ refl h.0)
token_some is_first Word (byte ∷ bytes) behind h = omega arith
token_some is_first QuotedName bytes behind h = rw h.2.spelled (omega arith)
token_some is_first Integer [] behind h = absurd (both_ways _ refl h.0)
token_some is_first Integer (byte ∷ bytes) behind h = omega arith
token_some is_first Text bytes behind h = rw h.1.spelled (omega arith)
token_some is_first (Symbol symbol) bytes behind h = symbol_some symbol bytes h.0
token_some is_first (Directive directive) bytes behind h = directive_some directive bytes h.0

pub piece_some : (is_first : Bool) (piece : Piece) (bytes behind : List ℕ) → SpellsPiece is_first piece bytes behind → 0 < length bytes
piece_some is_first Blank bytes behind h = rw h.1 (omega arith)
piece_some is_first Comment bytes behind h = rw h.spelled (omega arith)
piece_some is_first (Token kind) bytes behind h = token_some is_first kind bytes behind h

-- ---- one piece more

abbrev pub place_behind : Piece → ℕ → ℕ → Place → Place
place_behind piece len byte place = record { at = place.at + len; is_first = is_first_behind place.is_first piece byte }

pub record GoesOn (bytes : List ℕ) (tokens : List TokenRecord) (place : Place) (rest behind : List ℕ) (len : ℕ) : Type 0 where
  pub lexes : LexesTo bytes tokens place behind
  pub some : 0 < len
  pub within : len ≤ length rest

blank_piece : (bytes : List ℕ) (tokens : List TokenRecord) (place : Place) (byte : ℕ) (others behind : List ℕ) → LexesTo bytes tokens place (byte ∷ others ++ behind) → others ≡ [] → is_blank byte ≡ true
    → LexesTo bytes (tokens ++ []) (place_behind Blank (length (byte ∷ others)) byte place) behind
blank_piece bytes tokens place byte [] behind l alone blank =
    subst (λ (ts : List TokenRecord). LexesTo bytes ts (behind_blank byte place) behind) (sym (append-nil tokens)) (BehindBlank tokens place byte behind l blank)
blank_piece bytes tokens place byte (other ∷ others) behind l alone blank = absurd cc

one_piece : (bytes : List ℕ) (tokens : List TokenRecord) (place : Place) (piece : Piece) (byte : ℕ) (others behind : List ℕ) → LexesTo bytes tokens place (byte ∷ others ++ behind)
    → SpellsPiece place.is_first piece (byte ∷ others) behind
    → LexesTo bytes (tokens ++ tokens_of piece place.at (place.at + length (byte ∷ others))) (place_behind piece (length (byte ∷ others)) byte place) behind
one_piece bytes tokens place Blank byte others behind l h =
    let head : h.0 ≡ byte = cc (h.1) in
    let alone : others ≡ [] = cc (h.1) in
    let blank : is_blank byte ≡ true = subst (λ (b : ℕ). is_blank b ≡ true) head h.2 in
    blank_piece bytes tokens place byte others behind l alone blank
one_piece bytes tokens place Comment byte others behind l h =
    subst (λ (ts : List TokenRecord). LexesTo bytes ts (place_behind Comment (length (byte ∷ others)) byte place) behind) (sym (append-nil tokens)) (BehindComment tokens place (byte ∷ others) behind l h)
one_piece bytes tokens place (Token kind) byte others behind l h = BehindToken tokens place kind (byte ∷ others) behind l h

goes_on_found : (bytes : List ℕ) (tokens : List TokenRecord) (place : Place) (byte : ℕ) (after rest spelling behind : List ℕ) (piece : Piece) (len : ℕ) → LexesTo bytes tokens place rest → rest ≡ byte ∷ after
    → rest ≡ spelling ++ behind → len ≡ length spelling → SpellsPiece place.is_first piece spelling behind
    → GoesOn bytes (tokens ++ tokens_of piece place.at (place.at + len)) (place_behind piece len byte place) rest (drop len rest) len
goes_on_found bytes tokens place byte after rest [] behind piece len l is parts size spelled = absurd (omega (arith, piece_some place.is_first piece [] behind spelled))
goes_on_found bytes tokens place byte after rest (first ∷ others) behind piece len l is parts size spelled =
    let same : first ≡ byte = cc in
    let moved : LexesTo bytes tokens place (first ∷ others ++ behind) = subst (λ (x : List ℕ). LexesTo bytes tokens place x) parts l in
    let more = one_piece bytes tokens place piece first others behind moved spelled in
    let left : drop len rest ≡ behind = ap (λ (x : List ℕ). drop len x) parts ∙ drop_at (first ∷ others) behind len (sym size) in
    let here = subst (λ (b : ℕ). LexesTo bytes (tokens ++ tokens_of piece place.at (place.at + length (first ∷ others))) (place_behind piece (length (first ∷ others)) b place) behind) same more in
    let there = subst (λ (n : ℕ). LexesTo bytes (tokens ++ tokens_of piece place.at (place.at + n)) (place_behind piece n byte place) behind) (sym size) here in
    record {
      lexes = subst (λ (x : List ℕ). LexesTo bytes (tokens ++ tokens_of piece place.at (place.at + len)) (place_behind piece len byte place) x) (sym left) there;
      some = omega (arith, size);
      within = omega (arith, size, ap length parts, length-append (first ∷ others) behind);
    }

-- what a loop knows behind the piece that it found
pub goes_on : (bytes : List ℕ) (tokens : List TokenRecord) (place : Place) (byte : ℕ) (after rest : List ℕ) (found : Piece × ℕ) → LexesTo bytes tokens place rest → rest ≡ byte ∷ after
    → piece_at place.is_first rest ≡ Some found
    → GoesOn bytes (tokens ++ tokens_of found.0 place.at (place.at + found.1)) (place_behind found.0 found.1 byte place) rest (drop found.1 rest) found.1
goes_on bytes tokens place byte after rest found l is e =
    let f = piece_takes place.is_first rest found e in
    goes_on_found bytes tokens place byte after rest f.spelling f.behind found.0 found.1 l is f.parts f.size f.spelled

-- ---- where nothing is found nothing begins

not_found : (is_first : Bool) (rest : List ℕ) (piece : Piece) (spelling behind : List ℕ) → piece_at is_first rest ≡ None → rest ≡ spelling ++ behind
    → SpellsPiece is_first piece spelling behind → ⊥
not_found is_first rest piece spelling behind none parts spelled =
    none_is_not (piece, length spelling) (sym none ∙ (ap (λ (x : List ℕ). piece_at is_first x) parts ∙ piece_again is_first piece spelling behind spelled))

pub nothing_begins : (is_first : Bool) (byte : ℕ) (bytes rest : List ℕ) → rest ≡ byte ∷ bytes → piece_at is_first rest ≡ None → BeginsNothing is_first rest
nothing_begins is_first byte bytes rest is none =
    let not_blank : is_blank byte ≡ false = false_from_ne_true (is_blank byte) (λ e. not_found is_first rest Blank (byte ∷ []) bytes none is (byte, refl, e)) in
    record {
      some = λ e. absurd cc;
      no_blank = rw is (not_from_false (is_blank byte) not_blank);
      no_comment = λ spelling behind parts spelled. not_found is_first rest Comment spelling behind none parts spelled;
      no_token = λ kind spelling behind parts spelled. not_found is_first rest (Token kind) spelling behind none parts spelled;
    }

pub no_token_at : (bytes : List ℕ) (tokens : List TokenRecord) (place : Place) (byte : ℕ) (after rest : List ℕ) → LexesTo bytes tokens place rest → rest ≡ byte ∷ after
    → piece_at place.is_first rest ≡ None → NoTokenAt bytes place.at
no_token_at bytes tokens place byte after rest l is none =
    record { tokens = tokens; place = place; behind = rest; lexes = l; here = refl; nothing = nothing_begins place.is_first byte after rest is none }

pub all_lexed : (bytes : List ℕ) (tokens : List TokenRecord) (place : Place) (rest : List ℕ) → LexesTo bytes tokens place rest → length rest ≡ 0 → Lexes bytes tokens
all_lexed bytes tokens place [] l none = record { place = place; lexes = l }
all_lexed bytes tokens place (byte ∷ rest) l none = absurd (omega (arith, none))

pub found_within : (is_first : Bool) (bytes : List ℕ) (given : Option (Piece × ℕ)) → given ≡ piece_at is_first bytes → IfSome given (λ found. (0 < found.1) × (found.1 ≤ length bytes))
found_within is_first bytes None e = tt
found_within is_first bytes (Some found) e =
    let f = piece_takes is_first bytes found (sym e) in
    (omega (arith, f.size, piece_some is_first found.0 f.spelling f.behind f.spelled), omega (arith, f.size, ap length f.parts, length-append f.spelling f.behind))
