-- Bytes are one list of tokens at the most, or have one place where no token begins.
use Rattle.std.proofs.Common.{◌≡◌, ◌≢◌, ℕ, zero, suc, ◌+◌, ◌-◌, ◌<◌, Bool, true, false, eqb, List, [], ◌∷◌, ◌++◌, length, take, drop, Option, Some, None, Result, Ok, Err, refl, sym, ap, ◌∙◌, subst, append_assoc, length-append, arith}
use Rattle.std.proofs.lemmas.List.{append-nil, append_cancel_right, take_at}
use Rattle.std.proofs.lemmas.Bool.{not-true, both_ways}
use Rattle.aq_lex.specs.declared.token.TokenKind.{TokenKind}
use Rattle.aq_lex.specs.declared.token.TokenKind.TheVariants.{Word, QuotedName, Integer, Text, Symbol, Directive}
use Rattle.aq_lex.specs.declared.token.Token.{Token as TokenRecord}
use Rattle.aq_lex.specs.declared.piece.Piece.{Piece}
use Rattle.aq_lex.specs.declared.piece.Piece.TheVariants.{Blank, Comment, Token}
use Rattle.aq_lex.specs.Tokens.{is_blank, begins_otherwise, goes_on_in_symbol, Quotes, SpellsToken, IsComment, Place, beginning, LexesTo, Starts, BehindBlank, BehindComment, BehindToken, Lexes, BeginsNothing, NoTokenAt, token_at}
use Rattle.aq_lex.specs.Lexing.{piece_at, tokens_of}
use Rattle.aq_lex.proofs.Pieces.{SpellsPiece, Found, piece_takes, piece_again}
use Rattle.aq_lex.proofs.Running.{place_behind, piece_some}

-- ---- all tokens by a function, or the place where none begins

-- tokens, or a place
abbrev Outcome : Type 0
Outcome = Result (List TokenRecord) ℕ

abbrev with_front : List TokenRecord → Outcome → Outcome
with_front before (Ok tokens) = Ok (before ++ tokens)
with_front before (Err at) = Err at

abbrev from_piece : Option (Piece × ℕ) → Outcome → (Piece × ℕ → Outcome) → Outcome
from_piece None none some = none
from_piece (Some found) none some = some found

-- what a place leads to, where that many bytes are still of the piece before it
run : ℕ → Place → List ℕ → Outcome
run left place [] = Ok []
run (suc left) place (byte ∷ bytes) = run left place bytes
run zero place (byte ∷ bytes) =
    from_piece (piece_at place.is_first (byte ∷ bytes)) (Err place.at)
    (λ found. with_front (tokens_of found.0 place.at (place.at + found.1)) (run (found.1 - 1) (place_behind found.0 found.1 byte place) bytes))

skipped : (left : ℕ) (place : Place) (bytes : List ℕ) → run left place bytes ≡ run 0 place (drop left bytes)
unfolding run
skipped zero place bytes = refl
skipped (suc left) place [] = refl
skipped (suc left) place (byte ∷ bytes) = skipped left place bytes

drop_front : (others behind : List ℕ) → drop (length others) (others ++ behind) ≡ behind
drop_front [] behind = refl
drop_front (byte ∷ others) behind = drop_front others behind

run_piece : (place : Place) (piece : Piece) (byte : ℕ) (others behind : List ℕ) → SpellsPiece place.is_first piece (byte ∷ others) behind
    → run 0 place (byte ∷ others ++ behind) ≡ with_front (tokens_of piece place.at (place.at + length (byte ∷ others))) (run 0 (place_behind piece (length (byte ∷ others)) byte place) behind)
unfolding run
run_piece place piece byte others behind spelled =
    let len : ℕ = length (byte ∷ others) in
    let next : Place = place_behind piece len byte place in
    let found : piece_at place.is_first (byte ∷ (others ++ behind)) ≡ Some (piece, len) = piece_again place.is_first piece (byte ∷ others) behind spelled in
    let less : suc (length others) - 1 ≡ length others = omega arith in
    let left : run (len - 1) next (others ++ behind) ≡ run 0 next behind =
    ap (λ (n : ℕ). run n next (others ++ behind)) less ∙ (skipped (length others) next (others ++ behind) ∙ ap (λ (x : List ℕ). run 0 next x) (drop_front others behind)) in
    ap (λ (o : Option (Piece × ℕ)). from_piece o (Err place.at) (λ found. with_front (tokens_of found.0 place.at (place.at + found.1)) (run (found.1 - 1) (place_behind found.0 found.1 byte place) (others ++ behind)))) found
    ∙ ap (λ (o : Outcome). with_front (tokens_of piece place.at (place.at + len)) o) left

no_front : (o : Outcome) → with_front [] o ≡ o
no_front (Ok tokens) = refl
no_front (Err at) = refl

two_fronts : (a b : List TokenRecord) (o : Outcome) → with_front a (with_front b o) ≡ with_front (a ++ b) o
two_fronts a b (Ok tokens) = ap (λ (x : List TokenRecord). Ok x) (sym (append_assoc a b tokens))
two_fronts a b (Err at) = refl

token_run : (place : Place) (kind : TokenKind) (spelling behind : List ℕ) → SpellsToken place.is_first kind spelling behind
    → run 0 place (spelling ++ behind) ≡ with_front (token_at kind spelling place ∷ []) (run 0 (record { at = place.at + length spelling; is_first = false }) behind)
token_run place kind [] behind spelled = absurd (omega (arith, piece_some place.is_first (Token kind) [] behind spelled))
token_run place kind (byte ∷ others) behind spelled = run_piece place (Token kind) byte others behind spelled

comment_run : (place : Place) (spelling behind : List ℕ) → IsComment spelling behind
    → run 0 place (spelling ++ behind) ≡ run 0 (record { at = place.at + length spelling; is_first = place.is_first }) behind
comment_run place [] behind spelled = absurd (omega (arith, piece_some place.is_first Comment [] behind spelled))
comment_run place (byte ∷ others) behind spelled = run_piece place Comment byte others behind spelled ∙ no_front _

reached : (bytes : List ℕ) (tokens : List TokenRecord) (place : Place) (rest : List ℕ) → LexesTo bytes tokens place rest → run 0 beginning bytes ≡ with_front tokens (run 0 place rest)
reached bytes tokens place rest Starts = sym (no_front (run 0 beginning bytes))
reached bytes tokens place rest (BehindBlank tokens' place' byte behind l h) =
    reached bytes tokens' place' (byte ∷ behind) l ∙ ap (λ (o : Outcome). with_front tokens' o) (run_piece place' Blank byte [] behind (byte, refl, h) ∙ no_front _)
reached bytes tokens place rest (BehindComment tokens' place' spelling behind l h) =
    reached bytes tokens' place' (spelling ++ behind) l ∙ ap (λ (o : Outcome). with_front tokens' o) (comment_run place' spelling behind h)
reached bytes tokens place rest (BehindToken tokens' place' kind spelling behind l h) =
    reached bytes tokens' place' (spelling ++ behind) l ∙ (ap (λ (o : Outcome). with_front tokens' o) (token_run place' kind spelling behind h) ∙ two_fronts tokens' (token_at kind spelling place' ∷ []) _)

run_all : (bytes : List ℕ) (tokens : List TokenRecord) → Lexes bytes tokens → run 0 beginning bytes ≡ Ok tokens
unfolding run
run_all bytes tokens all = reached bytes tokens all.place [] all.lexes ∙ ap (λ (x : List TokenRecord). Ok x) (append-nil tokens)

blank_contradicts : (bytes spelling behind : List ℕ) (byte : ℕ) → bytes ≡ spelling ++ behind → spelling ≡ byte ∷ [] → is_blank byte ≡ true → begins_otherwise is_blank bytes ≡ true → ⊥
blank_contradicts [] spelling behind byte parts one blank no_blank = let e : [] ≡ byte ∷ behind = parts ∙ ap (λ (x : List ℕ). x ++ behind) one in absurd cc
blank_contradicts (first ∷ bytes) spelling behind byte parts one blank no_blank =
    let e : first ∷ bytes ≡ byte ∷ behind = parts ∙ ap (λ (x : List ℕ). x ++ behind) one in
    let same : byte ≡ first = cc in
    both_ways (is_blank first) (not-true (is_blank first) no_blank) (subst (λ (b : ℕ). is_blank b ≡ true) same blank)

-- bytes with which nothing begins are found to be so
contradicts : (is_first : Bool) (bytes : List ℕ) (piece : Piece) (len : ℕ) → BeginsNothing is_first bytes → Found is_first bytes piece len → ⊥
contradicts is_first bytes Blank len nothing found = blank_contradicts bytes found.spelling found.behind found.spelled.0 found.parts found.spelled.1 found.spelled.2 nothing.no_blank
contradicts is_first bytes Comment len nothing found = nothing.no_comment found.spelling found.behind found.parts found.spelled
contradicts is_first bytes (Token kind) len nothing found = nothing.no_token kind found.spelling found.behind found.parts found.spelled

none_found : (is_first : Bool) (bytes : List ℕ) → BeginsNothing is_first bytes → piece_at is_first bytes ≡ None
none_found is_first bytes nothing = (elim (piece_at is_first bytes) as (λ v. piece_at is_first bytes ≡ v → piece_at is_first bytes ≡ None) [
  | None ↦ λ e. e
  | Some found ↦ λ e. absurd (contradicts is_first bytes found.0 found.1 nothing (piece_takes is_first bytes found e))
]) refl

run_stops : (place : Place) (bytes : List ℕ) → BeginsNothing place.is_first bytes → run 0 place bytes ≡ Err place.at
unfolding run
run_stops place [] nothing = absurd (nothing.some refl)
run_stops place (byte ∷ bytes) nothing =
    ap (λ (o : Option (Piece × ℕ)). from_piece o (Err place.at) (λ found. with_front (tokens_of found.0 place.at (place.at + found.1)) (run (found.1 - 1) (place_behind found.0 found.1 byte place) bytes)))
    (none_found place.is_first (byte ∷ bytes) nothing)

run_refused : (bytes : List ℕ) (at : ℕ) → NoTokenAt bytes at → run 0 beginning bytes ≡ Err at
run_refused bytes at bad =
    reached bytes bad.tokens bad.place bad.behind bad.lexes
    ∙ (ap (λ (o : Outcome). with_front bad.tokens o) (run_stops bad.place bad.behind bad.nothing) ∙ ap (λ (n : ℕ). Err n) bad.here)

-- ---- the laws

pub lexes_once : (bytes : List ℕ) (a b : List TokenRecord) → Lexes bytes a → Lexes bytes b → a ≡ b
lexes_once bytes a b first second =
    let e : ◌≡◌ {A = Outcome} (Ok a) (Ok b) = sym (run_all bytes a first) ∙ run_all bytes b second in cc

pub lexes_or_not : (bytes : List ℕ) (tokens : List TokenRecord) (at : ℕ) → Lexes bytes tokens → NoTokenAt bytes at → ⊥
lexes_or_not bytes tokens at all bad =
    let e : ◌≡◌ {A = Outcome} (Ok tokens) (Err at) = sym (run_all bytes tokens all) ∙ run_refused bytes at bad in absurd cc

pub refused_once : (bytes : List ℕ) (a b : ℕ) → NoTokenAt bytes a → NoTokenAt bytes b → a ≡ b
refused_once bytes a b first second =
    let e : ◌≡◌ {A = Outcome} (Err a) (Err b) = sym (run_refused bytes a first) ∙ run_refused bytes b second in cc

-- ---- the bytes before a place

otherwise_front : (test : ℕ → Bool) (front behind : List ℕ) → begins_otherwise test (front ++ behind) ≡ true → begins_otherwise test front ≡ true
otherwise_front test [] behind h = refl
otherwise_front test (byte ∷ front) behind h = h

quotes_front : (quote : ℕ) (text bytes front behind : List ℕ) → Quotes quote text bytes (front ++ behind) → Quotes quote text bytes front
quotes_front quote text bytes front behind q = record { spelled = q.spelled; utf8 = q.utf8; ends = otherwise_front (λ byte. eqb byte quote) front behind q.ends }

token_front : (is_first : Bool) (kind : TokenKind) (bytes front behind : List ℕ) → SpellsToken is_first kind bytes (front ++ behind) → SpellsToken is_first kind bytes front
token_front is_first Word bytes front behind h = (h.0, otherwise_front _ front behind h.1)
token_front is_first QuotedName bytes front behind h = (h.0, h.1, quotes_front 34 h.0 bytes front behind h.2)
token_front is_first Integer bytes front behind h = (h.0, otherwise_front _ front behind h.1)
token_front is_first Text bytes front behind h = (h.0, quotes_front 39 h.0 bytes front behind h.1)
token_front is_first (Symbol symbol) bytes front behind h = (h.0, otherwise_front (goes_on_in_symbol symbol) front behind h.1)
token_front is_first (Directive directive) bytes front behind h = h

-- what stands behind a place may be cut short
cut_short : (bytes : List ℕ) (tokens : List TokenRecord) (place : Place) (rest : List ℕ) → LexesTo bytes tokens place rest
    → (middle tail front : List ℕ) → rest ≡ middle ++ tail → bytes ≡ front ++ tail → LexesTo front tokens place middle
cut_short bytes tokens place rest Starts middle tail front parts whole =
    let same : front ≡ middle = append_cancel_right front middle tail (sym whole ∙ parts) in
    subst (λ (x : List ℕ). LexesTo front [] beginning x) same Starts
cut_short bytes tokens place rest (BehindBlank tokens' place' byte behind l h) middle tail front parts whole =
    BehindBlank tokens' place' byte middle (cut_short bytes tokens' place' (byte ∷ behind) l (byte ∷ middle) tail front (ap (λ (x : List ℕ). byte ∷ x) parts) whole) h
cut_short bytes tokens place rest (BehindComment tokens' place' spelling behind l h) middle tail front parts whole =
    let longer : spelling ++ behind ≡ (spelling ++ middle) ++ tail = ap (λ (x : List ℕ). spelling ++ x) parts ∙ sym (append_assoc spelling middle tail) in
    let comment = subst (λ (x : List ℕ). IsComment spelling x) parts h in
    BehindComment tokens' place' spelling middle (cut_short bytes tokens' place' (spelling ++ behind) l (spelling ++ middle) tail front longer whole)
    (record { text = comment.text; spelled = comment.spelled; in_line = comment.in_line; utf8 = comment.utf8; ends = otherwise_front _ middle tail comment.ends })
cut_short bytes tokens place rest (BehindToken tokens' place' kind spelling behind l h) middle tail front parts whole =
    let longer : spelling ++ behind ≡ (spelling ++ middle) ++ tail = ap (λ (x : List ℕ). spelling ++ x) parts ∙ sym (append_assoc spelling middle tail) in
    let token = subst (λ (x : List ℕ). SpellsToken place'.is_first kind spelling x) parts h in
    BehindToken tokens' place' kind spelling middle (cut_short bytes tokens' place' (spelling ++ behind) l (spelling ++ middle) tail front longer whole)
    (token_front place'.is_first kind spelling middle tail token)

-- the bytes before a place, as many as it says
pub record Before (bytes : List ℕ) (at : ℕ) (rest : List ℕ) : Type 0 where
  pub front : List ℕ
  pub parts : bytes ≡ front ++ rest
  pub size : length front ≡ at

pub before_more : (bytes : List ℕ) (at : ℕ) (spelling rest : List ℕ) → Before bytes at (spelling ++ rest) → Before bytes (at + length spelling) rest
before_more bytes at spelling rest before = record {
  front = before.front ++ spelling;
  parts = before.parts ∙ sym (append_assoc before.front spelling rest);
  size = length-append before.front spelling ∙ ap (λ (n : ℕ). n + length spelling) before.size;
}

pub before : (bytes : List ℕ) (tokens : List TokenRecord) (place : Place) (rest : List ℕ) → LexesTo bytes tokens place rest → Before bytes place.at rest
before bytes tokens place rest Starts = record { front = []; parts = refl; size = refl }
before bytes tokens place rest (BehindBlank tokens' place' byte behind l h) = before_more bytes place'.at (byte ∷ []) behind (before bytes tokens' place' (byte ∷ behind) l)
before bytes tokens place rest (BehindComment tokens' place' spelling behind l h) = before_more bytes place'.at spelling behind (before bytes tokens' place' (spelling ++ behind) l)
before bytes tokens place rest (BehindToken tokens' place' kind spelling behind l h) = before_more bytes place'.at spelling behind (before bytes tokens' place' (spelling ++ behind) l)

-- the bytes before a place are its tokens by themselves
pub lexed_front : (bytes : List ℕ) (tokens : List TokenRecord) (place : Place) (rest : List ℕ) → LexesTo bytes tokens place rest → Lexes (take place.at bytes) tokens
lexed_front bytes tokens place rest l =
    let b = before bytes tokens place rest l in
    let front : take place.at bytes ≡ b.front = ap (λ (x : List ℕ). take place.at x) b.parts ∙ take_at b.front rest place.at b.size in
    subst (λ (x : List ℕ). Lexes x tokens) (sym front) (record { place = place; lexes = cut_short bytes tokens place rest l [] rest b.front refl b.parts })

pub refused_front : (bytes : List ℕ) (at : ℕ) → NoTokenAt bytes at → (tokens : List TokenRecord) × Lexes (take at bytes) tokens
refused_front bytes at bad = (bad.tokens, subst (λ (n : ℕ). Lexes (take n bytes) bad.tokens) bad.here (lexed_front bytes bad.tokens bad.place bad.behind bad.lexes))

within_rest : (bytes : List ℕ) (at from : ℕ) (rest : List ℕ) → rest ≢ [] → from ≡ at → Before bytes from rest → at < length bytes
within_rest bytes at from [] some here b = absurd (some refl)
within_rest bytes at from (byte ∷ rest) some here b = omega (arith, ap length b.parts, length-append b.front (byte ∷ rest), b.size)

-- the place where no token begins is within the bytes
pub refused_within : (bytes : List ℕ) (at : ℕ) → NoTokenAt bytes at → at < length bytes
refused_within bytes at bad = within_rest bytes at bad.place.at bad.behind bad.nothing.some bad.here (before bytes bad.tokens bad.place bad.behind bad.lexes)
