-- The line of the place that is refused first in the tokens of bytes.
use Rattle.std.proofs.Common.{◌≡◌, ℕ, ◌-◌, ◌≤◌, Bool, true, false, ◌&&◌, if◌then◌else◌, nat_lt, List, [], ◌∷◌, ◌++◌, length, take, drop, refl, sym, ap, ◌∙◌, subst, inl, inr, arith, length-append, length-take, length-drop}
use Rattle.std.proofs.lemmas.Bool.{and_parts, false_from_ne_true}
use Rattle.std.proofs.lemmas.List.{append-nil, drop_at}
use Rattle.aq_base.specs.declared.fault.SqlFault.{SqlFault}
use Rattle.aq_base.specs.declared.script.Script.{Script}
use Rattle.aq_lex.specs.declared.token.Token.{Token}
use Rattle.aq_lex.specs.declared.token.Symbol.TheVariants.{OpenParen}
use Rattle.aq_lex.specs.Tokens.{Lexes, NoTokenAt}
use Rattle.aq_lex.specs.Lexemes.{PlacedLexeme, lexemes, line_at}
use Rattle.aq_lex.proofs.Once.{lexes_or_not, refused_front, refused_within}
use Rattle.aq_grammar.specs.Terminals.{Sign, fits}
use Rattle.aq_grammar.specs.Reading.{Reason, Read, Stop, Syntax}
use Rattle.aq_grammar.specs.Places.{begins_subquery, subquery_fault, syntax_error, IsRefusedAt}
use Rattle.aq_grammar.specs.Stopping.{one_before, refused_place, last_tokens, IsPlace}
use Rattle.aq_grammar.specs.declared.place.RefusedPlace.{RefusedPlace}
use Rattle.aq_grammar.proofs.FirstRefused.{IsFirstRefused}
use Rattle.aq_grammar.proofs.RefusedAt.{no_subqueries}
use Rattle.aq_grammar.proofs.RightForms.{begins_whole}
use Rattle.aq_script.specs.Sections.{SpellsScript, BarsScript}
use Rattle.aq_script.specs.Parsing.{whole_script}
use Rattle.aq_script.specs.Reading.{Reads, All, Before, BeginsScript, IsRefusedLine, AtToken, AtByte, AtEnd}
use Rattle.aq_script.specs.RefusedLines.{IsRefusedPlace, IsRefusedBefore, line_or}
use Rattle.aq_script.proofs.Whole.{whole_read, whole_stopped}
use Rattle.aq_script.proofs.Ends.{script_short}
use Rattle.aq_script.proofs.Places.{refused_so}
use Rattle.aq_script.proofs.Subqueries.{no_subquery_begun}

last_is : (tokens front rest : List PlacedLexeme) (left : ℕ) → tokens ≡ front ++ rest → left ≡ length rest → last_tokens left tokens ≡ rest
last_is tokens front rest left e l =
    let same : length front ≡ length tokens - left = omega (arith, ap length e, length-append front rest) in
    ap (λ (u : List PlacedLexeme). drop (length tokens - left) u) e ∙ drop_at front rest (length tokens - left) same

-- ---- the place where reading stops

place_by : (tokens : List PlacedLexeme) (found : RefusedPlace) (is : List PlacedLexeme × SqlFault) → IsFirstRefused SpellsScript BarsScript tokens is → IsPlace found is
    → IsRefusedPlace tokens found
place_by tokens found (place, fault) first same =
    record {
      front = first.0;
      place = place;
      whole = first.1;
      left = same.0;
      refused = subst (λ (why : SqlFault). IsRefusedAt SpellsScript BarsScript first.0 place why) (sym same.1) first.2;
    }

pub place_found : (tokens rest : List PlacedLexeme) (reason : Reason) (left : ℕ) (found : RefusedPlace) → whole_script tokens ≡ Stop reason rest → left ≡ length rest
    → IsPlace found (refused_place tokens reason (last_tokens left tokens)) → IsRefusedPlace tokens found
place_found tokens rest reason left found e l is =
    let s = whole_stopped tokens rest reason e in
    let here = last_is tokens s.front rest left s.whole l in
    place_by tokens found (refused_place tokens reason rest) (refused_so tokens reason rest s.front s.whole s.stops)
    (subst (λ (u : List PlacedLexeme). IsPlace found (refused_place tokens reason u)) here is)

-- one token is no subquery
alone : (tokens : List PlacedLexeme) → length tokens ≤ 1 → begins_subquery tokens ≡ false
alone [] one = refl
alone (token ∷ []) one = false_from_ne_true (fits (Sign OpenParen) token && false) (λ e. let no_more = (and_parts (fits (Sign OpenParen) token) false e).1 in cc)
alone (token ∷ next ∷ tokens) one = absurd (omega arith)

and_none : (a b : Bool) → b ≡ false → a && b ≡ false
and_none true b e = e
and_none false b e = refl

at_end : (tokens : List PlacedLexeme) → refused_place tokens Syntax [] ≡ ([], syntax_error)
at_end tokens =
    let last = one_before tokens [] in
    let single : length (one_before tokens []) ≤ 1 = omega (arith, length-drop (length tokens - 0 - 1) tokens) in
    ap (λ (test : Bool). if test then (last, subquery_fault) else ([], syntax_error)) (and_none (nat_lt 0 (length tokens)) (begins_subquery last) (alone last single))

pub place_at_end : (tokens rest : List PlacedLexeme) (script : Script) (found : RefusedPlace) → whole_script tokens ≡ Read script rest
    → IsPlace found (refused_place tokens Syntax (last_tokens 0 tokens)) → IsRefusedBefore tokens found
place_at_end tokens rest script found e is =
    let whole = (whole_read tokens rest script e).1 in
    let begun = begins_whole SpellsScript script tokens whole.spelled in
    let end = last_is tokens tokens [] 0 (sym (append-nil tokens)) refl in
    let here = subst (λ (at : List PlacedLexeme × SqlFault). IsPlace found at) (ap (λ (u : List PlacedLexeme). refused_place tokens Syntax u) end ∙ at_end tokens) is in
    inr (record { begun = begun; clear = whole.clear; no_subquery = no_subqueries SpellsScript BarsScript script_short no_subquery_begun tokens begun }, here.0, here.1)

-- ---- its line

line_of_all : (bytes : List ℕ) (tokens : List Token) (front place : List PlacedLexeme) (fault : SqlFault) → Lexes bytes tokens → lexemes bytes tokens ≡ front ++ place
    → IsRefusedAt SpellsScript BarsScript front place fault → IsRefusedLine bytes (line_or (line_at bytes (length bytes)) place) fault
line_of_all bytes tokens front [] fault l e refused =
    AtEnd tokens fault l (subst (λ (u : List PlacedLexeme). IsRefusedAt SpellsScript BarsScript u [] fault) (sym (e ∙ append-nil front)) refused)
line_of_all bytes tokens front (token ∷ behind) fault l e refused = AtToken bytes tokens front token behind fault All l e refused

-- the line of a place in bytes that are all tokens
pub line_of_place : (bytes : List ℕ) (tokens : List Token) (found : RefusedPlace) → Lexes bytes tokens → IsRefusedPlace (lexemes bytes tokens) found
    → IsRefusedLine bytes (line_or (line_at bytes (length bytes)) (last_tokens found.left (lexemes bytes tokens))) found.fault
line_of_place bytes tokens found l r =
    subst (λ (u : List PlacedLexeme). IsRefusedLine bytes (line_or (line_at bytes (length bytes)) u) found.fault)
    (sym (last_is (lexemes bytes tokens) r.front r.place found.left r.whole r.left)) (line_of_all bytes tokens r.front r.place found.fault l r.whole r.refused)

line_of_front : (bytes : List ℕ) (at : ℕ) (tokens : List Token) (front place : List PlacedLexeme) (fault : SqlFault) → NoTokenAt bytes at → Lexes (take at bytes) tokens
    → lexemes (take at bytes) tokens ≡ front ++ place → IsRefusedAt SpellsScript BarsScript front place fault → IsRefusedLine bytes (line_or (line_at bytes at) place) fault
line_of_front bytes at tokens front [] fault bad l e refused =
    let begins : BeginsScript front = record { begun = refused.begun; clear = refused.clear; no_subquery = refused.no_subquery } in
    let begins_so = subst (λ (u : List PlacedLexeme). BeginsScript u) (sym (e ∙ append-nil front)) begins in
    subst (λ (why : SqlFault). IsRefusedLine bytes (line_at bytes at) why) (sym refused.fault_at.1) (AtByte at tokens bad l begins_so)
line_of_front bytes at tokens front (token ∷ behind) fault bad l e refused = AtToken (take at bytes) tokens front token behind fault (Before at bad) l e refused

-- the line of a place before a byte at which no token begins, or of that byte
pub line_of_place_before : (bytes : List ℕ) (at : ℕ) (tokens : List Token) (found : RefusedPlace) → NoTokenAt bytes at → Lexes (take at bytes) tokens
    → IsRefusedBefore (lexemes (take at bytes) tokens) found
    → IsRefusedLine bytes (line_or (line_at bytes at) (last_tokens found.left (lexemes (take at bytes) tokens))) found.fault
line_of_place_before bytes at tokens found bad l (inl r) =
    subst (λ (u : List PlacedLexeme). IsRefusedLine bytes (line_or (line_at bytes at) u) found.fault)
    (sym (last_is (lexemes (take at bytes) tokens) r.front r.place found.left r.whole r.left))
    (line_of_front bytes at tokens r.front r.place found.fault bad l r.whole r.refused)
line_of_place_before bytes at tokens found bad l (inr (begins, none, fault)) =
    let lexed = lexemes (take at bytes) tokens in
    let end = last_is lexed lexed [] found.left (sym (append-nil lexed)) none in
    let here = subst (λ (why : SqlFault). IsRefusedLine bytes (line_at bytes at) why) (sym fault) (AtByte at tokens bad l begins) in
    subst (λ (u : List PlacedLexeme). IsRefusedLine bytes (line_or (line_at bytes at) u) found.fault) (sym end) here

-- ---- bytes that are a script

pub reads_by : (bytes : List ℕ) (tokens : List Token) (script : Script) → Lexes bytes tokens → whole_script (lexemes bytes tokens) ≡ Read script [] → Reads bytes script
reads_by bytes tokens script l e =
    let whole = (whole_read (lexemes bytes tokens) [] script e).1 in record { tokens = tokens; lexed = l; spelled = whole.spelled; clear = whole.clear }

-- ---- bytes at one of which no token begins

pub bytes_before : (bytes : List ℕ) (at : ℕ) → NoTokenAt bytes at → at ≡ length (take at bytes)
bytes_before bytes at bad = omega (arith, length-take at bytes, refused_within bytes at bad)

-- before it one begins at each place
pub none_before : (bytes : List ℕ) (at place : ℕ) → NoTokenAt bytes at → NoTokenAt (take at bytes) place → ⊥
none_before bytes at place bad before = let front = refused_front bytes at bad in lexes_or_not (take at bytes) front.0 place front.1 before
