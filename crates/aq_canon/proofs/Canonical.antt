-- A canonical text is read as its script, unless a limit is passed.
use Rattle.std.proofs.Common.{◌≡◌, ℕ, Bool, true, false, ◌&&◌, List, [], ◌∷◌, ◌++◌, length, take, drop, ◌-◌, arith, length-append, inl, inr, refl, sym, ap, ◌∙◌, subst, if◌then◌else◌}
use Rattle.std.proofs.lemmas.Bool.{and_parts}
use Rattle.std.proofs.lemmas.List.{take-append-drop, drop_at}
use Rattle.std.specs.Prelude.{nat_lt}
use Rattle.aq_base.specs.declared.fault.SqlFault.{SqlFault}
use Rattle.aq_base.specs.declared.script.Script.{Script}
use Rattle.aq_lex.specs.declared.token.Token.{Token}
use Rattle.aq_lex.specs.Tokens.{Lexes}
use Rattle.aq_lex.specs.Lexemes.{PlacedLexeme, lexemes, line_at}
use Rattle.aq_grammar.specs.Reading.{Outcome, Read, Stop, Refused, ◌>>=◌}
use Rattle.aq_grammar.specs.Pairs.{HasSubquery}
use Rattle.aq_grammar.specs.Places.{begins_subquery, subquery_fault}
use Rattle.aq_grammar.specs.Stopping.{one_before, last_tokens, refused_place}
use Rattle.aq_grammar.specs.declared.place.RefusedPlace.{RefusedPlace}
use Rattle.aq_grammar.proofs.RefusedAt.{pair_within}
use Rattle.aq_script.specs.Sections.{SpellsScript}
use Rattle.aq_script.specs.Parsing.{read_script, at_end, whole_script}
use Rattle.aq_script.specs.Reading.{Reads}
use Rattle.aq_script.specs.RefusedLines.{IsRefusedPlace, line_or}
use Rattle.aq_script.proofs.OneLine.{one_script}
use Rattle.aq_script.proofs.Refusals.{script_is_read}
use Rattle.aq_script.proofs.RefusedLines.{place_found, line_of_place, reads_by}
use Rattle.aq_script.proofs.Subqueries.{script_free}
use Rattle.aq_script.proofs.Whole.{whole_stopped}
use Rattle.aq_texts.specs.Canon.{script_lines, canon}
use Rattle.aq_forms.proofs.Laid.{laid}
use Rattle.aq_forms.proofs.Free.{IsLimit, ReadsOrLimit}
use Rattle.aq_forms.proofs.Texts.{lexed_texts}
use Rattle.aq_forms.proofs.PrintedLines.{lines_lex}
use Rattle.aq_canon.specs.Same.{script_alone}
use Rattle.aq_canon.specs.Laws.{PassesNoLimit, ReadsBack, OneScript}
use Rattle.aq_canon.proofs.Outcomes.{bind_parts}
use Rattle.aq_canon.proofs.ReadAgain.{setup_statements_again, session_statements_again}
use Rattle.aq_canon.proofs.Scripts.{script_tokens, tokens_are, script_again}

-- nothing is left behind a whole script
whole_parts : (tokens : List PlacedLexeme) (script : Script) → whole_script tokens ≡ Read script [] → read_script tokens ≡ Read script []
whole_parts tokens script e =
    let (found, rest, read, ended) = bind_parts (read_script tokens) at_end script [] e in
    read ∙ ended_is found rest ended
  where
    ended_is : (found : Script) (rest : List PlacedLexeme) → at_end found rest ≡ Read script [] → ◌≡◌ {A = Outcome Script} (Read found rest) (Read script [])
    ended_is found [] e = e
    ended_is found (token ∷ rest) e = cc

last_is : (tokens front rest : List PlacedLexeme) → tokens ≡ front ++ rest → last_tokens (length rest) tokens ≡ rest
last_is tokens front rest e =
    let same : length front ≡ length tokens - length rest = omega (arith, ap length e, length-append front rest) in
    ap (λ (u : List PlacedLexeme). drop (length tokens - length rest) u) e ∙ drop_at front rest (length tokens - length rest) same

-- two neighbours that make a subquery
subquery_at : (tokens : List PlacedLexeme) (n : ℕ) → begins_subquery (drop n tokens) ≡ true → HasSubquery tokens
subquery_at tokens n is = by_rest (drop n tokens) refl is
  where
    by_rest : (rest : List PlacedLexeme) → drop n tokens ≡ rest → begins_subquery rest ≡ true → HasSubquery tokens
    by_rest [] e is = cc
    by_rest (first ∷ []) e is = absurd (no_second first is)
      where
        no_second : (first : PlacedLexeme) → begins_subquery (first ∷ []) ≡ true → ⊥
        no_second first is = let no_more = (and_parts _ false is).1 in cc
    by_rest (first ∷ second ∷ rest) e is =
        pair_within tokens (take n tokens) first second rest rest (sym (take-append-drop n tokens) ∙ ap (λ (u : List PlacedLexeme). take n tokens ++ u) e) is

-- where a spelled script stops at a refusal, that is its fault
place_is : (tokens rest : List PlacedLexeme) (fault : SqlFault) → (HasSubquery tokens → ⊥) → ◌≡◌ {A = List PlacedLexeme × SqlFault} (refused_place tokens (Refused fault) rest) (rest, fault)
place_is tokens rest fault none = by_test (nat_lt (length rest) (length tokens) && begins_subquery (one_before tokens rest)) refl
  where
    by_test : (test : Bool) → (nat_lt (length rest) (length tokens) && begins_subquery (one_before tokens rest)) ≡ test
        → ◌≡◌ {A = List PlacedLexeme × SqlFault} (if test then (one_before tokens rest, subquery_fault) else (rest, fault)) (rest, fault)
    by_test false e = refl
    by_test true e = absurd (none (subquery_at tokens _ (and_parts (nat_lt (length rest) (length tokens)) (begins_subquery (one_before tokens rest)) e).1))

-- a text that stops at a limit is refused for it
limit_refused : (bytes : List ℕ) (tokens : List Token) (script : Script) → Lexes bytes tokens → SpellsScript script (lexemes bytes tokens) → (fault : SqlFault) (rest : List PlacedLexeme)
    → whole_script (lexemes bytes tokens) ≡ Stop (Refused fault) rest → IsLimit fault → PassesNoLimit bytes → ⊥
limit_refused bytes tokens script lexed spelled fault rest e limit none =
    let u = lexemes bytes tokens in
    let stops = whole_stopped u rest (Refused fault) e in
    let found : RefusedPlace = record { left = length rest; fault = fault } in
    let place : List PlacedLexeme × SqlFault = (rest, fault) in
    let here : refused_place u (Refused fault) (last_tokens (length rest) u) ≡ place =
    ap (refused_place u (Refused fault)) (last_is u stops.front rest stops.whole) ∙ place_is u rest fault (script_free script u spelled) in
    let is_place : IsRefusedPlace u found =
    place_found u rest (Refused fault) (length rest) found e refl (subst (λ (p : List PlacedLexeme × SqlFault). (length rest ≡ length p.0) × (fault ≡ p.1)) (sym here) (refl, refl)) in
    none (line_or (line_at bytes (length bytes)) (last_tokens (length rest) u)) fault (line_of_place bytes tokens found lexed is_place) limit

pub reads_back : ReadsBack
reads_back bytes script reads no_limit =
    let u = lexemes bytes reads.tokens in
    let read = whole_parts u script (script_is_read u script reads.spelled reads.clear) in
    let texts = lexed_texts bytes reads.tokens reads.lexed in
    let lines = (script_again setup_statements_again session_statements_again u script texts read (λ n. 0)).lines in
    let (tokens, place, lexed, are) = lines_lex (script_lines script) lines in
    let again = script_again setup_statements_again session_statements_again u script texts read place in
    let tokens_is : lexemes (canon script) tokens ≡ laid place 0 (script_tokens script) = are ∙ ap (laid place 0) (tokens_are script) in
    let spelled : SpellsScript again.found (lexemes (canon script) tokens) = subst (SpellsScript again.found) (sym tokens_is) again.spelled in
    (again.found, by_outcome tokens lexed again.found spelled (subst (λ (v : List PlacedLexeme). ReadsOrLimit (read_script v) again.found []) (sym tokens_is) again.read), again.same)
  where
    by_outcome : (tokens : List Token) → Lexes (canon script) tokens → (found : Script) → SpellsScript found (lexemes (canon script) tokens)
        → ReadsOrLimit (read_script (lexemes (canon script) tokens)) found [] → Reads (canon script) found
    by_outcome tokens lexed found spelled (inl e) = reads_by (canon script) tokens found lexed (ap (λ (o : Outcome Script). o >>= at_end) e)
    by_outcome tokens lexed found spelled (inr (fault, rest, e, limit)) =
        absurd (limit_refused (canon script) tokens found lexed spelled fault rest (ap (λ (o : Outcome Script). o >>= at_end) e) limit no_limit)

pub one_script_of : OneScript
one_script_of bytes others a b first second no_limit same =
    let one = reads_back bytes a first no_limit in
    let two = reads_back others b second (subst PassesNoLimit same no_limit) in
    let read_both : Reads (canon b) one.0 = subst (λ (text : List ℕ). Reads text one.0) same one.1 in
    sym one.2 ∙ ap script_alone (one_script (canon b) one.0 two.0 read_both two.1) ∙ two.2
