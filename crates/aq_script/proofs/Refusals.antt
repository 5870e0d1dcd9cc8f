-- The tokens are a script in which nothing is refused, which is read; or one place is refused first, with one fault, and that place is found.
use Rattle.std.proofs.Common.{◌≡◌, List, [], ◌++◌, sym, subst}
use Rattle.aq_base.specs.declared.fault.SqlFault.{SqlFault}
use Rattle.aq_base.specs.declared.script.Script.{Script}
use Rattle.aq_lex.specs.Lexemes.{PlacedLexeme}
use Rattle.aq_grammar.specs.Reading.{Outcome, Read, Stop}
use Rattle.aq_grammar.specs.Places.{IsClear, IsRefusedAt}
use Rattle.aq_grammar.proofs.RefusedAt.{one_fault}
use Rattle.aq_script.specs.Sections.{SpellsScript, BarsScript}
use Rattle.aq_grammar.specs.Stopping.{refused_place}
use Rattle.aq_script.specs.Parsing.{whole_script}
use Rattle.aq_script.proofs.Whole.{IsWholeRight, whole_right}
use Rattle.aq_script.proofs.Places.{refused_so, one_refused_place, none_in_script}
use Rattle.aq_script.proofs.Faults.{script_one}

-- in given tokens at most one place is the first that is refused, with one fault
pub one_refusal : (tokens front place other rest : List PlacedLexeme) (one two : SqlFault) → tokens ≡ front ++ place → tokens ≡ other ++ rest
    → IsRefusedAt SpellsScript BarsScript front place one → IsRefusedAt SpellsScript BarsScript other rest two → (front ≡ other) × (place ≡ rest) × (one ≡ two)
one_refusal tokens front place other rest one two e p first second =
    let same = one_refused_place tokens front place other rest one two e p first second in
    let second_here = subst (λ (u : List PlacedLexeme). IsRefusedAt SpellsScript BarsScript u rest two) (sym same.0) second in
    let second_there = subst (λ (u : List PlacedLexeme). IsRefusedAt SpellsScript BarsScript front u two) (sym same.1) second_here in
    (same.0, same.1, one_fault SpellsScript BarsScript script_one front place one two first.fault_at second_there.fault_at)

read_from : (tokens : List PlacedLexeme) (script : Script) (outcome : Outcome Script) → SpellsScript script tokens → IsClear BarsScript tokens [] → IsWholeRight tokens outcome
    → outcome ≡ Read script []
read_from tokens script (Read found rest) s clear (ended, whole) = let same = whole.only script s in cc
read_from tokens script (Stop reason rest) s clear stops =
    let at = refused_so tokens reason rest stops.front stops.whole stops.stops in
    let place = refused_place tokens reason rest in
    absurd (none_in_script tokens at.0 place.0 script place.1 s clear at.1 at.2)

-- a script in which nothing is refused is read
pub script_is_read : (tokens : List PlacedLexeme) (script : Script) → SpellsScript script tokens → IsClear BarsScript tokens [] → whole_script tokens ≡ Read script []
script_is_read tokens script s clear = read_from tokens script (whole_script tokens) s clear (whole_right tokens)
