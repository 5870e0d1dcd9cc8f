-- Where reading stops, the refused place is the first that is refused, and there is one such place.
use Rattle.std.proofs.Common.{◌≡◌, List, [], ◌++◌, sym, ◌∙◌}
use Rattle.aq_base.specs.declared.fault.SqlFault.{SqlFault}
use Rattle.aq_base.specs.declared.script.Script.{Script}
use Rattle.aq_lex.specs.Lexemes.{PlacedLexeme}
use Rattle.aq_grammar.specs.Reading.{Reason}
use Rattle.aq_grammar.specs.Places.{IsClear, IsRefusedAt}
use Rattle.aq_grammar.specs.Stopping.{refused_place}
use Rattle.aq_grammar.proofs.RefusedAt.{one_place, none_in_whole}
use Rattle.aq_grammar.proofs.FirstRefused.{StopsAt, IsFirstRefused, first_refused}
use Rattle.aq_script.specs.Sections.{SpellsScript, BarsScript}
use Rattle.aq_script.proofs.Ends.{script_free_at_end, script_short, script_barred_short}
use Rattle.aq_script.proofs.Subqueries.{no_subquery_begun}

-- the place that is found where reading a script stops is the first
pub refused_so : (tokens : List PlacedLexeme) (reason : Reason) (rest front : List PlacedLexeme) → tokens ≡ front ++ rest → StopsAt SpellsScript BarsScript reason front rest
    → IsFirstRefused SpellsScript BarsScript tokens (refused_place tokens reason rest)
refused_so = first_refused SpellsScript BarsScript script_free_at_end script_barred_short no_subquery_begun

-- ---- one place

-- in given tokens at most one place is the first that is refused
pub one_refused_place : (tokens front place other rest : List PlacedLexeme) (one two : SqlFault) → tokens ≡ front ++ place → tokens ≡ other ++ rest
    → IsRefusedAt SpellsScript BarsScript front place one → IsRefusedAt SpellsScript BarsScript other rest two → (front ≡ other) × (place ≡ rest)
one_refused_place tokens front place other rest one two e p first second = one_place SpellsScript BarsScript script_short front place other rest one two (sym e ∙ p) first second

-- and none where the tokens are a script in which nothing is refused
pub none_in_script : (tokens front place : List PlacedLexeme) (script : Script) (fault : SqlFault) → SpellsScript script tokens → IsClear BarsScript tokens []
    → tokens ≡ front ++ place → IsRefusedAt SpellsScript BarsScript front place fault → ⊥
none_in_script tokens front place script fault s clear e at =
    none_in_whole SpellsScript BarsScript script_short no_subquery_begun script tokens front place fault s clear e at
