-- From a place in tokens at most one statement's place is refused first, with one fault.
use Rattle.std.proofs.Common.{◌≡◌, ℕ, ◌-◌, ◌≤◌, List, length, drop, sym, ap, ◌∙◌, subst, arith}
use Rattle.std.proofs.lemmas.List.{length-drop}
use Rattle.aq_base.specs.declared.fault.SqlFault.{SqlFault}
use Rattle.aq_lex.specs.Lexemes.{PlacedLexeme}
use Rattle.aq_grammar.specs.Nonterminals.{Spells, Bars}
use Rattle.aq_grammar.specs.Places.{FaultAt}
use Rattle.aq_grammar.proofs.RefusedAt.{one_place, one_fault}
use Rattle.aq_parse.specs.declared.statements.Place.{Place}
use Rattle.aq_parse.specs.Statements.{statement_of}
use Rattle.aq_parse.specs.Parsed.{between, IsRefusedStatement}
use Rattle.aq_parse.proofs.StatementFits.{statement_short, statement_one_fault}
use Rattle.aq_parse.proofs.ParsedAt.{two_parts}

-- two places with the same tokens from there on are one
same_place : (tokens : List PlacedLexeme) (at behind : ℕ) → at ≤ length tokens → behind ≤ length tokens → drop at tokens ≡ drop behind tokens → at ≡ behind
same_place tokens at behind a b e =
    let left : length tokens - at ≡ length tokens - behind = sym (length-drop at tokens) ∙ (ap length e ∙ length-drop behind tokens) in
    omega arith

pub refused_once : (place : Place) (tokens : List PlacedLexeme) (from at behind : ℕ) (one other : SqlFault) → IsRefusedStatement (statement_of place) tokens from at one
    → IsRefusedStatement (statement_of place) tokens from behind other → (at ≡ behind) × (one ≡ other)
refused_once place tokens from at behind one other first second =
    let whole = two_parts tokens from at first.behind in
    let other_whole = two_parts tokens from behind second.behind in
    let same =
    one_place (Spells (statement_of place)) (Bars (statement_of place)) (statement_short place) (between from at tokens) (drop at tokens) (between from behind tokens) (drop behind tokens)
    one other (sym whole ∙ other_whole) first.refused second.refused in
    let there = subst (λ (u : List PlacedLexeme). FaultAt (Spells (statement_of place)) (Bars (statement_of place)) u (drop behind tokens) other) (sym same.0) second.refused.fault_at in
    let here = subst (λ (u : List PlacedLexeme). FaultAt (Spells (statement_of place)) (Bars (statement_of place)) (between from at tokens) u other) (sym same.1) there in (
      same_place tokens at behind first.within second.within same.1,
      one_fault (Spells (statement_of place)) (Bars (statement_of place)) (statement_one_fault place) (between from at tokens) (drop at tokens) one other first.refused.fault_at here,
    )
