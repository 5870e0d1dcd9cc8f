-- The first place that is refused, and its fault, of any form in whose beginnings no subquery stands.
use Rattle.std.proofs.Common.{◌≡◌, Bool, true, false, List, [], ◌∷◌, ◌++◌, codes, if◌then◌else◌, Option, Some, None, refl, sym, ap, ◌∙◌, subst, append_assoc, inl, inr}
use Rattle.std.proofs.lemmas.Bool.{and_parts}
use Rattle.std.proofs.lemmas.List.{append-nil}
use Rattle.aq_base.specs.declared.fault.SqlFault.{SqlFault}
use Rattle.aq_lex.specs.declared.token.Symbol.{Symbol as SymbolName}
use Rattle.aq_lex.specs.declared.token.Symbol.TheVariants.{OpenParen}
use Rattle.aq_lex.specs.Lexemes.{PlacedLexeme, Lexeme, Word, Symbol}
use Rattle.aq_grammar.specs.Terminals.{Keyword, Sign, fits, is_of_kind, begin_with}
use Rattle.aq_grammar.specs.Rules.{Form, Bar, Begins}
use Rattle.aq_grammar.specs.Places.{IsClear, IsStuck, own_fault, syntax_error, begins_subquery, subquery_fault, UnbarredFault, TokenFault, FaultAt, BarsSubqueries, IsRefusedAt}
use Rattle.aq_grammar.specs.Pairs.{open_paren, select_word, HasSubquery}
use Rattle.aq_grammar.proofs.Cuts.{Compared, Same, Longer, Shorter, compare}
use Rattle.aq_grammar.proofs.Apart.{same_text_is}
use Rattle.aq_grammar.proofs.RightForms.{begins_whole, begins_less, begins_first}
use Rattle.aq_grammar.proofs.Short.{AreShort, IsShort, short_front, short_next}

-- ---- a `(` and SELECT

symbol_is_paren : (symbol : SymbolName) → is_of_kind (Sign OpenParen) (Symbol symbol) ≡ true → Symbol symbol ≡ open_paren
symbol_is_paren OpenParen is = refl
symbol_is_paren symbol is = cc

is_paren : (lexeme : Lexeme) → is_of_kind (Sign OpenParen) lexeme ≡ true → lexeme ≡ open_paren
is_paren (Symbol symbol) is = symbol_is_paren symbol is
is_paren lexeme is = cc

is_select : (lexeme : Lexeme) → is_of_kind (Keyword (codes "select")) lexeme ≡ true → lexeme ≡ select_word
is_select (Word text) is = ap Word (same_text_is text (codes "select") is)
is_select lexeme is = cc

pair_is : (first second : PlacedLexeme) (rest : List PlacedLexeme) → begins_subquery (first ∷ second ∷ rest) ≡ true
    → (first.lexeme ≡ open_paren) × (second.lexeme ≡ select_word)
pair_is first second rest is =
    let parts = and_parts (fits (Sign OpenParen) first) (begin_with (Keyword (codes "select") ∷ []) (second ∷ rest)) is in
    (is_paren first.lexeme parts.0, is_select second.lexeme (and_parts (fits (Keyword (codes "select")) second) true parts.1).0)

first_is : (first : PlacedLexeme) (rest : List PlacedLexeme) → begins_subquery (first ∷ rest) ≡ true → first.lexeme ≡ open_paren
first_is first rest is = is_paren first.lexeme (and_parts (fits (Sign OpenParen) first) (begin_with (Keyword (codes "select") ∷ []) rest) is).0

as_token : (token : PlacedLexeme) (lexeme : Lexeme) → token.lexeme ≡ lexeme → token ≡ record { line = token.line; lexeme = lexeme }
as_token token lexeme e = ap (λ (x : Lexeme). let t : PlacedLexeme = record { line = token.line; lexeme = x } in t) e

pub pair_within : (u before : List PlacedLexeme) (first second : PlacedLexeme) (more rest : List PlacedLexeme) → u ≡ before ++ first ∷ second ∷ more
    → begins_subquery (first ∷ second ∷ rest) ≡ true → HasSubquery u
pair_within u before first second more rest e is =
    let pair = pair_is first second rest is in
    let opened = as_token first open_paren pair.0 in
    let selected = as_token second select_word pair.1 in
    (before, more, first.line, second.line, cc)

-- ---- where reading stops

pub token_fault : {A : Type 0} (Spelled : Form A) (bars : Bar) (front : List PlacedLexeme) (token : PlacedLexeme) (behind : List PlacedLexeme)
    → IsStuck Spelled bars front (token ∷ behind) → (is_subquery : Bool)
    → UnbarredFault Spelled front token is_subquery (if is_subquery then subquery_fault else syntax_error)
token_fault Spelled bars front token behind stuck true = refl
token_fault Spelled bars front token behind stuck false = (stuck.past token behind refl, refl)

module _ {A : Type 0} (Spelled : Form A) (bars : Bar) (none : (u : List PlacedLexeme) → Begins Spelled u → HasSubquery u → ⊥)
    (front rest : List PlacedLexeme) (clear : IsClear bars front rest) (begun : Begins Spelled front) where
  -- no subquery lies across the end of the front
  clear_by : (before : List PlacedLexeme) (token : PlacedLexeme) (behind : List PlacedLexeme) → front ≡ before ++ token ∷ behind
      → ((last : List PlacedLexeme) (other : PlacedLexeme) → front ≡ last ++ other ∷ [] → begins_subquery (other ∷ rest) ≡ true → ⊥)
      → begins_subquery (token ∷ behind ++ rest) ≡ true → ⊥
  clear_by before token [] e alone is = alone before token e is
  clear_by before token (next ∷ more) e alone is = none front begun (pair_within front before token next more (more ++ rest) e is)

  pub refused_here : (fault : SqlFault) → FaultAt Spelled bars front rest fault
      → ((last : List PlacedLexeme) (other : PlacedLexeme) → front ≡ last ++ other ∷ [] → begins_subquery (other ∷ rest) ≡ true → ⊥)
      → IsRefusedAt Spelled bars front rest fault
  refused_here fault fault_at alone =
      record {
        clear = clear;
        no_subquery = λ before token behind f e is. clear_by before token behind e alone is;
        begun = begun;
        fault_at = fault_at;
      }

  module _ (last : List PlacedLexeme) (paren : PlacedLexeme) (ends : front ≡ last ++ paren ∷ []) (is : begins_subquery (paren ∷ rest) ≡ true) where
    longer : (before behind : List PlacedLexeme) (token : PlacedLexeme) → last ≡ before ++ token ∷ behind → front ≡ before ++ token ∷ (behind ++ paren ∷ [])
    longer before behind token e = ends ∙ ap (λ (u : List PlacedLexeme). u ++ paren ∷ []) e ∙ append_assoc before (token ∷ behind) (paren ∷ [])

    clear_before : IsClear bars last (paren ∷ rest)
    clear_before before token behind fault e bar =
        clear before token (behind ++ paren ∷ []) fault (longer before behind token e)
        (subst (λ (u : List PlacedLexeme). bars before (token ∷ u) fault) (sym (append_assoc behind (paren ∷ []) rest)) bar)

    none_before : (before : List PlacedLexeme) (token : PlacedLexeme) (behind : List PlacedLexeme) → last ≡ before ++ token ∷ behind
        → begins_subquery (token ∷ behind ++ paren ∷ rest) ≡ true → ⊥
    none_before before token [] e pair = none front begun (pair_within front before token paren [] rest (longer before [] token e) pair)
    none_before before token (next ∷ more) e pair =
        none front begun (pair_within front before token next (more ++ paren ∷ []) (more ++ paren ∷ rest) (longer before (next ∷ more) token e) pair)

    paren_fault : TokenFault Spelled bars last paren rest None subquery_fault
    paren_fault = inr (λ barred bar. clear last paren [] barred ends bar, subst (λ (b : Bool). UnbarredFault Spelled last paren b subquery_fault) (sym is) refl)

    -- a subquery begins with the last token of the front
    pub refused_before : IsRefusedAt Spelled bars last (paren ∷ rest) subquery_fault
    refused_before =
        record {
          clear = clear_before;
          no_subquery = λ before token behind f e pair. none_before before token behind e pair;
          begun = begins_less Spelled last (paren ∷ []) (subst (λ (u : List PlacedLexeme). Begins Spelled u) ends begun);
          fault_at =
              subst (λ (o : Option SqlFault). TokenFault Spelled bars last paren rest o subquery_fault) (sym (ap own_fault (first_is paren rest is))) paren_fault;
        }

-- ---- there is one such place

-- two of the same place have one fault
abbrev pub HasOneFault : Bar → Type 0
HasOneFault bars = (u rest : List PlacedLexeme) (one other : SqlFault) → bars u rest one → bars u rest other → one ≡ other

module _ {A : Type 0} (Spelled : Form A) (bars : Bar) where
  -- the front goes on to a longer one in which nothing is refused
  module _ (front : List PlacedLexeme) (token : PlacedLexeme) (more rest : List PlacedLexeme) (clear : IsClear bars (front ++ token ∷ more) rest)
      (no_subquery : IsClear BarsSubqueries (front ++ token ∷ more) rest) (begun : Begins Spelled (front ++ token ∷ more)) (short : IsShort token) where
    not_unbarred : (is_subquery : Bool) (fault : SqlFault) → begins_subquery (token ∷ more ++ rest) ≡ is_subquery → UnbarredFault Spelled front token is_subquery fault → ⊥
    not_unbarred true fault is at = no_subquery front token more fault refl is
    not_unbarred false fault is at = at.0 (begins_first Spelled front token more begun)

    not_without : (fault : SqlFault) → TokenFault Spelled bars front token (more ++ rest) None fault → ⊥
    not_without fault (inl bar) = clear front token more fault refl bar
    not_without fault (inr at) = not_unbarred (begins_subquery (token ∷ more ++ rest)) fault refl at.1

    pub not_refused_there : (fault : SqlFault) → FaultAt Spelled bars front (token ∷ more ++ rest) fault → ⊥
    not_refused_there fault at = not_without fault (subst (λ (o : Option SqlFault). TokenFault Spelled bars front token (more ++ rest) o fault) short at)

  module _ (short : (x : A) (u : List PlacedLexeme) → Spelled x u → AreShort u) where
    short_begun : (u : List PlacedLexeme) (token : PlacedLexeme) (v : List PlacedLexeme) → Begins Spelled (u ++ token ∷ v) → IsShort token
    short_begun u token v b = short_next u v token (short_front (u ++ token ∷ v) b.0 (short b.1 ((u ++ token ∷ v) ++ b.0) b.2))

    -- a place before another is none
    not_before : (front place other rest more : List PlacedLexeme) (token : PlacedLexeme) (one two : SqlFault) → other ≡ front ++ token ∷ more → place ≡ token ∷ more ++ rest
        → IsRefusedAt Spelled bars front place one → IsRefusedAt Spelled bars other rest two → ⊥
    not_before front place other rest more token one two e p first second =
        let clear = subst (λ (u : List PlacedLexeme). IsClear bars u rest) e second.clear in
        let no_subquery = subst (λ (u : List PlacedLexeme). IsClear BarsSubqueries u rest) e second.no_subquery in
        let begun = subst (λ (u : List PlacedLexeme). Begins Spelled u) e second.begun in
        not_refused_there front token more rest clear no_subquery begun (short_begun front token more begun) one
        (subst (λ (u : List PlacedLexeme). FaultAt Spelled bars front u one) p first.fault_at)

    one_of : (front place other rest : List PlacedLexeme) (one two : SqlFault) → Compared front place other rest → IsRefusedAt Spelled bars front place one
        → IsRefusedAt Spelled bars other rest two → (front ≡ other) × (place ≡ rest)
    one_of front place other rest one two (Same e p) first second = (e, p)
    one_of front place other rest one two (Longer token more e p) first second = absurd (not_before other rest front place more token two one e p second first)
    one_of front place other rest one two (Shorter token more e p) first second = absurd (not_before front place other rest more token one two e p first second)

    -- in given tokens there is one place at the most
    pub one_place : (front place other rest : List PlacedLexeme) (one two : SqlFault) → front ++ place ≡ other ++ rest → IsRefusedAt Spelled bars front place one
        → IsRefusedAt Spelled bars other rest two → (front ≡ other) × (place ≡ rest)
    one_place front place other rest one two e first second = one_of front place other rest one two (compare front place other rest e) first second

    -- no token is refused in a beginning in which nothing is refused
    pub none_in_beginning : (tokens front : List PlacedLexeme) (token : PlacedLexeme) (more : List PlacedLexeme) (fault : SqlFault) → IsClear bars tokens []
        → IsClear BarsSubqueries tokens [] → Begins Spelled tokens → tokens ≡ front ++ token ∷ more → IsRefusedAt Spelled bars front (token ∷ more) fault → ⊥
    none_in_beginning tokens front token more fault clear no_subquery begun e at =
        let begun_so = subst (λ (u : List PlacedLexeme). Begins Spelled u) e begun in
        not_refused_there front token more [] (subst (λ (u : List PlacedLexeme). IsClear bars u []) e clear)
        (subst (λ (u : List PlacedLexeme). IsClear BarsSubqueries u []) e no_subquery) begun_so (short_begun front token more begun_so) fault
        (subst (λ (u : List PlacedLexeme). FaultAt Spelled bars front u fault) (sym (append-nil (token ∷ more))) at.fault_at)

    module _ (none : (u : List PlacedLexeme) → Begins Spelled u → HasSubquery u → ⊥) where
      -- no subquery lies within a beginning
      pub no_subqueries : (u : List PlacedLexeme) → Begins Spelled u → IsClear BarsSubqueries u []
      no_subqueries u b before token [] fault e is = let no_more = (and_parts (fits (Sign OpenParen) token) false is).1 in cc
      no_subqueries u b before token (next ∷ more) fault e is = none u b (pair_within u before token next more (more ++ []) e is)

      -- there is none in the tokens of a whole form in which nothing is refused
      pub none_in_whole : (x : A) (tokens front place : List PlacedLexeme) (fault : SqlFault) → Spelled x tokens → IsClear bars tokens [] → tokens ≡ front ++ place
          → IsRefusedAt Spelled bars front place fault → ⊥
      none_in_whole x tokens front [] fault s clear e at = at.fault_at.0 x (subst (λ (u : List PlacedLexeme). Spelled x u) (e ∙ append-nil front) s)
      none_in_whole x tokens front (token ∷ more) fault s clear e at =
          let begun = begins_whole Spelled x tokens s in none_in_beginning tokens front token more fault clear (no_subqueries tokens begun) begun e at

  -- one fault
  module _ (agree : HasOneFault bars) where
    one_unbarred : (front : List PlacedLexeme) (token : PlacedLexeme) (is_subquery : Bool) (one two : SqlFault) → UnbarredFault Spelled front token is_subquery one
        → UnbarredFault Spelled front token is_subquery two → one ≡ two
    one_unbarred front token true one two first second = first ∙ sym second
    one_unbarred front token false one two first second = first.1 ∙ sym second.1

    one_of_token : (front : List PlacedLexeme) (token : PlacedLexeme) (behind : List PlacedLexeme) (own : Option SqlFault) (one two : SqlFault)
        → TokenFault Spelled bars front token behind own one → TokenFault Spelled bars front token behind own two → one ≡ two
    one_of_token front token behind (Some own) one two first second = first ∙ sym second
    one_of_token front token behind None one two (inl first) (inl second) = agree front (token ∷ behind) one two first second
    one_of_token front token behind None one two (inl first) (inr second) = absurd (second.0 one first)
    one_of_token front token behind None one two (inr first) (inl second) = absurd (first.0 two second)
    one_of_token front token behind None one two (inr first) (inr second) = one_unbarred front token (begins_subquery (token ∷ behind)) one two first.1 second.1

    -- a place has one fault
    pub one_fault : (front place : List PlacedLexeme) (one two : SqlFault) → FaultAt Spelled bars front place one → FaultAt Spelled bars front place two → one ≡ two
    one_fault front [] one two first second = first.1 ∙ sym second.1
    one_fault front (token ∷ behind) one two first second = one_of_token front token behind (own_fault token.lexeme) one two first second
