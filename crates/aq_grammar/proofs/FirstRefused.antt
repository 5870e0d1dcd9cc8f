-- Where reading a form stops, the refused place is the first that is refused.
use Rattle.std.proofs.Common.{◌≡◌, suc, ◌+◌, ◌-◌, ◌<◌, Bool, true, false, ◌&&◌, List, [], ◌∷◌, ◌++◌, length, drop, Option, Some, None, if◌then◌else◌, nat_lt, refl, sym, ap, ◌∙◌, subst, ◌⊎◌, inl, inr, arith}
use Rattle.std.proofs.lemmas.Bool.{and_parts, and_from, ltb-true, lt-ltb}
use Rattle.std.proofs.lemmas.List.{length-append, append_assoc, drop_at}
use Rattle.aq_base.specs.declared.fault.SqlFault.{SqlFault}
use Rattle.aq_lex.specs.Lexemes.{PlacedLexeme}
use Rattle.aq_grammar.specs.Rules.{Form, Bar, Begins}
use Rattle.aq_grammar.specs.Reading.{Reason, Syntax, Refused}
use Rattle.aq_grammar.specs.Places.{IsClear, IsStuck, IsRead, own_fault, syntax_error, begins_subquery, subquery_fault, TokenFault, FaultAt, IsRefusedAt}
use Rattle.aq_grammar.specs.Pairs.{HasSubquery}
use Rattle.aq_grammar.specs.Stopping.{or_own, syntax_fault, fault_of, one_before, refused_place}
use Rattle.aq_grammar.proofs.Languages.{IsStopped, IsRefusal}
use Rattle.aq_grammar.proofs.AtEnd.{IsFreeAtEnd}
use Rattle.aq_grammar.proofs.Short.{BarsShort}
use Rattle.aq_grammar.proofs.RightForms.{begins_whole}
use Rattle.aq_grammar.proofs.RefusedAt.{token_fault, refused_here, refused_before}

-- the form doesn't go on with the rest, or a whole form stands before it
abbrev pub StopsAt : {A : Type 0} → Form A → Bar → Reason → List PlacedLexeme → List PlacedLexeme → Type 0
StopsAt {A} Spelled bars Syntax front rest = IsStopped Spelled bars front rest ⊎ ((x : A) × IsRead Spelled bars x front rest × (rest ≡ [] → ⊥))
StopsAt Spelled bars (Refused fault) front rest = IsRefusal Spelled bars fault front rest

-- the place and its fault are the first in the tokens
abbrev pub IsFirstRefused : {A : Type 0} → Form A → Bar → List PlacedLexeme → List PlacedLexeme × SqlFault → Type 0
IsFirstRefused Spelled bars tokens (place, fault) = (front : List PlacedLexeme) × (tokens ≡ front ++ place) × IsRefusedAt Spelled bars front place fault

-- ---- the token before the rest

before_is : (tokens last rest : List PlacedLexeme) (token : PlacedLexeme) → tokens ≡ (last ++ token ∷ []) ++ rest → one_before tokens rest ≡ token ∷ rest
before_is tokens last rest token e =
    let whole : tokens ≡ last ++ token ∷ rest = e ∙ append_assoc last (token ∷ []) rest in
    let count : length tokens ≡ length last + suc (length rest) = ap length whole ∙ length-append last (token ∷ rest) in
    let same : length last ≡ length tokens - length rest - 1 = omega arith in
    ap (λ (u : List PlacedLexeme). drop (length tokens - length rest - 1) u) whole ∙ drop_at last (token ∷ rest) (length tokens - length rest - 1) same

is_longer : (tokens last rest : List PlacedLexeme) (token : PlacedLexeme) → tokens ≡ (last ++ token ∷ []) ++ rest → nat_lt (length rest) (length tokens) ≡ true
is_longer tokens last rest token e =
    let whole : tokens ≡ last ++ token ∷ rest = e ∙ append_assoc last (token ∷ []) rest in
    let count : length tokens ≡ length last + suc (length rest) = ap length whole ∙ length-append last (token ∷ rest) in
    lt-ltb (length rest) (length tokens) (omega arith)

-- the last of several tokens
last_of : (u : List PlacedLexeme) → (u ≡ []) ⊎ ((last : List PlacedLexeme) × (token : PlacedLexeme) × (u ≡ last ++ token ∷ []))
last_of [] = inl refl
last_of (first ∷ u) = elim (last_of u) [
  | inl e ↦ inr ([], first, ap (λ (v : List PlacedLexeme). first ∷ v) e)
  | inr more ↦ inr (first ∷ more.0, more.1, ap (λ (v : List PlacedLexeme). first ∷ v) more.2)
]

module _ {A : Type 0} (Spelled : Form A) (bars : Bar) where
  -- ---- the fault where reading stops

  own_or : (front : List PlacedLexeme) (token : PlacedLexeme) (behind : List PlacedLexeme) (own : Option SqlFault) (fault : SqlFault)
      → TokenFault Spelled bars front token behind None fault → TokenFault Spelled bars front token behind own (or_own own fault)
  own_or front token behind None fault at = at
  own_or front token behind (Some own) fault at = refl

  stuck_fault : (front : List PlacedLexeme) (token : PlacedLexeme) (behind : List PlacedLexeme) → IsStuck Spelled bars front (token ∷ behind)
      → FaultAt Spelled bars front (token ∷ behind) (syntax_fault (token ∷ behind))
  stuck_fault front token behind stuck =
      own_or front token behind (own_fault token.lexeme) (if begins_subquery (token ∷ behind) then subquery_fault else syntax_error)
      (inr (stuck.free, token_fault Spelled bars front token behind stuck (begins_subquery (token ∷ behind))))

  stopped_fault : (front rest : List PlacedLexeme) → IsStopped Spelled bars front rest → FaultAt Spelled bars front rest (syntax_fault rest)
  stopped_fault front [] stopped = (stopped.part, refl)
  stopped_fault front (token ∷ behind) stopped = stuck_fault front token behind stopped.stuck

  read_fault : (front rest : List PlacedLexeme) (x : A) → IsRead Spelled bars x front rest → (rest ≡ [] → ⊥) → FaultAt Spelled bars front rest (syntax_fault rest)
  read_fault front [] x read some = absurd (some refl)
  read_fault front (token ∷ behind) x read some = stuck_fault front token behind read.stuck

  stop_clear : (reason : Reason) (front rest : List PlacedLexeme) → StopsAt Spelled bars reason front rest → IsClear bars front rest
  stop_clear Syntax front rest (inl stopped) = stopped.clear
  stop_clear Syntax front rest (inr read) = let is_read = read.1 in is_read.clear
  stop_clear (Refused fault) front rest refusal = refusal.clear

  stop_begun : (reason : Reason) (front rest : List PlacedLexeme) → StopsAt Spelled bars reason front rest → Begins Spelled front
  stop_begun Syntax front rest (inl stopped) = stopped.begun
  stop_begun Syntax front rest (inr read) = let is_read = read.1 in begins_whole Spelled read.0 front is_read.spelled
  stop_begun (Refused fault) front rest refusal = refusal.begun

  module _ (free_at_end : IsFreeAtEnd bars) (short : BarsShort bars) where
    -- what is refused has no fault of its own
    barred_fault : (front rest : List PlacedLexeme) (fault : SqlFault) → bars front rest fault → FaultAt Spelled bars front rest fault
    barred_fault front [] fault bar = absurd (free_at_end front fault bar)
    barred_fault front (token ∷ behind) fault bar =
        subst (λ (own : Option SqlFault). TokenFault Spelled bars front token behind own fault) (sym (short front token behind fault bar)) (inl bar)

    stop_fault : (reason : Reason) (front rest : List PlacedLexeme) → StopsAt Spelled bars reason front rest → FaultAt Spelled bars front rest (fault_of reason rest)
    stop_fault Syntax front rest (inl stopped) = stopped_fault front rest stopped
    stop_fault Syntax front rest (inr read) = read_fault front rest read.0 read.1 read.2
    stop_fault (Refused fault) front rest refusal = barred_fault front rest fault refusal.barred

    -- in no beginning of the form a subquery stands
    module _ (none : (u : List PlacedLexeme) → Begins Spelled u → HasSubquery u → ⊥) (tokens : List PlacedLexeme) (reason : Reason) (rest front : List PlacedLexeme)
        (whole : tokens ≡ front ++ rest) (stops : StopsAt Spelled bars reason front rest) where
      alone : nat_lt (length rest) (length tokens) && begins_subquery (one_before tokens rest) ≡ false → (last : List PlacedLexeme) (other : PlacedLexeme)
          → front ≡ last ++ other ∷ [] → begins_subquery (other ∷ rest) ≡ true → ⊥
      alone is last other e pair =
          let cut : tokens ≡ (last ++ other ∷ []) ++ rest = whole ∙ ap (λ (u : List PlacedLexeme). u ++ rest) e in
          let both = and_from (nat_lt (length rest) (length tokens)) (begins_subquery (one_before tokens rest)) (is_longer tokens last rest other cut)
          (ap begins_subquery (before_is tokens last rest other cut) ∙ pair) in
          cc

      across : nat_lt (length rest) (length tokens) && begins_subquery (one_before tokens rest) ≡ true
          → IsFirstRefused Spelled bars tokens (one_before tokens rest, subquery_fault)
      across is = elim (last_of front) [
        | inl e ↦
            let same_tokens : tokens ≡ rest = whole ∙ ap (λ (u : List PlacedLexeme). u ++ rest) e in
            let less : length rest < length tokens =
            ltb-true (length rest) (length tokens) (and_parts (nat_lt (length rest) (length tokens)) (begins_subquery (one_before tokens rest)) is).0 in
            let same : length tokens ≡ length rest = ap length same_tokens in
            absurd (omega arith)
        | inr cut ↦
            let parts : tokens ≡ (cut.0 ++ cut.1 ∷ []) ++ rest = whole ∙ ap (λ (u : List PlacedLexeme). u ++ rest) cut.2 in
            let place = before_is tokens cut.0 rest cut.1 parts in
            let pair : begins_subquery (cut.1 ∷ rest) ≡ true =
            ap begins_subquery (sym place) ∙ (and_parts (nat_lt (length rest) (length tokens)) (begins_subquery (one_before tokens rest)) is).1 in
            subst (λ (u : List PlacedLexeme). IsFirstRefused Spelled bars tokens (u, subquery_fault)) (sym place) (
              cut.0,
              parts ∙ append_assoc cut.0 (cut.1 ∷ []) rest,
              refused_before Spelled bars none front rest (stop_clear reason front rest stops) (stop_begun reason front rest stops) cut.0 cut.1 cut.2 pair,
            )
      ]

      here : nat_lt (length rest) (length tokens) && begins_subquery (one_before tokens rest) ≡ false → IsFirstRefused Spelled bars tokens (rest, fault_of reason rest)
      here is = (
        front,
        whole,
        refused_here Spelled bars none front rest (stop_clear reason front rest stops) (stop_begun reason front rest stops) (fault_of reason rest)
            (stop_fault reason front rest stops) (alone is),
      )

      either : (test : Bool) → nat_lt (length rest) (length tokens) && begins_subquery (one_before tokens rest) ≡ test
          → IsFirstRefused Spelled bars tokens (if test then (one_before tokens rest, subquery_fault) else (rest, fault_of reason rest))
      either true is = across is
      either false is = here is

      -- the place that is found is the first
      pub first_refused : IsFirstRefused Spelled bars tokens (refused_place tokens reason rest)
      first_refused = either (nat_lt (length rest) (length tokens) && begins_subquery (one_before tokens rest)) refl
