-- Reading all tokens as a script gives the only script that they spell, or the place from which on they begin none.
use Rattle.std.proofs.Common.{◌≡◌, List, [], ◌∷◌, ◌++◌, refl, sym, ◌∙◌, subst, inl, inr}
use Rattle.std.proofs.lemmas.List.{append-nil}
use Rattle.aq_base.specs.declared.script.Script.{Script}
use Rattle.aq_lex.specs.Lexemes.{PlacedLexeme}
use Rattle.aq_grammar.specs.Reading.{Outcome, Read, Stop, Reason, Syntax, Refused, ◌>>=◌}
use Rattle.aq_grammar.specs.Places.{IsClear, IsRead}
use Rattle.aq_grammar.proofs.Languages.{IsRight}
use Rattle.aq_grammar.proofs.FirstRefused.{StopsAt}
use Rattle.aq_script.specs.Sections.{SpellsScript, BarsScript}
use Rattle.aq_script.specs.Parsing.{read_script, at_end, whole_script}
use Rattle.aq_script.proofs.Scripts.{script_right}

-- the tokens are the script and no other, and nothing is refused in them
pub record IsWhole (tokens : List PlacedLexeme) (script : Script) : Type 0 where
  pub spelled : SpellsScript script tokens
  pub only : (other : Script) → SpellsScript other tokens → other ≡ script
  pub clear : IsClear BarsScript tokens []

-- no script goes on with the rest, or a whole script stands before it
pub record Stops (tokens : List PlacedLexeme) (reason : Reason) (rest : List PlacedLexeme) : Type 0 where
  pub front : List PlacedLexeme
  pub whole : tokens ≡ front ++ rest
  pub stops : StopsAt SpellsScript BarsScript reason front rest

abbrev pub IsWholeRight : List PlacedLexeme → Outcome Script → Type 0
IsWholeRight tokens (Read script rest) = (rest ≡ []) × IsWhole tokens script
IsWholeRight tokens (Stop reason rest) = Stops tokens reason rest

whole_of : (tokens front : List PlacedLexeme) (script : Script) → tokens ≡ front ++ [] → IsRead SpellsScript BarsScript script front [] → IsWhole tokens script
whole_of tokens front script e read =
    let same : front ≡ tokens = sym (append-nil front) ∙ sym e in
    subst (λ (u : List PlacedLexeme). IsWhole u script) same (record { spelled = read.spelled; only = read.only; clear = read.clear })

whole_from : (tokens : List PlacedLexeme) (outcome : Outcome Script) → IsRight SpellsScript BarsScript tokens outcome → IsWholeRight tokens (outcome >>= at_end)
whole_from tokens (Read script []) r = (refl, whole_of tokens r.front script r.whole r.explained)
whole_from tokens (Read script (token ∷ rest)) r = record { front = r.front; whole = r.whole; stops = inr (script, r.explained, λ none. cc) }
whole_from tokens (Stop Syntax rest) r = record { front = r.front; whole = r.whole; stops = inl r.explained }
whole_from tokens (Stop (Refused fault) rest) r = record { front = r.front; whole = r.whole; stops = r.explained }

pub whole_right : (tokens : List PlacedLexeme) → IsWholeRight tokens (whole_script tokens)
whole_right tokens = whole_from tokens (read_script tokens) (script_right tokens)

-- where a script is read, the tokens are it and no other
pub whole_read : (tokens rest : List PlacedLexeme) (script : Script) → whole_script tokens ≡ Read script rest → (rest ≡ []) × IsWhole tokens script
whole_read tokens rest script e = subst (λ (o : Outcome Script). IsWholeRight tokens o) e (whole_right tokens)

pub whole_stopped : (tokens rest : List PlacedLexeme) (reason : Reason) → whole_script tokens ≡ Stop reason rest → Stops tokens reason rest
whole_stopped tokens rest reason e = subst (λ (o : Outcome Script). IsWholeRight tokens o) e (whole_right tokens)
