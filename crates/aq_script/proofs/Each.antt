-- Reading any number of one form, one after the other, where what is refused hangs on those before it. This is said of any form.
use Rattle.std.proofs.Common.{ℕ, zero, suc, ◌≤◌, ◌<◌, List, [], ◌∷◌, length, refl, subst, inr, arith}
use Rattle.aq_lex.specs.Lexemes.{PlacedLexeme}
use Rattle.aq_grammar.specs.Terminals.{Terminal}
use Rattle.aq_grammar.specs.Rules.{Form, Bar, Refusal, BarsHere, BarsNone, BarsBoth, SpellsNothing, SpellsBoth, SpellsEach}
use Rattle.aq_grammar.specs.Reading.{Read, Reader, read_both, read_either, read_unless}
use Rattle.aq_grammar.proofs.Languages.{IsRight}
use Rattle.aq_grammar.proofs.Cuts.{rest_shorter}
use Rattle.aq_grammar.proofs.Keeping.{BarsEither}
use Rattle.aq_grammar.proofs.RightForms.{alike_right}
use Rattle.aq_grammar.proofs.RightParts.{right_nothing}
use Rattle.aq_grammar.proofs.RightChoice.{EitherFit, right_either, right_unless, by_second}
use Rattle.aq_grammar.proofs.RightBoth.{right_both}
use Rattle.aq_grammar.proofs.RightMany.{both_or_nothing}
use Rattle.aq_grammar.proofs.Each.{BarsEach, EachFit, together, OneAndMore, BarsOneAndMore, each_alike}
use Rattle.aq_script.specs.Parsing.{read_each_behind}

module _ {S A : Type 0} (kinds : List Terminal) (next : S → A → S) (refusals : S → List Refusal) (Spelled : Form A) (bars : S → Bar)
    (fit : EachFit kinds next refusals Spelled bars) (reader : S → Reader A)
    (right : (state : S) (tokens : List PlacedLexeme) → IsRight Spelled (bars state) tokens (reader state tokens)) where
  each_or_nothing : (state : S)
      → EitherFit kinds (SpellsBoth together Spelled (λ x. SpellsEach Spelled)) (SpellsNothing [])
      (BarsBoth Spelled (bars state) (λ x. BarsEach next refusals Spelled bars (next state x))) BarsNone
  each_or_nothing state =
      both_or_nothing together Spelled (λ x. SpellsEach Spelled) (bars state) (λ x. BarsEach next refusals Spelled bars (next state x)) (fit.fit state) kinds (fit.starts state) []

  each_unless : (state : S) (tokens : List PlacedLexeme) (choice : Reader (List A))
      → IsRight (OneAndMore Spelled) (BarsOneAndMore next refusals Spelled bars state) tokens (choice tokens)
      → IsRight (SpellsEach Spelled) (BarsEach next refusals Spelled bars state) tokens (read_unless (refusals state) choice tokens)
  each_unless state tokens choice r =
      alike_right (OneAndMore Spelled) (SpellsEach Spelled) (BarsEither (BarsHere (refusals state)) (BarsOneAndMore next refusals Spelled bars state))
      (BarsEach next refusals Spelled bars state) tokens (read_unless (refusals state) choice tokens) (each_alike next refusals Spelled bars state)
      (right_unless (refusals state) (OneAndMore Spelled) (BarsOneAndMore next refusals Spelled bars state) choice tokens ([], [], inr (refl, refl)) r)

  each_none : (state : S) → IsRight (OneAndMore Spelled) (BarsOneAndMore next refusals Spelled bars state) [] (Read [] [])
  each_none state =
      by_second kinds (SpellsBoth together Spelled (λ x. SpellsEach Spelled)) (SpellsNothing [])
      (BarsBoth Spelled (bars state) (λ x. BarsEach next refusals Spelled bars (next state x))) BarsNone
      (each_or_nothing state) [] (Read [] []) refl (right_nothing [] [])

  each_one : (state : S) (others : A → Reader (List A)) (tokens : List PlacedLexeme)
      → ((x : A) (rest : List PlacedLexeme) → length rest < length tokens → IsRight (SpellsEach Spelled) (BarsEach next refusals Spelled bars (next state x)) rest (others x rest))
      → IsRight (OneAndMore Spelled) (BarsOneAndMore next refusals Spelled bars state) tokens
      (read_either kinds (read_both together (reader state) others) (λ all. Read [] all) tokens)
  each_one state others tokens then =
      right_either kinds (SpellsBoth together Spelled (λ x. SpellsEach Spelled)) (SpellsNothing [])
      (BarsBoth Spelled (bars state) (λ x. BarsEach next refusals Spelled bars (next state x))) BarsNone
      (each_or_nothing state) (read_both together (reader state) others) (λ all. Read [] all) tokens
      (right_both together Spelled (λ x. SpellsEach Spelled) (bars state) (λ x. BarsEach next refusals Spelled bars (next state x)) (fit.fit state) (reader state) others tokens
      (right state tokens)
      (λ x front rest e s. then x rest (rest_shorter tokens front rest e (λ n. (fit.starts state).not_empty x (subst (λ (w : List PlacedLexeme). Spelled x w) n s)))))
      (right_nothing [] tokens)

  pub right_each_behind : (most : ℕ) (state : S) (tokens : List PlacedLexeme) → length tokens ≤ most
      → IsRight (SpellsEach Spelled) (BarsEach next refusals Spelled bars state) tokens (read_each_behind kinds refusals reader next most state tokens)
  right_each_behind zero state [] h = each_unless state [] (λ all. Read [] all) (each_none state)
  right_each_behind zero state (token ∷ tokens) h = absurd (omega arith)
  right_each_behind (suc most) state tokens h =
      each_unless state tokens (read_either kinds (read_both together (reader state) (λ x. read_each_behind kinds refusals reader next most (next state x))) (λ all. Read [] all))
      (each_one state (λ x. read_each_behind kinds refusals reader next most (next state x)) tokens
      (λ x rest shorter. right_each_behind most (next state x) rest (omega arith)))
