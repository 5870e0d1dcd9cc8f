-- Reading perhaps a name that differs from another, behind what introduces it.
use Rattle.std.proofs.Common.{◌≡◌, true, List, [], ◌∷◌, ◌++◌, Option, Some, None, subst, inl, inr}
use Rattle.aq_base.specs.Names.{Text as Bytes}
use Rattle.aq_base.specs.declared.fault.SqlFault.{SqlFault}
use Rattle.aq_lex.specs.Lexemes.{PlacedLexeme}
use Rattle.aq_grammar.specs.Terminals.{Terminal, NameBut, fits, text_of}
use Rattle.aq_grammar.specs.Rules.{Form, Bar, Begins, BarsNone, BarsBoth, SpellsNothing, SpellsToken, SpellsBoth, SpellsOther}
use Rattle.aq_grammar.specs.Reading.{Read, Reader, read_token, read_both, read_other}
use Rattle.aq_grammar.proofs.Languages.{IsRight, IsSpelled, IsBehindBeginning}
use Rattle.aq_grammar.proofs.Keeping.{SpellsEither, BarsEither}
use Rattle.aq_grammar.proofs.RightForms.{AreAlike, alike_right}
use Rattle.aq_grammar.proofs.RightParts.{right_nothing, right_token}
use Rattle.aq_grammar.proofs.RightChoice.{right_either}
use Rattle.aq_grammar.proofs.RightBoth.{BothFit, right_both}
use Rattle.aq_grammar.proofs.RightMany.{StartsWith, both_or_nothing}

abbrev text_behind : {B : Type 0} → B → Bytes → Option Bytes
text_behind b text = Some text

abbrev SpellsName : {B : Type 0} → Bytes → B → Form Bytes
SpellsName name b = SpellsToken (NameBut name) text_of

abbrev BarsNoName : {B : Type 0} → B → Bar
BarsNoName b u rest fault = BarsNone u rest fault

-- what introduces a name goes on with none, nor with one that differs
pub record OtherFit {B : Type 0} (kinds : List Terminal) (Spelled : Form B) (bars : Bar) (name : Bytes) : Type 0 where
  pub starts : StartsWith kinds Spelled bars
  pub apart : (b : B) (front : List PlacedLexeme) (token : PlacedLexeme) → Spelled b front → Begins Spelled (front ++ token ∷ []) → fits (NameBut name) token ≡ true → ⊥
  pub barred : IsBehindBeginning Spelled bars
  pub some_name : IsSpelled (SpellsToken (NameBut name) text_of)

module _ {B : Type 0} (kinds : List Terminal) (Spelled : Form B) (bars : Bar) (name : Bytes) (fit : OtherFit kinds Spelled bars name) where
  name_is_apart : (b : B) (front : List PlacedLexeme) (token : PlacedLexeme) (behind : List PlacedLexeme) → Spelled b front → Begins Spelled (front ++ token ∷ [])
      → Begins (SpellsToken (NameBut name) text_of) (token ∷ behind) → ⊥
  name_is_apart b front token behind s more begun =
      let e = begun.2.3 in
      let same_token : begun.2.0 ≡ token = cc in
      fit.apart b front token s more (subst (λ (t : PlacedLexeme). fits (NameBut name) t ≡ true) same_token begun.2.1)

  name_fit : BothFit Spelled (SpellsName name) bars BarsNoName
  name_fit =
      record {
        apart = name_is_apart;
        quiet = λ b front token rest fault s more bar. bar;
        barred = fit.barred;
        barred_second = λ b u rest fault bar. absurd bar;
        some_second = λ b. fit.some_name;
      }

  abbrev NameOrNothing : Form (Option Bytes)
  NameOrNothing y u = SpellsEither (SpellsBoth text_behind Spelled (SpellsName name)) (SpellsNothing None) y u

  abbrev BarsName : Bar
  BarsName u rest fault = BarsEither (BarsBoth Spelled bars BarsNoName) BarsNone u rest fault

  other_from : (y : Option Bytes) (u : List PlacedLexeme) → NameOrNothing y u → SpellsOther Spelled name y u
  other_from y u (inl s) = inr s
  other_from y u (inr s) = inl s

  other_back : (y : Option Bytes) (u : List PlacedLexeme) → SpellsOther Spelled name y u → NameOrNothing y u
  other_back y u (inl s) = inr s
  other_back y u (inr s) = inl s

  name_bars : (u rest : List PlacedLexeme) (fault : SqlFault) → BarsName u rest fault → bars u rest fault
  name_bars u rest fault (inl (inl bar)) = bar
  name_bars u rest fault (inl (inr bar)) = absurd bar.5
  name_bars u rest fault (inr bar) = absurd bar

  other_alike : AreAlike NameOrNothing (SpellsOther Spelled name) BarsName bars
  other_alike = record { spelled = other_from; spelled_back = other_back; barred = name_bars; barred_back = λ u rest fault bar. inl (inl bar) }

  pub right_other : (reader : Reader B) (tokens : List PlacedLexeme) → IsRight Spelled bars tokens (reader tokens) → IsRight (SpellsOther Spelled name) bars tokens (read_other kinds reader name tokens)
  right_other reader tokens r =
      alike_right NameOrNothing (SpellsOther Spelled name) BarsName bars tokens (read_other kinds reader name tokens) other_alike
      (right_either kinds (SpellsBoth text_behind Spelled (SpellsName name)) (SpellsNothing None) (BarsBoth Spelled bars BarsNoName) BarsNone
      (both_or_nothing text_behind Spelled (SpellsName name) bars BarsNoName name_fit kinds fit.starts None)
      (read_both text_behind reader (λ b. read_token (NameBut name) text_of)) (λ all. Read None all) tokens
      (right_both text_behind Spelled (SpellsName name) bars BarsNoName name_fit reader (λ b. read_token (NameBut name) text_of) tokens r
      (λ b front rest e s. right_token (NameBut name) text_of fit.some_name rest))
      (right_nothing None tokens))
