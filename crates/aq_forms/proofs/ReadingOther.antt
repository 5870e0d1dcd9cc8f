-- How a name is read that differs from another, behind what introduces it, where the tokens are free.
use Rattle.std.proofs.Common.{◌≡◌, true, false, List, [], ◌++◌, Option, Some, None, inl, inr, sym, ap, ◌∙◌, subst}
use Rattle.std.proofs.lemmas.Bool.{false_from_ne_true, cond-true, cond-false, or_left}
use Rattle.aq_base.specs.Names.{Text as Bytes}
use Rattle.aq_lex.specs.Lexemes.{PlacedLexeme}
use Rattle.aq_grammar.specs.Terminals.{Terminal, Name, NameBut, fits, is_of, begins, text_of}
use Rattle.aq_grammar.specs.Reading.{Read, Reader, read_token, read_both, read_other}
use Rattle.aq_grammar.specs.Sets.{Marks, of_token, of_both, of_other, same_kinds}
use Rattle.aq_grammar.proofs.Apart.{are_apart_sound, same_kinds_begin, begins_front}
use Rattle.aq_grammar.proofs.Keeping.{other_is_name, IsIntroduction}
use Rattle.aq_forms.proofs.Free.{ReadsOrLimit, FreeForm, FreeToken, FreeOther}
use Rattle.aq_forms.proofs.ReadingParts.{IsReadFreely, Starts, first_of, fewer, both_at, token_read}

module _ {B : Type 0} (kinds : List Terminal) (name : Bytes) (Freely : FreeForm B) (reader : Reader B) (b : Marks) (starts : Starts Freely b) (introduction : IsIntroduction b)
    (same : same_kinds kinds b.begins ≡ true) (read : IsReadFreely Freely reader b) where
  abbrev introduced : Reader (Option Bytes)
  introduced tokens = read_both (λ b text. Some text) reader (λ b. read_token (NameBut name) text_of) tokens

  no_name : (rest : List PlacedLexeme) → begins (of_other b).goes_on rest ≡ false → begins kinds rest ≡ false
  no_name rest none =
      same_kinds_begin kinds b.begins rest same
      ∙ fewer b.begins (of_other b).goes_on rest
      (λ e.
      begins_front _ [] rest
      (begins_front _ (of_both b (of_token Name)).goes_on rest (begins_front (of_both b (of_token Name)).begins [] rest (begins_front b.begins _ rest e)))) none

  -- what introduces the name doesn't go on with it
  name_behind : (token : PlacedLexeme) → fits (NameBut name) token ≡ true → is_of b.goes_on token ≡ false
  name_behind token fit =
      false_from_ne_true (is_of b.goes_on token)
      (λ e.
      are_apart_sound b.goes_on ((of_token Name).begins ++ (of_token Name).opens) token introduction.fit e (or_left (fits Name token) false (other_is_name name token fit)))

  pub other_read : IsReadFreely (FreeOther Freely name) (λ tokens. read_other kinds reader name tokens) (of_other b)
  other_read y u rest none (inl (is, cut)) =
      inl (ap (λ v. read_other kinds reader name (v ++ rest)) cut ∙ cond-false (begins kinds rest) (introduced rest) (Read None rest) (no_name rest none)
      ∙ ap (λ z. Read z rest) (sym is))
  other_read y u rest none (inr (front, behind, x, text, h, free, cut, is)) =
      let (first, left, whole, begun) = first_of Freely b starts introduction.whole x u front behind (behind ++ rest) h cut in
      let next : begins kinds (u ++ rest) ≡ true =
      same_kinds_begin kinds b.begins (u ++ rest) same ∙ subst (λ v. begins b.begins (v ++ rest) ≡ true) (sym whole) begun in
      let (token, fit, sound, spelled, alone) = free in
      let quiet : begins b.goes_on (behind ++ rest) ≡ false = subst (λ v. begins b.goes_on (v ++ rest) ≡ false) (sym alone) (name_behind token fit) in
      subst (λ o. ReadsOrLimit o y rest) (sym (cond-true (begins kinds (u ++ rest)) (introduced (u ++ rest)) (Read None (u ++ rest)) next))
      (both_at (λ b text. Some text) Freely (λ b. FreeToken (NameBut name) text_of) reader (λ b. read_token (NameBut name) text_of) b (of_token Name) y u rest front behind
      x text cut is (read x front (behind ++ rest) quiet h) (token_read (NameBut name) text_of (of_other b) text behind rest none free))
