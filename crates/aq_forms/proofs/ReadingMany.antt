-- How any number of one form are read, whose tokens are free.
use Rattle.std.proofs.Common.{◌≡◌, ℕ, zero, suc, ◌≤◌, true, false, List, [], ◌∷◌, ◌++◌, length, None, inl, refl, sym, ap, ◌∙◌, subst, if◌then◌else◌, arith, length-append}
use Rattle.std.proofs.lemmas.Bool.{both_ways, false_from_ne_true, cond-true, cond-false}
use Rattle.aq_lex.specs.Lexemes.{PlacedLexeme}
use Rattle.aq_grammar.specs.Terminals.{Terminal, is_of, begins}
use Rattle.aq_grammar.specs.Rules.{Refusal, refused}
use Rattle.aq_grammar.specs.Reading.{Read, Reader, read_both, read_each, read_many}
use Rattle.aq_grammar.specs.Sets.{Marks, of_many, same_kinds, heads}
use Rattle.aq_grammar.proofs.Cuts.{rest_shorter}
use Rattle.aq_grammar.proofs.Apart.{are_apart_sound, same_kinds_begin, is_of_front, begins_front, begins_behind}
use Rattle.aq_grammar.proofs.Keeping.{AreRepeated}
use Rattle.aq_forms.proofs.Free.{ReadsOrLimit, FreeForm, FreeEach, FreeMany}
use Rattle.aq_forms.proofs.ReadingParts.{IsReadFreely, Starts, first_of, fewer, made, both_at, unless_read}

abbrev together : {A : Type 0} → A → List A → List A
together x others = x ∷ others

module _ {A : Type 0} (kinds : List Terminal) (refusals : List Refusal) (Freely : FreeForm A) (reader : Reader A) (a : Marks) (starts : Starts Freely a)
    (fit : AreRepeated refusals a) (same : same_kinds kinds a.begins ≡ true) (read : IsReadFreely Freely reader a) where
  -- one of them and then others
  abbrev one_and_more : ℕ → Reader (List A)
  one_and_more most tokens = read_both together reader (λ x. read_each most kinds refusals reader) tokens

  abbrev perhaps_more : ℕ → Reader (List A)
  perhaps_more most tokens = if begins kinds tokens then one_and_more most tokens else Read [] tokens

  -- behind one of them come others or what comes behind all, and neither goes on with it
  behind_one : (xs : List A) (u rest : List PlacedLexeme) → begins (of_many refusals a).goes_on rest ≡ false → FreeEach refusals Freely xs u rest
      → begins a.goes_on (u ++ rest) ≡ false
  behind_one [] u rest none (is, quiet) =
      subst (λ v. begins a.goes_on (v ++ rest) ≡ false) (sym is) (fewer a.goes_on (a.begins ++ a.goes_on) rest (λ e. begins_behind a.begins a.goes_on rest e) none)
  behind_one (x ∷ others) u rest none (front, behind, quiet, one, more, cut) =
      let (token, left, is, begun) = first_of Freely a starts fit.whole x u front behind (behind ++ rest) one cut in
      subst (λ v. begins a.goes_on (v ++ rest) ≡ false) (sym is)
      (false_from_ne_true (is_of a.goes_on token)
      (λ e. are_apart_sound a.goes_on (a.begins ++ heads refusals) token fit.apart e (is_of_front a.begins (heads refusals) token begun)))

  none_read : (most : ℕ) (rest : List PlacedLexeme) → begins (of_many refusals a).goes_on rest ≡ false → refused refusals rest ≡ None
      → ReadsOrLimit (read_each most kinds refusals reader rest) [] rest
  none_read zero rest none quiet = unless_read refusals (λ tokens. Read [] tokens) [] rest rest quiet (inl refl)
  none_read (suc most) rest none quiet =
      let past : begins kinds rest ≡ false =
      same_kinds_begin kinds a.begins rest same ∙ fewer a.begins (a.begins ++ a.goes_on) rest (λ e. begins_front a.begins a.goes_on rest e) none in
      unless_read refusals (perhaps_more most) [] rest rest quiet (inl (cond-false (begins kinds rest) (one_and_more most rest) (Read [] rest) past))

  each_read : (xs : List A) (most : ℕ) (u rest : List PlacedLexeme) → length u ≤ most → begins (of_many refusals a).goes_on rest ≡ false
      → FreeEach refusals Freely xs u rest → ReadsOrLimit (read_each most kinds refusals reader (u ++ rest)) xs rest
  each_read [] most u rest h none (is, quiet) =
      subst (λ v. ReadsOrLimit (read_each most kinds refusals reader (v ++ rest)) [] rest) (sym is) (none_read most rest none quiet)
  each_read (x ∷ others) zero u rest h none (front, behind, quiet, one, more, cut) =
      let (token, left, is, begun) = first_of Freely a starts fit.whole x u front behind (behind ++ rest) one cut in
      absurd (let e = ap length is in omega arith)
  each_read (x ∷ others) (suc most) u rest h none (front, behind, quiet, one, more, cut) =
      let (token, left, is, begun) = first_of Freely a starts fit.whole x u front behind (behind ++ rest) one cut in
      let next : begins kinds (u ++ rest) ≡ true =
      same_kinds_begin kinds a.begins (u ++ rest) same ∙ subst (λ v. begins a.begins (v ++ rest) ≡ true) (sym is) begun in
      let shorter = rest_shorter u front behind cut (λ e. both_ways a.is_empty fit.whole (starts.empty x (behind ++ rest) (subst (λ v. Freely x v (behind ++ rest)) e one))) in
      unless_read refusals (perhaps_more most) (x ∷ others) (u ++ rest) rest quiet
      (subst (λ o. ReadsOrLimit o (x ∷ others) rest) (sym (cond-true (begins kinds (u ++ rest)) (one_and_more most (u ++ rest)) (Read [] (u ++ rest)) next))
      (both_at together Freely (λ x. FreeEach refusals Freely) reader (λ x. read_each most kinds refusals reader) a a (x ∷ others) u rest front behind x others cut refl
      (read x front (behind ++ rest) (behind_one others behind rest none more) one) (each_read others most behind rest (omega arith) none more)))

  pub many_read : {B : Type 0} (f : List A → B) → IsReadFreely (FreeMany refusals f Freely) (λ tokens. read_many kinds refusals f reader tokens) (of_many refusals a)
  many_read f y u rest none (xs, free, is) =
      made f (read_each (length (u ++ rest)) kinds refusals reader (u ++ rest)) xs y rest is
      (each_read xs (length (u ++ rest)) u rest (omega (arith, length-append u rest)) none free)
