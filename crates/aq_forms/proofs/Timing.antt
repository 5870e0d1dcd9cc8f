-- When a constraint is checked, as it is printed, is read as the same.
use Rattle.std.proofs.Common.{◌≡◌, true, false, Bool, List, [], ◌∷◌, inl, inr, refl, ap, ◌⊎◌, codes}
use Rattle.aq_lex.specs.Lexemes.{PlacedLexeme}
use Rattle.aq_base.specs.declared.catalog.Decl.{Decl}
use Rattle.aq_grammar.specs.Rules.{Nonterminal, ValueOf, Refusal}
use Rattle.aq_grammar.specs.Forms.{word, ◌▸◌}
use Rattle.aq_grammar.specs.Tables.{initially, decl, immediate, waits, behind_deferrable, behind_not_deferrable, initially_alone, deferring, given_timing, perhaps_timing, timing_without}
use Rattle.aq_texts.specs.Written.{Said}
use Rattle.aq_texts.specs.Canon.{timing}
use Rattle.aq_forms.proofs.Derived.{Trees, DerivesBy, Derives, DerivesSome}
use Rattle.aq_forms.proofs.Combining.{IsFree, MayFollow, Nothing_refused}
use Rattle.aq_forms.proofs.Composing.{Rest, Prints, nothing_prints, says_prints, word_then, mapped_prints, left_prints, right_prints, some_prints, none_prints, unless_prints, end_prints}
use Rattle.aq_forms.proofs.Validity.{then_valid, first_valid}

-- what a rule gives: nothing waits that is not deferrable
abbrev pub IsTiming : Decl → Type 0
IsTiming t = (t ≡ decl false false) ⊎ ((t ≡ decl true false) ⊎ (t ≡ decl true true))

deferrable_is : (deferred : Bool) → IsTiming (decl true deferred)
deferrable_is false = inr (inl refl)
deferrable_is true = inr (inr refl)

alone_is : (deferred : Bool) → IsTiming (decl deferred deferred)
alone_is false = inl refl
alone_is true = inr (inr refl)

module _ (calls : (n : Nonterminal) → Trees (ValueOf n)) where
  pub not_deferrable_is : (t : Decl) → DerivesBy calls (word (codes "deferrable") ▸ behind_not_deferrable) t → IsTiming t
  unfolding behind_not_deferrable
  not_deferrable_is t derived = then_valid IsTiming (λ a b d. first_valid IsTiming (λ said c. inl refl) d) derived

  pub deferring_is : (t : Decl) → DerivesBy calls deferring t → IsTiming t
  unfolding deferring behind_deferrable initially_alone
  deferring_is t (inl derived) = then_valid IsTiming (λ a b d. first_valid IsTiming (λ said c. deferrable_is (waits said)) d) derived
  deferring_is t (inr derived) = first_valid IsTiming (λ deferred c. alone_is deferred) derived

  given_is : (t : Decl) → DerivesBy calls given_timing t → IsTiming t
  unfolding given_timing
  given_is t (inl derived) = then_valid IsTiming (λ a b d. not_deferrable_is b d) derived
  given_is t (inr derived) = deferring_is t derived

  pub timing_is : (refusals : List Refusal) (t : Decl) → DerivesBy calls (timing_without refusals) t → IsTiming t
  unfolding timing_without perhaps_timing
  timing_is refusals t (inl derived) = first_valid IsTiming (λ x d. given_is x d) derived
  timing_is refusals t (inr e) = inl e

-- nothing waits for the commit that is not deferrable
pub never_waits_alone : (refusals : List Refusal) → Derives (timing_without refusals) (decl false true) → ⊥
never_waits_alone refusals derived = no_such (timing_is DerivesSome refusals (decl false true) derived)
  where
    no_such : IsTiming (decl false true) → ⊥
    no_such (inl e) = let differ : true ≡ false = ap (λ (t : Decl). t.deferred) e in cc
    no_such (inr (inl e)) = let differ : true ≡ false = ap (λ (t : Decl). t.deferred) e in cc
    no_such (inr (inr e)) = let differ : false ≡ true = ap (λ (t : Decl). t.deferrable) e in cc

-- ---- as it is printed

deferred_prints : (Behind : Rest) → Prints initially true (Said (codes "INITIALLY") ∷ Said (codes "DEFERRED") ∷ []) Behind
unfolding initially
deferred_prints Behind = word_then refl (right_prints (says_prints refl))

-- a timing that is given
pub deferring_prints : (deferred : Bool) (Behind : Rest) → Prints deferring (decl true deferred) (timing (decl true deferred)) Behind
unfolding deferring behind_deferrable
deferring_prints true Behind = left_prints (word_then refl (mapped_prints (some_prints (deferred_prints Behind))))
deferring_prints false Behind = left_prints (word_then refl (mapped_prints none_prints))

module _ (refusals : List Refusal) (Behind : Rest) (none : (rest : List PlacedLexeme) → Behind rest → Nothing_refused refusals rest) where
  deferrable_prints : (deferred : Bool) → MayFollow (timing (decl true deferred)) Behind (Nothing_refused refusals)
      → Prints (timing_without refusals) (decl true deferred) (timing (decl true deferred)) Behind
  unfolding timing_without perhaps_timing given_timing
  deferrable_prints deferred first = unless_prints (left_prints (end_prints (right_prints (deferring_prints deferred Behind)) none)) first

  nothing_deferred : Prints (timing_without refusals) immediate [] Behind
  unfolding timing_without perhaps_timing
  nothing_deferred = unless_prints (right_prints nothing_prints) (λ lines at rest b. none rest b)

  -- where none of the refused words comes behind, and none of them begins it
  pub timing_prints : (t : Decl) → IsTiming t → MayFollow (timing t) Behind (Nothing_refused refusals) → Prints (timing_without refusals) t (timing t) Behind
  timing_prints t (inl e) first = rw e nothing_deferred
  timing_prints t (inr (inl e)) first = rw e (deferrable_prints false (rw e at first))
  timing_prints t (inr (inr e)) first = rw e (deferrable_prints true (rw e at first))

-- where no words are refused anything may come behind it
pub timing_free : (t : Decl) (Behind : Rest) → Derives (timing_without []) t → IsFree (timing_without []) t (timing t) Behind
timing_free t Behind derived = (timing_prints [] Behind (λ rest b. refl) t (timing_is DerivesSome [] t derived) (λ lines at rest b. refl)).free
