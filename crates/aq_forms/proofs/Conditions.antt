-- The conditions of a handler are printed as tokens that are read as the same conditions.
use Rattle.std.proofs.Common.{◌≡◌, List, [], ◌∷◌, ◌++◌, flat_map, inl, inr, refl, sym, ap, ◌∙◌, subst, codes}
use Rattle.std.proofs.lemmas.List.{append-nil}
use Rattle.aq_base.specs.declared.body.Condition.{Condition}
use Rattle.aq_base.specs.declared.body.Condition.TheVariants.{SqlState}
use Rattle.aq_grammar.specs.Terminals.{Keyword, StateCode, is_state_code, text_of}
use Rattle.aq_grammar.specs.Rules.{Nonterminal, ValueOf, Many}
use Rattle.aq_grammar.specs.Forms.{word, ◌▸◌}
use Rattle.aq_grammar.specs.Bodies.{condition, conditions}
use Rattle.aq_texts.specs.Written.{Written, say, Literal, separated}
use Rattle.aq_texts.specs.Canon as canon
use Rattle.aq_forms.proofs.Derived.{Trees, DerivesEach, DerivesBy}
use Rattle.aq_forms.proofs.Combining.{IsFree, Anything, AreFree, token_free, both_any, many_free}
use Rattle.aq_forms.proofs.Composing.{Rest, Prints, says_prints, word_then, left_prints, right_prints}
use Rattle.aq_forms.proofs.ExpressionAtoms.{text_fits}

module _ (calls : (n : Nonterminal) → Trees (ValueOf n)) where
  condition_prints : (c : Condition) (Behind : Rest) → DerivesBy calls condition c → Prints condition c (canon.condition c) Behind
  unfolding condition
  condition_prints c Behind (inl (token, fit, sound, e)) = rw e (left_prints (says_prints refl))
  condition_prints c Behind (inr (inl (said, code, _, (token, fit, sound, b), a))) =
      let e : c ≡ SqlState (record { 0 = text_of token }) = a ∙ b in
      let found = text_fits is_state_code token.lexeme fit sound in
      rw e
      (right_prints (left_prints (word_then refl
      (record {
        free = token_free StateCode (λ token. SqlState (record { 0 = text_of token })) (Literal (text_of token)) (SqlState (record { 0 = text_of token })) Behind
            (λ line. found.0) found.1 (λ line. refl);
      }))))
  condition_prints c Behind (inr (inr (inl (token, fit, sound, e)))) = rw e (right_prints (right_prints (left_prints (says_prints refl))))
  condition_prints c Behind (inr (inr (inr (inl (token, fit, sound, e))))) = rw e (right_prints (right_prints (right_prints (left_prints (says_prints refl)))))
  condition_prints c Behind (inr (inr (inr (inr (inl (token, fit, sound, e)))))) =
      rw e (right_prints (right_prints (right_prints (right_prints (left_prints (says_prints refl))))))
  condition_prints c Behind (inr (inr (inr (inr (inr (inl (token, fit, sound, e))))))) =
      rw e (right_prints (right_prints (right_prints (right_prints (right_prints (left_prints (says_prints refl)))))))
  condition_prints c Behind (inr (inr (inr (inr (inr (inr (inl (token, fit, sound, e)))))))) =
      rw e (right_prints (right_prints (right_prints (right_prints (right_prints (right_prints (left_prints (says_prints refl))))))))
  condition_prints c Behind (inr (inr (inr (inr (inr (inr (inr (token, fit, sound, e)))))))) =
      rw e (right_prints (right_prints (right_prints (right_prints (right_prints (right_prints (right_prints (says_prints refl))))))))

  -- one more condition, behind OR
  abbrev with_or : Condition → List Written
  with_or c = say (codes "OR") ∷ canon.condition c

  conditions_are : (c : Condition) (others : List Condition)
      → separated (say (codes "OR")) canon.condition (c ∷ others) ≡ canon.condition c ++ flat_map with_or others
  conditions_are c [] = sym (append-nil (canon.condition c))
  conditions_are c (next ∷ others) = ap (λ (tokens : List Written). canon.condition c ++ say (codes "OR") ∷ tokens) (conditions_are next others)

  others_free : (others : List Condition) → DerivesEach (DerivesBy calls (word (codes "or") ▸ condition)) others
      → AreFree (word (codes "or") ▸ condition) with_or Anything others
  others_free [] all = tt
  others_free (c ∷ others) ((said, own, _, derived, e), all) =
      let found : Prints (word (codes "or") ▸ condition) c (with_or c) Anything =
      word_then refl (condition_prints c Anything (subst (DerivesBy calls condition) (sym e) derived)) in
      (found.free, others_free others all)

  pub conditions_free : (found : List Condition) (Behind : Rest) → DerivesBy calls conditions found
      → IsFree conditions found (separated (say (codes "OR")) canon.condition found) Behind
  unfolding conditions
  conditions_free found Behind (first, others, derived, (own, all, b), a) =
      let e : found ≡ first ∷ own = a ∙ ap (λ (others : List Condition). first ∷ others) b in
      subst (λ (found : List Condition). IsFree conditions found (separated (say (codes "OR")) canon.condition found) Behind) (sym e)
      (subst (λ (tokens : List Written). IsFree conditions (first ∷ own) tokens Behind) (sym (conditions_are first own))
      (both_any (λ first others. first ∷ others) condition (Many (Keyword (codes "or") ∷ []) [] (λ others. others) (word (codes "or") ▸ condition)) first own
      (canon.condition first) (flat_map with_or own) Behind (condition_prints first Anything derived).free
      (many_free (Keyword (codes "or") ∷ []) (λ others. others) (word (codes "or") ▸ condition) with_or own Behind (others_free own all))))
