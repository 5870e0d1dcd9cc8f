-- Any number of things that are read again one by one are read again.
use Rattle.std.proofs.Common.{◌≡◌, ℕ, zero, suc, ◌≤◌, Bool, true, false, List, [], ◌∷◌, ◌++◌, length, flat_map, Option, Some, None, inl, inr, refl, sym, ap, ◌∙◌, subst, ◌⊎◌, arith, append_assoc, if◌then◌else◌}
use Rattle.aq_base.specs.declared.fault.SqlFault.{SqlFault}
use Rattle.aq_lex.specs.Lexemes.{PlacedLexeme}
use Rattle.aq_grammar.specs.Terminals.{Terminal, begins}
use Rattle.aq_grammar.specs.Rules.{Refusal, Form, SpellsEach, refused}
use Rattle.aq_grammar.specs.Reading.{Outcome, Read, Reader, stop_or, read_both}
use Rattle.aq_script.specs.Parsing.{read_each_behind}
use Rattle.aq_texts.specs.Written.{Written}
use Rattle.aq_forms.proofs.Sound.{HaveTexts}
use Rattle.aq_forms.proofs.Laid.{laid, past, laid_append}
use Rattle.aq_forms.proofs.Free.{ReadsOrLimit}
use Rattle.aq_canon.proofs.Outcomes.{both_parts, both_again, again_as}

-- where nothing is refused, the outcome is that of reading
pub stop_parts : {A : Type 0} (fault : Option SqlFault) (tokens : List PlacedLexeme) (outcome : Outcome A) (y : A) (last : List PlacedLexeme)
    → stop_or fault tokens outcome ≡ Read y last → (fault ≡ None) × (outcome ≡ Read y last)
stop_parts None tokens outcome y last e = (refl, e)
stop_parts (Some fault) tokens outcome y last e = cc

pub choice_parts : {A : Type 0} (test : Bool) (one other : Outcome A) (y : A) (last : List PlacedLexeme) → (if test then one else other) ≡ Read y last
    → ((test ≡ true) × (one ≡ Read y last)) ⊎ ((test ≡ false) × (other ≡ Read y last))
choice_parts true one other y last e = inl (refl, e)
choice_parts false one other y last e = inr (refl, e)

-- texts of what is left
abbrev pub TextsBehind : {A : Type 0} → Reader A → Type 0
TextsBehind {A} reader = (tokens rest : List PlacedLexeme) (x : A) → HaveTexts tokens → reader tokens ≡ Read x rest → HaveTexts rest

module _ {S A : Type 0} (kinds : List Terminal) (refusals : S → List Refusal) (reader : S → Reader A) (next : S → A → S) (Spelled : Form A) (print : A → List Written)
    (Same : A → A → Type 0) (Between Behind : List PlacedLexeme → Type 0) where
  -- one of them is read again from its printed tokens
  pub record IsAgain (state : S) (x : A) (tokens rest : List PlacedLexeme) : Type 0 where
    pub free : refused (refusals state) (tokens ++ rest) ≡ None
    pub begun : begins kinds (tokens ++ rest) ≡ true
    pub found : A
    pub same : Same found x
    pub next_same : next state found ≡ next state x
    pub spelled : Spelled found tokens
    pub read : ReadsOrLimit (reader state (tokens ++ rest)) found rest

  abbrev pub AreSameEach : List A → List A → Type 0
  AreSameEach [] [] = Unit {0}
  AreSameEach [] (y ∷ others) = ⊥
  AreSameEach (x ∷ xs) [] = ⊥
  AreSameEach (x ∷ xs) (y ∷ others) = Same x y × AreSameEach xs others

  -- all of them are read again
  pub record AreAgain (state : S) (most : ℕ) (xs : List A) (tokens rest : List PlacedLexeme) : Type 0 where
    pub found : List A
    pub same : AreSameEach found xs
    pub spelled : SpellsEach Spelled found tokens
    pub read : ReadsOrLimit (read_each_behind kinds refusals reader next most state (tokens ++ rest)) found rest

  each_parts : (most : ℕ) (state : S) (tokens last : List PlacedLexeme) (found : List A) → read_each_behind kinds refusals reader next most state tokens ≡ Read found last
      → ((found ≡ []) × (last ≡ tokens))
      ⊎ ((fewer : ℕ) × (x : A) × (others : List A) × (middle : List PlacedLexeme) × (most ≡ suc fewer) × (refused (refusals state) tokens ≡ None) × (begins kinds tokens ≡ true)
      × (reader state tokens ≡ Read x middle) × (read_each_behind kinds refusals reader next fewer (next state x) middle ≡ Read others last) × (found ≡ x ∷ others))
  each_parts zero state tokens last found e =
      let parts = stop_parts (refused (refusals state) tokens) tokens (Read [] tokens) found last e in
      inl (nothing_found found last tokens parts.1)
    where
      nothing_found : (found : List A) (last tokens : List PlacedLexeme) → ◌≡◌ {A = Outcome (List A)} (Read [] tokens) (Read found last) → (found ≡ []) × (last ≡ tokens)
      nothing_found found last tokens e = (cc, cc)
  each_parts (suc most) state tokens last found e =
      let parts = stop_parts (refused (refusals state) tokens) tokens _ found last e in
      by_choice parts.0
      (choice_parts (begins kinds tokens) (read_both (λ x others. x ∷ others) (reader state) (λ x. read_each_behind kinds refusals reader next most (next state x)) tokens) (Read [] tokens)
      found last parts.1)
    where
      Parts : Type 0
      Parts =
          ((found ≡ []) × (last ≡ tokens))
          ⊎ ((fewer : ℕ) × (x : A) × (others : List A) × (middle : List PlacedLexeme) × (suc most ≡ suc fewer) × (refused (refusals state) tokens ≡ None) × (begins kinds tokens ≡ true)
          × (reader state tokens ≡ Read x middle) × (read_each_behind kinds refusals reader next fewer (next state x) middle ≡ Read others last) × (found ≡ x ∷ others))

      nothing_found : ◌≡◌ {A = Outcome (List A)} (Read [] tokens) (Read found last) → (found ≡ []) × (last ≡ tokens)
      nothing_found e = (cc, cc)

      by_choice : refused (refusals state) tokens ≡ None
          → ((begins kinds tokens ≡ true)
          × (read_both (λ x others. x ∷ others) (reader state) (λ x. read_each_behind kinds refusals reader next most (next state x)) tokens ≡ Read found last))
          ⊎ ((begins kinds tokens ≡ false) × (◌≡◌ {A = Outcome (List A)} (Read [] tokens) (Read found last))) → Parts
      by_choice none (inl (begun, read)) =
          let (x, others, middle, first, second, whole) =
          both_parts (λ x others. x ∷ others) (reader state) (λ x. read_each_behind kinds refusals reader next most (next state x)) tokens last found read in
          inr (most, x, others, middle, refl, none, begun, first, second, whole)
      by_choice none (inr (ended, read)) = inl (nothing_found read)

  module _ (texts_behind : (state : S) → TextsBehind (reader state))
      (again : (state : S) (x : A) (tokens middle : List PlacedLexeme) → HaveTexts tokens → refused (refusals state) tokens ≡ None → begins kinds tokens ≡ true
      → reader state tokens ≡ Read x middle → (lines : ℕ → ℕ) (at : ℕ) (rest : List PlacedLexeme) → Between rest → IsAgain state x (laid lines at (print x)) rest)
      (follows : (x : A) (lines : ℕ → ℕ) (at : ℕ) (rest : List PlacedLexeme) → Between (laid lines at (print x) ++ rest)) (may_end : (rest : List PlacedLexeme) → Behind rest → Between rest)
      (ends_free : (state : S) (rest : List PlacedLexeme) → Behind rest → (refused (refusals state) rest ≡ None) × (begins kinds rest ≡ false)) where
    each_follows : (xs : List A) (lines : ℕ → ℕ) (at : ℕ) (rest : List PlacedLexeme) → Behind rest → Between (laid lines at (flat_map print xs) ++ rest)
    each_follows [] lines at rest behind = may_end rest behind
    each_follows (x ∷ xs) lines at rest behind =
        subst Between
        (sym (append_assoc (laid lines at (print x)) (laid lines (past at (print x)) (flat_map print xs)) rest)
        ∙ ap (λ (u : List PlacedLexeme). u ++ rest) (sym (laid_append lines at (print x) (flat_map print xs))))
        (follows x lines at (laid lines (past at (print x)) (flat_map print xs) ++ rest))

    -- none more
    end_again : (most : ℕ) (state : S) (rest : List PlacedLexeme) → Behind rest → read_each_behind kinds refusals reader next most state rest ≡ Read [] rest
    end_again zero state rest behind = ap (λ (fault : Option SqlFault). stop_or fault rest (Read [] rest)) (ends_free state rest behind).0
    end_again (suc most) state rest behind =
        ap (λ (fault : Option SqlFault).
        stop_or fault rest
        (if begins kinds rest then read_both (λ x others. x ∷ others) (reader state) (λ x. read_each_behind kinds refusals reader next most (next state x)) rest else Read [] rest))
        (ends_free state rest behind).0
        ∙ ap (λ (test : Bool).
        if test then read_both (λ x others. x ∷ others) (reader state) (λ x. read_each_behind kinds refusals reader next most (next state x)) rest else Read [] rest)
        (ends_free state rest behind).1

    -- one more
    more_again : (most : ℕ) (state : S) (tokens : List PlacedLexeme) → refused (refusals state) tokens ≡ None → begins kinds tokens ≡ true
        → read_each_behind kinds refusals reader next (suc most) state tokens
        ≡ read_both (λ x others. x ∷ others) (reader state) (λ x. read_each_behind kinds refusals reader next most (next state x)) tokens
    more_again most state tokens none begun =
        ap (λ (fault : Option SqlFault).
        stop_or fault tokens
        (if begins kinds tokens then read_both (λ x others. x ∷ others) (reader state) (λ x. read_each_behind kinds refusals reader next most (next state x)) tokens else Read [] tokens))
        none
        ∙ ap (λ (test : Bool).
        if test then read_both (λ x others. x ∷ others) (reader state) (λ x. read_each_behind kinds refusals reader next most (next state x)) tokens else Read [] tokens)
        begun

    -- one that is read again, before others that are
    one_more_again : (state : S) (x : A) (others : List A) (more : ℕ) (lines : ℕ → ℕ) (at : ℕ) (rest : List PlacedLexeme)
        → IsAgain state x (laid lines at (print x)) (laid lines (past at (print x)) (flat_map print others) ++ rest)
        → AreAgain (next state x) more others (laid lines (past at (print x)) (flat_map print others)) rest
        → AreAgain state (suc more) (x ∷ others) (laid lines at (flat_map print (x ∷ others))) rest
    one_more_again state x others more lines at rest is are =
        let front = laid lines at (print x) in
        let behind = laid lines (past at (print x)) (flat_map print others) in
        let joined = ap (λ (u : List PlacedLexeme). u ++ rest) (laid_append lines at (print x) (flat_map print others)) ∙ append_assoc front behind rest in
        record {
          found = is.found ∷ are.found;
          same = (is.same, are.same);
          spelled = (front, behind, is.spelled, are.spelled, laid_append lines at (print x) (flat_map print others));
          read =
              again_as (read_each_behind kinds refusals reader next (suc more) state (laid lines at (flat_map print (x ∷ others)) ++ rest))
              (read_both (λ x others. x ∷ others) (reader state) (λ x. read_each_behind kinds refusals reader next more (next state x)) (front ++ (behind ++ rest)))
              (is.found ∷ are.found) rest
              (ap (λ (u : List PlacedLexeme). read_each_behind kinds refusals reader next (suc more) state u) joined ∙ more_again more state (front ++ (behind ++ rest)) is.free is.begun)
              (both_again (λ x others. x ∷ others) (reader state) (λ x. read_each_behind kinds refusals reader next more (next state x)) (front ++ (behind ++ rest)) (behind ++ rest) rest
              is.found are.found is.read
              (subst (λ (s : S). ReadsOrLimit (read_each_behind kinds refusals reader next more s (behind ++ rest)) are.found rest) (sym is.next_same) are.read));
        }

    pub each_again :
        (most : ℕ) (state : S) (tokens last : List PlacedLexeme) (xs : List A) → HaveTexts tokens → read_each_behind kinds refusals reader next most state tokens ≡ Read xs last
        → (more : ℕ) → length xs ≤ more → (lines : ℕ → ℕ) (at : ℕ) (rest : List PlacedLexeme) → Behind rest → AreAgain state more xs (laid lines at (flat_map print xs)) rest
    each_again most state tokens last [] texts read more enough lines at rest behind = record { found = []; same = tt; spelled = refl; read = inl (end_again more state rest behind) }
    each_again most state tokens last (x ∷ others) texts read zero enough lines at rest behind = absurd (omega arith)
    each_again most state tokens last (x ∷ others) texts read (suc more) enough lines at rest behind =
        by_parts (each_parts most state tokens last (x ∷ others) read)
        (λ fewer middle texts_left read_left.
        each_again fewer (next state x) middle last others texts_left read_left more (omega (arith, enough)) lines (past at (print x)) rest behind)
      where
        Others : Type 0
        Others =
            (fewer : ℕ) (middle : List PlacedLexeme) → HaveTexts middle → read_each_behind kinds refusals reader next fewer (next state x) middle ≡ Read others last
            → AreAgain (next state x) more others (laid lines (past at (print x)) (flat_map print others)) rest

        by_parts :
            ((x ∷ others ≡ []) × (last ≡ tokens))
            ⊎ ((fewer : ℕ) × (y : A) × (found : List A) × (middle : List PlacedLexeme) × (most ≡ suc fewer) × (refused (refusals state) tokens ≡ None) × (begins kinds tokens ≡ true)
            × (reader state tokens ≡ Read y middle) × (read_each_behind kinds refusals reader next fewer (next state y) middle ≡ Read found last) × (x ∷ others ≡ y ∷ found))
            → Others → AreAgain state (suc more) (x ∷ others) (laid lines at (flat_map print (x ∷ others))) rest
        by_parts (inl (e, d)) left = cc
        by_parts (inr (fewer, y, found, middle, size, none, begun, one, more_read, whole)) left =
            let same_first : y ≡ x = cc in
            let same_others : found ≡ others = cc in
            let one_read : reader state tokens ≡ Read x middle = one ∙ ap (λ (z : A). Read z middle) same_first in
            let others_read : read_each_behind kinds refusals reader next fewer (next state x) middle ≡ Read others last =
            ap (λ (z : A). read_each_behind kinds refusals reader next fewer (next state z) middle) (sym same_first) ∙ more_read ∙ ap (λ (zs : List A). Read zs last) same_others in
            one_more_again state x others more lines at rest
            (again state x tokens middle texts none begun one_read lines at (laid lines (past at (print x)) (flat_map print others) ++ rest)
            (each_follows others lines (past at (print x)) rest behind))
            (left fewer middle (texts_behind state tokens middle x texts one_read) others_read)
