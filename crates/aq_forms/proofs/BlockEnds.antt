-- What comes behind the statements of a block, where no further statement begins.
use Rattle.std.proofs.Common.{◌≡◌, ℕ, zero, suc, Bool, true, false, if◌then◌else◌, List, [], ◌∷◌, ◌++◌, flat_map, Some, None, refl, sym, ap, ◌∙◌, subst, codes, append_assoc}
use Rattle.aq_lex.specs.Lexemes.{PlacedLexeme}
use Rattle.aq_grammar.specs.Terminals.{Terminal, begin_with}
use Rattle.aq_grammar.specs.Rules.{Refusal, Rule, Many, refused}
use Rattle.aq_grammar.specs.Bodies.{opens_too_many, unsupported_statements, refused_in_code}
use Rattle.aq_texts.specs.Written.{Written}
use Rattle.aq_forms.proofs.Laid.{laid, past, laid_append}
use Rattle.aq_forms.proofs.Free.{FreeEach, Free}
use Rattle.aq_forms.proofs.Combining.{IsFree, Anything, MayFollow, AreFree}

-- no statement begins here: END, ELSIF, ELSE, EXCEPTION or WHEN stands behind a block
abbrev pub Ends_block : List PlacedLexeme → Type 0
Ends_block rest = refused (refused_in_code 0) rest ≡ None

-- with one more refusal before them
pub others_none : (refusal : Refusal) (others : List Refusal) (tokens : List PlacedLexeme) → refused (refusal ∷ others) tokens ≡ None → refused others tokens ≡ None
others_none refusal others tokens e = by_test (begin_with refusal.words tokens) e
  where
    by_test : (b : Bool) → (if b then Some refusal.fault else refused others tokens) ≡ None → refused others tokens ≡ None
    by_test true e = cc
    by_test false e = e

-- where no statement begins, none is refused, however much room there is
pub none_in_room : (room : ℕ) (rest : List PlacedLexeme) → Ends_block rest → refused (refused_in_code room) rest ≡ None
none_in_room zero rest e = e
none_in_room (suc room) rest e =
    others_none (opens_too_many (codes "begin")) unsupported_statements rest
    (others_none (opens_too_many (codes "if")) (opens_too_many (codes "begin") ∷ unsupported_statements) rest e)

-- what begins so may follow, whatever comes behind it
pub begins_so :
    (ws vs : List Written) (First Behind : List PlacedLexeme → Type 0) → MayFollow ws Anything First → MayFollow (ws ++ vs) Behind First
begins_so ws vs First Behind first lines at rest behind =
    subst First (sym (ap (λ (tokens : List PlacedLexeme). tokens ++ rest) (laid_append lines at ws vs) ∙ append_assoc (laid lines at ws) (laid lines (past at ws) vs) rest))
    (first lines at (laid lines (past at ws) vs ++ rest) tt)

-- Forms that end with a block, one after the other, as the ELSIFs of an IF and the handlers of a block. The word with which each of them
-- begins is that of no statement.
module _ {A : Type 0} (a : Rule A) (print : A → List Written) (begins : (x : A) (ws : List Written) → MayFollow (print x ++ ws) Anything Ends_block) where
  pub each_follow : (xs : List A) → MayFollow (flat_map print xs) Ends_block Ends_block
  each_follow [] lines at rest behind = behind
  each_follow (x ∷ others) lines at rest behind = begins x (flat_map print others) lines at rest tt

  each_at : (xs : List A) → AreFree a print Ends_block xs → (lines : ℕ → ℕ) (at : ℕ) (rest : List PlacedLexeme) → Ends_block rest
      → FreeEach [] (Free a) xs (laid lines at (flat_map print xs)) rest
  each_at [] all lines at rest behind = (refl, refl)
  each_at (x ∷ others) all lines at rest behind =
      let after = past at (print x) in (
        laid lines at (print x),
        laid lines after (flat_map print others),
        refl,
        all.0 lines at (laid lines after (flat_map print others) ++ rest) (each_follow others lines after rest behind),
        each_at others all.1 lines after rest behind,
        laid_append lines at (print x) (flat_map print others),
      )

  pub each_free : (kinds : List Terminal) (xs : List A) → AreFree a print Ends_block xs → IsFree (Many kinds [] (λ found. found) a) xs (flat_map print xs) Ends_block
  each_free kinds xs all lines at rest behind = (xs, each_at xs all lines at rest behind, refl)
