-- How a loop stands that reads forms one after the other, where what is refused and how one is read hang on a state that each of them changes.
use Rattle.std.proofs.Common.{◌≡◌, ℕ, zero, suc, ◌≤◌, ◌<◌, true, false, List, [], ◌∷◌, ◌++◌, length, if◌then◌else◌, Option, Some, None, Ok, Err, sym, ap, ◌∙◌, refl, append_assoc, arith, le_refl}
use Rattle.std.proofs.lemmas.Bool.{cond-true, cond-false}
use Rattle.std.proofs.lemmas.List.{append-nil}
use Rattle.aq_base.specs.declared.fault.SqlFault.{SqlFault}
use Rattle.aq_lex.specs.Lexemes.{PlacedLexeme}
use Rattle.aq_grammar.specs.Terminals.{Terminal, begins}
use Rattle.aq_grammar.specs.Rules.{Refusal, refused}
use Rattle.aq_grammar.specs.Reading.{Outcome, Read, Stop, Refused as Refused_, Reader, ◌>>=◌, stop_or, read_both}
use Rattle.aq_grammar.specs.declared.fault.ReadFault.{ReadFault}
use Rattle.aq_grammar.specs.declared.fault.ReadFault.TheVariants.{NoMemory, Syntax, Refused}
use Rattle.aq_grammar.specs.Steps.{Fails, RefusesSo}
use Rattle.aq_grammar.proofs.Fuel.{Shortens, stop_or_shortens, either_shortens, both_shortens, nothing_shortens}
use Rattle.aq_grammar.proofs.Loops.{fails_on, fails_as, handed_on}
use Rattle.aq_script.specs.Parsing.{read_each_behind}

module _ {S A : Type 0} (kinds : List Terminal) (refusals : S → List Refusal) (reader : S → Reader A) (next : S → A → S) where
  -- the trees so far, and those that are still read
  abbrev with_front : List A → Outcome (List A) → Outcome (List A)
  with_front before outcome = outcome >>= λ found rest. Read (before ++ found) rest

  pub record StandsBehind (before : List A) (state : S) (tokens : List PlacedLexeme) (total : Outcome (List A)) : Type 0 where
    pub most : ℕ
    pub enough : length tokens ≤ most
    pub same : with_front before (read_each_behind kinds refusals reader next most state tokens) ≡ total

  with_one : (before : List A) (x : A) (outcome : Outcome (List A))
      → with_front before (outcome >>= λ others last. Read (x ∷ others) last) ≡ with_front (before ++ x ∷ []) outcome
  with_one before x (Read found rest) = ap (λ (xs : List A). Read xs rest) (sym (append_assoc before (x ∷ []) found))
  with_one before x (Stop reason rest) = refl

  -- nothing is refused there
  abbrev pub IsFreeBehind : S → List PlacedLexeme → Type 0
  IsFreeBehind state tokens = refused (refusals state) tokens ≡ None

  -- one tree and then others
  abbrev step : ℕ → S → List PlacedLexeme → Outcome (List A)
  step most state tokens = read_both (λ x others. x ∷ others) (reader state) (λ x. read_each_behind kinds refusals reader next most (next state x)) tokens

  abbrev none_left : List PlacedLexeme → Outcome (List A)
  none_left tokens = Read [] tokens

  free_goes_on : (state : S) (tokens : List PlacedLexeme) (outcome : Outcome (List A)) → IsFreeBehind state tokens
      → stop_or (refused (refusals state) tokens) tokens outcome ≡ outcome
  free_goes_on state tokens outcome free = ap (λ (o : Option SqlFault). stop_or o tokens outcome) free

  barred_stops : (state : S) (tokens : List PlacedLexeme) (outcome : Outcome (List A)) (fault : SqlFault) → refused (refusals state) tokens ≡ Some fault
      → stop_or (refused (refusals state) tokens) tokens outcome ≡ Stop (Refused_ fault) tokens
  barred_stops state tokens outcome fault barred = ap (λ (o : Option SqlFault). stop_or o tokens outcome) barred

  one_more : (most : ℕ) (state : S) (tokens : List PlacedLexeme) → IsFreeBehind state tokens → begins kinds tokens ≡ true
      → read_each_behind kinds refusals reader next (suc most) state tokens ≡ step most state tokens
  one_more most state tokens free begun =
      free_goes_on state tokens (if begins kinds tokens then step most state tokens else none_left tokens) free
      ∙ cond-true (begins kinds tokens) (step most state tokens) (none_left tokens) begun

  no_more : (most : ℕ) (state : S) (tokens : List PlacedLexeme) → IsFreeBehind state tokens → begins kinds tokens ≡ false
      → read_each_behind kinds refusals reader next most state tokens ≡ Read [] tokens
  no_more zero state tokens free begun = free_goes_on state tokens (none_left tokens) free
  no_more (suc most) state tokens free begun =
      free_goes_on state tokens (if begins kinds tokens then step most state tokens else none_left tokens) free
      ∙ cond-false (begins kinds tokens) (step most state tokens) (none_left tokens) begun

  is_barred : (most : ℕ) (state : S) (tokens : List PlacedLexeme) (fault : SqlFault) → refused (refusals state) tokens ≡ Some fault
      → read_each_behind kinds refusals reader next most state tokens ≡ Stop (Refused_ fault) tokens
  is_barred zero state tokens fault barred = barred_stops state tokens (none_left tokens) fault barred
  is_barred (suc most) state tokens fault barred =
      barred_stops state tokens (if begins kinds tokens then step most state tokens else none_left tokens) fault barred

  pub begun_behind : (state : S) (tokens : List PlacedLexeme) → StandsBehind [] state tokens (read_each_behind kinds refusals reader next (length tokens) state tokens)
  begun_behind state tokens = record {
    most = length tokens;
    enough = le_refl (length tokens);
    same = handed_on (read_each_behind kinds refusals reader next (length tokens) state tokens);
  }

  goes_on_at : (most : ℕ) (before : List A) (state : S) (tokens rest : List PlacedLexeme) (x : A) (total : Outcome (List A)) → length rest < length tokens
      → length tokens ≤ most → IsFreeBehind state tokens → begins kinds tokens ≡ true → reader state tokens ≡ Read x rest
      → with_front before (read_each_behind kinds refusals reader next most state tokens) ≡ total → StandsBehind (before ++ x ∷ []) (next state x) rest total
  goes_on_at zero before state tokens rest x total less enough free begun read so_far = absurd (omega arith)
  goes_on_at (suc most) before state tokens rest x total less enough free begun read so_far =
      let one : step most state tokens ≡ (read_each_behind kinds refusals reader next most (next state x) rest >>= λ others last. Read (x ∷ others) last) =
      ap (λ (o : Outcome A). o >>= λ y behind. read_each_behind kinds refusals reader next most (next state y) behind >>= λ others last. Read (y ∷ others) last) read in
      record {
        most = most;
        enough = omega arith;
        same =
            sym (with_one before x (read_each_behind kinds refusals reader next most (next state x) rest))
            ∙ (ap (λ (o : Outcome (List A)). with_front before o) (sym (one_more most state tokens free begun ∙ one)) ∙ so_far);
      }

  pub goes_on_behind : (before : List A) (state : S) (tokens rest : List PlacedLexeme) (x : A) (total : Outcome (List A)) → length rest < length tokens
      → StandsBehind before state tokens total → IsFreeBehind state tokens → begins kinds tokens ≡ true → reader state tokens ≡ Read x rest
      → StandsBehind (before ++ x ∷ []) (next state x) rest total
  goes_on_behind before state tokens rest x total less stands free begun read =
      goes_on_at stands.most before state tokens rest x total less stands.enough free begun read stands.same

  fails_at : (most : ℕ) (fault : ReadFault) (before : List A) (state : S) (tokens : List PlacedLexeme) (total : Outcome (List A)) → length tokens ≤ most
      → IsFreeBehind state tokens → begins kinds tokens ≡ true → Fails fault (reader state tokens)
      → with_front before (read_each_behind kinds refusals reader next most state tokens) ≡ total → Fails fault total
  fails_at most fault before state [] total enough free begun fails so_far = cc
  fails_at zero fault before state (token ∷ tokens) total enough free begun fails so_far = absurd (omega arith)
  fails_at (suc most) fault before state (token ∷ tokens) total enough free begun fails so_far =
      fails_as fault _ total so_far
      (fails_on fault _ _ (fails_as fault _ _ (sym (one_more most state (token ∷ tokens) free begun)) (fails_on fault (reader state (token ∷ tokens)) _ fails)))

  pub fails_behind : (fault : ReadFault) (before : List A) (state : S) (tokens : List PlacedLexeme) (total : Outcome (List A)) → StandsBehind before state tokens total
      → IsFreeBehind state tokens → begins kinds tokens ≡ true → Fails fault (reader state tokens) → Fails fault total
  fails_behind fault before state tokens total stands free begun fails =
      fails_at stands.most fault before state tokens total stands.enough free begun fails stands.same

  pub ends_behind : (before : List A) (state : S) (tokens : List PlacedLexeme) (total : Outcome (List A)) → StandsBehind before state tokens total
      → IsFreeBehind state tokens → begins kinds tokens ≡ false → total ≡ Read before tokens
  ends_behind before state tokens total stands free begun =
      sym stands.same
      ∙ (ap (λ (o : Outcome (List A)). with_front before o) (no_more stands.most state tokens free begun) ∙ ap (λ (xs : List A). Read xs tokens) (append-nil before))

  -- nothing is refused there, or what is refused is a fault of the whole
  pub is_free_behind : (x : Unit {0}) (state : S) (tokens : List PlacedLexeme) → RefusesSo (refusals state) (Ok x) tokens → IsFreeBehind state tokens
  unfolding RefusesSo
  is_free_behind x state tokens refuses = refuses

  barred_behind : (before : List A) (state : S) (tokens : List PlacedLexeme) (fault : SqlFault) (total : Outcome (List A)) → StandsBehind before state tokens total
      → refused (refusals state) tokens ≡ Some fault → total ≡ Stop (Refused_ fault) tokens
  barred_behind before state tokens fault total stands barred =
      sym stands.same ∙ ap (λ (o : Outcome (List A)). with_front before o) (is_barred stands.most state tokens fault barred)

  pub refuses_behind : (fault : ReadFault) (before : List A) (state : S) (tokens : List PlacedLexeme) (total : Outcome (List A)) → StandsBehind before state tokens total
      → RefusesSo (refusals state) (Err fault) tokens → Fails fault total
  unfolding RefusesSo
  refuses_behind NoMemory before state tokens total stands refuses = tt
  refuses_behind (Syntax left) before state tokens total stands refuses = absurd refuses
  refuses_behind (Refused left fault) before state tokens total stands (is_left, barred) =
      (tokens, barred_behind before state tokens fault total stands barred, is_left)

  -- so many of them, where one is no longer than what there was
  pub each_shortens_behind : ((state : S) (tokens : List PlacedLexeme) → Shortens true (length tokens) (reader state tokens)) → (most : ℕ) (state : S) (tokens : List PlacedLexeme)
      → Shortens true (length tokens) (read_each_behind kinds refusals reader next most state tokens)
  each_shortens_behind one zero state tokens =
      stop_or_shortens true (refused (refusals state) tokens) tokens (none_left tokens) (nothing_shortens {A = List A} [] tokens)
  each_shortens_behind one (suc most) state tokens =
      stop_or_shortens true (refused (refusals state) tokens) tokens _
      (either_shortens kinds true (step most state) none_left tokens
      (both_shortens (λ x others. x ∷ others) true true (reader state) (λ x. read_each_behind kinds refusals reader next most (next state x)) tokens (one state tokens)
      (λ x. each_shortens_behind one most (next state x)))
      (nothing_shortens {A = List A} [] tokens))
