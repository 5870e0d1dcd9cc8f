-- What reading one thing after the other comes to, where each is read or stops at a limit.
use Rattle.std.proofs.Common.{◌≡◌, List, inl, inr, refl, ap, ◌∙◌}
use Rattle.aq_lex.specs.Lexemes.{PlacedLexeme}
use Rattle.aq_grammar.specs.Reading.{Outcome, Read, Stop, Reader, ◌>>=◌, read_both}
use Rattle.aq_forms.proofs.Free.{ReadsOrLimit}

-- what was read first, and then
pub bind_parts :
    {A B : Type 0} (outcome : Outcome A) (then_read : A → List PlacedLexeme → Outcome B) (y : B) (last : List PlacedLexeme) → (outcome >>= then_read) ≡ Read y last
    → (a : A) × (middle : List PlacedLexeme) × (outcome ≡ Read a middle) × (then_read a middle ≡ Read y last)
bind_parts (Read a middle) then_read y last e = (a, middle, refl, e)
bind_parts (Stop reason rest) then_read y last e = cc

pub both_parts :
    {A B C : Type 0} (f : A → B → C) (first : Reader A) (second : A → Reader B) (tokens last : List PlacedLexeme) (y : C) → read_both f first second tokens ≡ Read y last
    → (a : A) × (b : B) × (middle : List PlacedLexeme) × (first tokens ≡ Read a middle) × (second a middle ≡ Read b last) × (y ≡ f a b)
both_parts f first second tokens last y e =
    let one = bind_parts (first tokens) (λ a rest. second a rest >>= λ b last. Read (f a b) last) y last e in
    let two = bind_parts (second one.0 one.1) (λ b last. Read (f one.0 b) last) y last one.3 in
    let same : ◌≡◌ {A = Outcome _} (Read (f one.0 two.0) two.1) (Read y last) = two.3 in
    (one.0, two.0, one.1, one.2, two.2 ∙ ap (λ (rest : List PlacedLexeme). Read two.0 rest) (rest_is (f one.0 two.0) y two.1 last same), value_is (f one.0 two.0) y two.1 last same)
  where
    rest_is : {A : Type 0} (x y : A) (rest last : List PlacedLexeme) → ◌≡◌ {A = Outcome A} (Read x rest) (Read y last) → rest ≡ last
    rest_is x y rest last e = cc

    value_is : {A : Type 0} (x y : A) (rest last : List PlacedLexeme) → ◌≡◌ {A = Outcome A} (Read x rest) (Read y last) → y ≡ x
    value_is x y rest last e = cc

-- the one and then the other are read
pub both_read :
    {A B C : Type 0} (f : A → B → C) (first : Reader A) (second : A → Reader B) (tokens middle last : List PlacedLexeme) (a : A) (b : B) → first tokens ≡ Read a middle
    → second a middle ≡ Read b last → read_both f first second tokens ≡ Read (f a b) last
both_read f first second tokens middle last a b e d =
    ap (λ (o : Outcome _). o >>= λ a rest. second a rest >>= λ b last. Read (f a b) last) e ∙ ap (λ (o : Outcome _). o >>= λ b last. Read (f a b) last) d

-- the same where a limit may be passed
pub both_again :
    {A B C : Type 0} (f : A → B → C) (first : Reader A) (second : A → Reader B) (tokens middle last : List PlacedLexeme) (a : A) (b : B)
    → ReadsOrLimit (first tokens) a middle → ReadsOrLimit (second a middle) b last → ReadsOrLimit (read_both f first second tokens) (f a b) last
both_again f first second tokens middle last a b (inl e) (inl d) =
    inl (ap (λ (o : Outcome _). o >>= λ a rest. second a rest >>= λ b last. Read (f a b) last) e ∙ ap (λ (o : Outcome _). o >>= λ b last. Read (f a b) last) d)
both_again f first second tokens middle last a b (inl e) (inr (fault, place, d, limit)) =
    inr (fault, place, ap (λ (o : Outcome _). o >>= λ a rest. second a rest >>= λ b last. Read (f a b) last) e ∙ ap (λ (o : Outcome _). o >>= λ b last. Read (f a b) last) d, limit)
both_again f first second tokens middle last a b (inr (fault, place, e, limit)) next =
    inr (fault, place, ap (λ (o : Outcome _). o >>= λ a rest. second a rest >>= λ b last. Read (f a b) last) e, limit)

-- an equal outcome
pub again_as : {A : Type 0} (outcome other : Outcome A) (x : A) (rest : List PlacedLexeme) → outcome ≡ other → ReadsOrLimit other x rest → ReadsOrLimit outcome x rest
again_as outcome other x rest e (inl d) = inl (e ∙ d)
again_as outcome other x rest e (inr (fault, place, d, limit)) = inr (fault, place, e ∙ d, limit)
