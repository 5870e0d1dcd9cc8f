-- Parts of a form that are read one after the other, put together in two ways.
use Rattle.std.proofs.Common.{◌≡◌, Bool, true, false, List, Option, Some, None, if◌then◌else◌, refl, sym, ap, ◌∙◌}
use Rattle.aq_base.specs.declared.fault.SqlFault.{SqlFault}
use Rattle.aq_lex.specs.Lexemes.{PlacedLexeme}
use Rattle.aq_grammar.specs.Reading.{Outcome, Read, Stop, ◌>>=◌, stop_or}

-- what is read is handed on
pub handed_on : {A : Type 0} (outcome : Outcome A) → (outcome >>= λ x rest. Read x rest) ≡ outcome
handed_on (Read x rest) = refl
handed_on (Stop reason rest) = refl

pub bind_both :
    {A B C D : Type 0} (outcome : Outcome A) (f : A → List PlacedLexeme → Outcome B) (h : A → List PlacedLexeme → Outcome C)
    (g : B → List PlacedLexeme → Outcome D) (k : C → List PlacedLexeme → Outcome D)
    → ((x : A) (rest : List PlacedLexeme) → (f x rest >>= g) ≡ (h x rest >>= k)) → (outcome >>= f >>= g) ≡ (outcome >>= h >>= k)
bind_both (Read x rest) f h g k same = same x rest
bind_both (Stop reason rest) f h g k same = refl

-- a word first, which has no meaning
pub then_both :
    {A B C D : Type 0} (outcome : Outcome A) (f : List PlacedLexeme → Outcome B) (h : List PlacedLexeme → Outcome C)
    (g : B → List PlacedLexeme → Outcome D) (k : C → List PlacedLexeme → Outcome D)
    → ((rest : List PlacedLexeme) → (f rest >>= g) ≡ (h rest >>= k))
    → ((outcome >>= λ x rest. f rest >>= λ y last. Read y last) >>= g) ≡ ((outcome >>= λ x rest. h rest >>= λ y last. Read y last) >>= k)
then_both (Read x rest) f h g k same = ap (λ o. o >>= g) (handed_on (f rest)) ∙ (same rest ∙ ap (λ o. o >>= k) (sym (handed_on (h rest))))
then_both (Stop reason rest) f h g k same = refl

pub either_both :
    {B C D : Type 0} (b : Bool) (one other : Outcome B) (first second : Outcome C) (g : B → List PlacedLexeme → Outcome D) (k : C → List PlacedLexeme → Outcome D)
    → (one >>= g) ≡ (first >>= k) → (other >>= g) ≡ (second >>= k) → ((if b then one else other) >>= g) ≡ ((if b then first else second) >>= k)
either_both true one other first second g k same alike = same
either_both false one other first second g k same alike = alike

pub unless_both :
    {B C D : Type 0} (fault : Option SqlFault) (tokens : List PlacedLexeme) (one : Outcome B) (first : Outcome C) (g : B → List PlacedLexeme → Outcome D)
    (k : C → List PlacedLexeme → Outcome D) → (fault ≡ None → (one >>= g) ≡ (first >>= k)) → (stop_or fault tokens one >>= g) ≡ (stop_or fault tokens first >>= k)
unless_both None tokens one first g k same = same refl
unless_both (Some fault) tokens one first g k same = refl

-- what is read of a call, and then made another tree
pub mapped_both :
    {A B D : Type 0} (outcome : Outcome A) (f : A → B) (g : B → List PlacedLexeme → Outcome D) (k : A → List PlacedLexeme → Outcome D)
    → ((x : A) (rest : List PlacedLexeme) → g (f x) rest ≡ k x rest) → (outcome >>= (λ x rest. Read x rest) >>= (λ x rest. Read (f x) rest) >>= g) ≡ (outcome >>= k)
mapped_both (Read x rest) f g k same = same x rest
mapped_both (Stop reason rest) f g k same = refl

pub unless_then :
    {B C : Type 0} (fault : Option SqlFault) (tokens : List PlacedLexeme) (one : Outcome B) (first : Outcome C) (k : C → List PlacedLexeme → Outcome B)
    → (fault ≡ None → one ≡ (first >>= k)) → stop_or fault tokens one ≡ (stop_or fault tokens first >>= k)
unless_then None tokens one first k same = same refl
unless_then (Some fault) tokens one first k same = refl
