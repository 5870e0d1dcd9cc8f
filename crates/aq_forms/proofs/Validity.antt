-- What a tree of a rule is, by the parts of the rule.
use Rattle.std.proofs.Common.{List, [], ◌∷◌, sym, subst}
use Rattle.aq_grammar.specs.Rules.{Nonterminal, ValueOf, Rule}
use Rattle.aq_base.specs.Names.{Text as Bytes}
use Rattle.aq_lex.specs.declared.token.Symbol.TheVariants.{Comma}
use Rattle.aq_lex.specs.Lexemes.{PlacedLexeme}
use Rattle.aq_grammar.specs.Forms.{sign, ◌▸◌, listed, in_parentheses, name, names, public_name}
use Rattle.aq_texts.specs.Written.{Written, Name, listed as listed_tokens, names as names_tokens, columns as columns_tokens}
use Rattle.aq_forms.proofs.Derived.{Trees, DerivesBoth, DerivesEach, DerivesBy}
use Rattle.aq_forms.proofs.Combining.{Anything, ComesBeforeComma, AreFree, listed_free}
use Rattle.aq_forms.proofs.Names.{IsNamed, name_named, name_free, public_free}
use Rattle.aq_forms.proofs.Composing.{Rest, Prints, parentheses_print}

-- the one and then the other
pub both_valid :
    {A B C : Type 0} {f : A → B → C} {First : A → Type 0} {Second : A → B → Type 0} {y : C} (P : C → Type 0) → ((a : A) (b : B) → First a → Second a b → P (f a b))
    → DerivesBoth f First Second y → P y
both_valid P h (a, b, first, second, e) = subst P (sym e) (h a b first second)

-- the other alone has a meaning
pub then_valid :
    {A B : Type 0} {First : A → Type 0} {Second : A → B → Type 0} {y : B} (P : B → Type 0) → ((a : A) (b : B) → Second a b → P b)
    → DerivesBoth (λ (a : A) (b : B). b) First Second y → P y
then_valid P h (a, b, first, second, e) = subst P (sym e) (h a b second)

-- the one alone has a meaning
pub first_valid :
    {A B C : Type 0} {f : A → C} {First : A → Type 0} {Second : A → B → Type 0} {y : C} (P : C → Type 0) → ((a : A) → First a → P (f a))
    → DerivesBoth (λ (a : A) (b : B). f a) First Second y → P y
first_valid P h (a, b, first, second, e) = subst P (sym e) (h a first)

-- in parentheses
pub parentheses_valid :
    {A B : Type 0} {First : B → Type 0} {Second : A → Type 0} {Third : B → A → Type 0} {y : B} (P : B → Type 0) → ((x : B) → First x → P x)
    → DerivesBoth (λ (a : A) (b : B). b) Second (λ a. DerivesBoth (λ (x : B) (c : A). x) First Third) y → P y
parentheses_valid P h (a, b, first, (x, c, inner, last, d), e) = subst P (sym e) (subst P (sym d) (h x inner))

-- each of them, of which there is one at least
abbrev pub Listed : {A : Type 0} → Trees A → Trees (List A)
Listed P [] = ⊥
Listed P (x ∷ others) = P x × DerivesEach P others

module _ {A : Type 0} (calls : (n : Nonterminal) → Trees (ValueOf n)) (a : Rule A) (P : Trees A) (valid : (x : A) → DerivesBy calls a x → P x) where
  others_valid : (xs : List A) → DerivesEach (DerivesBy calls (sign Comma ▸ a)) xs → DerivesEach P xs
  others_valid [] all = tt
  others_valid (x ∷ others) all = (then_valid P (λ comma b d. valid b d) all.0, others_valid others all.1)

  pub listed_valid : (xs : List A) → DerivesBy calls (listed a) xs → Listed P xs
  listed_valid xs (x, others, first, (ys, each, e), d) = rw (d, e) (valid x first, others_valid ys each)

module _ {A : Type 0} (a : Rule A) (P : Trees A) (print : A → List Written) (First : Rest) (prints : (x : A) → P x → Prints a x (print x) First) where
  others_print : (xs : List A) → DerivesEach P xs → AreFree a print First xs
  others_print [] all = tt
  others_print (x ∷ others) all = ((prints x all.0).free, others_print others all.1)

  pub listed_prints :
      (xs : List A) (Behind : Rest) → Listed P xs → ComesBeforeComma First → ((rest : List PlacedLexeme) → Behind rest → First rest)
      → Prints (listed a) xs (listed_tokens print xs) Behind
  listed_prints [] Behind all comma less = absurd all
  listed_prints (x ∷ others) Behind all comma less =
      record { free = listed_free a print x others First Behind comma less (prints x all.0).free (others_print others all.1) }

-- ---- names

pub names_valid : (calls : (n : Nonterminal) → Trees (ValueOf n)) (xs : List Bytes) → DerivesBy calls names xs → Listed IsNamed xs
unfolding names
names_valid calls xs derived = listed_valid calls name IsNamed (name_named calls) xs derived

pub name_prints : (text : Bytes) (Behind : Rest) → IsNamed text → Prints name text (Name text ∷ []) Behind
name_prints text Behind named = record { free = name_free text Behind named }

pub public_prints : (text : Bytes) (Behind : Rest) → IsNamed text → Prints public_name text (Name text ∷ []) Behind
public_prints text Behind named = record { free = public_free text Behind named }

pub names_print : (xs : List Bytes) (Behind : Rest) → Listed IsNamed xs → Prints names xs (names_tokens xs) Behind
unfolding names
names_print xs Behind all = listed_prints name IsNamed (λ x. Name x ∷ []) Anything (λ x. name_prints x Anything) xs Behind all (λ line rest. tt) (λ rest b. tt)

pub columns_print : (xs : List Bytes) (Behind : Rest) → Listed IsNamed xs → Prints (in_parentheses names) xs (columns_tokens xs) Behind
columns_print xs Behind all = parentheses_print (names_print xs Anything all) (λ line rest. tt)
