-- Each tree of a rule is printed freely: how this is shown for a rule that is put together from others.
use Rattle.std.proofs.Common.{◌≡◌, ℕ, true, List, [], ◌∷◌, ◌++◌, map, None, inl, inr, sym, ◌∙◌, subst}
use Rattle.std.specs.Char.{to_ascii_lowercase}
use Rattle.aq_base.specs.Names.{Text as Bytes, same_text}
use Rattle.aq_lex.specs.declared.token.Symbol.{Symbol as SymbolName}
use Rattle.aq_lex.specs.declared.token.Symbol.TheVariants.{Comma, Semicolon}
use Rattle.aq_lex.specs.Lexemes.{PlacedLexeme, Symbol}
use Rattle.aq_grammar.specs.Terminals.{Terminal}
use Rattle.aq_grammar.specs.Rules.{Refusal, Rule, Both, Either, Unless, refused}
use Rattle.aq_grammar.specs.Forms.{word, sign, ◌▸◌, mapped, says, optional, listed, in_parentheses, name, names, public_name}
use Rattle.aq_grammar.specs.Changes.{end_without}
use Rattle.aq_texts.specs.Written.{Written, Said, Mark, Name, listed as listed_tokens, in_parentheses as in_parentheses_tokens, names as names_tokens}
use Rattle.aq_texts.specs.Canon.{perhaps}
use Rattle.aq_forms.proofs.Sound.{is_folded_word}
use Rattle.aq_forms.proofs.Derived.{DerivesEach, DerivesSome, Derives}
use Rattle.aq_forms.proofs.Combining.{IsFree, Anything, Semicolon_next, Nothing_refused, MayFollow, AreFree, both_any, then_free, says_free, word_free, mark_free, behind_word, mapped_free, left_free, right_free, some_free, none_free, unless_free, end_free, weaker, listed_any, parentheses_any}
use Rattle.aq_forms.proofs.Names.{name_named, name_free, public_named, public_free}

-- each tree of the rule is printed freely, where such tokens come behind
abbrev pub Prints : {A : Type 0} → Rule A → (A → List Written) → (List PlacedLexeme → Type 0) → Type 0
Prints {A} r print Behind = (x : A) → Derives r x → IsFree r x (print x) Behind

-- the same tokens, told in another way
pub prints_as : {A : Type 0} (r : Rule A) (print other : A → List Written) (Behind : List PlacedLexeme → Type 0) → ((x : A) → print x ≡ other x) → Prints r print Behind
    → Prints r other Behind
prints_as r print other Behind same all x derived = subst (λ (tokens : List Written). IsFree r x tokens Behind) (same x) (all x derived)

-- a word that says something
pub prints_says :
    {A : Type 0} (printed text : Bytes) (y : A) (print : A → List Written) (Behind : List PlacedLexeme → Type 0) → is_folded_word (map to_ascii_lowercase printed) ≡ true
    → same_text (map to_ascii_lowercase printed) text ≡ true → print y ≡ Said printed ∷ [] → Prints (says text y) print Behind
prints_says printed text y print Behind folded same is x (token, fit, sound, e) =
    subst (λ (z : _). IsFree (says text y) z (print z) Behind) (sym e)
    (subst (λ (tokens : List Written). IsFree (says text y) y tokens Behind) (sym is) (says_free printed text y Behind folded same))

-- a part that is always printed in one way, and says nothing
pub prints_then :
    {A B : Type 0} (a : Rule A) (b : Rule B) (x : A) (ws : List Written) (print : B → List Written) (Behind : List PlacedLexeme → Type 0) → IsFree a x ws Anything
    → Prints b print Behind → Prints (a ▸ b) (λ y. ws ++ print y) Behind
prints_then a b x ws print Behind first second y (found, z, _, derived, e) =
    subst (λ (z : _). IsFree (a ▸ b) z (ws ++ print z) Behind) (sym e) (then_free a b x z ws (print z) Behind first (second z derived))

pub prints_word :
    {B : Type 0} (printed text : Bytes) (b : Rule B) (print : B → List Written) (Behind : List PlacedLexeme → Type 0) → is_folded_word (map to_ascii_lowercase printed) ≡ true
    → same_text (map to_ascii_lowercase printed) text ≡ true → Prints b print Behind → Prints (word text ▸ b) (λ y. Said printed ∷ print y) Behind
prints_word printed text b print Behind folded same second =
    prints_then (word text) b tt (Said printed ∷ []) print Behind (word_free printed text Anything folded same) second

pub prints_sign : (symbol : SymbolName) (Behind : List PlacedLexeme → Type 0) → Prints (sign symbol) (λ u. Mark symbol ∷ []) Behind
prints_sign symbol Behind u derived = mark_free symbol Behind

pub prints_mark : {B : Type 0} (symbol : SymbolName) (b : Rule B) (print : B → List Written) (Behind : List PlacedLexeme → Type 0) → Prints b print Behind
    → Prints (sign symbol ▸ b) (λ y. Mark symbol ∷ print y) Behind
prints_mark symbol b print Behind second = prints_then (sign symbol) b tt (Mark symbol ∷ []) print Behind (mark_free symbol Anything) second

-- the one and then the other
pub prints_both :
    {A B C : Type 0} (f : A → B → C) (a : Rule A) (b : Rule B) (first : A → List Written) (second : B → List Written) (print : C → List Written) (Behind : List PlacedLexeme → Type 0)
    → ((x : A) (y : B) → print (f x y) ≡ first x ++ second y) → Prints a first Anything → Prints b second Behind → Prints (Both f a b) print Behind
prints_both f a b first second print Behind is one other z (x, y, derived, behind, e) =
    subst (λ (z : _). IsFree (Both f a b) z (print z) Behind) (sym e)
    (subst (λ (tokens : List Written). IsFree (Both f a b) (f x y) tokens Behind) (sym (is x y))
    (both_any f a b x y (first x) (second y) Behind (one x derived) (other y behind)))

pub prints_mapped :
    {A B : Type 0} (f : A → B) (a : Rule A) (first : A → List Written) (print : B → List Written) (Behind : List PlacedLexeme → Type 0) → ((x : A) → print (f x) ≡ first x)
    → Prints a first Behind → Prints (mapped f a) print Behind
prints_mapped f a first print Behind is all z (x, u, derived, _, e) =
    subst (λ (z : _). IsFree (mapped f a) z (print z) Behind) (sym e)
    (subst (λ (tokens : List Written). IsFree (mapped f a) (f x) tokens Behind) (sym (is x)) (mapped_free f a x (first x) Behind (all x derived)))

-- the same behind a word, where a tree of other forms would be printed with another word
pub prints_word_both :
    {A B C : Type 0} (printed text : Bytes) (f : A → B → C) (a : Rule A) (b : Rule B) (first : A → List Written) (second : B → List Written) (print : C → List Written)
    (Behind : List PlacedLexeme → Type 0) → is_folded_word (map to_ascii_lowercase printed) ≡ true → same_text (map to_ascii_lowercase printed) text ≡ true
    → ((x : A) (y : B) → print (f x y) ≡ Said printed ∷ (first x ++ second y)) → Prints a first Anything → Prints b second Behind
    → Prints (word text ▸ Both f a b) print Behind
prints_word_both printed text f a b first second print Behind folded same is one other z (_, found, _, (x, y, derived, behind, d), e) =
    subst (λ (z : _). IsFree (word text ▸ Both f a b) z (print z) Behind) (sym (e ∙ d))
    (subst (λ (tokens : List Written). IsFree (word text ▸ Both f a b) (f x y) tokens Behind) (sym (is x y))
    (behind_word printed text (Both f a b) (f x y) (first x ++ second y) Behind folded same
    (both_any f a b x y (first x) (second y) Behind (one x derived) (other y behind))))

pub prints_word_mapped :
    {A B : Type 0} (printed text : Bytes) (f : A → B) (a : Rule A) (first : A → List Written) (print : B → List Written) (Behind : List PlacedLexeme → Type 0)
    → is_folded_word (map to_ascii_lowercase printed) ≡ true → same_text (map to_ascii_lowercase printed) text ≡ true → ((x : A) → print (f x) ≡ Said printed ∷ first x)
    → Prints a first Behind → Prints (word text ▸ mapped f a) print Behind
prints_word_mapped printed text f a first print Behind folded same is all z (_, found, _, (x, _, derived, _, d), e) =
    subst (λ (z : _). IsFree (word text ▸ mapped f a) z (print z) Behind) (sym (e ∙ d))
    (subst (λ (tokens : List Written). IsFree (word text ▸ mapped f a) (f x) tokens Behind) (sym (is x))
    (behind_word printed text (mapped f a) (f x) (first x) Behind folded same (mapped_free f a x (first x) Behind (all x derived))))

pub prints_either :
    {A : Type 0} (kinds : List Terminal) (a b : Rule A) (print : A → List Written) (Behind : List PlacedLexeme → Type 0) → Prints a print Behind → Prints b print Behind
    → Prints (Either kinds a b) print Behind
prints_either kinds a b print Behind one other x (inl derived) = left_free kinds a b x (print x) Behind (one x derived)
prints_either kinds a b print Behind one other x (inr derived) = right_free kinds a b x (print x) Behind (other x derived)

pub prints_optional : {A : Type 0} (kinds : List Terminal) (a : Rule A) (print : A → List Written) (Behind : List PlacedLexeme → Type 0) → Prints a print Behind
    → Prints (optional kinds a) (perhaps print) Behind
prints_optional kinds a print Behind all z (inl (x, u, derived, _, e)) =
    subst (λ (z : _). IsFree (optional kinds a) z (perhaps print z) Behind) (sym e) (some_free kinds a x (print x) Behind (all x derived))
prints_optional kinds a print Behind all z (inr e) =
    subst (λ (z : _). IsFree (optional kinds a) z (perhaps print z) Behind) (sym e) (none_free kinds a Behind)

pub prints_unless :
    {A : Type 0} (refusals : List Refusal) (a : Rule A) (print : A → List Written) (Behind : List PlacedLexeme → Type 0)
    → ((x : A) → MayFollow (print x) Behind (Nothing_refused refusals)) → Prints a print Behind → Prints (Unless refusals a) print Behind
prints_unless refusals a print Behind none all x derived = unless_free refusals a x (print x) Behind (all x derived) (none x)

-- a whole form behind which words are refused
pub prints_end :
    {A : Type 0} (refusals : List Refusal) (a : Rule A) (print : A → List Written) (Behind : List PlacedLexeme → Type 0)
    → ((rest : List PlacedLexeme) → Behind rest → Nothing_refused refusals rest) → Prints a print Behind → Prints (end_without refusals a) print Behind
prints_end refusals a print Behind none all z (x, u, derived, _, e) =
    subst (λ (z : _). IsFree (end_without refusals a) z (print z) Behind) (sym e)
    (weaker (end_without refusals a) x (print x) (λ rest. Behind rest × Nothing_refused refusals rest) Behind (λ rest behind. (behind, none rest behind))
    (end_free refusals a x (print x) Behind (all x derived)))

-- no words are refused at a `;`
pub semicolon_next :
    (refusals : List Refusal) → ((line : ℕ) (others : List PlacedLexeme) → refused refusals (record { line = line; lexeme = Symbol Semicolon } ∷ others) ≡ None)
    → (rest : List PlacedLexeme) → Semicolon_next rest → Nothing_refused refusals rest
semicolon_next refusals none rest (line, others, e) = subst (Nothing_refused refusals) (sym e) (none line others)

-- ---- lists

pub each_prints : {A : Type 0} (a : Rule A) (print : A → List Written) (First : List PlacedLexeme → Type 0) → Prints a print First
    → (xs : List A) → DerivesEach (Derives a) xs → AreFree a print First xs
each_prints a print First all [] derived = tt
each_prints a print First all (x ∷ others) derived = (all x derived.0, each_prints a print First all others derived.1)

-- what a comma is before has the trees that it has alone
behind_commas : {A : Type 0} (a : Rule A) (xs : List A) → DerivesEach (Derives (sign Comma ▸ a)) xs → DerivesEach (Derives a) xs
behind_commas a [] derived = tt
behind_commas a (x ∷ others) ((u, y, _, found, e), derived) = (subst (Derives a) (sym e) found, behind_commas a others derived)

pub prints_listed : {A : Type 0} (a : Rule A) (print : A → List Written) (Behind : List PlacedLexeme → Type 0) → Prints a print Anything
    → Prints (listed a) (listed_tokens print) Behind
prints_listed a print Behind all z (x, others, derived, (found, each, same), e) =
    subst (λ (z : _). IsFree (listed a) z (listed_tokens print z) Behind) (sym e)
    (listed_any a print x others Behind (all x derived)
    (each_prints a print Anything all others (subst (DerivesEach (Derives a)) (sym same) (behind_commas a found each))))

pub prints_parentheses : {A : Type 0} (a : Rule A) (print : A → List Written) (Behind : List PlacedLexeme → Type 0) → Prints a print Anything
    → Prints (in_parentheses a) (λ x. in_parentheses_tokens (print x)) Behind
prints_parentheses a print Behind all z (u, y, _, (x, v, derived, _, same), e) =
    subst (λ (z : _). IsFree (in_parentheses a) z (in_parentheses_tokens (print z)) Behind) (sym e)
    (subst (λ (z : _). IsFree (in_parentheses a) z (in_parentheses_tokens (print z)) Behind) (sym same)
    (parentheses_any a x (print x) Behind (all x derived)))

-- ---- names

abbrev pub name_tokens : Bytes → List Written
name_tokens text = Name text ∷ []

pub prints_name : (Behind : List PlacedLexeme → Type 0) → Prints name name_tokens Behind
prints_name Behind text derived = name_free text Behind (name_named DerivesSome text derived)

pub prints_public_name : (Behind : List PlacedLexeme → Type 0) → Prints public_name name_tokens Behind
prints_public_name Behind text derived = public_free text Behind (public_named DerivesSome text derived)

pub prints_names : (Behind : List PlacedLexeme → Type 0) → Prints names names_tokens Behind
unfolding names
prints_names Behind = prints_listed name name_tokens Behind (prints_name Anything)
