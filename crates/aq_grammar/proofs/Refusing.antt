-- A function that refuses tokens, against the list of what is refused.
use Rattle.std.proofs.Common.{◌≡◌, Bool, true, false, List, [], ◌∷◌, ◌++◌, drop, ◌&&◌, ◌||◌, codes, map, if◌then◌else◌, Option, Some, None, Result, Ok, Err, refl, sym, ap, ◌∙◌, subst}
use Rattle.std.specs.List.{list_any}
use Rattle.std.proofs.lemmas.List.Folds.{list_any-append}
use Rattle.aq_base.specs.Names.{Text as Bytes}
use Rattle.aq_lex.specs.declared.token.Symbol.TheVariants.{Dot}
use Rattle.aq_base.specs.declared.fault.SqlFault.{SqlFault}
use Rattle.aq_lex.specs.Lexemes.{PlacedLexeme}
use Rattle.aq_grammar.specs.Terminals.{Terminal, Keyword, Name, NameOf, Sign, begins, begin_with, fits}
use Rattle.aq_grammar.specs.Forms.{refuse, refuse_word, unsupported}
use Rattle.aq_grammar.specs.Statements.{alter_with, enabling, session_words}
use Rattle.aq_grammar.specs.Rules.{Refusal}
use Rattle.aq_grammar.specs.Rules.{refused}
use Rattle.aq_grammar.specs.Reading.{}
use Rattle.aq_grammar.specs.declared.fault.ReadFault.{ReadFault}
use Rattle.aq_grammar.specs.declared.fault.ReadFault.TheVariants.{NoMemory, Syntax, Refused}
use Rattle.aq_grammar.specs.Steps.{IsFaultOr, IsRefusalOf, RefusesSo, alters}

-- a fault is the one that the list tells
pub refuses_as : (refusals : List Refusal) (tokens : List PlacedLexeme) (fault : SqlFault) (found : ReadFault) → refused refusals tokens ≡ Some fault
    → IsFaultOr fault tokens found → RefusesSo refusals (Err found) tokens
unfolding RefusesSo
refuses_as refusals tokens fault NoMemory e h = tt
refuses_as refusals tokens fault (Syntax left) e h = h
refuses_as refusals tokens fault (Refused left said) e (is_left, is_said) = (is_left, e ∙ ap Some (sym is_said))

-- memory ran out
pub refuses_none : (refusals : List Refusal) (tokens : List PlacedLexeme) (found : ReadFault) → found ≡ NoMemory → RefusesSo refusals (Err found) tokens
unfolding RefusesSo
refuses_none refusals tokens found e = subst (λ (f : ReadFault). IsRefusalOf refusals tokens f) (sym e) tt

-- two lists that refuse the same
pub refuses_alike : (a b : List Refusal) (tokens : List PlacedLexeme) (r : Result (Unit {0}) ReadFault) → RefusesSo b r tokens → refused a tokens ≡ refused b tokens
    → RefusesSo a r tokens
unfolding RefusesSo
refuses_alike a b tokens (Ok x) h e = e ∙ h
refuses_alike a b tokens (Err NoMemory) h e = tt
refuses_alike a b tokens (Err (Syntax left)) h e = h
refuses_alike a b tokens (Err (Refused left said)) (is_left, is_said) e = (is_left, e ∙ is_said)

some_first : (is_here : Bool) (here said : SqlFault) (a b : Option SqlFault) → (a ≡ Some said → b ≡ Some said) → (if is_here then Some here else a) ≡ Some said
    → (if is_here then Some here else b) ≡ Some said
some_first true here said a b f e = e
some_first false here said a b f e = f e

none_first : (is_here : Bool) (here : SqlFault) (a b c : Option SqlFault) → (a ≡ None → b ≡ c) → (if is_here then Some here else a) ≡ None → (if is_here then Some here else b) ≡ c
none_first true here a b c f e = absurd cc
none_first false here a b c f e = f e

refused_first : (a b : List Refusal) (tokens : List PlacedLexeme) (fault : SqlFault) → refused a tokens ≡ Some fault → refused (a ++ b) tokens ≡ Some fault
refused_first [] b tokens fault e = absurd cc
refused_first (refusal ∷ a) b tokens fault e =
    some_first (begin_with refusal.words tokens) refusal.fault fault (refused a tokens) (refused (a ++ b) tokens) (refused_first a b tokens fault) e

refused_then : (a b : List Refusal) (tokens : List PlacedLexeme) → refused a tokens ≡ None → refused (a ++ b) tokens ≡ refused b tokens
refused_then [] b tokens e = refl
refused_then (refusal ∷ a) b tokens e =
    none_first (begin_with refusal.words tokens) refusal.fault (refused a tokens) (refused (a ++ b) tokens) (refused b tokens) (refused_then a b tokens) e

-- the first of two lists refuses
pub refuses_first : (a b : List Refusal) (tokens : List PlacedLexeme) (found : ReadFault) → RefusesSo a (Err found) tokens → RefusesSo (a ++ b) (Err found) tokens
unfolding RefusesSo
refuses_first a b tokens NoMemory h = tt
refuses_first a b tokens (Syntax left) h = h
refuses_first a b tokens (Refused left said) (is_left, is_said) = (is_left, refused_first a b tokens said is_said)

-- the first of two lists refuses nothing
pub refuses_then : (a b : List Refusal) (tokens : List PlacedLexeme) (x : Unit {0}) (r : Result (Unit {0}) ReadFault) → RefusesSo a (Ok x) tokens → RefusesSo b r tokens
    → RefusesSo (a ++ b) r tokens
unfolding RefusesSo
refuses_then a b tokens x r none h = refuses_alike (a ++ b) b tokens r h (refused_then a b tokens none)

-- ---- words one after the other

pub begin_both : (kind : Terminal) (kinds : List Terminal) (tokens : List PlacedLexeme)
    → begin_with (kind ∷ kinds) tokens ≡ (begin_with (kind ∷ []) tokens && begin_with kinds (drop 1 tokens))
begin_both kind kinds [] = refl
begin_both kind kinds (token ∷ tokens) = both (fits kind token)
  where
    both : (b : Bool) → (b && begin_with kinds tokens) ≡ ((b && true) && begin_with kinds tokens)
    both true = refl
    both false = refl

-- the first kind is there, and the others stand behind it
pub goes_on_with : (kind : Terminal) (kinds : List Terminal) (tokens rest : List PlacedLexeme) (b first : Bool) → first ≡ begin_with (kind ∷ []) tokens → first ≡ true
    → b ≡ begin_with kinds rest → rest ≡ drop 1 tokens → b ≡ begin_with (kind ∷ kinds) tokens
goes_on_with kind kinds tokens rest b first is_first is_there goes_on is_rest =
    goes_on
    ∙ (ap (λ (r : List PlacedLexeme). begin_with kinds r) is_rest
    ∙ sym (begin_both kind kinds tokens ∙ ap (λ (x : Bool). x && begin_with kinds (drop 1 tokens)) (sym is_first ∙ is_there)))

-- ---- several words with one fault

one_fault : (is_here any : Bool) (fault : SqlFault) (others : Option SqlFault) → others ≡ (if any then Some fault else None)
    → (if is_here then Some fault else others) ≡ if is_here || any then Some fault else None
one_fault true any fault others e = refl
one_fault false any fault others e = e

pub refused_all : (said : Bytes) (all : List (List Terminal)) (tokens : List PlacedLexeme)
    → refused (map (λ words. refuse words said) all) tokens ≡ if list_any (λ words. begin_with words tokens) all then Some (unsupported said) else None
refused_all said [] tokens = refl
refused_all said (words ∷ all) tokens =
    one_fault (begin_with words tokens) (list_any (λ words. begin_with words tokens) all) (unsupported said) _ (refused_all said all tokens)

pub refused_words : (said : Bytes) (texts : List Bytes) (tokens : List PlacedLexeme)
    → refused (map (λ text. refuse_word text said) texts) tokens ≡ if begins (map (λ text. Keyword text) texts) tokens then Some (unsupported said) else None
refused_words said [] [] = refl
refused_words said (text ∷ texts) [] = refused_words said texts []
refused_words said [] (token ∷ tokens) = refl
refused_words said (text ∷ texts) (token ∷ tokens) =
    ap (λ (b : Bool). if b then Some (unsupported said) else refused (map (λ text. refuse_word text said) texts) (token ∷ tokens)) (all_of (fits (Keyword text) token))
    ∙ one_fault (fits (Keyword text) token) (begins (map (λ text. Keyword text) texts) (token ∷ tokens)) (unsupported said) _ (refused_words said texts (token ∷ tokens))
  where
    all_of : (b : Bool) → (b && true) ≡ b
    all_of true = refl
    all_of false = refl

-- ---- ALTER TABLE

four_ways : (p q a b only c d : Bool)
    → ((p && (q && a)) || ((p && (q && b)) || ((p && (q && (only && c))) || ((p && (q && (only && d))) || false)))) ≡ ((p && (q && true)) && ((a || b) || ((only && true) && (c || d))))
four_ways false q a b only c d = refl
four_ways true false a b only c d = refl
four_ways true true true b only c d = refl
four_ways true true false true only c d = refl
four_ways true true false false false c d = refl
four_ways true true false false true true d = refl
four_ways true true false false true false true = refl
four_ways true true false false true false false = refl

pub alters_is : (last : Bytes) (tokens : List PlacedLexeme) → list_any (λ words. begin_with words tokens) (alter_with last) ≡ alters last tokens
alters_is last [] = refl
alters_is last (first ∷ []) = four_ways (fits (Keyword (codes "alter")) first) false false false false false false
alters_is last (first ∷ second ∷ []) = four_ways (fits (Keyword (codes "alter")) first) (fits (Keyword (codes "table")) second) false false false false false
alters_is last (first ∷ second ∷ third ∷ tokens) =
    four_ways (fits (Keyword (codes "alter")) first) (fits (Keyword (codes "table")) second) (begin_with (Name ∷ Keyword last ∷ []) (third ∷ tokens))
    (begin_with (NameOf (codes "public") ∷ Sign Dot ∷ Name ∷ Keyword last ∷ []) (third ∷ tokens)) (fits (Keyword (codes "only")) third)
    (begin_with (Name ∷ Keyword last ∷ []) tokens) (begin_with (NameOf (codes "public") ∷ Sign Dot ∷ Name ∷ Keyword last ∷ []) tokens)

-- several words with one fault, one of which begins the tokens
pub refuses_found : (refusals : List Refusal) (tokens : List PlacedLexeme) (fault : SqlFault) (b : Bool) (found : ReadFault)
    → refused refusals tokens ≡ (if b then Some fault else None) → b ≡ true → IsFaultOr fault tokens found → RefusesSo refusals (Err found) tokens
refuses_found refusals tokens fault b found e is_there h =
    refuses_as refusals tokens fault found (e ∙ ap (λ (x : Bool). if x then Some fault else None) is_there) h

-- and none of which begins them
pub refuses_nothing : (refusals : List Refusal) (tokens : List PlacedLexeme) (fault : SqlFault) (b : Bool)
    → refused refusals tokens ≡ (if b then Some fault else None) → b ≡ false → RefusesSo refusals (Ok tt) tokens
unfolding RefusesSo
refuses_nothing refusals tokens fault b e is_none = e ∙ ap (λ (x : Bool). if x then Some fault else None) is_none

-- ---- what is refused in setup

abbrev pub enabling_said : Bytes
enabling_said = codes "enabling and disabling triggers is not supported"

pub enabling_is : (tokens : List PlacedLexeme) (b : Bool) → b ≡ (alters (codes "enable") tokens || alters (codes "disable") tokens)
    → refused enabling tokens ≡ if b then Some (unsupported enabling_said) else None
enabling_is tokens b e =
    refused_all enabling_said (alter_with (codes "enable") ++ alter_with (codes "disable")) tokens
    ∙ ap (λ (x : Bool). if x then Some (unsupported enabling_said) else None)
    (list_any-append (λ (words : List Terminal). begin_with words tokens) (alter_with (codes "enable")) (alter_with (codes "disable"))
    ∙ (ap (λ (x : Bool). x || list_any (λ words. begin_with words tokens) (alter_with (codes "disable"))) (alters_is (codes "enable") tokens)
    ∙ (ap (λ (x : Bool). alters (codes "enable") tokens || x) (alters_is (codes "disable") tokens) ∙ sym e)))

abbrev pub data_said : Bytes
data_said = codes "data statements in setup are not supported"

abbrev pub data_refused : List Refusal
data_refused = map (λ text. refuse_word text data_said) session_words

pub data_is : (tokens : List PlacedLexeme) (b : Bool) → b ≡ begins (map (λ text. Keyword text) session_words) tokens
    → refused data_refused tokens ≡ if b then Some (unsupported data_said) else None
data_is tokens b e = refused_words data_said session_words tokens ∙ ap (λ (x : Bool). if x then Some (unsupported data_said) else None) (sym e)
