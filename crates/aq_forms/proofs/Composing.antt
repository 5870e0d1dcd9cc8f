-- How the parts of a rule are put together, as in Combining, where the rule stands in the type, so that antt finds it.
use Rattle.std.proofs.Common.{◌≡◌, ℕ, true, false, refl, Bool, ◌&&◌, List, [], ◌∷◌, ◌++◌, map, Some, None}
use Rattle.std.proofs.lemmas.Bool.{and_parts}
use Rattle.std.specs.Char.{to_ascii_lowercase}
use Rattle.aq_base.specs.Names.{Text as Bytes, same_text}
use Rattle.aq_lex.specs.declared.token.Symbol.{Symbol as SymbolName}
use Rattle.aq_lex.specs.Lexemes.{PlacedLexeme, Symbol}
use Rattle.aq_lex.specs.declared.token.Symbol.TheVariants.{OpenParen, CloseParen, Semicolon}
use Rattle.aq_grammar.specs.Terminals.{Terminal, same_symbol}
use Rattle.aq_grammar.specs.Rules.{Refusal, Rule, Done, Both, Either, Unless}
use Rattle.aq_grammar.specs.Forms.{word, ◌▸◌, mapped, says, optional, in_parentheses}
use Rattle.aq_grammar.specs.Changes.{end_without}
use Rattle.aq_texts.specs.Written.{Written, Said, in_parentheses as in_parentheses_tokens}
use Rattle.aq_forms.proofs.Sound.{is_folded_word}
use Rattle.aq_forms.proofs.Combining.{IsFree, Anything, Nothing_refused, MayFollow, Semicolon_next, done_free, says_free, both_free, behind_word, mapped_free, left_free, right_free, some_free, none_free, unless_free, end_free, weaker, parentheses_free}

-- what a rule says may come behind
abbrev pub Rest : Type 1
Rest = List PlacedLexeme → Type 0

-- the printed tokens spell the tree freely
pub record Prints {A : Type 0} (r : Rule A) (x : A) (tokens : List Written) (Behind : Rest) : Type 0 where
  pub free : IsFree r x tokens Behind

-- the word is printed in upper case or as it is
abbrev pub prints_word : Bytes → Bytes → Bool
prints_word printed text = is_folded_word (map to_ascii_lowercase printed) && same_text (map to_ascii_lowercase printed) text

pub nothing_prints : {A : Type 0} {x : A} {Behind : Rest} → Prints (Done x) x [] Behind
nothing_prints {x = x} {Behind = Behind} = record { free = done_free x Behind }

pub says_prints : {A : Type 0} {printed text : Bytes} {x : A} {Behind : Rest} → prints_word printed text ≡ true → Prints (says text x) x (Said printed ∷ []) Behind
says_prints {printed = printed} {text = text} {x = x} {Behind = Behind} e =
    let both = and_parts (is_folded_word (map to_ascii_lowercase printed)) (same_text (map to_ascii_lowercase printed) text) e in
    record { free = says_free printed text x Behind both.0 both.1 }

pub word_then :
    {B : Type 0} {printed text : Bytes} {b : Rule B} {y : B} {vs : List Written} {Behind : Rest} → prints_word printed text ≡ true → Prints b y vs Behind
    → Prints (word text ▸ b) y (Said printed ∷ vs) Behind
word_then {printed = printed} {text = text} {b = b} {y = y} {vs = vs} {Behind = Behind} e second =
    let both = and_parts (is_folded_word (map to_ascii_lowercase printed)) (same_text (map to_ascii_lowercase printed) text) e in
    record { free = behind_word printed text b y vs Behind both.0 both.1 second.free }

pub both_print :
    {A B C : Type 0} {f : A → B → C} {a : Rule A} {b : Rule B} {x : A} {y : B} {ws vs : List Written} {First Behind : Rest} → Prints a x ws First → Prints b y vs Behind
    → MayFollow vs Behind First → Prints (Both f a b) (f x y) (ws ++ vs) Behind
both_print {f = f} {a = a} {b = b} {x = x} {y = y} {ws = ws} {vs = vs} {First = First} {Behind = Behind} first second follows =
    record { free = both_free f a b x y ws vs First Behind first.free second.free follows }

-- the same where anything may come behind the first
pub both_print_any :
    {A B C : Type 0} {f : A → B → C} {a : Rule A} {b : Rule B} {x : A} {y : B} {ws vs : List Written} {Behind : Rest} → Prints a x ws Anything → Prints b y vs Behind
    → Prints (Both f a b) (f x y) (ws ++ vs) Behind
both_print_any first second = both_print first second (λ lines at rest b. tt)

pub mapped_prints : {A B : Type 0} {f : A → B} {a : Rule A} {x : A} {ws : List Written} {Behind : Rest} → Prints a x ws Behind → Prints (mapped f a) (f x) ws Behind
mapped_prints {f = f} {a = a} {x = x} {ws = ws} {Behind = Behind} first = record { free = mapped_free f a x ws Behind first.free }

pub left_prints : {A : Type 0} {kinds : List Terminal} {a b : Rule A} {x : A} {ws : List Written} {Behind : Rest} → Prints a x ws Behind → Prints (Either kinds a b) x ws Behind
left_prints {kinds = kinds} {a = a} {b = b} {x = x} {ws = ws} {Behind = Behind} first = record { free = left_free kinds a b x ws Behind first.free }

pub right_prints : {A : Type 0} {kinds : List Terminal} {a b : Rule A} {x : A} {ws : List Written} {Behind : Rest} → Prints b x ws Behind → Prints (Either kinds a b) x ws Behind
right_prints {kinds = kinds} {a = a} {b = b} {x = x} {ws = ws} {Behind = Behind} second = record { free = right_free kinds a b x ws Behind second.free }

pub some_prints : {A : Type 0} {kinds : List Terminal} {a : Rule A} {x : A} {ws : List Written} {Behind : Rest} → Prints a x ws Behind → Prints (optional kinds a) (Some x) ws Behind
some_prints {kinds = kinds} {a = a} {x = x} {ws = ws} {Behind = Behind} first = record { free = some_free kinds a x ws Behind first.free }

pub none_prints : {A : Type 0} {kinds : List Terminal} {a : Rule A} {Behind : Rest} → Prints (optional kinds a) None [] Behind
none_prints {kinds = kinds} {a = a} {Behind = Behind} = record { free = none_free kinds a Behind }

pub unless_prints :
    {A : Type 0} {refusals : List Refusal} {a : Rule A} {x : A} {ws : List Written} {Behind : Rest} → Prints a x ws Behind → MayFollow ws Behind (Nothing_refused refusals)
    → Prints (Unless refusals a) x ws Behind
unless_prints {refusals = refusals} {a = a} {x = x} {ws = ws} {Behind = Behind} first none = record { free = unless_free refusals a x ws Behind first.free none }

-- what may come behind less may come behind it
pub prints_before :
    {A : Type 0} {a : Rule A} {x : A} {ws : List Written} {First Behind : Rest} → Prints a x ws First → ((rest : List PlacedLexeme) → Behind rest → First rest) → Prints a x ws Behind
prints_before {a = a} {x = x} {ws = ws} {First = First} {Behind = Behind} first less = record { free = weaker a x ws First Behind less first.free }

-- a whole form behind which words are refused
pub end_prints :
    {A : Type 0} {refusals : List Refusal} {a : Rule A} {x : A} {ws : List Written} {Behind : Rest} → Prints a x ws Behind
    → ((rest : List PlacedLexeme) → Behind rest → Nothing_refused refusals rest) → Prints (end_without refusals a) x ws Behind
end_prints {refusals = refusals} {a = a} {x = x} {ws = ws} {Behind = Behind} first none =
    record { free = weaker (end_without refusals a) x ws (λ rest. Behind rest × Nothing_refused refusals rest) Behind (λ rest b. (b, none rest b)) (end_free refusals a x ws Behind first.free) }

pub parentheses_print :
    {A : Type 0} {a : Rule A} {x : A} {ws : List Written} {First Behind : Rest} → Prints a x ws First
    → ((line : ℕ) (rest : List PlacedLexeme) → First (record { line = line; lexeme = Symbol CloseParen } ∷ rest))
    → Prints (in_parentheses a) x (in_parentheses_tokens ws) Behind
parentheses_print {a = a} {x = x} {ws = ws} {First = First} {Behind = Behind} first close = record { free = parentheses_free a x ws First Behind close first.free }

-- other tokens, which are equal
pub prints_as : {A : Type 0} {a : Rule A} {x : A} {ws vs : List Written} {Behind : Rest} → Prints a x ws Behind → vs ≡ ws → Prints a x vs Behind
prints_as {a = a} {x = x} {ws = ws} {vs = vs} {Behind = Behind} first e = rw e first

-- a symbol but `(`, which none of the refused words is
abbrev pub Symbol_next : Rest
Symbol_next rest =
    (line : ℕ) × (symbol : SymbolName) × (others : List PlacedLexeme) × (rest ≡ record { line = line; lexeme = Symbol symbol } ∷ others)
    × (same_symbol symbol OpenParen ≡ false)

pub semicolon_is_symbol : (rest : List PlacedLexeme) → Semicolon_next rest → Symbol_next rest
semicolon_is_symbol rest (line, others, e) = (line, Semicolon, others, e, refl)

-- what holds where any symbol but `(` comes behind
pub before_symbol :
    (P : Rest) → ((line : ℕ) (symbol : SymbolName) (others : List PlacedLexeme) → same_symbol symbol OpenParen ≡ false → P (record { line = line; lexeme = Symbol symbol } ∷ others))
    → (rest : List PlacedLexeme) → Symbol_next rest → P rest
before_symbol P h rest (line, symbol, others, e, apart) = rw e (h line symbol others apart)
