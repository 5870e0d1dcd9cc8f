-- Rules that are put together from others, and the rules of names.
use Rattle.std.specs.Prelude.{List, [], ◌∷◌, Option, Some, None, codes}
use Rattle.aq_base.specs.Names.{Text as Bytes}
use Rattle.aq_base.specs.declared.fault.SqlFault.{SqlFault}
use Rattle.aq_lex.specs.declared.token.Symbol.{Symbol}
use Rattle.aq_lex.specs.declared.token.Symbol.TheVariants.{OpenParen, CloseParen, Comma, Dot}
use Rattle.aq_grammar.specs.Terminals.{Terminal, Keyword, Name, NameOf, NameBut, Sign, text_of}
use Rattle.aq_grammar.specs.Rules.{Rule, Refusal, Done, Token, Both, Either, Many}

abbrev pub word : Bytes → Rule (Unit {0})
word text = Token (Keyword text) (λ token. tt)

abbrev pub sign : Symbol → Rule (Unit {0})
sign symbol = Token (Sign symbol) (λ token. tt)

-- the one and then the other, which alone has a meaning
infixr 10 ◌▸◌
abbrev pub ◌▸◌ : {A B : Type 0} → Rule A → Rule B → Rule B
a ▸ b = Both (λ x y. y) a b

-- the one, which alone has a meaning, and then the other
infixl 11 ◌◂◌
abbrev pub ◌◂◌ : {A B : Type 0} → Rule A → Rule B → Rule A
a ◂ b = Both (λ x y. x) a b

abbrev pub mapped : {A B : Type 0} → (A → B) → Rule A → Rule B
mapped f a = Both (λ x (y : Unit {0}). f x) a (Done tt)

-- nothing
abbrev pub nothing : Rule (Unit {0})
nothing = Done tt

-- a word that says something by itself
abbrev pub says : {A : Type 0} → Bytes → A → Rule A
says text x = Token (Keyword text) (λ token. x)

-- it may be left out
abbrev pub optional : {A : Type 0} → List Terminal → Rule A → Rule (Option A)
optional kinds a = Either kinds (mapped Some a) (Done None)

-- at least one, with commas between them
abbrev pub listed : {A : Type 0} → Rule A → Rule (List A)
listed a = Both (λ x others. x ∷ others) a (Many (Sign Comma ∷ []) [] (λ others. others) (sign Comma ▸ a))

abbrev pub in_parentheses : {A : Type 0} → Rule A → Rule A
in_parentheses a = sign OpenParen ▸ (a ◂ sign CloseParen)

unfoldable pub name : Rule Bytes
name = Token Name text_of

unfoldable pub names : Rule (List Bytes)
names = listed name

abbrev pub last_name : Bytes → Option Bytes → Bytes
last_name first None = first
last_name first (Some second) = second

-- `public.` may stand before the name of a table, a function or a constraint
unfoldable pub public_name : Rule Bytes
public_name =
    Either (NameOf (codes "public") ∷ []) (Both last_name (Token (NameOf (codes "public")) text_of) (optional (Sign Dot ∷ []) (sign Dot ▸ name)))
    (Token (NameBut (codes "public")) text_of)

-- form: `0A000 TEXT`
abbrev pub unsupported : Bytes → SqlFault
unsupported text = record { code = record { 0 = codes "0A000" }; text = text; detail = None }

abbrev pub limit : Bytes → SqlFault
limit text = record { code = record { 0 = codes "54000" }; text = text; detail = None }

-- words of a form that is not supported
abbrev pub refuse : List Terminal → Bytes → Refusal
refuse words text = record { words = words; fault = unsupported text }

abbrev pub refuse_word : Bytes → Bytes → Refusal
refuse_word text said = refuse (Keyword text ∷ []) said
