-- How the parts of a rule are put together: printed tokens that spell a tree freely.
use Rattle.std.proofs.Common.{◌≡◌, ℕ, suc, true, List, [], ◌∷◌, ◌++◌, map, Some, None, inl, inr, refl, sym, ap, subst, flat_map}
use Rattle.std.proofs.lemmas.List.{append-nil}
use Rattle.std.specs.Char.{to_ascii_lowercase}
use Rattle.aq_base.specs.Names.{Text as Bytes, same_text}
use Rattle.aq_base.specs.declared.fault.SqlFault.{SqlFault}
use Rattle.aq_lex.specs.declared.token.Symbol.{Symbol as SymbolName}
use Rattle.aq_lex.specs.declared.token.Symbol.TheVariants.{OpenParen, CloseParen, Comma, Semicolon, Dot, Plus, Minus, Times, Equal, Unequal, Less, AtMost, Greater, AtLeast, DollarQuote}
use Rattle.aq_lex.specs.Lexemes.{PlacedLexeme, Symbol}
use Rattle.aq_grammar.specs.Terminals.{Terminal, Keyword, Sign as Mark_kind, fits, same_symbol}
use Rattle.aq_grammar.specs.Rules.{Refusal, Rule, Done, Token, Both, Either, Many, Unless, Limited, refused}
use Rattle.aq_grammar.specs.Forms.{word, sign, ◌▸◌, ◌◂◌, mapped, says, optional, listed, in_parentheses}
use Rattle.aq_grammar.specs.Changes.{end_without}
use Rattle.aq_texts.specs.Written.{Written, Said, Mark, Sign, Call, listed as listed_tokens, in_parentheses as in_parentheses_tokens}
use Rattle.aq_forms.proofs.Sound.{is_folded_word, IsSound}
use Rattle.aq_forms.proofs.Laid.{lexeme_of, laid, past, laid_append}
use Rattle.aq_forms.proofs.Free.{IsLimit, FreeEach, Free}

-- the printed tokens spell the tree freely, on any lines, where such tokens come behind
abbrev pub IsFree : {A : Type 0} → Rule A → A → List Written → (List PlacedLexeme → Type 0) → Type 0
IsFree r x tokens Behind = (lines : ℕ → ℕ) (at : ℕ) (rest : List PlacedLexeme) → Behind rest → Free r x (laid lines at tokens) rest

abbrev pub Anything : List PlacedLexeme → Type 0
Anything rest = Unit {0}

-- a `;`, as behind each statement
abbrev pub Semicolon_next : List PlacedLexeme → Type 0
Semicolon_next rest = (line : ℕ) × (others : List PlacedLexeme) × (rest ≡ record { line = line; lexeme = Symbol Semicolon } ∷ others)

-- none of the refused words
abbrev pub Nothing_refused : List Refusal → List PlacedLexeme → Type 0
Nothing_refused refusals rest = refused refusals rest ≡ None

-- the printed tokens, with others behind them, may come behind something
abbrev pub MayFollow : List Written → (List PlacedLexeme → Type 0) → (List PlacedLexeme → Type 0) → Type 0
MayFollow tokens Behind First = (lines : ℕ → ℕ) (at : ℕ) (rest : List PlacedLexeme) → Behind rest → First (laid lines at tokens ++ rest)

pub done_free : {A : Type 0} (x : A) (Behind : List PlacedLexeme → Type 0) → IsFree (Done x) x [] Behind
done_free x Behind lines at rest b = (refl, refl)

-- a token of a kind, whatever its line
pub token_free :
    {A : Type 0} (kind : Terminal) (f : PlacedLexeme → A) (token : Written) (x : A) (Behind : List PlacedLexeme → Type 0)
    → ((line : ℕ) → fits kind (record { line = line; lexeme = lexeme_of token }) ≡ true) → IsSound (lexeme_of token)
    → ((line : ℕ) → x ≡ f (record { line = line; lexeme = lexeme_of token })) → IsFree (Token kind f) x (token ∷ []) Behind
token_free kind f token x Behind fit sound is lines at rest b = (record { line = lines at; lexeme = lexeme_of token }, fit (lines at), sound, is (lines at), refl)

-- a word, printed in upper case or as it is
pub says_free :
    {A : Type 0} (printed text : Bytes) (x : A) (Behind : List PlacedLexeme → Type 0) → is_folded_word (map to_ascii_lowercase printed) ≡ true
    → same_text (map to_ascii_lowercase printed) text ≡ true → IsFree (says text x) x (Said printed ∷ []) Behind
says_free printed text x Behind folded same = token_free (Keyword text) (λ token. x) (Said printed) x Behind (λ line. same) folded (λ line. refl)

pub word_free :
    (printed text : Bytes) (Behind : List PlacedLexeme → Type 0) → is_folded_word (map to_ascii_lowercase printed) ≡ true
    → same_text (map to_ascii_lowercase printed) text ≡ true → IsFree (word text) tt (Said printed ∷ []) Behind
word_free printed text Behind folded same = token_free (Keyword text) (λ token. tt) (Said printed) tt Behind (λ line. same) folded (λ line. refl)

pub same_symbol_itself : (symbol : SymbolName) → same_symbol symbol symbol ≡ true
same_symbol_itself OpenParen = refl
same_symbol_itself CloseParen = refl
same_symbol_itself Comma = refl
same_symbol_itself Semicolon = refl
same_symbol_itself Dot = refl
same_symbol_itself Plus = refl
same_symbol_itself Minus = refl
same_symbol_itself Times = refl
same_symbol_itself Equal = refl
same_symbol_itself Unequal = refl
same_symbol_itself Less = refl
same_symbol_itself AtMost = refl
same_symbol_itself Greater = refl
same_symbol_itself AtLeast = refl
same_symbol_itself DollarQuote = refl

-- a token that is printed as a symbol, whatever else it is
pub symbol_free :
    {A : Type 0} (symbol : SymbolName) (token : Written) (x : A) (Behind : List PlacedLexeme → Type 0) → lexeme_of token ≡ Symbol symbol
    → IsFree (Token (Mark_kind symbol) (λ found. x)) x (token ∷ []) Behind
symbol_free symbol token x Behind e =
    token_free (Mark_kind symbol) (λ found. x) token x Behind
    (λ line. subst (λ lexeme. fits (Mark_kind symbol) (record { line = line; lexeme = lexeme }) ≡ true) (sym e) (same_symbol_itself symbol)) (subst IsSound (sym e) tt) (λ line. refl)

pub mark_free : (symbol : SymbolName) (Behind : List PlacedLexeme → Type 0) → IsFree (sign symbol) tt (Mark symbol ∷ []) Behind
mark_free symbol Behind = symbol_free symbol (Mark symbol) tt Behind refl

pub minus_free : (Behind : List PlacedLexeme → Type 0) → IsFree (sign Minus) tt (Sign ∷ []) Behind
minus_free Behind = symbol_free Minus Sign tt Behind refl

pub call_free : (Behind : List PlacedLexeme → Type 0) → IsFree (sign OpenParen) tt (Call ∷ []) Behind
call_free Behind = symbol_free OpenParen Call tt Behind refl

-- the one and then the other
pub both_free :
    {A B C : Type 0} (f : A → B → C) (a : Rule A) (b : Rule B) (x : A) (y : B) (ws vs : List Written) (First Behind : List PlacedLexeme → Type 0)
    → IsFree a x ws First → IsFree b y vs Behind → MayFollow vs Behind First → IsFree (Both f a b) (f x y) (ws ++ vs) Behind
both_free f a b x y ws vs First Behind first second follows lines at rest behind = (
  laid lines at ws,
  laid lines (past at ws) vs,
  x,
  y,
  first lines at (laid lines (past at ws) vs ++ rest) (follows lines (past at ws) rest behind),
  second lines (past at ws) rest behind,
  laid_append lines at ws vs,
  refl,
)

-- the same where anything may come behind the first
pub both_any :
    {A B C : Type 0} (f : A → B → C) (a : Rule A) (b : Rule B) (x : A) (y : B) (ws vs : List Written) (Behind : List PlacedLexeme → Type 0)
    → IsFree a x ws Anything → IsFree b y vs Behind → IsFree (Both f a b) (f x y) (ws ++ vs) Behind
both_any f a b x y ws vs Behind first second = both_free f a b x y ws vs Anything Behind first second (λ lines at rest b. tt)

pub then_free :
    {A B : Type 0} (a : Rule A) (b : Rule B) (x : A) (y : B) (ws vs : List Written) (Behind : List PlacedLexeme → Type 0) → IsFree a x ws Anything
    → IsFree b y vs Behind → IsFree (a ▸ b) y (ws ++ vs) Behind
then_free a b x y ws vs Behind first second = both_any (λ x y. y) a b x y ws vs Behind first second

-- a word and then something
pub behind_word :
    {B : Type 0} (printed text : Bytes) (b : Rule B) (y : B) (vs : List Written) (Behind : List PlacedLexeme → Type 0)
    → is_folded_word (map to_ascii_lowercase printed) ≡ true → same_text (map to_ascii_lowercase printed) text ≡ true → IsFree b y vs Behind
    → IsFree (word text ▸ b) y (Said printed ∷ vs) Behind
behind_word printed text b y vs Behind folded same second =
    then_free (word text) b tt y (Said printed ∷ []) vs Behind (word_free printed text Anything folded same) second

-- a symbol and then something
pub behind_mark : {B : Type 0} (symbol : SymbolName) (b : Rule B) (y : B) (vs : List Written) (Behind : List PlacedLexeme → Type 0) → IsFree b y vs Behind
    → IsFree (sign symbol ▸ b) y (Mark symbol ∷ vs) Behind
behind_mark symbol b y vs Behind second = then_free (sign symbol) b tt y (Mark symbol ∷ []) vs Behind (mark_free symbol Anything) second

-- something and then something that says nothing
pub before_free :
    {A B : Type 0} (a : Rule A) (b : Rule B) (x : A) (y : B) (ws vs : List Written) (First Behind : List PlacedLexeme → Type 0) → IsFree a x ws First
    → IsFree b y vs Behind → MayFollow vs Behind First → IsFree (a ◂ b) x (ws ++ vs) Behind
before_free a b x y ws vs First Behind first second follows = both_free (λ x y. x) a b x y ws vs First Behind first second follows

pub mapped_free : {A B : Type 0} (f : A → B) (a : Rule A) (x : A) (ws : List Written) (Behind : List PlacedLexeme → Type 0) → IsFree a x ws Behind
    → IsFree (mapped f a) (f x) ws Behind
mapped_free f a x ws Behind first lines at rest behind =
    (laid lines at ws, [], x, tt, first lines at rest behind, (refl, refl), sym (append-nil (laid lines at ws)), refl)

pub left_free : {A : Type 0} (kinds : List Terminal) (a b : Rule A) (x : A) (ws : List Written) (Behind : List PlacedLexeme → Type 0) → IsFree a x ws Behind
    → IsFree (Either kinds a b) x ws Behind
left_free kinds a b x ws Behind first lines at rest behind = inl (first lines at rest behind)

pub right_free : {A : Type 0} (kinds : List Terminal) (a b : Rule A) (x : A) (ws : List Written) (Behind : List PlacedLexeme → Type 0) → IsFree b x ws Behind
    → IsFree (Either kinds a b) x ws Behind
right_free kinds a b x ws Behind second lines at rest behind = inr (second lines at rest behind)

pub some_free : {A : Type 0} (kinds : List Terminal) (a : Rule A) (x : A) (ws : List Written) (Behind : List PlacedLexeme → Type 0) → IsFree a x ws Behind
    → IsFree (optional kinds a) (Some x) ws Behind
some_free kinds a x ws Behind first = left_free kinds (mapped Some a) (Done None) (Some x) ws Behind (mapped_free Some a x ws Behind first)

pub none_free : {A : Type 0} (kinds : List Terminal) (a : Rule A) (Behind : List PlacedLexeme → Type 0) → IsFree (optional kinds a) None [] Behind
none_free kinds a Behind = right_free kinds (mapped Some a) (Done None) None [] Behind (done_free None Behind)

pub unless_free :
    {A : Type 0} (refusals : List Refusal) (a : Rule A) (x : A) (ws : List Written) (Behind : List PlacedLexeme → Type 0) → IsFree a x ws Behind
    → MayFollow ws Behind (Nothing_refused refusals) → IsFree (Unless refusals a) x ws Behind
unless_free refusals a x ws Behind first none lines at rest behind = (none lines at rest behind, first lines at rest behind)

-- a whole form behind which words are refused
pub end_free :
    {A : Type 0} (refusals : List Refusal) (a : Rule A) (x : A) (ws : List Written) (First : List PlacedLexeme → Type 0) → IsFree a x ws First
    → IsFree (end_without refusals a) x ws (λ rest. First rest × Nothing_refused refusals rest)
end_free refusals a x ws First first lines at rest behind =
    (laid lines at ws, [], x, tt, first lines at rest behind.0, (behind.1, (refl, refl)), sym (append-nil (laid lines at ws)), refl)

pub limited_free :
    {A : Type 0} (most : ℕ) (fault : SqlFault) (a : Rule A) (x : A) (ws : List Written) (Behind : List PlacedLexeme → Type 0) → IsLimit fault → IsFree a x ws Behind
    → IsFree (Limited most fault a) x ws Behind
limited_free most fault a x ws Behind limit first lines at rest behind = (limit, first lines at rest behind)

-- what may come behind less may come behind it
pub weaker : {A : Type 0} (a : Rule A) (x : A) (ws : List Written) (First Behind : List PlacedLexeme → Type 0) → ((rest : List PlacedLexeme) → Behind rest → First rest)
    → IsFree a x ws First → IsFree a x ws Behind
weaker a x ws First Behind less first lines at rest behind = first lines at rest (less rest behind)

-- each of them is printed freely, where such tokens come behind it
abbrev pub AreFree : {A : Type 0} → Rule A → (A → List Written) → (List PlacedLexeme → Type 0) → List A → Type 0
AreFree a print First [] = Unit {0}
AreFree a print First (x ∷ others) = IsFree a x (print x) First × AreFree a print First others

each_free :
    {A : Type 0} (a : Rule A) (print : A → List Written) (xs : List A) → AreFree a print Anything xs → (lines : ℕ → ℕ) (at : ℕ) (rest : List PlacedLexeme)
    → FreeEach [] (Free a) xs (laid lines at (flat_map print xs)) rest
each_free a print [] all lines at rest = (refl, refl)
each_free a print (x ∷ others) all lines at rest = (
  laid lines at (print x),
  laid lines (past at (print x)) (flat_map print others),
  refl,
  all.0 lines at (laid lines (past at (print x)) (flat_map print others) ++ rest) tt,
  each_free a print others all.1 lines (past at (print x)) rest,
  laid_append lines at (print x) (flat_map print others),
)

-- any number of them, behind each of which anything may come
pub many_free :
    {A B : Type 0} (kinds : List Terminal) (f : List A → B) (a : Rule A) (print : A → List Written) (xs : List A) (Behind : List PlacedLexeme → Type 0)
    → AreFree a print Anything xs → IsFree (Many kinds [] f a) (f xs) (flat_map print xs) Behind
many_free kinds f a print xs Behind all lines at rest behind = (xs, each_free a print xs all lines at rest, refl)

-- ---- with commas between them

abbrev pub with_comma : {A : Type 0} → (A → List Written) → A → List Written
with_comma print x = Mark Comma ∷ print x

pub listed_is : {A : Type 0} (print : A → List Written) (x : A) (others : List A) → listed_tokens print (x ∷ others) ≡ print x ++ flat_map (with_comma print) others
listed_is print x [] = sym (append-nil (print x))
listed_is print x (next ∷ others) = ap (λ (tokens : List Written). print x ++ Mark Comma ∷ tokens) (listed_is print next others)

-- a comma may come behind each of them
abbrev pub ComesBeforeComma : (List PlacedLexeme → Type 0) → Type 0
ComesBeforeComma First = (line : ℕ) (rest : List PlacedLexeme) → First (record { line = line; lexeme = Symbol Comma } ∷ rest)

commas_follow :
    {A : Type 0} (print : A → List Written) (others : List A) (First Behind : List PlacedLexeme → Type 0) → ComesBeforeComma First
    → ((rest : List PlacedLexeme) → Behind rest → First rest) → MayFollow (flat_map (with_comma print) others) Behind First
commas_follow print [] First Behind comma less lines at rest behind = less rest behind
commas_follow print (x ∷ others) First Behind comma less lines at rest behind = comma (lines at) (laid lines (suc at) (print x ++ flat_map (with_comma print) others) ++ rest)

others_free :
    {A : Type 0} (a : Rule A) (print : A → List Written) (others : List A) (First Behind : List PlacedLexeme → Type 0) → ComesBeforeComma First
    → ((rest : List PlacedLexeme) → Behind rest → First rest) → AreFree a print First others → (lines : ℕ → ℕ) (at : ℕ) (rest : List PlacedLexeme) → Behind rest
    → FreeEach [] (Free (sign Comma ▸ a)) others (laid lines at (flat_map (with_comma print) others)) rest
others_free a print [] First Behind comma less all lines at rest behind = (refl, refl)
others_free a print (x ∷ others) First Behind comma less all lines at rest behind =
    let after = past at (with_comma print x) in (
      laid lines at (with_comma print x),
      laid lines after (flat_map (with_comma print) others),
      refl,
      behind_mark Comma a x (print x) First all.0 lines at (laid lines after (flat_map (with_comma print) others) ++ rest)
          (commas_follow print others First Behind comma less lines after rest behind),
      others_free a print others First Behind comma less all.1 lines after rest behind,
      laid_append lines at (with_comma print x) (flat_map (with_comma print) others),
    )

pub listed_free :
    {A : Type 0} (a : Rule A) (print : A → List Written) (x : A) (others : List A) (First Behind : List PlacedLexeme → Type 0) → ComesBeforeComma First
    → ((rest : List PlacedLexeme) → Behind rest → First rest) → IsFree a x (print x) First → AreFree a print First others
    → IsFree (listed a) (x ∷ others) (listed_tokens print (x ∷ others)) Behind
listed_free a print x others First Behind comma less first all =
    subst (λ (tokens : List Written). IsFree (listed a) (x ∷ others) tokens Behind) (sym (listed_is print x others))
    (both_free (λ x others. x ∷ others) a (Many (Mark_kind Comma ∷ []) [] (λ others. others) (sign Comma ▸ a)) x others (print x) (flat_map (with_comma print) others) First Behind first
    (λ lines at rest behind. (others, others_free a print others First Behind comma less all lines at rest behind, refl)) (commas_follow print others First Behind comma less))

pub listed_any :
    {A : Type 0} (a : Rule A) (print : A → List Written) (x : A) (others : List A) (Behind : List PlacedLexeme → Type 0) → IsFree a x (print x) Anything
    → AreFree a print Anything others → IsFree (listed a) (x ∷ others) (listed_tokens print (x ∷ others)) Behind
listed_any a print x others Behind first all = listed_free a print x others Anything Behind (λ line rest. tt) (λ rest behind. tt) first all

-- in parentheses, before the second of which anything that is asked for may stand
pub parentheses_free :
    {A : Type 0} (a : Rule A) (x : A) (ws : List Written) (First Behind : List PlacedLexeme → Type 0)
    → ((line : ℕ) (rest : List PlacedLexeme) → First (record { line = line; lexeme = Symbol CloseParen } ∷ rest)) → IsFree a x ws First
    → IsFree (in_parentheses a) x (in_parentheses_tokens ws) Behind
parentheses_free a x ws First Behind close first =
    behind_mark OpenParen (a ◂ sign CloseParen) x (ws ++ Mark CloseParen ∷ []) Behind
    (before_free a (sign CloseParen) x tt ws (Mark CloseParen ∷ []) First Behind first (mark_free CloseParen Behind) (λ lines at rest behind. close (lines at) rest))

pub parentheses_any : {A : Type 0} (a : Rule A) (x : A) (ws : List Written) (Behind : List PlacedLexeme → Type 0) → IsFree a x ws Anything
    → IsFree (in_parentheses a) x (in_parentheses_tokens ws) Behind
parentheses_any a x ws Behind first = parentheses_free a x ws Anything Behind (λ line rest. tt) first
