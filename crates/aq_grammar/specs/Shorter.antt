-- Behind a token that is read fewer tokens are left. It is here since a form says so of its reading.
use Rattle.std.proofs.Common.{◌≡◌, ◌<◌, Bool, true, false, List, [], ◌∷◌, length, if◌then◌else◌, ap, arith}
use Rattle.aq_base.specs.Names.{Text as Bytes}
use Rattle.aq_lex.specs.Lexemes.{PlacedLexeme}
use Rattle.aq_grammar.specs.Terminals.{Terminal, Name, fits, text_of}
use Rattle.aq_grammar.specs.Rules.{Token}
use Rattle.aq_grammar.specs.Reading.{Outcome, Read, Stop, Syntax}
use Rattle.aq_grammar.specs.Forms.{name}
use Rattle.aq_grammar.specs.Nonterminals.{reads}

abbrev left_of : {A : Type 0} → Outcome A → List PlacedLexeme
left_of (Read x rest) = rest
left_of (Stop reason rest) = rest

one_is_read :
    {A : Type 0} (fit : Bool) (x y : A) (token : PlacedLexeme) (behind rest : List PlacedLexeme)
    → (if fit then Read x behind else Stop Syntax (token ∷ behind)) ≡ Read y rest → length rest < length (token ∷ behind)
one_is_read true x y token behind rest read = let same : length behind ≡ length rest = ap (λ o. length (left_of o)) read in omega arith
one_is_read false x y token behind rest read = cc

pub token_is_shorter :
    {A : Type 0} (kind : Terminal) (f : PlacedLexeme → A) (tokens rest : List PlacedLexeme) (x : A)
    → reads (Token kind f) tokens ≡ Read x rest → length rest < length tokens
token_is_shorter kind f [] rest x read = cc
token_is_shorter kind f (token ∷ behind) rest x read = one_is_read (fits kind token) (f token) x token behind rest read

pub name_is_shorter : (tokens rest : List PlacedLexeme) (x : Bytes) → reads name tokens ≡ Read x rest → length rest < length tokens
unfolding name
name_is_shorter = token_is_shorter Name text_of
