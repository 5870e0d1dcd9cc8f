-- What is refused behind as many statements or sessions as there may be, against a test of their number and of the first token.
use Rattle.std.proofs.Common.{◌≡◌, ℕ, Bool, true, false, not, ◌&&◌, ◌||◌, List, [], ◌∷◌, map, codes, nat_le, nat_lt, if◌then◌else◌, Option, Some, None, refl, sym, ap, ◌∙◌, arith}
use Rattle.std.proofs.lemmas.Grind.{common_steps}
use Rattle.aq_base.specs.declared.fault.SqlFault.{SqlFault}
use Rattle.aq_lex.specs.declared.token.Directive.TheVariants.{Session}
use Rattle.aq_lex.specs.Lexemes.{PlacedLexeme}
use Rattle.aq_grammar.specs.Terminals.{Terminal, Heading, begins, fits}
use Rattle.aq_grammar.specs.Rules.{Refusal, refused}
use Rattle.aq_grammar.specs.Forms.{limit}
use Rattle.aq_script.specs.Sections.{Section, kinds_of, statement_limit, session_limit, refused_statements, refused_sessions}

all_of : (b : Bool) → (b && true) ≡ b
all_of true = refl
all_of false = refl

one_fault : (is_here any : Bool) (fault : SqlFault) (others : Option SqlFault) → others ≡ (if any then Some fault else None)
    → (if is_here then Some fault else others) ≡ if is_here || any then Some fault else None
one_fault true any fault others e = refl
one_fault false any fault others e = e

-- tokens of several kinds with one fault
pub refused_kinds : (fault : SqlFault) (kinds : List Terminal) (tokens : List PlacedLexeme)
    → refused (map (λ kind. record { words = kind ∷ []; fault = fault }) kinds) tokens ≡ if begins kinds tokens then Some fault else None
refused_kinds fault [] [] = refl
refused_kinds fault (kind ∷ kinds) [] = refused_kinds fault kinds []
refused_kinds fault [] (token ∷ tokens) = refl
refused_kinds fault (kind ∷ kinds) (token ∷ tokens) =
    ap (λ (b : Bool). if b then Some fault else refused (map (λ kind. record { words = kind ∷ []; fault = fault }) kinds) (token ∷ tokens)) (all_of (fits kind token))
    ∙ one_fault (fits kind token) (begins kinds (token ∷ tokens)) fault _ (refused_kinds fault kinds (token ∷ tokens))

at_least : (most n : ℕ) → nat_le most n ≡ not (nat_lt n most)
at_least most n = grind (arith, common_steps)

behind_limit : (fewer begun : Bool) (refusals : List Refusal) (tokens : List PlacedLexeme) (fault : SqlFault) → refused refusals tokens ≡ (if begun then Some fault else None)
    → refused (if fewer then [] else refusals) tokens ≡ if not fewer && begun then Some fault else None
behind_limit true begun refusals tokens fault e = refl
behind_limit false begun refusals tokens fault e = e

abbrev pub statements_fault : SqlFault
statements_fault = limit (codes "more than 65536 statements")

abbrev pub sessions_fault : SqlFault
sessions_fault = limit (codes "more than 16 sessions")

-- b is the test that the code makes
pub statements_refused : (section : Section) (statements : ℕ) (tokens : List PlacedLexeme) (b : Bool) → b ≡ (nat_le statement_limit statements && begins (kinds_of section) tokens)
    → refused (refused_statements statements section) tokens ≡ if b then Some statements_fault else None
statements_refused section statements tokens b e =
    behind_limit (nat_lt statements statement_limit) (begins (kinds_of section) tokens) _ tokens statements_fault (refused_kinds statements_fault (kinds_of section) tokens)
    ∙ ap (λ (x : Bool). if x then Some statements_fault else None)
    (ap (λ (x : Bool). x && begins (kinds_of section) tokens) (sym (at_least statement_limit statements)) ∙ sym e)

pub sessions_refused : (sessions : ℕ) (tokens : List PlacedLexeme) (b : Bool) → b ≡ (nat_le session_limit sessions && begins (Heading Session ∷ []) tokens)
    → refused (refused_sessions sessions) tokens ≡ if b then Some sessions_fault else None
sessions_refused sessions tokens b e =
    behind_limit (nat_lt sessions session_limit) (begins (Heading Session ∷ []) tokens) _ tokens sessions_fault (refused_kinds sessions_fault (Heading Session ∷ []) tokens)
    ∙ ap (λ (x : Bool). if x then Some sessions_fault else None)
    (ap (λ (x : Bool). x && begins (Heading Session ∷ []) tokens) (sym (at_least session_limit sessions)) ∙ sym e)
