-- CREATE FUNCTION is printed as tokens that are read as the same function.
use Rattle.std.proofs.Common.{◌≡◌, ◌≤◌, List, [], ◌∷◌, ◌++◌, inl, inr, refl, sym, ap, ◌∙◌, subst, codes}
use Rattle.aq_base.specs.Names.{Text as Bytes}
use Rattle.aq_base.specs.declared.body.Body.{Body}
use Rattle.aq_base.specs.declared.statement.Statement.{Statement}
use Rattle.aq_base.specs.declared.statement.Statement.TheVariants.{CreateFunction}
use Rattle.aq_lex.specs.declared.token.Symbol.TheVariants.{OpenParen, CloseParen, DollarQuote}
use Rattle.aq_lex.specs.Lexemes.{PlacedLexeme}
use Rattle.aq_grammar.specs.Terminals.{Keyword}
use Rattle.aq_grammar.specs.Rules.{Rule, Both, Either}
use Rattle.aq_grammar.specs.Forms.{word, sign, ◌▸◌, ◌◂◌, public_name}
use Rattle.aq_grammar.specs.Bodies.{code}
use Rattle.aq_grammar.specs.Triggers.{no_arguments, language, create_function}
use Rattle.aq_texts.specs.Written.{Written, Said, say, Name, Mark, Call}
use Rattle.aq_texts.specs.Canon as canon
use Rattle.aq_forms.proofs.Derived.{DerivesSome, Derives}
use Rattle.aq_forms.proofs.Combining.{IsFree, Anything, word_free, mark_free, call_free, both_any, then_free, behind_word, before_free, left_free}
use Rattle.aq_forms.proofs.Names.{IsNamed, public_named, public_free}
use Rattle.aq_forms.proofs.Depths.{body_depth, HasRoom}
use Rattle.aq_forms.proofs.Bodies.{code_free}

-- a statement behind the word CREATE: the tokens that it is printed as
pub record IsCreated (rule : Rule Statement) (s : Statement) (Behind : List PlacedLexeme → Type 0) : Type 0 where
  pub tokens : List Written
  pub is : canon.statement s ≡ Said (codes "CREATE") ∷ tokens
  pub free : IsFree rule s tokens Behind

pub no_arguments_free : (Behind : List PlacedLexeme → Type 0) → IsFree no_arguments tt (Call ∷ Mark CloseParen ∷ []) Behind
unfolding no_arguments
no_arguments_free Behind =
    then_free (sign OpenParen) (sign CloseParen) tt tt (Call ∷ []) (Mark CloseParen ∷ []) Behind (call_free Anything) (mark_free CloseParen Behind)

code_tokens : Body → List Written
code_tokens body = Mark DollarQuote ∷ (canon.body body ++ Mark DollarQuote ∷ [])

function_of : Bytes → Body → Statement
function_of name body = CreateFunction (record { name = name; body = body })

-- the function's name and what it returns
heading : Rule Bytes
heading = public_name ◂ no_arguments ◂ word (codes "returns") ◂ word (codes "trigger")

heading_tokens : Bytes → List Written
heading_tokens name = Name name ∷ Call ∷ Mark CloseParen ∷ say (codes "RETURNS") ∷ say (codes "trigger") ∷ []

heading_free : (name : Bytes) → IsNamed name → IsFree heading name (heading_tokens name) Anything
unfolding heading heading_tokens
heading_free name named =
    before_free (public_name ◂ no_arguments ◂ word (codes "returns")) (word (codes "trigger")) name tt
    (Name name ∷ Call ∷ Mark CloseParen ∷ say (codes "RETURNS") ∷ []) (say (codes "trigger") ∷ []) Anything Anything
    (before_free (public_name ◂ no_arguments) (word (codes "returns")) name tt (Name name ∷ Call ∷ Mark CloseParen ∷ []) (say (codes "RETURNS") ∷ []) Anything Anything
    (before_free public_name no_arguments name tt (Name name ∷ []) (Call ∷ Mark CloseParen ∷ []) Anything Anything (public_free name Anything named)
    (no_arguments_free Anything) (λ lines at rest behind. tt))
    (word_free (codes "RETURNS") (codes "returns") Anything refl refl) (λ lines at rest behind. tt))
    (word_free (codes "trigger") (codes "trigger") Anything refl refl) (λ lines at rest behind. tt)

-- LANGUAGE is printed before the code, wherever it stood
written_code : Rule Body
written_code = Either (Keyword (codes "language") ∷ []) (language ▸ word (codes "as") ▸ code) (word (codes "as") ▸ code ◂ language)

written_code_free : (body : Body) (Behind : List PlacedLexeme → Type 0) → IsFree code body (code_tokens body) Behind
    → IsFree written_code body (say (codes "LANGUAGE") ∷ say (codes "plpgsql") ∷ say (codes "AS") ∷ code_tokens body) Behind
unfolding written_code
written_code_free body Behind free =
    left_free (Keyword (codes "language") ∷ []) (language ▸ word (codes "as") ▸ code) (word (codes "as") ▸ code ◂ language) body
    (say (codes "LANGUAGE") ∷ say (codes "plpgsql") ∷ say (codes "AS") ∷ code_tokens body) Behind
    (then_free language (word (codes "as") ▸ code) tt body (say (codes "LANGUAGE") ∷ say (codes "plpgsql") ∷ []) (say (codes "AS") ∷ code_tokens body) Behind
    (behind_word (codes "LANGUAGE") (codes "language") (word (codes "plpgsql")) tt (say (codes "plpgsql") ∷ []) Anything refl refl
    (word_free (codes "plpgsql") (codes "plpgsql") Anything refl refl))
    (behind_word (codes "AS") (codes "as") code body (code_tokens body) Behind refl refl free))

written_code_derived : (body : Body) → Derives written_code body → Derives code body
unfolding written_code
written_code_derived body (inl (_, rest, _, (_, own, _, derived, b), a)) = subst (Derives code) (sym (a ∙ b)) derived
written_code_derived body (inr (_, rest, _, (own, _, derived, _, b), a)) = subst (Derives code) (sym (a ∙ b)) derived

heading_named : (name : Bytes) → Derives heading name → IsNamed name
unfolding heading
heading_named name (a, _, (b, _, (c, _, derived, _, e2), _, e1), _, e0) = subst IsNamed (sym (e0 ∙ (e1 ∙ e2))) (public_named DerivesSome c derived)

function_free : (name : Bytes) (body : Body) (Behind : List PlacedLexeme → Type 0) → IsNamed name → Derives code body → body_depth body ≤ 100
    → IsFree create_function (function_of name body)
    (say (codes "FUNCTION") ∷ (heading_tokens name ++ say (codes "LANGUAGE") ∷ say (codes "plpgsql") ∷ say (codes "AS") ∷ code_tokens body)) Behind
unfolding create_function function_of heading written_code code_tokens
function_free name body Behind named derived few =
    behind_word (codes "FUNCTION") (codes "function") (Both function_of heading written_code) (function_of name body)
    (heading_tokens name ++ say (codes "LANGUAGE") ∷ say (codes "plpgsql") ∷ say (codes "AS") ∷ code_tokens body) Behind refl refl
    (both_any function_of heading written_code name body (heading_tokens name)
    (say (codes "LANGUAGE") ∷ say (codes "plpgsql") ∷ say (codes "AS") ∷ code_tokens body) Behind (heading_free name named)
    (written_code_free body Behind
    (code_free body Behind derived few)))

pub create_function_free : (s : Statement) (Behind : List PlacedLexeme → Type 0) → Derives create_function s → HasRoom s → IsCreated create_function s Behind
unfolding create_function function_of heading heading_tokens written_code code_tokens
create_function_free s Behind (_, inner, _, (name, body, name_derived, body_derived, b), a) few =
    let e : s ≡ function_of name body = a ∙ b in
    let tokens = say (codes "FUNCTION") ∷ (heading_tokens name ++ say (codes "LANGUAGE") ∷ say (codes "plpgsql") ∷ say (codes "AS") ∷ code_tokens body) in
    record {
      tokens = tokens;
      is = ap canon.statement e;
      free = subst (λ (s : Statement). IsFree create_function s tokens Behind) (sym e)
          (function_free name body Behind (heading_named name name_derived) (written_code_derived body body_derived) (subst HasRoom e few));
    }
