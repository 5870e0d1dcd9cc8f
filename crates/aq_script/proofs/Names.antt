-- The names of sessions, one after the other.
use Rattle.std.proofs.Common.{◌≡◌, ℕ, zero, suc, ◌<◌, ◌≤◌, Bool, true, List, [], ◌∷◌, ◌++◌, drop, length, get_or, if◌then◌else◌, Some, Ok, Err, refl, sym, ap, ◌∙◌, subst, arith}
use Rattle.std.proofs.lemmas.List.{drop_all}
use Rattle.aq_base.specs.declared.fault.SqlFault.{SqlFault}
use Rattle.aq_base.specs.declared.script.SessionText.{SessionText}
use Rattle.aq_lex.specs.Lexemes.{PlacedLexeme}
use Rattle.aq_grammar.specs.Terminals.{Keyword, begin_with}
use Rattle.aq_grammar.specs.Rules.{refused}
use Rattle.aq_grammar.specs.Steps.{RefusesSo}
use Rattle.aq_grammar.specs.declared.fault.ReadFault.TheVariants.{Refused}
use Rattle.aq_script.specs.Sections.{repeated_name, refused_names, names_of}

-- what is refused from a session on is its name, or one behind it
name_or_others : (tokens : List PlacedLexeme) (sessions : List SessionText) (at : ℕ) (session : SessionText) → at < length sessions → session ≡ get_or sessions at session
    → refused (refused_names (names_of (drop at sessions))) tokens
    ≡ if begin_with (Keyword session.name ∷ []) tokens then Some (repeated_name session.name) else refused (refused_names (names_of (drop (suc at) sessions))) tokens
name_or_others tokens [] at session less is = absurd (omega arith)
name_or_others tokens (first ∷ others) zero session less is =
    subst
    (λ (s : SessionText). refused (refused_names (names_of (first ∷ others))) tokens
    ≡ if begin_with (Keyword s.name ∷ []) tokens then Some (repeated_name s.name) else refused (refused_names (names_of others)) tokens)
    (sym is) refl
name_or_others tokens (first ∷ others) (suc at) session less is = name_or_others tokens others at session (omega arith) is

module _ (tokens : List PlacedLexeme) (sessions : List SessionText) (at : ℕ)
    (so_far : refused (refused_names (names_of (drop at sessions))) tokens ≡ refused (refused_names (names_of sessions)) tokens) where
  -- the session has the name
  pub name_is_refused : (session : SessionText) (left : ℕ) (fault : SqlFault) → at < length sessions → session ≡ get_or sessions at session
      → begin_with (Keyword session.name ∷ []) tokens ≡ true → left ≡ length tokens → fault ≡ repeated_name session.name
      → RefusesSo (refused_names (names_of sessions)) (Err (Refused left fault)) tokens
  unfolding RefusesSo
  name_is_refused session left fault less is begun is_left is_fault = (
    is_left,
    sym so_far
        ∙ (name_or_others tokens sessions at session less is
        ∙ (ap (λ (b : Bool). if b then Some (repeated_name session.name) else refused (refused_names (names_of (drop (suc at) sessions))) tokens) begun
        ∙ ap (λ (f : SqlFault). Some f) (sym is_fault))),
  )

  -- no session has it
  pub no_name_is_refused : length sessions ≤ at → RefusesSo (refused_names (names_of sessions)) (Ok tt) tokens
  unfolding RefusesSo
  no_name_is_refused all = sym so_far ∙ ap (λ (others : List SessionText). refused (refused_names (names_of others)) tokens) (drop_all at sessions all)

-- the names of sessions, and of one more
pub names_and_one : (sessions : List SessionText) (session : SessionText) → names_of (sessions ++ session ∷ []) ≡ names_of sessions ++ session.name ∷ []
names_and_one [] session = refl
names_and_one (first ∷ others) session = ap (λ names. first.name ∷ names) (names_and_one others session)

pub as_many_names : (sessions : List SessionText) → length (names_of sessions) ≡ length sessions
as_many_names [] = refl
as_many_names (first ∷ others) = ap suc (as_many_names others)
