-- Scripts that differ in nothing but the lines of their statements have one canonical text.
use Rattle.std.proofs.Common.{◌≡◌, List, [], ◌∷◌, ◌++◌, flat_map, map, refl, sym, ap, ap₂, ◌∙◌}
use Rattle.aq_base.specs.declared.script.Placed.{Placed}
use Rattle.aq_base.specs.declared.script.SessionText.{SessionText}
use Rattle.aq_base.specs.declared.script.Script.{Script}
use Rattle.aq_lex.specs.declared.token.Directive.TheVariants.{Setup, Session}
use Rattle.aq_texts.specs.Written.{Written, Heading, Name}
use Rattle.aq_texts.specs.Canon.{placed_lines, setup_lines, session_lines, schedule_lines, line, canon}
use Rattle.aq_canon.specs.Same.{statement_alone, session_alone, script_alone}
use Rattle.aq_canon.specs.Laws.{OneText}

abbrev Lines : Type 0
Lines = List (List Written)

placed_alone : (xs : List Placed) → placed_lines (map statement_alone xs) ≡ placed_lines xs
placed_alone [] = refl
placed_alone (x ∷ xs) = ap₂ (λ (first : List Written) (others : Lines). first ∷ others) refl (placed_alone xs)

setup_alone : (xs : List Placed) → setup_lines (map statement_alone xs) ≡ setup_lines xs
setup_alone [] = refl
setup_alone (x ∷ xs) = ap (λ (lines : Lines). (Heading Setup ∷ []) ∷ lines) (placed_alone (x ∷ xs))

sessions_alone : (xs : List SessionText) → flat_map session_lines (map session_alone xs) ≡ flat_map session_lines xs
sessions_alone [] = refl
sessions_alone (x ∷ xs) =
    ap₂ (λ (first others : Lines). ((Heading Session ∷ Name x.name ∷ []) ∷ first) ++ others) (placed_alone x.statements) (sessions_alone xs)

canon_alone : (script : Script) → canon (script_alone script) ≡ canon script
canon_alone script =
    ap₂ (λ (setup sessions : Lines). flat_map line (setup ++ (sessions ++ schedule_lines script.schedule))) (setup_alone script.setup) (sessions_alone script.sessions)

pub one_text : OneText
one_text a b same = sym (canon_alone a) ∙ ap canon same ∙ canon_alone b
