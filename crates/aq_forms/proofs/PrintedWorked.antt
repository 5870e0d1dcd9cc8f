-- Printed lines by example: a heading with its name, a statement with two signs in a row, and an empty line.
use Rattle.std.proofs.Common.{◌≡◌, List, [], ◌∷◌, codes, refl}
use Rattle.std.specs.List.{flat_map}
use Rattle.std.specs.Fmt.{digits}
use Rattle.aq_lex.specs.declared.token.Directive.TheVariants.{Session}
use Rattle.aq_lex.specs.declared.token.Symbol.TheVariants.{Semicolon, Minus}
use Rattle.aq_lex.specs.declared.token.Token.{Token}
use Rattle.aq_lex.specs.Tokens.{Lexes}
use Rattle.aq_texts.specs.Written.{Written, Said, Heading, Name, Number, Mark, Sign}
use Rattle.aq_texts.specs.Canon.{line}
use Rattle.aq_forms.proofs.PrintedLines.{Headed, Plain, AllLines, lines_lex}

abbrev difference : List Written
difference = Said (codes "SELECT") ∷ Mark Minus ∷ Sign ∷ Number 12 ∷ Mark Semicolon ∷ []

abbrev small_lines : List (List Written)
small_lines = (Heading Session ∷ Name (codes "a") ∷ []) ∷ difference ∷ [] ∷ []

are_lines : AllLines small_lines
are_lines = (Headed Session (Name (codes "a") ∷ []) (refl, tt), (Plain difference (refl, (tt, (tt, (refl, (tt, tt))))), (Plain [] tt, tt)))

are_printed : flat_map line small_lines ≡ codes "\\session a\nSELECT - -12;\n\n"
unfolding digits
are_printed = refl

are_lexed : (tokens : List Token) × Lexes (flat_map line small_lines) tokens
are_lexed = let found = lines_lex small_lines are_lines in (found.0, found.2)
