-- The text of a fault from its pieces.
use Rattle.std.specs.Prelude.{List, [], ◌++◌, fold}
use Rattle.aq_base.specs.Names.{Text}
use Rattle.aq_refusals.specs.Faults.{quoted, kind_name}
use Rattle.aq_refusals.specs.declared.refusals.Piece.{Piece}
use Rattle.aq_refusals.specs.declared.refusals.Piece.TheVariants as pieces

abbrev pub piece_text : Piece → Text
piece_text (pieces.Words words) = words.now
piece_text (pieces.Name name) = name.now
piece_text (pieces.Quoted name) = quoted name.now
piece_text (pieces.OfKind kind) = kind_name kind

-- one behind the other
abbrev pub text_of : List Piece → Text
text_of all = fold (λ text piece. text ++ piece_text piece) [] all
