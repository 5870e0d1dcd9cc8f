-- Texts with `, ` before each.
use Rattle.std.specs.Prelude.{List, [], ◌∷◌, ◌++◌, codes}
use Rattle.aq_base.specs.Names.{Text}

abbrev pub behind : List Text → Text
behind [] = []
behind (text ∷ texts) = codes ", " ++ text ++ behind texts
