use Rattle.std.proofs.Common.{◌≡◌, map, length}
use Rattle.std.specs.Char.{to_ascii_lowercase}
use Rattle.aq_base.specs.Names.{same_text}
use Rattle.aq_lex.proofs.value.folds_to.Given as goal

abbrev pub invariant-bytes : goal.invariant-bytes
invariant-bytes l = same_text (map to_ascii_lowercase l.left) l.right ≡ same_text (map to_ascii_lowercase l.fn.bytes) l.fn.word

abbrev pub decreases-bytes : goal.decreases-bytes
decreases-bytes l = length l.left
