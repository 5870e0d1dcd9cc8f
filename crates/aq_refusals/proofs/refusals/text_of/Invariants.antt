use Rattle.std.proofs.Common.{◌≡◌, take, string_bytes}
use Rattle.aq_refusals.specs.Pieces.{text_of}
use Rattle.aq_refusals.proofs.refusals.text_of.Given as goal

abbrev pub invariant-pieces : goal.invariant-pieces
invariant-pieces l = string_bytes l.text ≡ text_of (take l.piece-index l.pieces)
