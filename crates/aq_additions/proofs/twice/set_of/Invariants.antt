use Rattle.std.proofs.Common.{◌≡◌, take}
use Rattle.std.specs.List.{list_any}
use Rattle.aq_base.specs.Names.{Text, same_text}
use Rattle.aq_additions.proofs.twice.set_of.Given as goal

abbrev pub invariant-loop-name : goal.invariant-loop-name
invariant-loop-name l = (q : Text) → list_any (same_text q) l.made ≡ list_any (same_text q) (take l.name-index l.names)
