use Rattle.std.proofs.Common.{◌+◌, ◌-◌, ◌≡◌, ◌≤◌}
use Rattle.std.specs.Prelude.{find}
use Rattle.std.specs.Fmt.{decimal}
use Rattle.aq_base.specs.Names.{same_text}
use Rattle.aq_words.specs.Commands.{rows_number, numbers_from}
use Rattle.aq_words.proofs.listed.number.Given as goal

abbrev pub invariant-numbers : goal.invariant-numbers
invariant-numbers l =
    (1 ≤ l.n) × (l.n ≤ 2001) × (find (λ n. same_text l.fn.text (decimal n)) (numbers_from l.n (2001 - l.n)) ≡ rows_number l.fn.text)

abbrev pub decreases-numbers : goal.decreases-numbers
decreases-numbers l = 2000 + 1 - l.n
