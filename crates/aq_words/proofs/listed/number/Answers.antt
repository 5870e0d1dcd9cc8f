use Rattle.std.proofs.Common.{rules, ◌≡◌, ◌<◌, ◌≤◌, true, false, sym, ◌∙◌, arith}
use Rattle.std.specs.Fmt.{decimal}
use Rattle.aq_base.specs.Names.{same_text}
use Rattle.aq_words.proofs.Counted.{found_at, not_at, found_nowhere}
use Rattle.aq_words.proofs.listed.number.Goals as goal

pub returns-then-eq : goal.returns-then-eq
returns-then-eq c =
    let yes : same_text c.args.text.now (decimal c.numbers.n) ≡ true = search rules in
    let small : c.numbers.n ≤ 2000 = search rules in
    sym (found_at (λ n. same_text c.args.text.now (decimal n)) c.numbers.n small yes) ∙ c.numbers.invariant.2

pub numbers-preserved : goal.numbers-preserved
numbers-preserved c =
    let no : same_text c.args.text.now (decimal c.numbers.n) ≡ false = search rules in
    let small : c.numbers.n ≤ 2000 = search rules in
    (omega arith, omega arith, sym (not_at (λ n. same_text c.args.text.now (decimal n)) c.numbers.n small no) ∙ c.numbers.invariant.2)

pub returns : goal.returns
returns c =
    let past : 2000 < c.numbers.n = search rules in
    sym (found_nowhere (λ n. same_text c.args.text.now (decimal n)) c.numbers.n past) ∙ c.numbers.invariant.2
