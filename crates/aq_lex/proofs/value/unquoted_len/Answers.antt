use Rattle.std.proofs.Common.{arith}
use Rattle.aq_lex.proofs.Values.{undoubled_step}
use Rattle.aq_lex.proofs.value.unquoted_len.Goals as goal

pub bytes-preserved : goal.bytes-preserved
bytes-preserved c =
    let so_far = rw (c.in-Some.ensures.cases.0, undoubled_step c.args.quote c.in-Some.byte.now c.in-Some.behind.now, ← c.past_quote-rest.ensures.value) at c.bytes.invariant.1 in
    (omega (arith, c.in-Some.ensures.cases.1, c.past_quote-rest.ensures.within), omega (arith, so_far))
