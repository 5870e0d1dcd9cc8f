use Rattle.std.proofs.Common.{arith}
use Rattle.std.proofs.lemmas.Grind.{common_steps}
use Rattle.aq_causes.proofs.Bytes.{drop-copied}
use Rattle.aq_causes.proofs.memory_source.MemorySourceSource.read.Goals as goal

pub returns-clause-cases : goal.returns-clause-cases
returns-clause-cases c =
    let bytes = c.as_slice-2.ensures in
    rw (← c.self.view_is) (
      grind (arith, common_steps),
      grind (arith, common_steps),
      drop-copied _ _ _ _ (rw bytes at c.copy_front-count.ensures.front),
    )
