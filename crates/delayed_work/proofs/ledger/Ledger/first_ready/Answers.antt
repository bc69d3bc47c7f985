use Rattle.std.proofs.Common.{arith}
use Rattle.delayed_work.proofs.Kept.{first_low}
use Rattle.delayed_work.proofs.ledger.Ledger.first_ready.Goals as goal

pub overflow_cast-result : goal.overflow_cast-result
overflow_cast-result c =
    let low = first_low _ _ _ _ c.in-Some.work _ c.self.invariant c.oldest.ensures c.in-Some.is in
    omega arith
