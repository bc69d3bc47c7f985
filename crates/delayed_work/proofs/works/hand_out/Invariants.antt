use Rattle.std.proofs.Common.{length}
use Rattle.delayed_work.proofs.Rounds.{HandsOn}
use Rattle.delayed_work.proofs.Expiry.{queue_of}
use Rattle.delayed_work.proofs.works.hand_out.Given as goal

abbrev pub invariant-loop-item : goal.invariant-loop-item
invariant-loop-item g l = HandsOn l.now l.fn.bases.plain l.fn.ledger.plain l.bases l.ledger.plain

abbrev pub decreases-loop-item : goal.decreases-loop-item
decreases-loop-item g l = length (queue_of l.bases.plain)
