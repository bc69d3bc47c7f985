use Rattle.std.proofs.Common.{arith, sym}
use Rattle.delayed_work.proofs.Rounds.{hands_on_more, out_within}
use Rattle.delayed_work.proofs.works.hand_out.Goals as goal

pub overflow_cast-item : goal.overflow_cast-item
overflow_cast-item g c =
    let low = out_within _ _ _ c.loop-item.invariant.within c.in-Some.ensures.due.queued in
    let few = c.loop-item.invariant.few in
    omega arith

pub come_ready-requires : goal.come_ready-requires
come_ready-requires g c =
    out_within _ _ _ c.loop-item.invariant.within c.in-Some.ensures.due.queued

pub loop-item-preserved : goal.loop-item-preserved
loop-item-preserved g c =
    hands_on_more _ _ _ c.loop-item.bases _ _ _ c.in-Some.item c.loop-item.invariant
    (sym c.in-Some.ensures.item) c.take_due.ensures.after c.come_ready.ensures.plain
    c.in-Some.ensures.one_fewer
