use Rattle.std.proofs.Common.{◌≡◌, arith, subst}
use Rattle.event_queue.specs.EventMap.{Counts}
use Rattle.event_queue.proofs.Search.{FirstBelow, found, none}
use Rattle.event_queue.proofs.queue.Events.first.Goals as goal

pub returns-clause-found : goal.returns-clause-found
returns-clause-found c =
    let end : c.loop-child.child ≡ 8 = omega arith in
    let all = subst (λ n. FirstBelow Counts c.self.inside.slots n c.loop-child.best) end c.loop-child.invariant in
    rw (← c.self.view_is) (found Counts _ _ c.self.invariant.eight all)

pub returns-clause-none : goal.returns-clause-none
returns-clause-none c =
    let end : c.loop-child.child ≡ 8 = omega arith in
    let all = subst (λ n. FirstBelow Counts c.self.inside.slots n c.loop-child.best) end c.loop-child.invariant in
    rw (← c.self.view_is) (none Counts _ _ c.self.invariant.eight all)
