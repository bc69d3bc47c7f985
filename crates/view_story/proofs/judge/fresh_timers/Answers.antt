use Rattle.view_story.specs.Seen.{fresh_timer}
use Rattle.view_story.proofs.Beginnings.{one_more}
use Rattle.view_story.proofs.judge.fresh_timers.Goals as goal

pub loop-number-preserved : goal.loop-number-preserved
loop-number-preserved c =
    one_more (λ n. fresh_timer (record { 0 = n })) c.loop-number.number
    c.loop-number.timers.items _ _ c.loop-number.invariant c.fresh_timer.ensures
    c.in_ok-push.ensures.items
