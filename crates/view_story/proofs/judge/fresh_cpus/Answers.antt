use Rattle.view_story.specs.Judge.{active_cpu}
use Rattle.view_story.proofs.Beginnings.{one_more}
use Rattle.view_story.proofs.judge.fresh_cpus.Goals as goal

pub loop-number-preserved : goal.loop-number-preserved
loop-number-preserved c =
    one_more (λ n. active_cpu (record { 0 = n })) c.loop-number.number c.loop-number.cpus.items _ _
    c.loop-number.invariant c.active_cpu.ensures c.in_ok-push.ensures.items
