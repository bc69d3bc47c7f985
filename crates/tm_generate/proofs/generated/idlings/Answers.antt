use Rattle.std.proofs.Common.{◌+◌, [], ◌∷◌, ◌++◌, sym, ◌∙◌}
use Rattle.tm_script.specs.declared.syntax.What.TheVariants.{Idle}
use Rattle.tm_generate.proofs.Drawing.{idlings_more}
use Rattle.tm_generate.proofs.generated.idlings.Goals as goal

pub loop-cpu-preserved : goal.loop-cpu-preserved
loop-cpu-preserved c =
    c.in_ok-push.ensures.ok
    ∙ (λ i. c.loop-cpu.invariant i ++ record { line = 6 + c.from.ensures i + c.from-in-loop-cpu.ensures i; cpu = record { 0 = c.from-in-loop-cpu-2.ensures i }; what = Idle } ∷ [])
    ∙ sym (idlings_more c.args.timers c.loop-cpu.cpu c.loop-cpu.auto.cpu)
