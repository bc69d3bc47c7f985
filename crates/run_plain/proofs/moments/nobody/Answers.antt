use Rattle.std.proofs.Common.{◌+◌, List, [], subst, sym, ◌∙◌}
use Rattle.play_rules.specs.Parts.{Progress}
use Rattle.run_plain.specs.Apart.{ToldApart}
use Rattle.run_plain.proofs.Spreading.{one_nobody}
use Rattle.run_plain.proofs.moments.nobody.Goals as goal

pub loop-cpu-preserved : goal.loop-cpu-preserved
loop-cpu-preserved c =
    let begun = c.new-in-loop-cpu.ensures in
    subst (λ (own : List Progress). ToldApart (c.loop-cpu._cpu + 1) own [] 0)
    (sym c.in_ok-push.ensures.items)
    (one_nobody c.loop-cpu._cpu c.loop-cpu.own.items c.new-in-loop-cpu.result
    c.loop-cpu.invariant (begun.text ∙ c.new.ensures) begun.work)
