use Rattle.std.proofs.Common.{◌+◌, ◌-◌, sym, ap, arith, length, ◌∙◌}
use Rattle.core_machine.specs.step_play.Rules.StepRules.{step_rules}
use Rattle.view_stat.specs.Watched.{all_lived}
use Rattle.view_stat.proofs.Loops.{lived_end, lived_more}
use Rattle.view_stat.proofs.machine.live_all.Goals as goal

pub loop-cpu-preserved : goal.loop-cpu-preserved
loop-cpu-preserved c =
    let p = c.args.player.now in
    let i = c.loop-cpu.cpu in
    ap (λ ks. all_lived step_rules (length p.cpus - (i + 1)) (i + 1) p c.args.jiffies ks)
    c.live.ensures
    ∙ sym (lived_more step_rules p (length p.cpus) i c.args.jiffies c.loop-cpu.cpus.items
    (omega (arith, c.loop-cpu-test.true, c.cpus-cpu-end.ensures.count)))
    ∙ c.loop-cpu.invariant

pub returns : goal.returns
returns c =
    let p = c.args.player.now in
    sym (lived_end step_rules p (length p.cpus) c.loop-cpu.cpu c.args.jiffies c.loop-cpu.cpus.items
    (omega (arith, c.loop-cpu-test.false, c.cpus-cpu-end.ensures.count)))
    ∙ c.loop-cpu.invariant
