use Rattle.std.proofs.Common.{◌+◌, ◌-◌, sym, ap, arith, length, ◌∙◌}
use Rattle.core_machine.specs.step_play.Rules.StepRules.{step_rules}
use Rattle.view_counts.specs.Wakeups.{with_reason}
use Rattle.view_stat.specs.Stats.{is_due}
use Rattle.view_stat.specs.Watched.{all_reasons}
use Rattle.view_stat.proofs.Loops.{reasons_end, reasons_more}
use Rattle.view_stat.proofs.foreseeing.foresee_all.Goals as goal

pub loop-cpu-preserved : goal.loop-cpu-preserved
loop-cpu-preserved c =
    let p = c.args.player.now in
    let i = c.loop-cpu.cpu in
    ap (all_reasons step_rules is_due (length p.cpus - (i + 1)) (i + 1) p)
    (c.set_reason.ensures
    ∙ ap (λ x. with_reason i x c.loop-cpu.reasons.items) c.reason_of-reason.ensures)
    ∙ sym (reasons_more step_rules p is_due (length p.cpus) i c.loop-cpu.reasons.items
    (omega (arith, c.loop-cpu-test.true, c.cpus-cpu-end.ensures.count)))
    ∙ c.loop-cpu.invariant

pub returns : goal.returns
returns c =
    let p = c.args.player.now in
    sym (reasons_end step_rules p is_due (length p.cpus) c.loop-cpu.cpu c.loop-cpu.reasons.items
    (omega (arith, c.loop-cpu-test.false, c.cpus-cpu-end.ensures.count)))
    ∙ c.loop-cpu.invariant
