use Rattle.std.proofs.Common.{sym, ap, arith, ◌∙◌}
use Rattle.core_machine.specs.step_play.Rules.StepRules.{step_rules}
use Rattle.view_stat.specs.Watched.{led}
use Rattle.view_stat.proofs.Loops.{led_end, led_more, led_stop}
use Rattle.view_stat.proofs.machine.led.Goals as goal

pub returns-then-not-looks_after : goal.returns-then-not-looks_after
returns-then-not-looks_after c =
    let p = c.args.player.now in
    let looks = rw c.core.ensures at c.looks_after.ensures.looks in
    omega (
      arith,
      ap (λ n. led step_rules n c.args.cpu.0 0 p) (sym c.levels-levels.ensures),
      c.loop-level.invariant,
      led_stop step_rules p c.levels-levels.result c.loop-level.level c.args.cpu.0
          c.loop-level-test.true (sym looks ∙ c.if-not-looks_after.true),
    )

pub loop-level-preserved : goal.loop-level-preserved
loop-level-preserved c =
    let p = c.args.player.now in
    let looks = rw c.core.ensures at c.looks_after.ensures.looks in
    omega (
      arith,
      c.loop-level.invariant,
      led_more step_rules p c.levels-levels.result c.loop-level.level c.args.cpu.0
          c.loop-level-test.true (sym looks ∙ c.if-not-looks_after.false),
    )

pub returns : goal.returns
returns c =
    let p = c.args.player.now in
    omega (
      arith,
      ap (λ n. led step_rules n c.args.cpu.0 0 p) (sym c.levels-levels.ensures),
      c.loop-level.invariant,
      c.loop-level-test.false,
      c.loop-level.auto.level-end,
      led_end step_rules p c.levels-levels.result c.loop-level.level c.args.cpu.0
          (omega (arith, c.loop-level-test.false)),
    )
