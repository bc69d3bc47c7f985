use Rattle.std.proofs.Common.{arith, ◌∙◌}
use Rattle.std.proofs.lemmas.Result.{err_from_is_err_and}
use Rattle.play_rules.proofs.Loops.{interrupted_all, interrupted_more}
use Rattle.play_rules.proofs.Plays.{gains_then}
use Rattle.play_driver.proofs.Parts.{same_then}
use Rattle.play_driver.proofs.interrupts.interrupts.Goals as goal

pub loop-cpu-preserved : goal.loop-cpu-preserved
loop-cpu-preserved g c =
    let done = c.in_ok-interrupt_if_due.ensures in
    record {
      rest = interrupted_more _ _ _ _ _ _ _ _ _ _ _ c.loop-cpu.invariant.rest
          (omega (arith, c.loop-cpu-test.true, c.cpus-cpu-end.ensures.count)) done.prints;
      same = same_then _ _ _ _ c.loop-cpu.invariant.same done.same.same;
      online = record {
        online = λ k. done.same.online.online k ∙ c.loop-cpu.invariant.online.online k;
      };
      fit = done.fit;
      gains = gains_then _ _ _ c.loop-cpu.invariant.gains done.gains;
    }

pub returns : goal.returns
returns g c =
    record {
      prints = interrupted_all _ _ _ _ _ _ _ _ _ c.loop-cpu.invariant.rest
          (omega (arith, c.loop-cpu-test.false, c.cpus-cpu-end.ensures.count));
      same = c.loop-cpu.invariant.same;
      fit = c.loop-cpu.invariant.fit;
      gains = c.loop-cpu.invariant.gains;
    }

pub interrupt_if_due-requires-clause-cpu : goal.interrupt_if_due-requires-clause-cpu
interrupt_if_due-requires-clause-cpu g c =
    omega (
      arith,
      c.loop-cpu-test.true,
      c.cpus-cpu-end.ensures.count,
      c.loop-cpu.invariant.same.cpus,
    )

pub interrupt_if_due-requires-clause-online : goal.interrupt_if_due-requires-clause-online
interrupt_if_due-requires-clause-online g c =
    λ k has. c.loop-cpu.invariant.online.online k ∙ c.requires.online k has

pub interrupt_if_due-requires-clause-fit : goal.interrupt_if_due-requires-clause-fit
interrupt_if_due-requires-clause-fit g c = c.loop-cpu.invariant.fit

pub returns-in_err-interrupt_if_due : goal.returns-in_err-interrupt_if_due
returns-in_err-interrupt_if_due g c =
    let p = err_from_is_err_and c.from_residual.result c.from_residual.ensures.1 in
    rw p.1 (record {
      prints = tt;
      same = tt;
      fit = tt;
      gains = gains_then _ _ _ c.loop-cpu.invariant.gains c.in_err-interrupt_if_due.ensures.gains;
    })
