use Rattle.std.proofs.Common.{arith, sym, subst, ◌∙◌}
use Rattle.std.proofs.lemmas.Result.{err_from_is_err_and}
use Rattle.play_rules.specs.Interrupts.{drains, looks}
use Rattle.play_rules.specs.Parts.{Prints, and_then, counting, silent}
use Rattle.play_rules.proofs.Plays.{gains_then, prints_at, prints_counting, prints_silent}
use Rattle.play_rules.proofs.Plays.{prints_then}
use Rattle.play_driver.proofs.Parts.{inside_then}
use Rattle.play_driver.proofs.interrupts.interrupt.Goals as goal

pub enter-requires-clause-cpu : goal.enter-requires-clause-cpu
enter-requires-clause-cpu g c = c.requires.cpu

pub enter-requires-clause-online : goal.enter-requires-clause-online
enter-requires-clause-online g c = c.requires.online

pub enter-requires-clause-fit : goal.enter-requires-clause-fit
enter-requires-clause-fit g c = c.requires.fit

pub drains-requires-clause-cpu : goal.drains-requires-clause-cpu
drains-requires-clause-cpu g c = omega (arith, c.requires.cpu, c.enter.ensures.same.cpus)

pub drains-requires-clause-fit : goal.drains-requires-clause-fit
drains-requires-clause-fit g c = c.enter.ensures.fit

pub returns-in_err-drains : goal.returns-in_err-drains
returns-in_err-drains g c =
    let p = err_from_is_err_and c.from_residual.result c.from_residual.ensures.1 in
    rw p.1 (record {
      prints = tt;
      same = tt;
      fit = tt;
      gains = rw (sym c.count.ensures.text) c.in_err-drains.ensures.gains;
    })

pub looks-requires-clause-cpu : goal.looks-requires-clause-cpu
looks-requires-clause-cpu g c =
    omega (arith, c.requires.cpu, c.enter.ensures.same.cpus, c.in_ok-drains.ensures.same.same.cpus)

pub looks-requires-clause-fit : goal.looks-requires-clause-fit
looks-requires-clause-fit g c = c.in_ok-drains.ensures.fit

pub returns-in_err-looks : goal.returns-in_err-looks
returns-in_err-looks g c =
    let left = c.from_residual-in_err-looks in
    let p = err_from_is_err_and left.result left.ensures.1 in
    rw p.1 (record {
      prints = tt;
      same = tt;
      fit = tt;
      gains = rw (sym c.count.ensures.text)
          (gains_then _ _ _ c.in_ok-drains.ensures.gains c.in_err-looks.ensures.gains);
    })

pub end-requires-clause-cpu : goal.end-requires-clause-cpu
end-requires-clause-cpu g c =
    omega (
      arith,
      c.requires.cpu,
      c.enter.ensures.same.cpus,
      c.in_ok-drains.ensures.same.same.cpus,
      c.in_ok-looks.ensures.same.same.cpus,
    )

pub end-requires-clause-fit : goal.end-requires-clause-fit
end-requires-clause-fit g c = c.in_ok-looks.ensures.fit

pub returns : goal.returns
returns g c =
    let r = g.M.PlayMachine.rules in
    let jobs = g.J.Jobs.replies c.args.jobs.now in
    let world = g.M.PlayMachine.world in
    let s = world c.args.machine.now in
    let cpu = c.args.cpu.0 in
    let told = c.count.ensures in
    let entered = c.enter.ensures in
    let drained = c.in_ok-drains.ensures in
    let looked = c.in_ok-looks.ensures in
    let levels = drained.same.same.levels ∙ entered.same.levels in
    let enters = prints_at (counting (r.entered s cpu)) _ _ _ _ entered.state
    (prints_counting _ _ _ told.text told.tally told.work) in
    let drain = prints_then (counting (r.entered s cpu)) (drains jobs r cpu) _ _ _ _ _ enters
    drained.prints in
    let look = prints_then (and_then (counting (r.entered s cpu)) (drains jobs r cpu))
    (looks jobs r (r.levels s) cpu 0) _ _ _ _ _ drain
    (subst (λ n. Prints (looks jobs r n cpu 0 (world c.drains.new.machine))
    c.drains.new.telling c.looks.new.telling (world c.looks.new.machine)) levels
    looked.prints) in
    record {
      prints = prints_then
          (and_then (and_then (counting (r.entered s cpu)) (drains jobs r cpu))
          (looks jobs r (r.levels s) cpu 0))
          (λ t. silent (r.ended t cpu)) _ _ _ _ _ look
          (prints_at _ _ _ _ _ c.end.ensures.state (prints_silent _ _));
      same = inside_then _ _ _ _ (record { same = entered.same; online = entered.online })
          (inside_then _ _ _ _ drained.same (inside_then _ _ _ _ looked.same
          (record { same = c.end.ensures.same; online = c.end.ensures.online })));
      fit = c.end.ensures.fit;
      gains = rw (sym told.text) (gains_then _ _ _ drained.gains looked.gains);
    }
