use Rattle.std.proofs.Common.{arith, refl}
use Rattle.std.proofs.lemmas.Result.{err_from_is_err_and, on_ok_weaker}
use Rattle.tm_base.specs.declared.names.Class.TheVariants.{Deferrable, Global}
use Rattle.play_rules.specs.Interrupts.{drain}
use Rattle.play_rules.specs.Parts.{Prints}
use Rattle.play_rules.specs.Phases.{MayDrain, StaysFit, inside}
use Rattle.play_rules.proofs.Plays.{gains_then, prints_then}
use Rattle.play_driver.specs.PartLeaves.{SameInside}
use Rattle.play_driver.proofs.Parts.{inside_then}
use Rattle.play_driver.proofs.interrupts.drains.Goals as goal

pub drain-requires-clause-home : goal.drain-requires-clause-home
drain-requires-clause-home g c = c.requires.cpu

pub drain-requires-clause-runner : goal.drain-requires-clause-runner
drain-requires-clause-runner g c = c.requires.cpu

pub drain-requires-clause-fit : goal.drain-requires-clause-fit
drain-requires-clause-fit g c =
    record {
      phase = inside c.args.cpu.0;
      allowed = (refl, refl);
      fit = c.requires.fit;
    }

pub returns-in_err-drain : goal.returns-in_err-drain
returns-in_err-drain g c =
    let p = err_from_is_err_and c.from_residual.result c.from_residual.ensures.1 in
    rw p.1 (record {
      prints = tt;
      same = tt;
      fit = tt;
      gains = c.in_err-drain.ensures.gains;
    })

pub drain-requires-2-clause-home : goal.drain-requires-2-clause-home
drain-requires-2-clause-home g c =
    omega (arith, c.requires.cpu, c.in_ok-drain.ensures.same.same.cpus)

pub drain-requires-2-clause-runner : goal.drain-requires-2-clause-runner
drain-requires-2-clause-runner g c =
    omega (arith, c.requires.cpu, c.in_ok-drain.ensures.same.same.cpus)

pub drain-requires-2-clause-fit : goal.drain-requires-2-clause-fit
drain-requires-2-clause-fit g c =
    record {
      phase = inside c.args.cpu.0;
      allowed = (refl, refl);
      fit = c.in_ok-drain.ensures.fit (inside c.args.cpu.0) (refl, refl) c.requires.fit;
    }

pub returns-in_err-drain-2 : goal.returns-in_err-drain-2
returns-in_err-drain-2 g c =
    let left = c.from_residual-in_err-drain-2 in
    let p = err_from_is_err_and left.result left.ensures.1 in
    rw p.1 (record {
      prints = tt;
      same = tt;
      fit = tt;
      gains = gains_then _ _ _ c.in_ok-drain.ensures.gains c.in_err-drain-2.ensures.gains;
    })

pub drain-requires-3-clause-home : goal.drain-requires-3-clause-home
drain-requires-3-clause-home g c =
    omega (
      arith,
      c.requires.cpu,
      c.in_ok-drain.ensures.same.same.cpus,
      c.in_ok-drain-2.ensures.same.same.cpus,
    )

pub drain-requires-3-clause-runner : goal.drain-requires-3-clause-runner
drain-requires-3-clause-runner g c =
    omega (
      arith,
      c.requires.cpu,
      c.in_ok-drain.ensures.same.same.cpus,
      c.in_ok-drain-2.ensures.same.same.cpus,
    )

pub drain-requires-3-clause-fit : goal.drain-requires-3-clause-fit
drain-requires-3-clause-fit g c =
    record {
      phase = inside c.args.cpu.0;
      allowed = (refl, refl);
      fit = c.in_ok-drain-2.ensures.fit (inside c.args.cpu.0) (refl, refl)
          (c.in_ok-drain.ensures.fit (inside c.args.cpu.0) (refl, refl) c.requires.fit);
    }

pub returns : goal.returns
returns g c =
    let r = g.M.PlayMachine.rules in
    let jobs = g.J.Jobs.replies c.args.jobs.now in
    let cpu = c.args.cpu.0 in
    let s = g.M.PlayMachine.world c.drain-2.new.machine in
    let told = c.drain-2.new.telling in
    let after = g.M.PlayMachine.world c.drain-3.new.machine in
    let first = c.in_ok-drain.ensures in
    let second = c.in_ok-drain-2.ensures in
    let last = c.drain-3.ensures in
    let two = prints_then _ (drain jobs r cpu Global cpu) _ _ _ _ _ first.prints second.prints in
    let fits = second.fit (inside cpu) (refl, refl)
    (first.fit (inside cpu) (refl, refl) c.requires.fit) in
    record {
      prints = on_ok_weaker
          {P = Prints (drain jobs r cpu Deferrable cpu s) told c.drain-3.new.telling after}
          _ (prints_then _ (drain jobs r cpu Deferrable cpu) _ _ _ _ _ two) last.prints;
      same = on_ok_weaker {P = SameInside r s after} _
          (inside_then _ _ _ _ (inside_then _ _ _ _ first.same second.same)) last.same;
      fit = on_ok_weaker
          {P = StaysFit g.M.PlayMachine.Fit (λ ph. MayDrain ph cpu Deferrable cpu) s after} _
          (λ stays. stays (inside cpu) (refl, refl) fits) last.fit;
      gains = gains_then _ _ _ first.gains (gains_then _ _ _ second.gains last.gains);
    }
