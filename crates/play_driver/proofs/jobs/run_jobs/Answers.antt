use Rattle.std.proofs.Common.{arith}
use Rattle.std.proofs.lemmas.Result.{err_from_is_err_and}
use Rattle.play_rules.proofs.Loops.{jobs_all, jobs_more}
use Rattle.play_rules.proofs.Plays.{gains_then}
use Rattle.play_driver.proofs.Parts.{inside_then}
use Rattle.play_driver.proofs.jobs.run_jobs.Goals as goal

pub loop-item-preserved : goal.loop-item-preserved
loop-item-preserved g c =
    let done = c.in_ok-run_job.ensures in
    record {
      rest = jobs_more _ _ _ _ _ _ _ _ _ _ _ _ _ c.loop-item.invariant.rest c.loop-item-test.true done.prints;
      same = inside_then _ _ _ _ c.loop-item.invariant.same done.same;
      fit = λ ph may was. done.fit ph may (c.loop-item.invariant.fit ph may was);
      gains = gains_then _ _ _ c.loop-item.invariant.gains done.gains;
    }

pub returns : goal.returns
returns g c =
    record {
      prints = jobs_all _ _ _ _ _ _ _ _ _ _ c.loop-item.invariant.rest c.loop-item-test.false;
      same = c.loop-item.invariant.same;
      fit = c.loop-item.invariant.fit;
      gains = c.loop-item.invariant.gains;
    }

pub run_job-requires-clause-runner : goal.run_job-requires-clause-runner
run_job-requires-clause-runner g c =
    omega (arith, c.requires.runner, c.loop-item.invariant.same.same.cpus)

pub run_job-requires-clause-fit : goal.run_job-requires-clause-fit
run_job-requires-clause-fit g c =
    record {
      phase = c.requires.fit.phase;
      allowed = c.requires.fit.allowed;
      fit = c.loop-item.invariant.fit _ c.requires.fit.allowed c.requires.fit.fit;
    }

pub returns-in_err-run_job : goal.returns-in_err-run_job
returns-in_err-run_job g c =
    let p = err_from_is_err_and c.from_residual.result c.from_residual.ensures.1 in
    rw p.1 (record {
      prints = tt;
      same = tt;
      fit = tt;
      gains = gains_then _ _ _ c.loop-item.invariant.gains c.in_err-run_job.ensures.gains;
    })
