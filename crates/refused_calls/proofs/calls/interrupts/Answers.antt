use Rattle.std.proofs.Common.{sym, ◌∙◌}
use Rattle.refused_calls.proofs.Firsts.{begun_of_run, stays_its}
use Rattle.refused_calls.proofs.calls.interrupts.Goals as goal

pub interrupt-ended-requires-clause-run : goal.interrupt-ended-requires-clause-run
interrupt-ended-requires-clause-run g c =
    begun_of_run g.N.RunName.table g.N.RunName.opening c.args.pass.now c.requires.first

pub returns : goal.returns
returns g c =
    let table = g.N.RunName.table in
    let e = c.interrupt-ended.ensures in
    record {
      run = (e.new, e.has);
      cpu =
          sym (c.law-2.ensures table e.new e.has)
          ∙ (stays_its g.N.RunName.opening (g.J.Jobs.replies c.args.jobs.now) e.old e.new
          c.new-runs.result.runs c.interrupt-ended.new.runs.runs c.interrupt-ended.result e.told
          ∙ c.law.ensures table e.old e.had);
    }
