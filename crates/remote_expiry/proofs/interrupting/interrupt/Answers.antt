use Rattle.remote_expiry.proofs.Interrupted.{entered_work, told, not_interrupted}
use Rattle.std.proofs.Common.{◌<◌, length, sym, subst}
use Rattle.remote_expiry.proofs.interrupting.interrupt.Goals as goal

pub enter-requires : goal.enter-requires
enter-requires g c =
    let run = c.requires.run in
    record {
      enterable = record {
        pass = run.0;
        seated = run.1;
        rest = c.requires.rest run.0 run.1;
        cpu =
            subst (λ n. n < length g.N.RunName.opening.cpus)
            (sym (c.law.ensures g.N.RunName.table run.0 run.1)) c.requires.cpu;
      };
    }

pub inside-requires-clause-at_work : goal.inside-requires-clause-at_work
inside-requires-clause-at_work g c =
    let run = c.requires.run in
    let law = c.law.ensures g.N.RunName.table run.0 run.1 in
    entered_work g.N.RunName.table g.N.RunName.opening c.args.pass.now c.enter.new.pass
    record {
      pass = run.0;
      seated = run.1;
      rest = c.requires.rest run.0 run.1;
      cpu = subst (λ n. n < length g.N.RunName.opening.cpus) (sym law) c.requires.cpu;
    }
    c.in-Ok.ensures

pub returns-in-Ok : goal.returns-in-Ok
returns-in-Ok g c =
    let table = g.N.RunName.table in
    let run = c.requires.run in
    let law = c.law.ensures table run.0 run.1 in
    let entered = c.in-Ok.ensures in
    told table g.N.RunName.opening (g.J.Jobs.replies c.args.jobs.now) c.args.pass.now
    c.enter.new.pass c.inside.new.pass c.args.runs.now.runs c.inside.new.runs.runs
    c.inside.result
    record {
      pass = run.0;
      seated = run.1;
      rest = c.requires.rest run.0 run.1;
      cpu = subst (λ n. n < length g.N.RunName.opening.cpus) (sym law) c.requires.cpu;
    }
    entered (c.law.ensures table entered.before entered.had) c.inside.ensures

pub returns-in-Err : goal.returns-in-Err
returns-in-Err g c =
    not_interrupted g.N.RunName.table g.N.RunName.opening (g.J.Jobs.replies c.args.jobs.now)
    c.args.pass.now c.enter.new.pass c.args.runs.now.runs c.in-Err.fault c.in-Err.ensures

pub inside-requires-clause-now : goal.inside-requires-clause-now
inside-requires-clause-now g c = c.requires.now

pub inside-requires-clause-in_time : goal.inside-requires-clause-in_time
inside-requires-clause-in_time g c = c.requires.in_time
