use Rattle.remote_expiry.proofs.Interrupted.{work_left}
use Rattle.remote_expiry.proofs.interrupting.inside.Goals as goal

pub end-requires : goal.end-requires
end-requires g c =
    record {
      at_work =
          work_left g.N.RunName.table g.N.RunName.opening (g.J.Jobs.replies c.args.jobs.now)
          c.args.pass.now c.work-worked.new.pass c.args.runs.now.runs c.work-worked.new.runs.runs
          c.work-worked.result c.work-worked.ensures c.requires.at_work;
    }
