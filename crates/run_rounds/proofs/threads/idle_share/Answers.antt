use Rattle.std.proofs.Common.{subst, sym}
use Rattle.run_shares.specs.Doing.{HasDone}
use Rattle.run_shares.proofs.Parting.{none_done}
use Rattle.run_rounds.proofs.threads.idle_share.Goals as goal

pub returns : goal.returns
returns g c = λ jobs.
    let task = c.args.task in
    subst (HasDone g.N.RunName.table g.N.RunName.opening jobs task.due task.ops.items task.pass.cpu
    task.pass) (sym c.new.ensures.items)
    (none_done g.N.RunName.table g.N.RunName.opening jobs task c.requires.may c.requires.not_due
    c.requires.no_ops)
