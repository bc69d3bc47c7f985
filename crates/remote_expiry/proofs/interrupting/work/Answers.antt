use Rattle.std.proofs.Common.{[], arith}
use Rattle.std.proofs.lemmas.Result.{err_from_is_err_and}
use Rattle.shared_acts.proofs.OwnDrains.{err_as}
use Rattle.shared_acts.proofs.Served.{still_at_work}
use Rattle.remote_expiry.specs.Trying.{HasWorked, StopsPass}
use Rattle.remote_expiry.proofs.Stopped.{more_stops}
use Rattle.remote_expiry.proofs.Worked.{worked_last}
use Rattle.remote_expiry.proofs.interrupting.work.Goals as goal

pub returns-in_err-drain_all : goal.returns-in_err-drain_all
returns-in_err-drain_all g c =
    let table = g.N.RunName.table in
    let held = c.args.pass.now in
    let after = c.drain_all.new.pass in
    let first = c.args.runs.now.runs in
    let last = c.drain_all.new.runs.runs in
    let e = err_from_is_err_and c.from_residual.result c.from_residual.ensures.1 in
    err_as c.from_residual.result
    (λ done. HasWorked table g.N.RunName.opening (g.J.Jobs.replies c.args.jobs.now) held after first
    last) (StopsPass table g.N.RunName.opening (g.J.Jobs.replies c.args.jobs.now) 1536 held after
    first last) e.0 e.1
    (more_stops table g.N.RunName.opening (g.J.Jobs.replies c.args.jobs.now) held after first last 0
    1536 (omega arith) c.in_err-drain_all.ensures)

pub look_up-requires-clause-at_work : goal.look_up-requires-clause-at_work
look_up-requires-clause-at_work g c =
    let drains = c.in_ok-drain_all.ensures in
    still_at_work g.N.RunName.table g.N.RunName.opening [] 1537 1537 c.args.pass.now
    c.drain_all.new.pass drains.receipts drains.did 0 c.requires.at_work drains.works.piece
    (omega arith)

pub returns : goal.returns
returns g c =
    worked_last g.N.RunName.table g.N.RunName.opening (g.J.Jobs.replies c.args.jobs.now)
    c.args.pass.now c.drain_all.new.pass c.look_up.new.pass c.args.runs.now.runs
    c.drain_all.new.runs.runs c.look_up.new.runs.runs c.look_up.result c.in_ok-drain_all.ensures
    c.look_up.ensures

pub look_up-requires-clause-now : goal.look_up-requires-clause-now
look_up-requires-clause-now g c = c.requires.now

pub look_up-requires-clause-in_time : goal.look_up-requires-clause-in_time
look_up-requires-clause-in_time g c = c.requires.in_time

pub drain_all-requires-clause-now : goal.drain_all-requires-clause-now
drain_all-requires-clause-now g c = c.requires.now

pub drain_all-requires-clause-in_time : goal.drain_all-requires-clause-in_time
drain_all-requires-clause-in_time g c = c.requires.in_time

pub drain_all-requires-clause-at_work : goal.drain_all-requires-clause-at_work
drain_all-requires-clause-at_work g c = c.requires.at_work
