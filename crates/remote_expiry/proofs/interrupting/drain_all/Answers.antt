use Rattle.std.proofs.Common.{[]}
use Rattle.std.proofs.lemmas.Result.{err_from_is_err_and}
use Rattle.shared_acts.proofs.Gaining.{still_inside}
use Rattle.shared_acts.proofs.OwnDrains.{err_as}
use Rattle.shared_acts.proofs.Served.{inside_of}
use Rattle.remote_expiry.specs.Trying.{HasDrainedAll, StopsPass}
use Rattle.remote_expiry.proofs.Worked.{drained_last, second_off}
use Rattle.remote_expiry.proofs.interrupting.drain_all.Goals as goal

pub drain_own-requires-clause-inside : goal.drain_own-requires-clause-inside
drain_own-requires-clause-inside g c =
    inside_of g.N.RunName.table g.N.RunName.opening [] 1537 c.args.pass.now c.requires.at_work

pub returns-in_err-drain_own : goal.returns-in_err-drain_own
returns-in_err-drain_own g c =
    let table = g.N.RunName.table in
    let held = c.args.pass.now in
    let after = c.drain_own.new.pass in
    let first = c.args.runs.now.runs in
    let last = c.drain_own.new.runs.runs in
    let e = err_from_is_err_and c.from_residual.result c.from_residual.ensures.1 in
    err_as c.from_residual.result
    (λ done. HasDrainedAll table g.N.RunName.opening (g.J.Jobs.replies c.args.jobs.now) held after first
    last) (StopsPass table g.N.RunName.opening (g.J.Jobs.replies c.args.jobs.now) 0 held
    after first last) e.0 e.1 c.in_err-drain_own.ensures

pub drain_own-requires-2-clause-inside : goal.drain_own-requires-2-clause-inside
drain_own-requires-2-clause-inside g c =
    let table = g.N.RunName.table in
    let o = g.N.RunName.opening in
    let one = c.in_ok-drain_own.ensures in
    still_inside table o c.args.pass.now c.drain_own.new.pass one.receipts one.did 0
    (inside_of table o [] 1537 c.args.pass.now c.requires.at_work) one.works.piece

pub returns-in_err-drain_own-2 : goal.returns-in_err-drain_own-2
returns-in_err-drain_own-2 g c =
    let table = g.N.RunName.table in
    let o = g.N.RunName.opening in
    let jobs = g.J.Jobs.replies c.args.jobs.now in
    let held = c.args.pass.now in
    let mid = c.drain_own.new.pass in
    let after = c.drain_own-2.new.pass in
    let first = c.args.runs.now.runs in
    let now = c.drain_own.new.runs.runs in
    let last = c.drain_own-2.new.runs.runs in
    let e = err_from_is_err_and c.from_residual-in_err-drain_own-2.result c.from_residual-in_err-drain_own-2.ensures.1 in
    err_as c.from_residual-in_err-drain_own-2.result (λ done. HasDrainedAll table o jobs held after first last)
    (StopsPass table o jobs 0 held after first last) e.0 e.1
    (second_off table o jobs held mid first now c.in_ok-drain_own.ensures after last
    c.in_err-drain_own-2.ensures)

pub drain_own-requires-3-clause-inside : goal.drain_own-requires-3-clause-inside
drain_own-requires-3-clause-inside g c =
    let table = g.N.RunName.table in
    let o = g.N.RunName.opening in
    let one = c.in_ok-drain_own.ensures in
    let two = c.in_ok-drain_own-2.ensures in
    still_inside table o c.drain_own.new.pass c.drain_own-2.new.pass two.receipts two.did 0
    (still_inside table o c.args.pass.now c.drain_own.new.pass one.receipts one.did 0
    (inside_of table o [] 1537 c.args.pass.now c.requires.at_work) one.works.piece) two.works.piece

pub returns : goal.returns
returns g c =
    drained_last g.N.RunName.table g.N.RunName.opening (g.J.Jobs.replies c.args.jobs.now)
    c.args.pass.now c.drain_own.new.pass c.args.runs.now.runs c.drain_own.new.runs.runs
    c.in_ok-drain_own.ensures c.drain_own-2.new.pass c.drain_own-2.new.runs.runs
    c.in_ok-drain_own-2.ensures c.drain_own-3.new.pass c.drain_own-3.new.runs.runs
    c.drain_own-3.result c.drain_own-3.ensures

pub drain_own-requires-clause-now : goal.drain_own-requires-clause-now
drain_own-requires-clause-now g c = c.requires.now

pub drain_own-requires-clause-in_time : goal.drain_own-requires-clause-in_time
drain_own-requires-clause-in_time g c = c.requires.in_time

pub drain_own-requires-2-clause-now : goal.drain_own-requires-2-clause-now
drain_own-requires-2-clause-now g c = c.requires.now

pub drain_own-requires-2-clause-in_time : goal.drain_own-requires-2-clause-in_time
drain_own-requires-2-clause-in_time g c = c.requires.in_time

pub drain_own-requires-3-clause-now : goal.drain_own-requires-3-clause-now
drain_own-requires-3-clause-now g c = c.requires.now

pub drain_own-requires-3-clause-in_time : goal.drain_own-requires-3-clause-in_time
drain_own-requires-3-clause-in_time g c = c.requires.in_time
