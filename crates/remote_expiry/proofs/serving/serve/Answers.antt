use Rattle.std.proofs.Common.{List, [], ◌∷◌, sym, ap, subst}
use Rattle.std.specs.Prelude.{not}
use Rattle.std.proofs.lemmas.Result.{err_from_is_err_and}
use Rattle.wheel_core.specs.declared.item.Item.{Item}
use Rattle.shared_acts.specs.Tries.{HasTakenTimers, HasTried}
use Rattle.shared_acts.proofs.OwnDrains.{err_as}
use Rattle.shared_acts.proofs.Served.{has_left, has_taken, inside_of}
use Rattle.shared_acts.proofs.Served.{taken_work, tried_left}
use Rattle.remote_expiry.specs.Trying.{StopsPass}
use Rattle.remote_expiry.proofs.Stopped.{marked_work, no_stop, tried_either}
use Rattle.remote_expiry.proofs.serving.serve.Goals as goal

pub returns-in_err-take : goal.returns-in_err-take
returns-in_err-take g c =
    let table = g.N.RunName.table in
    let held = c.args.pass.now in
    let after = c.take.new.pass in
    let first = c.args.runs.now.runs in
    let last = c.take.new.runs.runs in
    let e = err_from_is_err_and c.from_residual.result c.from_residual.ensures.1 in
    err_as c.from_residual.result
    (λ done. HasTried table g.N.RunName.opening (g.J.Jobs.replies c.args.jobs.now) c.args.due.0 held
    after first last) (StopsPass table g.N.RunName.opening (g.J.Jobs.replies c.args.jobs.now) 1 held
    after first last) e.0 e.1
    (no_stop table g.N.RunName.opening (g.J.Jobs.replies c.args.jobs.now) held after 1 first last
    c.in_err-take.ensures.runs c.in_err-take.ensures.done)

pub returns-then-not-branch : goal.returns-then-not-branch
returns-then-not-branch g c =
    let table = g.N.RunName.table in
    let o = g.N.RunName.opening in
    let d = c.args.due.0 in
    let held = c.args.pass.now in
    let mid = c.take.new.pass in
    tried_left table o (g.J.Jobs.replies c.args.jobs.now) d held mid c.args.runs.now.runs
    c.take.new.runs.runs c.in_ok-take.ensures.runs
    (has_left table o d c.take.new.items.items held mid c.in_ok-take.field-0
    (ap not c.if-not-branch.true)
    c.in_ok-take.ensures.done)

pub run_all-ended-requires-clause-inside : goal.run_all-ended-requires-clause-inside
run_all-ended-requires-clause-inside g c =
    let table = g.N.RunName.table in
    let o = g.N.RunName.opening in
    let d = c.args.due.0 in
    let held = c.args.pass.now in
    let mid = c.take.new.pass in
    let items = c.take.new.items.items in
    inside_of table o (d ∷ []) 1 mid
    (taken_work table o d items held mid c.requires.at_work
    (has_taken table o d items held mid c.in_ok-take.field-0
    (ap not c.if-not-branch.false)
    c.in_ok-take.ensures.done))

pub let_go-requires-clause-marked : goal.let_go-requires-clause-marked
let_go-requires-clause-marked g c =
    let table = g.N.RunName.table in
    let o = g.N.RunName.opening in
    let d = c.args.due.0 in
    let held = c.args.pass.now in
    let mid = c.take.new.pass in
    let items = c.take.new.items.items in
    marked_work table o (g.J.Jobs.replies c.args.jobs.now) d c.deref.result.now mid
    c.run_all-ended.new.pass c.take.new.runs.runs c.run_all-ended.new.runs.runs
    c.run_all-ended.result
    (taken_work table o d items held mid c.requires.at_work
    (has_taken table o d items held mid c.in_ok-take.field-0
    (ap not c.if-not-branch.false)
    c.in_ok-take.ensures.done)) c.run_all-ended.ensures

pub returns : goal.returns
returns g c =
    let table = g.N.RunName.table in
    let o = g.N.RunName.opening in
    let d = c.args.due.0 in
    let held = c.args.pass.now in
    let mid = c.take.new.pass in
    let items = c.take.new.items.items in
    let taken = has_taken table o d items held mid c.in_ok-take.field-0
    (ap not c.if-not-branch.false)
    c.in_ok-take.ensures.done in
    tried_either table o (g.J.Jobs.replies c.args.jobs.now) d c.deref.result.now held mid
    c.run_all-ended.new.pass c.let_go.new.pass c.args.runs.now.runs c.take.new.runs.runs
    c.run_all-ended.new.runs.runs c.run_all-ended.result c.requires.at_work
    (subst (λ (xs : List Item). HasTakenTimers table o d xs held mid) (sym c.deref.ensures.value) taken)
    c.in_ok-take.ensures.runs c.run_all-ended.ensures c.let_go.ensures

pub take-requires-clause-at_work : goal.take-requires-clause-at_work
take-requires-clause-at_work g c = c.requires.at_work

pub take-requires-clause-placed : goal.take-requires-clause-placed
take-requires-clause-placed g c = c.requires.placed

pub take-requires-clause-due : goal.take-requires-clause-due
take-requires-clause-due g c = c.requires.due

pub take-requires-clause-now : goal.take-requires-clause-now
take-requires-clause-now g c = c.requires.now

pub take-requires-clause-none : goal.take-requires-clause-none
take-requires-clause-none g c = c.new-items.ensures.items

pub run_all-ended-requires-clause-timers : goal.run_all-ended-requires-clause-timers
run_all-ended-requires-clause-timers g c =
    rw c.deref.ensures.value (c.in_ok-take.ensures.runnable c.if-not-branch.false).timers

pub run_all-ended-requires-clause-room : goal.run_all-ended-requires-clause-room
run_all-ended-requires-clause-room g c =
    rw c.deref.ensures.value (c.in_ok-take.ensures.runnable c.if-not-branch.false).places

pub run_all-ended-requires-clause-now : goal.run_all-ended-requires-clause-now
run_all-ended-requires-clause-now g c = c.requires.now

pub run_all-ended-requires-clause-in_time : goal.run_all-ended-requires-clause-in_time
run_all-ended-requires-clause-in_time g c = c.requires.in_time

pub let_go-requires-clause-due : goal.let_go-requires-clause-due
let_go-requires-clause-due g c = c.requires.due

pub let_go-requires-clause-now : goal.let_go-requires-clause-now
let_go-requires-clause-now g c = c.requires.now
