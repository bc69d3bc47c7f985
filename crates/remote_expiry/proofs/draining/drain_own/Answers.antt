use Rattle.std.proofs.Common.{◌∙◌, List, [], subst}
use Rattle.std.specs.Prelude.{MatchResult}
use Rattle.std.proofs.lemmas.Result.{err_from_is_err_and}
use Rattle.wheel_core.specs.declared.item.Item.{Item}
use Rattle.shared_acts.specs.declared.runs.Ran.{Ran}
use Rattle.shared_acts.proofs.Gaining.{still_inside}
use Rattle.shared_acts.proofs.OwnDrains.{err_as}
use Rattle.remote_expiry.specs.Running.{RanAllArming, RanInPart}
use Rattle.remote_expiry.specs.Trying.{DrainsOwn, StopsPass}
use Rattle.remote_expiry.proofs.Stopped.{drained, no_stop}
use Rattle.remote_expiry.proofs.draining.drain_own.Goals as goal

pub returns-in_err-hand_own : goal.returns-in_err-hand_own
returns-in_err-hand_own g c =
    let table = g.N.RunName.table in
    let held = c.args.pass.now in
    let mid = c.hand_own.new.pass in
    let before = c.args.runs.now.runs in
    let now = c.hand_own.new.runs.runs in
    let e = err_from_is_err_and c.from_residual.result c.from_residual.ensures.1 in
    err_as c.from_residual.result
    (λ done. DrainsOwn table g.N.RunName.opening (g.J.Jobs.replies c.args.jobs.now) c.args.class
    held mid before now) (StopsPass table g.N.RunName.opening (g.J.Jobs.replies c.args.jobs.now) 0 held
    mid before now) e.0 e.1
    (no_stop table g.N.RunName.opening (g.J.Jobs.replies c.args.jobs.now) held mid 0 before now
    c.in_err-hand_own.ensures.runs c.in_err-hand_own.ensures.done)

pub run_all-requires-clause-inside : goal.run_all-requires-clause-inside
run_all-requires-clause-inside g c =
    let out = c.in_ok-hand_own.ensures.done in
    still_inside g.N.RunName.table g.N.RunName.opening c.args.pass.now c.hand_own.new.pass
    out.receipts [] 0 c.requires.inside out.piece

pub returns : goal.returns
returns g c =
    let table = g.N.RunName.table in
    let o = g.N.RunName.opening in
    let jobs = g.J.Jobs.replies c.args.jobs.now in
    let held = c.args.pass.now in
    let mid = c.hand_own.new.pass in
    let after = c.run_all.new.pass in
    let home = c.cpu.result.0 in
    let now = c.run_all.new.runs.runs in
    let out = c.in_ok-hand_own.ensures.done in
    drained table o jobs c.args.class held mid after c.hand_own.new.items.items
    c.hand_own.new.runs.capacity c.args.runs.now.runs now out home c.run_all.result
    (c.cpu.ensures ∙ out.piece.cpu)
    (subst (λ (xs : List Item). MatchResult c.run_all.result
    (λ done. RanAllArming table o jobs home xs mid after c.args.runs.now.runs now)
    (λ e. RanInPart table o jobs home xs mid after c.args.runs.now.runs now)) c.deref.ensures.value
    (subst (λ (before : List Ran). MatchResult c.run_all.result
    (λ done. RanAllArming table o jobs home c.deref.result.now mid after before now)
    (λ e. RanInPart table o jobs home c.deref.result.now mid after before now)) c.hand_own.ensures.runs
    c.run_all.ensures))

pub run_all-requires-clause-now : goal.run_all-requires-clause-now
run_all-requires-clause-now g c = c.requires.now

pub run_all-requires-clause-in_time : goal.run_all-requires-clause-in_time
run_all-requires-clause-in_time g c = c.requires.in_time

pub run_all-requires-clause-timers : goal.run_all-requires-clause-timers
run_all-requires-clause-timers g c =
    rw c.deref.ensures.value c.in_ok-hand_own.ensures.done.timers

pub run_all-requires-clause-room : goal.run_all-requires-clause-room
run_all-requires-clause-room g c =
    rw (c.deref.ensures.value, c.hand_own.ensures.runs) c.in_ok-hand_own.ensures.done.room

pub hand_own-requires-clause-inside : goal.hand_own-requires-clause-inside
hand_own-requires-clause-inside g c = c.requires.inside

pub hand_own-requires-clause-now : goal.hand_own-requires-clause-now
hand_own-requires-clause-now g c = c.requires.now

pub hand_own-requires-clause-none : goal.hand_own-requires-clause-none
hand_own-requires-clause-none g c = c.new-items.ensures.items
