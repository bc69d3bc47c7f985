use Rattle.std.proofs.Common.{◌<◌, length, sym, subst}
use Rattle.core_world.specs.World.{World}
use Rattle.shared_timers.specs.Exchanging.{timer_word}
use Rattle.shared_looks.proofs.Looks.{of_run, still_of}
use Rattle.shared_calls.specs.Cancels.{HasTriedCancel}
use Rattle.shared_calls.proofs.Trying.{came_to, elsewhere}
use Rattle.shared_calls.proofs.cancelling.try_cancel.Goals as goal

pub cancel_at-requires-clause-run : goal.cancel_at-requires-clause-run
cancel_at-requires-clause-run g c =
    let o : World = g.N.RunName.opening in
    of_run g.N.RunName.table o c.see_timer-found.new.self
    (still_of g.N.RunName.table o c.args.pass.now c.see_timer-found.new.self
    (timer_word o c.args.timer.0) c.see_timer-found.result c.requires.run
    c.see_timer-found.ensures.remembered)

pub returns-in-Ok : goal.returns-in-Ok
returns-in-Ok g c =
    let o : World = g.N.RunName.opening in
    let run = c.requires.run in
    let spot = c.in-Some.spot in
    let low : spot.cpu.0 < length o.cpus = subst (λ (w : World). spot.cpu.0 < length w.cpus)
    run.opening
    (c.see_timer-found.ensures.named run.pass run.seated spot (sym c.in-Some.ensures.exact)) in
    subst (HasTriedCancel g.N.RunName.table o c.args.timer.0 c.args.line c.args.pass.now
    c.cancel_at.new.pass) (sym c.outcome.ensures)
    (came_to g.N.RunName.table o c.args.timer.0 c.args.line c.see_timer-found.result spot
    c.args.pass.now c.see_timer-found.new.self c.cancel_at.new.pass c.in-Ok.ensures.0
    c.see_timer-found.ensures.remembered c.in-Some.ensures.exact low c.in-Ok.ensures.1
    c.in-Ok.taken c.in-Ok.ensures.2)

pub returns-in-Err : goal.returns-in-Err
returns-in-Err g c =
    let o : World = g.N.RunName.opening in
    let run = c.requires.run in
    let spot = c.in-Some.spot in
    let low : spot.cpu.0 < length o.cpus = subst (λ (w : World). spot.cpu.0 < length w.cpus)
    run.opening
    (c.see_timer-found.ensures.named run.pass run.seated spot (sym c.in-Some.ensures.exact)) in
    elsewhere o c.args.timer.0 c.see_timer-found.result spot c.args.pass.now
    c.see_timer-found.new.self c.cancel_at.new.pass c.see_timer-found.ensures.remembered
    c.in-Some.ensures.exact low c.in-Err.ensures.2

pub see_timer-found-requires-clause-run : goal.see_timer-found-requires-clause-run
see_timer-found-requires-clause-run g c = (c.requires.run.pass, c.requires.run.seated)

pub see_timer-found-requires-clause-timer : goal.see_timer-found-requires-clause-timer
see_timer-found-requires-clause-timer g c = c.requires.timer

pub cancel_at-requires-clause-cpu : goal.cancel_at-requires-clause-cpu
cancel_at-requires-clause-cpu g c =
    let run = c.requires.run in
    let spot = c.in-Some.spot in
    subst (λ (w : World). spot.cpu.0 < length w.cpus) run.opening
    (c.see_timer-found.ensures.named run.pass run.seated spot (sym c.in-Some.ensures.exact))

pub cancel_at-requires-clause-now : goal.cancel_at-requires-clause-now
cancel_at-requires-clause-now g c = c.requires.now

pub cancel_at-requires-clause-timer : goal.cancel_at-requires-clause-timer
cancel_at-requires-clause-timer g c = c.requires.timer
