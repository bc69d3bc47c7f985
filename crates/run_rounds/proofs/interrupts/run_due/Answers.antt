use Rattle.std.proofs.Common.{◌≡◌, ◌++◌, List, Ok, ap, map, subst, true}
use Rattle.remote_expiry.specs.Runs.{Ran, RoomyRuns}
use Rattle.remote_expiry.specs.Interrupts.{Tells}
use Rattle.run_shares.specs.Lines.{ran_line}
use Rattle.run_shares.specs.Standing.{HasRun}
use Rattle.run_rounds.proofs.Telling.{interrupt_told, on_ok}
use Rattle.run_rounds.proofs.interrupts.run_due.Goals as goal

pub returns-in-Ok : goal.returns-in-Ok
returns-in-Ok g c =
    let table = g.N.RunName.table in
    let o = g.N.RunName.opening in
    let jobs = g.J.Jobs.replies c.args.jobs.now in
    let held = c.args.pass.now in
    let after = c.interrupt-ended.new.pass in
    let all = c.interrupt-ended.new.runs.runs in
    let before = c.args.lines.now.items in
    let lines = c.tell_runs.new.lines.items in
    let id = c.cpu-cpu.result in
    on_ok (lines ≡ before ++ map (ran_line c.args.now id) all)
    (HasRun table o c.args.now jobs true held after before lines) c.tell_runs.result
    (λ told. interrupt_told table o c.args.now jobs held after c.requires.now c.requires.may id
    c.cpu-cpu.ensures (c.law.ensures table) all before lines told
    (subst (λ (l : List Ran). Tells table o jobs held after l all (Ok tt))
    (ap (λ (z : RoomyRuns). z.runs) c.new-runs.ensures) c.in-Ok.ensures)) c.tell_runs.ensures
