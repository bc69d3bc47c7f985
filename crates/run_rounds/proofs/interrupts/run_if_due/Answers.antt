use Rattle.std.proofs.Common.{Bool, subst, sym}
use Rattle.run_shares.specs.Standing.{HasRun}
use Rattle.run_rounds.proofs.Telling.{none_told}
use Rattle.run_rounds.proofs.interrupts.run_if_due.Goals as goal

pub returns-else-due : goal.returns-else-due
returns-else-due g c =
    let table = g.N.RunName.table in
    let o = g.N.RunName.opening in
    let jobs = g.J.Jobs.replies c.args.jobs.now in
    let held = c.args.pass.now in
    let before = c.args.lines.now.items in
    subst (λ (b : Bool). HasRun table o c.args.now jobs b held held before before)
    (sym c.if-due.false)
    (none_told table o c.args.now jobs held held c.requires.now c.requires.may before)
