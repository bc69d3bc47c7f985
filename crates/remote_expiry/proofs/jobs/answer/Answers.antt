use Rattle.std.proofs.Common.{subst, sym}
use Rattle.job_table.specs.declared.jobs.JobReply.{JobReply}
use Rattle.shared_acts.specs.declared.runs.RanReply.TheVariants as ran
use Rattle.remote_expiry.specs.Running.{HasAnsweredJob}
use Rattle.remote_expiry.proofs.Again.{asked_again, done, marked}
use Rattle.remote_expiry.proofs.jobs.answer.Goals as goal

pub returns-in-Done : goal.returns-in-Done
returns-in-Done g c =
    let table = g.N.RunName.table in
    let o = g.N.RunName.opening in
    let held = c.args.pass.now in
    subst (λ (r : JobReply). HasAnsweredJob table o c.args.item.now r held held ran.Done)
    (sym c.in-Done.is) (done table o c.args.item.now held c.requires.inside)

pub returns-in-Mark : goal.returns-in-Mark
returns-in-Mark g c =
    let table = g.N.RunName.table in
    let o = g.N.RunName.opening in
    let held = c.args.pass.now in
    let m = c.in-Mark.mark in
    subst (λ (r : JobReply). HasAnsweredJob table o c.args.item.now r held held (ran.Mark m))
    (sym c.in-Mark.is) (marked table o c.args.item.now held c.requires.inside m)

pub returns-in-Again : goal.returns-in-Again
returns-in-Again g c =
    asked_again g.N.RunName.table g.N.RunName.opening c.args.item.now c.args.pass.now
    c.again.new.pass c.args.reply c.in-Again.class c.in-Again.delay c.again.result c.in-Again.is
    c.again.ensures
