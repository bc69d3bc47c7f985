use Rattle.std.proofs.Common.{refl, ◌∙◌}
use Rattle.view_stat.specs.Telling.{counted, counts_told, spent, unknown}
use Rattle.view_stat.proofs.telling.tell_stat.Goals as goal

pub returns-in_ok-counts_told-in-Ok : goal.returns-in_ok-counts_told-in-Ok
returns-in_ok-counts_told-in-Ok c =
    counted c.in-Ok.stats.cpus.items c.in-Ok.stats.wakeups.items c.in-Ok.ensures.counted
    (c.in_ok-counts_told-in-Ok.ensures
    ∙ (λ i. counts_told c.args.form c.args.script.now.end
    (c.deref.ensures.value i) (c.deref-in-Ok.ensures.value i)))
    refl

pub returns-in_ok-unknown-in-Err-BadJob : goal.returns-in_ok-unknown-in-Err-BadJob
returns-in_ok-unknown-in-Err-BadJob c =
    unknown c.in-Err-BadJob.line c.in-Err-BadJob.job
    (rw c.in-Err-BadJob.field-0-is at c.in-Err-BadJob.ensures.fault)
    (rw c.in-Err-BadJob.field-0-is at c.in_ok-unknown-in-Err-BadJob.ensures) refl

pub returns-in_ok-spent-in-Err-WorkSpent : goal.returns-in_ok-spent-in-Err-WorkSpent
returns-in_ok-spent-in-Err-WorkSpent c =
    spent c.in-Err-WorkSpent.count
    (rw c.in-Err-WorkSpent.field-0-is at c.in-Err-WorkSpent.ensures.fault)
    (rw c.in-Err-WorkSpent.field-0-is at c.in_ok-spent-in-Err-WorkSpent.ensures) refl
