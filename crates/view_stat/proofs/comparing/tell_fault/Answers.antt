use Rattle.std.proofs.Common.{◌++◌, ap, refl, subst, ◌∙◌}
use Rattle.job_table.specs.Standard.{standard_count, standard_reply}
use Rattle.view_stat.specs.Comparing.{spent, unknown}
use Rattle.view_stat.specs.Stats.{IsUncountedOn}
use Rattle.view_stat.proofs.comparing.tell_fault.Goals as goal

pub returns-in_ok-behind-in-BadJob : goal.returns-in_ok-behind-in-BadJob
returns-in_ok-behind-in-BadJob c =
    unknown c.in-BadJob.line c.in-BadJob.job
    (subst
    (IsUncountedOn standard_reply standard_count c.args.machine.now c.args.script.now)
    c.in-BadJob.is c.requires)
    (c.in_ok-behind-in-BadJob.ensures
    ∙ ap (λ piece. c.args.name.now ++ piece)
    (c.deref.ensures.value ∙ c.in_ok-unknown-in-BadJob.ensures))
    refl

pub returns-in_ok-behind-in-WorkSpent : goal.returns-in_ok-behind-in-WorkSpent
returns-in_ok-behind-in-WorkSpent c =
    spent c.in-WorkSpent.count
    (subst
    (IsUncountedOn standard_reply standard_count c.args.machine.now c.args.script.now)
    c.in-WorkSpent.is c.requires)
    (c.in_ok-behind-in-WorkSpent.ensures
    ∙ ap (λ piece. c.args.name.now ++ piece)
    (c.deref-in-WorkSpent.ensures.value ∙ c.in_ok-spent-in-WorkSpent.ensures))
    refl
