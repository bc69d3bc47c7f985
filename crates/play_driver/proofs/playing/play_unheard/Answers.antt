use Rattle.std.proofs.Common.{sym, ◌∙◌}
use Rattle.std.proofs.lemmas.Result.{err_from_is_err_and}
use Rattle.play_driver.proofs.Unheard.{fault_unheard}
use Rattle.play_driver.proofs.playing.play_unheard.Goals as goal

pub returns-in_err-moments-clause-fault : goal.returns-in_err-moments-clause-fault
returns-in_err-moments-clause-fault g c =
    let p = err_from_is_err_and c.from_residual.result c.from_residual.ensures.1 in
    rw (p.1, p.2)
    (fault_unheard g.M.PlayMachine.rules (g.J.Jobs.replies c.args.jobs.now)
    (g.J.Jobs.count c.args.jobs.now) c.args.script.now (g.M.PlayMachine.world c.args.machine.now)
    (sym c.first_unknown_job.ensures ∙ c.in_default.is) c.new-telling.result.text
    c.play_known.new.telling.text _ (c.new-telling.ensures.text ∙ c.new.ensures)
    c.in_err-moments.ensures.fault)
