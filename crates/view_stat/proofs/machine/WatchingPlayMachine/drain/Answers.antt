use Rattle.std.proofs.Common.{ap, length, take, ◌∙◌}
use Rattle.std.specs.Prelude.{not, ◌==◌}
use Rattle.core_machine.specs.step_play.Rules.StepRules.{step_rules}
use Rattle.std.proofs.lemmas.Result.{err_from_is_err_and}
use Rattle.view_stat.specs.Stats.{is_due}
use Rattle.view_stat.specs.Watched.{handed}
use Rattle.view_stat.proofs.Lifts.{drained_back, taken_back, undrained}
use Rattle.view_stat.proofs.machine.WatchingPlayMachine.drain.Goals as goal

pub returns-in_err-list_wakeup-clause-kept : goal.returns-in_err-list_wakeup-clause-kept
returns-in_err-list_wakeup-clause-kept c =
    let p = err_from_is_err_and c.from_residual.result c.from_residual.ensures.1 in
    rw p.1
    (undrained step_rules is_due _ c.args.home.0 c.args.class c.args.runner.0
    c.list_wakeup.new.wakeups.items c.in_err-list_wakeup.ensures.err)

pub returns-in-Err-clause-kept : goal.returns-in-Err-clause-kept
returns-in-Err-clause-kept c =
    let w = c.args.self.now in
    let count = ap length c.as_slice-before.ensures.value in
    drained_back step_rules is_due _ c.args.home.0 c.args.class c.args.runner.0
    c.drain.new.self c.handed-self.result c.truncate.new.self.items
    (c.handed-self.ensures
    ∙ ap (λ some. handed some (not (c.args.home.0 == c.args.runner.0)) c.args.class w.interrupt)
    c.hands_out-some.ensures)
    (c.truncate.ensures.items
    ∙ (λ i. take (count i) (c.in_ok-list_wakeup.ensures.ok i))
    ∙ taken_back w.interrupt.idle c.args.class c.clock-at.result c.args.home.0
    c.deref.result.now w.wakeups.items)
    c.in-Err.ensures.kept
