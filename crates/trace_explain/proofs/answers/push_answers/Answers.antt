use Rattle.trace_explain.proofs.Waiting.{more_answers, no_answers}
use Rattle.trace_explain.proofs.answers.push_answers.Goals as goal

pub loop-timer-init : goal.loop-timer-init
loop-timer-init g c = no_answers c.args.core.now c.args.text.now.items

pub loop-timer-preserved : goal.loop-timer-preserved
loop-timer-preserved g c =
    more_answers c.args.core.now c.loop-timer.timer c.args.text.now.items c.loop-timer.text.items
    c.push_answer.new.text.items c.loop-timer.invariant c.in_ok-push_answer.ensures
