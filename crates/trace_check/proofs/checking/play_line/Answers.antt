use Rattle.std.proofs.Common.{Some, sym, subst}
use Rattle.trace_check.specs.Playing.{PlaysLine}
use Rattle.trace_check.proofs.PlayLaws.{asked_on}
use Rattle.trace_check.proofs.checking.play_line.Goals as goal

pub returns-in_ok-play_question-in-Why-clause-plays : goal.returns-in_ok-play_question-in-Why-clause-plays
returns-in_ok-play_question-in-Why-clause-plays g c =
    let w = c.args.core.now in
    subst (λ line. PlaysLine w c.args.made line c.args.out.now c.play_question.new.out w
    (Some c.args.made)) (sym c.in-Why.is)
    (asked_on w c.args.made c.in-Why.cpu c.in-Why.timer c.args.out.now c.play_question.new.out
    c.in_ok-play_question-in-Why.ensures)
