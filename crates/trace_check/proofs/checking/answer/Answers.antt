use Rattle.trace_check.proofs.PlayLaws.{is_there}
use Rattle.trace_check.proofs.checking.answer.Goals as goal

pub shown_of-requires : goal.shown_of-requires
shown_of-requires g c =
    is_there c.args.core.now c.kept.ensures.fits c.args.cpu.0 c.args.timer.0 c.in-Some.reason
    c.in-Some.ensures.reason
