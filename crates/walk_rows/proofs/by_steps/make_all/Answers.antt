use Rattle.walk_rows.proofs.Driving.{at_home}
use Rattle.walk_rows.proofs.by_steps.make_all.Goals as goal

pub make_either-requires-clause-one : goal.make_either-requires-clause-one
make_either-requires-clause-one g c =
    at_home c.args.one.now.box.cpu c.loop-step.one
    (c.loop-step.invariant.0 c.args.one.now.box.cpu c.requires.one)

pub make_either-requires-clause-other : goal.make_either-requires-clause-other
make_either-requires-clause-other g c =
    at_home c.args.other.now.box.cpu c.loop-step.other
    (c.loop-step.invariant.1 c.args.other.now.box.cpu c.requires.other)

pub loop-step-preserved : goal.loop-step-preserved
loop-step-preserved g c = (
  (λ cpu d. c.make_either.ensures.one cpu (c.loop-step.invariant.0 cpu d)),
  (λ cpu d. c.make_either.ensures.other cpu (c.loop-step.invariant.1 cpu d)),
)
