use Rattle.std.proofs.Common.{arith, rules}
use Rattle.core_machine.proofs.Alone.Lone.{walked_all, walked_more, walked_off}
use Rattle.core_machine.proofs.walks.finishing.walk_out.Goals as goal

pub returns-then-not-goes_on : goal.returns-then-not-goes_on
returns-then-not-goes_on g c =
    walked_off _ _ _ _ _ c.loop-step.invariant.rest (search rules)

pub loop-step-preserved : goal.loop-step-preserved
loop-step-preserved g c = record {
  low = search rules;
  lone = c.walk_alone.ensures.lone;
  rest = walked_more _ c.loop-step._step c.args.cpu.0 c.loop-step.core _ _
      c.loop-step.invariant.rest
      (search rules) (search rules) c.walk_alone.ensures.step;
}

pub returns : goal.returns
returns g c = walked_all _ c.loop-step._step c.args.cpu.0 c.loop-step.core _
    c.loop-step.invariant.rest (omega (arith, c.loop-step-test.false))
