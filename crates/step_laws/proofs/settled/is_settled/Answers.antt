use Rattle.std.proofs.Common.{arith, refl}
use Rattle.step_laws.proofs.Settling.{all_rest}
use Rattle.step_laws.proofs.settled.is_settled.Goals as goal

pub returns : goal.returns
returns g c = (
  λ yes. all_rest c.args.core.now c.loop-cpu.cpu
      (let count = c.count-cpu-end.ensures in let end = c.loop-cpu-test.false in
      omega (arith, count, end))
      c.loop-cpu.invariant,
  λ _. refl,
)
