use Rattle.std.proofs.Common.{arith, refl}
use Rattle.core_machine.proofs.Alone.Lone.{none_else}
use Rattle.core_machine.proofs.walks.alone.is_alone.Goals as goal

pub returns : goal.returns
returns g c = (
  λ yes. none_else c.args.core.now c.args.cpu.0 c.loop-other.other
      (let count = c.count-other-end.ensures in let end = c.loop-other-test.false in
      omega (arith, count, end))
      c.loop-other.invariant,
  λ _. refl,
)
