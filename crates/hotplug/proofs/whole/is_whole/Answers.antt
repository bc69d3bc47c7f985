use Rattle.std.proofs.Common.{arith, refl}
use Rattle.hotplug.proofs.Bases.{whole_up_to}
use Rattle.hotplug.proofs.whole.is_whole.Goals as goal

pub returns : goal.returns
returns g c = (
  λ yes. whole_up_to c.args.core.now c.loop-cpu.cpu
      (let count = c.count-cpu-end.ensures in
      let end = c.loop-cpu-test.false in
      omega (arith, count, end))
      c.loop-cpu.invariant,
  λ _. refl,
)
