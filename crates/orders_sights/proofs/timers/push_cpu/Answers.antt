use Rattle.std.proofs.Common.{[], append-nil, rules, sym}
use Rattle.orders_sights.specs.Seeing.{IsSeenTimer, PassesTimer}
use Rattle.orders_sights.proofs.GatherLaws.{all_passed}
use Rattle.orders_sights.proofs.timers.push_cpu.Goals as goal

pub returns-then-not-has_waiting : goal.returns-then-not-has_waiting
returns-then-not-has_waiting c = (
  [],
  all_passed (PassesTimer c.args.world.now c.args.cpu.0)
      (IsSeenTimer c.args.world.now c.args.cpu.0) (c.has_waiting.ensures c.if-not-has_waiting.true)
      c.args.world.now.timers,
  sym (append-nil c.args.list.now.items),
)

pub returns : goal.returns
returns c = (c.in_ok-timers.timers.items, c.in_ok-timers.ensures, search rules)
