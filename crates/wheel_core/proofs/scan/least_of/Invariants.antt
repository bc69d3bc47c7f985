use Rattle.std.proofs.Common.{◌≡◌, take}
use Rattle.wheel_core.specs.PlainBase.{least}
use Rattle.wheel_core.proofs.scan.least_of.Given as goal

abbrev pub invariant-loop-item : goal.invariant-loop-item
invariant-loop-item l = l.first ≡ least (take l.item-index l.items)
