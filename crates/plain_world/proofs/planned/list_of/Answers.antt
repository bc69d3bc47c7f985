use Rattle.std.proofs.Common.{◌∙◌, ap, arith}
use Rattle.std.specs.Prelude.{◌&&◌, ◌||◌, ◌==◌}
use Rattle.std.specs.FinSet.{contains}
use Rattle.plain_world.specs.Planned.{lists}
use Rattle.plain_world.proofs.Paths.{lists_all, lists_more}
use Rattle.plain_world.proofs.planned.list_of.Goals as goal

pub loop-cpu-preserved : goal.loop-cpu-preserved
loop-cpu-preserved c k =
    lists_more (contains c.args.set.now) c.loop-cpu.cpu k (lists c.loop-cpu.list.items k) _
    (c.loop-cpu.invariant k)
    (c.in_ok-push_if.ensures k
    ∙ ap (λ b. lists c.loop-cpu.list.items k || (b && (c.loop-cpu.cpu == k)))
    c.has-in-loop-cpu.ensures.found)

pub returns : goal.returns
returns c k =
    lists_all c.args.set.now c.loop-cpu.cpu k (lists c.loop-cpu.list.items k) c.has.ensures.fits
    (omega arith) (c.loop-cpu.invariant k)
