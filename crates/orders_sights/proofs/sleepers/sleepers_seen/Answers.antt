use Rattle.orders_sights.specs.Gathering.{gathered}
use Rattle.orders_sights.specs.Seeing.{sleeper_seen}
use Rattle.orders_sights.proofs.GatherLaws.{more_of}
use Rattle.orders_sights.proofs.sleepers.sleepers_seen.Goals as goal

pub loop-cpu-init : goal.loop-cpu-init
unfolding gathered
loop-cpu-init c = c.new-list.ensures.items

pub loop-cpu-preserved : goal.loop-cpu-preserved
loop-cpu-preserved c =
    more_of (sleeper_seen c.args.world.now) c.loop-cpu.cpu c.loop-cpu.list.items
    c.sleeper_seen.result _ c.loop-cpu.invariant c.sleeper_seen.ensures
    c.in_ok-push_sleeper.ensures
