use Rattle.std.proofs.Common.{Some, ap, refl}
use Rattle.orders_sights.specs.Gathering.{gathered}
use Rattle.orders_sights.specs.Seeing.{group_seen}
use Rattle.orders_sights.proofs.GatherLaws.{more_of}
use Rattle.orders_sights.proofs.groups.groups_seen.Goals as goal

pub loop-group-init : goal.loop-group-init
unfolding gathered
loop-group-init c = c.new-list.ensures.items

pub loop-group-preserved : goal.loop-group-preserved
loop-group-preserved c =
    more_of (λ g. Some (group_seen c.args.world.now g)) c.loop-group.group c.loop-group.list.items
    (Some c.group_seen.result) _ c.loop-group.invariant (ap (λ x. Some x) c.group_seen.ensures)
    c.in_ok-push.ensures.items
