use Rattle.std.proofs.Common.{◌≡◌, Some}
use Rattle.orders_sights.specs.Gathering.{gathered}
use Rattle.orders_sights.specs.Seeing.{group_seen}
use Rattle.orders_sights.proofs.groups.groups_seen.Given as goal

abbrev pub invariant-loop-group : goal.invariant-loop-group
invariant-loop-group l = l.list.items ≡ gathered (λ g. Some (group_seen l.world g)) l.group
