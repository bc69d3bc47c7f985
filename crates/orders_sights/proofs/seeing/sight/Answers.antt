use Rattle.std.proofs.Common.{◌≡◌, length, subst}
use Rattle.orders_threads.specs.Threads.{ThreadState}
use Rattle.orders_sights.specs.Seeing.{AreSeenBelow, groups_seen, sleepers_seen}
use Rattle.orders_sights.proofs.seeing.sight.Goals as goal

pub returns : goal.returns
returns c =
    let groups : c.in_ok-groups.groups.items ≡ groups_seen c.state.inside.world.world =
    c.in_ok-groups.ensures in
    let sleepers : c.in_ok-sleepers.sleepers.items ≡ sleepers_seen c.state.inside.world.world =
    c.in_ok-sleepers.ensures in
    let timers : AreSeenBelow c.state.inside.world.world
    (length c.state.inside.world.world.cpus) c.in_ok-timers.timers.items =
    c.in_ok-timers.ensures in
    record {
      groups =
          subst (λ (s : ThreadState). c.in_ok-groups.groups.items ≡ groups_seen s.world)
          c.state.view_is groups;
      sleepers =
          subst (λ (s : ThreadState). c.in_ok-sleepers.sleepers.items ≡ sleepers_seen s.world)
          c.state.view_is sleepers;
      timers =
          subst
          (λ (s : ThreadState). AreSeenBelow s.world (length s.world.cpus)
          c.in_ok-timers.timers.items) c.state.view_is timers;
      waiting = c.in_ok-stuck.ensures;
    }
