use Rattle.plain_world.proofs.Worlds.{status_made}
use Rattle.std.proofs.Common.{false, true}
use Rattle.plain_world.proofs.flags.go_offline.Goals as goal

pub returns : goal.returns
returns c =
    status_made c.args.world.now c.set.new.self c.args.cpu.0 _ _
    (λ i. record (c.status-status.ensures i) {
      online = false;
      idle = true;
      walk = c.begins_with-walk.ensures i;
    })
    c.set.ensures
