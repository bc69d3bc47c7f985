use Rattle.plain_world.proofs.Worlds.{status_made}
use Rattle.std.proofs.Common.{false, true}
use Rattle.plain_world.proofs.flags.come_online.Goals as goal

pub returns : goal.returns
returns c =
    status_made c.args.world.now c.set.new.self c.args.cpu.0 _ _
    (λ i. record (c.status-status.ensures i) {
      online = true;
      idle = false;
      walk = c.begins-walk.ensures i;
    })
    c.set.ensures
