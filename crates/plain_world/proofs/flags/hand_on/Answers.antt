use Rattle.plain_world.proofs.Worlds.{status_made}
use Rattle.std.proofs.Common.{None}
use Rattle.plain_world.proofs.flags.hand_on.Goals as goal

pub returns : goal.returns
returns c =
    status_made c.args.world.now c.set.new.self c.args.cpu.0 _ _
    (λ i. record (c.status-status.ensures i) { walk = None })
    c.set.ensures
