use Rattle.plain_world.proofs.Worlds.{finish_made}
use Rattle.plain_world.proofs.walking.finish.Goals as goal

pub returns : goal.returns
returns c =
    finish_made c.args.world.now c.set.new.self c.args.cpu.0 c.args.walk
    c.finished-left.result c.status-status.result
    c.finished-left.ensures c.status-status.ensures c.set.ensures
