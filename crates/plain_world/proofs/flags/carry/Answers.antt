use Rattle.plain_world.proofs.Worlds.{carry_made}
use Rattle.plain_world.proofs.flags.carry.Goals as goal

pub returns : goal.returns
returns c =
    carry_made c.args.world.now c.set.new.self c.args.cpu.0 c.unwrap_or.result
    c.status-status.result c.begins-walk.result c.status-status.ensures c.unwrap_or.ensures
    c.begins-walk.ensures c.set.ensures
