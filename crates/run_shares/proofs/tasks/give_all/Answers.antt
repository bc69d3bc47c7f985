use Rattle.std.proofs.Common.{◌<◌, length, rules}
use Rattle.std.proofs.lemmas.List.{get_or_default}
use Rattle.run_shares.proofs.Parting.{given_one}
use Rattle.run_shares.proofs.tasks.give_all.Goals as goal

pub loop-op-preserved : goal.loop-op-preserved
loop-op-preserved c =
    let low : c.loop-op.op-index < length c.args.ops.now = search rules in
    given_one c.args.ops.now c.loop-op.op-index _ c.args.tasks.now.items c.loop-op.tasks.items
    c.give.new.tasks.items c.loop-op.invariant low (get_or_default _ _ _ _ low)
    c.in_ok-give.ensures.given c.in_ok-give.ensures.count
