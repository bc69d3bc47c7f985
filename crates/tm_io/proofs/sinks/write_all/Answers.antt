use Rattle.std.proofs.Common.{rules, ◌-◌, ◌≤◌, length}
use Rattle.tm_io.proofs.Writing.{Appends-take}
use Rattle.tm_io.proofs.sinks.write_all.Goals as goal

pub loop-written-preserved : goal.loop-written-preserved
loop-written-preserved g c =
    let within : c.in-Ok.count ≤ length c.args.bytes.now - c.loop-written.written = search rules in
    let put = Appends-take _ _ _ c.loop-written.written c.in-Ok.count (length c.args.bytes.now - c.loop-written.written) c.args.bytes.now within c.loop-written.invariant.put c.in-Ok.ensures.put in
    record { within = search rules; put = put; unbroken = search rules; took = search rules }
