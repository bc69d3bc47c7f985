use Rattle.std.proofs.Common.{◌≡◌}
use Rattle.std.specs.Prelude.{filter}
use Rattle.std.specs.List.{range_with_len}
use Rattle.std.specs.FinSet as set
use Rattle.play_driver.specs.Conditions.{AreOnline}
use Rattle.core_plays.proofs.devices.interrupted.Given as goal

abbrev pub invariant-loop-cpu : goal.invariant-loop-cpu
invariant-loop-cpu g l =
    let r = g.M.PlayMachine.rules in
    record {
      set : l.due ≡ set.from_list (filter (r.has_interrupt (g.M.PlayMachine.world l.machine)) (range_with_len 0 l.cpu));
      online : AreOnline r (g.M.PlayMachine.world l.machine) l.due;
    }
