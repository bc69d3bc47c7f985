use Rattle.std.proofs.Common.{◌-◌}
use Rattle.play_rules.specs.Moments.{left}
use Rattle.play_rules.specs.Parts.{Gains, lines_told}
use Rattle.play_rules.proofs.Plays.{Continues}
use Rattle.play_driver.proofs.closing.left_over.Given as goal

abbrev pub invariant-loop-number : goal.invariant-loop-number
invariant-loop-number g l =
    let r = g.M.PlayMachine.rules in
    let s = g.M.PlayMachine.world l.machine in
    let n = r.timers s in
    record {
      rest : Continues (lines_told (left r (n - l.number) l.number s) s) l.telling
          (lines_told (left r n 0 s) s) l.fn.telling;
      gains : Gains l.fn.telling.text l.telling.text;
    }
