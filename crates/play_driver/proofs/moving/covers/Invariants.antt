use Rattle.std.proofs.Common.{◌-◌}
use Rattle.play_rules.specs.Operations.{cover_lines}
use Rattle.play_rules.specs.Parts.{Gains, lines_told}
use Rattle.play_rules.proofs.Plays.{Continues}
use Rattle.play_driver.proofs.moving.covers.Given as goal

abbrev pub invariant-loop-cpu : goal.invariant-loop-cpu
invariant-loop-cpu g l =
    let r = g.M.PlayMachine.rules in
    let s = g.M.PlayMachine.world l.machine in
    let n = r.cpus s in
    record {
      rest : Continues (lines_told (cover_lines r (n - l.cpu) l.cpu s) s) l.telling
          (lines_told (cover_lines r n 0 s) s) l.fn.telling;
      gains : Gains l.fn.telling.text l.telling.text;
    }
