use Rattle.std.proofs.Common.{◌-◌}
use Rattle.play_rules.specs.Operations.{moves}
use Rattle.play_rules.specs.Machines.{Same, SameFlags}
use Rattle.play_rules.specs.Parts.{Gains}
use Rattle.play_rules.specs.Phases.{resting}
use Rattle.play_rules.proofs.Plays.{Continues}
use Rattle.play_driver.proofs.moving.moves.Given as goal

abbrev pub invariant-loop-turn : goal.invariant-loop-turn
invariant-loop-turn g l =
    let r = g.M.PlayMachine.rules in
    let n = r.count_queued (g.M.PlayMachine.world l.fn.machine) l.from.0 in
    record {
      rest : Continues (moves r (n - l._turn) l.from.0 l.to.0 (g.M.PlayMachine.world l.machine)) l.telling
          (moves r n l.from.0 l.to.0 (g.M.PlayMachine.world l.fn.machine)) l.fn.telling;
      same : Same r (g.M.PlayMachine.world l.fn.machine) (g.M.PlayMachine.world l.machine);
      flags : SameFlags r (g.M.PlayMachine.world l.fn.machine) (g.M.PlayMachine.world l.machine);
      fit : g.M.PlayMachine.Fit resting (g.M.PlayMachine.world l.machine);
      gains : Gains l.fn.telling.text l.telling.text;
    }
