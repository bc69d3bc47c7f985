use Rattle.std.proofs.Common.{◌≡◌, ◌-◌}
use Rattle.delayed_work.specs.Play.{run_all}
use Rattle.delayed_work.specs.Playable.{StaysPlayable}
use Rattle.delayed_work.proofs.player.Player.run_all.Given as goal

abbrev pub invariant-loop : goal.invariant-loop
invariant-loop g l = record {
  rest : run_all (g.J.Jobs.replies l.jobs) (l.n - l.counter) l.now l.self ≡ run_all (g.J.Jobs.replies l.jobs) l.n l.now l.fn.self;
  keeps : StaysPlayable l.now l.fn.self l.self;
}
