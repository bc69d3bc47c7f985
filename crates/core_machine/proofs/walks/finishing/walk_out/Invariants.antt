use Rattle.std.proofs.Common.{◌≡◌, ◌<◌, ◌-◌, length}
use Rattle.step_play.specs.Rules.Alone.{walk_steps, walked_out}
use Rattle.step_play.specs.Rules.Lone.{IsLone}
use Rattle.core_machine.proofs.walks.finishing.walk_out.Given as goal

abbrev pub invariant-loop-step : goal.invariant-loop-step
invariant-loop-step g l = record {
  low : l.cpu.0 < length l.core.cpus;
  lone : IsLone l.core l.cpu.0;
  rest : walk_steps (l.most - l._step) l.cpu.0 l.core ≡ walked_out l.fn.cpu.0 l.fn.core;
}
