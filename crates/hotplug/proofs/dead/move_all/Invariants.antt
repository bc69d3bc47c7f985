use Rattle.core_machine.specs.step_play.Rules.StepRules.{step_rules}
use Rattle.hotplug.specs.Afterwards.{SomeMoved}
use Rattle.hotplug.specs.Frames.{MayMoveAll}
use Rattle.core_machine.specs.step_play.Rules.Lone.{Reaches}
use Rattle.hotplug.specs.Settled.{MovedTimes}
use Rattle.hotplug.proofs.dead.move_all.Given as goal

abbrev pub invariant-loop : goal.invariant-loop
invariant-loop g l = record {
  moved : MovedTimes l.fn.core l.from.0 l.to.0 l.core;
  over : SomeMoved l.fn.core l.from.0 l.to.0 l.core;
  may : MayMoveAll l.core l.from.0 l.to.0;
  run : Reaches l.fn.core l.core;
}

abbrev pub decreases-loop : goal.decreases-loop
decreases-loop g l = step_rules.count_queued l.core l.from.0
