use Rattle.std.proofs.Common.{ap, subst, sym, ◌<◌, ◌∙◌, ◌≡◌}
use Rattle.tm_base.specs.declared.limits.TheConstants.{SCRIPT_TIME_LIMIT}
use Rattle.core_world.specs.Enabled.{MayTime}
use Rattle.core_world.specs.World.{World}
use Rattle.step_play.specs.Rules.Seen.{resting}
use Rattle.step_play.specs.Rules.StepRules.{step_rules}
use Rattle.step_play.proofs.Interrupted.{may_time}
use Rattle.core_machine.specs.Fitting.{CoreFits}
use Rattle.core_machine.proofs.Calls.Fitting.{time_fits}
use Rattle.core_machine.proofs.machine.CorePlayerPlayMachine.set_clock.Goals as goal

pub make-requires-clause-enabled : goal.make-requires-clause-enabled
make-requires-clause-enabled g c =
    subst (λ (w : World). MayTime w c.args.now) (sym c.self.view_is)
    (may_time c.law_step.ensures c.args.now c.args.self.now c.requires.not_back c.requires.in_time)

pub invariant_of-self : goal.invariant_of-self
invariant_of-self g c =
    subst (λ (w : World). w.clock < SCRIPT_TIME_LIMIT) (sym c.make.ensures.made) c.requires.in_time

is : (g : _) (c : goal.After-make g) →
    c.make.new.core ≡ step_rules.at_clock c.args.now c.args.self.now
is g c = c.make.ensures.made ∙ ap (step_rules.at_clock c.args.now) c.self.view_is

pub returns : goal.returns
returns g c = record {
  fit = subst (CoreFits g.F.CoreFit.exact resting) (sym (is g c))
      (time_fits g.F.CoreFit.exact c.law_step.ensures c.args.now c.args.self.now
      c.requires.not_back c.requires.in_time c.requires.fit);
  state = is g c;
  clock = ap step_rules.clock (is g c);
  timers = ap step_rules.timers (is g c);
  cpus = ap step_rules.cpus (is g c);
  levels = ap step_rules.levels (is g c);
}
