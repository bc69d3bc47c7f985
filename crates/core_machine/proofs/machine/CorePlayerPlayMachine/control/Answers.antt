use Rattle.std.proofs.Common.{ap, subst, sym, true, ◌∙◌, ◌≡◌}
use Rattle.core_world.specs.Enabled.{MayWake}
use Rattle.core_world.specs.World.{World, cpu_of}
use Rattle.step_play.specs.Rules.Lone.{IsLone}
use Rattle.step_play.specs.Rules.Seen.{resting}
use Rattle.step_play.specs.Rules.StepRules.{step_rules}
use Rattle.step_play.proofs.Lone.{run_lone}
use Rattle.core_machine.proofs.Calls.Fitting.{fits, in_run}
use Rattle.core_machine.proofs.Calls.InTime.{in_time}
use Rattle.core_machine.proofs.Calls.Rests.{LeavesControlled, controlled, may_control}
use Rattle.core_machine.proofs.machine.CorePlayerPlayMachine.control.Goals as goal

pub make_active-requires-clause-wakes : goal.make_active-requires-clause-wakes
make_active-requires-clause-wakes g c =
    subst (λ (w : World). (cpu_of w c.args.cpu.0).idle ≡ true → MayWake w c.args.cpu.0)
    (sym c.self.view_is)
    (may_control c.args.self.now
    (in_run g.F.CoreFit.exact resting c.args.self.now c.requires.fit) c.args.cpu.0
    c.requires.controller)

pub make_active-requires-clause-lone : goal.make_active-requires-clause-lone
make_active-requires-clause-lone g c =
    subst (λ (w : World). IsLone w c.args.cpu.0) (sym c.self.view_is)
    (run_lone resting c.args.self.now c.args.cpu.0
    (in_run g.F.CoreFit.exact resting c.args.self.now c.requires.fit))

is : (g : _) (c : goal.After-make_active g) →
    c.make_active.new.core ≡ step_rules.controlling c.args.self.now c.args.cpu.0
is g c =
    c.make_active.ensures.made
    ∙ ap (λ (w : World). step_rules.controlling w c.args.cpu.0) c.self.view_is

left : (g : _) (c : goal.After-make_active g) →
    LeavesControlled c.args.self.now c.args.cpu.0 c.make_active.new.core
left g c =
    controlled c.law_step.ensures c.self.inside.core c.args.self.now c.make_active.new.core
    c.args.cpu.0 (in_run g.F.CoreFit.exact resting c.args.self.now c.requires.fit)
    c.requires.controller c.law_wakes.ensures c.self.view_is (is g c) c.make_active.ensures.ends

pub invariant_of-self : goal.invariant_of-self
invariant_of-self g c = in_time c.self.view_is c.self.invariant (left g c).left.left

pub returns : goal.returns
returns g c = record {
  fit = fits g.F.CoreFit.exact (left g c).left.left c.requires.fit;
  placed = (left g c).placed;
  active = (left g c).up;
  state = is g c;
  same = (left g c).left.left.same;
  online = (left g c).left.online;
}
