use Rattle.std.proofs.Common.{ap, subst, sym, ◌∙◌, ◌≡◌}
use Rattle.core_world.specs.Enabled.{MayTake}
use Rattle.core_world.specs.World.{World}
use Rattle.step_play.specs.Rules.Seen.{inside, serving}
use Rattle.step_play.specs.Rules.StepRules.{step_rules}
use Rattle.step_play.proofs.Takes.{may_take}
use Rattle.core_machine.proofs.Calls.Fitting.{fits, in_run}
use Rattle.core_machine.proofs.Calls.Insides.{takes}
use Rattle.core_machine.proofs.Calls.InTime.{in_time}
use Rattle.core_machine.proofs.Calls.Leaves.{LeavesOnline}
use Rattle.core_machine.proofs.machine.CorePlayerPlayMachine.take.Goals as goal

pub make-requires-clause-enabled : goal.make-requires-clause-enabled
make-requires-clause-enabled g c =
    subst (λ (w : World). MayTake w c.args.other.0 c.args.cpu.0) (sym c.self.view_is)
    (may_take c.args.self.now c.args.cpu.0 c.args.other.0
    (in_run g.F.CoreFit.exact (inside c.args.cpu.0) c.args.self.now c.requires.fit)
    c.requires.placed c.requires.cpu c.requires.takes)

is : (g : _) (c : goal.After-make g) →
    c.make.new.core ≡ step_rules.taken c.args.self.now c.args.cpu.0 c.args.other.0
is g c =
    c.make.ensures.made
    ∙ ap (λ (w : World). step_rules.taken w c.args.cpu.0 c.args.other.0) c.self.view_is

left : (g : _) (c : goal.After-make g) →
    LeavesOnline (inside c.args.cpu.0) (serving c.args.cpu.0 c.args.other.0) c.args.self.now
    c.make.new.core
left g c =
    let w = c.args.self.now in
    subst (LeavesOnline (inside c.args.cpu.0) (serving c.args.cpu.0 c.args.other.0) w)
    (sym (is g c))
    (takes w c.law_step.ensures c.args.cpu.0 c.args.other.0
    (in_run g.F.CoreFit.exact (inside c.args.cpu.0) w c.requires.fit) c.requires.placed
    c.requires.cpu c.requires.takes)

pub invariant_of-self : goal.invariant_of-self
invariant_of-self g c = in_time c.self.view_is c.self.invariant (left g c).left

pub returns : goal.returns
returns g c = record {
  fit = fits g.F.CoreFit.exact (left g c).left c.requires.fit;
  state = is g c;
  same = (left g c).left.same;
  online = (left g c).online;
}
