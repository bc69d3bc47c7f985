use Rattle.std.proofs.Common.{ap, refl, subst, sym, ◌∙◌, ◌≡◌}
use Rattle.core_world.specs.Enabled.{MayWake}
use Rattle.core_world.specs.World.{World}
use Rattle.step_play.specs.Rules.Lone.{IsLone}
use Rattle.step_play.specs.Rules.Seen.{resting}
use Rattle.step_play.specs.Rules.StepRules.{step_rules}
use Rattle.step_play.proofs.Hotplug.{may_wake}
use Rattle.step_play.proofs.Lone.{run_lone}
use Rattle.core_machine.proofs.Calls.Fitting.{fits, in_run}
use Rattle.core_machine.proofs.Calls.InTime.{in_time}
use Rattle.core_machine.proofs.Calls.Leaves.{Leaves, at_end}
use Rattle.core_machine.proofs.Calls.Rests.{wakes}
use Rattle.core_machine.proofs.machine.CorePlayerPlayMachine.wake.Goals as goal

pub wake-requires-clause-enabled : goal.wake-requires-clause-enabled
wake-requires-clause-enabled g c =
    subst (λ (w : World). MayWake w c.args.cpu.0) (sym c.self.view_is)
    (may_wake resting c.args.self.now
    (in_run g.F.CoreFit.exact resting c.args.self.now c.requires.fit) c.args.cpu.0
    c.requires.cpu refl c.requires.online c.requires.idle)

pub wake-requires-clause-lone : goal.wake-requires-clause-lone
wake-requires-clause-lone g c =
    subst (λ (w : World). IsLone w c.args.cpu.0) (sym c.self.view_is)
    (run_lone resting c.args.self.now c.args.cpu.0
    (in_run g.F.CoreFit.exact resting c.args.self.now c.requires.fit))

is : (g : _) (c : goal.After-wake g) →
    c.wake.new.core ≡ step_rules.woken c.args.self.now c.args.cpu.0
is g c =
    c.wake.ensures.walked ∙ ap (λ (w : World). step_rules.woken w c.args.cpu.0) c.self.view_is

left : (g : _) (c : goal.After-wake g) → Leaves resting resting c.args.self.now c.wake.new.core
left g c =
    let w = c.args.self.now in
    let run = in_run g.F.CoreFit.exact resting w c.requires.fit in
    at_end (Leaves resting resting w) c.args.cpu.0 _ c.wake.new.core (is g c) c.wake.ensures.ends
    (λ stop. (wakes c.law_step.ensures w c.args.cpu.0 resting run
    (may_wake resting w run c.args.cpu.0 c.requires.cpu refl c.requires.online c.requires.idle)
    stop c.law_wakes.ensures).left)

pub invariant_of-self : goal.invariant_of-self
invariant_of-self g c = in_time c.self.view_is c.self.invariant (left g c)

pub returns : goal.returns
returns g c = record {
  fit = fits g.F.CoreFit.exact (left g c) c.requires.fit;
  state = is g c;
  same = (left g c).same;
}
