use Rattle.std.proofs.Common.{ap, subst, sym, true, ◌∙◌, ◌≡◌}
use Rattle.core_world.specs.declared.step.Step.TheVariants as steps
use Rattle.core_world.specs.Enabled.{MayHandOn, MayWake}
use Rattle.core_world.specs.Steps.{stepped}
use Rattle.core_world.specs.World.{World, cpu_of}
use Rattle.step_play.specs.Rules.Lone.{IsLone}
use Rattle.step_play.specs.Rules.Seen.{handing, resting}
use Rattle.step_play.specs.Rules.StepRules.{made_active, step_rules}
use Rattle.step_play.proofs.Lone.{run_lone}
use Rattle.core_machine.proofs.Calls.Fitting.{fits, in_run}
use Rattle.core_machine.proofs.Calls.InTime.{in_time}
use Rattle.core_machine.proofs.Calls.Leaves.{Leaves}
use Rattle.core_machine.proofs.Calls.Rests.{hands, may_hand, may_hand_over, stops_at}
use Rattle.core_machine.proofs.machine.CorePlayerPlayMachine.hand_on.Goals as goal

pub make_active-requires-clause-wakes : goal.make_active-requires-clause-wakes
make_active-requires-clause-wakes g c =
    subst (λ (w : World). (cpu_of w c.args.to.0).idle ≡ true → MayWake w c.args.to.0)
    (sym c.self.view_is)
    (may_hand_over c.args.self.now c.args.cpu.0 c.args.to.0
    (in_run g.F.CoreFit.exact (handing c.args.cpu.0) c.args.self.now c.requires.fit)
    c.requires.successor)

pub make_active-requires-clause-lone : goal.make_active-requires-clause-lone
make_active-requires-clause-lone g c =
    subst (λ (w : World). IsLone w c.args.to.0) (sym c.self.view_is)
    (run_lone (handing c.args.cpu.0) c.args.self.now c.args.to.0
    (in_run g.F.CoreFit.exact (handing c.args.cpu.0) c.args.self.now c.requires.fit))

pub make-requires-clause-enabled : goal.make-requires-clause-enabled
make-requires-clause-enabled g c =
    let w = c.args.self.now in
    let made = c.make_active.ensures.made
    ∙ ap (λ (w : World). made_active w c.args.to.0) c.self.view_is in
    subst (λ (w : World). MayHandOn w c.args.cpu.0 c.args.to.0) (sym made)
    (may_hand w c.args.cpu.0 c.args.to.0
    (in_run g.F.CoreFit.exact (handing c.args.cpu.0) w c.requires.fit) c.requires.successor
    c.law_step.ensures c.law_wakes.ensures
    (stops_at c.self.inside.core w c.make_active.new.core c.args.to.0 c.self.view_is made
    c.make_active.ensures.ends)
    c.requires.cpu)

is : (g : _) (c : goal.After-make g) →
    c.make.new.core ≡ step_rules.handed_on c.args.self.now c.args.cpu.0 c.args.to.0
is g c =
    c.make.ensures.made
    ∙ ap (λ (w : World). stepped w (steps.HandOn c.args.cpu c.args.to))
    (c.make_active.ensures.made ∙ ap (λ (w : World). made_active w c.args.to.0) c.self.view_is)

left : (g : _) (c : goal.After-make g) →
    Leaves (handing c.args.cpu.0) resting c.args.self.now c.make.new.core
left g c =
    let w = c.args.self.now in
    let made = c.make_active.ensures.made
    ∙ ap (λ (w : World). made_active w c.args.to.0) c.self.view_is in
    subst (Leaves (handing c.args.cpu.0) resting w) (sym (is g c))
    (hands w c.args.cpu.0 c.args.to.0
    (in_run g.F.CoreFit.exact (handing c.args.cpu.0) w c.requires.fit) c.requires.successor
    c.law_step.ensures c.law_wakes.ensures
    (stops_at c.self.inside.core w c.make_active.new.core c.args.to.0 c.self.view_is made
    c.make_active.ensures.ends)
    c.requires.cpu)

pub invariant_of-self : goal.invariant_of-self
invariant_of-self g c = in_time c.self.view_is c.self.invariant (left g c)

pub returns : goal.returns
returns g c = record {
  fit = fits g.F.CoreFit.exact (left g c) c.requires.fit;
  state = is g c;
  same = (left g c).same;
}
