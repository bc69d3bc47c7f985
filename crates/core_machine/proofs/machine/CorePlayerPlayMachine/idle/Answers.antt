use Rattle.std.proofs.Common.{ap, subst, sym, ◌+◌, ◌∙◌, ◌≡◌}
use Rattle.std.proofs.lemmas.Bool.{lt-leb}
use Rattle.play_rules.specs.Hierarchy.{first_event}
use Rattle.core_world.specs.Enabled.{MayIdle}
use Rattle.core_world.specs.World.{World}
use Rattle.step_play.specs.Rules.Lone.{IsLone}
use Rattle.step_play.specs.Rules.Seen.{resting, state_of}
use Rattle.step_play.specs.Rules.StepRules.{step_rules}
use Rattle.step_play.proofs.Hotplug.{may_idle}
use Rattle.step_play.proofs.Lone.{run_lone}
use Rattle.core_machine.proofs.Calls.Fitting.{fits, in_run}
use Rattle.core_machine.proofs.Calls.InTime.{in_time}
use Rattle.core_machine.proofs.Calls.Leaves.{Leaves, at_end}
use Rattle.core_machine.proofs.Calls.Rests.{idles}
use Rattle.core_machine.proofs.machine.CorePlayerPlayMachine.idle.Goals as goal

pub idle-requires-clause-enabled : goal.idle-requires-clause-enabled
idle-requires-clause-enabled g c =
    let w = c.args.self.now in
    subst (λ (w : World). MayIdle w c.args.cpu.0) (sym c.self.view_is)
    (may_idle w (in_run g.F.CoreFit.exact resting w c.requires.fit) c.args.cpu.0 c.requires.cpu
    c.requires.online c.requires.active
    (lt-leb (first_event (state_of w) c.args.cpu.0) (w.clock + 1) c.requires.later))

pub idle-requires-clause-lone : goal.idle-requires-clause-lone
idle-requires-clause-lone g c =
    subst (λ (w : World). IsLone w c.args.cpu.0) (sym c.self.view_is)
    (run_lone resting c.args.self.now c.args.cpu.0
    (in_run g.F.CoreFit.exact resting c.args.self.now c.requires.fit))

is : (g : _) (c : goal.After-idle g) →
    c.idle.new.core ≡ step_rules.idled c.args.self.now c.args.cpu.0
is g c =
    c.idle.ensures.walked ∙ ap (λ (w : World). step_rules.idled w c.args.cpu.0) c.self.view_is

left : (g : _) (c : goal.After-idle g) → Leaves resting resting c.args.self.now c.idle.new.core
left g c =
    let w = c.args.self.now in
    let run = in_run g.F.CoreFit.exact resting w c.requires.fit in
    at_end (Leaves resting resting w) c.args.cpu.0 _ c.idle.new.core (is g c) c.idle.ensures.ends
    (idles c.law_step.ensures w c.args.cpu.0 run c.law_idles.ensures
    (may_idle w run c.args.cpu.0 c.requires.cpu c.requires.online c.requires.active
    (lt-leb (first_event (state_of w) c.args.cpu.0) (w.clock + 1) c.requires.later)))

pub invariant_of-self : goal.invariant_of-self
invariant_of-self g c = in_time c.self.view_is c.self.invariant (left g c)

pub returns : goal.returns
returns g c = record {
  fit = fits g.F.CoreFit.exact (left g c) c.requires.fit;
  state = is g c;
  same = (left g c).same;
}
