use Rattle.std.proofs.Common.{ap, subst, sym, ◌∙◌, ◌≡◌}
use Rattle.core_world.specs.Enabled.{MayComeOnline}
use Rattle.core_world.specs.World.{World}
use Rattle.step_play.specs.Rules.Lone.{IsLone}
use Rattle.step_play.specs.Rules.Seen.{resting}
use Rattle.step_play.specs.Rules.StepRules.{step_rules}
use Rattle.step_play.proofs.Lone.{run_lone}
use Rattle.core_machine.proofs.Calls.Fitting.{fits, in_run}
use Rattle.core_machine.proofs.Calls.InTime.{in_time}
use Rattle.core_machine.proofs.Calls.Leaves.{Leaves, at_end}
use Rattle.core_machine.proofs.Calls.Rests.{comes, may_come}
use Rattle.core_machine.proofs.machine.CorePlayerPlayMachine.come_online.Goals as goal

pub come_online-requires-clause-enabled : goal.come_online-requires-clause-enabled
come_online-requires-clause-enabled g c =
    subst (λ (w : World). MayComeOnline w c.args.cpu.0) (sym c.self.view_is)
    (may_come c.law_step.ensures c.args.self.now c.args.cpu.0
    (in_run g.F.CoreFit.exact resting c.args.self.now c.requires.fit) c.requires.cpu
    c.requires.offline)

pub come_online-requires-clause-lone : goal.come_online-requires-clause-lone
come_online-requires-clause-lone g c =
    subst (λ (w : World). IsLone w c.args.cpu.0) (sym c.self.view_is)
    (run_lone resting c.args.self.now c.args.cpu.0
    (in_run g.F.CoreFit.exact resting c.args.self.now c.requires.fit))

is : (g : _) (c : goal.After-come_online g) →
    c.come_online.new.core ≡ step_rules.come_online c.args.self.now c.args.cpu.0
is g c =
    c.come_online.ensures.walked
    ∙ ap (λ (w : World). step_rules.come_online w c.args.cpu.0) c.self.view_is

left : (g : _) (c : goal.After-come_online g) →
    Leaves resting resting c.args.self.now c.come_online.new.core
left g c =
    let w = c.args.self.now in
    let law = c.law_step.ensures in
    let run = in_run g.F.CoreFit.exact resting w c.requires.fit in
    at_end (Leaves resting resting w) c.args.cpu.0 _ c.come_online.new.core (is g c)
    c.come_online.ensures.ends
    (comes law w c.args.cpu.0 run c.law_comes.ensures
    (may_come law w c.args.cpu.0 run c.requires.cpu c.requires.offline))

pub invariant_of-self : goal.invariant_of-self
invariant_of-self g c = in_time c.self.view_is c.self.invariant (left g c)

pub returns : goal.returns
returns g c = record {
  fit = fits g.F.CoreFit.exact (left g c) c.requires.fit;
  state = is g c;
  same = (left g c).same;
}
