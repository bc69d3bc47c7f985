use Rattle.std.proofs.Common.{ap, subst, sym, ◌∙◌, ◌≡◌}
use Rattle.play_rules.specs.Phases.{after_offline}
use Rattle.play_rules.specs.Play.{successor}
use Rattle.core_world.specs.Enabled.{MayGoOffline}
use Rattle.core_world.specs.World.{World}
use Rattle.step_play.specs.Rules.Lone.{IsLone}
use Rattle.step_play.specs.Rules.Seen.{resting, state_of}
use Rattle.step_play.specs.Rules.StepRules.{is_waiting, step_rules}
use Rattle.step_play.proofs.Hotplug.{may_go}
use Rattle.step_play.proofs.Lone.{run_lone}
use Rattle.core_machine.proofs.Calls.Fitting.{fits, in_run}
use Rattle.core_machine.proofs.Calls.InTime.{in_time}
use Rattle.core_machine.proofs.Calls.Leaves.{Leaves, at_end}
use Rattle.core_machine.proofs.Calls.Rests.{goes, succeeds}
use Rattle.core_machine.proofs.machine.CorePlayerPlayMachine.go_offline.Goals as goal

pub go_offline-requires-clause-enabled : goal.go_offline-requires-clause-enabled
go_offline-requires-clause-enabled g c =
    subst (λ (w : World). MayGoOffline w c.args.cpu.0) (sym c.self.view_is)
    (may_go c.args.self.now (in_run g.F.CoreFit.exact resting c.args.self.now c.requires.fit)
    c.args.cpu.0 c.requires.cpu c.requires.online c.requires.active c.requires.missed)

pub go_offline-requires-clause-lone : goal.go_offline-requires-clause-lone
go_offline-requires-clause-lone g c =
    subst (λ (w : World). IsLone w c.args.cpu.0) (sym c.self.view_is)
    (run_lone resting c.args.self.now c.args.cpu.0
    (in_run g.F.CoreFit.exact resting c.args.self.now c.requires.fit))

is : (g : _) (c : goal.After-go_offline g) →
    c.go_offline.new.core ≡ step_rules.gone_offline c.args.self.now c.args.cpu.0
is g c =
    c.go_offline.ensures.walked
    ∙ ap (λ (w : World). step_rules.gone_offline w c.args.cpu.0) c.self.view_is

left : (g : _) (c : goal.After-go_offline g) →
    Leaves resting (after_offline (is_waiting c.go_offline.new.core c.args.cpu.0) c.args.cpu.0)
    c.args.self.now c.go_offline.new.core
left g c =
    let w = c.args.self.now in
    let d = c.args.cpu.0 in
    let run = in_run g.F.CoreFit.exact resting w c.requires.fit in
    at_end (λ (v : World). Leaves resting (after_offline (is_waiting v d) d) w v) d _
    c.go_offline.new.core (is g c) c.go_offline.ensures.ends
    (λ stop. goes c.law_step.ensures w d run
    (may_go w run d c.requires.cpu c.requires.online c.requires.active c.requires.missed) stop
    c.law_offlines.ensures)

pub invariant_of-self : goal.invariant_of-self
invariant_of-self g c = in_time c.self.view_is c.self.invariant (left g c)

pub returns : goal.returns
returns g c =
    let w = c.args.self.now in
    let d = c.args.cpu.0 in
    let run = in_run g.F.CoreFit.exact resting w c.requires.fit in
    record {
      fit = fits g.F.CoreFit.exact (left g c) c.requires.fit;
      state = is g c;
      same = (left g c).same;
      succeeds = at_end (λ (v : World). successor (state_of v) d ≡ successor (state_of w) d) d _
          c.go_offline.new.core (is g c) c.go_offline.ensures.ends
          (succeeds c.law_step.ensures w d run
          (may_go w run d c.requires.cpu c.requires.online c.requires.active c.requires.missed));
    }
