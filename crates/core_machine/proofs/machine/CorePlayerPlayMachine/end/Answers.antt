use Rattle.std.proofs.Common.{ap, false, subst, sym, true, ◌∙◌, ◌≡◌}
use Rattle.std.proofs.lemmas.Bool.{cond-false, cond-true}
use Rattle.core_world.specs.declared.step.Step.TheVariants as steps
use Rattle.core_world.specs.Enabled.{MayLeave, MayReeval}
use Rattle.core_world.specs.Steps.{stepped}
use Rattle.core_world.specs.World.{World, cpu_of}
use Rattle.step_play.specs.Rules.Alone.{walked_out}
use Rattle.step_play.specs.Rules.Lone.{IsLone}
use Rattle.step_play.specs.Rules.Seen.{inside, resting}
use Rattle.step_play.specs.Rules.StepRules.{ended_by_steps}
use Rattle.step_play.proofs.Lone.{run_lone}
use Rattle.step_play.proofs.Telling.Reevaluating.{may_leave, may_reevaluate}
use Rattle.core_machine.proofs.Calls.Fitting.{fits, in_run}
use Rattle.core_machine.proofs.Calls.Insides.{leaves, reevaluates}
use Rattle.core_machine.proofs.Calls.InTime.{in_time}
use Rattle.core_machine.proofs.Calls.Leaves.{LeavesOnline, at_end}
use Rattle.core_machine.proofs.machine.CorePlayerPlayMachine.end.Goals as goal

-- an idle CPU re-evaluates
pub reevaluate-requires-clause-enabled : goal.reevaluate-requires-clause-enabled
reevaluate-requires-clause-enabled g c =
    let w = c.args.self.now in
    subst (λ (w : World). MayReeval w c.args.cpu.0) (sym c.self.view_is)
    (may_reevaluate w c.args.cpu.0
    (in_run g.F.CoreFit.exact (inside c.args.cpu.0) w c.requires.fit)
    (subst (λ (w : World). (cpu_of w c.args.cpu.0).idle ≡ true) c.self.view_is
    (sym c.is_idle.ensures.idle ∙ c.if-is_idle.true)))

pub reevaluate-requires-clause-lone : goal.reevaluate-requires-clause-lone
reevaluate-requires-clause-lone g c =
    subst (λ (w : World). IsLone w c.args.cpu.0) (sym c.self.view_is)
    (run_lone (inside c.args.cpu.0) c.args.self.now c.args.cpu.0
    (in_run g.F.CoreFit.exact (inside c.args.cpu.0) c.args.self.now c.requires.fit))

told : (g : _) (c : goal.After-reevaluate g) →
    (c.reevaluate.new.core ≡ ended_by_steps c.args.self.now c.args.cpu.0)
    × LeavesOnline (inside c.args.cpu.0) resting c.args.self.now c.reevaluate.new.core
told g c =
    let w = c.args.self.now in
    let d = c.args.cpu.0 in
    let idle = subst (λ (w : World). (cpu_of w d).idle ≡ true) c.self.view_is
    (sym c.is_idle.ensures.idle ∙ c.if-is_idle.true) in
    let is : c.reevaluate.new.core ≡ walked_out d (stepped w (steps.Reeval c.args.cpu)) =
    c.reevaluate.ensures.walked
    ∙ ap (λ (w : World). walked_out d (stepped w (steps.Reeval c.args.cpu))) c.self.view_is in (
      is
          ∙ sym (cond-true (cpu_of w d).idle (walked_out d (stepped w (steps.Reeval c.args.cpu)))
          (stepped w (steps.Leave c.args.cpu)) idle),
      at_end (LeavesOnline (inside d) resting w) d
          (walked_out d (stepped w (steps.Reeval c.args.cpu))) c.reevaluate.new.core is
          c.reevaluate.ensures.ends
          (reevaluates w c.law_step.ensures d
          (in_run g.F.CoreFit.exact (inside d) w c.requires.fit) c.requires.cpu
          c.law_ends.ensures idle),
    )

pub invariant_of-self : goal.invariant_of-self
invariant_of-self g c = in_time c.self.view_is c.self.invariant (told g c).1.left

pub returns-then-is_idle : goal.returns-then-is_idle
returns-then-is_idle g c = record {
  fit = fits g.F.CoreFit.exact (told g c).1.left c.requires.fit;
  state = (told g c).0;
  same = (told g c).1.left.same;
  online = (told g c).1.online;
}

-- an active CPU leaves
pub make-requires-clause-enabled : goal.make-requires-clause-enabled
make-requires-clause-enabled g c =
    let w = c.args.self.now in
    subst (λ (w : World). MayLeave w c.args.cpu.0) (sym c.self.view_is)
    (may_leave w c.args.cpu.0 (in_run g.F.CoreFit.exact (inside c.args.cpu.0) w c.requires.fit)
    (subst (λ (w : World). (cpu_of w c.args.cpu.0).idle ≡ false) c.self.view_is
    (sym c.is_idle.ensures.idle ∙ c.if-is_idle.false)))

out : (g : _) (c : goal.After-make g) →
    (c.make.new.core ≡ ended_by_steps c.args.self.now c.args.cpu.0)
    × LeavesOnline (inside c.args.cpu.0) resting c.args.self.now c.make.new.core
out g c =
    let w = c.args.self.now in
    let d = c.args.cpu.0 in
    let busy = subst (λ (w : World). (cpu_of w d).idle ≡ false) c.self.view_is
    (sym c.is_idle.ensures.idle ∙ c.if-is_idle.false) in
    let is : c.make.new.core ≡ stepped w (steps.Leave c.args.cpu) = c.make.ensures.made
    ∙ ap (λ (w : World). stepped w (steps.Leave c.args.cpu)) c.self.view_is in (
      is
          ∙ sym (cond-false (cpu_of w d).idle (walked_out d (stepped w (steps.Reeval c.args.cpu)))
          (stepped w (steps.Leave c.args.cpu)) busy),
      subst (LeavesOnline (inside d) resting w) (sym is)
          (leaves w c.law_step.ensures d (in_run g.F.CoreFit.exact (inside d) w c.requires.fit)
          c.requires.cpu c.law_ends.ensures busy),
    )

pub invariant_of-self-else-is_idle : goal.invariant_of-self-else-is_idle
invariant_of-self-else-is_idle g c = in_time c.self.view_is c.self.invariant (out g c).1.left

pub returns-else-is_idle : goal.returns-else-is_idle
returns-else-is_idle g c = record {
  fit = fits g.F.CoreFit.exact (out g c).1.left c.requires.fit;
  state = (out g c).0;
  same = (out g c).1.left.same;
  online = (out g c).1.online;
}
