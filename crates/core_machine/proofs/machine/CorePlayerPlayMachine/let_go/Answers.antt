use Rattle.std.proofs.Common.{ap, false, subst, sym, true, ◌∙◌, ◌≡◌}
use Rattle.std.specs.Prelude.{Bool, ◌&&◌}
use Rattle.std.proofs.lemmas.Bool.{and_parts, cond-false, cond-true}
use Rattle.core_world.specs.declared.step.Step.TheVariants as steps
use Rattle.core_world.specs.Enabled.{MayCarry, MayRelease}
use Rattle.core_world.specs.Steps.{stepped}
use Rattle.core_world.specs.World.{CpuRecord, World, cpu_of}
use Rattle.step_play.specs.Rules.Alone.{walked_out}
use Rattle.step_play.specs.Rules.Lone.{IsLone}
use Rattle.step_play.specs.Rules.Seen.{inside, serving}
use Rattle.step_play.specs.Rules.StepRules.{let_go_by_steps}
use Rattle.step_play.proofs.Lone.{run_lone}
use Rattle.step_play.proofs.Telling.Letting.{may_carry}
use Rattle.core_machine.proofs.Calls.Fitting.{fits, in_run}
use Rattle.core_machine.proofs.Calls.Insides.{carries, may_release, releases}
use Rattle.core_machine.proofs.Calls.InTime.{in_time}
use Rattle.core_machine.proofs.Calls.Leaves.{LeavesOnline, at_end}
use Rattle.core_machine.proofs.machine.CorePlayerPlayMachine.let_go.Goals as goal

abbrev sleeps : CpuRecord → Bool
sleeps y = y.online && y.idle

-- of one that sleeps the first event is told again
pub carry-requires-clause-enabled : goal.carry-requires-clause-enabled
carry-requires-clause-enabled g c =
    let w = c.args.self.now in
    let y = cpu_of w c.args.other.0 in
    let parts = and_parts y.online y.idle
    (subst (λ (w : World). sleeps (cpu_of w c.args.other.0) ≡ true) c.self.view_is
    (sym c.sleeps.ensures ∙ c.if-sleeps.true)) in
    subst (λ (w : World). MayCarry w c.args.other.0) (sym c.self.view_is)
    (may_carry w c.args._cpu.0 c.args.other.0
    (in_run g.F.CoreFit.exact (serving c.args._cpu.0 c.args.other.0) w c.requires.fit) parts.0
    parts.1)

pub carry-requires-clause-lone : goal.carry-requires-clause-lone
carry-requires-clause-lone g c =
    let w = c.args.self.now in
    subst (λ (w : World). IsLone w c.args.other.0) (sym c.self.view_is)
    (run_lone (serving c.args._cpu.0 c.args.other.0) w c.args.other.0
    (in_run g.F.CoreFit.exact (serving c.args._cpu.0 c.args.other.0) w c.requires.fit))

told : (g : _) (c : goal.After-carry g) →
    (c.carry.new.core ≡ let_go_by_steps c.args.self.now c.args.other.0)
    × LeavesOnline (serving c.args._cpu.0 c.args.other.0) (inside c.args._cpu.0) c.args.self.now
    c.carry.new.core
told g c =
    let w = c.args.self.now in
    let r = c.args._cpu.0 in
    let d = c.args.other.0 in
    let y = cpu_of w d in
    let asleep = subst (λ (w : World). sleeps (cpu_of w d) ≡ true) c.self.view_is
    (sym c.sleeps.ensures ∙ c.if-sleeps.true) in
    let parts = and_parts y.online y.idle asleep in
    let is : c.carry.new.core ≡ walked_out d (stepped w (steps.Carry c.args.other)) =
    c.carry.ensures.walked
    ∙ ap (λ (w : World). walked_out d (stepped w (steps.Carry c.args.other))) c.self.view_is in (
      is
          ∙ sym (cond-true (y.online && y.idle)
          (walked_out d (stepped w (steps.Carry c.args.other)))
          (stepped w (steps.Release c.args.other)) asleep),
      at_end (LeavesOnline (serving r d) (inside r) w) d
          (walked_out d (stepped w (steps.Carry c.args.other))) c.carry.new.core is
          c.carry.ensures.ends
          (carries w c.law_step.ensures r d
          (in_run g.F.CoreFit.exact (serving r d) w c.requires.fit) c.requires.other
          c.law_lets_go.ensures parts.0 parts.1),
    )

pub invariant_of-self : goal.invariant_of-self
invariant_of-self g c = in_time c.self.view_is c.self.invariant (told g c).1.left

pub returns-then-sleeps : goal.returns-then-sleeps
returns-then-sleeps g c = record {
  fit = fits g.F.CoreFit.exact (told g c).1.left c.requires.fit;
  state = (told g c).0;
  same = (told g c).1.left.same;
  online = (told g c).1.online;
}

-- another one is released
pub make-requires-clause-enabled : goal.make-requires-clause-enabled
make-requires-clause-enabled g c =
    let w = c.args.self.now in
    subst (λ (w : World). MayRelease w c.args.other.0) (sym c.self.view_is)
    (may_release w c.args._cpu.0 c.args.other.0
    (in_run g.F.CoreFit.exact (serving c.args._cpu.0 c.args.other.0) w c.requires.fit)
    c.requires.other
    (subst (λ (w : World). sleeps (cpu_of w c.args.other.0) ≡ false) c.self.view_is
    (sym c.sleeps.ensures ∙ c.if-sleeps.false)))

released : (g : _) (c : goal.After-make g) →
    (c.make.new.core ≡ let_go_by_steps c.args.self.now c.args.other.0)
    × LeavesOnline (serving c.args._cpu.0 c.args.other.0) (inside c.args._cpu.0) c.args.self.now
    c.make.new.core
released g c =
    let w = c.args.self.now in
    let r = c.args._cpu.0 in
    let d = c.args.other.0 in
    let y = cpu_of w d in
    let awake = subst (λ (w : World). sleeps (cpu_of w d) ≡ false) c.self.view_is
    (sym c.sleeps.ensures ∙ c.if-sleeps.false) in
    let is : c.make.new.core ≡ stepped w (steps.Release c.args.other) = c.make.ensures.made
    ∙ ap (λ (w : World). stepped w (steps.Release c.args.other)) c.self.view_is in (
      is
          ∙ sym (cond-false (y.online && y.idle)
          (walked_out d (stepped w (steps.Carry c.args.other)))
          (stepped w (steps.Release c.args.other)) awake),
      subst (LeavesOnline (serving r d) (inside r) w) (sym is)
          (releases w r d (in_run g.F.CoreFit.exact (serving r d) w c.requires.fit)
          c.requires.other awake c.law_step.ensures),
    )

pub invariant_of-self-else-sleeps : goal.invariant_of-self-else-sleeps
invariant_of-self-else-sleeps g c = in_time c.self.view_is c.self.invariant (released g c).1.left

pub returns-else-sleeps : goal.returns-else-sleeps
returns-else-sleeps g c = record {
  fit = fits g.F.CoreFit.exact (released g c).1.left c.requires.fit;
  state = (released g c).0;
  same = (released g c).1.left.same;
  online = (released g c).1.online;
}
