use Rattle.std.proofs.Common.{rules, subst, sym, ◌+◌, ◌<◌, ◌^◌, ◌≡◌}
use Rattle.std.specs.Result.{IfOk, OnErr, OnOk}
use Rattle.std.proofs.lemmas.Result.{IfOk-weaker, on_ok_weaker}
use Rattle.cpu_bases.specs.CpuBases.{item_queued}
use Rattle.play_rules.specs.Machines.{Same}
use Rattle.core_world.specs.declared.step.Step.{Step}
use Rattle.core_world.specs.declared.step.Step.TheVariants as steps
use Rattle.core_world.specs.Enabled.{MayArm}
use Rattle.core_world.specs.Steps.{stepped}
use Rattle.core_world.specs.World.{World, cpu_of}
use Rattle.step_play.specs.Rules.StepRules.{step_rules}
use Rattle.core_machine.proofs.Calls.InTime.{stays_in_time}
use Rattle.core_machine.proofs.Draining.ArmCancel.{ArmsAt, LeavesArmed, arm_enabled, arm_leaves}
use Rattle.core_machine.proofs.Draining.ArmCancel.{arm_wheel, arms_at}
use Rattle.core_machine.proofs.machine.CorePlayerPlayMachine.arm.Goals as goal

pub arm-requires : goal.arm-requires
arm-requires g c =
    let w = c.args.self.now in
    let a = c.args.arming in
    let short : a.delay < 2 ^ 32 = search rules in
    subst (λ (w : World). MayArm w c.args.cpu.0 a.timer.0 a.class (c.now.result + c.from.result))
    (sym c.self.view_is)
    (arm_enabled c.law_step.ensures w c.args.cpu.0 a (c.now.result + c.from.result)
    (arms_at g.F.CoreFit.exact c.self.inside.core w c.self.view_is c.self.invariant c.args.cpu.0 a
    c.requires.cpu c.requires.timer short c.requires.not_queued c.requires.fit
    (c.now.result + c.from.result) (λ j. c.now.ensures j + c.from.ensures j)))

is_arming : (g : _) (c : goal.After-arm g) →
    ArmsAt c.args.self.now c.args.cpu.0 c.args.arming (c.now.result + c.from.result)
is_arming g c =
    let short : c.args.arming.delay < 2 ^ 32 = search rules in
    arms_at g.F.CoreFit.exact c.self.inside.core c.args.self.now c.self.view_is c.self.invariant
    c.args.cpu.0 c.args.arming c.requires.cpu c.requires.timer short c.requires.not_queued
    c.requires.fit (c.now.result + c.from.result) (λ j. c.now.ensures j + c.from.ensures j)

kept : (g : _) (c : goal.After-arm g) → OnErr c.arm.result (c.arm.new.self ≡ c.args.self.now)
kept g c =
    subst (λ (w : World). OnErr c.arm.result (c.arm.new.self ≡ w)) c.self.view_is c.arm.ensures.err

left : (g : _) (c : goal.After-arm g) → OnOk c.arm.result
    (LeavesArmed g.F.CoreFit.exact c.args.self.now c.args.cpu.0 c.args.arming c.arm.new.self)
left g c =
    let a = c.args.arming in
    let step : Step = steps.Arm c.args.cpu a.timer a.class (c.now.result + c.from.result) a.job
    a.arg a.line in
    on_ok_weaker c.arm.result
    (arm_leaves c.law_step.ensures c.args.self.now c.args.cpu.0 a _ (is_arming g c)
    g.F.CoreFit.exact c.arm.new.self)
    (subst (λ (w : World). OnOk c.arm.result (c.arm.new.self ≡ stepped w step)) c.self.view_is
    c.arm.ensures.ok)

same : (g : _) (c : goal.After-arm g) →
    OnOk c.arm.result (Same step_rules c.args.self.now c.arm.new.self)
same g c = on_ok_weaker c.arm.result (λ left. left.same) (left g c)

pub invariant_of-self : goal.invariant_of-self
invariant_of-self g c =
    stays_in_time c.arm.result c.arm.new.self c.self.view_is c.self.invariant (same g c) (kept g c)

pub returns : goal.returns
returns g c =
    let a = c.args.arming in
    let d = c.args.cpu.0 in
    let n = c.now.result + c.from.result in
    record {
      fit = on_ok_weaker c.arm.result (λ left. left.fit) (left g c);
      wheel = IfOk-weaker c.arm.result _ _
          (arm_wheel c.law_step.ensures c.args.self.now c.args.cpu.0 a n (is_arming g c))
          (subst (λ (w : World). IfOk c.arm.result (λ wheel. wheel
          ≡ (item_queued w.clock a.class a.timer.0 n a.job a.arg (cpu_of w d).bases).wheel))
          c.self.view_is c.arm.ensures.wheel);
      state = on_ok_weaker c.arm.result (λ left. left.state) (left g c);
      same = same g c;
      online = on_ok_weaker c.arm.result (λ left. left.online) (left g c);
      kept = kept g c;
    }
