use Rattle.std.proofs.Common.{length, subst, sym, ◌<◌, ◌≡◌}
use Rattle.std.specs.Result.{OnErr, OnOk}
use Rattle.std.proofs.lemmas.Result.{on_ok_weaker}
use Rattle.play_rules.specs.Machines.{Same}
use Rattle.core_world.specs.Enabled.{MayCancel}
use Rattle.core_world.specs.World.{World}
use Rattle.step_play.specs.Rules.Seen.{resting}
use Rattle.step_play.specs.Rules.StepRules.{step_rules}
use Rattle.core_machine.proofs.Calls.Fitting.{fits, in_run}
use Rattle.core_machine.proofs.Calls.InTime.{stays_in_time}
use Rattle.core_machine.proofs.Calls.Leaves.{Leaves}
use Rattle.core_machine.proofs.Draining.ArmCancel.{cancel_enabled, cancel_leaves}
use Rattle.core_machine.proofs.machine.CorePlayerPlayMachine.cancel.Goals as goal

pub cancel-requires : goal.cancel-requires
cancel-requires g c =
    subst (λ (w : World). MayCancel w c.args.home.0 c.args.cancelling.timer.0
    × (c.args.cancelling.by.0 < length w.cpus)) (sym c.self.view_is) (
      cancel_enabled c.law_step.ensures c.args.self.now c.args.home c.args.cancelling
          c.requires.home c.requires.by c.requires.queued
          (in_run g.F.CoreFit.exact resting c.args.self.now c.requires.fit),
      c.requires.by,
    )

is : (g : _) (c : goal.After-cancel g) → OnOk c.cancel.result (c.cancel.new.self
    ≡ step_rules.cancelled c.args.self.now c.args.home.0 c.args.cancelling)
is g c =
    subst (λ (w : World). OnOk c.cancel.result
    (c.cancel.new.self ≡ step_rules.cancelled w c.args.home.0 c.args.cancelling))
    c.self.view_is c.cancel.ensures.ok

kept : (g : _) (c : goal.After-cancel g) →
    OnErr c.cancel.result (c.cancel.new.self ≡ c.args.self.now)
kept g c =
    subst (λ (w : World). OnErr c.cancel.result (c.cancel.new.self ≡ w)) c.self.view_is
    c.cancel.ensures.err

left : (g : _) (c : goal.After-cancel g) →
    OnOk c.cancel.result (Leaves resting resting c.args.self.now c.cancel.new.self)
left g c =
    on_ok_weaker c.cancel.result (λ is.
    subst (Leaves resting resting c.args.self.now) (sym is)
    (cancel_leaves c.law_step.ensures c.args.self.now c.args.home c.args.cancelling
    c.requires.home c.requires.by c.requires.queued
    (in_run g.F.CoreFit.exact resting c.args.self.now c.requires.fit))) (is g c)

same : (g : _) (c : goal.After-cancel g) →
    OnOk c.cancel.result (Same step_rules c.args.self.now c.cancel.new.self)
same g c =
    on_ok_weaker c.cancel.result
    (λ (left : Leaves resting resting c.args.self.now c.cancel.new.self). left.same) (left g c)

pub invariant_of-self : goal.invariant_of-self
invariant_of-self g c =
    stays_in_time c.cancel.result c.cancel.new.self c.self.view_is c.self.invariant (same g c)
    (kept g c)

pub returns : goal.returns
returns g c = record {
  fit = on_ok_weaker c.cancel.result
      (λ (left : Leaves resting resting c.args.self.now c.cancel.new.self).
      fits g.F.CoreFit.exact left c.requires.fit) (left g c);
  state = is g c;
  same = same g c;
  kept = kept g c;
}
