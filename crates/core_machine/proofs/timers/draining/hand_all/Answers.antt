use Rattle.std.proofs.Common.{◌≡◌, ◌++◌, ◌∷◌, ◌∙◌, [], None, ap, arith, refl, subst, sym}
use Rattle.std.specs.Prelude.{OnSome}
use Rattle.wheel_core.specs.PlainBase.{OneFewer, next_out}
use Rattle.cpu_bases.specs.CpuBases.{base_of}
use Rattle.play_rules.specs.Machines.{PartDrained}
use Rattle.play_rules.specs.Timers.{item_then}
use Rattle.core_world.specs.declared.step.Step.TheVariants as steps
use Rattle.core_world.specs.Steps.{stepped}
use Rattle.core_world.specs.World.{World, cpu_of}
use Rattle.step_play.specs.Rules.StepRules.{items_due, step_rules}
use Rattle.core_machine.specs.Draining.Turns.{DrainedSome, handed_next}
use Rattle.core_machine.proofs.Draining.Turns.{drain_items, drain_more, drain_state, drained_more}
use Rattle.core_machine.proofs.Draining.Turns.{DrainsSoFar, drained_some, nothing_out, part_drained}
use Rattle.core_machine.proofs.timers.draining.hand_all.Goals as goal

pub loop-items-preserved : goal.loop-items-preserved
loop-items-preserved g c =
    let is =
    c.in_ok-item.ensures.state
    ∙ ap (handed_next c.loop-items.core c.args.home.0 c.args.runner.0) c.in-Some.is in
    let due =
    c.in_ok-item.ensures.due
    ∙ ap (λ o. item_then o (items_due c.hand_next.new.core c.args.home.0 c.args.class))
    c.in-Some.is in
    record {
      so_far = drain_more c.args.home.0 c.args.class c.args.runner.0 c.args.core.now
          c.loop-items.core c.hand_next.new.core c.loop-items.items.items c.push.new.self.items
          c.in-Some.item c.loop-items.invariant.so_far is c.in_ok-item.ensures.drains due
          c.hand_next.ensures.same c.hand_next.ensures.online c.in_ok-push.ensures.items;
      clock = c.hand_next.ensures.clock ∙ c.loop-items.invariant.clock;
    }

pub returns-in_err-push-clause-some : goal.returns-in_err-push-clause-some
returns-in_err-push-clause-some g c =
    let is =
    c.in_ok-item.ensures.state
    ∙ ap (handed_next c.loop-items.core c.args.home.0 c.args.runner.0) c.in-Some.is in
    let due =
    c.in_ok-item.ensures.due
    ∙ ap (λ o. item_then o (items_due c.hand_next.new.core c.args.home.0 c.args.class))
    c.in-Some.is in
    drained_some c.args.home.0 c.args.class c.args.runner.0 c.args.core.now
    c.hand_next.new.core (c.loop-items.items.items ++ c.in-Some.item ∷ [])
    (drained_more c.args.home.0 c.args.class c.args.runner.0 c.args.core.now c.loop-items.core
    c.hand_next.new.core c.loop-items.items.items c.in-Some.item c.loop-items.invariant.so_far is
    c.in_ok-item.ensures.drains due c.hand_next.ensures.same c.hand_next.ensures.online)

pub returns-in_err-push-clause-part : goal.returns-in_err-push-clause-part
returns-in_err-push-clause-part g c =
    let is =
    c.in_ok-item.ensures.state
    ∙ ap (handed_next c.loop-items.core c.args.home.0 c.args.runner.0) c.in-Some.is in
    let due =
    c.in_ok-item.ensures.due
    ∙ ap (λ o. item_then o (items_due c.hand_next.new.core c.args.home.0 c.args.class))
    c.in-Some.is in
    part_drained c.args.home.0 c.args.class c.args.runner.0 c.args.core.now
    c.hand_next.new.core (c.loop-items.items.items ++ c.in-Some.item ∷ [])
    (drained_more c.args.home.0 c.args.class c.args.runner.0 c.args.core.now c.loop-items.core
    c.hand_next.new.core c.loop-items.items.items c.in-Some.item c.loop-items.invariant.so_far is
    c.in_ok-item.ensures.drains due c.hand_next.ensures.same c.hand_next.ensures.online)

pub loop-items-init : goal.loop-items-init
loop-items-init g c = record {
  so_far =
      subst (DrainsSoFar c.args.home.0 c.args.class c.args.runner.0 c.args.core.now c.args.core.now)
      (sym c.new-items.ensures.items)
      (nothing_out c.args.home.0 c.args.class c.args.runner.0 c.args.core.now c.requires.drains);
  clock = refl;
}

pub loop-items-smaller : goal.loop-items-smaller
loop-items-smaller g c =
    let fewer =
    subst (λ o. OnSome o
    (OneFewer (base_of c.args.class (cpu_of c.loop-items.core c.args.home.0).bases)
    (base_of c.args.class (cpu_of c.hand_next.new.core c.args.home.0).bases))) c.in-Some.is
    c.in_ok-item.ensures.fewer in
    omega (arith, fewer)

pub returns-in_err-item-clause-some : goal.returns-in_err-item-clause-some
returns-in_err-item-clause-some g c =
    subst (DrainedSome c.args.core.now c.args.home.0 c.args.class c.args.runner.0)
    (sym c.in_err-item.ensures.err)
    (drained_some c.args.home.0 c.args.class c.args.runner.0 c.args.core.now c.loop-items.core
    c.loop-items.items.items c.loop-items.invariant.so_far)

pub returns-in_err-item-clause-part : goal.returns-in_err-item-clause-part
returns-in_err-item-clause-part g c =
    subst (PartDrained step_rules c.args.core.now c.args.home.0 c.args.class c.args.runner.0)
    (sym c.in_err-item.ensures.err)
    (part_drained c.args.home.0 c.args.class c.args.runner.0 c.args.core.now c.loop-items.core
    c.loop-items.items.items c.loop-items.invariant.so_far)

pub returns-clause-items : goal.returns-clause-items
returns-clause-items g c =
    let none =
    c.in_ok-item.ensures.due
    ∙ ap (λ o. item_then o (items_due c.hand_next.new.core c.args.home.0 c.args.class))
    c.in_default.is in
    drain_items c.args.home.0 c.args.class c.args.runner.0 c.args.core.now c.loop-items.core
    c.loop-items.items.items c.loop-items.invariant.so_far none

pub returns-clause-state : goal.returns-clause-state
returns-clause-state g c =
    let same =
    c.in_ok-item.ensures.state
    ∙ ap (handed_next c.loop-items.core c.args.home.0 c.args.runner.0) c.in_default.is in
    let none =
    c.in_ok-item.ensures.due
    ∙ ap (λ o. item_then o (items_due c.hand_next.new.core c.args.home.0 c.args.class))
    c.in_default.is in
    ap (λ (w : World). stepped w (steps.Ticked c.args.home c.args.class c.args.runner)) same
    ∙ drain_state c.args.home.0 c.args.class c.args.runner.0 c.args.core.now c.loop-items.core
    c.loop-items.items.items c.loop-items.invariant.so_far none

pub returns-clause-none : goal.returns-clause-none
returns-clause-none g c =
    let same =
    c.in_ok-item.ensures.state
    ∙ ap (handed_next c.loop-items.core c.args.home.0 c.args.runner.0) c.in_default.is in
    subst (λ (w : World). next_out w.clock (base_of c.args.class (cpu_of w c.args.home.0).bases)
    ≡ None) (sym same) (sym c.in_ok-item.ensures.item ∙ c.in_default.is)

pub returns-clause-some : goal.returns-clause-some
returns-clause-some g c =
    let same =
    c.in_ok-item.ensures.state
    ∙ ap (handed_next c.loop-items.core c.args.home.0 c.args.runner.0) c.in_default.is in
    subst (DrainedSome c.args.core.now c.args.home.0 c.args.class c.args.runner.0) (sym same)
    (drained_some c.args.home.0 c.args.class c.args.runner.0 c.args.core.now c.loop-items.core
    c.loop-items.items.items c.loop-items.invariant.so_far)

pub returns-clause-part : goal.returns-clause-part
returns-clause-part g c =
    let same =
    c.in_ok-item.ensures.state
    ∙ ap (handed_next c.loop-items.core c.args.home.0 c.args.runner.0) c.in_default.is in
    subst (PartDrained step_rules c.args.core.now c.args.home.0 c.args.class c.args.runner.0)
    (sym same)
    (part_drained c.args.home.0 c.args.class c.args.runner.0 c.args.core.now c.loop-items.core
    c.loop-items.items.items c.loop-items.invariant.so_far)
