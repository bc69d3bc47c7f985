use Rattle.std.proofs.Common.{◌∙◌, ap, subst, sym}
use Rattle.std.specs.Prelude.{All}
use Rattle.std.proofs.lemmas.Result.{err_from_is_err_and}
use Rattle.core_world.specs.World.{World}
use Rattle.play_rules.specs.Machines.{IsTimerOf, Same, SameOnline}
use Rattle.play_rules.specs.Phases.{MayDrain, StaysFit}
use Rattle.step_play.specs.Rules.Seen.{InPlay, InRun}
use Rattle.step_play.specs.Rules.StepRules.{step_rules}
use Rattle.core_machine.proofs.Draining.WholeDrains.{drain_fits, drain_in_play, drain_online, drain_same}
use Rattle.core_machine.proofs.Draining.WholeDrains.{drain_may, drain_timers}
use Rattle.core_machine.proofs.timers.draining.drain.Goals as goal

pub hand_due-requires : goal.hand_due-requires
hand_due-requires g c = record {
  drains = drain_may c.law_step.ensures c.args.core.now c.args.home.0 c.args.class
      c.args.runner.0 c.requires.home c.requires.fit;
}

pub drained-requires : goal.drained-requires
drained-requires g c = record {
  is_free = c.in_ok-items.ensures.drains.free;
  may_run = c.in_ok-items.ensures.drains.may;
  none_due = c.in_ok-items.ensures.none;
}

pub returns-in_err-items-clause-err : goal.returns-in_err-items-clause-err
returns-in_err-items-clause-err g c =
    let p = err_from_is_err_and c.from_residual.result c.from_residual.ensures.1 in
    rw p.1 c.in_err-items.ensures.some

pub returns-in_err-items-clause-part : goal.returns-in_err-items-clause-part
returns-in_err-items-clause-part g c =
    let p = err_from_is_err_and c.from_residual.result c.from_residual.ensures.1 in
    rw p.1 c.in_err-items.ensures.part

pub returns-in_err-drained-clause-err : goal.returns-in_err-drained-clause-err
returns-in_err-drained-clause-err g c =
    let left = c.from_residual-in_err-drained in
    let p = err_from_is_err_and left.result left.ensures.1 in
    rw (p.1, c.in_err-drained.ensures.err) c.in_ok-items.ensures.some

pub returns-in_err-drained-clause-part : goal.returns-in_err-drained-clause-part
returns-in_err-drained-clause-part g c =
    let left = c.from_residual-in_err-drained in
    let p = err_from_is_err_and left.result left.ensures.1 in
    rw (p.1, c.in_err-drained.ensures.err) c.in_ok-items.ensures.part

pub returns-clause-clock : goal.returns-clause-clock
returns-clause-clock g c =
    ap (λ (w : World). w.clock) c.in_ok-drained.ensures.ok ∙ c.in_ok-items.ensures.clock

pub returns-clause-state : goal.returns-clause-state
returns-clause-state g c = c.in_ok-drained.ensures.ok ∙ c.in_ok-items.ensures.state

pub returns-clause-fit : goal.returns-clause-fit
returns-clause-fit g c =
    subst (StaysFit InRun (λ ph. MayDrain ph c.args.home.0 c.args.class c.args.runner.0)
    c.args.core.now) (sym (c.in_ok-drained.ensures.ok ∙ c.in_ok-items.ensures.state))
    (drain_fits c.law_step.ensures c.args.core.now c.args.home.0 c.args.class c.args.runner.0
    c.requires.home c.requires.fit)

pub returns-clause-play : goal.returns-clause-play
returns-clause-play g c =
    subst (StaysFit InPlay (λ ph. MayDrain ph c.args.home.0 c.args.class c.args.runner.0)
    c.args.core.now) (sym (c.in_ok-drained.ensures.ok ∙ c.in_ok-items.ensures.state))
    (drain_in_play c.law_step.ensures c.args.core.now c.args.home.0 c.args.class c.args.runner.0
    c.requires.home c.requires.fit)

pub returns-clause-timers : goal.returns-clause-timers
returns-clause-timers g c =
    subst (All (IsTimerOf c.args.core.now.timers)) (sym c.in_ok-items.ensures.items)
    (drain_timers c.law_step.ensures c.args.core.now c.args.home.0 c.args.class c.args.runner.0
    c.requires.home c.requires.fit)

pub returns-clause-same : goal.returns-clause-same
returns-clause-same g c =
    subst (Same step_rules c.args.core.now)
    (sym (c.in_ok-drained.ensures.ok ∙ c.in_ok-items.ensures.state))
    (drain_same c.law_step.ensures c.args.core.now c.args.home.0 c.args.class c.args.runner.0
    c.requires.home c.requires.fit)

pub returns-clause-online : goal.returns-clause-online
returns-clause-online g c =
    subst (SameOnline step_rules c.args.core.now)
    (sym (c.in_ok-drained.ensures.ok ∙ c.in_ok-items.ensures.state))
    (drain_online c.law_step.ensures c.args.core.now c.args.home.0 c.args.class c.args.runner.0
    c.requires.home c.requires.fit)
