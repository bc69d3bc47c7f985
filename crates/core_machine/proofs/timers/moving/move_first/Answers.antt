use Rattle.std.proofs.Common.{◌∙◌, refl, subst, sym}
use Rattle.std.proofs.lemmas.Result.{err_from_is_err_and}
use Rattle.play_rules.specs.Machines.{Same, SameFlags}
use Rattle.step_play.specs.Rules.Seen.{InPlay, InRun, resting}
use Rattle.step_play.specs.Rules.StepRules.{step_rules}
use Rattle.core_machine.proofs.Draining.FirstMoves.{move_enabled, move_fits, move_flags, move_in_play}
use Rattle.core_machine.proofs.Draining.FirstMoves.{move_same, move_told}
use Rattle.core_machine.proofs.Draining.Sames.{same_self}
use Rattle.core_machine.proofs.timers.moving.move_first.Goals as goal

pub move_timer-requires : goal.move_timer-requires
move_timer-requires g c =
    move_enabled c.law_step.ensures c.args.core.now c.requires.fit c.args.from.0 c.args.to.0
    c.requires.from c.requires.offline c.requires.placed c.requires.active c.in-Some.timer
    c.in-Some.ensures

pub returns-clause-fit : goal.returns-clause-fit
returns-clause-fit g c =
    subst (InRun resting) (sym c.in_ok-wheel.ensures.ok)
    (move_fits c.law_step.ensures c.args.core.now c.requires.fit c.args.from.0 c.args.to.0
    c.requires.from c.requires.offline c.requires.placed c.requires.active c.in-Some.timer
    c.in-Some.ensures)

pub returns-clause-play : goal.returns-clause-play
returns-clause-play g c = λ p.
    subst (InPlay resting) (sym c.in_ok-wheel.ensures.ok)
    (move_in_play c.law_step.ensures c.args.core.now c.requires.fit c.args.from.0 c.args.to.0
    c.requires.from c.requires.offline c.requires.placed c.requires.active c.in-Some.timer
    c.in-Some.ensures p)

pub returns-clause-moved : goal.returns-clause-moved
returns-clause-moved g c =
    c.mover_at.ensures
    ∙ move_told c.law_step.ensures c.args.core.now c.requires.fit c.args.from.0 c.args.to.0
    c.requires.from c.requires.offline c.requires.placed c.requires.active c.in-Some.timer
    c.in-Some.ensures _ c.in_ok-wheel.ensures.wheel

pub returns-clause-same : goal.returns-clause-same
returns-clause-same g c =
    subst (Same step_rules c.args.core.now) (sym c.in_ok-wheel.ensures.ok)
    (move_same c.law_step.ensures c.args.core.now c.requires.fit c.args.from.0 c.args.to.0
    c.requires.from c.requires.offline c.requires.placed c.requires.active c.in-Some.timer
    c.in-Some.ensures)

pub returns-clause-flags : goal.returns-clause-flags
returns-clause-flags g c =
    subst (SameFlags step_rules c.args.core.now) (sym c.in_ok-wheel.ensures.ok)
    (move_flags c.law_step.ensures c.args.core.now c.requires.fit c.args.from.0 c.args.to.0
    c.requires.from c.requires.offline c.requires.placed c.requires.active c.in-Some.timer
    c.in-Some.ensures)

pub first_timer-requires : goal.first_timer-requires
first_timer-requires g c = c.requires.from

pub returns-in_default-clause-fit : goal.returns-in_default-clause-fit
returns-in_default-clause-fit g c = c.requires.fit

pub returns-in_default-clause-play : goal.returns-in_default-clause-play
returns-in_default-clause-play g c = λ p. p

pub returns-in_default-clause-same : goal.returns-in_default-clause-same
returns-in_default-clause-same g c = same_self c.args.core.now c.args.core.now refl

pub returns-in_default-clause-flags : goal.returns-in_default-clause-flags
returns-in_default-clause-flags g c = record { online = λ d. refl; idle = λ d. refl }

pub returns-in_err-wheel : goal.returns-in_err-wheel
returns-in_err-wheel g c =
    let p = err_from_is_err_and c.from_residual.result c.from_residual.ensures.1 in
    record {
      fit = rw p.1 tt;
      play = rw p.1 tt;
      moved = rw p.1 tt;
      state = rw p.1 tt;
      same = rw p.1 tt;
      flags = rw p.1 tt;
      err = rw p.1 c.in_err-wheel.ensures.err;
    }

pub returns-clause-err : goal.returns-clause-err
returns-clause-err g c = tt
