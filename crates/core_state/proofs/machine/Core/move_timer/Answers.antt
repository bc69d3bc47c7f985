use Rattle.std.proofs.Common.{List, Some, ap, arith, length, length-set, refl, subst, sym}
use Rattle.std.proofs.Common.{◌∙◌}
use Rattle.std.proofs.lemmas.Result.{err_from_is_err_and}
use Rattle.std.specs.Prelude.{option_map}
use Rattle.std.proofs.lemmas.Option.{same_Some}
use Rattle.core_parts.specs.core_world.World.{CpuRecord, World, cpu_of}
use Rattle.core_state.specs.Kept.{IsHeld, IsKept, world_of}
use Rattle.core_parts.specs.Moves.{MayTakeIn}
use Rattle.core_state.proofs.Holders.{note_low}
use Rattle.core_state.proofs.MoveStep.{apart, may_take_in, move_done, move_kept, move_wheel}
use Rattle.core_state.proofs.MoveStep.{noted_here}
use Rattle.core_state.proofs.TimerSteps.{on_err}
use Rattle.core_state.proofs.machine.Core.move_timer.Goals as goal

pub move_between-requires-clause-may : goal.move_between-requires-clause-may
move_between-requires-clause-may g c =
    let is = same_Some _ _
    (c.in-Some.ensures.class ∙ ap (option_map (λ first. first.0)) c.requires.first) in
    subst (λ (u : World). MayTakeIn c.in-Some.class (cpu_of u c.args.from.0).bases
    (cpu_of u c.args.to.0).bases) (sym c.self.view_is)
    (may_take_in c.args.self.now c.self.inside.holders.items c.args.from c.args.to c.args.timer
    (subst (λ u. IsHeld u c.self.inside.holders.items) c.self.view_is c.self.invariant.held)
    c.kept.ensures.fits c.law_bases.ensures.queued_once c.timers_kept.ensures
    c.timers_kept-2.ensures c.requires c.in-Some.class is)

pub index_mut-requires : goal.index_mut-requires
index_mut-requires g c =
    let low = note_low c.self.inside.holders.items c.args.timer.0 c.args.from
    (noted_here c.args.self.now c.self.inside.holders.items c.args.from c.args.to c.args.timer
    (subst (λ u. IsHeld u c.self.inside.holders.items) c.self.view_is c.self.invariant.held)
    c.kept.ensures.fits c.law_bases.ensures.queued_once c.timers_kept.ensures
    c.timers_kept-2.ensures c.requires) in
    let at = c.from.ensures in
    omega (arith, low, at)

pub invariant_of-self-2 : goal.invariant_of-self-2
invariant_of-self-2 g c =
    let is = same_Some _ _
    (c.in-Some.ensures.class ∙ ap (option_map (λ first. first.0)) c.requires.first) in
    move_kept c.args.self.now c.self.inside.holders.items c.args.from c.args.to c.args.timer
    (subst (λ u. IsHeld u c.self.inside.holders.items) c.self.view_is c.self.invariant.held)
    c.kept.ensures.fits c.law_bases.ensures.queued_once c.timers_kept.ensures
    c.timers_kept-2.ensures c.requires _ c.move_between.new.cpus.items c.in-Some.class
    c.now-now.result _ c.self.view_is is c.now-now.ensures c.in_ok-wheel.ensures.ok
    (length-set c.self.inside.holders.items c.from.result (Some c.args.to)) c.from.result
    c.self.inside.tally c.from.ensures c.kept.ensures.stays refl c.self.invariant.tallied

pub returns-clause-ok : goal.returns-clause-ok
returns-clause-ok g c =
    let is = same_Some _ _
    (c.in-Some.ensures.class ∙ ap (option_map (λ first. first.0)) c.requires.first) in
    move_done c.args.self.now c.self.inside.holders.items c.args.from c.args.to c.args.timer
    (subst (λ u. IsHeld u c.self.inside.holders.items) c.self.view_is c.self.invariant.held)
    c.kept.ensures.fits c.law_bases.ensures.queued_once c.timers_kept.ensures
    c.timers_kept-2.ensures c.requires _ c.move_between.new.cpus.items c.in-Some.class
    c.now-now.result _ c.self.view_is is c.now-now.ensures c.in_ok-wheel.ensures.ok
    (length-set c.self.inside.holders.items c.from.result (Some c.args.to))

pub returns-clause-wheel : goal.returns-clause-wheel
returns-clause-wheel g c =
    let is = same_Some _ _
    (c.in-Some.ensures.class ∙ ap (option_map (λ first. first.0)) c.requires.first) in
    move_wheel c.args.self.now c.self.inside.holders.items c.args.from c.args.to c.args.timer
    (subst (λ u. IsHeld u c.self.inside.holders.items) c.self.view_is c.self.invariant.held)
    c.kept.ensures.fits c.law_bases.ensures.queued_once c.timers_kept.ensures
    c.timers_kept-2.ensures c.requires _ c.in-Some.class c.now-now.result c.self.view_is is
    c.now-now.ensures _ c.in_ok-wheel.ensures.wheel

pub timers_kept-requires : goal.timers_kept-requires
timers_kept-requires g c = c.requires.from_free.in_range

pub timers_kept-requires-2 : goal.timers_kept-requires-2
timers_kept-requires-2 g c = c.requires.to_free.in_range

pub class_to_move-requires : goal.class_to_move-requires
class_to_move-requires g c = c.requires.from_free.in_range

pub move_between-requires-clause-now_in_time : goal.move_between-requires-clause-now_in_time
move_between-requires-clause-now_in_time g c =
    let fits = c.kept.ensures.fits.in_time in
    let time = c.now-now.ensures in
    omega (arith, fits, time)

pub move_between-requires-clause-apart : goal.move_between-requires-clause-apart
move_between-requires-clause-apart g c =
    apart c.args.self.now c.self.inside.holders.items c.args.from c.args.to c.args.timer
    (subst (λ u. IsHeld u c.self.inside.holders.items) c.self.view_is c.self.invariant.held)
    c.kept.ensures.fits c.law_bases.ensures.queued_once c.timers_kept.ensures
    c.timers_kept-2.ensures c.requires

pub invariant_of-self : goal.invariant_of-self
invariant_of-self g c =
    subst (λ (ys : List CpuRecord). IsKept (world_of c.self.inside.tree
    (length c.self.inside.holders.items) c.self.inside.clock c.self.inside.groups.items ys)
    c.self.inside.holders.items c.self.inside.tally) (sym c.in_err-wheel.ensures.err)
    c.self.invariant

pub returns-in_err-wheel-clause-wheel : goal.returns-in_err-wheel-clause-wheel
returns-in_err-wheel-clause-wheel g c =
    let p = err_from_is_err_and c.from_residual.result c.from_residual.ensures.1 in rw p.1 tt

pub returns-in_err-wheel-clause-ok : goal.returns-in_err-wheel-clause-ok
returns-in_err-wheel-clause-ok g c =
    let p = err_from_is_err_and c.from_residual.result c.from_residual.ensures.1 in rw p.1 tt

pub returns-in_err-wheel-clause-err : goal.returns-in_err-wheel-clause-err
returns-in_err-wheel-clause-err g c =
    on_err c.from_residual.result _
    (ap (λ (ys : List CpuRecord). world_of c.self.inside.tree
    (length c.self.inside.holders.items) c.self.inside.clock c.self.inside.groups.items ys)
    c.in_err-wheel.ensures.err ∙ c.self.view_is)
