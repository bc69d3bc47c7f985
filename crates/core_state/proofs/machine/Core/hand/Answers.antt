use Rattle.std.proofs.Common.{◌<◌, None, arith, length, length-set, refl, subst, sym, ◌∙◌}
use Rattle.std.specs.Prelude.{slice_set}
use Rattle.std.proofs.lemmas.Result.{err_from_is_err_and}
use Rattle.cpu_bases.specs.CpuBases.{class_in}
use Rattle.core_parts.specs.core_world.Steps.{handed_of}
use Rattle.core_parts.specs.core_world.World.{World}
use Rattle.core_state.specs.Kept.{IsKept}
use Rattle.core_state.proofs.TimerSteps.{done_is, hand_kept, hand_low, on_err, unchanged}
use Rattle.core_state.proofs.machine.Core.hand.Goals as goal

pub invariant_of-self : goal.invariant_of-self
invariant_of-self g c =
    subst (λ (w : World). IsKept w c.self.inside.holders.items c.self.inside.tally)
    (sym (unchanged _ c.args.self.now c.from.result c.index_mut.result.now c.hand.new.self
    c.self.view_is c.index_mut.ensures.value c.in_err-hand.ensures.err ∙ sym c.self.view_is))
    c.self.invariant

pub returns-in_err-hand-clause-err : goal.returns-in_err-hand-clause-err
returns-in_err-hand-clause-err g c =
    on_err c.from_residual.result _
    (unchanged _ c.args.self.now c.from.result c.index_mut.result.now c.hand.new.self c.self.view_is
    c.index_mut.ensures.value c.in_err-hand.ensures.err)

pub index_mut-requires-2 : goal.index_mut-requires-2
index_mut-requires-2 g c =
    let low = hand_low _ c.args.self.now c.self.inside.holders.items c.self.inside.tally
    c.args.cpu c.from.result
    c.index_mut.result.now c.hand.new.self
    c.now-now.result c.self.view_is c.self.invariant refl c.kept.ensures.stays c.timers_kept.ensures
    c.from.ensures c.index_mut.ensures.value c.now-now.ensures
    c.args.timer c.args.runner c.requires in
    let at = c.from-2.ensures in
    omega (arith, low, at)

pub invariant_of-self-2 : goal.invariant_of-self-2
invariant_of-self-2 g c =
    hand_kept _ c.args.self.now c.self.inside.holders.items c.self.inside.tally
    c.args.cpu c.from.result
    c.index_mut.result.now c.hand.new.self c.now-now.result c.self.view_is c.self.invariant refl
    c.kept.ensures.stays c.timers_kept.ensures c.from.ensures c.index_mut.ensures.value
    c.now-now.ensures c.args.timer c.args.runner c.from-2.result c.from-2.ensures c.requires
    c.in_ok-hand.ensures.ok

pub timers_kept-requires : goal.timers_kept-requires
timers_kept-requires g c = c.requires.is_free.in_range

pub index_mut-requires : goal.index_mut-requires
index_mut-requires g c =
    let low = subst (λ (w : World). c.args.cpu.0 < length w.cpus) (sym c.self.view_is)
    c.requires.is_free.in_range in
    let at = c.from.ensures in
    omega (arith, low, at)

pub hand-requires : goal.hand-requires
hand-requires g c =
    let fits = c.kept.ensures.fits.in_time in
    let time = c.now-now.ensures in
    omega (arith, fits, time)

pub returns-in_err-hand-clause-ok : goal.returns-in_err-hand-clause-ok
returns-in_err-hand-clause-ok g c =
    let p = err_from_is_err_and c.from_residual.result c.from_residual.ensures.1 in rw p.1 tt

pub returns-clause-ok : goal.returns-clause-ok
returns-clause-ok g c =
    done_is _ c.args.self.now c.args.cpu.0 c.from.result c.index_mut.result.now c.hand.new.self
    (λ n b. handed_of n (class_in c.args.timer.0 b) c.args.runner b)
    c.now-now.result c.self.view_is c.from.ensures c.requires.is_free.in_range
    c.index_mut.ensures.value
    c.now-now.ensures c.in_ok-hand.ensures.ok
    (length (slice_set c.self.inside.holders.items c.from-2.result None))
    (length-set c.self.inside.holders.items c.from-2.result None)
