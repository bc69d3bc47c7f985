use Rattle.std.proofs.Common.{◌≡◌, ℕ, ◌<◌, Some, ap, arith, length, length-set, refl, rules}
use Rattle.std.proofs.Common.{subst, sym, ◌∙◌}
use Rattle.std.specs.Prelude.{slice_set}
use Rattle.std.proofs.lemmas.Result.{err_from_is_err_and}
use Rattle.tm_base.specs.declared.names.Class.{Class}
use Rattle.wheel_core.specs.PlainBase.{NoneBehind}
use Rattle.cpu_bases.specs.CpuBases.{CpuBases, armed, base_of, class_in, item_queued}
use Rattle.core_parts.specs.core_world.World.{CpuRecord, World, cpu_of}
use Rattle.core_state.specs.Kept.{IsKept}
use Rattle.core_state.proofs.TimerSteps.{arm_kept, done_is, on_err, read_bases, unchanged}
use Rattle.core_state.proofs.machine.Core.arm.Goals as goal

pub arm-requires-clause-not_queued : goal.arm-requires-clause-not_queued
arm-requires-clause-not_queued g c =
    ap (class_in c.args.timer.0)
    (sym (ap (λ (y : CpuRecord). y.bases)
    (read_bases _ c.args.self.now c.args.cpu.0 c.from.result c.index_mut.result.now
    c.self.view_is c.from.ensures c.requires.is_free.in_range c.index_mut.ensures.value)))
    ∙ c.requires.not_queued c.args.cpu.0

pub arm-requires-clause-none_behind : goal.arm-requires-clause-none_behind
arm-requires-clause-none_behind g c =
    subst (λ (y : CpuRecord). NoneBehind (base_of c.args.class y.bases))
    (read_bases _ c.args.self.now c.args.cpu.0 c.from.result c.index_mut.result.now c.self.view_is
    c.from.ensures c.requires.is_free.in_range c.index_mut.ensures.value) c.requires.none_behind

pub invariant_of-self : goal.invariant_of-self
invariant_of-self g c =
    subst (λ (w : World). IsKept w c.self.inside.holders.items c.self.inside.tally)
    (sym (unchanged _ c.args.self.now c.from.result c.index_mut.result.now c.arm.new.self
    c.self.view_is c.index_mut.ensures.value c.in_err-wheel.ensures.err ∙ sym c.self.view_is))
    c.self.invariant

pub returns-in_err-wheel-clause-err : goal.returns-in_err-wheel-clause-err
returns-in_err-wheel-clause-err g c =
    on_err c.from_residual.result _
    (unchanged _ c.args.self.now c.from.result c.index_mut.result.now c.arm.new.self c.self.view_is
    c.index_mut.ensures.value c.in_err-wheel.ensures.err)

pub invariant_of-self-2 : goal.invariant_of-self-2
invariant_of-self-2 g c =
    arm_kept _ c.args.self.now c.self.inside.holders.items c.self.inside.tally
    c.args.cpu c.from.result
    c.index_mut.result.now c.arm.new.self c.now-now.result c.self.view_is c.self.invariant refl
    c.kept.ensures.stays c.timers_kept.ensures c.from.ensures c.index_mut.ensures.value
    c.now-now.ensures c.args.timer c.args.class c.args.expires c.args.job c.args.arg c.args.line
    c.from-2.result (search rules) c.from-2.ensures c.requires c.in_ok-wheel.ensures.ok

pub timers_kept-requires : goal.timers_kept-requires
timers_kept-requires g c = c.requires.is_free.in_range

pub index_mut-requires : goal.index_mut-requires
index_mut-requires g c =
    let low = subst (λ (w : World). c.args.cpu.0 < length w.cpus) (sym c.self.view_is)
    c.requires.is_free.in_range in
    let at = c.from.ensures in
    omega (arith, low, at)

pub arm-requires-clause-now_in_time : goal.arm-requires-clause-now_in_time
arm-requires-clause-now_in_time g c =
    let fits = c.kept.ensures.fits.in_time in
    let time = c.now-now.ensures in
    omega (arith, fits, time)

pub arm-requires-clause-expires_in_time : goal.arm-requires-clause-expires_in_time
arm-requires-clause-expires_in_time g c = c.requires.in_time

pub index_mut-requires-2 : goal.index_mut-requires-2
index_mut-requires-2 g c =
    let known = c.requires.known in
    let count = ap (λ (w : World). w.timers) c.self.view_is in
    let at = c.from-2.ensures in
    omega (arith, known, count, at)

pub returns-in_err-wheel-clause-wheel : goal.returns-in_err-wheel-clause-wheel
returns-in_err-wheel-clause-wheel g c =
    let p = err_from_is_err_and c.from_residual.result c.from_residual.ensures.1 in rw p.1 tt

pub returns-in_err-wheel-clause-ok : goal.returns-in_err-wheel-clause-ok
returns-in_err-wheel-clause-ok g c =
    let p = err_from_is_err_and c.from_residual.result c.from_residual.ensures.1 in rw p.1 tt

-- the wheel expiry that the code answers, at another time and in other bases that are the same
wheel_in : (now clock : ℕ) (b d : CpuBases) (class : Class) (timer expires job arg wheel : ℕ)
    → now ≡ clock → d ≡ b → wheel ≡ (item_queued now class timer expires job arg b).wheel
    → wheel ≡ (item_queued clock class timer expires job arg d).wheel
wheel_in now clock b d class timer expires job arg wheel time same told =
    told ∙ (λ i. (item_queued (time i) class timer expires job arg (sym same i)).wheel)

pub returns-clause-wheel : goal.returns-clause-wheel
returns-clause-wheel g c =
    wheel_in c.now-now.result c.args.self.now.clock c.index_mut.result.now.bases
    (cpu_of c.args.self.now c.args.cpu.0).bases c.args.class c.args.timer.0 c.args.expires
    c.args.job c.args.arg c.in_ok-wheel.wheel c.now-now.ensures
    (ap (λ (y : CpuRecord). y.bases)
    (read_bases _ c.args.self.now c.args.cpu.0 c.from.result c.index_mut.result.now
    c.self.view_is c.from.ensures c.requires.is_free.in_range c.index_mut.ensures.value))
    c.in_ok-wheel.ensures.wheel

pub returns-clause-ok : goal.returns-clause-ok
returns-clause-ok g c =
    done_is _ c.args.self.now c.args.cpu.0 c.from.result c.index_mut.result.now c.arm.new.self
    (λ n b. armed n c.args.class c.args.timer.0 c.args.expires c.args.job c.args.arg c.args.line
    c.args.cpu b)
    c.now-now.result c.self.view_is c.from.ensures c.requires.is_free.in_range
    c.index_mut.ensures.value
    c.now-now.ensures c.in_ok-wheel.ensures.ok
    (length (slice_set c.self.inside.holders.items c.from-2.result (Some c.args.cpu)))
    (length-set c.self.inside.holders.items c.from-2.result (Some c.args.cpu))
