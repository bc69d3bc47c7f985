-- steps that arm and take out timers
use Rattle.std.proofs.Common.{◌≡◌, ℕ, ◌^◌, ◌<◌, true, false, List, Option, Some, None, length, refl}
use Rattle.std.proofs.Common.{ap, sym, ◌∙◌, subst, arith, get_or, length-set}
use Rattle.std.specs.Prelude.{◌==◌, ◌&&◌, not, is_some, slice_set, OnErr, Result, Ok, Err}
use Rattle.std.proofs.lemmas.List.{set-get_or}
use Rattle.tm_base.specs.declared.names.Class.{Class}
use Rattle.tm_base.specs.declared.names.CpuId.{CpuId}
use Rattle.tm_base.specs.declared.names.TimerId.{TimerId}
use Rattle.cpu_bases.specs.CpuBases.{CpuBases, IsConsistent, armed, cancelled, class_in, handed_out}
use Rattle.core_parts.specs.core_world.declared.step.Step.TheVariants as steps
use Rattle.core_parts.specs.core_world.Enabled.{Enabled, MayArm, MayCancel, MayHand, MayTick}
use Rattle.core_parts.specs.core_world.Steps.{handed_of, stepped, with_bases}
use Rattle.core_parts.specs.core_world.World.{CpuRecord, World, cpu_of, own}
use Rattle.core_state.specs.Kept.{IsHeld, IsKept, StaysFit, WorldFits, but, is_queued}
use Rattle.core_state.specs.Tally.{CpuTally, IsTallied}
use Rattle.core_state.proofs.Changes.{cpu_read, own_is, written}
use Rattle.core_state.proofs.Holders.{came, held_at, note_low, nowhere_noted, queued_noted, went}
use Rattle.core_state.proofs.Queues.{arming_queues, cancelling_queues, handing_queues}
use Rattle.core_state.proofs.Tallies.{one_alike}

-- what the code writes into a CPU's bases, and beside them
module _ (v w : World) (c i : ℕ) (x z : CpuRecord) (F : ℕ → CpuBases → CpuBases) (now : ℕ)
    (seen : v ≡ w) (at : i ≡ c) (low : c < length w.cpus) (read : x ≡ get_or v.cpus i x)
    (time : now ≡ w.clock) (made : z ≡ with_bases x (F now x.bases)) (n : ℕ)
    (same_timers : n ≡ v.timers) where
  abbrev pub done : World
  done = own w c (with_bases (cpu_of w c) (F w.clock (cpu_of w c).bases))

  pub done_is : record v { timers = n; cpus = slice_set v.cpus i z } ≡ done
  done_is =
      ap (λ m. record v { timers = m; cpus = slice_set v.cpus i z }) same_timers
      ∙ (written v w c i x z (λ y. with_bases y (F now y.bases)) seen at low read made
      ∙ (ap (λ t. record w
      { cpus = slice_set w.cpus c (with_bases (cpu_of w c) (F t (cpu_of w c).bases)) }) time
      ∙ sym (own_is w c (with_bases (cpu_of w c) (F w.clock (cpu_of w c).bases)))))

  pub done_kept : (after : List (Option CpuId)) (tally : CpuTally) → WorldFits done
      → IsHeld done after → IsTallied w.tree w.cpus tally
      → IsKept (record v { timers = n; cpus = slice_set v.cpus i z }) after tally
  done_kept after tally fits held tallied =
      subst (λ u. IsKept u after tally) (sym done_is)
      (record {
        fits = fits;
        held = held;
        tallied =
            one_alike w.tree w.cpus c
            (with_bases (cpu_of w c) (F w.clock (cpu_of w c).bases)) tally low refl refl tallied;
      })

pub read_bases : (v w : World) (c i : ℕ) (x : CpuRecord) → v ≡ w → i ≡ c → c < length w.cpus
    → x ≡ get_or v.cpus i x → cpu_of w c ≡ x
read_bases v w c i x seen at low read =
    let low' : c < length v.cpus = subst (λ (u : World). c < length u.cpus) (sym seen) low in
    ap (λ (u : World). cpu_of u c) (sym seen) ∙ cpu_read v.cpus c i x at low' read

not_queued : (timer : ℕ) (cpu : CpuBases) → class_in timer cpu ≡ None → is_queued timer cpu ≡ false
not_queued timer cpu none = ap is_some none

pub is_there : (timer : ℕ) (cpu : CpuBases) (class : Class) → class_in timer cpu ≡ Some class
    → is_queued timer cpu ≡ true
is_there timer cpu class found = ap is_some found

module _ (w : World) (holders : List (Option CpuId)) (c : CpuId) (held : IsHeld w holders)
    (fits : WorldFits w) (consistent : IsConsistent (cpu_of w c.0).bases) where
  pub arm_held : (t : TimerId) (class : Class) (expires job arg line : ℕ) → t.0 < 2 ^ 16
      → w.timers ≡ length holders → MayArm w c.0 t.0 class expires
      → IsHeld (stepped w (steps.Arm c t class expires job arg line))
      (slice_set holders t.0 (Some c))
  arm_held t class expires job arg line narrow count may =
      let in_time = fits.in_time in
      let known = may.known in
      came w holders c.0 _ held may.is_free.in_range t.0 c refl (omega (arith, known, count))
      (nowhere_noted w holders t.0 held (λ d. not_queued t.0 (cpu_of w d).bases (may.not_queued d)))
      (arming_queues w.clock class t.0 expires job arg line c (cpu_of w c.0).bases consistent
      (record {
        now_in_time = omega (arith, in_time);
        expires_in_time = may.in_time;
        timer_fits = narrow;
        not_queued = may.not_queued c.0;
        none_behind = may.none_behind;
      }))

  pub cancel_held : (t : TimerId) (by : CpuId) (line : ℕ) → MayCancel w c.0 t.0
      → IsHeld (stepped w (steps.Cancel c t by line)) (slice_set holders t.0 None)
  cancel_held t by line may =
      went w holders c.0 _ held may.is_free.in_range t.0 c refl
      (queued_noted w holders t.0 c held
      (is_there t.0 (cpu_of w c.0).bases may.queued.0 may.queued.1))
      (cancelling_queues w.clock t.0 line by (cpu_of w c.0).bases consistent)

  handed_is : (t : TimerId) (runner : CpuId) (may : MayHand w c.0 t.0 runner.0) (timer : ℕ)
      → is_queued timer
      (handed_of w.clock (class_in t.0 (cpu_of w c.0).bases) runner (cpu_of w c.0).bases)
      ≡ (is_queued timer (cpu_of w c.0).bases && not (t.0 == timer))
  handed_is t runner may timer =
      let in_time = fits.in_time in
      let bases = (cpu_of w c.0).bases in
      ap (λ o. is_queued timer (handed_of w.clock o runner bases)) may.queued
      ∙ (handing_queues w.clock may.class runner bases (omega (arith, in_time)) consistent timer
      ∙ (ap (λ o. but (is_queued timer bases) o timer) may.due
      ∙ ap (λ id. is_queued timer bases && not (id == timer)) may.timers))

  pub hand_held : (t : TimerId) (runner : CpuId) → MayHand w c.0 t.0 runner.0
      → IsHeld (stepped w (steps.Hand c t runner)) (slice_set holders t.0 None)
  hand_held t runner may =
      went w holders c.0 _ held may.is_free.in_range t.0 c refl
      (queued_noted w holders t.0 c held (is_there t.0 (cpu_of w c.0).bases may.class may.queued))
      (handed_is t runner may)

  pub tick_held : (class : Class) (runner : CpuId) → MayTick w c.0 class runner.0
      → IsHeld (stepped w (steps.Ticked c class runner)) holders
  tick_held class runner may =
      let in_time = fits.in_time in
      held_at w holders c.0 _ held may.is_free.in_range holders
      (λ timer.
      handing_queues w.clock class runner (cpu_of w c.0).bases (omega (arith, in_time)) consistent
      timer
      ∙ (ap (λ o. but (is_queued timer (cpu_of w c.0).bases) o timer) may.none_due
      ∙ held timer c.0)) (λ timer d apart. refl)

pub on_err : {A E : Type 0} (r : Result A E) (P : Type 0) → P → OnErr r P
on_err (Ok x) P p = tt
on_err (Err e) P p = p

-- what isn't changed
pub unchanged : (v w : World) (i : ℕ) (x z : CpuRecord) → v ≡ w → x ≡ get_or v.cpus i x → z ≡ x
    → record v { cpus = slice_set v.cpus i z } ≡ w
unchanged v w i x z seen read same =
    ap (λ y. record v { cpus = slice_set v.cpus i y }) (same ∙ read)
    ∙ (ap (λ ys. record v { cpus = ys }) (set-get_or v.cpus i x) ∙ seen)

module _ (v w : World) (holders : List (Option CpuId)) (tally : CpuTally) (c : CpuId) (i : ℕ)
    (x z : CpuRecord) (now : ℕ) (seen : v ≡ w) (kept : IsKept v holders tally)
    (count : v.timers ≡ length holders)
    (stays : StaysFit w) (consistent : IsConsistent (cpu_of w c.0).bases) (at : i ≡ c.0)
    (read : x ≡ get_or v.cpus i x) (time : now ≡ w.clock) where
  fits : WorldFits w
  fits = subst WorldFits seen kept.fits

  held : IsHeld w holders
  held = subst (λ u. IsHeld u holders) seen kept.held

  tallied : IsTallied w.tree w.cpus tally
  tallied = subst (λ (u : World). IsTallied u.tree u.cpus tally) seen kept.tallied

  counted : w.timers ≡ length holders
  counted = ap (λ (u : World). u.timers) (sym seen) ∙ count

  pub arm_kept : (t : TimerId) (class : Class) (expires job arg line j : ℕ) → t.0 < 2 ^ 16 → j ≡ t.0
      → MayArm w c.0 t.0 class expires
      → z ≡ with_bases x (armed now class t.0 expires job arg line c x.bases)
      → IsKept (record v {
        timers = length (slice_set holders j (Some c));
        cpus =
            slice_set v.cpus i z;
      })
      (slice_set holders j (Some c)) tally
  arm_kept t class expires job arg line j narrow at_t may made =
      done_kept v w c.0 i x z (λ n b. armed n class t.0 expires job arg line c b) now seen at
      may.is_free.in_range read time made (length (slice_set holders j (Some c)))
      (length-set holders j (Some c) ∙ sym count) (slice_set holders j (Some c)) tally
      (stays (steps.Arm c t class expires job arg line) may)
      (subst (λ k. IsHeld (stepped w (steps.Arm c t class expires job arg line))
      (slice_set holders k (Some c))) (sym at_t)
      (arm_held w holders c held fits consistent t class expires job arg line narrow counted
      may)) tallied

  pub cancel_kept : (t : TimerId) (by : CpuId) (line j : ℕ) → j ≡ t.0
      → Enabled w (steps.Cancel c t by line)
      → z ≡ with_bases x (cancelled now t.0 line by x.bases)
      → IsKept (record v {
        timers = length (slice_set holders j None);
        cpus =
            slice_set v.cpus i z;
      })
      (slice_set holders j None) tally
  cancel_kept t by line j at_t may made =
      done_kept v w c.0 i x z (λ n b. cancelled n t.0 line by b) now seen at may.0.is_free.in_range
      read time made (length (slice_set holders j None)) (length-set holders j None ∙ sym count)
      (slice_set holders j None) tally (stays (steps.Cancel c t by line) may)
      (subst (λ k. IsHeld (stepped w (steps.Cancel c t by line)) (slice_set holders k None))
      (sym at_t) (cancel_held w holders c held fits consistent t by line may.0)) tallied

  pub hand_kept : (t : TimerId) (runner : CpuId) (j : ℕ) → j ≡ t.0 → MayHand w c.0 t.0 runner.0
      → z ≡ with_bases x (handed_of now (class_in t.0 x.bases) runner x.bases)
      → IsKept (record v {
        timers = length (slice_set holders j None);
        cpus =
            slice_set v.cpus i z;
      })
      (slice_set holders j None) tally
  hand_kept t runner j at_t may made =
      done_kept v w c.0 i x z (λ n b. handed_of n (class_in t.0 b) runner b) now seen at
      may.is_free.in_range read time made (length (slice_set holders j None))
      (length-set holders j None ∙ sym count) (slice_set holders j None) tally
      (stays (steps.Hand c t runner) may)
      (subst (λ k. IsHeld (stepped w (steps.Hand c t runner)) (slice_set holders k None))
      (sym at_t) (hand_held w holders c held fits consistent t runner may)) tallied

  pub hand_low : (t : TimerId) (runner : CpuId) → MayHand w c.0 t.0 runner.0 → t.0 < length holders
  hand_low t runner may =
      note_low holders t.0 c
      (queued_noted w holders t.0 c held (is_there t.0 (cpu_of w c.0).bases may.class may.queued))

  pub cancel_low : (t : TimerId) → MayCancel w c.0 t.0 → t.0 < length holders
  cancel_low t may =
      note_low holders t.0 c
      (queued_noted w holders t.0 c held
      (is_there t.0 (cpu_of w c.0).bases may.queued.0 may.queued.1))

  pub tick_kept : (class : Class) (runner : CpuId) → MayTick w c.0 class runner.0
      → z ≡ with_bases x (handed_out now class runner x.bases)
      → IsKept (record v { timers = length holders; cpus = slice_set v.cpus i z }) holders tally
  tick_kept class runner may made =
      done_kept v w c.0 i x z (λ n b. handed_out n class runner b) now seen at may.is_free.in_range
      read time made (length holders) (sym count) holders tally
      (stays (steps.Ticked c class runner) may)
      (tick_held w holders c held fits consistent class runner may) tallied
