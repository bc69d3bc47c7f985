-- a timer that is armed or cancelled in a core in a run, or in play
use Rattle.std.proofs.Common.{◌≡◌, ℕ, ◌+◌, ◌^◌, ◌<◌, length, Option, Some, None, refl, sym, ap, ◌∙◌}
use Rattle.std.proofs.Common.{subst}
use Rattle.std.specs.Prelude.{Bool, false, option_map, true}
use Rattle.std.proofs.lemmas.Option.{none-some, same_Some}
use Rattle.tm_base.specs.declared.limits.TheConstants.{SCRIPT_TIME_LIMIT}
use Rattle.tm_base.specs.declared.names.CpuId.{CpuId}
use Rattle.cpu_bases.specs.CpuBases.{item_queued}
use Rattle.play_rules.specs.declared.asks.Arming.{Arming}
use Rattle.play_rules.specs.declared.asks.Cancelling.{Cancelling}
use Rattle.play_rules.specs.declared.asks.Queued.{Queued}
use Rattle.play_rules.specs.Machines.{Same, SameOnline}
use Rattle.play_rules.specs.Phases.{FitsSome, MayArmIn, StaysFit}
use Rattle.play_rules.specs.Timers.{where_queued}
use Rattle.core_world.specs.Enabled.{IsFree, MayArm, MayCancel}
use Rattle.core_world.specs.declared.step.Step.{Step}
use Rattle.core_world.specs.declared.step.Step.TheVariants as steps
use Rattle.core_world.specs.Steps.{stepped}
use Rattle.core_world.specs.World.{World, cpu_of}
use Rattle.core_steps.specs.core_laws.Laws.{StepsStayLawful}
use Rattle.step_play.specs.Rules.Seen.{InRun, resting, state_of}
use Rattle.step_play.specs.Rules.StepRules.{armed_by_steps, cancelled_by_steps, step_rules}
use Rattle.step_play.proofs.Acts.{arm_is, arm_plays, arm_stays, cancel_is, cancel_plays}
use Rattle.step_play.proofs.Acts.{cancel_stays, filled, may_arm, may_cancel}
use Rattle.step_play.proofs.Drains.{Rebases}
use Rattle.step_play.proofs.Held.{bases_seen}
use Rattle.step_play.proofs.Worlds.{free_in}
use Rattle.core_machine.specs.Fitting.{CoreFits}
use Rattle.core_machine.proofs.Calls.Fitting.{some_in_run}
use Rattle.core_machine.proofs.Calls.Leaves.{Leaves}
use Rattle.core_machine.proofs.Draining.Enabling.{Arms, arms_in}
use Rattle.core_machine.proofs.Draining.Sames.{rebased_online, rebased_same}

-- an arming that a call makes, for the expiry n
pub record ArmsAt (w : World) (c : ℕ) (a : Arming) (n : ℕ) : Type 0 where
  pub low : c < length w.cpus
  pub known : a.timer.0 < w.timers
  pub short : a.delay < 2 ^ 32
  pub early : w.clock < SCRIPT_TIME_LIMIT
  pub none : where_queued (state_of w) a.timer.0 ≡ None
  pub fits : FitsSome InRun (λ ph. MayArmIn step_rules w ph c) w
  pub at : n ≡ w.clock + a.delay

pub arms_at : (exact : Bool) (core w : World) → core ≡ w → core.clock < SCRIPT_TIME_LIMIT →
    (c : ℕ) (a : Arming) → c < length w.cpus → a.timer.0 < w.timers → a.delay < 2 ^ 32 →
    where_queued (state_of w) a.timer.0 ≡ None →
    FitsSome (CoreFits exact) (λ ph. MayArmIn step_rules w ph c) w → (n : ℕ) →
    n ≡ core.clock + a.delay → ArmsAt w c a n
arms_at exact core w came low_clock c a low known short none fits n at = record {
  low = low;
  known = known;
  short = short;
  early = subst (λ (w : World). w.clock < SCRIPT_TIME_LIMIT) came low_clock;
  none = none;
  fits = some_in_run exact (λ ph. MayArmIn step_rules w ph c) w fits;
  at = at ∙ ap (λ (w : World). w.clock + a.delay) came;
}

-- what it leaves
pub record LeavesArmed (exact : Bool) (w : World) (c : ℕ) (a : Arming) (v : World) : Type 0 where
  pub fit : StaysFit (CoreFits exact) (λ ph. MayArmIn step_rules w ph c) w v
  pub state : v ≡ (armed_by_steps w c a).state
  pub same : Same step_rules w v
  pub online : SameOnline step_rules w v

module _ (law : StepsStayLawful) (w : World) (c : ℕ) (a : Arming) (n : ℕ) (q : ArmsAt w c a n) where
  here : Arms w c
  here = arms_in w c q.low q.fits.phase q.fits.allowed q.fits.fit

  is : Rebases w c
      (filled law q.fits.phase w q.fits.fit c a here.free here.online here.may q.known q.short
      q.early q.none)
      (armed_by_steps w c a).state
  is =
      arm_is law q.fits.phase w q.fits.fit c a here.free here.online here.may q.known q.short
      q.early q.none

  pub arm_enabled : MayArm w c a.timer.0 a.class n
  arm_enabled =
      subst (MayArm w c a.timer.0 a.class) (sym q.at)
      (may_arm law q.fits.phase w q.fits.fit c a here.free here.online here.may q.known q.short
      q.early q.none)

  pub arm_wheel : (wheel : ℕ) →
      wheel ≡ (item_queued w.clock a.class a.timer.0 n a.job a.arg (cpu_of w c).bases).wheel →
      wheel ≡ (armed_by_steps w c a).wheel
  arm_wheel wheel told =
      told
      ∙ (ap (λ e. (item_queued w.clock a.class a.timer.0 e a.job a.arg (cpu_of w c).bases).wheel)
      q.at
      ∙ ap (λ b.
      (item_queued w.clock a.class a.timer.0 (w.clock + a.delay) a.job a.arg b).wheel)
      (sym (bases_seen w c q.low)))

  arm_fits : (exact : Bool) →
      StaysFit (CoreFits exact) (λ ph. MayArmIn step_rules w ph c) w (armed_by_steps w c a).state
  arm_fits true ph allowed i =
      let plays =
      arm_plays law ph w i c a here.free here.online here.may q.known q.short q.early q.none in
      plays.in_play
  arm_fits false ph allowed i =
      arm_stays law ph w i c a here.free here.online here.may q.known q.short q.early q.none

  abbrev arming_at : ℕ → Step
  arming_at e = steps.Arm (record { 0 = c }) a.timer a.class e a.job a.arg a.line

  pub arm_leaves : (exact : Bool) (v : World) → v ≡ stepped w (arming_at n) →
      LeavesArmed exact w c a v
  arm_leaves exact v made =
      let state = made ∙ ap (λ e. stepped w (arming_at e)) q.at in
      subst (LeavesArmed exact w c a) (sym state) (record {
        fit = arm_fits exact;
        state = refl;
        same = rebased_same w c _ (armed_by_steps w c a).state q.low is;
        online = rebased_online w c _ (armed_by_steps w c a).state q.low is;
      })

-- CANCELLING
held_by : (o : Option Queued) (home : CpuId) →
    option_map (λ (held : Queued). held.cpu) o ≡ Some home →
    (held : Queued) × (o ≡ Some held) × (held.cpu ≡ home)
held_by None home is = absurd (none-some home is)
held_by (Some held) home is = (held, refl, same_Some held.cpu home is)

module _ (law : StepsStayLawful) (w : World) (home : CpuId) (a : Cancelling)
    (low : home.0 < length w.cpus) (by : a.by.0 < length w.cpus)
    (queued : option_map (λ (held : Queued). held.cpu) (where_queued (state_of w) a.timer.0)
    ≡ Some home)
    (i : InRun resting w) where
  abbrev free : (c : ℕ) → c < length w.cpus → IsFree w c
  free c at = free_in resting w c i refl at

  cancels : (X : CpuId → Type 0) → ((held : Queued) →
      where_queued (state_of w) a.timer.0 ≡ Some held → IsFree w held.cpu.0 → X held.cpu) → X home
  cancels X go =
      let was = held_by (where_queued (state_of w) a.timer.0) home queued in
      subst X was.2 (go was.0 was.1 (free was.0.cpu.0
      (subst (λ (c : CpuId). c.0 < length w.cpus) (sym was.2) low)))

  pub cancel_enabled : MayCancel w home.0 a.timer.0
  cancel_enabled =
      cancels (λ c. MayCancel w c.0 a.timer.0) (λ held is at.
      may_cancel law resting w i a held is at by)

  pub cancel_leaves : Leaves resting resting w (cancelled_by_steps w home.0 a)
  cancel_leaves =
      cancels (λ c. Leaves resting resting w (cancelled_by_steps w c.0 a)) (λ held is at. record {
        fit = cancel_stays law resting w i a held is at by;
        play = λ p. (cancel_plays law resting w p a held is at by).in_play;
        same = rebased_same w held.cpu.0 _ (cancelled_by_steps w held.cpu.0 a) at.in_range
            (cancel_is law resting w i a held is at by);
      })
