-- a whole drain in a core in a run, or in play
use Rattle.std.proofs.Common.{ℕ, ◌<◌, length, arith}
use Rattle.std.specs.Prelude.{All}
use Rattle.std.proofs.lemmas.List.Elements.{All-weaker}
use Rattle.tm_base.specs.declared.names.Class.{Class}
use Rattle.play_rules.specs.Machines.{IsTimerOf, Same, SameOnline}
use Rattle.play_rules.specs.Phases.{FitsSome, MayDrain, StaysFit}
use Rattle.core_world.specs.World.{World}
use Rattle.core_steps.specs.core_laws.Laws.{StepsStayLawful}
use Rattle.step_play.specs.Rules.Seen.{InPlay, InRun}
use Rattle.step_play.specs.Rules.StepRules.{drained_by_steps, items_due, step_rules}
use Rattle.step_play.proofs.Acts as acts
use Rattle.step_play.proofs.Drains.{Rebases}
use Rattle.core_machine.specs.Draining.Turns.{Drains}
use Rattle.core_machine.proofs.Draining.Enabling.{drains_in}
use Rattle.core_machine.proofs.Draining.Sames.{rebased_online, rebased_same}

module _ (law : StepsStayLawful) (w : World) (home : ℕ) (class : Class) (runner : ℕ)
    (low : home < length w.cpus)
    (fits : FitsSome InRun (λ ph. MayDrain ph home class runner) w) where
  pub drain_may : Drains w home class runner
  drain_may = drains_in w home class runner low fits.phase fits.allowed fits.fit

  is : Rebases w home
      (acts.left law fits.phase w fits.fit home class runner drain_may.free drain_may.may)
      (drained_by_steps w home class runner).state
  is = acts.drain_is law fits.phase w fits.fit home class runner drain_may.free drain_may.may

  pub drain_fits : StaysFit InRun (λ ph. MayDrain ph home class runner) w
      (drained_by_steps w home class runner).state
  drain_fits ph allowed i =
      acts.drain_stays law ph w i home class runner drain_may.free drain_may.may

  pub drain_in_play : StaysFit InPlay (λ ph. MayDrain ph home class runner) w
      (drained_by_steps w home class runner).state
  drain_in_play ph allowed i =
      (acts.drain_plays law ph w i home class runner drain_may.free drain_may.may).in_play

  pub drain_same : Same step_rules w (drained_by_steps w home class runner).state
  drain_same = rebased_same w home _ (drained_by_steps w home class runner).state low is

  pub drain_online : SameOnline step_rules w (drained_by_steps w home class runner).state
  drain_online = rebased_online w home _ (drained_by_steps w home class runner).state low is

  pub drain_timers : All (IsTimerOf w.timers) (items_due w home class)
  drain_timers =
      let few = fits.fit.lawful.times.few in
      All-weaker (λ item. item.id < w.timers) (IsTimerOf w.timers)
      (λ item low. record { known = low; narrow = omega (arith, low, few) })
      (items_due w home class)
      (acts.drain_known law fits.phase w fits.fit home class)
