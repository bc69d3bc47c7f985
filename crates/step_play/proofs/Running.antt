-- for crates above: each rule of steps is made by a run, at its stage
use Rattle.std.proofs.Common.{◌≡◌, ◌⊎◌, ℕ, ◌+◌, ◌<◌, true, false, length, [], ◌∷◌}
use Rattle.std.proofs.Common.{Some, None, refl, sym, subst, inl, inr}
use Rattle.std.specs.Prelude.{◌&&◌, ◌^◌}
use Rattle.std.proofs.lemmas.Bool.{and_from, cases_Bool, cond-false, cond-true}
use Rattle.tm_base.specs.declared.limits.TheConstants.{SCRIPT_TIME_LIMIT}
use Rattle.tm_base.specs.declared.names.Class.{Class}
use Rattle.play_rules.specs.declared.asks.Arming.{Arming}
use Rattle.play_rules.specs.declared.asks.Cancelling.{Cancelling}
use Rattle.play_rules.specs.declared.asks.Queued.{Queued}
use Rattle.play_rules.specs.Interrupts.{cpu_id}
use Rattle.play_rules.specs.Timers.{where_queued}
use Rattle.core_world.specs.declared.step.Step.{Step}
use Rattle.core_world.specs.declared.step.Step.TheVariants as steps
use Rattle.core_world.specs.Enabled.{Enabled, IsFree, MayRun}
use Rattle.core_world.specs.Frames.{SizesStay}
use Rattle.core_world.specs.Lists.{IsRun}
use Rattle.core_world.specs.Steps.{stepped}
use Rattle.core_world.specs.World.{CpuRecord, World, cpu_of, group_of, is_active, own}
use Rattle.core_facts.specs.core_laws.Laws.{StepsStayLawful}
use Rattle.step_play.specs.Rules.Alone.{walked_out}
use Rattle.step_play.specs.Rules.Lone.{IsLone, IsRunOf}
use Rattle.step_play.specs.Rules.Runs.{RuleRun}
use Rattle.step_play.specs.Rules.Runs as runs
use Rattle.step_play.specs.Rules.Seen.{InRun, Phase, inside, serving, state_of}
use Rattle.step_play.specs.Rules.StepRules.{armed_by_steps, drained_by_steps, ended_by_steps}
use Rattle.step_play.specs.Rules.StepRules.{let_go_by_steps, step_rules}
use Rattle.step_play.proofs.Acts.{may_arm, may_cancel, may_drain}
use Rattle.step_play.proofs.Lone.{lone_moved, run_lone}
use Rattle.step_play.proofs.Telling.Letting.{may_carry}
use Rattle.step_play.proofs.Telling.Reevaluating.{may_leave, may_reevaluate}
use Rattle.step_play.proofs.WalkRuns.{begun_run}

-- ONE STEP is a run
pub one_run : (step : Step) (w : World) → Enabled w step → IsRun (step ∷ []) w (stepped w step)
one_run step w may = record { enabled = (may, tt); done = refl }

module _ (law : StepsStayLawful) (ph : Phase) (w : World) (i : InRun ph w) where
  -- a step of a core in a run that writes its CPU leaves no other walk that goes on
  pub lone : (c : ℕ) (y : CpuRecord) → IsLone (own w c y) c
  lone c y = lone_moved w c (run_lone ph w c i) 0 (group_of w 0) y false

  -- A DRAIN
  pub drain_runs : (home : ℕ) (class : Class) (runner : ℕ) → IsFree w home →
      MayRun w home class runner → RuleRun w (drained_by_steps w home class runner).state
  drain_runs home class runner free may =
      runs.drained home class runner refl (record {
        enabled = may_drain law ph w i home class runner free may;
        done = refl;
      })

  -- AN ARMING
  pub arm_runs : (c : ℕ) (a : Arming) → IsFree w c → (cpu_of w c).online ≡ true →
      (is_active (cpu_of w c) ≡ true) ⊎ ((cpu_of w c).inside ≡ true) → a.timer.0 < w.timers →
      a.delay < 2 ^ 32 → w.clock < SCRIPT_TIME_LIMIT → where_queued (state_of w) a.timer.0 ≡ None →
      RuleRun w (armed_by_steps w c a).state
  arm_runs c a free online may known short early none =
      runs.armed c a refl
      (one_run (steps.Arm (cpu_id c) a.timer a.class (w.clock + a.delay) a.job a.arg a.line) w
      (may_arm law ph w i c a free online may known short early none))

  -- A CANCELLING
  pub cancel_runs : (a : Cancelling) (held : Queued) →
      where_queued (state_of w) a.timer.0 ≡ Some held → IsFree w held.cpu.0 → a.by.0 < length w.cpus →
      RuleRun w (step_rules.cancelled w held.cpu.0 a)
  cancel_runs a held is free by =
      runs.cancelled held.cpu.0 a refl
      (one_run (steps.Cancel held.cpu a.timer a.by a.line) w
      (may_cancel law ph w i a held is free by, by))

-- THE END OF AN INTERRUPT
module _ (law : StepsStayLawful) (sizes : SizesStay) (w : World) where
  pub end_runs : (c : ℕ) → InRun (inside c) w → c < length w.cpus →
      RuleRun w (ended_by_steps w c)
  end_runs c i low = elim (cases_Bool (cpu_of w c).idle) [
    | inl idle ↦
        runs.ended_idle c refl
        (subst (IsRunOf (steps.Reeval (cpu_id c)) c w)
        (sym (cond-true (cpu_of w c).idle (walked_out c (stepped w (steps.Reeval (cpu_id c))))
        (stepped w (steps.Leave (cpu_id c))) idle))
        (begun_run law sizes c (steps.Reeval (cpu_id c)) w i.lawful low
        (may_reevaluate w c i idle) (lone law (inside c) w i c _)))
    | inr busy ↦
        runs.ended_active c refl
        (subst (IsRun (steps.Leave (cpu_id c) ∷ []) w)
        (sym (cond-false (cpu_of w c).idle (walked_out c (stepped w (steps.Reeval (cpu_id c))))
        (stepped w (steps.Leave (cpu_id c))) busy))
        (one_run (steps.Leave (cpu_id c)) w (may_leave w c i busy)))
  ]

  -- A CPU IS LET GO
  pub let_go_runs : (r d : ℕ) → InRun (serving r d) w → d < length w.cpus →
      (cpu_of w d).online ≡ true → (cpu_of w d).idle ≡ true → RuleRun w (let_go_by_steps w d)
  let_go_runs r d i low online idle =
      runs.let_go r d refl
      (subst (IsRunOf (steps.Carry (cpu_id d)) d w)
      (sym (cond-true ((cpu_of w d).online && (cpu_of w d).idle)
      (walked_out d (stepped w (steps.Carry (cpu_id d)))) (stepped w (steps.Release (cpu_id d)))
      (and_from (cpu_of w d).online (cpu_of w d).idle online idle)))
      (begun_run law sizes d (steps.Carry (cpu_id d)) w i.lawful low
      (may_carry w r d i online idle) (lone law (serving r d) w i d _)))
