-- THE RUNS OF THE RULES: what a rule of steps makes of the core is reached by steps of that rule,
-- each of them enabled where it stands; and so is each moment of a play
use Rattle.std.specs.Prelude.{◌≡◌, ℕ, ◌+◌, List, [], ◌∷◌, Some, take}
use Rattle.tm_base.specs.declared.names.Class.{Class}
use Rattle.play_rules.specs.declared.asks.Arming.{Arming}
use Rattle.play_rules.specs.declared.asks.Cancelling.{Cancelling}
use Rattle.play_rules.specs.Interrupts.{cpu_id}
use Rattle.play_rules.specs.Moments.{Turn}
use Rattle.play_rules.specs.Rules.{Moved}
use Rattle.core_world.specs.declared.step.Step.{Step}
use Rattle.core_world.specs.declared.step.Step.TheVariants as steps
use Rattle.core_world.specs.Lists.{IsRun, after_all}
use Rattle.core_world.specs.World.{World}
use Rattle.core_facts.specs.Cover.Runs.{EachIsAnswered}
use Rattle.step_play.specs.Rules.Lone.{IsRunOf}
use Rattle.step_play.specs.Rules.StepRules.{hands, step_rules}

-- A RULE'S RUN: the core after is what the rule leaves of the core before, and these steps, each
-- enabled where it stands, make the one of the other. Where a rule begins a walk, the steps of that
-- walk stand behind the step that begins it
pub data RuleRun (before after : World) : Type 0 where
  drained : (home : ℕ) (class : Class) (runner : ℕ) →
      after ≡ (step_rules.drained before home class runner).state →
      IsRun (hands home class runner (step_rules.drained before home class runner).items) before
      after → RuleRun before after
  armed : (c : ℕ) (a : Arming) → after ≡ (step_rules.armed before c a).state →
      IsRun
      (steps.Arm (cpu_id c) a.timer a.class (before.clock + a.delay) a.job a.arg a.line ∷ [])
      before after → RuleRun before after
  cancelled : (home : ℕ) (a : Cancelling) → after ≡ step_rules.cancelled before home a →
      IsRun (steps.Cancel (cpu_id home) a.timer a.by a.line ∷ []) before after →
      RuleRun before after
  entered : (c : ℕ) → after ≡ step_rules.entered before c →
      IsRun (steps.Enter (cpu_id c) ∷ []) before after → RuleRun before after
  taken : (c d : ℕ) → after ≡ step_rules.taken before c d →
      IsRun (steps.Take (cpu_id d) (cpu_id c) ∷ []) before after → RuleRun before after
  -- it is still idle, and tells its first event again
  let_go : (c d : ℕ) → after ≡ step_rules.let_go before c d →
      IsRunOf (steps.Carry (cpu_id d)) d before after → RuleRun before after
  -- an interrupt ends on an idle CPU, or on an active one
  ended_idle : (c : ℕ) → after ≡ step_rules.ended before c →
      IsRunOf (steps.Reeval (cpu_id c)) c before after → RuleRun before after
  ended_active : (c : ℕ) → after ≡ step_rules.ended before c →
      IsRun (steps.Leave (cpu_id c) ∷ []) before after → RuleRun before after
  idled : (c : ℕ) → after ≡ step_rules.idled before c →
      IsRunOf (steps.Idle (cpu_id c)) c before after → RuleRun before after
  woken : (c : ℕ) → after ≡ step_rules.woken before c →
      IsRunOf (steps.Wake (cpu_id c)) c before after → RuleRun before after
  gone_offline : (c : ℕ) → after ≡ step_rules.gone_offline before c →
      IsRunOf (steps.Offline (cpu_id c)) c before after → RuleRun before after
  -- the successor wakes first, with its walk; and then the duty is handed on to it
  handed_on : (c d : ℕ) (awake : World) → after ≡ step_rules.handed_on before c d →
      IsRunOf (steps.Wake (cpu_id d)) d before awake →
      IsRun (steps.HandOn (cpu_id c) (cpu_id d) ∷ []) awake after → RuleRun before after
  come_online : (c : ℕ) → after ≡ step_rules.come_online before c →
      IsRunOf (steps.Online (cpu_id c)) c before after → RuleRun before after
  -- the controlling CPU wakes where it is idle; one that is active makes no step
  controlling : (d : ℕ) → after ≡ step_rules.controlling before d →
      IsRunOf (steps.Wake (cpu_id d)) d before after → RuleRun before after
  moved : (from to : ℕ) (m : Moved World) → step_rules.moved before from to ≡ Some m →
      after ≡ m.state → IsRun (steps.Move (cpu_id from) (cpu_id to) m.mover.timer ∷ []) before after
      → RuleRun before after

-- RUNS OF RULES, one behind the other, lead from one world to the other
pub data RuleRuns (before : World) : World → Type 0 where
  stays : (after : World) → after ≡ before → RuleRuns before after
  goes_on : (between after : World) → RuleRuns before between → RuleRun between after →
      RuleRuns before after

-- A MOMENT'S RUN: the clock comes to its time by a step that is enabled, and runs of the rules lead
-- from there to the world that the moment leaves
pub record TurnRun (before : World) (t : Turn World) : Type 0 where
  pub clock : IsRun (steps.Clock t.at ∷ []) before (step_rules.at_clock t.at before)
  pub rules : RuleRuns (step_rules.at_clock t.at before) t.played.state

-- EACH MOMENT has its run, from the world that the one before it left
abbrev pub TurnsAreRuns : (before : World) → List (Turn World) → Type 0
TurnsAreRuns before [] = Unit {0}
TurnsAreRuns before (t ∷ ts) = TurnRun before t × TurnsAreRuns t.played.state ts

-- A RUN from the start to this world, with the headline after each of its steps: each global timer
-- that is queued on an online idle CPU is held, woken for, or carried by what is under way
pub record IsReached (start w : World) : Type 0 where
  pub steps : List Step
  pub run : IsRun steps start w
  pub answered : (made : ℕ) → EachIsAnswered (after_all start (take made steps))
