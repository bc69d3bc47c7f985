-- what the rules of steps owe Play: in a core in play each leaves a core in play, and Play's state
-- of it is what Play's rule makes of Play's state. Laws on walks, each begun by a step and made to
-- its end
use Rattle.std.specs.Prelude.{◌≡◌, ℕ, true, if◌then◌else◌}
use Rattle.play_rules.specs.Hierarchy.{come_online, gone_offline, idled, told_again, woken}
use Rattle.play_rules.specs.Phases.{Phase, handing, inside, resting, serving}
use Rattle.play_rules.specs.Play.{ended, hands_on}
use Rattle.play_rules.specs.State.{State}
use Rattle.core_world.specs.Enabled.{MayComeOnline, MayGoOffline, MayIdle, MayWake}
use Rattle.core_world.specs.World.{World, cpu_of}
use Rattle.step_play.specs.Rules.Seen.{InPlay, state_of}
use Rattle.step_play.specs.Rules.StepRules.{come_by_steps, ended_by_steps, gone_by_steps}
use Rattle.step_play.specs.Rules.StepRules.{idled_by_steps}
use Rattle.step_play.specs.Rules.StepRules.{is_waiting, let_go_by_steps, woken_by_steps}

-- the core is in play, and Play's state of it is this one
pub record Plays (ph : Phase) (w : World) (s : State) : Type 0 where
  pub in_play : InPlay ph w
  pub state : state_of w ≡ s

-- an activation: between operations, or beside a walk that waits to hand on
abbrev pub WakesAlike : Type 0
WakesAlike = (ph : Phase) (w : World) (c : ℕ) → InPlay ph w → MayWake w c →
    Plays ph (woken_by_steps w c) (woken (state_of w) c)

-- a CPU that comes online by steps has come online as Play has it
abbrev pub ComesAlike : Type 0
ComesAlike = (w : World) (c : ℕ) → InPlay resting w → MayComeOnline w c →
    Plays resting (come_by_steps w c) (come_online (state_of w) c)

-- a deactivation
abbrev pub IdlesAlike : Type 0
IdlesAlike = (w : World) (c : ℕ) → InPlay resting w → MayIdle w c →
    Plays resting (idled_by_steps w c) (idled (state_of w) c)

-- a CPU goes offline: its walk waits to hand on exactly where Play's CPU has a duty to hand on
pub record GoesAlike (w : World) (c : ℕ) : Type 0 where
  pub waits : is_waiting (gone_by_steps w c) c ≡ hands_on (gone_offline (state_of w) c) c
  pub plays : Plays (if is_waiting (gone_by_steps w c) c then handing c else resting)
      (gone_by_steps w c) (gone_offline (state_of w) c)

-- a CPU that goes offline by steps has gone as Play has it
abbrev pub OfflinesAlike : Type 0
OfflinesAlike = (w : World) (c : ℕ) → InPlay resting w → MayGoOffline w c → GoesAlike w c

-- an interrupt ends: an idle CPU re-evaluates
abbrev pub EndsAlike : Type 0
EndsAlike = (w : World) (r : ℕ) → InPlay (inside r) w →
    Plays resting (ended_by_steps w r) (ended (state_of w) r)

-- a CPU that was taken, and is online and idle, is let go
abbrev pub LetsGoAlike : Type 0
LetsGoAlike = (w : World) (r d : ℕ) → InPlay (serving r d) w → (cpu_of w d).online ≡ true →
    (cpu_of w d).idle ≡ true →
    Plays (inside r) (let_go_by_steps w d) (told_again (state_of w) d)
