-- a script's play on the core: the core that its last moment leaves, and what holds of the core
-- after each moment
use Rattle.std.specs.Prelude.{◌≡◌, ℕ, length}
use Rattle.wheel_core.specs.declared.item.Item.{Item}
use Rattle.tm_script.specs.declared.syntax.Script.{Script}
use Rattle.tm_script.specs.Texts.{cpu_count}
use Rattle.coverage.specs.Coverage.{IsAnsweredFor}
use Rattle.play_rules.specs.Interrupts.{Replies}
use Rattle.play_rules.specs.Moments.{AfterEach, last_state}
use Rattle.core_world.specs.Covered.{machine_of}
use Rattle.core_world.specs.World.{World}
use Rattle.step_core.specs.core_facts.Cover.Headline.{IsWaiting}
use Rattle.core_machine.specs.step_play.SamePlay.{IsPlayOfSteps, core_start, step_turns}

-- a core has as many CPUs and timers as a script says
pub record HasMachineOf (script : Script) (w : World) : Type 0 where
  pub cpus : length w.cpus ≡ cpu_count script
  pub timers : w.timers ≡ script.timers

-- THE CORE that the last moment of the play made of steps leaves
abbrev pub core_end : Replies → Script → World
core_end jobs script = last_state (core_start script) (step_turns jobs script)

-- a fact of the core holds after each moment of that play
abbrev pub OfCoreAfterEach : (World → Type 0) → Replies → Script → Type 0
OfCoreAfterEach P jobs script = AfterEach P (step_turns jobs script)

-- THE HEADLINE, at rest: by the core's groups, events and wakeups each global timer that is queued
-- on an online idle CPU is held or woken for
abbrev pub EachIsAnsweredFor : World → Type 0
EachIsAnsweredFor w =
    (c : ℕ) (item : Item) → IsWaiting w c item → IsAnsweredFor (machine_of w) c item.wheel

-- PLAYED BY STEPS: what Play sees of the play made of steps is Play's, moment by moment; after each
-- moment the core is in play and at rest, and the headline holds of it
pub record IsPlayedBySteps (jobs : Replies) (script : Script) : Type 0 where
  pub is_play : IsPlayOfSteps jobs script
  pub answered : OfCoreAfterEach EachIsAnsweredFor jobs script
