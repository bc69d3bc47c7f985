-- the CPUs that run the jobs of timers
use Rattle.std.specs.Prelude.{◌≡◌, ℕ, ◌<◌, All, Some, slice_get, take, true}
use Rattle.tm_script.specs.declared.syntax.Script.{Script}
use Rattle.tm_report.specs.declared.lines.Line.{Line}
use Rattle.tm_report.specs.declared.lines.Line.TheVariants as lines
use Rattle.play_rules.specs.Interrupts.{Replies}
use Rattle.play_rules.specs.Moments.{Turn, last_state}
use Rattle.play_rules.specs.State.{State, cpu_at, cpu_count}
use Rattle.play_rules.specs.Play.{at_clock, has_interrupt, play_start, play_turns}

-- CPU c may run jobs in a moment that begins in this state: it is online, and due an interrupt
pub record MayRun (s : State) (c : ℕ) : Type 0 where
  pub in_range : c < cpu_count s
  pub online : (cpu_at s c).online ≡ true
  pub due : has_interrupt s c ≡ true

-- where the line is a `run` line, its runner may run jobs in the moment that begins in this state
abbrev pub RunnerMayRun : State → Line → Type 0
RunnerMayRun s (lines.Run now runner timer home wheel reply) = MayRun s runner.0
RunnerMayRun s line = Unit {0}

-- RUNNERS: in each moment of every script's play, whatever its jobs answer, the runner of each
-- `run` line is online and due an interrupt as the moment begins: in the state after the moments
-- before it, with the clock at its time
abbrev pub RunnersMayRun : Type 0
RunnersMayRun = (jobs : Replies) (script : Script) (n : ℕ) (t : Turn State)
    → let turns = play_turns jobs script in
    slice_get turns n ≡ Some t
    → All (RunnerMayRun (at_clock t.at (last_state (play_start script) (take n turns))))
    t.played.lines
