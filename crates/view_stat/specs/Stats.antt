-- WHAT `stat` COUNTS: the counts that a script's play on a machine leaves, where it is watched. The
-- machine is the script's own, or another one of as many CPUs and timers; it is named by a script
-- that has it
use Rattle.std.specs.Prelude.{◌≡◌, ℕ, Bool, false, List, [], None, Some, nat_le}
use Rattle.std.specs.Prelude.{map, option_map, replicate}
use Rattle.std.specs.Option.{option_map_or}
use Rattle.wheel_core.specs.PlainBase.{least}
use Rattle.cpu_bases.specs.CpuBases.{base_of}
use Rattle.tm_base.specs.declared.names.Class.{Class}
use Rattle.tm_script.specs.declared.syntax.Script.{Script}
use Rattle.tm_script.specs.Grammar.{IsScript}
use Rattle.tm_script.specs.Texts.{cpu_count}
use Rattle.play_rules.specs.Rules.{Rules}
use Rattle.play_rules.specs.Interrupts.{Replies}
use Rattle.play_rules.specs.Jobs.{first_unknown_job}
use Rattle.play_rules.specs.Moments.{Turn, last_state, spent_at}
use Rattle.play_rules.specs.Parts.{counted}
use Rattle.play_driver.specs.Outcomes.{script_turns, work_limit}
use Rattle.play_driver.specs.declared.outcomes.DriveFault.{DriveFault}
use Rattle.play_driver.specs.declared.outcomes.DriveFault.TheVariants.{BadJob, NoMemory, WorkSpent}
use Rattle.core_world.specs.World.{World, cpu_of}
use Rattle.core_machine.specs.step_play.Rules.StepRules.{step_rules}
use Rattle.core_machine.specs.step_play.SamePlay.{core_start}
use Rattle.view_counts.specs.Counts.{no_counts}
use Rattle.view_counts.specs.Wakeups.{counted as counted_wakeups}
use Rattle.view_counts.specs.declared.wakeups.Reason.TheVariants as reasons
use Rattle.view_counts.specs.declared.wakeups.Wakeup.{Wakeup}
use Rattle.view_counts.specs.declared.counts.Cause.TheVariants as causes
use Rattle.view_counts.specs.declared.counts.CpuCounts.{CpuCounts}
use Rattle.view_stat.specs.Watched.{Watched, unwatched_turn, watched_rules}

-- whether the first timer of a class on a CPU of the core is due
abbrev pub is_due : World → (c : ℕ) → Class → Bool
is_due w c class =
    option_map_or (λ first. nat_le first w.clock) (least (base_of class (cpu_of w c).bases).items)
    false

-- THE RULES of a core that is watched
abbrev pub core_rules : Rules (Watched World)
core_rules = watched_rules step_rules is_due

-- a script names a machine on which another one can be played: it has as many CPUs and timers
pub record IsMachineFor (script machine : Script) : Type 0 where
  pub named : IsScript machine
  pub cpus : cpu_count machine ≡ cpu_count script
  pub timers : machine.timers ≡ script.timers

-- the core at the start on a machine, of which nothing was counted
abbrev pub watched_start : (machine : Script) → Watched World
watched_start machine = record {
  world = core_start machine;
  cpus = replicate (cpu_count machine) no_counts;
  interrupt = record { idle = false; cause = causes.Nothing; queued = 0 };
  reasons = replicate (cpu_count machine) reasons.NoWakeup;
  wakeups = [];
}

-- THE MOMENTS of a script's play on a machine whose core is watched
abbrev pub watched_turns : Replies → (machine script : Script) → List (Turn (Watched World))
watched_turns jobs machine script = script_turns jobs core_rules script (watched_start machine)

-- THE MOMENTS of its play on the machine, with nobody watching. On the script's own machine these
-- are those of its play by steps
abbrev pub plain_turns : Replies → (machine script : Script) → List (Turn World)
plain_turns jobs machine script = script_turns jobs step_rules script (core_start machine)

-- the core after the last moment, with what was counted
abbrev pub watched_end : Replies → (machine script : Script) → Watched World
watched_end jobs machine script =
    last_state (watched_start machine) (watched_turns jobs machine script)

-- THE WAKEUPS of the play, in the order in which they were
abbrev pub wakeups_of : Replies → (machine script : Script) → List Wakeup
wakeups_of jobs machine script = (watched_end jobs machine script).wakeups

-- THE COUNTS after its last moment, by ascending CPU: the wakeups that are counted are those that
-- are listed
abbrev pub counts_of : Replies → (machine script : Script) → List CpuCounts
counts_of jobs machine script =
    counted_wakeups (watched_end jobs machine script).cpus (wakeups_of jobs machine script)

-- the counts and the wakeups of a script's play on a machine, of which each job is in the table and
-- the work below its limit; and it is the play that is played with nobody watching, moment by
-- moment: the same lines, the same work, and the same core
pub record IsCountedOn (jobs : Replies) (table : ℕ) (machine script : Script)
    (cpus : List CpuCounts) (wakeups : List Wakeup) : Type 0 where
  pub counts : cpus ≡ counts_of jobs machine script
  pub wakeups_are : wakeups ≡ wakeups_of jobs machine script
  pub same_play : map unwatched_turn (watched_turns jobs machine script)
      ≡ plain_turns jobs machine script
  pub known : first_unknown_job table script.moments ≡ None
  pub within : spent_at (work_limit script.version) 0 (plain_turns jobs machine script) ≡ None

-- .. of its play on its own machine
abbrev pub IsCounted : Replies → (table : ℕ) → Script → List CpuCounts → List Wakeup → Type 0
IsCounted jobs table script cpus wakeups = IsCountedOn jobs table script script cpus wakeups

-- why there are none: a job isn't in the table; the work has reached its limit; memory is wanting
abbrev pub IsUncountedOn : Replies → (table : ℕ) → (machine script : Script) → DriveFault → Type 0
IsUncountedOn jobs table machine script (BadJob line job) =
    first_unknown_job table script.moments ≡ Some (record { line = line; job = job })
IsUncountedOn jobs table machine script (WorkSpent count) =
    (first_unknown_job table script.moments ≡ None)
    × (option_map counted
    (spent_at (work_limit script.version) 0 (plain_turns jobs machine script)) ≡ Some count)
IsUncountedOn jobs table machine script NoMemory = Unit {0}

-- .. on its own machine
abbrev pub IsUncounted : Replies → (table : ℕ) → Script → DriveFault → Type 0
IsUncounted jobs table script fault = IsUncountedOn jobs table script script fault
