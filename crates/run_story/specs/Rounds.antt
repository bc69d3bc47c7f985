-- a moment in which each CPU with something to do has a thread of its own
use Rattle.std.specs.Prelude.{◌≡◌, ℕ, ◌<◌, ◌≤◌, false, List, [], None, length}
use Rattle.std.specs.List.{flat_map, range_with_len}
use Rattle.std.specs.FinSet as set
use Rattle.std.specs.Ordering.{nat_cmp}
use Rattle.cpu_bases.specs.CpuBases.{class_in}
use Rattle.cpu_bases.specs.Replay.{AddsReplay}
use Rattle.tm_script.specs.declared.syntax.Op.{Op}
use Rattle.tm_report.specs.declared.lines.Line.{Line}
use Rattle.play_rules.specs.Interrupts.{Replies}
use Rattle.core_world.specs.Enabled.{first_event}
use Rattle.core_world.specs.World.{World, cpu_of}
use Rattle.step_play.specs.Rules.Seen.{InRun, resting}
use Rattle.run_story.specs.Written.{AreWritten, WasNowhere, WasQueuedSince, WrittenEntry}
use Rattle.run_story.specs.Written.{bases_after, world_journal_of}
use Rattle.run_story.specs.Shares.{Known, Standing, TellsShare, own_ops}

-- FIRST EVENT: that of the CPU was at this time behind some number of entries of its journal, not
-- fewer than so many
pub record WasFirst (w : World) (cpu since first : ℕ) : Type 0 where
  pub count : ℕ
  pub since_then : since ≤ count
  pub within : count ≤ length (world_journal_of w cpu)
  pub first_is : first ≡ first_event (bases_after (world_journal_of w cpu) count)

-- what the journals of the core after the moment say
abbrev pub by_journals : (o w : World) → Known
by_journals o w = record {
  queues = WasQueuedSince o w;
  nowhere = WasNowhere o w;
  first = WasFirst w;
}

-- a CPU as the moment finds it
abbrev pub standing_at : World → (cpu : ℕ) → Standing
standing_at o cpu = record {
  idle = (cpu_of o cpu).idle;
  wakeup = (cpu_of o cpu).wakeup;
  wrote = [];
  since = length (world_journal_of o cpu);
}

-- THE SHARE of a CPU: its lines tell what it wrote, and how it stands in the core after
pub record HasShare (jobs : Replies) (o w : World) (due : set.FinSet nat_cmp) (ops : List Op)
    (cpu : ℕ) (wrote : List WrittenEntry) (told : List Line) : Type 0 where
  pub last : Standing
  pub tells : TellsShare (by_journals o w) o.clock cpu jobs (set.contains due cpu)
      (cpu_of o cpu).online (own_ops cpu ops) (standing_at o cpu) last told
  pub wrote_is : last.wrote ≡ wrote
  pub idle : (cpu_of w cpu).idle ≡ last.idle
  pub wakeup : (cpu_of w cpu).wakeup ≡ last.wakeup

-- A ROUND: from the core as its clock has come to the moment, with these CPUs due an interrupt and
-- these operations, to the core after, with these lines. Each CPU has its share; the lines stand by
-- ascending CPU; the order between CPUs is free, and what each wrote is all that is new. The core
-- is lawful and at rest, so that each global timer queued on an online idle CPU is held or woken
-- for; no CPU has come or gone, and none that is offline has got a timer
pub record IsRound (jobs : Replies) (o : World) (due : set.FinSet nat_cmp) (ops : List Op)
    (w : World) (told : List Line) : Type 0 where
  pub wrote : ℕ → List WrittenEntry
  pub lines_of : ℕ → List Line
  pub written : AreWritten o w wrote
  pub shares : (cpu : ℕ) → cpu < length o.cpus →
      HasShare jobs o w due ops cpu (wrote cpu) (lines_of cpu)
  pub told_are : told ≡ flat_map lines_of (range_with_len 0 (length o.cpus))
  pub replays : (cpu : ℕ) → AddsReplay (cpu_of o cpu).bases (cpu_of w cpu).bases
  pub clock : w.clock ≡ o.clock
  pub tree : w.tree ≡ o.tree
  pub cpus : length w.cpus ≡ length o.cpus
  pub timers : w.timers ≡ o.timers
  pub online : (cpu : ℕ) → (cpu_of w cpu).online ≡ (cpu_of o cpu).online
  pub left : (cpu timer : ℕ) → (cpu_of o cpu).online ≡ false →
      class_in timer (cpu_of o cpu).bases ≡ None → class_in timer (cpu_of w cpu).bases ≡ None
  pub in_run : InRun resting w
