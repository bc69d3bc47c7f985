-- what each step may change, and that it leaves all else as it was
use Rattle.std.specs.Prelude.{◌≡◌, ◌≢◌, ℕ, ◌≤◌, ◌==◌, ◌||◌, ◌++◌, Bool, true, false, List}
use Rattle.std.specs.Prelude.{length, option_map}
use Rattle.std.specs.Option.{option_map_or}
use Rattle.cpu_bases.specs.declared.entry.Entry.{Entry}
use Rattle.walk_rules.specs.declared.walk.Walk.{Walk}
use Rattle.walk_rules.specs.Stages.{forget}
use Rattle.core_world.specs.declared.step.Step.{Step}
use Rattle.core_world.specs.declared.step.Step.TheVariants as steps
use Rattle.core_world.specs.Enabled.{Enabled}
use Rattle.core_world.specs.Frames.{SameSize}
use Rattle.core_world.specs.Steps.{stepped}
use Rattle.core_world.specs.World.{CpuRecord, World, cpu_of, group_of}

-- what a step may change: the time; a group, and readings of its word; timers that are queued;
-- journals; whether a CPU is online; and of which CPUs
pub record Reach : Type 0 where
  pub time : Bool
  pub group : Bool
  pub queues : Bool
  pub journals : Bool
  pub online : Bool
  pub cpu : ℕ → Bool

-- one CPU's own data, but for timers and its being online
abbrev pub only : (c : ℕ) → Reach
only c = record {
  time = false;
  group = false;
  queues = false;
  journals = false;
  online = false;
  cpu = λ d. d == c;
}

-- a reach that has the queues and the journal of its CPU besides
abbrev pub with_timers : Reach → Reach
with_timers r = record r { queues = true; journals = true }

-- what a step may change: time, a group, queues, journals, who is online; and of which CPUs
abbrev pub reach_of : Step → Reach
reach_of (steps.Clock now) = record (only 0) { time = true; cpu = λ d. false }
reach_of (steps.Enter cpu) = only cpu.0
reach_of (steps.Leave cpu) = only cpu.0
reach_of (steps.Arm cpu timer class expires job arg line) = with_timers (only cpu.0)
reach_of (steps.Cancel cpu timer by line) = with_timers (only cpu.0)
reach_of (steps.Hand cpu timer runner) = with_timers (only cpu.0)
reach_of (steps.Ticked cpu class runner) = record (only cpu.0) { journals = true }
reach_of (steps.Move from to timer) =
    with_timers (record (only 0) { cpu = λ d. d == from.0 || d == to.0 })
reach_of (steps.Idle cpu) = only cpu.0
reach_of (steps.Wake cpu) = only cpu.0
reach_of (steps.Offline cpu) = record (only cpu.0) { online = true }
reach_of (steps.Online cpu) = record (only cpu.0) { online = true }
reach_of (steps.Reeval cpu) = only cpu.0
reach_of (steps.Take cpu by) = only cpu.0
reach_of (steps.Carry cpu) = only cpu.0
reach_of (steps.Release cpu) = only cpu.0
reach_of (steps.Walk cpu) = record (only cpu.0) { group = true }
reach_of (steps.HandOn cpu to) = only cpu.0

-- the journal has stayed as the front of the new one, which has at most one entry more
pub record Grows (old new : List Entry) : Type 0 where
  pub more : List Entry
  pub written : new ≡ old ++ more
  pub at_most_one : length more ≤ 1

-- but for its walk's reading, which may get stale and never fresh, a CPU is as it was
pub record IsBeside (old new : CpuRecord) : Type 0 where
  pub all_else : new ≡ record old { walk = new.walk }
  pub walk : option_map forget new.walk ≡ option_map forget old.walk
  pub fresh : option_map_or (λ (k : Walk). k.fresh) new.walk false ≡ true →
      option_map_or (λ (k : Walk). k.fresh) old.walk false ≡ true

-- CPU d after a step of this reach
pub record CpuKeeps (r : Reach) (d : ℕ) (old new : CpuRecord) : Type 0 where
  pub journal : Grows old.bases.journal new.bases.journal
  pub unwritten : r.journals ≡ false → new.bases.journal ≡ old.bases.journal
  pub queues : r.queues ≡ false → new.bases.bases ≡ old.bases.bases
  pub online : r.online ≡ false → new.online ≡ old.online
  pub others : r.cpu d ≡ false → IsBeside old new
  pub untouched : r.cpu d ≡ false → r.group ≡ false → new ≡ old

-- a world after a step of this reach
pub record KeepsReach (r : Reach) (old new : World) : Type 0 where
  pub size : SameSize old new
  pub clock : old.clock ≤ new.clock
  pub time : r.time ≡ false → new.clock ≡ old.clock
  pub cpu : (d : ℕ) → CpuKeeps r d (cpu_of old d) (cpu_of new d)
  pub groups : r.group ≡ false → (g : ℕ) → group_of new g ≡ group_of old g
  pub one_group : (h : ℕ) × ((g : ℕ) → g ≢ h → group_of new g ≡ group_of old g)

-- THE FRAME
abbrev pub EachKeeps : Type 0
EachKeeps = (w : World) (step : Step) → Enabled w step →
    KeepsReach (reach_of step) w (stepped w step)
