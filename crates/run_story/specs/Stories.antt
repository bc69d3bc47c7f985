-- a story of a script: its moments, one behind the other
use Rattle.std.specs.Prelude.{◌≡◌, ◌≢◌, ℕ, ◌+◌, ◌==◌, ◌&&◌, ◌||◌, Bool, true, false}
use Rattle.std.specs.Prelude.{List, [], ◌∷◌, ◌++◌, Option, Some, None, filter, is_none, length}
use Rattle.std.specs.Prelude.{nat_le}
use Rattle.std.specs.List.{flat_map, list_any, range_with_len}
use Rattle.std.specs.Option.{option_map_or}
use Rattle.std.specs.FinSet as set
use Rattle.std.specs.Ordering.{nat_cmp}
use Rattle.tm_script.specs.declared.syntax.Moment.{Moment}
use Rattle.tm_script.specs.declared.syntax.Op.{Op}
use Rattle.tm_script.specs.declared.syntax.Script.{Script}
use Rattle.tm_script.specs.declared.syntax.What.{What}
use Rattle.tm_script.specs.declared.syntax.What.TheVariants as whats
use Rattle.tm_report.specs.declared.lines.Line.{Line}
use Rattle.tm_report.specs.declared.lines.Line.TheVariants as lines
use Rattle.play_rules.specs.Interrupts.{Replies, having_interrupt}
use Rattle.play_rules.specs.Moments.{Turn, moment, moment_at, moments_after, next_moment}
use Rattle.play_rules.specs.Operations.{covers}
use Rattle.play_rules.specs.Parts.{Played}
use Rattle.core_world.specs.World.{World}
use Rattle.step_play.specs.Rules.StepRules.{step_rules}
use Rattle.step_play.specs.SamePlay.{core_start}
use Rattle.run_story.specs.Rounds.{IsRound}

-- LINES BY CPUS: whose line it is that tells of an interrupt or an operation: that of the CPU which
-- ran the timer, or which the script's line names
abbrev pub teller : Line → Option ℕ
teller (lines.Arm now cpu timer class wheel) = Some cpu.0
teller (lines.Run now runner timer home wheel reply) = Some runner.0
teller (lines.Cancel now cpu timer home) = Some cpu.0
teller (lines.NotQueued now cpu timer) = Some cpu.0
teller (lines.Idle now cpu until) = Some cpu.0
teller (lines.Stay now cpu first) = Some cpu.0
teller (lines.Wake now cpu) = Some cpu.0
teller (lines.Offline now cpu) = Some cpu.0
teller (lines.Handed now cpu to) = Some cpu.0
teller (lines.Online now cpu) = Some cpu.0
teller (lines.Refused now cpu line number) = Some cpu.0
teller (lines.RefusedQueued now cpu line number holder) = Some cpu.0
teller l = None

-- a line is told by a CPU
abbrev pub is_told_by : (cpu : ℕ) → Line → Bool
is_told_by cpu l = option_map_or (λ c. c == cpu) (teller l) false

-- a line is told by no CPU
abbrev pub is_told_by_none : Line → Bool
is_told_by_none l = is_none (teller l)

-- lines by ascending CPU, those of one CPU in their order, and then those that no CPU tells
abbrev pub by_cpu : (cpus : ℕ) → List Line → List Line
by_cpu cpus ls =
    flat_map (λ c. filter (is_told_by c) ls) (range_with_len 0 cpus) ++ filter is_told_by_none ls

-- PLAIN MOMENTS: an operation that takes a CPU offline or online
abbrev pub is_hotplug : What → Bool
is_hotplug whats.Offline = true
is_hotplug whats.Online = true
is_hotplug what = false

-- the operations that the script has for a moment
abbrev pub ops_of : Option Moment → List Op
ops_of None = []
ops_of (Some m) = m.ops

-- how many CPUs of a machine are due an interrupt
abbrev pub count_due : (cpus : ℕ) → set.FinSet nat_cmp → ℕ
count_due cpus due = length (filter (set.contains due) (range_with_len 0 cpus))

-- a moment has an operation that takes a CPU offline or online, or no operation and at most one
-- interrupt
abbrev pub is_plain : (cpus : ℕ) → (due : set.FinSet nat_cmp) → List Op → Bool
is_plain cpus due ops =
    list_any (λ (o : Op). is_hotplug o.what) ops
    || (nat_le (length ops) 0 && nat_le (count_due cpus due) 1)

-- a line tells a timer as run
abbrev pub is_run : Line → Bool
is_run (lines.Run now runner timer home wheel reply) = true
is_run l = false

-- .. and how many those are
abbrev pub runs_told : List Line → ℕ
runs_told ls = length (filter is_run ls)

-- a moment as a play has it
abbrev pub plays : Replies → (due : set.FinSet nat_cmp) → Option Moment → World → Played World
plays jobs due m o = moment jobs step_rules due m o

-- A PLAIN MOMENT is that of a play, with its lines by ascending CPU
pub record IsPlain (jobs : Replies) (due : set.FinSet nat_cmp) (m : Option Moment) (o : World)
    (p : Played World) : Type 0 where
  pub state : p.state ≡ (plays jobs due m o).state
  pub work : p.work ≡ (plays jobs due m o).work
  pub told : p.lines ≡ by_cpu (length o.cpus) (plays jobs due m o).lines

-- the covers of a moment of the script
abbrev pub covers_of : Option Moment → World → List Line
covers_of None w = []
covers_of (Some m) w = (covers step_rules w).lines

-- A MOMENT WITH THREADS is a round, and then its covers; its work is the moment, its interrupts and
-- its runs
pub record IsThreaded (jobs : Replies) (due : set.FinSet nat_cmp) (m : Option Moment) (o : World)
    (p : Played World) : Type 0 where
  pub told : List Line
  pub round : IsRound jobs o due (ops_of m) p.state told
  pub lines_are : p.lines ≡ told ++ covers_of m p.state
  pub work : p.work ≡ 1 + count_due (length o.cpus) due + runs_told told

-- A MOMENT of a run, from the core as its clock has come to it
abbrev pub IsMomentBy : (is_plain : Bool) → Replies → (due : set.FinSet nat_cmp) → Option Moment
    → World → Played World → Type 0
IsMomentBy true jobs due m o p = IsPlain jobs due m o p
IsMomentBy false jobs due m o p = IsThreaded jobs due m o p

-- .. plain, or with threads, by what the core and the script have for it
abbrev pub IsPlayedMoment : Replies → Option Moment → (o : World) → Played World → Type 0
IsPlayedMoment jobs m o p =
    IsMomentBy (is_plain (length o.cpus) (having_interrupt step_rules o) (ops_of m)) jobs
    (having_interrupt step_rules o) m o p

-- MOMENT BEHIND MOMENT, from the time `now` on: each as the core before and the script have it, up
-- to that at the end
module _ (jobs : Replies) (end : ℕ) where
  -- one moment, which comes at its time
  abbrev pub IsTurnInTime : (ms : List Moment) (now : ℕ) → World → Turn World → Type 0
  IsTurnInTime ms now w t =
      (t.at ≡ now) × IsPlayedMoment jobs (moment_at now ms) (step_rules.at_clock now w) t.played

  -- what comes behind a moment: nothing where it is the last
  abbrev pub Behind : (is_last : Bool) → (rest : Type 0) → List (Turn World) → Type 0
  Behind true rest ts = ts ≡ []
  Behind false rest ts = rest

  -- the moments from this time on
  unfoldable pub StoryFrom : (ms : List Moment) (now : ℕ) → World → List (Turn World) → Type 0
  StoryFrom ms now w [] = ⊥
  StoryFrom ms now w (t ∷ ts) =
      IsTurnInTime ms now w t
      × Behind (now == end)
      (StoryFrom (moments_after now ms)
      (next_moment step_rules end (moments_after now ms) t.played.state) t.played.state ts) ts

  -- broken off: so many moments of a story, none of them the last
  unfoldable pub BrokenFrom : (ms : List Moment) (now : ℕ) → World → List (Turn World) → Type 0
  BrokenFrom ms now w [] = Unit {0}
  BrokenFrom ms now w (t ∷ ts) =
      (now ≢ end) × IsTurnInTime ms now w t
      × BrokenFrom (moments_after now ms)
      (next_moment step_rules end (moments_after now ms) t.played.state) t.played.state ts

-- A STORY of a script: its moments from jiffy 0 to the end, from the core of its start
abbrev pub IsStory : Replies → Script → List (Turn World) → Type 0
IsStory jobs script ts = StoryFrom jobs script.end script.moments 0 (core_start script) ts

-- a story that is broken off before its end
abbrev pub IsBrokenOff : Replies → Script → List (Turn World) → Type 0
IsBrokenOff jobs script ts = BrokenFrom jobs script.end script.moments 0 (core_start script) ts
