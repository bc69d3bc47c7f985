-- the `cover` lines of a report: who answers for the first global timer of an idle CPU
use Rattle.std.specs.Prelude.{◌≡◌, ◌≢◌, ℕ, ◌+◌, ◌<◌, ◌≤◌, ◌==◌, List, [], ◌∷◌, Bool, true, false}
use Rattle.std.specs.Prelude.{All, Contains, Some, filter}
use Rattle.std.specs.List.{list_any}
use mathlib.Core.Logic.{inl, inr}
use Rattle.tm_base.specs.declared.names.Class.TheVariants.{Global}
use Rattle.tm_script.specs.declared.syntax.Moment.{Moment}
use Rattle.tm_script.specs.declared.syntax.Script.{Script}
use Rattle.tm_script.specs.Grammar.{IsScript}
use Rattle.tm_report.specs.declared.lines.Line.{Line}
use Rattle.tm_report.specs.declared.lines.Line.TheVariants as lines
use Rattle.tm_report.specs.declared.lines.ShownCover.{ShownCover}
use Rattle.tm_report.specs.declared.lines.ShownCover.TheVariants as covers
use Rattle.tree_plan.specs.Paths.{level_of, place_of}
use Rattle.wheel_core.specs.PlainBase.{least}
use Rattle.cpu_bases.specs.CpuBases.{base_of}
use Rattle.coverage.specs.Coverage.{Held, Woken}
use Rattle.play_rules.specs.Interrupts.{Replies, cpu_id}
use Rattle.play_rules.specs.Moments.{Turn}
use Rattle.play_rules.specs.State.{State, cpu_at, cpu_count}
use Rattle.play_rules.specs.Timers.{bases_at}
use Rattle.play_rules.specs.Play.{play_turns}
use Rattle.play_laws.specs.Answered.Settled.{machine_of}
use Rattle.play_laws.specs.Told.Kinds.{is_cover}

-- who wakes for CPU c, which is woken in time: the CPU itself, or the one that wakes for the top
abbrev pub waker_of : (s : State) (c wheel : ℕ) → Woken (machine_of s) c wheel → ℕ
waker_of s c wheel (inl own) = c
waker_of s c wheel (inr top) = top.wakes.waker

-- when that one wakes
abbrev pub waking_time : (s : State) (c wheel : ℕ) → Woken (machine_of s) c wheel → ℕ
waking_time s c wheel (inl own) = own.at
waking_time s c wheel (inr top) = top.wakes.at

-- HELD, as a line shows it: a group of the path of CPU c, by its level and place, was told of the
-- timer in time, and its migrators lead to the active CPU m
pub record IsHeldBy (s : State) (c wheel level place m : ℕ) : Type 0 where
  pub held : Held (machine_of s) c wheel
  pub level_is : level_of s.tree held.in_group ≡ level
  pub place_is : place_of s.tree held.in_group ≡ place
  pub runner_is : held.runner ≡ m

-- WOKEN FOR, as a line shows it: by CPU d, at a time
pub record IsWokenBy (s : State) (c wheel d at : ℕ) : Type 0 where
  pub woken : Woken (machine_of s) c wheel
  pub waker_is : waker_of s c wheel woken ≡ d
  pub time_is : waking_time s c wheel woken ≡ at

-- what a line shows answers for CPU c at this wheel expiry, by the definitions of coverage
abbrev pub Answers : State → (c wheel : ℕ) → ShownCover → Type 0
Answers s c wheel (covers.Migrator level place m) = IsHeldBy s c wheel level place m.0
Answers s c wheel (covers.Wake d at) = IsWokenBy s c wheel d.0 at

-- TRUE in a state: CPU c is online and idle, its first global timer has this wheel expiry, and what
-- the line shows answers for it
pub record IsTrueOf (s : State) (now c wheel : ℕ) (cover : ShownCover) : Type 0 where
  pub time : now ≡ s.clock
  pub in_range : c < cpu_count s
  pub online : (cpu_at s c).online ≡ true
  pub idle : (cpu_at s c).idle ≡ true
  pub first : least (base_of Global (bases_at s c)).items ≡ Some wheel
  pub answers : Answers s c wheel cover

-- a `cover` line that is true in a state
abbrev pub IsTrueCover : State → Line → Type 0
IsTrueCover s (lines.Cover now cpu wheel cover) = IsTrueOf s now cpu.0 wheel cover
IsTrueCover s line = ⊥

-- `cover` lines whose CPUs ascend, from this number on; so no CPU has two
abbrev pub CpusAscend : (from : ℕ) → List Line → Type 0
CpusAscend from [] = Unit {0}
CpusAscend from (lines.Cover now cpu wheel cover ∷ ls) =
    (from ≤ cpu.0) × CpusAscend (cpu.0 + 1) ls
CpusAscend from (line ∷ ls) = ⊥

-- CPU c has a `cover` line among these
pub record HasCover (s : State) (ls : List Line) (c : ℕ) : Type 0 where
  pub wheel : ℕ
  pub cover : ShownCover
  pub there : Contains ls (lines.Cover s.clock (cpu_id c) wheel cover)

-- COVERS: these lines are true in a state, by ascending CPU, and each online idle CPU with a global
-- timer has one
pub record TellCovers (s : State) (ls : List Line) : Type 0 where
  pub true_each : All (IsTrueCover s) ls
  pub ascend : CpusAscend 0 ls
  pub all_told : (c : ℕ) → c < cpu_count s → (cpu_at s c).online ≡ true
      → (cpu_at s c).idle ≡ true → (base_of Global (bases_at s c)).items ≢ [] → HasCover s ls c

-- whether the script has a moment (`at`) of this time
abbrev pub has_at : List Moment → (time : ℕ) → Bool
has_at moments time = list_any (λ m. m.at == time) moments

-- the `cover` lines of a moment, which is one of the script or isn't
abbrev pub CoversIn : Bool → State → List Line → Type 0
CoversIn true s ls = TellCovers s ls
CoversIn false s ls = ls ≡ []

-- in a script's play the `cover` lines of each moment of the script tell who answers in the state
-- after it; other moments have none
abbrev pub EachCoverIn : Replies → Script → Type 0
EachCoverIn jobs script =
    All
    (λ (t : Turn State).
    CoversIn (has_at script.moments t.at) t.played.state (filter is_cover t.played.lines))
    (play_turns jobs script)

-- and so in every script's play, whatever its jobs answer
abbrev pub CoversAreTrue : Type 0
CoversAreTrue = (jobs : Replies) (script : Script) → IsScript script → EachCoverIn jobs script
