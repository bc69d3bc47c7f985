-- the `left` lines of a report: the timers that are still queued at its end
use Rattle.std.specs.Prelude.{◌≡◌, ℕ, ◌+◌, ◌<◌, ◌≤◌, List, [], ◌∷◌, All, Contains, IsSomeAnd}
use Rattle.std.specs.Prelude.{filter}
use Rattle.tm_base.specs.declared.names.Class.{Class}
use Rattle.tm_script.specs.declared.syntax.Script.{Script}
use Rattle.tm_script.specs.Grammar.{IsScript}
use Rattle.tm_report.specs.declared.lines.Line.{Line}
use Rattle.tm_report.specs.declared.lines.Line.TheVariants as lines
use Rattle.wheel_core.specs.declared.item.Item.{Item}
use Rattle.wheel_core.specs.PlainBase.{item_of}
use Rattle.cpu_bases.specs.CpuBases.{base_of}
use Rattle.play_rules.specs.Interrupts.{Replies, cpu_id, timer_id}
use Rattle.play_rules.specs.Moments.{last_state, whole_lines}
use Rattle.play_rules.specs.State.{State, cpu_count}
use Rattle.play_rules.specs.Timers.{bases_at}
use Rattle.play_rules.specs.Play.{plain_rules, play_start, play_turns}
use Rattle.play_laws.specs.Told.Kinds.{is_left}

-- a `left` line whose timer is queued on its CPU, in the base of its class, at its wheel expiry
abbrev pub IsQueuedSo : State → Line → Type 0
IsQueuedSo s (lines.Left timer cpu class wheel) =
    (cpu.0 < cpu_count s)
    × IsSomeAnd (item_of timer.0 (base_of class (bases_at s cpu.0)).items)
    (λ item. item.wheel ≡ wheel)
IsQueuedSo s line = ⊥

-- the `left` line of an item in the base of a class of CPU c
abbrev pub left_line : (c : ℕ) → Class → Item → Line
left_line c class item = lines.Left (timer_id item.id) (cpu_id c) class item.wheel

-- `left` lines whose timers ascend, from this number on; so none comes twice
abbrev pub TimersAscend : (from : ℕ) → List Line → Type 0
TimersAscend from [] = Unit {0}
TimersAscend from (lines.Left timer cpu class wheel ∷ ls) =
    (from ≤ timer.0) × TimersAscend (timer.0 + 1) ls
TimersAscend from (line ∷ ls) = ⊥

-- LEFT: these lines are the timers that are queued in a state, in ascending order
pub record TellLeft (s : State) (ls : List Line) : Type 0 where
  pub queued : All (IsQueuedSo s) ls
  pub all_told : (c : ℕ) (class : Class) → c < cpu_count s
      → All (λ item. Contains ls (left_line c class item)) (base_of class (bases_at s c)).items
  pub ascend : TimersAscend 0 ls

-- the `left` lines of a script's play are the timers that are queued after its last moment
abbrev pub LeftIn : Replies → Script → Type 0
LeftIn jobs script =
    let turns = play_turns jobs script in
    let start = play_start script in
    TellLeft (last_state start turns)
    (filter is_left (whole_lines plain_rules script.end start turns))

-- and so in every script's play, whatever its jobs answer
abbrev pub LeftAreQueued : Type 0
LeftAreQueued = (jobs : Replies) (script : Script) → IsScript script → LeftIn jobs script
