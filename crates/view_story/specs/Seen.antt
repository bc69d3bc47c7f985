-- what the lines of a report told so far of timers and CPUs
use Rattle.std.specs.Prelude.{ℕ, ◌+◌, ◌-◌, ◌==◌, nat_lt, List, length, slice_get, slice_set}
use Rattle.std.specs.Prelude.{Option, Some, None, true, false, if◌then◌else◌}
use Rattle.tm_base.specs.declared.names.CpuId.{CpuId}
use Rattle.tm_base.specs.declared.names.TimerId.{TimerId}
use Rattle.tm_base.specs.declared.names.TheConstants.{NEVER}
use Rattle.view_story.specs.declared.seen.TimerSeen.{TimerSeen}
use Rattle.view_story.specs.declared.seen.Touch.TheVariants as touches
use Rattle.view_story.specs.declared.seen.State.{State}
use Rattle.view_story.specs.declared.seen.CpuSeen.{CpuSeen}
use Rattle.view_story.specs.Sight.{StorySight}

-- a timer of which nothing was told is queued nowhere
abbrev pub fresh_timer : TimerId → TimerSeen
fresh_timer timer = record {
  timer = timer;
  place = None;
  clear = true;
  touch = touches.Nobody;
  touched = NEVER;
}

-- a CPU that isn't there
abbrev pub absent_cpu : CpuId → CpuSeen
absent_cpu cpu = record {
  cpu = cpu;
  state = record { online = false; idle = false };
  changed = NEVER;
  before = record { online = false; idle = false };
  quiet = NEVER;
  clocks = record { pinned = 0; global = 0; deferrable = 0 };
  out = None;
  globals = 0;
  timers = 0;
}

-- one more, or the same at the end of the type
abbrev pub up : ℕ → ℕ
up n = if nat_lt n 18446744073709551615 then n + 1 else n

-- one less, or none
abbrev pub down : ℕ → ℕ
down n = if nat_lt 0 n then n - 1 else 0

-- the state with which a CPU began a moment
abbrev pub opening_of : CpuSeen → (now : ℕ) → State
opening_of c now = if c.changed == now then c.before else c.state

-- what is there, or else this
abbrev pub seen_or : {X : Type 0} → Option X → X → X
seen_or None x = x
seen_or (Some y) x = y

-- a timer, which is queued nowhere where the script has none of this number
abbrev pub timer_at : StorySight → TimerId → TimerSeen
timer_at s t = seen_or (slice_get s.timers t.0) (fresh_timer t)

-- a CPU, which is offline where the script has none of this number
abbrev pub cpu_at : StorySight → CpuId → CpuSeen
cpu_at s c = seen_or (slice_get s.cpus c.0) (absent_cpu c)

-- the timers with one changed
abbrev pub with_timer_seen : List TimerSeen → TimerSeen → List TimerSeen
with_timer_seen ts t = if nat_lt t.timer.0 (length ts) then slice_set ts t.timer.0 t else ts

-- the CPUs with one changed
abbrev pub with_cpu_seen : List CpuSeen → CpuSeen → List CpuSeen
with_cpu_seen cs c = if nat_lt c.cpu.0 (length cs) then slice_set cs c.cpu.0 c else cs

-- what is told with a timer changed
unfoldable pub with_timer : StorySight → TimerSeen → StorySight
with_timer s t = record s { timers = with_timer_seen s.timers t }

-- .. with a CPU changed
unfoldable pub with_cpu : StorySight → CpuSeen → StorySight
with_cpu s c = record s { cpus = with_cpu_seen s.cpus c }
