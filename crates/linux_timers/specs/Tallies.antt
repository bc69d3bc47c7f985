-- counts of timers in a trace
use Rattle.std.specs.Prelude.{ℕ, ◌==◌, nat_lt, Bool, true, false, if◌then◌else◌}
use Rattle.tm_base.specs.declared.names.CpuId.{CpuId}
use Rattle.linux_lines.specs.declared.events.Expiry.{Expiry}
use Rattle.linux_lines.specs.declared.events.TimerEvent.TheVariants.{Armed, Removed, Ran, Softirq}
use Rattle.linux_lines.specs.declared.events.Line.{Line}
use Rattle.linux_lines.specs.declared.events.Line.TheVariants.{Remark, Loss, Foreign, Told}
use Rattle.linux_lines.specs.declared.events.Line.TheVariants.{OfTimer}
use Rattle.linux_seen.specs.Counts.{counted, counted_if}
use Rattle.linux_timers.specs.declared.seen.State.{State}
use Rattle.linux_timers.specs.declared.seen.State.TheVariants.{Unknown, Gone, At}
use Rattle.linux_timers.specs.declared.tallies.TimerTally.{TimerTally}
use Rattle.linux_timers.specs.Seen.{TimerSight}
use Rattle.linux_timers.specs.Rule.{state_of_run}

-- none is counted
abbrev pub no_timer_tally : TimerTally
no_timer_tally = record { armed = 0; ran = 0; remote = 0; unsure = 0; forwarded = 0 }

-- it isn't known how the timer was queued
abbrev pub is_unsure : State → Bool
is_unsure Unknown = true
is_unsure Gone = false
is_unsure (At q) = false

-- the timer is another CPU's
abbrev pub is_remote : State → CpuId → Bool
is_remote Unknown cpu = false
is_remote Gone cpu = false
is_remote (At q) cpu = if q.home.0 == cpu.0 then false else true

-- the base's clock has gone on from the timer's bucket: it was forwarded in the middle of a run
abbrev pub is_forwarded : State → ℕ → Bool
is_forwarded Unknown clock = false
is_forwarded Gone clock = false
is_forwarded (At q) clock = nat_lt q.bucket clock

-- a run is counted, by how its timer was queued
unfoldable pub run_counted : TimerTally → State → CpuId → Expiry → TimerTally
run_counted t state cpu e = record {
  armed = t.armed;
  ran = counted t.ran;
  remote = counted_if (is_remote state cpu) t.remote;
  unsure = counted_if (is_unsure state) t.unsure;
  forwarded = counted_if (is_forwarded state e.clock) t.forwarded;
}

-- THE COUNTS after a line, by what was known before it
unfoldable pub timer_tally_after : TimerTally → TimerSight → Line → TimerTally
timer_tally_after t s Remark = t
timer_tally_after t s Loss = t
timer_tally_after t s (Foreign cpu odd) = t
timer_tally_after t s (Told cpu at h) = t
timer_tally_after t s (OfTimer cpu at (Armed a)) = record t { armed = counted t.armed }
timer_tally_after t s (OfTimer cpu at (Removed timer)) = t
timer_tally_after t s (OfTimer cpu at (Ran e)) = run_counted t (state_of_run s cpu at e) cpu e
timer_tally_after t s (OfTimer cpu at (Softirq vec)) = t
