-- what is counted of a CPU, and how time, wakeups and runs add to it
use Rattle.std.specs.Prelude.{ℕ, ◌+◌, ◌-◌, ◌*◌, ◌^◌, Bool, true, false, List, if◌then◌else◌}
use Rattle.std.specs.Prelude.{length, max, min, nat_lt, slice_index_or, slice_set}
use Rattle.view_counts.specs.declared.counts.Cause.{Cause}
use Rattle.view_counts.specs.declared.counts.Cause.TheVariants as causes
use Rattle.view_counts.specs.declared.counts.CpuCounts.{CpuCounts}

-- nothing was counted
abbrev pub no_counts : CpuCounts
no_counts = record {
  awake = 0;
  asleep = 0;
  offline = 0;
  sleep = 0;
  longest = 0;
  wakeups = 0;
  pinned = 0;
  global = 0;
  others = 0;
  deferrable = 0;
  nothing = 0;
  runs_for = 0;
  runs_by = 0;
  migrator = 0;
}

-- so many more; a number stands still at its greatest value
abbrev pub more : (n by : ℕ) → ℕ
more n by = min (n + by) (2 ^ 64 - 1)

-- TIME: a CPU was asleep, and its sleep has become so much longer
abbrev pub was_asleep : (jiffies : ℕ) → CpuCounts → CpuCounts
was_asleep jiffies k = record k {
  asleep = more k.asleep jiffies;
  sleep = more k.sleep jiffies;
  longest = max k.longest (more k.sleep jiffies);
}

-- TIME: it was awake, and migrator of so many groups
abbrev pub was_awake : (jiffies groups : ℕ) → CpuCounts → CpuCounts
was_awake jiffies groups k = record k {
  awake = more k.awake jiffies;
  sleep = 0;
  migrator = more k.migrator (min (groups * jiffies) (2 ^ 64 - 1));
}

-- TIME: it was offline
abbrev pub was_offline : (jiffies : ℕ) → CpuCounts → CpuCounts
was_offline jiffies k = record k { offline = more k.offline jiffies; sleep = 0 }

-- TIME: so many jiffies went by for a CPU that was online or not, and idle or not
abbrev pub lived : (online idle : Bool) → (jiffies groups : ℕ) → CpuCounts → CpuCounts
lived false idle jiffies groups k = was_offline jiffies k
lived true true jiffies groups k = was_asleep jiffies k
lived true false jiffies groups k = was_awake jiffies groups k

-- TIME: a sleep is over
abbrev pub slept : CpuCounts → CpuCounts
slept k = record k { sleep = 0 }

-- WAKEUPS: one more with this cause
abbrev pub woken_for : Cause → CpuCounts → CpuCounts
woken_for causes.Pinned k = record k { pinned = more k.pinned 1 }
woken_for causes.Global k = record k { global = more k.global 1 }
woken_for causes.Others k = record k { others = more k.others 1 }
woken_for causes.Deferrable k = record k { deferrable = more k.deferrable 1 }
woken_for causes.Nothing k = record k { nothing = more k.nothing 1 }

-- WAKEUPS: one more, with which a sleep ends
abbrev pub woke : Cause → CpuCounts → CpuCounts
woke cause k = record (woken_for cause k) { wakeups = more (woken_for cause k).wakeups 1; sleep = 0 }

-- RUNS: it ran so many timers of others; others ran so many of its own
abbrev pub ran_for : (count : ℕ) → CpuCounts → CpuCounts
ran_for count k = record k { runs_for = more k.runs_for count }

-- RUNS: others ran so many of its timers
abbrev pub run_by : (count : ℕ) → CpuCounts → CpuCounts
run_by count k = record k { runs_by = more k.runs_by count }

-- what was counted of CPU c changes; there are no others than those of the list
abbrev pub at_cpu : (c : ℕ) → (CpuCounts → CpuCounts) → List CpuCounts → List CpuCounts
at_cpu c f ks =
    if nat_lt c (length ks) then slice_set ks c (f (slice_index_or ks c no_counts)) else ks
