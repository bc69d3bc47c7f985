-- a broadcast device as plain data: when each sleeper wakes, and the device's time
use Rattle.std.specs.Prelude.{◌≡◌, ◌↔◌, ℕ, zero, suc, ◌<◌, ◌≤◌, ◌==◌, nat_lt, nat_le, min, Bool}
use Rattle.std.specs.Prelude.{true, false, List, [], ◌∷◌, map, replicate, length, slice_set}
use Rattle.std.specs.Prelude.{slice_index_or, Option, Some, None, if◌then◌else◌}
use Rattle.tm_base.specs.CpuSet.{Cpus, Contains}
use Rattle.tm_base.specs.declared.names.TheConstants.{NEVER}

-- the wakeup of each CPU that sleeps, in jiffies, and the device's time
pub record DeviceState : Type 0 where
  pub sleepers : List (Option ℕ)
  pub time : ℕ

-- the wakeup of a CPU, where it sleeps
abbrev pub sleeper_of : (cpu : ℕ) → DeviceState → Option ℕ
sleeper_of cpu device = slice_index_or device.sleepers cpu None

-- nobody sleeps
abbrev pub new_device : (cpus : ℕ) → DeviceState
new_device cpus = record { sleepers = replicate cpus None; time = NEVER }

-- a CPU falls asleep (tick_broadcast_oneshot_control, TICK_BROADCAST_ENTER)
abbrev pub slept : (cpu wakeup : ℕ) → DeviceState → DeviceState
slept cpu wakeup device = record {
  sleepers = slice_set device.sleepers cpu (Some wakeup);
  time = min device.time wakeup;
}

-- and rises by itself (TICK_BROADCAST_EXIT); the device's time stays
abbrev pub rose : (cpu : ℕ) → DeviceState → DeviceState
rose cpu device = record device { sleepers = slice_set device.sleepers cpu None }

-- the least wakeup of some sleepers, `NEVER` where there is none
abbrev pub sooner_wakeup : Option ℕ → ℕ → ℕ
sooner_wakeup None others = others
sooner_wakeup (Some wakeup) others = min wakeup others

-- the least wakeup of the sleepers, or the time that never comes
abbrev pub least_wakeup : List (Option ℕ) → ℕ
least_wakeup [] = NEVER
least_wakeup (sleeper ∷ sleepers) = sooner_wakeup sleeper (least_wakeup sleepers)

-- a sleeper whose wakeup isn't past a time
abbrev pub is_wakeup_due : (now : ℕ) → Option ℕ → Bool
is_wakeup_due now None = false
is_wakeup_due now (Some wakeup) = nat_le wakeup now

-- a sleeper that isn't due sleeps on
abbrev pub asleep_still : (now : ℕ) → Option ℕ → Option ℕ
asleep_still now sleeper = if is_wakeup_due now sleeper then None else sleeper

-- the device fires (tick_handle_oneshot_broadcast): those that are due wake, and its time is the
-- least wakeup of the rest
abbrev pub fired : (now : ℕ) → DeviceState → DeviceState
fired now device =
    let rest = map (asleep_still now) device.sleepers in
    record { sleepers = rest; time = least_wakeup rest }

-- a set has exactly the CPUs that are due
abbrev pub AreDue : (now : ℕ) → DeviceState → Cpus → Type 0
AreDue now device cpus =
    (cpu : ℕ) → Contains cpus cpu ↔ (is_wakeup_due now (sleeper_of cpu device) ≡ true)

-- THE LAW: the time isn't later than the wakeup of any sleeper
abbrev pub DeviceLaw : DeviceState → Type 0
DeviceLaw device =
    (cpu wakeup : ℕ) → sleeper_of cpu device ≡ Some wakeup → device.time ≤ wakeup

-- SETTLING by each CPU's wakeup, `NEVER` where it doesn't sleep: what a CPU should be
abbrev pub wanted : (wakeup : ℕ) → Option ℕ
wanted wakeup = if nat_lt wakeup NEVER then Some wakeup else None

-- a CPU that sleeps till another time, or shouldn't sleep, rises; one that should sleeps then
abbrev pub risen : Option ℕ → (cpu : ℕ) → DeviceState → DeviceState
risen None cpu device = device
risen (Some wakeup) cpu device = rose cpu device

-- a CPU sleeps, if it is to
abbrev pub asleep : Option ℕ → (cpu : ℕ) → DeviceState → DeviceState
asleep None cpu device = device
asleep (Some wakeup) cpu device = slept cpu wakeup device

-- two times are the same, or both none
abbrev pub is_same : Option ℕ → Option ℕ → Bool
is_same None None = true
is_same (Some one) (Some other) = one == other
is_same _ _ = false

-- one CPU is a sleeper exactly as it is to be
abbrev pub settled_one : (want : Option ℕ) → (cpu : ℕ) → DeviceState → DeviceState
settled_one want cpu device =
    if is_same (sleeper_of cpu device) want then device
    else asleep want cpu (risen (sleeper_of cpu device) cpu device)

-- so many CPUs, in ascending order
abbrev pub device_settled : (wakeups : ℕ → ℕ) → (cpus : ℕ) → DeviceState → DeviceState
device_settled wakeups zero device = device
device_settled wakeups (suc cpu) device =
    settled_one (wanted (wakeups cpu)) cpu (device_settled wakeups cpu device)

-- the sleepers are exactly the CPUs that have a wakeup before `NEVER`, each with it
abbrev pub AreSettled : (wakeups : ℕ → ℕ) → DeviceState → Type 0
AreSettled wakeups device =
    (cpu : ℕ) → cpu < length device.sleepers → sleeper_of cpu device ≡ wanted (wakeups cpu)
