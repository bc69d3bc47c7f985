-- the sleepers in the order of their wakeups (no public clause cites it)
use Rattle.std.specs.Prelude.{◌≡◌, ℕ, ◌<◌, ◌≤◌, List, [], ◌∷◌, length, Option, Some, None, ◌⊎◌}
use Rattle.std.specs.Prelude.{slice_index_or}
use Rattle.tm_base.specs.declared.limits.TheConstants.{CPU_SET_SIZE}
use Rattle.tm_base.specs.declared.names.TheConstants.{NEVER}
use Rattle.deep_idle.specs.declared.order.Sleeper.{Sleeper}

-- each of them is so
abbrev pub EachSleeper : (Sleeper → Type 0) → List Sleeper → Type 0
EachSleeper Is [] = Unit {0}
EachSleeper Is (s ∷ sleepers) = Is s × EachSleeper Is sleepers

-- none of them wakes after this time
abbrev pub NotAfter : (time : ℕ) → List Sleeper → Type 0
NotAfter time sleepers = EachSleeper (λ s. s.wakeup ≤ time) sleepers

-- none wakes before a time
abbrev pub NotBefore : (time : ℕ) → List Sleeper → Type 0
NotBefore time sleepers = EachSleeper (λ s. time ≤ s.wakeup) sleepers

-- all wake after a time
abbrev pub After : (time : ℕ) → List Sleeper → Type 0
After time sleepers = EachSleeper (λ s. time < s.wakeup) sleepers

-- the last wakes first
abbrev pub AreDescending : List Sleeper → Type 0
AreDescending [] = Unit {0}
AreDescending (s ∷ sleepers) = NotAfter s.wakeup sleepers × AreDescending sleepers

-- a CPU is none of them
abbrev pub LacksSleeper : (cpu : ℕ) → List Sleeper → Type 0
LacksSleeper cpu [] = Unit {0}
LacksSleeper cpu (s ∷ sleepers) = (s.cpu.0 ≡ cpu → ⊥) × LacksSleeper cpu sleepers

-- no CPU is there twice
abbrev pub AreDistinctSleepers : List Sleeper → Type 0
AreDistinctSleepers [] = Unit {0}
AreDistinctSleepers (s ∷ sleepers) = LacksSleeper s.cpu.0 sleepers × AreDistinctSleepers sleepers

-- a CPU is one of them, with this wakeup
abbrev pub Sleeps : (cpu wakeup : ℕ) → List Sleeper → Type 0
Sleeps cpu wakeup [] = ⊥
Sleeps cpu wakeup (s ∷ sleepers) =
    ((s.cpu.0 ≡ cpu) × (s.wakeup ≡ wakeup)) ⊎ Sleeps cpu wakeup sleepers

-- a CPU stands at some place
abbrev pub IsIn : (cpu : ℕ) → List Sleeper → Type 0
IsIn cpu sleepers =
    (place : ℕ) × (place < length sleepers)
    × ((d : Sleeper) → (slice_index_or sleepers place d).cpu.0 ≡ cpu)

-- the wakeup of the last of them, which wakes first, or this one where there is none
abbrev pub last_wakeup : ℕ → List Sleeper → ℕ
last_wakeup wakeup [] = wakeup
last_wakeup wakeup (s ∷ sleepers) = last_wakeup s.wakeup sleepers

-- the wakeup at the front of the queue
abbrev pub first_wakeup : List Sleeper → ℕ
first_wakeup sleepers = last_wakeup NEVER sleepers

-- a queue has exactly the sleepers, each once, in their order
pub record IsQueueOf (sleepers : List (Option ℕ)) (queue : List Sleeper) : Type 0 where
  pub descending : AreDescending queue
  pub distinct : AreDistinctSleepers queue
  pub queued : (cpu wakeup : ℕ) → slice_index_or sleepers cpu None ≡ Some wakeup
      → Sleeps cpu wakeup queue
  pub sleeps : (cpu wakeup : ℕ) → Sleeps cpu wakeup queue
      → slice_index_or sleepers cpu None ≡ Some wakeup
  pub early : EachSleeper (λ s. s.wakeup < NEVER) queue

-- what a device keeps: memory for as many sleepers as there are CPUs too
pub record IsOrderKept (sleepers : List (Option ℕ)) (queue : List Sleeper) (time capacity : ℕ)
    : Type 0
  where
    pub queue_of : IsQueueOf sleepers queue
    pub in_time : NotBefore time queue
    pub few : length sleepers ≤ CPU_SET_SIZE
    pub room : length sleepers ≤ capacity
