-- that the choice answers, by the definitions of coverage
use Rattle.std.specs.Prelude.{◌≡◌, ℕ}
use mathlib.Core.Logic.{inl, inr}
use Rattle.cpu_bases.specs.CpuBases.{events_of}
use Rattle.coverage.specs.Coverage.{Held, Machine, Woken}
use Rattle.core_world.specs.Covered.{machine_of}
use Rattle.core_world.specs.World.{World, cpu_of}

-- the wheel expiry of a CPU's first global timer
abbrev pub first_global_of : World → (c : ℕ) → ℕ
first_global_of w c = (events_of (cpu_of w c).bases).first_global

-- HELD by the migrators that lead from group g to CPU m
pub record IsHeldByMigrators (w : World) (c g m : ℕ) : Type 0 where
  pub held : Held (machine_of w) c (first_global_of w c)
  pub group : held.in_group ≡ g
  pub runner : held.runner ≡ m

-- who wakes, and when
abbrev pub waker_of_woken : (t : Machine) (c wheel : ℕ) → Woken t c wheel → ℕ
waker_of_woken t c wheel (inl own) = c
waker_of_woken t c wheel (inr top) = top.wakes.waker

-- when a CPU that is woken for wakes, or the CPU that wakes for it
abbrev pub time_woken : (t : Machine) (c wheel : ℕ) → Woken t c wheel → ℕ
time_woken t c wheel (inl own) = own.at
time_woken t c wheel (inr top) = top.wakes.at

-- WOKEN FOR by CPU d at a time
pub record IsWokenAt (w : World) (c d at : ℕ) : Type 0 where
  pub woken : Woken (machine_of w) c (first_global_of w c)
  pub waker : waker_of_woken (machine_of w) c (first_global_of w c) woken ≡ d
  pub time : time_woken (machine_of w) c (first_global_of w c) woken ≡ at
