-- CPUs that leave and come back in a settled core, and the timers that a dead one leaves
use Rattle.std.specs.Prelude.{◌≡◌, ℕ, zero, suc, ◌+◌, ◌==◌, ◌&&◌, not, true, Option, Some, None}
use Rattle.std.specs.Prelude.{if◌then◌else◌, option_map}
use Rattle.tm_base.specs.declared.faults.OpFault.{OpFault}
use Rattle.tm_base.specs.declared.faults.OpFault.TheVariants as faults
use Rattle.tm_base.specs.declared.names.Class.{Class}
use Rattle.tm_base.specs.declared.names.CpuId.{CpuId}
use Rattle.wheel_core.specs.PlainBase.{NoneBehind}
use Rattle.cpu_bases.specs.CpuBases.{CpuBases, base_of}
use Rattle.tree_plan.specs.Paths.{is_placed_in}
use Rattle.play_rules.specs.Machines.{after_move}
use Rattle.core_world.specs.World.{World, cpu_of}
use Rattle.core_machine.specs.step_play.Rules.StepRules.{gone_by_steps, handed_on_by_steps}
use Rattle.core_machine.specs.step_play.Rules.StepRules.{is_waiting}
use Rattle.core_machine.specs.step_play.Rules.StepRules.{made_active}
use Rattle.core_machine.specs.step_play.Rules.StepRules.{step_rules}

-- OFFLINE: why CPU c can't leave, with CPU `to` to follow it; an isolated one needs nobody to
abbrev pub offline_fault : World → (c to : ℕ) → Option OpFault
offline_fault w c to =
    if not (cpu_of w c).online then Some faults.Offline
    else (if (cpu_of w c).idle then Some faults.NotActive
    else (if is_placed_in w.tree c && not (cpu_of w to).online then Some faults.LastOnline
    else None))

-- CPU c leaves; where its walk waits to hand on, it hands on to CPU `to`, which is woken for it
abbrev pub gone_whole : World → (c to : ℕ) → World
gone_whole w c to =
    if is_waiting (gone_by_steps w c) c
    then handed_on_by_steps (gone_by_steps w c) c to
    else gone_by_steps w c

-- the CPU to which CPU c hands its duty on, where it has to
abbrev pub heir_at : World → (c : ℕ) → (to : CpuId) → Option CpuId
heir_at w c to = if is_waiting (gone_by_steps w c) c then Some to else None

-- ONLINE
abbrev pub online_fault : World → (c : ℕ) → Option OpFault
online_fault w c = if (cpu_of w c).online then Some faults.AlreadyOnline else None

-- THE TIMERS OF A DEAD CPU go to the controlling one, if there are any
abbrev pub heir_of : World → (dead : ℕ) → Option CpuId
heir_of w dead =
    if step_rules.count_queued w dead == 0 then None
    else option_map (λ d. record { 0 = d }) (step_rules.controller w)

-- one move after the other, each of the timer that is first then
abbrev pub moved_times : (n from to : ℕ) → World → World
moved_times zero from to w = w
moved_times (suc n) from to w =
    after_move (step_rules.moved (moved_times n from to w) from to) (moved_times n from to w)

-- the controlling CPU is woken where it is idle, and then as many move as are queued
abbrev pub moved_to_heir : World → (dead : ℕ) → Option CpuId → World
moved_to_heir w dead None = w
moved_to_heir w dead (Some to) =
    moved_times (step_rules.count_queued w dead) dead to.0 (made_active w to.0)

-- all timers of an offline CPU have moved to its heir
abbrev pub moved_off : World → (dead : ℕ) → World
moved_off w dead = moved_to_heir w dead (heir_of w dead)

-- the first timers of CPU `from` have moved, and the others are still there
pub record MovedTimes (old : World) (from to : ℕ) (new : World) : Type 0 where
  pub count : ℕ
  pub left : step_rules.count_queued new from + count ≡ step_rules.count_queued old from
  pub is : new ≡ moved_times count from to old

-- after want of memory the controlling CPU is active, and some have moved
pub record MovedSome (old : World) (dead : ℕ) (new : World) : Type 0 where
  pub to : CpuId
  pub heir : heir_of old dead ≡ Some to
  pub moved : MovedTimes (made_active old to.0) dead to.0 new

-- in no base is a queued wheel expiry below the base's clock
abbrev pub AreBasesWhole : CpuBases → Type 0
AreBasesWhole bases = (class : Class) → NoneBehind (base_of class bases)

-- no queued wheel expiry of any CPU is below its base's clock
abbrev pub AllWhole : World → Type 0
AllWhole w = (c : ℕ) → AreBasesWhole (cpu_of w c).bases

-- some placed CPU is online
abbrev pub SomeOnline : World → Type 0
SomeOnline w = (d : ℕ) × (step_rules.is_placed w d ≡ true) × (step_rules.is_online w d ≡ true)
