-- what a play asks of a machine, as functions on its state. Times are in jiffies, and CPUs, timers
-- and levels are numbers
use Rattle.std.specs.Prelude.{ℕ, List, Bool, Option}
use Rattle.std.specs.Ordering.{nat_cmp}
use Rattle.std.specs.FinSet.{FinSet}
use Rattle.tm_base.specs.declared.names.Class.{Class}
use Rattle.wheel_core.specs.declared.item.Item.{Item}
use Rattle.play_rules.specs.declared.asks.Answerer.{Answerer}
use Rattle.play_rules.specs.declared.asks.Arming.{Arming}
use Rattle.play_rules.specs.declared.asks.Cancelling.{Cancelling}
use Rattle.play_rules.specs.declared.asks.Mover.{Mover}
use Rattle.play_rules.specs.declared.asks.Queued.{Queued}

-- the items that were due, in the order of hand-out, and the state without them
pub record Drained (S : Type 0) : Type 0 where
  pub items : List Item
  pub state : S

-- the wheel expiry that a timer got, and the state in which it is queued
pub record Placed (S : Type 0) : Type 0 where
  pub wheel : ℕ
  pub state : S

-- what moved, and the state after it
pub record Moved (S : Type 0) : Type 0 where
  pub mover : Mover
  pub state : S

-- THE RULES of a machine that is played on, over states S: what a play asks of it, and what its
-- changes leave
pub record Rules (S : Type 0) : Type 0 where
  -- THE MACHINE: its clock, how many timers, CPUs and levels of groups it has, and each CPU's flags
  pub clock : S → ℕ
  pub timers : S → ℕ
  pub cpus : S → ℕ
  pub levels : S → ℕ
  pub is_online : S → (c : ℕ) → Bool
  pub is_idle : S → (c : ℕ) → Bool
  pub is_placed : S → (c : ℕ) → Bool
  pub wakeup : S → (c : ℕ) → ℕ
  pub queued : S → (timer : ℕ) → Option Queued
  -- MOMENTS: the clock comes to a moment; a CPU has an interrupt there; when the next one has one
  pub at_clock : (now : ℕ) → S → S
  pub has_interrupt : S → (c : ℕ) → Bool
  pub next_interrupt : S → ℕ
  -- TIMERS: all that is due of a base is taken out for a runner; a timer that is queued nowhere is
  -- armed
  pub drained : S → (home : ℕ) → Class → (runner : ℕ) → Drained S
  pub armed : S → (c : ℕ) → Arming → Placed S
  pub cancelled : S → (home : ℕ) → Cancelling → S
  -- INTERRUPTS: CPU c begins one; it looks after its group at a level; which CPU the look names
  -- there, besides those tried; whether that CPU is taken or left alone; it is taken, and let go;
  -- the interrupt ends
  pub entered : S → (c : ℕ) → S
  pub looks_after : S → (c level : ℕ) → Bool
  pub named : S → (c level : ℕ) → (tried : FinSet nat_cmp) → Option ℕ
  pub takes : S → (c d : ℕ) → Bool
  pub taken : S → (c d : ℕ) → S
  pub let_go : S → (c d : ℕ) → S
  pub ended : S → (c : ℕ) → S
  -- IDLE AND WAKE: the first event of a CPU; it goes idle; it wakes
  pub first_event : S → (c : ℕ) → ℕ
  pub idled : S → (c : ℕ) → S
  pub woken : S → (c : ℕ) → S
  -- HOTPLUG: the lowest other online placed CPU; CPU c goes offline; whether it then has to hand on
  -- its duty; it hands it on to d; c comes online
  pub successor : S → (c : ℕ) → Option ℕ
  pub gone_offline : S → (c : ℕ) → S
  pub hands_on : S → (c : ℕ) → Bool
  pub handed_on : S → (c d : ℕ) → S
  pub come_online : S → (c : ℕ) → S
  -- MOVING what is queued on a CPU: how many timers; the controlling CPU; it is made active; it
  -- gets the first of them, where there is one
  pub count_queued : S → (c : ℕ) → ℕ
  pub controller : S → Option ℕ
  pub controlling : S → (d : ℕ) → S
  pub moved : S → (from to : ℕ) → Option (Moved S)
  -- COVER: what answers for the first global timer of an online idle CPU
  pub cover : S → (c : ℕ) → Option Answerer
