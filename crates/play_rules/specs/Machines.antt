-- what a machine's calls leave as it was
use Rattle.std.specs.Prelude.{◌≡◌, ℕ, ◌^◌, ◌<◌, List, ◌++◌, Option, Some, None}
use Rattle.tm_base.specs.declared.names.Class.{Class}
use Rattle.wheel_core.specs.declared.item.Item.{Item}
use Rattle.play_rules.specs.Rules.{Moved, Rules}

-- the item is of one of so many timers
pub record IsTimerOf (timers : ℕ) (item : Item) : Type 0 where
  pub known : item.id < timers
  pub narrow : item.id < 2 ^ 16

-- a machine of the same timers, CPUs and tree, at the same time
pub record Same {S : Type 0} (r : Rules S) (old new : S) : Type 0 where
  pub clock : r.clock new ≡ r.clock old
  pub timers : r.timers new ≡ r.timers old
  pub cpus : r.cpus new ≡ r.cpus old
  pub levels : r.levels new ≡ r.levels old
  pub placed : (c : ℕ) → r.is_placed new c ≡ r.is_placed old c

-- no CPU has gone offline or come online
pub record SameOnline {S : Type 0} (r : Rules S) (old new : S) : Type 0 where
  pub online : (c : ℕ) → r.is_online new c ≡ r.is_online old c

-- no CPU has gone offline or come online, gone idle or woken
pub record SameFlags {S : Type 0} (r : Rules S) (old new : S) : Type 0 where
  pub online : (c : ℕ) → r.is_online new c ≡ r.is_online old c
  pub idle : (c : ℕ) → r.is_idle new c ≡ r.is_idle old c

-- a machine of the same timers and CPUs, perhaps at another time
pub record SameBuild {S : Type 0} (r : Rules S) (old new : S) : Type 0 where
  pub timers : r.timers new ≡ r.timers old
  pub cpus : r.cpus new ≡ r.cpus old

-- WANT OF MEMORY IN A DRAIN: of the items that were due the first ones are out, in the order of
-- hand-out, and the others are still due; a drain of those leaves what one drain of all leaves. The
-- clock, the timers, the tree and who is online are as they were
pub record PartDrained {S : Type 0} (r : Rules S) (old : S) (home : ℕ) (class : Class)
    (runner : ℕ) (new : S) : Type 0 where
  pub out : List Item
  pub left : out ++ (r.drained new home class runner).items
      ≡ (r.drained old home class runner).items
  pub rest : (r.drained new home class runner).state ≡ (r.drained old home class runner).state
  pub same : Same r old new
  pub online : SameOnline r old new

-- the state after a timer moved, or none did
abbrev pub after_move : {S : Type 0} → Option (Moved S) → S → S
after_move None s = s
after_move (Some m) s = m.state
