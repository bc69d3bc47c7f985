-- what a walk leaves as it was, besides groups. No public clause cites these definitions
use Rattle.std.specs.Prelude.{◌≡◌, ◌≢◌, ℕ, ◌<◌, true, false, None, length}
use Rattle.tree_plan.specs.Paths.{is_placed_in}
use Rattle.core_world.specs.Covered.{IsSettled}
use Rattle.core_world.specs.World.{World, cpu_of, is_active}
use Rattle.core_machine.specs.step_play.Rules.StepRules.{is_waiting}
use Rattle.core_machine.specs.step_play.Rules.Lone.{IsLone}
use Rattle.hotplug.specs.Settled.{AllWhole}

-- A CPU THAT IS MADE ACTIVE
pub record MayActivate (w : World) (d : ℕ) : Type 0 where
  pub low : d < length w.cpus
  pub free : (cpu_of w d).walk ≡ None
  pub online : (cpu_of w d).online ≡ true
  pub lone : IsLone w d

-- what making CPU d active leaves: d is active and free, its timers and all other CPUs are as they
-- were
pub record Activated (w : World) (d : ℕ) (v : World) : Type 0 where
  pub tree : v.tree ≡ w.tree
  pub clock : v.clock ≡ w.clock
  pub cpus : length v.cpus ≡ length w.cpus
  pub others : (e : ℕ) → e ≢ d → cpu_of v e ≡ cpu_of w e
  pub bases : (cpu_of v d).bases ≡ (cpu_of w d).bases
  pub outside : (cpu_of w d).inside ≡ false → (cpu_of v d).inside ≡ false
  pub active : is_active (cpu_of v d) ≡ true
  pub free : (cpu_of v d).walk ≡ None

-- what CPU c leaves that handed on to CPU d: d is active, and no timer, flag or CPU besides has
-- changed
pub record HandedOn (w : World) (c d : ℕ) (v : World) : Type 0 where
  pub tree : v.tree ≡ w.tree
  pub clock : v.clock ≡ w.clock
  pub online : (e : ℕ) → (cpu_of v e).online ≡ (cpu_of w e).online
  pub bases : (e : ℕ) → (cpu_of v e).bases ≡ (cpu_of w e).bases
  pub others : (e : ℕ) → e ≢ c → e ≢ d → cpu_of v e ≡ cpu_of w e
  pub active : is_active (cpu_of v d) ≡ true

-- CPU c waits to hand on to CPU `to`, and no other CPU has a walk
pub record Waits (w : World) (c to : ℕ) : Type 0 where
  pub low : c < length w.cpus
  pub waits : is_waiting w c ≡ true
  pub others : (d : ℕ) → d ≢ c → (cpu_of w d).walk ≡ None
  pub outside : (d : ℕ) → (cpu_of w d).inside ≡ false
  pub to_low : to < length w.cpus
  pub another : to ≢ c
  pub placed : is_placed_in w.tree to ≡ true
  pub online : (cpu_of w to).online ≡ true

-- the timers of a CPU that is offline may move to an active one
pub record MayMoveAll (w : World) (from to : ℕ) : Type 0 where
  pub settled : IsSettled w
  pub low : from < length w.cpus
  pub to_low : to < length w.cpus
  pub offline : (cpu_of w from).online ≡ false
  pub placed : is_placed_in w.tree to ≡ true
  pub active : is_active (cpu_of w to) ≡ true
  pub whole : AllWhole w
