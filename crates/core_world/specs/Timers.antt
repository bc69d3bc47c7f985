-- timers, journals and times: part 10 of the invariant, Times and NoNever
use Rattle.std.specs.Prelude.{◌≡◌, ◌≢◌, ℕ, ◌-◌, ◌^◌, ◌<◌, ◌≤◌, Some, All}
use Rattle.tm_base.specs.declared.names.TheConstants.{NEVER, TIME_LIMIT}
use Rattle.tm_base.specs.declared.names.Class.{Class}
use Rattle.walk_rules.specs.event_queue.declared.event.Event.{Event}
use Rattle.walk_rules.specs.event_queue.EventMap.{event_at}
use Rattle.cpu_bases.specs.CpuBases.{IsConsistent, base_of, class_in}
use Rattle.cpu_bases.specs.Journals.{LegalUpTo}
use Rattle.walk_rules.specs.declared.walk.Walk.{Walk}
use Rattle.core_world.specs.World.{World, cpu_of, group_of}

-- PART 10: each timer is queued at most once over all bases; each journal is legal, with no time
-- past the clock; each base agrees with its journal, and what it holds is in range
pub record TimersHold (w : World) : Type 0 where
  pub one_cpu : (c d timer : ℕ) (class other : Class) →
      class_in timer (cpu_of w c).bases ≡ Some class →
      class_in timer (cpu_of w d).bases ≡ Some other →
      c ≡ d
  pub legal : (c : ℕ) → LegalUpTo c w.clock (cpu_of w c).bases.journal
  pub consistent : (c : ℕ) → IsConsistent (cpu_of w c).bases

-- TIMES
pub record TimesHold (w : World) : Type 0 where
  pub clock : w.clock < TIME_LIMIT - 2
  -- a base takes no timer of a higher number
  pub few : w.timers ≤ 2 ^ 16
  pub known : (c : ℕ) (class : Class) →
      All (λ item. item.id < w.timers) (base_of class (cpu_of w c).bases).items

-- NONEVER: an event that doesn't come isn't kept as one
pub record NoNever (w : World) : Type 0 where
  pub slots : (g k : ℕ) (e : Event) → event_at (group_of w g).events k ≡ Some e → e.expiry ≢ NEVER
  pub bests : (c : ℕ) (k : Walk) (e : Event) → (cpu_of w c).walk ≡ Some k → k.best ≡ Some e →
      e.expiry ≢ NEVER
