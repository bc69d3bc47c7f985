-- of some CPUs, the leftmost of those that told the least
use Rattle.std.specs.Prelude.{◌≡◌, ℕ, ◌<◌, ◌≤◌, Option, Some, None}
use Rattle.tm_base.specs.declared.names.TheConstants.{NEVER}
use Rattle.event_queue.specs.declared.event.Event.{Event}
use Rattle.event_queue.specs.EventMap.{Counts}

-- the event names one of the CPUs and what it told, none of them told less, and those that told as
-- much aren't to its left
pub record IsLeftmost (told : ℕ → ℕ) (Among : ℕ → Type 0) (e : Event) : Type 0 where
  pub among : Among e.cpu.0
  pub expiry : e.expiry ≡ told e.cpu.0
  pub comes : e.expiry < NEVER
  pub counts : Counts e
  pub least : (d : ℕ) → Among d → e.expiry ≤ told d
  pub leftmost : (d : ℕ) → Among d → told d ≡ e.expiry → e.cpu.0 ≤ d

-- that event, and None where none of the CPUs told anything
abbrev pub Leftmost : (told : ℕ → ℕ) → (Among : ℕ → Type 0) → Option Event → Type 0
Leftmost told Among None = (d : ℕ) → Among d → told d ≡ NEVER
Leftmost told Among (Some e) = IsLeftmost told Among e
