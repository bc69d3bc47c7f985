-- what a walk tells fits the words that hold it
use Rattle.std.specs.Prelude.{◌^◌, ◌<◌, Option, Some, None}
use Rattle.event_queue.specs.declared.event.Event.{Event}
use Rattle.event_queue.specs.EventMap.{FitsWord}
use Rattle.walk_rules.specs.declared.walk.Walk.{Walk}

-- what a walk writes into a slot fits there
abbrev pub EventFits : Option Event → Type 0
EventFits None = Unit {0}
EventFits (Some e) = FitsWord e

-- a walk's time to tell has 48 bits, and a word can hold its best event
pub record WalkRanges (k : Walk) : Type 0 where
  pub next : k.next < 2 ^ 48
  pub best : EventFits k.best

-- a walk is in range, where there is one
abbrev pub IsInRange : Option Walk → Type 0
IsInRange None = Unit {0}
IsInRange (Some k) = WalkRanges k
