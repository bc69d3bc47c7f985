-- the queue of a group: a finite map from child, 0 to 7, to event, seen as the list of its eight
-- slots
use Rattle.std.specs.Prelude.{◌≡◌, ◌≢◌, ℕ, ◌^◌, ◌<◌, ◌≤◌, true, false, Option, Some, None, List}
use Rattle.std.specs.Prelude.{length, slice_index_or}
use Rattle.std.specs.Option.{option_map}
use Rattle.tm_base.specs.CpuSet.{Cpus, Contains}
use Rattle.event_queue.specs.declared.event.Event.{Event}

-- the slot of each child (the kernel's timerqueue of a struct tmigr_group)
abbrev pub EventMap : Type 0
EventMap = List (Option Event)

-- the event of child k, where there is one
abbrev pub event_at : EventMap → ℕ → Option Event
event_at events k = slice_index_or events k None

-- an event that a word can hold
pub record FitsWord (e : Event) : Type 0 where
  pub expiry : e.expiry < 2 ^ 48
  pub cpu : e.cpu.0 < 1024

-- there are eight slots, and a word can hold each event
pub record IsEventMap (events : EventMap) : Type 0 where
  pub eight : length events ≡ 8
  pub fits : (k : ℕ) (e : Event) → event_at events k ≡ Some e → FitsWord e

-- no child has an event
abbrev pub NoEvents : EventMap → Type 0
NoEvents events = (k : ℕ) → event_at events k ≡ None

-- the slot of child k has become this one, and each other slot is as it was
pub record ChangesOnly (old new : EventMap) (k : ℕ) (slot : Option Event) : Type 0 where
  pub changed : event_at new k ≡ slot
  pub others : (j : ℕ) → j ≢ k → event_at new j ≡ event_at old j

-- the event, marked as ignored (struct tmigr_event: ignore)
abbrev pub as_ignored : Event → Event
as_ignored e = record e { ignored = true }

-- the slot of child k, with the event marked as ignored where there is one
abbrev pub marked_slot : EventMap → ℕ → Option Event
marked_slot events k = option_map as_ignored (event_at events k)

-- an event that isn't ignored
abbrev pub Counts : Event → Type 0
Counts e = e.ignored ≡ false

-- an event that a look at this time takes up: it isn't ignored and not later, and its CPU wasn't
-- tried yet (tmigr_next_expired_groupevt)
pub record IsTakenUp (time : ℕ) (tried : Cpus) (e : Event) : Type 0 where
  pub counts : Counts e
  pub come : e.expiry ≤ time
  pub untried : Contains tried e.cpu.0 → ⊥

-- event e of child k goes before event f of child j: it isn't later, and where both have one expiry
-- k isn't above j
pub record Precedes (k : ℕ) (e : Event) (j : ℕ) (f : Event) : Type 0 where
  pub expiry : e.expiry ≤ f.expiry
  pub child : e.expiry ≡ f.expiry → k ≤ j

-- e, of child k, is one of the events that fit, and goes before each of them (tmigr_next_groupevt)
pub record IsFirst (Fits : Event → Type 0) (events : EventMap) (k : ℕ) (e : Event) : Type 0 where
  pub there : event_at events k ≡ Some e
  pub fits : Fits e
  pub first : (j : ℕ) (f : Event) → event_at events j ≡ Some f → Fits f → Precedes k e j f

-- no event fits
abbrev pub NoneFits : (Event → Type 0) → EventMap → Type 0
NoneFits Fits events = (k : ℕ) (e : Event) → event_at events k ≡ Some e → Fits e → ⊥
