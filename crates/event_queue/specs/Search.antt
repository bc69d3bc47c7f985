-- the search for the first event that fits, slot by slot (no public clause cites it)
use Rattle.std.specs.Prelude.{◌≡◌, ℕ, Option, Some, None, nat_lt, if◌then◌else◌}
use Rattle.event_queue.specs.declared.event.Event.{Event}

-- the event of a slot where it fits, and else none
abbrev pub Picks : (Event → Type 0) → Option Event → Option Event → Type 0
Picks Fits slot None = (e : Event) → slot ≡ Some e → Fits e → ⊥
Picks Fits slot (Some e) = (slot ≡ Some e) × Fits e

-- the first so far, after a look at the event that was picked from the slot of child k
abbrev pub earlier_of : Option (ℕ × Event) → ℕ → Option Event → Option (ℕ × Event)
earlier_of best k None = best
earlier_of None k (Some e) = Some (k, e)
earlier_of (Some f) k (Some e) = if nat_lt e.expiry f.1.expiry then Some (k, e) else Some f
