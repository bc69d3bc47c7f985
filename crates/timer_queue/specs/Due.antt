-- an iterator over what is due, as its callers see it
use Rattle.std.specs.Prelude.{◌≡◌, ℕ, List, MatchOption, Option}
use Rattle.std.specs.Borrow.{GName}
use Rattle.std.specs.Iterator.{Yields}
use Rattle.timer_queue.specs.declared.due.Due.{Due}
use Rattle.timer_queue.specs.declared.key.Key.{Key}
use Rattle.timer_queue.specs.Queues.{Queue}
use Rattle.timer_queue.specs.Turns.{GoesOut, Rests}

module _ {T : Type 0} where
  -- the queue as it stands, and the ghost name of the reference to it
  abbrev pub due_queue : Due T → Queue T
  due_queue due = due.queue.now

  abbrev pub due_lender : Due T → GName
  due_lender due = due.queue.ghost_name

  -- the tick at which it takes what is due
  abbrev pub due_tick : Due T → ℕ
  due_tick due = due.tick

  -- both take from one queue, at one tick
  abbrev pub DueKeeps : (old new : Due T) → Type 0
  DueKeeps old new = (due_lender new ≡ due_lender old) × (due_tick new ≡ due_tick old)

  -- one call: a timer went out of the queue, or nothing is due
  abbrev pub DueGives : (old : Due T) → Option (Key × ℕ × T) → (new : Due T) → Type 0
  DueGives old item new =
      MatchOption item (Rests (due_tick old) (due_queue old) (due_queue new))
      (λ out. GoesOut (due_tick old) (due_queue old) (due_queue new) out.0 out.1 out.2)

  abbrev pub DueSteps : (old : Due T) → Option (Key × ℕ × T) → (new : Due T) → Type 0
  DueSteps old item new = DueGives old item new × DueKeeps old new

  -- after any number of calls it takes from the queue and at the tick of the first
  abbrev pub DueKeepsAlong : Due T → Type 0
  DueKeepsAlong first = (items : List (Key × ℕ × T)) (later : Due T)
      → Yields DueSteps first items later → DueKeeps first later
