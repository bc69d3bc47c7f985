-- one turn of a queue, and what a timer that went out, or none, says of it
use Rattle.std.specs.Prelude.{◌≡◌, ℕ, ◌+◌, ◌-◌, ◌<◌, ◌≤◌, min, max, None, Option, Some, List, []}
use Rattle.std.specs.Prelude.{◌∷◌}
use Rattle.timer_queue.specs.declared.key.Key.{Key}
use Rattle.timer_queue.specs.declared.queue.Turn.{Turn}
use Rattle.timer_queue.specs.declared.queue.Turn.TheVariants.{Out, Again, Nothing}
use Rattle.timer_queue.specs.declared.timer.Timer.{Timer}
use Rattle.timer_queue.specs.declared.timer.TheConstants.{LAST_TICK}
use Rattle.timer_queue.specs.Queues.{IsEntry, KeptBut, NoneDue, NoneLate, NoneSooner, Queue, count}
use Rattle.timer_queue.specs.Queues.{entry}

module _ {T : Type 0} where
  -- how far the moment of a slot's timer is behind a tick, and of all together
  abbrev pub weight : (now : ℕ) → Option (Timer T) → ℕ
  weight now None = 0
  weight now (Some timer) = now + 2 - timer.moment

  abbrev pub left : (now : ℕ) → List (Option (Timer T)) → ℕ
  left now [] = 0
  left now (slot ∷ slots) = weight now slot + left now slots

  -- what each turn keeps
  pub record IsTurn (now : ℕ) (old new : Queue T) : Type 0 where
    pub rises : old.clock ≤ new.clock
    pub near : new.clock ≤ max old.clock (now + 1)
    pub issued : new.issued ≡ old.issued
    pub room : new.room ≡ old.room

  -- no key stands for anything else
  pub record IsKept (old new : Queue T) : Type 0 where
    pub kept : (key : Key) → entry new key ≡ entry old key
    pub count : count new ≡ count old

  -- a timer went out
  pub record GoesOut (now : ℕ) (old new : Queue T) (key : Key)
      (expires : ℕ) (value : T) : Type 0 where
    pub turn : IsTurn now old new
    pub was : IsEntry old key expires value
    pub gone : entry new key ≡ None
    pub others : KeptBut key old new
    pub fewer : count new + 1 ≡ count old
    pub never_early : expires ≤ now
    pub order : NoneSooner expires new

  -- some timers may have been put in anew
  pub record GoesOn (now : ℕ) (old new : Queue T) : Type 0 where
    pub turn : IsTurn now old new
    pub same : IsKept old new

  -- a timer was put in anew, for a later moment
  pub record PutsAnew (now : ℕ) (old new : Queue T) : Type 0 where
    pub on : GoesOn now old new
    pub less : left now new.slots < left now old.slots

  -- nothing is due
  pub record Rests (now : ℕ) (old new : Queue T) : Type 0 where
    pub turn : IsTurn now old new
    pub same : IsKept old new
    pub none_late : NoneLate now new
    pub none_due : NoneDue now new
    pub reaches : min now LAST_TICK ≤ new.clock

  -- one turn, by what it gave
  abbrev pub IsTurned : (now : ℕ) → (old new : Queue T) → Turn T → Type 0
  IsTurned now old new (Out key expires value) = GoesOut now old new key expires value
  IsTurned now old new Again = PutsAnew now old new
  IsTurned now old new Nothing = Rests now old new
