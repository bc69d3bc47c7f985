-- the shape of a play, over any rules: its moments, and what is told at the end
use Rattle.std.specs.Prelude.{ℕ, zero, suc, ◌+◌, All, Bool, true, false, List, [], ◌∷◌, ◌++◌}
use Rattle.std.specs.Prelude.{Option, Some, None, ◌==◌, if◌then◌else◌, max, min, nat_le}
use Rattle.std.specs.List.{flat_map}
use Rattle.std.specs.Ordering.{nat_cmp}
use Rattle.std.specs.FinSet.{FinSet}
use Rattle.tm_script.specs.declared.syntax.Moment.{Moment}
use Rattle.tm_report.specs.declared.lines.Line.{Line}
use Rattle.tm_report.specs.declared.lines.Line.TheVariants as lines
use Rattle.play_rules.specs.declared.asks.Queued.{Queued}
use Rattle.play_rules.specs.Rules.{Rules}
use Rattle.play_rules.specs.Parts.{Played, silent, counting, and_then}
use Rattle.play_rules.specs.Interrupts.{Replies, timer_id, having_interrupt, interrupts}
use Rattle.play_rules.specs.Operations.{operations, leaver, clear_after, covers}

-- a moment that was played, and its time
pub record Turn (S : Type 0) : Type 0 where
  pub at : ℕ
  pub played : Played S

-- the script's moment of the time now, where the first of these is the next one
abbrev pub moment_at : (now : ℕ) → List Moment → Option Moment
moment_at now [] = None
moment_at now (m ∷ ms) = if m.at == now then Some m else None

-- the moments that are still to come after it
abbrev pub moments_after : (now : ℕ) → List Moment → List Moment
moments_after now [] = []
moments_after now (m ∷ ms) = if m.at == now then ms else m ∷ ms

-- the time of the script's next moment, or its end
abbrev pub next_said : List Moment → (end : ℕ) → ℕ
next_said [] end = end
next_said (m ∷ ms) end = m.at

module _ {S : Type 0} (r : Rules S) where
  -- what the script has for a moment: its operations in line order, the timers of a CPU that went
  -- offline, the covers
  abbrev pub scripted : Option Moment → S → Played S
  scripted None s = silent s
  scripted (Some m) s =
      and_then (and_then (operations r m.ops s) (clear_after r (leaver m.ops))) (covers r)

  -- THE NEXT MOMENT: the next interrupt, the script's next moment or the end, whatever comes first,
  -- but not this jiffy
  abbrev pub next_moment : (end : ℕ) → List Moment → S → ℕ
  next_moment end ms s = max (r.clock s + 1) (min (r.next_interrupt s) (next_said ms end))

-- a moment, and those behind it unless it is the last
module _ {S : Type 0} where
  -- the moments from this one on, where it is the last or others come
  abbrev pub turn_then : (is_last : Bool) → (S → List (Turn S)) → Turn S → List (Turn S)
  turn_then true rest t = t ∷ []
  turn_then false rest t = t ∷ rest t.played.state

module _ {S : Type 0} (jobs : Replies) (r : Rules S) where
  -- A MOMENT: the interrupts of the CPUs that are due one, by ascending number, and what the script
  -- has for it
  abbrev pub moment : (due : FinSet nat_cmp) → Option Moment → S → Played S
  moment due m s =
      and_then (and_then (counting s) (interrupts jobs r (r.cpus s) 0 due)) (scripted r m)

  -- the moment of the time now
  abbrev pub moment_now : List Moment → (now : ℕ) → S → Played S
  moment_now ms now s = moment (having_interrupt r s) (moment_at now ms) s

  -- the moment that is played at the time now
  abbrev pub turn : List Moment → (now : ℕ) → S → Turn S
  turn ms now s = record { at = now; played = moment_now ms now (r.at_clock now s) }

  -- THE MOMENTS of a play from the time now to the end, n of them at most; `ms` are the script's,
  -- from now on
  unfoldable pub turns : (n end now : ℕ) → List Moment → S → List (Turn S)
  turns zero end now ms s = []
  turns (suc n) end now ms s =
      turn_then (now == end)
      (λ t. turns n end (next_moment r end (moments_after now ms) t) (moments_after now ms) t)
      (turn ms now s)

-- what is read off a list of moments: the lines, the state after the last, a fact after each
abbrev pub turn_lines : {S : Type 0} → List (Turn S) → List Line
turn_lines ts = flat_map (λ t. t.played.lines) ts

-- the state that the last of these moments leaves
abbrev pub last_state : {S : Type 0} → S → List (Turn S) → S
last_state s [] = s
last_state s (t ∷ ts) = last_state t.played.state ts

-- a fact holds after each of these moments
abbrev pub AfterEach : {S : Type 0} → (S → Type 0) → List (Turn S) → Type 0
AfterEach P ts = All (λ t. P t.played.state) ts

-- the first count of work that has reached a limit after a moment that isn't the last
abbrev pub spent_at : {S : Type 0} → (limit work : ℕ) → List (Turn S) → Option ℕ
spent_at limit work [] = None
spent_at limit work (t ∷ []) = None
spent_at limit work (t ∷ u ∷ ts) =
    if nat_le limit (work + t.played.work) then Some (work + t.played.work)
    else spent_at limit (work + t.played.work) (u ∷ ts)

-- the moments that are finished by then
abbrev pub finished : {S : Type 0} → (limit work : ℕ) → List (Turn S) → List (Turn S)
finished limit work [] = []
finished limit work (t ∷ ts) =
    if nat_le limit (work + t.played.work) then t ∷ []
    else t ∷ finished limit (work + t.played.work) ts

-- THE END: each timer that is still queued, of n timers from number t on
abbrev pub left_or : (t : ℕ) → Option Queued → List Line → List Line
left_or t None others = others
left_or t (Some held) others = lines.Left (timer_id t) held.cpu held.class held.wheel ∷ others

module _ {S : Type 0} (r : Rules S) where
  -- the lines of the timers that are still queued, of n timers from number t on
  unfoldable pub left : (n t : ℕ) → S → List Line
  left zero t s = []
  left (suc n) t s = left_or t (r.queued s t) (left n (t + 1) s)

  -- the last lines of a report: the timers that are still queued, and the end
  abbrev pub closing : (end : ℕ) → S → List Line
  closing end s = left (r.timers s) 0 s ++ lines.End end ∷ []

  -- the lines of a whole play
  abbrev pub whole_lines : (end : ℕ) → S → List (Turn S) → List Line
  whole_lines end start ts = turn_lines ts ++ closing end (last_state start ts)
