-- for crates above: what the rules have to keep, so that a fact holds all through a play under any
-- rules
use Rattle.std.specs.Prelude.{All, ◌^◌, ◌≡◌, ℕ, zero, suc, ◌+◌, ◌<◌, ◌≤◌, true, false, Some, None, max}
use Rattle.std.specs.Prelude.{nat_le}
use Rattle.std.specs.Ordering.{nat_cmp}
use Rattle.std.specs.FinSet as set
use Rattle.tm_base.specs.declared.names.Class.{Class}
use Rattle.tm_base.specs.declared.names.Class.TheVariants.{Pinned, Global, Deferrable}
use Rattle.play_rules.specs.declared.asks.Arming.{Arming}
use Rattle.play_rules.specs.declared.asks.Cancelling.{Cancelling}
use Rattle.play_rules.specs.declared.asks.Queued.{Queued}
use Rattle.play_rules.specs.Rules.{Moved, Rules}
use Rattle.wheel_core.specs.declared.item.Item.{Item}
use Rattle.play_rules.specs.Interrupts.{arming_again, having_interrupt}
use Rattle.play_rules.specs.Operations.{last_online}

-- where a moment stands
pub data Stage : Type 0 where
  -- no interrupt and no operation is under way, and none of the moment's interrupts is to come
  between : Stage
  -- of the CPUs that are due an interrupt those below c had theirs
  begun : (due : set.FinSet nat_cmp) (c : ℕ) → Stage
  -- CPU c is in its interrupt, and so many of its own bases were drained: pinned, global,
  -- deferrable
  own : (due : set.FinSet nat_cmp) (c bases : ℕ) → Stage
  -- it looked after its groups below a level
  climbed : (due : set.FinSet nat_cmp) (c level : ℕ) → Stage
  -- it looks after its group at a level, and may try n CPUs more there
  looking : (due : set.FinSet nat_cmp) (c level n : ℕ) (tried : set.FinSet nat_cmp) → Stage
  -- it has taken CPU d there, and may then try n more
  taking : (due : set.FinSet nat_cmp) (c level n : ℕ) (tried : set.FinSet nat_cmp) (d : ℕ) → Stage
  -- it has drained the global base of CPU d, and runs what it got
  running : (due : set.FinSet nat_cmp) (c level n : ℕ) (tried : set.FinSet nat_cmp) (d : ℕ) → Stage
  -- its look is over
  looked : (due : set.FinSet nat_cmp) (c : ℕ) → Stage
  -- CPU c went offline, and hasn't handed on its duty, if it has to
  leaving : (c : ℕ) → Stage
  -- at most n timers of an offline CPU are still to move to another one
  moving : (from to n : ℕ) → Stage

-- the bases in the order in which an interrupt drains them
abbrev pub nth_class : ℕ → Class
nth_class zero = Pinned
nth_class (suc zero) = Global
nth_class (suc (suc n)) = Deferrable

-- whatever an item's job asks, what is armed again fits
abbrev pub MayRunAgain : (Arming → Type 0) → Item → Type 0
MayRunAgain Fits item = (class : Class) (delay : ℕ) → Fits (arming_again item class delay)

-- each rule keeps what holds at its stage, where the shape of a play asks it. Play has so many
-- CPUs, timers and levels,
-- and goes to `end`
pub record KeptByRules {S : Type 0} (r : Rules S) (cpus timers levels end : ℕ)
    (Fits : Arming → Type 0) (P : (now : ℕ) → Stage → S → Type 0)
    : Type 0 where
  -- WHAT IS READ
  pub clock : (now : ℕ) (s : S) → P now between s → r.clock s ≡ now
  pub all_cpus : (now : ℕ) (due : set.FinSet nat_cmp) (s : S) → P now (begun due 0) s
      → r.cpus s ≡ cpus
  pub all_levels : (now : ℕ) (due : set.FinSet nat_cmp) (c : ℕ) (s : S) → c < cpus
      → P now (begun due c) s →
      r.levels s ≡ levels
  -- THE CLOCK comes to the next moment
  pub comes : (now next : ℕ) (s : S) → P now between s → now < next → next ≤ end →
      next ≤ max (r.clock s + 1) (r.next_interrupt s) →
      P next (begun (having_interrupt r (r.at_clock next s)) 0) (r.at_clock next s)
  -- INTERRUPTS
  pub passed : (now : ℕ) (due : set.FinSet nat_cmp) (c : ℕ) (s : S) → c < cpus
      → set.contains due c ≡ false →
      P now (begun due c) s → P now (begun due (c + 1)) s
  pub entered : (now : ℕ) (due : set.FinSet nat_cmp) (c : ℕ) (s : S) → c < cpus
      → set.contains due c ≡ true →
      P now (begun due c) s → P now (own due c 0) (r.entered s c)
  pub drained : (now : ℕ) (due : set.FinSet nat_cmp) (c k : ℕ) (s : S) → c < cpus → k < 3 →
      P now (own due c k) s → P now (own due c (k + 1)) (r.drained s c (nth_class k) c).state
  pub known : (now : ℕ) (due : set.FinSet nat_cmp) (c k : ℕ) (s : S) → c < cpus → k < 3 →
      P now (own due c k) s → All (MayRunAgain Fits) (r.drained s c (nth_class k) c).items
  pub ran : (now : ℕ) (due : set.FinSet nat_cmp) (c k : ℕ) (s : S) (a : Arming) → c < cpus → k < 3 →
      Fits a → r.queued s a.timer.0 ≡ None →
      P now (own due c (k + 1)) s → P now (own due c (k + 1)) (r.armed s c a).state
  pub drained_all : (now : ℕ) (due : set.FinSet nat_cmp) (c : ℕ) (s : S) → c < cpus →
      P now (own due c 3) s → P now (climbed due c 0) s
  -- a level of the look
  pub looks : (now : ℕ) (due : set.FinSet nat_cmp) (c level : ℕ) (s : S) → c < cpus
      → level < levels →
      r.looks_after s c level ≡ true →
      P now (climbed due c level) s → P now (looking due c level (r.cpus s) set.empty) s
  pub looks_not : (now : ℕ) (due : set.FinSet nat_cmp) (c level : ℕ) (s : S) → c < cpus
      → level < levels →
      r.looks_after s c level ≡ false →
      P now (climbed due c level) s → P now (looked due c) s
  pub top_looked : (now : ℕ) (due : set.FinSet nat_cmp) (c : ℕ) (s : S) → c < cpus →
      P now (climbed due c levels) s → P now (looked due c) s
  -- a turn at that level
  pub named_none : (now : ℕ) (due : set.FinSet nat_cmp) (c level n : ℕ) (tried : set.FinSet nat_cmp)
      (s : S) → c < cpus →
      r.named s c level tried ≡ None →
      P now (looking due c level (suc n) tried) s → P now (climbed due c (level + 1)) s
  pub none_left : (now : ℕ) (due : set.FinSet nat_cmp) (c level : ℕ) (tried : set.FinSet nat_cmp)
      (s : S) → c < cpus →
      P now (looking due c level 0 tried) s → P now (climbed due c (level + 1)) s
  pub left_alone : (now : ℕ) (due : set.FinSet nat_cmp) (c level n : ℕ) (tried : set.FinSet nat_cmp)
      (d : ℕ) (s : S) →
      c < cpus → r.named s c level tried ≡ Some d → r.takes s c d ≡ false →
      P now (looking due c level (suc n) tried) s
      → P now (looking due c level n (set.insert tried d)) s
  pub taken : (now : ℕ) (due : set.FinSet nat_cmp) (c level n : ℕ) (tried : set.FinSet nat_cmp)
      (d : ℕ) (s : S) →
      c < cpus → r.named s c level tried ≡ Some d → r.takes s c d ≡ true →
      P now (looking due c level (suc n) tried) s
      → P now (taking due c level n tried d) (r.taken s c d)
  pub drained_for : (now : ℕ) (due : set.FinSet nat_cmp) (c level n : ℕ)
      (tried : set.FinSet nat_cmp) (d : ℕ) (s : S) →
      c < cpus → P now (taking due c level n tried d) s →
      P now (running due c level n tried d) (r.drained s d Global c).state
  pub known_for : (now : ℕ) (due : set.FinSet nat_cmp) (c level n : ℕ)
      (tried : set.FinSet nat_cmp) (d : ℕ) (s : S) →
      c < cpus → P now (taking due c level n tried d) s →
      All (MayRunAgain Fits) (r.drained s d Global c).items
  pub ran_for : (now : ℕ) (due : set.FinSet nat_cmp) (c level n : ℕ) (tried : set.FinSet nat_cmp)
      (d : ℕ) (s : S)
      (a : Arming) → c < cpus → Fits a → r.queued s a.timer.0 ≡ None →
      P now (running due c level n tried d) s
      → P now (running due c level n tried d) (r.armed s c a).state
  pub let_go : (now : ℕ) (due : set.FinSet nat_cmp) (c level n : ℕ) (tried : set.FinSet nat_cmp)
      (d : ℕ) (s : S) →
      c < cpus → P now (running due c level n tried d) s →
      P now (looking due c level n (set.insert tried d)) (r.let_go s c d)
  -- the ends
  pub ended : (now : ℕ) (due : set.FinSet nat_cmp) (c : ℕ) (s : S) → c < cpus
      → set.contains due c ≡ true →
      P now (looked due c) s → P now (begun due (c + 1)) (r.ended s c)
  pub interrupted : (now : ℕ) (due : set.FinSet nat_cmp) (s : S) → P now (begun due cpus) s
      → P now between s
  -- OPERATIONS
  pub armed : (now c : ℕ) (s : S) (a : Arming) → c < cpus → a.timer.0 < timers → a.delay < 2 ^ 32
      → r.is_online s c ≡ true →
      r.is_idle s c ≡ false → r.queued s a.timer.0 ≡ None →
      P now between s → P now between (r.armed s c a).state
  pub cancelled : (now c : ℕ) (s : S) (held : Queued) (a : Cancelling) → c < cpus
      → (a.timer.0 < timers) × (a.by.0 < cpus) →
      r.is_online s c ≡ true → r.is_idle s c ≡ false → r.queued s a.timer.0 ≡ Some held →
      P now between s → P now between (r.cancelled s held.cpu.0 a)
  pub idled : (now c : ℕ) (s : S) → c < cpus → r.is_online s c ≡ true → r.is_idle s c ≡ false →
      nat_le (r.first_event s c) (r.clock s + 1) ≡ false →
      P now between s → P now between (r.idled s c)
  pub woken : (now c : ℕ) (s : S) → c < cpus → r.is_online s c ≡ true → r.is_idle s c ≡ true →
      P now between s → P now between (r.woken s c)
  pub come_online : (now c : ℕ) (s : S) → c < cpus → r.is_online s c ≡ false →
      P now between s → P now between (r.come_online s c)
  pub gone_offline : (now c : ℕ) (s : S) → c < cpus → r.is_online s c ≡ true
      → r.is_idle s c ≡ false →
      last_online r s c ≡ None →
      P now between s → P now (leaving c) (r.gone_offline s c)
  pub keeps_on : (now c : ℕ) (s : S) → c < cpus → r.hands_on s c ≡ false → P now (leaving c) s
      → P now between s
  pub no_successor : (now c : ℕ) (s : S) → c < cpus → r.hands_on s c ≡ true
      → r.successor s c ≡ None →
      P now (leaving c) s → P now between s
  pub handed_on : (now c d : ℕ) (s : S) → c < cpus → r.hands_on s c ≡ true
      → r.successor s c ≡ Some d →
      P now (leaving c) s → P now between (r.handed_on s c d)
  -- MOVING
  pub controlling : (now from d : ℕ) (s : S) → from < cpus → r.is_online s from ≡ false
      → r.controller s ≡ Some d →
      P now between s → P now (moving from d (r.count_queued (r.controlling s d) from))
      (r.controlling s d)
  pub moved : (now from to n : ℕ) (s : S) (m : Moved S) → from < cpus → r.moved s from to ≡ Some m →
      P now (moving from to (suc n)) s → P now (moving from to n) m.state
  pub moved_none : (now from to n : ℕ) (s : S) → from < cpus → r.moved s from to ≡ None →
      P now (moving from to (suc n)) s → P now between s
  pub all_moved : (now from to : ℕ) (s : S) → from < cpus → P now (moving from to 0) s
      → P now between s
