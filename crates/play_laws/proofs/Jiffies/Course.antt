-- what a fact has to keep, so that it holds all through a play of a script of the grammar
use Rattle.std.specs.Prelude.{◌≡◌, ℕ, suc, ◌+◌, ◌^◌, ◌<◌, All, true, false, Some, None}
use Rattle.std.specs.Ordering.{nat_cmp}
use Rattle.std.specs.FinSet as set
use Rattle.tm_base.specs.declared.names.Class.TheVariants.{Global}
use Rattle.wheel_core.specs.declared.item.Item.{Item}
use Rattle.play_rules.specs.declared.asks.Arming.{Arming}
use Rattle.play_rules.specs.declared.asks.Cancelling.{Cancelling}
use Rattle.play_rules.specs.declared.asks.Queued.{Queued}
use Rattle.play_rules.specs.Rules.{Moved}
use Rattle.play_rules.specs.State.{State, cpu_at, cpu_count}
use Rattle.play_rules.specs.Hierarchy.{come_online, gone_offline, idled, looks_after, named}
use Rattle.play_rules.specs.Hierarchy.{told_again, woken as made_awake}
use Rattle.play_rules.specs.Timers.{armed_on, cancelled_on, controller, controlling, count_on}
use Rattle.play_rules.specs.Timers.{drained_on, moved_first, where_queued}
use Rattle.play_rules.specs.Operations.{last_online}
use Rattle.play_rules.specs.Play.{ended as interrupt_ended, hands_on, plain_rules, successor}
use Rattle.play_laws.proofs.Shape.Shape.{Stage, begun, between, climbed, leaving, looked, looking}
use Rattle.play_laws.proofs.Shape.Shape.{moving}
use Rattle.play_laws.proofs.Shape.Shape.{nth_class, own, running, taking}

-- an item's number is in range
abbrev pub IsItemIn : Item → Type 0
IsItemIn item = item.id < 2 ^ 16

-- and so are an arming's number and delay
pub record IsArmingIn (a : Arming) : Type 0 where
  pub timer : a.timer.0 < 2 ^ 16
  pub delay : a.delay < 2 ^ 32

-- each rule of the plain machine keeps what holds at its stage, where a play asks it. A CPU that
-- goes offline is `leaving` until its timers have moved
pub record KeepsCourse (cpus levels : ℕ) (P : (now : ℕ) → Stage → State → Type 0) : Type 0 where
  -- WHAT IS READ
  pub clock : (now : ℕ) (s : State) → P now between s → s.clock ≡ now
  pub all_cpus : (now : ℕ) (due : set.FinSet nat_cmp) (s : State) → P now (begun due 0) s
      → cpu_count s ≡ cpus
  pub all_levels : (now : ℕ) (due : set.FinSet nat_cmp) (c : ℕ) (s : State) → c < cpus
      → P now (begun due c) s →
      plain_rules.levels s ≡ levels
  -- INTERRUPTS
  pub passed : (now : ℕ) (due : set.FinSet nat_cmp) (c : ℕ) (s : State) → c < cpus
      → set.contains due c ≡ false →
      P now (begun due c) s → P now (begun due (c + 1)) s
  pub entered : (now : ℕ) (due : set.FinSet nat_cmp) (c : ℕ) (s : State) → c < cpus
      → set.contains due c ≡ true →
      P now (begun due c) s → P now (own due c 0) s
  pub drained : (now : ℕ) (due : set.FinSet nat_cmp) (c k : ℕ) (s : State) → c < cpus → k < 3 →
      P now (own due c k) s → P now (own due c (k + 1)) (drained_on s c (nth_class k) c).state
  pub out : (now : ℕ) (due : set.FinSet nat_cmp) (c k : ℕ) (s : State) → c < cpus → k < 3 →
      P now (own due c k) s → All IsItemIn (drained_on s c (nth_class k) c).items
  pub ran : (now : ℕ) (due : set.FinSet nat_cmp) (c k : ℕ) (s : State) (a : Arming) → c < cpus
      → k < 3 →
      IsArmingIn a → where_queued s a.timer.0 ≡ None →
      P now (own due c (k + 1)) s → P now (own due c (k + 1)) (armed_on s c a).state
  pub drained_all : (now : ℕ) (due : set.FinSet nat_cmp) (c : ℕ) (s : State) → c < cpus →
      P now (own due c 3) s → P now (climbed due c 0) s
  -- a level of the look
  pub looks : (now : ℕ) (due : set.FinSet nat_cmp) (c level : ℕ) (s : State) → c < cpus
      → level < levels →
      looks_after s c level ≡ true →
      P now (climbed due c level) s → P now (looking due c level (cpu_count s) set.empty) s
  pub looks_not : (now : ℕ) (due : set.FinSet nat_cmp) (c level : ℕ) (s : State) → c < cpus
      → level < levels →
      looks_after s c level ≡ false →
      P now (climbed due c level) s → P now (looked due c) s
  pub top_looked : (now : ℕ) (due : set.FinSet nat_cmp) (c : ℕ) (s : State) → c < cpus →
      P now (climbed due c levels) s → P now (looked due c) s
  -- a turn at that level
  pub named_none : (now : ℕ) (due : set.FinSet nat_cmp) (c level n : ℕ) (tried : set.FinSet nat_cmp)
      (s : State) →
      c < cpus → named s c level ≡ None →
      P now (looking due c level (suc n) tried) s → P now (climbed due c (level + 1)) s
  pub none_left : (now : ℕ) (due : set.FinSet nat_cmp) (c level : ℕ) (tried : set.FinSet nat_cmp)
      (s : State) →
      c < cpus → P now (looking due c level 0 tried) s → P now (climbed due c (level + 1)) s
  pub taken : (now : ℕ) (due : set.FinSet nat_cmp) (c level n : ℕ) (tried : set.FinSet nat_cmp)
      (d : ℕ) (s : State) →
      c < cpus → named s c level ≡ Some d →
      P now (looking due c level (suc n) tried) s → P now (taking due c level n tried d) s
  pub drained_for : (now : ℕ) (due : set.FinSet nat_cmp) (c level n : ℕ)
      (tried : set.FinSet nat_cmp) (d : ℕ)
      (s : State) → c < cpus → P now (taking due c level n tried d) s →
      P now (running due c level n tried d) (drained_on s d Global c).state
  pub out_for : (now : ℕ) (due : set.FinSet nat_cmp) (c level n : ℕ) (tried : set.FinSet nat_cmp)
      (d : ℕ)
      (s : State) → c < cpus → P now (taking due c level n tried d) s
      → All IsItemIn (drained_on s d Global c).items
  pub ran_for : (now : ℕ) (due : set.FinSet nat_cmp) (c level n : ℕ) (tried : set.FinSet nat_cmp)
      (d : ℕ) (s : State)
      (a : Arming) → c < cpus → IsArmingIn a → where_queued s a.timer.0 ≡ None →
      P now (running due c level n tried d) s
      → P now (running due c level n tried d) (armed_on s c a).state
  pub let_go : (now : ℕ) (due : set.FinSet nat_cmp) (c level n : ℕ) (tried : set.FinSet nat_cmp)
      (d : ℕ) (s : State) →
      c < cpus → P now (running due c level n tried d) s →
      P now (looking due c level n (set.insert tried d)) (told_again s d)
  -- the ends
  pub ended : (now : ℕ) (due : set.FinSet nat_cmp) (c : ℕ) (s : State) → c < cpus
      → set.contains due c ≡ true →
      P now (looked due c) s → P now (begun due (c + 1)) (interrupt_ended s c)
  pub interrupted : (now : ℕ) (due : set.FinSet nat_cmp) (s : State) → P now (begun due cpus) s
      → P now between s
  -- OPERATIONS
  pub armed : (now c : ℕ) (s : State) (a : Arming) → c < cpus → IsArmingIn a
      → (cpu_at s c).online ≡ true →
      (cpu_at s c).idle ≡ false → where_queued s a.timer.0 ≡ None →
      P now between s → P now between (armed_on s c a).state
  pub cancelled : (now : ℕ) (s : State) (held : Queued) (a : Cancelling)
      → where_queued s a.timer.0 ≡ Some held →
      P now between s → P now between (cancelled_on s held.cpu.0 a)
  pub idled : (now c : ℕ) (s : State) → c < cpus → (cpu_at s c).online ≡ true
      → (cpu_at s c).idle ≡ false →
      P now between s → P now between (idled s c)
  pub woken : (now c : ℕ) (s : State) → c < cpus → (cpu_at s c).online ≡ true
      → (cpu_at s c).idle ≡ true →
      P now between s → P now between (made_awake s c)
  pub come_online : (now c : ℕ) (s : State) → c < cpus → (cpu_at s c).online ≡ false →
      P now between s → P now between (come_online s c)
  pub gone_offline : (now c : ℕ) (s : State) → c < cpus → (cpu_at s c).online ≡ true
      → (cpu_at s c).idle ≡ false →
      last_online plain_rules s c ≡ None →
      P now between s → P now (leaving c) (gone_offline s c)
  pub handed_on : (now c d : ℕ) (s : State) → c < cpus → hands_on s c ≡ true
      → successor s c ≡ Some d →
      P now (leaving c) s → P now (leaving c) (made_awake s d)
  -- MOVING
  pub none_queued : (now c : ℕ) (s : State) → c < cpus → count_on s c ≡ 0 → P now (leaving c) s
      → P now between s
  pub no_controller : (now c : ℕ) (s : State) → c < cpus → controller s ≡ None → P now (leaving c) s
      → P now between s
  pub controlling : (now from d : ℕ) (s : State) → from < cpus → controller s ≡ Some d →
      P now (leaving from) s
      → P now (moving from d (count_on (controlling s d) from)) (controlling s d)
  pub moved : (now from to n : ℕ) (s : State) (m : Moved State) → from < cpus
      → moved_first s from to ≡ Some m →
      P now (moving from to (suc n)) s → P now (moving from to n) m.state
  pub moved_none : (now from to n : ℕ) (s : State) → from < cpus → moved_first s from to ≡ None →
      P now (moving from to (suc n)) s → P now between s
  pub all_moved : (now from to : ℕ) (s : State) → from < cpus → P now (moving from to 0) s
      → P now between s
  -- a CPU that is online stays as it is; the last operation was another one, or was refused
  pub still_online : (now c : ℕ) (s : State) → (cpu_at s c).online ≡ true → P now (leaving c) s
      → P now between s
  -- and one that already was offline
  pub was_offline : (now c : ℕ) (s : State) → c < cpus → (cpu_at s c).online ≡ false
      → P now between s → P now (leaving c) s
