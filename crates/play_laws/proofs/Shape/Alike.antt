-- for crates above: rules under which plays are alike, one seen through a function of the state
use Rattle.std.proofs.Common.{◌≡◌, ℕ, suc, ◌+◌, ◌<◌, ◌++◌, true, false, Some, None, ap, ◌∙◌}
use Rattle.std.specs.Prelude.{◌^◌, nat_le}
use Rattle.std.specs.Ordering.{nat_cmp}
use Rattle.std.specs.FinSet as set
use Rattle.tm_base.specs.declared.names.Class.TheVariants.{Global}
use Rattle.play_rules.specs.declared.asks.Arming.{Arming}
use Rattle.play_rules.specs.declared.asks.Cancelling.{Cancelling}
use Rattle.play_rules.specs.declared.asks.Queued.{Queued}
use Rattle.play_rules.specs.Parts.{Played, and_then}
use Rattle.play_rules.specs.Rules.{Drained, Moved, Placed, Rules}
use Rattle.play_rules.specs.Operations.{last_online}
use Rattle.play_laws.proofs.Shape.Shape.{Stage, begun, between, looking, looked, moving, nth_class, own, running, taking}
use Rattle.play_laws.proofs.Shape.Shape.{leaving}

module _ {S T : Type 0} (f : S → T) where
  -- what is seen of a part of a play, of a drain, an arming and a move
  abbrev pub seen : Played S → Played T
  seen p = record { lines = p.lines; work = p.work; state = f p.state }

  abbrev pub drained_seen : Drained S → Drained T
  drained_seen d = record { items = d.items; state = f d.state }

  abbrev pub placed_seen : Placed S → Placed T
  placed_seen p = record { wheel = p.wheel; state = f p.state }

  abbrev pub moved_seen : Moved S → Moved T
  moved_seen m = record { mover = m.mover; state = f m.state }

  -- one part after the other
  pub and_seen : (p : Played S) (g : S → Played S) (h : T → Played T) → seen (g p.state) ≡ h (f p.state)
      → seen (and_then p g) ≡ and_then (seen p) h
  and_seen p g h e = λ i. record {
    lines = p.lines ++ (e i).lines;
    work = p.work + (e i).work;
    state = (e i).state;
  }

  pub then_seen : (p : Played S) (p' : Played T) (g : S → Played S) (h : T → Played T) → seen p ≡ p'
      → seen (g p.state) ≡ h (f p.state) → seen (and_then p g) ≡ and_then p' h
  then_seen p p' g h e more = and_seen p g h more ∙ ap (λ x. and_then x h) e

-- EACH RULE of r, where the shape of a play asks it, is the rule of q on what q sees
pub record Alike {S T : Type 0} (r : Rules S) (q : Rules T) (f : S → T) (cpus timers levels end : ℕ)
    (Fits : Arming → Type 0) (P : (now : ℕ) → Stage → S → Type 0) : Type 0 where
  -- WHAT IS READ
  pub clock : (s : S) → q.clock (f s) ≡ r.clock s
  pub timers_are : (s : S) → q.timers (f s) ≡ r.timers s
  pub cpus_are : (s : S) → q.cpus (f s) ≡ r.cpus s
  pub levels_are : (s : S) → q.levels (f s) ≡ r.levels s
  pub is_placed : (s : S) (c : ℕ) → q.is_placed (f s) c ≡ r.is_placed s c
  pub queued : (s : S) (timer : ℕ) → q.queued (f s) timer ≡ r.queued s timer
  pub has_interrupt : (s : S) (c : ℕ) → q.has_interrupt (f s) c ≡ r.has_interrupt s c
  pub next_interrupt : (s : S) → q.next_interrupt (f s) ≡ r.next_interrupt s
  pub looks_after : (s : S) (c level : ℕ) → q.looks_after (f s) c level ≡ r.looks_after s c level
  pub first_event : (s : S) (c : ℕ) → q.first_event (f s) c ≡ r.first_event s c
  pub successor : (s : S) (c : ℕ) → q.successor (f s) c ≡ r.successor s c
  pub count_queued : (s : S) (c : ℕ) → q.count_queued (f s) c ≡ r.count_queued s c
  pub controller : (s : S) → q.controller (f s) ≡ r.controller s
  pub is_online : (now : ℕ) (st : Stage) (s : S) (c : ℕ) → c < cpus → P now st s →
      q.is_online (f s) c ≡ r.is_online s c
  pub is_idle : (now : ℕ) (st : Stage) (s : S) (c : ℕ) → c < cpus → P now st s →
      q.is_idle (f s) c ≡ r.is_idle s c
  pub wakeup : (now : ℕ) (st : Stage) (s : S) (c : ℕ) → c < cpus → P now st s →
      q.wakeup (f s) c ≡ r.wakeup s c
  pub cover : (now : ℕ) (s : S) (c : ℕ) → c < cpus → P now between s → q.cover (f s) c ≡ r.cover s c
  pub hands_on : (now c : ℕ) (s : S) → c < cpus → P now (leaving c) s → q.hands_on (f s) c ≡ r.hands_on s c
  pub named : (now : ℕ) (due : set.FinSet nat_cmp) (c level n : ℕ) (tried : set.FinSet nat_cmp) (s : S) → c < cpus →
      P now (looking due c level (suc n) tried) s → q.named (f s) c level tried ≡ r.named s c level tried
  pub takes : (now : ℕ) (due : set.FinSet nat_cmp) (c level n : ℕ) (tried : set.FinSet nat_cmp) (d : ℕ) (s : S) → c < cpus →
      r.named s c level tried ≡ Some d → P now (looking due c level (suc n) tried) s →
      q.takes (f s) c d ≡ r.takes s c d
  -- WHAT CHANGES
  pub at_clock : (next : ℕ) (s : S) → f (r.at_clock next s) ≡ q.at_clock next (f s)
  pub entered : (now : ℕ) (due : set.FinSet nat_cmp) (c : ℕ) (s : S) → c < cpus → set.contains due c ≡ true →
      P now (begun due c) s → f (r.entered s c) ≡ q.entered (f s) c
  pub drained : (now : ℕ) (due : set.FinSet nat_cmp) (c k : ℕ) (s : S) → c < cpus → k < 3 →
      P now (own due c k) s →
      drained_seen f (r.drained s c (nth_class k) c) ≡ q.drained (f s) c (nth_class k) c
  pub ran : (now : ℕ) (due : set.FinSet nat_cmp) (c k : ℕ) (s : S) (a : Arming) → c < cpus → k < 3 →
      Fits a → r.queued s a.timer.0 ≡ None → P now (own due c (k + 1)) s →
      placed_seen f (r.armed s c a) ≡ q.armed (f s) c a
  pub taken : (now : ℕ) (due : set.FinSet nat_cmp) (c level n : ℕ) (tried : set.FinSet nat_cmp) (d : ℕ) (s : S) →
      c < cpus → r.named s c level tried ≡ Some d → r.takes s c d ≡ true →
      P now (looking due c level (suc n) tried) s → f (r.taken s c d) ≡ q.taken (f s) c d
  pub drained_for : (now : ℕ) (due : set.FinSet nat_cmp) (c level n : ℕ) (tried : set.FinSet nat_cmp) (d : ℕ) (s : S) →
      c < cpus → P now (taking due c level n tried d) s →
      drained_seen f (r.drained s d Global c) ≡ q.drained (f s) d Global c
  pub ran_for : (now : ℕ) (due : set.FinSet nat_cmp) (c level n : ℕ) (tried : set.FinSet nat_cmp) (d : ℕ) (s : S)
      (a : Arming) → c < cpus → Fits a → r.queued s a.timer.0 ≡ None →
      P now (running due c level n tried d) s → placed_seen f (r.armed s c a) ≡ q.armed (f s) c a
  pub let_go : (now : ℕ) (due : set.FinSet nat_cmp) (c level n : ℕ) (tried : set.FinSet nat_cmp) (d : ℕ) (s : S) →
      c < cpus → P now (running due c level n tried d) s → f (r.let_go s c d) ≡ q.let_go (f s) c d
  pub ended : (now : ℕ) (due : set.FinSet nat_cmp) (c : ℕ) (s : S) → c < cpus → set.contains due c ≡ true →
      P now (looked due c) s → f (r.ended s c) ≡ q.ended (f s) c
  -- OPERATIONS
  pub armed : (now c : ℕ) (s : S) (a : Arming) → c < cpus → a.timer.0 < timers → a.delay < 2 ^ 32 → r.is_online s c ≡ true →
      r.is_idle s c ≡ false → r.queued s a.timer.0 ≡ None → P now between s →
      placed_seen f (r.armed s c a) ≡ q.armed (f s) c a
  pub cancelled : (now c : ℕ) (s : S) (held : Queued) (a : Cancelling) → c < cpus →
      (a.timer.0 < timers) × (a.by.0 < cpus) → r.is_online s c ≡ true → r.is_idle s c ≡ false → r.queued s a.timer.0 ≡ Some held → P now between s →
      f (r.cancelled s held.cpu.0 a) ≡ q.cancelled (f s) held.cpu.0 a
  pub idled : (now c : ℕ) (s : S) → c < cpus → r.is_online s c ≡ true → r.is_idle s c ≡ false →
      nat_le (r.first_event s c) (r.clock s + 1) ≡ false → P now between s → f (r.idled s c) ≡ q.idled (f s) c
  pub woken : (now c : ℕ) (s : S) → c < cpus → r.is_online s c ≡ true → r.is_idle s c ≡ true →
      P now between s → f (r.woken s c) ≡ q.woken (f s) c
  pub come_online : (now c : ℕ) (s : S) → c < cpus → r.is_online s c ≡ false → P now between s →
      f (r.come_online s c) ≡ q.come_online (f s) c
  pub gone_offline : (now c : ℕ) (s : S) → c < cpus → r.is_online s c ≡ true → r.is_idle s c ≡ false →
      last_online r s c ≡ None → P now between s → f (r.gone_offline s c) ≡ q.gone_offline (f s) c
  pub handed_on : (now c d : ℕ) (s : S) → c < cpus → r.hands_on s c ≡ true → r.successor s c ≡ Some d →
      P now (leaving c) s → f (r.handed_on s c d) ≡ q.handed_on (f s) c d
  -- MOVING
  pub controlling : (now from d : ℕ) (s : S) → from < cpus → r.is_online s from ≡ false → r.controller s ≡ Some d →
      P now between s → f (r.controlling s d) ≡ q.controlling (f s) d
  pub moved : (now from to n : ℕ) (s : S) (m : Moved S) → from < cpus → r.moved s from to ≡ Some m →
      P now (moving from to (suc n)) s → q.moved (f s) from to ≡ Some (moved_seen f m)
  pub moved_none : (now from to n : ℕ) (s : S) → from < cpus → r.moved s from to ≡ None →
      P now (moving from to (suc n)) s → q.moved (f s) from to ≡ None
