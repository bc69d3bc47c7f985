-- the clock comes to the next moment: no timer that wakes an online CPU was passed
use Rattle.std.proofs.Common.{◌≡◌, ℕ, ◌+◌, ◌<◌, ◌≤◌, Bool, true, false, refl, ap, subst, arith, inl}
use Rattle.std.proofs.Common.{inr, max}
use Rattle.std.specs.Prelude.{◌||◌, if◌then◌else◌, nat_le, not}
use Rattle.std.specs.List.{list_any}
use Rattle.std.specs.Ordering.{nat_cmp}
use Rattle.std.specs.FinSet as set
use Rattle.std.proofs.lemmas.Bool.{and_from, both_ways, cases_Bool, cases_lt, false_from_ne_true}
use Rattle.std.proofs.lemmas.Bool.{le-leb, or_left, or_right}
use Rattle.tm_base.specs.declared.names.TheConstants.{NEVER}
use Rattle.tm_base.specs.declared.limits.TheConstants.{SCRIPT_TIME_LIMIT}
use Rattle.tree_plan.specs.Paths.{level_count_of}
use Rattle.tree_plan.proofs.Below.{placed_laws}
use Rattle.cpu_bases.proofs.Legal.{legal_later}
use Rattle.play_rules.specs.State.{State, all_cpus, cpu_at, cpu_count, is_active}
use Rattle.play_rules.specs.Timers.{bases_at}
use Rattle.play_rules.specs.Interrupts.{having_interrupt}
use Rattle.play_rules.specs.Play.{at_clock, has_interrupt, next_interrupt, plain_rules}
use Rattle.play_laws.proofs.Answered.Invariant.{NonePlacedActive, rests}
use Rattle.play_laws.proofs.Answered.Ranges.{any_here, in_range, least_below, least_of}
use Rattle.play_laws.proofs.Answered.Settles.{due_online, later_kept}
use Rattle.play_laws.proofs.Answered.States.{IsKept, Nobody}
use Rattle.play_laws.specs.Jiffies.Jiffies.{OfWaking}
use Rattle.play_laws.proofs.Jiffies.CpuKept.{IsCpu}
use Rattle.play_laws.proofs.Jiffies.Covering.{found, is_due}
use Rattle.play_laws.proofs.Jiffies.Inside.{Awaits, Covers, InTurn, IsEmpty, SomeOnline, frame_itself}
use Rattle.play_laws.proofs.Jiffies.InterruptSteps.{Begun, Between, HadBefore, SeenBefore}
use Rattle.play_laws.proofs.Jiffies.Waking.{Waking}

-- NO TIMER IS PASSED: the next interrupt comes no later than each that wakes an online CPU
module _ (cpus levels now : ℕ) (s : State) (quiet : Between cpus levels now s)
    (kept : IsKept Nobody (Unit {0}) s) where
  abbrev wakeups : ℕ
  wakeups = least_of (λ c. (cpu_at s c).wakeup) NEVER (all_cpus s)

  none_active : list_any (is_active s) (all_cpus s) ≡ false → (d : ℕ) → d < cpu_count s
      → is_active s d ≡ false
  none_active none d low =
      false_from_ne_true (is_active s d) (λ on.
      both_ways (list_any (is_active s) (all_cpus s)) none
      (any_here (is_active s) 0 (cpu_count s) d (omega arith) (omega (arith, low)) on))

  none_placed : list_any (is_active s) (all_cpus s) ≡ false → NonePlacedActive s.tree (cpu_at s)
  none_placed none d placed =
      let below = (placed_laws s.tree kept.planned).in_range d placed in
      let count = kept.cpus in
      none_active none d (omega (arith, below, count))

  wakes_by : (d : ℕ) → d < cpu_count s → wakeups ≤ (cpu_at s d).wakeup
  wakes_by d low =
      least_below (λ c. (cpu_at s c).wakeup) NEVER (all_cpus s) d (in_range (cpu_count s) d low)

  -- where a time was told, some CPU wakes by it
  told_by : list_any (is_active s) (all_cpus s) ≡ false → (d : ℕ) → d < cpu_count s
      → (cpu_at s d).told < NEVER
      → wakeups ≤ (cpu_at s d).told
  told_by none d low told =
      let waker = kept.holds.top tt (none_placed none) d told in
      let in_tree = (placed_laws s.tree kept.planned).in_range waker.0 waker.1.placed in
      let count = kept.cpus in
      let wakes = waker.1.in_time d (omega (arith, low, count)) in
      let least = wakes_by waker.0 (omega (arith, in_tree, count)) in
      omega (arith, wakes, least)

  -- where no CPU is active
  asleep : (d : ℕ) → d < cpu_count s → (cpu_at s d).online ≡ true → is_active s d ≡ false
      → rests (cpu_at s d) ≡ true
  asleep d low online off =
      elim (cases_Bool (cpu_at s d).idle) [
        | inl idle ↦ and_from (cpu_at s d).online (cpu_at s d).idle online idle
        | inr busy_now ↦
            absurd
            (both_ways (is_active s d) off
            (and_from (cpu_at s d).online (not (cpu_at s d).idle) online (ap not busy_now)))
      ]

  by_wakeups : list_any (is_active s) (all_cpus s) ≡ false → (d : ℕ) → d < cpu_count s
      → (cpu_at s d).online ≡ true
      → OfWaking (λ item. wakeups ≤ item.wheel) (bases_at s d)
  by_wakeups none d low online =
      let rest = asleep d low online (none_active none d low) in
      let answers = kept.holds.answered d (λ nobody. nobody) rest in
      let least = wakes_by d low in
      record {
        pinned = λ k e below. (let own = answers.pinned.all k e below in omega (arith, own, least));
        global = λ k e below.
            elim (answers.global.all k e below) [
              | inl wakes ↦ omega (arith, wakes, least)
              | inr told ↦
                  let soon = (kept.holds.each d).global.all k e below in
                  let other =
                  told_by none d low (omega (arith, told, soon)) in omega (arith, told, other)
            ];
      }

  next_by : (b : Bool) → list_any (is_active s) (all_cpus s) ≡ b → (d : ℕ) → d < cpus
      → (cpu_at s d).online ≡ true
      → OfWaking (λ item. (if b then s.clock + 1 else wakeups) ≤ item.wheel) (bases_at s d)
  next_by true is d low online =
      let waking = (quiet.holds.each d low).is.waking online in
      record { pinned = waking.pinned; global = waking.global }
  next_by false is d low online =
      let count = quiet.holds.count in by_wakeups is d (omega (arith, low, count)) online

  pub none_passed : (d : ℕ) → d < cpus → (cpu_at s d).online ≡ true
      → OfWaking (λ item. next_interrupt s ≤ item.wheel) (bases_at s d)
  none_passed d low online = next_by (list_any (is_active s) (all_cpus s)) refl d low online

-- WHO ISN'T DUE an interrupt is offline, or rests and wakes later
record IsFree (s : State) (d : ℕ) : Type 0 where
  rests : rests (cpu_at s d) ≡ true
  later : s.clock + 1 ≤ (cpu_at s d).wakeup

free_by : (s : State) (d : ℕ) → d < cpu_count s
    → set.contains (having_interrupt plain_rules s) d ≡ false
    → (cpu_at s d).online ≡ true → IsFree s d
free_by s d low out online =
    let x = cpu_at s d in
    let none : has_interrupt s d ≡ false =
    false_from_ne_true (has_interrupt s d)
    (λ has. both_ways (set.contains (having_interrupt plain_rules s) d) out
    (is_due s d low has)) in
    record {
      rests = (elim (cases_Bool x.idle) [
        | inl idle ↦ and_from x.online x.idle online idle
        | inr busy_now ↦
            absurd
            (both_ways (has_interrupt s d) none
            (and_from x.online (not x.idle || nat_le x.wakeup s.clock) online
            (or_left (not x.idle) (nat_le x.wakeup s.clock) (ap not busy_now))))
      ]);
      later = (elim (cases_lt s.clock x.wakeup) [
        | inl later ↦ omega (arith, later)
        | inr by ↦
            absurd
            (both_ways (has_interrupt s d) none
            (and_from x.online (not x.idle || nat_le x.wakeup s.clock) online
            (or_right (not x.idle) (nat_le x.wakeup s.clock) (le-leb x.wakeup s.clock by))))
      ]);
    }

-- THE INTERRUPTS BEGIN in a state of which nothing is late
module _ (cpus levels now : ℕ) (s : State) (kept : IsKept Nobody (Unit {0}) s) (at : s.clock ≡ now)
    (levels_are : level_count_of s.tree ≡ levels) (count : cpu_count s ≡ cpus)
    (some_online : SomeOnline cpus s)
    (owner : ℕ → ℕ) (cpu : (d : ℕ) → d < cpus → IsCpu s.clock d owner (bases_at s d))
    (late : (d : ℕ) → d < cpus → (cpu_at s d).online ≡ true → Waking s.clock (bases_at s d))
    (away : (d : ℕ) → d < cpus → (cpu_at s d).online ≡ false → IsEmpty (bases_at s d)) where
  abbrev due : set.FinSet nat_cmp
  due = having_interrupt plain_rules s

  found_in : (d : ℕ) → d < cpus → rests (cpu_at s d) ≡ true → (cpu_at s d).told ≤ s.clock
      → Awaits cpus levels s due (SeenBefore 0) d
  found_in d low rest by =
      let one = found s kept d (omega (arith, low, count)) rest by in
      let covers : Covers cpus levels s due d one.0 one.1 =
      subst (λ n. Covers n levels s due d one.0 one.1) count
      (subst (λ n. Covers (cpu_count s) n s due d one.0 one.1) levels_are one.2) in
      (one.0, one.1, covers, λ seen. omega (arith, seen))

  begins_turn : (d : ℕ) → d < cpus
      → InTurn s.clock due (HadBefore due 0) (HadBefore due 0)
      (Awaits cpus levels s due (SeenBefore 0)) d (cpu_at s d)
  begins_turn d low =
      let here : d < cpu_count s = omega (arith, low, count) in
      record {
        late = late d low;
        away = away d low;
        had_pinned = λ had. (let none = had.1 in absurd (omega (arith, none)));
        had_global = λ had. (let none = had.1 in absurd (omega (arith, none)));
        pinned = λ out on k e below. (
            let free = free_by s d here out on in
            let own = (kept.holds.answered d (λ nobody. nobody) free.rests).pinned.all k e below in
            let later = free.later in omega (arith, own, later));
        global = λ out on told k e below. (
            let free = free_by s d here out on in
            let later = free.later in
            elim ((kept.holds.answered d (λ nobody. nobody) free.rests).global.all k e below) [
              | inl own ↦ omega (arith, own, later)
              | inr other ↦ omega (arith, other, told)
            ]);
        watched = λ out on. (
            let free = free_by s d here out on in
            elim (cases_lt s.clock (cpu_at s d).told) [
              | inl later ↦ inl (omega (arith, later))
              | inr by ↦ inr (found_in d low free.rests by)
            ]);
      }

  pub begins : Begun cpus levels now due 0 s
  begins = record {
    from = s;
    at = at;
    levels_are = levels_are;
    frame = frame_itself s;
    due_online = due_online s;
    some_online = some_online;
    holds = record {
      owner = owner;
      early = kept.in_time;
      count = count;
      each = λ d low. record { cpu = cpu d low; is = begins_turn d low };
    };
  }

-- THE NEXT MOMENT
module _ (cpus levels now next : ℕ) (s : State) (quiet : Between cpus levels now s)
    (kept : IsKept Nobody (Unit {0}) s)
    (later : s.clock ≤ next) (in_time : next < SCRIPT_TIME_LIMIT)
    (by : next ≤ max (s.clock + 1) (next_interrupt s)) where
  cpu_later : (d : ℕ) → d < cpus → IsCpu next d quiet.holds.owner (bases_at s d)
  cpu_later d low =
      let cpu = (quiet.holds.each d low).cpu in
      record {
        told = record {
          consistent = cpu.told.consistent;
          legal = legal_later d s.clock next (bases_at s d).journal later cpu.told.legal;
          on_time = cpu.told.on_time;
        };
        ahead = cpu.ahead;
        items =
            λ k.
            record {
              all = (cpu.items k).all;
              near = (let near = (cpu.items k).near in omega (arith, near, later));
            };
      }

  none_late : (d : ℕ) → d < cpus → (cpu_at s d).online ≡ true → Waking next (bases_at s d)
  none_late d low online =
      let waking = (quiet.holds.each d low).is.waking online in
      let ahead = none_passed cpus levels now s quiet kept d low online in
      record {
        pinned =
            λ k e below.
            (let past = waking.pinned k e below in let soon =
            ahead.pinned k e below in omega (arith, past, soon, by));
        global =
            λ k e below.
            (let past = waking.global k e below in let soon =
            ahead.global k e below in omega (arith, past, soon, by));
      }

  pub comes : Begun cpus levels next (having_interrupt plain_rules (at_clock next s)) 0
      (at_clock next s)
  comes =
      begins cpus levels next (at_clock next s) (later_kept s next later in_time kept) refl
      quiet.levels_are quiet.holds.count
      (record {
        number = quiet.some_online.number;
        low = quiet.some_online.low;
        placed = quiet.some_online.placed;
        online = quiet.some_online.online;
      }) quiet.holds.owner cpu_later none_late (λ d low off. (quiet.holds.each d low).is.away off)
