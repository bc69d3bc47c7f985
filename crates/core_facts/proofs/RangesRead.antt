-- the ranges of the numbers in a world
use Rattle.std.proofs.Common.{◌≡◌, ℕ, ◌^◌, ◌<◌, ◌≤◌, true, List}
use Rattle.std.proofs.Common.{length, Option, Some, ap, subst, arith, inl, inr}
use Rattle.std.specs.Prelude.{All, nat_lt, not}
use Rattle.std.specs.FinSet.{contains}
use Rattle.std.proofs.lemmas.Bool.{and_parts, cases_lt, ltb-true}
use Rattle.std.proofs.lemmas.List.Elements.{All-contains}
use Rattle.std.proofs.lemmas.Nat.Bits.{bit_at_above}
use Rattle.tm_base.specs.declared.names.TheConstants.{NEVER, TIME_LIMIT}
use Rattle.event_queue.specs.declared.event.Event.{Event}
use Rattle.event_queue.specs.EventMap.{event_at}
use Rattle.walk_rules.specs.group_word.Group.{GroupLaw, IsActive}
use Rattle.wheel_core.specs.declared.item.Item.{Item}
use Rattle.wheel_core.specs.PlainBase.{FitsWheel}
use Rattle.cpu_bases.specs.CpuBases.{base_of}
use Rattle.tree_plan.specs.Paths.{cpu_count_of, group_at_of, is_placed_in}
use Rattle.walk_rules.specs.declared.walk.Walk.{Walk}
use Rattle.core_world.specs.Lawful.{IsLawful}
use Rattle.core_world.specs.Origins.{HasOrigin, WasArmed}
use Rattle.core_world.specs.World.{CpuRecord, World, cpu_of, group_of}
use Rattle.core_facts.specs.Ranges.{CpuInRange, EachInRange, EventInRange, GroupInRange}
use Rattle.core_facts.specs.Ranges.{ItemInRange, WalkInRange}
use Rattle.core_facts.proofs.HoldersRead.{each_lock_is_held}
use Rattle.core_facts.proofs.MarkedRead.{each_mark_fits}
use Rattle.core_facts.proofs.Scenes.{best_stands, has_leaf, no_cpu_there, under_there, walker_there}

child_in : (active : ℕ) (m : Option ℕ) → active < 2 ^ 8 → GroupLaw active m → (k : ℕ) → m ≡ Some k
    → k < 8
child_in active m eight law k is = elim (cases_lt k 8) [
  | inl low ↦ low
  | inr high ↦
      let on : IsActive active k = subst (GroupLaw active) is law in
      absurd (omega (arith, bit_at_above active 8 k eight high, on))
]

both : (w : World) (items : List Item) → All (λ item. item.id < w.timers) items → All FitsWheel items
    → All (ItemInRange w) items
both w items known placed = λ k d low. record {
  timer = known k d low;
  expires = (placed k d low).expires;
  wheel = (placed k d low).wheel;
}

module _ (w : World) (l : IsLawful w) where
  pub armed_in : (time : ℕ) → WasArmed w time → time ≤ TIME_LIMIT
  armed_in time armed =
      let early =
      All-contains (λ entry. entry.wheel ≤ TIME_LIMIT) (cpu_of w armed.cpu).bases.journal
      armed.entry (l.timers.consistent armed.cpu).in_time armed.written in
      subst (λ n. n ≤ TIME_LIMIT) armed.wheel early

  time_in : (time : ℕ) → HasOrigin w time → time < 2 ^ 48
  time_in time (inl never) = omega (arith, never)
  time_in time (inr armed) = let early = armed_in time armed in omega arith

  pub comes : (time : ℕ) → HasOrigin w time → (time ≡ NEVER → ⊥) → time ≤ TIME_LIMIT
  comes time (inl never) other = absurd (other never)
  comes time (inr armed) other = armed_in time armed

  path_in : (c level g : ℕ) → group_at_of w.tree c level ≡ Some g → c < length w.cpus
  path_in c level g at =
      let leaf = has_leaf w.tree l.hierarchy c level g at in
      let placed : is_placed_in w.tree c ≡ true = l.hierarchy.has_group c leaf.0 leaf.1 in
      let sized = l.sized.cpus in
      let parts =
      and_parts (nat_lt c (cpu_count_of w.tree)) (not (contains w.tree.isolated c)) placed in
      let low = ltb-true c (cpu_count_of w.tree) parts.0 in
      omega arith

  event_in : (g k : ℕ) (e : Event) → event_at (group_of w g).events k ≡ Some e → EventInRange w e
  event_in g k e is =
      let from = l.event_origins.below g k e is in
      record {
        expiry = comes e.expiry (l.event_origins.expiry g k e is) (l.no_never.slots g k e is);
        cpu = path_in e.cpu.0 from.level g from.into;
      }

  walk_in : (c : ℕ) (k : Walk) → (cpu_of w c).walk ≡ Some k → WalkInRange w k
  walk_in c k is =
      let from = l.time_origins.walks c k is in
      record {
        pin = time_in k.pin from.pin;
        next = time_in k.next from.next;
        first = time_in k.first from.first;
        best =
            λ e best. comes e.expiry (l.best_origins.expiry c k e is best)
            (l.no_never.bests c k e is best);
        best_cpu =
            λ e best high. (let at = best_stands w l c k e is best in
            let under = under_there w.tree l.hierarchy c k.level at.0 at.1 high in
            let below = l.best_origins.below c under.0 k e is best under.1 in
            path_in e.cpu.0 below.level under.0 below.there);
      }

  wakeup_in : (c : ℕ) → (cpu_of w c).wakeup < 2 ^ 48
  wakeup_in c = elim (cases_lt c (length w.cpus)) [
    | inl low ↦ time_in (cpu_of w c).wakeup (l.time_origins.wakeups c low)
    | inr past ↦
        let never : (cpu_of w c).wakeup ≡ NEVER =
        ap (λ (y : CpuRecord). y.wakeup) (no_cpu_there w c past) in
        omega arith
  ]

  cpu_in : (c : ℕ) → CpuInRange w (cpu_of w c)
  cpu_in c = record {
    wakeup = wakeup_in c;
    mark = λ b is. ((each_mark_fits w l).mark c b is).in_range;
    walk = walk_in c;
    clock = λ class. ((l.timers.consistent c).fits class).clock;
    timers =
        λ class. both w (base_of class (cpu_of w c).bases).items (l.times.known c class)
        ((l.timers.consistent c).fits class).sound.in_wheel;
  }

  group_in : (g : ℕ) → GroupInRange w (group_of w g)
  group_in g = record {
    active = l.groups.eight g;
    migrator =
        child_in (group_of w g).active (group_of w g).migrator (l.groups.eight g) (l.groups.law g);
    lock =
        λ c is. (let holder = (each_lock_is_held w l).walking g c is in
        walker_there w c holder.made holder.walk);
    event = event_in g;
  }

pub each_in_range : EachInRange
each_in_range w l = record { clock = l.times.clock; cpu = cpu_in w l; group = group_in w l }
