-- what holds inside the interrupts of a moment
use Rattle.std.proofs.Common.{◌≡◌, ℕ, ◌+◌, ◌^◌, ◌<◌, ◌≤◌, List, true, false, Some, None, refl, ◌∙◌}
use Rattle.std.proofs.Common.{subst, arith, inl, inr, length}
use Rattle.std.specs.Prelude.{◌⊎◌, ◌&&◌, All, not}
use Rattle.std.specs.Ordering.{nat_cmp}
use Rattle.std.specs.FinSet as set
use Rattle.std.proofs.lemmas.Bool.{both_ways, cases_Bool}
use Rattle.std.proofs.lemmas.List.{length-set}
use Rattle.tm_base.specs.declared.names.Class.{Class}
use Rattle.tm_base.specs.declared.names.Class.TheVariants.{Pinned, Global}
use Rattle.tm_base.specs.declared.names.CpuId.{CpuId}
use Rattle.wheel_core.specs.declared.item.Item.{Item}
use Rattle.wheel_core.specs.PlainBase.{NoneDue}
use Rattle.tree_plan.specs.Paths.{group_at_of, level_count_of}
use Rattle.cpu_bases.specs.CpuBases.{CpuBases, NotAhead, base_of, class_in, drained}
use Rattle.cpu_bases.specs.Journals.{MayHandOut}
use Rattle.play_rules.specs.declared.asks.Arming.{Arming}
use Rattle.play_rules.specs.State.{Cpu, State, cpu_at, cpu_count, is_active, with_cpu}
use Rattle.play_rules.specs.Hierarchy.{inactive_child, is_placed, looks_after, towards}
use Rattle.play_rules.specs.Timers.{armed_bases, armed_on, bases_at, drained_on}
use Rattle.play_laws.proofs.Answered.States.{written_alike}
use Rattle.play_laws.proofs.Jiffies.Course.{IsArmingIn}
use Rattle.play_laws.proofs.Jiffies.Machines.{Holds, arm_holds, drain_holds, holds_as}
use Rattle.play_laws.proofs.Jiffies.Waking.{From, Waking, armed_global, armed_pinned, armed_waking}
use Rattle.play_laws.proofs.Jiffies.Waking.{drained_class, drained_waking}

-- NOTHING is queued
abbrev pub IsEmpty : CpuBases → Type 0
IsEmpty b = (k : Class) → All (λ (item : Item). ⊥) (base_of k b).items

pub empty_waking : (time : ℕ) (b : CpuBases) → IsEmpty b → Waking time b
empty_waking time b none = record {
  pinned = λ i d low. absurd (none Pinned i d low);
  global = λ i d low. absurd (none Global i d low);
}

-- ONE CPU in the interrupts of a moment: its timers that wake aren't late, and none of them is due
-- once their base was drained; nor where it isn't due an interrupt, once it told a time that is
-- still to come. Until then some CPU is still to look after it
pub record InTurn (now : ℕ) (due : set.FinSet nat_cmp) (HadPinned HadGlobal Awaits : ℕ → Type 0)
    (d : ℕ) (x : Cpu) : Type 0 where
  pub late : x.online ≡ true → Waking now x.bases
  pub away : x.online ≡ false → IsEmpty x.bases
  pub had_pinned : HadPinned d → All (From (now + 1)) (base_of Pinned x.bases).items
  pub had_global : HadGlobal d → All (From (now + 1)) (base_of Global x.bases).items
  pub pinned : set.contains due d ≡ false → x.online ≡ true
      → All (From (now + 1)) (base_of Pinned x.bases).items
  pub global : set.contains due d ≡ false → x.online ≡ true → now + 1 ≤ x.told
      → All (From (now + 1)) (base_of Global x.bases).items
  pub watched : set.contains due d ≡ false → x.online ≡ true → (now + 1 ≤ x.told) ⊎ Awaits d

-- WHAT DOESN'T CHANGE in them, from their beginning on
pub record Frame (from s : State) : Type 0 where
  pub tree : s.tree ≡ from.tree
  pub count : cpu_count s ≡ cpu_count from
  pub migrators : s.migrators ≡ from.migrators
  pub active : is_active s ≡ is_active from

pub frame_itself : (s : State) → Frame s s
frame_itself s = record { tree = refl; count = refl; migrators = refl; active = refl }

pub frame_with : (from s : State) (c : ℕ) (x : Cpu) → Frame from s → c < cpu_count s
    → x.online ≡ (cpu_at s c).online
    → x.idle ≡ (cpu_at s c).idle → Frame from (with_cpu s c x)
frame_with from s c x frame low online idle = record {
  tree = frame.tree;
  count = length-set s.cpus c x ∙ frame.count;
  migrators = frame.migrators;
  active =
      (λ i d. written_alike s c x low (λ (y : Cpu). y.online && not y.idle)
      (λ j. online j && not (idle j)) d i)
      ∙ frame.active;
}

-- a placed CPU is online
pub record SomeOnline (cpus : ℕ) (s : State) : Type 0 where
  pub number : ℕ
  pub low : number < cpus
  pub placed : is_placed s number ≡ true
  pub online : (cpu_at s number).online ≡ true

pub some_online_with : (cpus : ℕ) (s : State) (c : ℕ) (x : Cpu) → c < cpu_count s
    → x.online ≡ (cpu_at s c).online
    → SomeOnline cpus s → SomeOnline cpus (with_cpu s c x)
some_online_with cpus s c x low same some = record {
  number = some.number;
  low = some.low;
  placed = some.placed;
  online = written_alike s c x low (λ (y : Cpu). y.online) same some.number ∙ some.online;
}

-- CPU c, which is due an interrupt, looks at a level of its path where it finds CPU d asleep
pub record Covers (cpus levels : ℕ) (from : State) (due : set.FinSet nat_cmp)
    (d c level : ℕ) : Type 0 where
  pub is_due : set.contains due c ≡ true
  pub low : c < cpus
  pub below : level < levels
  pub looks : (l : ℕ) → l ≤ level → looks_after from c l ≡ true
  pub group : ℕ
  pub at : group_at_of from.tree c level ≡ Some group
  pub asleep : inactive_child from (towards from.tree d group) ≡ true

-- and hasn't looked there yet
abbrev pub Awaits : (cpus levels : ℕ) → State → set.FinSet nat_cmp → (Seen : (c level : ℕ) → Type 0)
    → ℕ → Type 0
Awaits cpus levels from due Seen d =
    (c : ℕ) × (level : ℕ) × Covers cpus levels from due d c level × (Seen c level → ⊥)

-- ALL OF IT, inside the interrupts
pub record Inside (cpus levels now : ℕ) (due : set.FinSet nat_cmp)
    (HadPinned HadGlobal : ℕ → Type 0)
    (Seen : (c level : ℕ) → Type 0) (s : State) : Type 0 where
  pub from : State
  pub at : s.clock ≡ now
  pub levels_are : level_count_of s.tree ≡ levels
  pub frame : Frame from s
  pub due_online : (d : ℕ) → set.contains due d ≡ true → (cpu_at s d).online ≡ true
  pub some_online : SomeOnline cpus s
  pub holds : Holds cpus (InTurn s.clock due HadPinned HadGlobal (Awaits cpus levels from due Seen))
      s

-- less was had, and what awaits a look either still does or told a time that is still to come
pub inside_as : (cpus levels now : ℕ) (due : set.FinSet nat_cmp)
    (HadPinned HadGlobal AsPinned AsGlobal : ℕ → Type 0)
    (Seen Sees : (c level : ℕ) → Type 0) (s : State)
    (inside : Inside cpus levels now due HadPinned HadGlobal Seen s)
    → ((d : ℕ) → AsPinned d → HadPinned d) → ((d : ℕ) → AsGlobal d → HadGlobal d)
    → ((d : ℕ) → d < cpus → Awaits cpus levels inside.from due Seen d
    → (s.clock + 1 ≤ (cpu_at s d).told) ⊎ Awaits cpus levels inside.from due Sees d)
    → Inside cpus levels now due AsPinned AsGlobal Sees s
inside_as cpus levels now due HadPinned HadGlobal AsPinned AsGlobal Seen Sees s inside pins globals
    sees = record {
      from = inside.from;
      at = inside.at;
      levels_are = inside.levels_are;
      frame = inside.frame;
      due_online = inside.due_online;
      some_online = inside.some_online;
      holds =
          holds_as cpus
          (InTurn s.clock due HadPinned HadGlobal (Awaits cpus levels inside.from due Seen))
          (InTurn s.clock due AsPinned AsGlobal (Awaits cpus levels inside.from due Sees)) s
          inside.holds
          (λ d low is. record {
            late = is.late;
            away = is.away;
            had_pinned = λ had. is.had_pinned (pins d had);
            had_global = λ had. is.had_global (globals d had);
            pinned = is.pinned;
            global = is.global;
            watched =
                λ out on.
                (elim (is.watched out on) [
                  | inl later ↦ inl later
                  | inr awaits ↦ sees d low awaits
                ]);
          });
    }

-- where no more was seen it still awaits its look
pub still_awaits : (cpus levels : ℕ) (from : State) (due : set.FinSet nat_cmp)
    (Seen Sees : (c level : ℕ) → Type 0) (d : ℕ)
    → ((c level : ℕ) → Covers cpus levels from due d c level → Sees c level → Seen c level)
    → Awaits cpus levels from due Seen d → Awaits cpus levels from due Sees d
still_awaits cpus levels from due Seen Sees d sees (c, level, covers, unseen) =
    (c, level, covers, λ seen. unseen (sees c level covers seen))

module _ (cpus levels now : ℕ) (due : set.FinSet nat_cmp) (HadPinned HadGlobal : ℕ → Type 0)
    (Seen : (c level : ℕ) → Type 0) (s : State)
    (inside : Inside cpus levels now due HadPinned HadGlobal Seen s) where
  abbrev Turn : (HadP HadG : ℕ → Type 0) → ℕ → Cpu → Type 0
  Turn HadP HadG = InTurn s.clock due HadP HadG (Awaits cpus levels inside.from due Seen)

  module _ (c : ℕ) (low : c < cpus) where
    low_in : c < cpu_count s
    low_in = let count = inside.holds.count in omega (arith, low, count)

    near : (k : Class) → NotAhead s.clock (base_of k (bases_at s c))
    near k = ((inside.holds.each c low).cpu.items k).near

    pub none_late : Waking s.clock (bases_at s c)
    none_late =
        let is = (inside.holds.each c low).is in
        elim (cases_Bool (cpu_at s c).online) [
          | inl on ↦ is.late on
          | inr off ↦ empty_waking s.clock (bases_at s c) (is.away off)
        ]

    -- one CPU is written that is online or idle as it was
    pub written_inside : (AsPinned AsGlobal : ℕ → Type 0) (x : Cpu) → x.online ≡ (cpu_at s c).online
        → x.idle ≡ (cpu_at s c).idle
        → Holds cpus (Turn AsPinned AsGlobal) (with_cpu s c x)
        → Inside cpus levels now due AsPinned AsGlobal Seen (with_cpu s c x)
    written_inside AsPinned AsGlobal x online idle holds = record {
      from = inside.from;
      at = inside.at;
      levels_are = inside.levels_are;
      frame = frame_with inside.from s c x inside.frame low_in online idle;
      due_online =
          λ d is. written_alike s c x low_in (λ (y : Cpu). y.online) online d
          ∙ inside.due_online d is;
      some_online = some_online_with cpus s c x low_in online inside.some_online;
      holds = holds;
    }

    -- A DRAIN of one of its bases by a CPU that may
    pub drain_inside : (class : Class) (runner : ℕ) (AsPinned AsGlobal : ℕ → Type 0)
        → MayHandOut c class runner
        → ((d : ℕ) → AsPinned d → HadPinned d ⊎ ((d ≡ c) × (class ≡ Pinned)))
        → ((d : ℕ) → AsGlobal d → HadGlobal d ⊎ ((d ≡ c) × (class ≡ Global)))
        → Inside cpus levels now due AsPinned AsGlobal Seen (drained_on s c class runner).state
    drain_inside class runner AsPinned AsGlobal may pins globals =
        let by : CpuId = record { 0 = runner } in
        let most = length (base_of class (bases_at s c)).items in
        let b = drained most s.clock class by (bases_at s c) in
        let is = (inside.holds.each c low).is in
        written_inside AsPinned AsGlobal (record (cpu_at s c) { bases = b }) refl refl
        (drain_holds cpus (Turn HadPinned HadGlobal)
        (Turn AsPinned AsGlobal) s inside.holds c low class runner may none_late
        (λ out. record {
          late =
              λ on. drained_waking (From s.clock) s.clock (bases_at s c) near most class by
              (is.late on);
          away =
              λ off k. drained_class (λ item. ⊥) s.clock (bases_at s c) near k most class by
              (is.away off k);
          had_pinned = λ had. (elim (pins c had) [
            | inl was ↦
                drained_class (From (s.clock + 1)) s.clock (bases_at s c) near Pinned most class by
                (is.had_pinned was)
            | inr this ↦
                subst (λ k. All (From (s.clock + 1)) (base_of k b).items) this.1
                (from_due (base_of class b).items out.none_due)
          ]);
          had_global = λ had. (elim (globals c had) [
            | inl was ↦
                drained_class (From (s.clock + 1)) s.clock (bases_at s c) near Global most class by
                (is.had_global was)
            | inr this ↦
                subst (λ k. All (From (s.clock + 1)) (base_of k b).items) this.1
                (from_due (base_of class b).items out.none_due)
          ]);
          pinned =
              λ free on. drained_class (From (s.clock + 1)) s.clock
              (bases_at s c) near Pinned most class by (is.pinned free on);
          global =
              λ free on told. drained_class (From (s.clock + 1)) s.clock
              (bases_at s c) near Global most class by (is.global free on told);
          watched = is.watched;
        })
        (λ d below other was. record {
          late = was.late;
          away = was.away;
          had_pinned =
              λ had.
              (elim (pins d had)
              [ inl was_had ↦ was.had_pinned was_had | inr this ↦ absurd (other this.0) ]);
          had_global =
              λ had.
              (elim (globals d had)
              [ inl was_had ↦ was.had_global was_had | inr this ↦ absurd (other this.0) ]);
          pinned = was.pinned;
          global = was.global;
          watched = was.watched;
        }))
      where
        from_due : (items : List Item) → NoneDue s.clock items → All (From (s.clock + 1)) items
        from_due items none i d below = let is = none i d below in omega (arith, is)

    -- A JOB arms on an online CPU
    pub arm_inside : (a : Arming) → IsArmingIn a → (cpu_at s c).online ≡ true
        → ((d : ℕ) → d < cpus → class_in a.timer.0 (bases_at s d) ≡ None)
        → Inside cpus levels now due HadPinned HadGlobal Seen (armed_on s c a).state
    arm_inside a known online free =
        let is = (inside.holds.each c low).is in
        let by : CpuId = record { 0 = c } in
        let early = inside.holds.early in
        let short = known.delay in
        let expires = s.clock + a.delay in
        let fits : expires < 2 ^ 47 = omega (arith, early, short) in
        let later : s.clock ≤ expires = omega arith in
        written_inside HadPinned HadGlobal (record (cpu_at s c) { bases = armed_bases s c a }) refl
        refl
        (arm_holds cpus (Turn HadPinned HadGlobal) (Turn HadPinned HadGlobal) s inside.holds c low a
        known free
        (record {
          late =
              λ on. armed_waking s.clock early a.timer.0 expires a.job a.arg a.line s.clock by
              (bases_at s c) fits later (omega arith) near none_late a.class (is.late on);
          away = λ off. absurd (both_ways (cpu_at s c).online off online);
          had_pinned =
              λ had. armed_pinned s.clock early a.timer.0 expires a.job a.arg a.line
              (s.clock + 1) by (bases_at s c) fits later (omega arith) near none_late a.class
              (is.had_pinned had);
          had_global =
              λ had. armed_global s.clock early a.timer.0 expires a.job a.arg a.line
              (s.clock + 1) by (bases_at s c) fits later (omega arith) near none_late a.class
              (is.had_global had);
          pinned =
              λ out on. armed_pinned s.clock early a.timer.0 expires a.job a.arg a.line
              (s.clock + 1) by (bases_at s c) fits later (omega arith) near none_late a.class
              (is.pinned out on);
          global =
              λ out on told. armed_global s.clock early a.timer.0 expires a.job a.arg a.line
              (s.clock + 1) by (bases_at s c) fits later (omega arith) near none_late a.class
              (is.global out on told);
          watched = is.watched;
        })
        (λ d below other was. was))
