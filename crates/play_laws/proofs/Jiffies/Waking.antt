-- the timers that wake a CPU: what each call leaves of their wheel expiries
use Rattle.std.proofs.Common.{◌≡◌, ℕ, ◌+◌, ◌-◌, ◌^◌, ◌<◌, ◌≤◌, List, true, false, Option, Some}
use Rattle.std.proofs.Common.{None, refl, sym, subst, arith, inl, inr, length}
use Rattle.std.specs.Prelude.{All, if◌then◌else◌, nat_le}
use Rattle.std.proofs.lemmas.Bool.{cases_Bool, cases_lt, le-ltb, lt-ltb}
use Rattle.std.proofs.lemmas.List.Elements.{All-push}
use Rattle.tm_base.specs.Classes.{same_class}
use Rattle.tm_base.specs.declared.names.TheConstants.{TIME_LIMIT}
use Rattle.tm_base.specs.declared.limits.TheConstants.{SCRIPT_TIME_LIMIT}
use Rattle.tm_base.specs.declared.names.Class.{Class}
use Rattle.tm_base.specs.declared.names.Class.TheVariants.{Pinned, Global, Deferrable}
use Rattle.tm_base.specs.declared.names.CpuId.{CpuId}
use Rattle.wheel_core.specs.declared.item.Item.{Item}
use Rattle.wheel_core.specs.WheelExpiry.{cutoff, wheel_expiry_of}
use Rattle.wheel_core.specs.PlainBase.{NoneBehind, NoneDue, PlainBase, added, clock_forwarded}
use Rattle.wheel_core.specs.PlainBase.{forwarded, least, item_added}
use Rattle.wheel_core.proofs.Levels.{wheel_keeps_time}
use Rattle.wheel_core.proofs.Plain.{clock-forwarded_le, none_behind}
use Rattle.cpu_bases.specs.CpuBases.{CpuBases, NotAhead, armed, base_of, cancelled, drained}
use Rattle.cpu_bases.specs.CpuBases.{moved_in}
use Rattle.cpu_bases.specs.Journals.{MayHandOut}
use Rattle.cpu_bases.proofs.Classes.{class_is}
use Rattle.cpu_bases.proofs.Drains.{drain_is_whole}
use Rattle.play_laws.proofs.Answered.Bases.{IsBase, cancelled_kept, drained_kept}
use Rattle.play_laws.specs.Jiffies.Jiffies.{OfWaking}
use Rattle.play_laws.proofs.Jiffies.CpuKept.{IsCpu, IsItemOf, NoneLate, drain_on_time}

-- not before a time
abbrev pub From : ℕ → Item → Type 0
From time item = time ≤ item.wheel

abbrev pub Waking : (time : ℕ) → CpuBases → Type 0
Waking time b = OfWaking (From time) b

-- FORWARDING a base of which nothing comes before a time brings its clock to that time at least
forward_low : (time clock : ℕ) (first : Option ℕ)
    → ((wheel : ℕ) → first ≡ Some wheel → time ≤ wheel)
    → time ≤ clock_forwarded time clock first
forward_low time clock None later =
    elim (cases_lt clock time) [
      | inl behind ↦ rw (lt-ltb clock time behind) (omega arith)
      | inr ahead ↦ rw (le-ltb clock time ahead) ahead
    ]
forward_low time clock (Some wheel) later =
    let low = later wheel refl in
    elim (cases_lt clock time) [
      | inl behind ↦
          rw (lt-ltb clock time behind)
          (elim (nat_le wheel time) as (λ b. time ≤ (if b then wheel else time))
          [ true ↦ low | false ↦ omega arith ])
      | inr ahead ↦ rw (le-ltb clock time ahead) ahead
    ]

pub first_later : (time : ℕ) (items : List Item) → All (From time) items → (wheel : ℕ)
    → least items ≡ Some wheel → time ≤ wheel
first_later time items all wheel is =
    none_behind (record { items = items; clock = time }) all wheel is

-- a timer that is armed for the time now or later gets a wheel expiry past now
wheel_after : (now expires clock : ℕ) → now ≤ clock → now ≤ expires → expires < 2 ^ 47
    → clock < 2 ^ 47
    → now + 1 ≤ wheel_expiry_of expires clock
wheel_after now expires clock low later fits clock_fits =
    let keeps = wheel_keeps_time expires clock fits clock_fits in
    elim (cases_lt expires clock) [
      | inl past ↦ let by = keeps.not_before_clock in omega (arith, by, past, later)
      | inr ahead ↦
          elim (cases_lt (expires - clock) cutoff) [
            | inl near ↦ let by = keeps.never_early ahead near in omega (arith, by, later)
            | inr far ↦ let by =
                keeps.at_cutoff (omega (arith, far, ahead)) in omega (arith, by, low)
          ]
    ]

module _ (now : ℕ) (early : now < SCRIPT_TIME_LIMIT) where
  -- an item that is added comes past now
  added_later : (time id expires job arg m : ℕ) (base : PlainBase) → m ≤ now + 1 → NotAhead now base
      → now + 1 ≤ wheel_expiry_of expires (forwarded time base).clock → All (From m) base.items
      → All (From m) (added id expires job arg (forwarded time base)).items
  added_later time id expires job arg m base by near past holds =
      All-push (From m) base.items (item_added (forwarded time base).clock id expires job arg) holds
      (omega (arith, past, by))

  -- armed for now or later
  armed_past : (expires : ℕ) (base : PlainBase) → expires < 2 ^ 47 → now ≤ expires
      → All (From now) base.items
      → NotAhead now base → now + 1 ≤ wheel_expiry_of expires (forwarded now base).clock
  armed_past expires base fits later late near =
      let low = forward_low now base.clock (least base.items) (first_later now base.items late) in
      let high = clock-forwarded_le now base in
      let clock_fits : (forwarded now base).clock < 2 ^ 47 = omega (arith, high, near, early) in
      wheel_after now expires (forwarded now base).clock low later fits clock_fits

  -- moved in where nothing is due
  moved_past : (expires : ℕ) (base : PlainBase) → expires < 2 ^ 47 → All (From (now + 1)) base.items
      → NotAhead now base → now + 1 ≤ wheel_expiry_of expires (forwarded (now + 1) base).clock
  moved_past expires base fits later near =
      let low =
      forward_low (now + 1) base.clock (least base.items)
      (first_later (now + 1) base.items later) in
      let high = clock-forwarded_le (now + 1) base in
      let clock_fits : (forwarded (now + 1) base).clock < 2 ^ 47 =
      omega (arith, high, near, early) in
      let keeps = wheel_keeps_time expires (forwarded (now + 1) base).clock fits clock_fits in
      let by = keeps.not_before_clock in omega (arith, low, by)

  -- ARMING leaves the timers that wake from a time on
  module _ (timer expires job arg line m : ℕ) (by : CpuId) (b : CpuBases) (fits : expires < 2 ^ 47)
      (later : now ≤ expires)
      (soon : m ≤ now + 1) (near : (k : Class) → NotAhead now (base_of k b))
      (late : Waking now b) where
    put_in : (k : Class) → All (From now) (base_of k b).items → All (From m) (base_of k b).items
        → All (From m) (added timer expires job arg (forwarded now (base_of k b))).items
    put_in k none holds =
        added_later now timer expires job arg m (base_of k b) soon (near k)
        (armed_past expires (base_of k b) fits later none (near k)) holds

    pub armed_waking : (class : Class) → Waking m b
        → Waking m (armed now class timer expires job arg line by b)
    armed_waking Pinned holds =
        record { pinned = put_in Pinned late.pinned holds.pinned; global = holds.global }
    armed_waking Global holds =
        record { pinned = holds.pinned; global = put_in Global late.global holds.global }
    armed_waking Deferrable holds = record { pinned = holds.pinned; global = holds.global }

    -- of one base alone
    pub armed_global : (class : Class) → All (From m) (base_of Global b).items
        → All (From m) (base_of Global (armed now class timer expires job arg line by b)).items
    armed_global Pinned holds = holds
    armed_global Global holds = put_in Global late.global holds
    armed_global Deferrable holds = holds

    pub armed_pinned : (class : Class) → All (From m) (base_of Pinned b).items
        → All (From m) (base_of Pinned (armed now class timer expires job arg line by b)).items
    armed_pinned Pinned holds = put_in Pinned late.pinned holds
    armed_pinned Global holds = holds
    armed_pinned Deferrable holds = holds

  -- and so does moving in, where none of them is due
  pub moved_in_waking : (class : Class) (timer expires job arg : ℕ) (by : CpuId) (b : CpuBases)
      → expires < 2 ^ 47
      → ((k : Class) → NotAhead now (base_of k b)) → Waking (now + 1) b
      → Waking (now + 1) (moved_in now class timer expires job arg by b)
  moved_in_waking Pinned timer expires job arg by b fits near holds = record {
    pinned =
        added_later (now + 1) timer expires job arg (now + 1) (base_of Pinned b) (omega arith)
        (near Pinned)
        (moved_past expires (base_of Pinned b) fits holds.pinned (near Pinned)) holds.pinned;
    global = holds.global;
  }
  moved_in_waking Global timer expires job arg by b fits near holds = record {
    pinned = holds.pinned;
    global =
        added_later (now + 1) timer expires job arg (now + 1) (base_of Global b) (omega arith)
        (near Global)
        (moved_past expires (base_of Global b) fits holds.global (near Global)) holds.global;
  }
  moved_in_waking Deferrable timer expires job arg by b fits near holds =
      record { pinned = holds.pinned; global = holds.global }

-- WHAT TAKES ITEMS OUT leaves what holds of each
module _ (Q : Item → Type 0) (now : ℕ) (b : CpuBases)
    (near : (k : Class) → NotAhead now (base_of k b)) where
  based : (k : Class) → All Q (base_of k b).items → IsBase Q now (base_of k b)
  based k all = record { all = all; near = near k }

  pub drained_waking : (most : ℕ) (class : Class) (by : CpuId) → OfWaking Q b
      → OfWaking Q (drained most now class by b)
  drained_waking most class by holds = record {
    pinned = (drained_kept Q now Pinned by most class b (based Pinned holds.pinned)).all;
    global = (drained_kept Q now Global by most class b (based Global holds.global)).all;
  }

  pub drained_class : (k : Class) (most : ℕ) (class : Class) (by : CpuId)
      → All Q (base_of k b).items
      → All Q (base_of k (drained most now class by b)).items
  drained_class k most class by holds = (drained_kept Q now k by most class b (based k holds)).all

  pub cancelled_waking : (timer line : ℕ) (by : CpuId) → OfWaking Q b
      → OfWaking Q (cancelled now timer line by b)
  cancelled_waking timer line by holds = record {
    pinned = (cancelled_kept Q now Pinned by timer line b (based Pinned holds.pinned)).all;
    global = (cancelled_kept Q now Global by timer line b (based Global holds.global)).all;
  }

-- A WHOLE DRAIN
pub none_late : (now c : ℕ) (owner : ℕ → ℕ) (class : Class) (b : CpuBases) → Waking now b
    → NoneLate now c owner class (base_of class b).items
none_late now c owner Pinned b holds = holds.pinned
none_late now c owner Global b holds = holds.global
none_late now c owner Deferrable b holds = tt

pub record IsDrained (now c : ℕ) (owner : ℕ → ℕ) (class : Class) (b : CpuBases) : Type 0 where
  pub cpu : IsCpu now c owner b
  pub none_due : NoneDue now (base_of class b).items

pub drained_cpu : (now c : ℕ) (owner : ℕ → ℕ) (class : Class) (by : CpuId) (b : CpuBases)
    → now < SCRIPT_TIME_LIMIT
    → MayHandOut c class by.0 → Waking now b → IsCpu now c owner b
    → IsDrained now c owner class (drained (length (base_of class b).items) now class by b)
drained_cpu now c owner class by b early may late is =
    let most = length (base_of class b).items in
    let new = drained most now class by b in
    let in_time : now < TIME_LIMIT - 1 = omega (arith, early) in
    let whole = drain_is_whole most now class by b in_time is.told.consistent (omega arith) in
    record {
      cpu = record {
        told = record {
          consistent = whole.consistent;
          legal = whole.hands_out.legal c may is.told.legal;
          on_time =
              drain_on_time now c owner most class by b in_time is.told.consistent
              (is.items class).near
              (none_late now c owner class b late) is.told.on_time;
        };
        ahead = λ k.
            elim (cases_Bool (same_class class k)) [
              | inl same ↦
                  let is_class = class_is class k same in
                  subst (λ j. NoneBehind (base_of j new)) is_class
                  (whole.none_behind (is.items class).near)
              | inr other ↦ subst NoneBehind (sym (whole.hands_out.others k other)) (is.ahead k)
            ];
        items = λ k. drained_kept (IsItemOf owner c) now k by most class b (is.items k);
      };
      none_due = whole.none_due;
    }
