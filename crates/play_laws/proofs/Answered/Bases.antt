-- for crates above: what a CPU's bases keep of their items, call by call
use Rattle.std.proofs.Common.{◌≡◌, ℕ, zero, suc, ◌+◌, ◌-◌, ◌<◌, ◌≤◌, List, Option, Some, None, refl}
use Rattle.std.proofs.Common.{arith, inl, inr}
use Rattle.std.specs.Prelude.{All, nat_le, is_some}
use Rattle.std.proofs.lemmas.Bool.{cases_Bool, cases_lt, cond_both, leb-true, le-ltb, lt-ltb}
use Rattle.std.proofs.lemmas.List.Elements.{All-push}
use Rattle.std.proofs.lemmas.Option.{none-some}
use Rattle.tm_base.specs.declared.names.TheConstants.{NEVER}
use Rattle.tm_base.specs.declared.limits.TheConstants.{SCRIPT_TIME_LIMIT}
use Rattle.tm_base.specs.declared.names.Class.{Class}
use Rattle.tm_base.specs.declared.names.Class.TheVariants.{Pinned, Global, Deferrable}
use Rattle.tm_base.specs.declared.names.CpuId.{CpuId}
use Rattle.wheel_core.specs.declared.item.Item.{Item}
use Rattle.wheel_core.specs.WheelExpiry.{cutoff, greatest_timeout, wheel_expiry_of}
use Rattle.wheel_core.specs.PlainBase.{PlainBase, added, after_out, first_out, forwarded, least}
use Rattle.wheel_core.specs.PlainBase.{next_out, out_at, item_added, removed, taken}
use Rattle.wheel_core.proofs.HandOut.{goes_out}
use Rattle.wheel_core.proofs.Ids.{all_without}
use Rattle.wheel_core.proofs.Levels.{ends, keeps_time}
use Rattle.wheel_core.proofs.Plain.{all_after_out, clock-forwarded_le}
use Rattle.cpu_bases.specs.CpuBases.{CpuBases, NotAhead, after_cancel, after_hand_out}
use Rattle.cpu_bases.specs.CpuBases.{after_move_out, armed, base_of, cancelled, drained, found_in}
use Rattle.cpu_bases.specs.CpuBases.{handed_out, moved_in, moved_out, oldest_in}
use Rattle.cpu_bases.specs.ByClass.{of_class, with_class}

-- A WHEEL EXPIRY comes before NEVER, whatever was asked for
near_comes : (expires clock : ℕ) → clock ≤ SCRIPT_TIME_LIMIT → clock ≤ expires
    → expires - clock < cutoff
    → wheel_expiry_of expires clock < NEVER
near_comes expires clock early ahead near =
    let in_time = (keeps_time expires clock (omega arith) ahead near).in_time in
    omega (arith, in_time)

far_comes : (expires clock : ℕ) → clock ≤ SCRIPT_TIME_LIMIT → clock ≤ expires
    → cutoff ≤ expires - clock
    → wheel_expiry_of expires clock < NEVER
unfolding wheel_expiry_of
far_comes expires clock early ahead far =
    let in_time = (ends 8 (clock + greatest_timeout) (omega arith) (omega arith)).in_time in
    rw (
      le-ltb expires clock ahead,
      le-ltb (expires - clock) 63 (omega arith),
      le-ltb (expires - clock) cutoff far,
    )
    (omega (arith, in_time))

past_comes : (expires clock : ℕ) → clock ≤ SCRIPT_TIME_LIMIT → expires < clock
    → wheel_expiry_of expires clock < NEVER
unfolding wheel_expiry_of
past_comes expires clock early past = rw (lt-ltb expires clock past) (omega (arith, early))

pub wheel_comes : (expires clock : ℕ) → clock ≤ SCRIPT_TIME_LIMIT
    → wheel_expiry_of expires clock < NEVER
wheel_comes expires clock early =
    elim (cases_lt expires clock) [
      | inl past ↦ past_comes expires clock early past
      | inr ahead ↦
          elim (cases_lt (expires - clock) cutoff) [
            | inl near ↦ near_comes expires clock early ahead near
            | inr far ↦ far_comes expires clock early ahead far
          ]
    ]

-- ONE BASE: something holds of each of its items, and its clock isn't past the next jiffy
pub record IsBase (Q : Item → Type 0) (now : ℕ) (base : PlainBase) : Type 0 where
  pub all : All Q base.items
  pub near : NotAhead now base

-- what changes the base of a class keeps the bases of all classes
pub changed_kept : (P : PlainBase → Type 0) (k class : Class) (base : PlainBase) (cpu : CpuBases)
    → (P (base_of class cpu) → P base) → P (base_of k cpu)
    → P (of_class k (with_class class base cpu.bases))
changed_kept P Pinned Pinned base cpu step holds = step holds
changed_kept P Pinned Global base cpu step holds = holds
changed_kept P Pinned Deferrable base cpu step holds = holds
changed_kept P Global Pinned base cpu step holds = holds
changed_kept P Global Global base cpu step holds = step holds
changed_kept P Global Deferrable base cpu step holds = holds
changed_kept P Deferrable Pinned base cpu step holds = holds
changed_kept P Deferrable Global base cpu step holds = holds
changed_kept P Deferrable Deferrable base cpu step holds = step holds

module _ (Q : Item → Type 0) (now : ℕ) where
  removed_base : (id : ℕ) (base : PlainBase) → IsBase Q now base → IsBase Q now (removed id base)
  removed_base id base holds =
      record { all = all_without Q id base.items holds.all; near = holds.near }

  -- what goes out is due
  out_due : (o : Option ℕ) (items : List Item) (item : Item) → out_at now o items ≡ Some item
      → item.wheel ≤ now
  out_due None items item is = absurd (none-some item is)
  out_due (Some wheel) items item is =
      elim (cases_Bool (nat_le wheel now)) [
        | inl due ↦
            let out : first_out wheel items ≡ Some item = rw due at is in
            let same = (goes_out wheel items item out).wheel_is in
            let by = leb-true wheel now due in omega (arith, same, by)
        | inr later ↦ let none : None ≡ Some item = rw later at is in absurd (none-some item none)
      ]

  out_base : (base : PlainBase) (o : Option Item) → next_out now base ≡ o → IsBase Q now base
      → IsBase Q now (after_out base o)
  out_base base None is holds = holds
  out_base base (Some item) is holds =
      let due = out_due (least base.items) base.items item is in
      let near = holds.near in
      record { all = all_after_out Q base (Some item) holds.all; near = omega (arith, due, near) }

  -- each call that takes items out keeps each base of a CPU
  module _ (k : Class) (by : CpuId) where
    hand_kept : (class : Class) (o : Option Item) (cpu : CpuBases)
        → next_out now (base_of class cpu) ≡ o
        → IsBase Q now (base_of k cpu)
        → IsBase Q now (base_of k (after_hand_out o now class by cpu))
    hand_kept class None cpu is holds = holds
    hand_kept class (Some item) cpu is holds =
        changed_kept (IsBase Q now) k class (taken now (base_of class cpu)) cpu
        (out_base (base_of class cpu) (next_out now (base_of class cpu)) refl) holds

    pub handed_kept : (class : Class) (cpu : CpuBases) → IsBase Q now (base_of k cpu)
        → IsBase Q now (base_of k (handed_out now class by cpu))
    handed_kept class cpu holds = hand_kept class (next_out now (base_of class cpu)) cpu refl holds

    pub drained_kept : (most : ℕ) (class : Class) (cpu : CpuBases) → IsBase Q now (base_of k cpu)
        → IsBase Q now (base_of k (drained most now class by cpu))
    drained_kept zero class cpu holds = handed_kept class cpu holds
    drained_kept (suc most) class cpu holds =
        let after = handed_kept class cpu holds in
        cond_both (is_some (next_out now (base_of class cpu)))
        (drained most now class by (handed_out now class by cpu))
        (handed_out now class by cpu) (λ b. IsBase Q now (base_of k b))
        (λ more. drained_kept most class (handed_out now class by cpu) after) (λ end. after)

    cancel_kept : (o : Option (Class × Item)) (line : ℕ) (cpu : CpuBases)
        → IsBase Q now (base_of k cpu)
        → IsBase Q now (base_of k (after_cancel o now line by cpu))
    cancel_kept None line cpu holds = holds
    cancel_kept (Some (class, item)) line cpu holds =
        changed_kept (IsBase Q now) k class (removed item.id (base_of class cpu)) cpu
        (removed_base item.id (base_of class cpu)) holds

    pub cancelled_kept : (timer line : ℕ) (cpu : CpuBases) → IsBase Q now (base_of k cpu)
        → IsBase Q now (base_of k (cancelled now timer line by cpu))
    cancelled_kept timer line cpu holds = cancel_kept (found_in timer cpu) line cpu holds

    move_kept : (o : Option Item) (class : Class) (cpu : CpuBases) → IsBase Q now (base_of k cpu)
        → IsBase Q now (base_of k (after_move_out o now class by cpu))
    move_kept None class cpu holds = holds
    move_kept (Some item) class cpu holds =
        changed_kept (IsBase Q now) k class (removed item.id (base_of class cpu)) cpu
        (removed_base item.id (base_of class cpu)) holds

    pub moved_out_kept : (class : Class) (cpu : CpuBases) → IsBase Q now (base_of k cpu)
        → IsBase Q now (base_of k (moved_out now class by cpu))
    moved_out_kept class cpu holds = move_kept (oldest_in (base_of class cpu).items) class cpu holds

-- ITEMS THAT COME: an item that is added comes before NEVER
abbrev pub Comes : Item → Type 0
Comes item = item.wheel < NEVER

module _ (now : ℕ) (in_time : now < SCRIPT_TIME_LIMIT) where
  added_base : (time id expires job arg : ℕ) (base : PlainBase) → time ≤ now + 1
      → IsBase Comes now base
      → IsBase Comes now (added id expires job arg (forwarded time base))
  added_base time id expires job arg base soon holds =
      let near = holds.near in
      let forward = clock-forwarded_le time base in
      let low : (forwarded time base).clock ≤ now + 1 = omega (arith, near, forward, soon) in
      let comes = wheel_comes expires (forwarded time base).clock (omega (arith, low, in_time)) in
      record {
        all = All-push Comes base.items (item_added (forwarded time base).clock id expires job arg)
            holds.all comes;
        near = low;
      }

  module _ (k : Class) (by : CpuId) where
    pub armed_kept : (class : Class) (timer expires job arg line : ℕ) (cpu : CpuBases)
        → IsBase Comes now (base_of k cpu)
        → IsBase Comes now (base_of k (armed now class timer expires job arg line by cpu))
    armed_kept class timer expires job arg line cpu holds =
        changed_kept (IsBase Comes now) k class
        (added timer expires job arg (forwarded now (base_of class cpu))) cpu
        (added_base now timer expires job arg (base_of class cpu) (omega arith)) holds

    pub moved_in_kept : (class : Class) (timer expires job arg : ℕ) (cpu : CpuBases)
        → IsBase Comes now (base_of k cpu)
        → IsBase Comes now (base_of k (moved_in now class timer expires job arg by cpu))
    moved_in_kept class timer expires job arg cpu holds =
        changed_kept (IsBase Comes now) k class
        (added timer expires job arg (forwarded (now + 1) (base_of class cpu))) cpu
        (added_base (now + 1) timer expires job arg (base_of class cpu) (omega arith)) holds
