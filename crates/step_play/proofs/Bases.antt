-- for crates above: the bases of a CPU: what a drain hands out, and what stays behind no clock
use Rattle.std.proofs.Common.{◌≡◌, ℕ, zero, suc, ◌+◌, ◌-◌, ◌<◌, ◌≤◌, []}
use Rattle.std.proofs.Common.{◌∷◌, length, Option, Some, None, refl, sym, ap, ◌∙◌, subst, arith}
use Rattle.std.proofs.Common.{inl, inr}
use Rattle.std.specs.Prelude.{All, is_some, if◌then◌else◌, unwrap_or}
use Rattle.std.proofs.lemmas.Bool.{cases_Bool, cases_lt}
use Rattle.std.proofs.lemmas.Bool.Decides.{nat_tests}
use Rattle.std.proofs.lemmas.List.Elements.{All-cons, All-nil, All-push, All-weaker}
use Rattle.tm_base.specs.Classes.{same_class}
use Rattle.tm_base.specs.declared.names.Class.{Class}
use Rattle.tm_base.specs.declared.names.Class.TheVariants.{Pinned, Global, Deferrable}
use Rattle.tm_base.specs.declared.names.CpuId.{CpuId}
use Rattle.tm_base.specs.declared.names.TheConstants.{NEVER, TIME_LIMIT}
use Rattle.wheel_core.specs.declared.item.Item.{Item}
use Rattle.wheel_core.specs.PlainBase.{IsDue, IsSound, NoneBehind, NoneDue, OutIsDue, PlainBase}
use Rattle.wheel_core.specs.PlainBase.{added, after_out, clock_forwarded, forwarded, least}
use Rattle.wheel_core.specs.PlainBase.{next_out, item_added, removed, taken}
use Rattle.wheel_core.specs.WheelExpiry.{cutoff, wheel_expiry_of}
use Rattle.wheel_core.proofs.Ids.{all_without, item_holds, sound_without}
use Rattle.wheel_core.proofs.Levels.{wheel_keeps_time}
use Rattle.wheel_core.proofs.Plain.{clock-forwarded_le, due_out, none_behind, none_behind_added}
use Rattle.wheel_core.proofs.Plain.{none_behind_forwarded, none_behind_removed, none_sooner}
use Rattle.cpu_bases.specs.declared.entry.Act.{Act}
use Rattle.cpu_bases.specs.ByClass.{ByClass, of_class, with_class}
use Rattle.cpu_bases.specs.CpuBases.{CpuBases, IsConsistent, after_cancel, after_hand_out}
use Rattle.cpu_bases.specs.CpuBases.{after_move_out, base_of, cancelled, drained}
use Rattle.cpu_bases.specs.CpuBases.{found_in, handed_out, moved_out, first_expiry, oldest_in, queued}
use Rattle.cpu_bases.proofs.Drains.{drain_is_whole}
use Rattle.cpu_bases.proofs.Keeping.{or_item}
use Rattle.cpu_bases.proofs.Classes.{class_is}
use Rattle.play_laws.proofs.Answered.Bases.{changed_kept}
use Rattle.play_rules.specs.Timers.{due_items, item_then}

-- each base of a CPU
abbrev pub Each : (PlainBase → Type 0) → CpuBases → Type 0
Each P cpu = (class : Class) → P (base_of class cpu)

base_changed : (class : Class) (base : PlainBase) (all : ByClass PlainBase) →
    of_class class (with_class class base all) ≡ base
base_changed Pinned base all = refl
base_changed Global base all = refl
base_changed Deferrable base all = refl

module _ (now : ℕ) (class : Class) (by : CpuId) (cpu : CpuBases) where
  pub handed_base : (item : Item) → next_out now (base_of class cpu) ≡ Some item →
      base_of class (handed_out now class by cpu) ≡ taken now (base_of class cpu)
  handed_base item is =
      ap (λ o. base_of class (after_hand_out o now class by cpu)) is
      ∙ base_changed class (taken now (base_of class cpu)) cpu.bases

  pub none_handed : next_out now (base_of class cpu) ≡ None → (k : Class) →
      base_of k (handed_out now class by cpu) ≡ base_of k cpu
  none_handed none k = ap (λ o. base_of k (after_hand_out o now class by cpu)) none

  -- a drain, one hand-out at a time
  pub drained_last : (n : ℕ) → next_out now (base_of class cpu) ≡ None →
      drained n now class by cpu ≡ handed_out now class by cpu
  drained_last zero none = refl
  drained_last (suc n) none =
      ap (λ o. if is_some o then drained n now class by (handed_out now class by cpu)
      else handed_out now class by cpu) none

  pub drained_more : (n : ℕ) (item : Item) → next_out now (base_of class cpu) ≡ Some item →
      drained (suc n) now class by cpu ≡ drained n now class by (handed_out now class by cpu)
  drained_more n item is =
      ap (λ o. if is_some o then drained n now class by (handed_out now class by cpu)
      else handed_out now class by cpu) is

pub due_last : (n now : ℕ) (base : PlainBase) → next_out now base ≡ None →
    due_items n now base ≡ []
unfolding due_items
due_last zero now base none = refl
due_last (suc n) now base none =
    ap (λ o. item_then o (due_items n now (taken now base))) none

pub due_more : (n now : ℕ) (base : PlainBase) (item : Item) → next_out now base ≡ Some item →
    due_items (suc n) now base ≡ item ∷ due_items n now (taken now base)
unfolding due_items
due_more n now base item is = ap (λ o. item_then o (due_items n now (taken now base))) is

due_zero : (now : ℕ) (base : PlainBase) → due_items 0 now base ≡ []
unfolding due_items
due_zero now base = refl

-- what holds of each item holds of those that are due
module _ (Q : Item → Type 0) where
  all_out : (base : PlainBase) (o : Option Item) → All Q base.items →
      All Q (after_out base o).items
  all_out base None all = all
  all_out base (Some item) all = all_without Q item.id base.items all

  sound_out : (base : PlainBase) (o : Option Item) → IsSound base.items →
      IsSound (after_out base o).items
  sound_out base None sound = sound
  sound_out base (Some item) sound = sound_without item.id base.items sound

  pub due_all : (n now : ℕ) (base : PlainBase) → IsSound base.items → All Q base.items →
      All Q (due_items n now base)
  due_all zero now base sound all = subst (All Q) (sym (due_zero now base)) (All-nil Q)
  due_all (suc n) now base sound all = elim (or_item (next_out now base)) [
    | inl none ↦ subst (All Q) (sym (due_last (suc n) now base none)) (All-nil Q)
    | inr there ↦
        let due : IsDue now base.items there.0 =
        subst (OutIsDue now base.items) there.1 (due_out now base sound) in
        subst (All Q) (sym (due_more n now base there.0 there.1))
        (All-cons Q there.0 (due_items n now (taken now base))
        (item_holds Q there.0.id base.items there.0 all due.queued)
        (due_all n now (taken now base) (sound_out base (next_out now base) sound)
        (all_out base (next_out now base) all)))
  ]

-- NOTHING BEHIND
module _ (cpu : CpuBases) (whole : Each NoneBehind cpu) where
  removed_whole : (class : Class) (id : ℕ) (k : Class) →
      NoneBehind (of_class k (with_class class (removed id (base_of class cpu)) cpu.bases))
  removed_whole class id k =
      changed_kept NoneBehind k class (removed id (base_of class cpu)) cpu
      (none_behind_removed id (base_of class cpu)) (whole k)

  pub cancelled_whole : (now timer line : ℕ) (by : CpuId) →
      Each NoneBehind (cancelled now timer line by cpu)
  cancelled_whole now timer line by = by_found (found_in timer cpu)
    where
      by_found : (o : Option (Class × Item)) → Each NoneBehind (after_cancel o now line by cpu)
      by_found None = whole
      by_found (Some (class, item)) = removed_whole class item.id

  pub moved_out_whole : (now : ℕ) (class : Class) (by : CpuId) →
      Each NoneBehind (moved_out now class by cpu)
  moved_out_whole now class by = by_item (oldest_in (base_of class cpu).items)
    where
      by_item : (o : Option Item) → Each NoneBehind (after_move_out o now class by cpu)
      by_item None = whole
      by_item (Some item) = removed_whole class item.id

  pub queued_whole : IsConsistent cpu → (act : Act) (line at time : ℕ) (class : Class)
      (timer expires job arg : ℕ) (by : CpuId) → time < TIME_LIMIT → expires < TIME_LIMIT →
      Each NoneBehind (queued act line at time class timer expires job arg by cpu)
  queued_whole consistent act line at time class timer expires job arg by soon in_time k =
      let base = base_of class cpu in
      let low = (consistent.fits class).clock in
      let near = clock-forwarded_le time base in
      changed_kept NoneBehind k class (added timer expires job arg (forwarded time base)) cpu
      (λ ahead. none_behind_added timer expires job arg (forwarded time base) (omega arith)
      (omega arith) (none_behind_forwarded time base ahead)) (whole k)

  -- a whole drain
  module _ (now : ℕ) (class : Class) (by : CpuId) (consistent : IsConsistent cpu)
      (in_time : now < TIME_LIMIT - 1) (n : ℕ) (few : length (base_of class cpu).items ≤ n) where
    drained_one : NoneBehind (base_of class (drained n now class by cpu))
    drained_one = elim (or_item (next_out now (base_of class cpu))) [
      | inl none ↦
          subst NoneBehind (sym (ap (base_of class) (drained_last now class by cpu n none)
          ∙ none_handed now class by cpu none class)) (whole class)
      | inr there ↦
          let base = base_of class cpu in
          let due : IsDue now base.items there.0 =
          subst (OutIsDue now base.items) there.1 (due_out now base (consistent.fits class).sound)
          in
          let ahead : base.clock ≤ there.0.wheel =
          item_holds (λ item. base.clock ≤ item.wheel) there.0.id base.items there.0
          (none_sooner base (whole class)) due.queued in
          let soon = due.due in
          (drain_is_whole n now class by cpu in_time consistent few).none_behind (omega arith)
    ]

    pub drained_whole : Each NoneBehind (drained n now class by cpu)
    drained_whole k = elim (cases_Bool (same_class class k)) [
      | inl same ↦
          subst (λ c. NoneBehind (base_of c (drained n now class by cpu))) (class_is class k same)
          drained_one
      | inr other ↦
          subst NoneBehind
          (sym ((drain_is_whole n now class by cpu in_time consistent few).hands_out.others k
          other))
          (whole k)
    ]

-- NOTHING DUE stays so as a timer is armed
forwarded_on : (now clock : ℕ) (o : Option ℕ) → ((wheel : ℕ) → o ≡ Some wheel → now < wheel) →
    now ≤ clock_forwarded now clock o
forwarded_on now clock None late = grind (arith, nat_tests)
forwarded_on now clock (Some wheel) late =
    let far = late wheel refl in grind (arith, nat_tests, far)

least_late : (now : ℕ) (base : PlainBase) → NoneDue now base.items → (wheel : ℕ) →
    least base.items ≡ Some wheel → now < wheel
least_late now base late wheel is =
    let far = none_behind (record { items = base.items; clock = now + 1 })
    (All-weaker (λ item. now < item.wheel) (λ item. now + 1 ≤ item.wheel) (λ item h. omega arith)
    base.items late) wheel is in
    omega (arith, far)

expiry_late : (now expires clock : ℕ) → now ≤ expires → now ≤ clock → expires < TIME_LIMIT →
    clock < TIME_LIMIT → now < wheel_expiry_of expires clock
expiry_late now expires clock on ahead e k =
    let keeps = wheel_keeps_time expires clock (omega (arith, e)) (omega (arith, k)) in
    elim (cases_lt expires clock) [
      | inl past ↦ let low = keeps.not_before_clock in omega (arith, past, low, on)
      | inr later ↦ elim (cases_lt (expires - clock) cutoff) [
        | inl near ↦ let low = keeps.never_early later near in omega (arith, low, on)
        | inr far ↦
            let low = keeps.at_cutoff (omega (arith, far, later)) in omega (arith, low, ahead)
      ]
    ]

pub queued_late : (cpu : CpuBases) → IsConsistent cpu → (act : Act) (line now : ℕ)
    (class k : Class) (timer expires job arg : ℕ) (by : CpuId) → now < TIME_LIMIT →
    expires < TIME_LIMIT → now ≤ expires → NoneDue now (base_of k cpu).items →
    NoneDue now
    (base_of k (queued act line now now class timer expires job arg by cpu)).items
queued_late cpu consistent act line now class k timer expires job arg by soon in_time on late =
    let base = base_of class cpu in
    let low = (consistent.fits class).clock in
    let near = clock-forwarded_le now base in
    changed_kept (λ b. NoneDue now b.items) k class
    (added timer expires job arg (forwarded now base)) cpu
    (λ none. All-push (λ item. now < item.wheel) base.items
    (item_added (forwarded now base).clock timer expires job arg) none
    (expiry_late now expires (forwarded now base).clock on
    (forwarded_on now base.clock (least base.items) (least_late now base none)) in_time
    (omega arith))) late

-- and then the first of a class is still to come
pub first_late : (now : ℕ) (class : Class) (cpu : CpuBases) → now < NEVER →
    NoneDue now (base_of class cpu).items → now < first_expiry class cpu
first_late now class cpu low late =
    by_least (least (base_of class cpu).items) (least_late now (base_of class cpu) late)
  where
    by_least : (o : Option ℕ) → ((wheel : ℕ) → o ≡ Some wheel → now < wheel) →
        now < unwrap_or o NEVER
    by_least None far = low
    by_least (Some wheel) far = far wheel refl
