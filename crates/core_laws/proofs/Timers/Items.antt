-- what holds of the id of each queued timer, as calls queue one and take one out
use Rattle.std.proofs.Common.{◌≡◌, ℕ, List, [], ◌∷◌, Option, Some, None, sym, ap, ◌∙◌, subst, inl}
use Rattle.std.proofs.Common.{inr}
use Rattle.std.specs.Prelude.{option_map, All}
use Rattle.std.proofs.lemmas.Bool.{eqb-false}
use Rattle.std.proofs.lemmas.List.Elements.{All-cons, All-nil, All-push}
use Rattle.std.proofs.lemmas.Option.{none-some, same_Some}
use Rattle.tm_base.specs.declared.names.Class.{Class}
use Rattle.tm_base.specs.declared.names.Class.TheVariants.{Pinned, Global, Deferrable}
use Rattle.tm_base.specs.declared.names.CpuId.{CpuId}
use Rattle.wheel_core.specs.declared.item.Item.{Item}
use Rattle.wheel_core.specs.PlainBase.{PlainBase, added, after_out, forwarded, item_of, next_out}
use Rattle.wheel_core.specs.PlainBase.{removed, taken}
use Rattle.wheel_core.proofs.Ids.{all_without, item_holds, item_of_first, item_of_rest}
use Rattle.cpu_bases.specs.declared.entry.Act.{Act}
use Rattle.cpu_bases.specs.ByClass.{ByClass, of_class, with_class}
use Rattle.cpu_bases.specs.CpuBases.{CpuBases, IsConsistent, after_cancel, after_hand_out}
use Rattle.cpu_bases.specs.CpuBases.{after_move_out}
use Rattle.cpu_bases.specs.CpuBases.{base_of, cancelled, class_in, found_in, handed_out}
use Rattle.cpu_bases.specs.CpuBases.{item_queued, moved_out, oldest_in, queued}
use Rattle.cpu_bases.proofs.Queued.{queued_once}
use Rattle.cpu_bases.proofs.Keeping.{found_at, or_item}

-- of the id of each item of each base
abbrev pub Each : (ℕ → Type 0) → CpuBases → Type 0
Each Q cpu = (class : Class) → All (λ item. Q item.id) (base_of class cpu).items

-- what holds of the new base of a class, and of the others, holds of each
each_class : {A : Type 0} (P : A → Type 0) (class : Class) (one : A) (all : ByClass A) → P one
    → ((k : Class) → P (of_class k all)) → (k : Class) → P (of_class k (with_class class one all))
each_class P Pinned one all own others Pinned = own
each_class P Pinned one all own others Global = others Global
each_class P Pinned one all own others Deferrable = others Deferrable
each_class P Global one all own others Pinned = others Pinned
each_class P Global one all own others Global = own
each_class P Global one all own others Deferrable = others Deferrable
each_class P Deferrable one all own others Pinned = others Pinned
each_class P Deferrable one all own others Global = others Global
each_class P Deferrable one all own others Deferrable = own

-- whatever entry tells it
each_changed : (Q : ℕ → Type 0) (class : Class) (base : PlainBase) (cpu : CpuBases) → Each Q cpu
    → All (λ item. Q item.id) base.items → (k : Class)
    → All (λ item. Q item.id) (of_class k (with_class class base cpu.bases)).items
each_changed Q class base cpu each all =
    each_class (λ b. All (λ item. Q item.id) b.items) class base cpu.bases all each

-- QUEUEING adds one
pub each_queued : (Q : ℕ → Type 0) (act : Act) (line at time : ℕ) (class : Class)
    (timer expires job arg : ℕ) (by : CpuId) (cpu : CpuBases) → Each Q cpu → Q timer
    → Each Q (queued act line at time class timer expires job arg by cpu)
each_queued Q act line at time class timer expires job arg by cpu each one =
    each_changed Q class (added timer expires job arg (forwarded time (base_of class cpu))) cpu each
    (All-push (λ item. Q item.id) (base_of class cpu).items
    (item_queued time class timer expires job arg cpu) (each class) one)

-- GOING takes one out
each_removed : (Q : ℕ → Type 0) (class : Class) (id : ℕ) (cpu : CpuBases) → Each Q cpu → (k : Class)
    → All (λ item. Q item.id) (of_class k (with_class class (removed id (base_of class cpu))
    cpu.bases)).items
each_removed Q class id cpu each = each_changed Q class (removed id (base_of class cpu)) cpu each
    (all_without (λ item. Q item.id) id (base_of class cpu).items (each class))

each_cancel : (Q : ℕ → Type 0) (found : Option (Class × Item)) (now line : ℕ) (by : CpuId)
    (cpu : CpuBases) → Each Q cpu → Each Q (after_cancel found now line by cpu)
each_cancel Q None now line by cpu each = each
each_cancel Q (Some (class, item)) now line by cpu each = each_removed Q class item.id cpu each

pub each_cancelled : (Q : ℕ → Type 0) (now timer line : ℕ) (by : CpuId) (cpu : CpuBases)
    → Each Q cpu → Each Q (cancelled now timer line by cpu)
each_cancelled Q now timer line by cpu each = each_cancel Q (found_in timer cpu) now line by cpu
    each

each_move_out : (Q : ℕ → Type 0) (out : Option Item) (now : ℕ) (class : Class) (by : CpuId)
    (cpu : CpuBases) → Each Q cpu → Each Q (after_move_out out now class by cpu)
each_move_out Q None now class by cpu each = each
each_move_out Q (Some item) now class by cpu each = each_removed Q class item.id cpu each

pub each_moved_out : (Q : ℕ → Type 0) (now : ℕ) (class : Class) (by : CpuId) (cpu : CpuBases)
    → Each Q cpu → Each Q (moved_out now class by cpu)
each_moved_out Q now class by cpu each = each_move_out Q (oldest_in (base_of class cpu).items) now
    class by cpu each

all_out : (P : Item → Type 0) (base : PlainBase) (out : Option Item) → All P base.items
    → All P (after_out base out).items
all_out P base None all = all
all_out P base (Some item) all = all_without P item.id base.items all

each_hand_out : (Q : ℕ → Type 0) (out : Option Item) (now : ℕ) (class : Class) (by : CpuId)
    (cpu : CpuBases) → Each Q cpu → Each Q (after_hand_out out now class by cpu)
each_hand_out Q None now class by cpu each = each
each_hand_out Q (Some item) now class by cpu each =
    each_changed Q class (taken now (base_of class cpu)) cpu each
    (all_out (λ i. Q i.id) (base_of class cpu) (next_out now (base_of class cpu)) (each class))

pub each_handed_out : (Q : ℕ → Type 0) (now : ℕ) (class : Class) (by : CpuId) (cpu : CpuBases)
    → Each Q cpu → Each Q (handed_out now class by cpu)
each_handed_out Q now class by cpu each = each_hand_out Q (next_out now (base_of class cpu)) now
    class by cpu each

-- A TIMER that isn't queued is none of the items', and the other way round
none_is : (timer : ℕ) (items : List Item) → item_of timer items ≡ None
    → All (λ item. item.id ≡ timer → ⊥) items
none_is timer [] none = All-nil (λ (item : Item). item.id ≡ timer → ⊥)
none_is timer (first ∷ items) none =
    All-cons (λ item. item.id ≡ timer → ⊥) first items
    (eqb-false first.id timer (item_of_first timer first items none))
    (none_is timer items (item_of_rest timer first items none))

base_none : (timer : ℕ) (cpu : CpuBases) → IsConsistent cpu → class_in timer cpu ≡ None
    → (class : Class) → item_of timer (base_of class cpu).items ≡ None
base_none timer cpu consistent none class =
    elim (or_item (item_of timer (base_of class cpu).items)) [
      | inl is ↦ is
      | inr there ↦
          absurd (none-some class (sym none ∙ ap (option_map (λ found. found.0))
          (queued_once cpu timer class there.0 consistent there.1)))
    ]

pub each_other : (timer : ℕ) (cpu : CpuBases) → IsConsistent cpu → class_in timer cpu ≡ None
    → Each (λ id. id ≡ timer → ⊥) cpu
each_other timer cpu consistent none class =
    none_is timer (base_of class cpu).items (base_none timer cpu consistent none class)

pub found_class : (timer : ℕ) (cpu : CpuBases) (class : Class) → class_in timer cpu ≡ Some class
    → (item : Item) × (found_in timer cpu ≡ Some (class, item))
found_class timer cpu class is = by_found (found_in timer cpu) class is
  where
    by_found : (m : Option (Class × Item)) (class : Class) → option_map (λ found. found.0) m ≡ Some
        class → (item : Item) × (m ≡ Some (class, item))
    by_found None class is = absurd (none-some class is)
    by_found (Some (k, item)) class is = (item, ap (λ z. Some (z, item)) (same_Some _ _ is))

pub holds_in : (Q : ℕ → Type 0) (timer : ℕ) (cpu : CpuBases) (class : Class) → Each Q cpu
    → class_in timer cpu ≡ Some class → Q timer
holds_in Q timer cpu class each is =
    let found = found_class timer cpu class is in
    let at = found_at timer class found.0 cpu found.1 in
    subst Q at.same
    (item_holds (λ i. Q i.id) timer (base_of class cpu).items found.0 (each class) at.found)
