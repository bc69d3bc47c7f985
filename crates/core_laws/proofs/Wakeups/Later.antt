-- a CPU's bases that lose items have no event sooner than before
use Rattle.std.proofs.Common.{◌≡◌, ℕ, ◌≤◌, min, List, [], ◌∷◌, Option, Some, None, refl, ap, inl, inr, arith}
use Rattle.std.specs.Prelude.{◌==◌, unwrap_or, All}
use Rattle.std.proofs.lemmas.Bool.{cases_Bool, cond-true, cond-false}
use Rattle.std.proofs.lemmas.List.Elements.{All-head, All-tail, All-weaker}
use Rattle.tm_base.specs.declared.names.TheConstants.{NEVER}
use Rattle.tm_base.specs.declared.names.Class.{Class}
use Rattle.tm_base.specs.declared.names.Class.TheVariants.{Pinned, Global, Deferrable}
use Rattle.tm_base.specs.declared.names.CpuId.{CpuId}
use Rattle.wheel_core.specs.declared.item.Item.{Item}
use Rattle.wheel_core.specs.PlainBase.{PlainBase, FitsWheel, after_out, least, next_out, sooner, without}
use Rattle.cpu_bases.specs.declared.entry.Entry.{Entry}
use Rattle.cpu_bases.specs.CpuBases.{CpuBases, IsConsistent, after_cancel, after_hand_out, base_of, cancelled, changed, events_of, found_in, handed_out}
use Rattle.core_world.specs.Steps.{handed_of}

abbrev pub first_in : List Item → ℕ
first_in items = unwrap_or (least items) NEVER

abbrev pub InTime : List Item → Type 0
InTime items = All (λ item. item.wheel ≤ NEVER) items

-- the least expiry of a first item and others
with_first : (wheel : ℕ) (others : Option ℕ) → wheel ≤ NEVER → sooner wheel others ≡ min wheel (unwrap_or others NEVER)
with_first wheel None low = omega arith
with_first wheel (Some other) low = refl

pub first_low : (items : List Item) → InTime items → first_in items ≤ NEVER
first_low [] low = omega arith
first_low (item ∷ items) low =
    let head = All-head (λ item. item.wheel ≤ NEVER) item items low in
    let value = with_first item.wheel (least items) head in
    omega (arith, value, head)

pub without_later : (id : ℕ) (items : List Item) → InTime items → first_in items ≤ first_in (without id items)
without_later id [] low = omega arith
without_later id (item ∷ items) low =
    let head = All-head (λ item. item.wheel ≤ NEVER) item items low in
    let tail = All-tail (λ item. item.wheel ≤ NEVER) item items low in
    let value = with_first item.wheel (least items) head in
    elim (cases_Bool (item.id == id)) [
      | inl here ↦
          let is : first_in (without id (item ∷ items)) ≡ first_in items = ap first_in (cond-true (item.id == id) items (item ∷ without id items) here) in
          omega (arith, value, is)
      | inr other ↦
          let is : first_in (without id (item ∷ items)) ≡ first_in (item ∷ without id items) = ap first_in (cond-false (item.id == id) items (item ∷ without id items) other) in
          let rest = without_later id items tail in
          let new = with_first item.wheel (least (without id items)) head in
          omega (arith, value, is, rest, new)
    ]

pub record NoSooner (old new : CpuBases) : Type 0 where
  pub pin : (events_of old).pin ≤ (events_of new).pin
  pub first_global : (events_of old).first_global ≤ (events_of new).first_global

pub as_before : (cpu : CpuBases) → NoSooner cpu cpu
as_before cpu = record { pin = omega arith; first_global = omega arith }

changed_later : (class : Class) (base : PlainBase) (entry : Entry) (cpu : CpuBases) → first_in (base_of class cpu).items ≤ first_in base.items → NoSooner cpu (changed class base entry cpu)
changed_later Pinned base entry cpu h = record { pin = h; first_global = omega arith }
changed_later Global base entry cpu h = record { pin = omega arith; first_global = h }
changed_later Deferrable base entry cpu h = record { pin = omega arith; first_global = omega arith }

pub in_time : (cpu : CpuBases) → IsConsistent cpu → (class : Class) → InTime (base_of class cpu).items
in_time cpu consistent class = All-weaker FitsWheel (λ item. item.wheel ≤ NEVER) (λ item placed. omega (arith, placed.wheel)) (base_of class cpu).items (consistent.fits class).sound.in_wheel

out_later : (base : PlainBase) (out : Option Item) → InTime base.items → first_in base.items ≤ first_in (after_out base out).items
out_later base None low = omega arith
out_later base (Some item) low = without_later item.id base.items low

module _ (cpu : CpuBases) (consistent : IsConsistent cpu) where
  cancel_later : (found : Option (Class × Item)) (now line : ℕ) (by : CpuId) → NoSooner cpu (after_cancel found now line by cpu)
  cancel_later None now line by = as_before cpu
  cancel_later (Some m) now line by = changed_later m.0 _ _ cpu (without_later m.1.id (base_of m.0 cpu).items (in_time cpu consistent m.0))

  pub cancelled_later : (now timer line : ℕ) (by : CpuId) → NoSooner cpu (cancelled now timer line by cpu)
  cancelled_later now timer line by = cancel_later (found_in timer cpu) now line by

  hand_later : (out : Option Item) (now : ℕ) (class : Class) (by : CpuId) → NoSooner cpu (after_hand_out out now class by cpu)
  hand_later None now class by = record { pin = omega arith; first_global = omega arith }
  hand_later (Some item) now class by = changed_later class _ _ cpu (out_later (base_of class cpu) (next_out now (base_of class cpu)) (in_time cpu consistent class))

  pub out_of : (now : ℕ) (class : Class) (by : CpuId) → NoSooner cpu (handed_out now class by cpu)
  out_of now class by = hand_later (next_out now (base_of class cpu)) now class by

  pub handed_later : (now : ℕ) (class : Option Class) (by : CpuId) → NoSooner cpu (handed_of now class by cpu)
  handed_later now None by = as_before cpu
  handed_later now (Some class) by = out_of now class by
