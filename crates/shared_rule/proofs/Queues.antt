-- for crates above: in which base a timer is queued after each call on a CPU's bases
use Rattle.std.proofs.Common.{◌≡◌, ◌≢◌, ℕ, ◌-◌, ◌<◌, false, List, [], ◌∷◌, Option, Some, None}
use Rattle.std.proofs.Common.{refl, sym, ap, ◌∙◌, subst, inl, inr, ne_eqb}
use Rattle.std.specs.Prelude.{◌==◌, option_map}
use Rattle.std.specs.List.{All}
use Rattle.std.proofs.lemmas.Option.{none-some, same_Some}
use Rattle.std.proofs.lemmas.Bool.{cases_Bool, cond-false, eqb-true}
use Rattle.tm_base.specs.declared.names.Class.{Class}
use Rattle.tm_base.specs.declared.names.Class.TheVariants.{Pinned, Global, Deferrable}
use Rattle.tm_base.specs.declared.names.CpuId.{CpuId}
use Rattle.tm_base.specs.declared.names.TheConstants.{TIME_LIMIT}
use Rattle.wheel_core.specs.declared.item.Item.{Item}
use Rattle.wheel_core.specs.PlainBase.{OutIsDue, PlainBase, added, forwarded, item_of, next_out}
use Rattle.wheel_core.specs.PlainBase.{after_out, removed, without}
use Rattle.wheel_core.proofs.Plain.{due_out}
use Rattle.cpu_bases.specs.declared.entry.Act.TheVariants as acts
use Rattle.cpu_bases.specs.declared.entry.Entry.{Entry}
use Rattle.cpu_bases.specs.Journals.{arming_of, queued_by}
use Rattle.cpu_bases.specs.CpuBases.{CpuBases, IsConsistent, after_cancel, after_hand_out, armed}
use Rattle.cpu_bases.specs.CpuBases.{base_of, cancelled, changed, class_in, entry_of, found_in}
use Rattle.cpu_bases.specs.CpuBases.{found_or, handed_out, item_queued}
use Rattle.cpu_bases.specs.Laws.{MayQueue}
use Rattle.cpu_bases.proofs.Classes.{each_with, of_class-with}
use Rattle.cpu_bases.proofs.Consistent.{base_none}
use Rattle.cpu_bases.proofs.Keeping.{arming_keeps, found_at, handing_out_keeps}
use Rattle.cpu_bases.proofs.Keeping.{nowhere}
use Rattle.cpu_bases.proofs.Keyed.{found_all, none_dropped, push_other, push_own}
use Rattle.cpu_bases.proofs.Legal.{distinct_from, ended_is, queued_push}
use Rattle.cpu_bases.proofs.Queued.{queued_once}

-- where each base has the same of a timer, it is queued in the same
same_class_in : (t : ℕ) (old new : CpuBases)
    → ((k : Class) → item_of t (base_of k new).items ≡ item_of t (base_of k old).items)
    → class_in t new ≡ class_in t old
same_class_in t old new same =
    let p = same Pinned in
    let g = same Global in
    let d = same Deferrable in
    λ i. option_map (λ (found : Class × Item). found.0)
    (found_or Pinned (p i) (found_or Global (g i) (found_or Deferrable (d i) None)))

changed_else : (t : ℕ) (class : Class) (base : PlainBase) (e : Entry) (cpu : CpuBases)
    → item_of t base.items ≡ item_of t (base_of class cpu).items
    → class_in t (changed class base e cpu) ≡ class_in t cpu
changed_else t class base e cpu here =
    same_class_in t cpu (changed class base e cpu)
    (each_with (λ k b. item_of t b.items ≡ item_of t (base_of k cpu).items) class base cpu.bases
    here (λ k other. refl))

without_other : (t id : ℕ) (items : List Item) → (id == t) ≡ false
    → item_of t (without id items) ≡ item_of t items
without_other t id [] apart = refl
without_other t id (item ∷ items) apart = elim (cases_Bool (item.id == id)) [
  | inl here ↦
      let away = ap (λ j. j == t) (eqb-true item.id id here) ∙ apart in
      rw here (sym (cond-false (item.id == t) (Some item) (item_of t items) away))
  | inr there ↦
      rw there
      (elim (cases_Bool (item.id == t)) [
        | inl it ↦ rw it refl
        | inr past ↦ rw past (without_other t id items apart)
      ])
]

removed_else : (t : ℕ) (class : Class) (item : Item) (e : Entry) (cpu : CpuBases) → t ≢ item.id
    → class_in t (changed class (removed item.id (base_of class cpu)) e cpu) ≡ class_in t cpu
removed_else t class item e cpu ne =
    changed_else t class (removed item.id (base_of class cpu)) e cpu
    (without_other t item.id (base_of class cpu).items (ne_eqb item.id t (λ z. ne (sym z))))

-- a timer that is queued in a class is found there
pub found_there : (m : Option (Class × Item)) (class : Class)
    → option_map (λ (found : Class × Item). found.0) m ≡ Some class
    → (item : Item) × (m ≡ Some (class, item))
found_there None class is = absurd (none-some class is)
found_there (Some (k, item)) class is =
    (item, λ i. Some (same_Some k class is i, item))

-- what holds of all items of its base holds of its own
pub queued_all : (P : Item → Type 0) (t : ℕ) (class : Class) (cpu : CpuBases)
    → class_in t cpu ≡ Some class → All P (base_of class cpu).items
    → (item : Item) × (item.id ≡ t) × P item
queued_all P t class cpu is all =
    let found = found_there (found_in t cpu) class is in
    let at = found_at t class found.0 cpu found.1 in (
      found.0,
      at.same,
      found_all (λ (i : Item). i.id) P t (base_of class cpu).items found.0 all at.found,
    )

-- ARMING
pub armed_else : (now : ℕ) (class : Class) (timer expires job arg line : ℕ) (by : CpuId)
    (cpu : CpuBases) (t : ℕ) → t ≢ timer
    → class_in t (armed now class timer expires job arg line by cpu) ≡ class_in t cpu
armed_else now class timer expires job arg line by cpu t ne =
    let item = item_queued now class timer expires job arg cpu in
    changed_else t class (added timer expires job arg (forwarded now (base_of class cpu)))
    (entry_of acts.Armed line now class item by) cpu
    (push_other (λ (i : Item). i.id) t (base_of class cpu).items
    item (ne_eqb timer t (λ z. ne (sym z))))

pub armed_here : (now : ℕ) (class : Class) (timer expires job arg line : ℕ) (by : CpuId)
    (cpu : CpuBases) → IsConsistent cpu → MayQueue now class timer expires cpu
    → class_in timer (armed now class timer expires job arg line by cpu) ≡ Some class
armed_here now class timer expires job arg line by cpu consistent may =
    let new = armed now class timer expires job arg line by cpu in
    let item = item_queued now class timer expires job arg cpu in
    let base = added timer expires job arg (forwarded now (base_of class cpu)) in
    ap (option_map (λ (found : Class × Item). found.0))
    (queued_once new timer class item
    (arming_keeps now class timer expires job arg line by cpu consistent may).0
    (ap (λ (b : PlainBase). item_of timer b.items) (of_class-with class base cpu.bases)
    ∙ push_own (λ (i : Item). i.id) (base_of class cpu).items item
    (base_none cpu timer may.not_queued class)))

-- CANCELLING
cancel_else : (now timer line : ℕ) (by : CpuId) (cpu : CpuBases) (found : Option (Class × Item))
    → found_in timer cpu ≡ found → (t : ℕ) → t ≢ timer
    → class_in t (after_cancel found now line by cpu) ≡ class_in t cpu
cancel_else now timer line by cpu None is t ne = refl
cancel_else now timer line by cpu (Some (class, item)) is t ne =
    removed_else t class item (entry_of acts.Cancelled line now class item by) cpu
    (λ z. ne (z ∙ (found_at timer class item cpu is).same))

pub cancelled_else : (now timer line : ℕ) (by : CpuId) (cpu : CpuBases) (t : ℕ) → t ≢ timer
    → class_in t (cancelled now timer line by cpu) ≡ class_in t cpu
cancelled_else now timer line by cpu = cancel_else now timer line by cpu (found_in timer cpu) refl

-- HANDING OUT
module _ (now : ℕ) (class : Class) (by : CpuId) (cpu : CpuBases) (item : Item)
    (out : next_out now (base_of class cpu) ≡ Some item) where
  abbrev entry : Entry
  entry = entry_of acts.Handed 0 now class item by

  -- the bases once it has gone out
  abbrev pub handed : CpuBases
  handed = changed class (after_out (base_of class cpu) (Some item)) entry cpu

  pub handed_is : handed_out now class by cpu ≡ handed
  handed_is =
      ap (λ m. after_hand_out m now class by cpu) out
      ∙ ap (λ m. changed class (after_out (base_of class cpu) m) entry cpu) out

  -- what goes out is queued
  pub handed_was : IsConsistent cpu → class_in item.id cpu ≡ Some class
  handed_was consistent =
      let base = base_of class cpu in
      let due = subst (OutIsDue now base.items) out
      (due_out now base (consistent.fits class).sound) in
      ap (option_map (λ (found : Class × Item). found.0))
      (queued_once cpu item.id class item consistent due.queued)

  -- and then it isn't
  pub handed_gone : now < TIME_LIMIT - 1 → IsConsistent cpu → class_in item.id handed ≡ None
  handed_gone in_time consistent =
      let before = queued_by cpu.journal in
      let distinct = distinct_from [] cpu.journal tt consistent.each_may_follow in
      nowhere item.id handed
      (subst IsConsistent handed_is (handing_out_keeps now class by cpu in_time consistent).0)
      (ap (arming_of item.id) (queued_push [] cpu.journal entry)
      ∙ (ap (arming_of item.id) (ended_is item.id before)
      ∙ none_dropped (λ (e : Entry). e.timer.0) item.id before distinct))

  pub handed_else : (t : ℕ) → t ≢ item.id → class_in t handed ≡ class_in t cpu
  handed_else t ne =
      changed_else t class (after_out (base_of class cpu) (Some item)) entry cpu
      (without_other t item.id (base_of class cpu).items (ne_eqb item.id t (λ z. ne (sym z))))
