-- for crates above: bases and journal stay consistent through each kind of entry
use Rattle.std.proofs.Common.{◌≡◌, ℕ, ◌^◌, ◌<◌, ◌≤◌, true, false, List, [], ◌∷◌, ◌++◌}
use Rattle.std.proofs.Common.{Option, Some, None, refl, ap, subst, sym, ◌∙◌, arith, inl, inr}
use Rattle.std.specs.Prelude.{◌==◌, map, IsSomeAnd, option_map}
use Rattle.std.specs.List.{All}
use Rattle.std.proofs.lemmas.Option.{none-some}
use Rattle.std.proofs.lemmas.Bool.{cases_Bool, cond-true, cond-false}
use Rattle.std.proofs.lemmas.List.{append-nil}
use Rattle.std.proofs.lemmas.List.Elements.{All-push, filter-append}
use Rattle.tm_base.specs.Classes.{same_class}
use Rattle.tm_base.specs.declared.names.Class.{Class}
use Rattle.tm_base.specs.declared.names.Class.TheVariants.{Pinned, Global, Deferrable}
use Rattle.tm_base.specs.declared.names.CpuId.{CpuId}
use Rattle.tm_base.specs.declared.names.TheConstants.{TIME_LIMIT}
use Rattle.wheel_core.specs.declared.item.Item.{Item}
use Rattle.wheel_core.specs.PlainBase.{FitsWheel, IsSound, NoneDue, PlainBase, added, forwarded}
use Rattle.wheel_core.specs.PlainBase.{item_of, without}
use Rattle.wheel_core.proofs.Ids.{all_without, item_holds, sound_without}
use Rattle.wheel_core.proofs.Plain.{clock-forwarded_le, placed_in_range, sound_added}
use Rattle.cpu_bases.specs.declared.entry.Act.{Act}
use Rattle.cpu_bases.specs.declared.entry.Entry.{Entry}
use Rattle.cpu_bases.specs.Journals.{Agrees, EndsOne, MayFollow, arming_of, ended}
use Rattle.cpu_bases.specs.Journals.{entries_of, queued_after, queued_by, told_by_entry}
use Rattle.cpu_bases.specs.Journals.{told_by_item}
use Rattle.cpu_bases.specs.CpuBases.{BaseFits, CpuBases, IsConsistent, base_of, changed, class_in}
use Rattle.cpu_bases.specs.CpuBases.{entry_of, found_or, item_queued, queued}
use Rattle.cpu_bases.specs.CpuBases.{ticked_entry, written}
use Rattle.cpu_bases.proofs.Classes.{class_is, class_itself, each_with}
use Rattle.cpu_bases.proofs.Keyed.{found_kept, found_whole, kept_drop, kept_other, none_tail}
use Rattle.cpu_bases.proofs.Legal.{distinct_from, ended_is, follow_push, queued_push}
use Rattle.cpu_bases.proofs.Agreeing.{agreed_found, agreed_gone, agreed_later, agreed_none}
use Rattle.cpu_bases.proofs.Agreeing.{agreed_push}

-- a timer that is in none of the bases isn't queued by the journal
none_of_each : (timer : ℕ) (queued : List Entry)
    → ((class : Class) → arming_of timer (entries_of class queued) ≡ None)
    → arming_of timer queued ≡ None
none_of_each timer [] none = refl
none_of_each timer (first ∷ queued) none =
    elim (cases_Bool (first.timer.0 == timer)) [
      | inl here ↦
          absurd (none-some first (sym (rw (class_itself first.class, here) at (none first.class))))
      | inr there ↦
          rw there
          (none_of_each timer queued
          (λ class. none_tail (λ e. e.timer.0) (λ e. same_class e.class class) timer first queued
          (none class)))
    ]

or_none : (class : Class) (here : Option Item) (others : Option (Class × Item))
    → option_map (λ found. found.0) (found_or class here others) ≡ None
    → (here ≡ None) × (option_map (λ found. found.0) others ≡ None)
or_none class None others none = (refl, none)
or_none class (Some item) others none = absurd (none-some class (sym none))

pub base_none : (cpu : CpuBases) (timer : ℕ) → class_in timer cpu ≡ None → (class : Class)
    → item_of timer (base_of class cpu).items ≡ None
base_none cpu timer none =
    let pinned = or_none Pinned (item_of timer cpu.bases.pinned.items) _ none in
    let global = or_none Global (item_of timer cpu.bases.global.items) _ pinned.1 in
    let deferrable = or_none Deferrable (item_of timer cpu.bases.deferrable.items) _ global.1 in
    by_class pinned.0 global.0 deferrable.0
  where
    by_class : item_of timer cpu.bases.pinned.items ≡ None
        → item_of timer cpu.bases.global.items ≡ None
        → item_of timer cpu.bases.deferrable.items ≡ None → (class : Class)
        → item_of timer (base_of class cpu).items ≡ None
    by_class p g d Pinned = p
    by_class p g d Global = g
    by_class p g d Deferrable = d

pub not_queued : (cpu : CpuBases) (timer : ℕ) → IsConsistent cpu → class_in timer cpu ≡ None
    → arming_of timer (queued_by cpu.journal) ≡ None
not_queued cpu timer consistent none =
    let queued = queued_by cpu.journal in
    none_of_each timer queued
    (λ class.
    agreed_none (base_of class cpu).items (entries_of class queued) (consistent.agrees class) timer
    (base_none cpu timer none class))

-- a timer that is found in a base, and its arming
pub record IsQueued (cpu : CpuBases) (class : Class) (item : Item) : Type 0 where
  pub arming : Entry
  pub found : arming_of item.id (queued_by cpu.journal) ≡ Some arming
  pub class_is : arming.class ≡ class
  pub in_class : same_class arming.class class ≡ true
  pub told : told_by_entry arming ≡ told_by_item item

pub queued_item : (cpu : CpuBases) (class : Class) (item : Item) → IsConsistent cpu
    → item_of item.id (base_of class cpu).items ≡ Some item → IsQueued cpu class item
queued_item cpu class item consistent found =
    let queued = queued_by cpu.journal in
    let armed = agreed_found (base_of class cpu).items (entries_of class queued)
    (consistent.agrees class) item.id item found in
    let distinct = distinct_from [] cpu.journal tt consistent.each_may_follow in
    let in_class =
    found_kept (λ e. e.timer.0) (λ e. same_class e.class class) item.id queued armed.0 armed.1 in
    record {
      arming = armed.0;
      found =
          found_whole (λ e. e.timer.0) (λ e. same_class e.class class) item.id queued armed.0
          distinct armed.1;
      class_is = class_is armed.0.class class in_class;
      in_class = in_class;
      told = armed.2;
    }

-- CHANGES: the base of a class is changed and an entry is written, by which these are queued
pub keeps_changed : (class : Class) (base : PlainBase) (entry : Entry) (cpu : CpuBases)
    (after : List Entry) → IsConsistent cpu → MayFollow entry.act (queued_by cpu.journal) entry
    → queued_after entry.act (queued_by cpu.journal) entry ≡ after
    → map told_by_item base.items ≡ map told_by_entry (entries_of class after)
    → ((k : Class) → same_class class k ≡ false
    → entries_of k after ≡ entries_of k (queued_by cpu.journal))
    → BaseFits base → entry.wheel ≤ TIME_LIMIT → IsConsistent (changed class base entry cpu)
keeps_changed class base entry cpu after consistent may is own others fits in_time =
    let after_is = queued_push [] cpu.journal entry ∙ is in
    record {
      each_may_follow = follow_push [] cpu.journal entry consistent.each_may_follow may;
      agrees =
          each_with (λ k b. Agrees k b.items (cpu.journal ++ entry ∷ [])) class base cpu.bases
          (own ∙ ap (λ q. map told_by_entry (entries_of class q)) (sym after_is))
          (λ k other.
          consistent.agrees k
          ∙ ap (map told_by_entry) (sym (ap (entries_of k) after_is ∙ others k other)));
      fits = each_with (λ k b. BaseFits b) class base cpu.bases fits (λ k other. consistent.fits k);
      in_time = All-push (λ e. e.wheel ≤ TIME_LIMIT) cpu.journal entry consistent.in_time in_time;
    }

-- QUEUEING, by an act that is an arming
pub keeps_queued : (act : Act) (line at time : ℕ) (class : Class) (timer expires job arg : ℕ)
    (by : CpuId) (cpu : CpuBases)
    → ((queued : List Entry) (entry : Entry) → arming_of entry.timer.0 queued ≡ None
    → MayFollow act queued entry)
    → ((queued : List Entry) (entry : Entry)
    → queued_after act queued entry ≡ queued ++ entry ∷ [])
    → IsConsistent cpu → class_in timer cpu ≡ None → timer < 2 ^ 16 → expires < TIME_LIMIT
    → time < TIME_LIMIT
    → IsConsistent (queued act line at time class timer expires job arg by cpu)
keeps_queued act line at time class timer expires job arg by cpu follows longer consistent none
    timer_fits expires_fits time_fits =
    let base = base_of class cpu in
    let item = item_queued time class timer expires job arg cpu in
    let entry = entry_of act line at class item by in
    let before = queued_by cpu.journal in
    let fits = consistent.fits class in
    let near = clock-forwarded_le time base in
    let clock_fits = fits.clock in
    let clock : (forwarded time base).clock < TIME_LIMIT = omega arith in
    let placed = placed_in_range (forwarded time base).clock timer expires job arg expires_fits
    clock in
    keeps_changed class (added timer expires job arg (forwarded time base)) entry cpu
    (before ++ entry ∷ []) consistent (follows before entry (not_queued cpu timer consistent none))
    (longer before entry)
    (agreed_push base.items (entries_of class before) (consistent.agrees class) item entry refl
    ∙ ap (map told_by_entry)
    (sym (filter-append (λ e. same_class e.class class) before (entry ∷ [])
    ∙ ap (λ rest. entries_of class before ++ rest)
    (cond-true (same_class class class) (entry ∷ []) [] (class_itself class)))))
    (λ k other.
    filter-append (λ e. same_class e.class k) before (entry ∷ [])
    ∙ (ap (λ rest. entries_of k before ++ rest)
    (cond-false (same_class class k) (entry ∷ []) [] other)
    ∙ append-nil (entries_of k before)))
    (record {
      clock = clock;
      sound =
          sound_added timer expires job arg (forwarded time base) expires_fits clock
          (base_none cpu timer none class) fits.sound;
      timers = All-push (λ i. i.id < 2 ^ 16) base.items item fits.timers timer_fits;
    }) placed.wheel

-- GOING, by an act that is an end
pub keeps_gone : (act : Act) (line at : ℕ) (class : Class) (item : Item) (by : CpuId)
    (base : PlainBase) (cpu : CpuBases)
    → ((queued : List Entry) (entry : Entry) → EndsOne queued entry → entry.at ≡ at
    → entry.wheel ≡ item.wheel → MayFollow act queued entry)
    → ((queued : List Entry) (entry : Entry)
    → queued_after act queued entry ≡ ended entry.timer.0 queued)
    → IsConsistent cpu → item_of item.id (base_of class cpu).items ≡ Some item
    → base.items ≡ without item.id (base_of class cpu).items → base.clock < TIME_LIMIT
    → IsConsistent (changed class base (entry_of act line at class item by) cpu)
keeps_gone act line at class item by base cpu follows shorter consistent found left clock_fits =
    let entry = entry_of act line at class item by in
    let key = λ (e : Entry). e.timer.0 in
    let before = queued_by cpu.journal in
    let items = (base_of class cpu).items in
    let agreed = consistent.agrees class in
    let fits = consistent.fits class in
    let there = queued_item cpu class item consistent found in
    let ends : EndsOne before entry =
    subst (λ o. IsSomeAnd o (λ a. (a.class ≡ class) × (a.wheel ≡ item.wheel))) (sym there.found)
    (there.class_is, ap (λ told. told.wheel) there.told) in
    keeps_changed class base entry cpu (ended item.id before) consistent
    (follows before entry ends refl refl) (shorter before entry)
    (ap (map told_by_item) left
    ∙ (agreed_gone items (entries_of class before) agreed item.id
    ∙ ap (map told_by_entry)
    (ended_is item.id (entries_of class before)
    ∙ (sym (kept_drop key (λ e. same_class e.class class) item.id before there.arming there.found
    there.in_class)
    ∙ sym (ap (entries_of class) (ended_is item.id before))))))
    (λ k other.
    ap (entries_of k) (ended_is item.id before)
    ∙ kept_other key (λ e. same_class e.class k) item.id before there.arming there.found
    (ap (λ c. same_class c k) there.class_is ∙ other))
    (record {
      clock = clock_fits;
      sound = subst IsSound (sym left) (sound_without item.id items fits.sound);
      timers = subst (All (λ i. i.id < 2 ^ 16)) (sym left)
          (all_without (λ i. i.id < 2 ^ 16) item.id items fits.timers);
    }) (item_holds FitsWheel item.id items item fits.sound.in_wheel found).wheel

-- DRAINED: nothing of the class is due
pub keeps_ticked : (now : ℕ) (class : Class) (by : CpuId) (cpu : CpuBases) → IsConsistent cpu
    → NoneDue now (base_of class cpu).items → now ≤ TIME_LIMIT
    → IsConsistent (written (ticked_entry now class by) cpu)
keeps_ticked now class by cpu consistent none now_fits =
    let entry = ticked_entry now class by in
    let before = queued_by cpu.journal in
    record {
      each_may_follow =
          follow_push [] cpu.journal entry consistent.each_may_follow
          (agreed_later (base_of class cpu).items (entries_of class before)
          (consistent.agrees class) now none);
      agrees = λ k.
          consistent.agrees k
          ∙ ap (λ q. map told_by_entry (entries_of k q)) (sym (queued_push [] cpu.journal entry));
      fits = consistent.fits;
      in_time = All-push (λ e. e.wheel ≤ TIME_LIMIT) cpu.journal entry consistent.in_time now_fits;
    }
