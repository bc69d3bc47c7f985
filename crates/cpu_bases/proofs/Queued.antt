-- for crates above: queued timers were armed, each in one base of its CPU
use Rattle.std.proofs.Common.{◌≡◌, ℕ, true, List, [], ◌∷◌, Option, Some, None, refl, ap}
use Rattle.std.proofs.Common.{subst}
use Rattle.std.proofs.Common.{sym, ◌∙◌, ◌⊎◌, inl, inr, arith, min}
use Rattle.std.specs.Prelude.{◌==◌, option_map, unwrap_or}
use Rattle.std.specs.List.{All, Contains}
use Rattle.std.proofs.lemmas.Bool.{cases_Bool, cases_lt}
use Rattle.std.proofs.lemmas.List.Elements.{All-cons, All-contains_itself, All-filter, All-head}
use Rattle.std.proofs.lemmas.List.Elements.{All-map}
use Rattle.std.proofs.lemmas.List.Elements.{All-nil, All-push, All-tail, filter_passes}
use Rattle.std.proofs.lemmas.List.Elements.{All-contains, Contains-append_left}
use Rattle.std.proofs.lemmas.List.Elements.{Contains-append_right, Contains-push}
use Rattle.std.proofs.lemmas.Option.{none-some, same_Some}
use Rattle.tm_base.specs.Classes.{same_class}
use Rattle.tm_base.specs.declared.names.Class.{Class}
use Rattle.wheel_core.specs.declared.item.Item.{Item}
use Rattle.wheel_core.specs.PlainBase.{item_of, least, sooner}
use Rattle.tm_base.specs.declared.names.TheConstants.{NEVER}
use Rattle.cpu_bases.specs.declared.entry.Act.{Act}
use Rattle.cpu_bases.specs.declared.entry.Act.TheVariants.{Armed, Handed, Cancelled, MovedOut}
use Rattle.cpu_bases.specs.declared.entry.Act.TheVariants.{MovedIn, Ticked}
use Rattle.cpu_bases.specs.declared.entry.Entry.{Entry}
use Rattle.cpu_bases.specs.Journals.{QueuedTimer, arming_of, ended, entries_of, queued_after}
use Rattle.cpu_bases.specs.Journals.{queued_by}
use Rattle.cpu_bases.specs.Journals.{queued_from}
use Rattle.cpu_bases.specs.Journals.{told_by_entry, told_by_item}
use Rattle.cpu_bases.specs.CpuBases.{CpuBases, IsConsistent, base_of, found_in}
use Rattle.cpu_bases.specs.Laws.{EachWasArmed, FirstWasArmed, QueuedOnce, WasArmed, is_arming}
use Rattle.cpu_bases.proofs.Agreeing.{all_of_map}
use Rattle.cpu_bases.proofs.Classes.{class_is}
use Rattle.cpu_bases.proofs.Consistent.{base_none, queued_item}
use Rattle.cpu_bases.proofs.Keeping.{found_at}
use Rattle.cpu_bases.proofs.Keyed.{found_key}

-- an entry of a journal that arms
abbrev Arms : List Entry → Entry → Type 0
Arms journal entry = (is_arming entry.act ≡ true) × Contains journal entry

all_ended : (P : Entry → Type 0) (timer : ℕ) (queued : List Entry) → All P queued
    → All P (ended timer queued)
all_ended P timer [] all = all
all_ended P timer (first ∷ queued) all =
    elim (cases_Bool (first.timer.0 == timer)) [
      | inl here ↦ rw here (All-tail P first queued all)
      | inr there ↦
          rw there
          (All-cons P first (ended timer queued) (All-head P first queued all)
          (all_ended P timer queued (All-tail P first queued all)))
    ]

arms_after : (journal : List Entry) (act : Act) (queued : List Entry) (entry : Entry)
    → entry.act ≡ act → All (Arms journal) queued → Contains journal entry
    → All (Arms journal) (queued_after act queued entry)
arms_after journal Armed queued entry is all there =
    All-push (Arms journal) queued entry all (ap is_arming is, there)
arms_after journal MovedIn queued entry is all there =
    All-push (Arms journal) queued entry all (ap is_arming is, there)
arms_after journal Handed queued entry is all there =
    all_ended (Arms journal) entry.timer.0 queued all
arms_after journal Cancelled queued entry is all there =
    all_ended (Arms journal) entry.timer.0 queued all
arms_after journal MovedOut queued entry is all there =
    all_ended (Arms journal) entry.timer.0 queued all
arms_after journal Ticked queued entry is all there = all

arms_from : (journal queued left : List Entry) → All (Arms journal) queued
    → All (Contains journal) left → All (Arms journal) (queued_from queued left)
arms_from journal queued [] all within = all
arms_from journal queued (first ∷ left) all within =
    arms_from journal (queued_after first.act queued first) left
    (arms_after journal first.act queued first refl all
    (All-head (Contains journal) first left within))
    (All-tail (Contains journal) first left within)

-- what is queued by a journal was armed in it
pub queued_arms : (journal : List Entry) → All (Arms journal) (queued_by journal)
queued_arms journal =
    arms_from journal [] journal (All-nil (Arms journal)) (All-contains_itself journal)

abbrev ArmedAs : Class → List Entry → QueuedTimer → Type 0
ArmedAs class journal told =
    (entry : Entry) × Contains journal entry × (is_arming entry.act ≡ true)
    × (entry.class ≡ class) × (told_by_entry entry ≡ told)

pub each_was_armed : EachWasArmed
each_was_armed cpu class consistent =
    let journal = cpu.journal in
    let queued = queued_by journal in
    let arms = All-filter (λ e. same_class e.class class) (Arms journal) queued
    (queued_arms journal) in
    let of_it = filter_passes (λ e. same_class e.class class) queued in
    let armed : All (λ e. ArmedAs class journal (told_by_entry e)) (entries_of class queued) =
    (λ k d within.
    let e = arms k d within in
    (_, e.1, e.0, class_is _ class (of_it k d within), refl)) in
    all_of_map told_by_item (ArmedAs class journal) (base_of class cpu).items
    (subst (All (ArmedAs class journal)) (sym (consistent.agrees class))
    (All-map (ArmedAs class journal) told_by_entry (entries_of class queued) armed))

or_found : (o : Option (Class × Item)) → (o ≡ None) ⊎ ((found : Class × Item) × (o ≡ Some found))
or_found None = inl refl
or_found (Some found) = inr (found, refl)

-- a timer that is in a base is found there
pub queued_once : QueuedOnce
queued_once cpu timer class item consistent found =
    elim (or_found (found_in timer cpu)) [
      | inl none ↦
          absurd
          (none-some item
          (sym (base_none cpu timer (ap (option_map (λ f. f.0)) none) class) ∙ found))
      | inr there ↦
          let k = there.0.0 in
          let other = there.0.1 in
          let at = found_at timer k other cpu there.1 in
          let same = found_key (λ i. i.id) timer (base_of class cpu).items item found in
          let mine =
          queued_item cpu class item consistent
          (subst (λ id. item_of id (base_of class cpu).items ≡ Some item) (sym same) found) in
          let its = queued_item cpu k other consistent at.itself in
          let armings =
          same_Some its.arming mine.arming
          (sym its.found
          ∙ (ap (λ id. arming_of id (queued_by cpu.journal)) (at.same ∙ sym same) ∙ mine.found)) in
          let classes = sym its.class_is ∙ (ap (λ e. e.class) armings ∙ mine.class_is) in
          let items =
          same_Some other item
          (sym at.found ∙ (ap (λ c. item_of timer (base_of c cpu).items) classes ∙ found)) in
          there.1 ∙ (λ i. Some (classes i, items i))
    ]

-- the least wheel expiry is that of an item
abbrev Attained : List Item → ℕ → Type 0
Attained items wheel = (item : Item) × Contains items item × (item.wheel ≡ wheel)

attained_first : (first : Item) (items : List Item) (wheel : ℕ) (rest : Option ℕ)
    → Some (sooner first.wheel rest) ≡ Some wheel
    → ((other : ℕ) → rest ≡ Some other → Attained items other) → Attained (first ∷ items) wheel
attained_first first items wheel None is later = (
  first,
  Contains-append_left (first ∷ []) items first (Contains-push [] first),
  same_Some _ _ is,
)
attained_first first items wheel (Some other) is later =
    let same = same_Some (min first.wheel other) wheel is in
    let there = later other refl in
    let away = there.2 in
    elim (cases_lt other first.wheel) [
      | inl below ↦
          (there.0, Contains-append_right (first ∷ []) items there.0 there.1, omega arith)
      | inr here ↦ (
        first,
        Contains-append_left (first ∷ []) items first (Contains-push [] first),
        omega arith,
      )
    ]

attained : (items : List Item) (wheel : ℕ) → least items ≡ Some wheel → Attained items wheel
attained [] wheel is = absurd (none-some wheel is)
attained (first ∷ items) wheel is =
    attained_first first items wheel (least items) is (λ other there. attained items other there)

first_armed : (cpu : CpuBases) (class : Class) (first : Option ℕ) → IsConsistent cpu
    → least (base_of class cpu).items ≡ first
    → (unwrap_or first NEVER ≡ NEVER)
    ⊎ ((entry : Entry) × Contains cpu.journal entry × (is_arming entry.act ≡ true)
    × (entry.class ≡ class) × (entry.wheel ≡ unwrap_or first NEVER))
first_armed cpu class None consistent is = inl refl
first_armed cpu class (Some wheel) consistent is =
    let items = (base_of class cpu).items in
    let at = attained items wheel is in
    let armed =
    All-contains (WasArmed class cpu.journal) items at.0 (each_was_armed cpu class consistent)
    at.1 in
    inr (armed.0, armed.1, armed.2, armed.3, ap (λ told. told.wheel) armed.4 ∙ at.2)

pub first_was_armed : FirstWasArmed
first_was_armed cpu class consistent =
    first_armed cpu class (least (base_of class cpu).items) consistent refl
