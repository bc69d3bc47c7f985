-- for crates above: one CPU changes, and what carries the law is kept
use Rattle.std.proofs.Common.{◌≡◌, ℕ, ◌<◌, ◌≤◌, List, Bool, true, false, Option, Some, None, refl}
use Rattle.std.proofs.Common.{sym, ap, ◌∙◌, subst, arith, inl, inr, min, get_or}
use Rattle.std.specs.Prelude.{All, if◌then◌else◌, unwrap_or}
use Rattle.std.proofs.lemmas.Bool.{both_ways, cases_Bool, cases_lt, le-ltb, lt-ltb}
use Rattle.tm_base.specs.declared.names.TheConstants.{NEVER}
use Rattle.tm_base.specs.declared.names.Class.TheVariants.{Pinned, Global}
use Rattle.wheel_core.specs.declared.item.Item.{Item}
use Rattle.wheel_core.specs.PlainBase.{least}
use Rattle.wheel_core.proofs.Leasts.{least_below, least_none}
use Rattle.wheel_core.proofs.Plain.{none_behind}
use Rattle.tree_plan.specs.Shape.{Shape, IsPlanned}
use Rattle.tree_plan.specs.Paths.{has_group_in}
use Rattle.cpu_bases.specs.CpuBases.{CpuBases, base_of, events_of, first_expiry}
use Rattle.play_rules.specs.State.{Cpu}
use Rattle.play_laws.proofs.Answered.Bases.{Comes, IsBase}
use Rattle.play_laws.proofs.Answered.Invariant.{Answers, Fits, InTime, Invariant, Later, Led, SomeWakes}
use Rattle.play_laws.proofs.Answered.Invariant.{alike_top, apart_top, busy, each_put, put, put_alike, rests}

-- THE FIRST of a list of items, or NEVER
abbrev first_in : List Item → ℕ
first_in items = unwrap_or (least items) NEVER

first_below : (items : List Item) (o : Option ℕ) → least items ≡ o
    → All (λ item. unwrap_or o NEVER ≤ item.wheel) items
first_below items None is =
    subst (All (λ (item : Item). NEVER ≤ item.wheel)) (sym (least_none items is))
    (λ k d low. absurd (omega arith))
first_below items (Some wheel) is = least_below items wheel is

-- what is before each item is before the first, where that comes
before_first : (time : ℕ) (items : List Item) (o : Option ℕ) → least items ≡ o
    → All (Later time) items
    → unwrap_or o NEVER < NEVER → time ≤ unwrap_or o NEVER
before_first time items None is all comes = absurd (omega (arith, comes))
before_first time items (Some wheel) is all comes =
    none_behind (record { items = items; clock = time }) all wheel is

-- what a CPU tells, and what it wakes for, by its first events
abbrev pub pin_in : CpuBases → ℕ
pin_in b = (events_of b).pin

abbrev pub next_in : CpuBases → ℕ
next_in b = (events_of b).next

abbrev pub told_in : (grouped : Bool) → CpuBases → ℕ
told_in grouped b = if grouped then next_in b else NEVER

pinned_first : (b : CpuBases) → All (Later (first_expiry Pinned b)) (base_of Pinned b).items
pinned_first b = first_below (base_of Pinned b).items (least (base_of Pinned b).items) refl

global_first : (b : CpuBases) → All (Later (first_expiry Global b)) (base_of Global b).items
global_first b = first_below (base_of Global b).items (least (base_of Global b).items) refl

-- the next global event is the first one where that comes before the pinned ones, and else none
record IsNext (b : CpuBases) : Type 0 where
  first : first_expiry Global b < first_expiry Pinned b → next_in b ≡ first_expiry Global b
  covered : first_expiry Pinned b ≤ first_expiry Global b → next_in b ≡ NEVER

next_is : (b : CpuBases) → IsNext b
next_is b = record {
  first = λ before. rw (lt-ltb (first_expiry Global b) (first_expiry Pinned b) before) refl;
  covered = λ behind. rw (le-ltb (first_expiry Global b) (first_expiry Pinned b) behind) refl;
}

module _ (now : ℕ) (b : CpuBases) (pinned : IsBase Comes now (base_of Pinned b))
    (global : IsBase Comes now (base_of Global b)) where
  -- a CPU that has just told and programmed what its first events ask for is answered
  programmed_global : (grouped : Bool) (duty : ℕ) → (grouped ≡ false → duty ≡ next_in b)
      → All (InTime (min (pin_in b) duty) (told_in grouped b)) (base_of Global b).items
  programmed_global grouped duty own k d low =
      let first = global_first b k d low in
      elim (cases_lt (first_expiry Global b) (first_expiry Pinned b)) [
        | inl before ↦
            let next = (next_is b).first before in
            elim (cases_Bool grouped) [
              | inl is ↦
                  let told : told_in grouped b ≡ next_in b = ap (λ g. told_in g b) is in
                  inr (omega (arith, first, told, next))
              | inr alone ↦ let same = own alone in inl (omega (arith, first, same, next))
            ]
        | inr behind ↦ inl (omega (arith, first, behind))
      ]

  programmed_pinned : (duty : ℕ) → All (Later (min (pin_in b) duty)) (base_of Pinned b).items
  programmed_pinned duty k d low = let first = pinned_first b k d low in omega (arith, first)

  -- one that tells again is answered as it was
  retold_global : (wakeup told : ℕ) (grouped : Bool) → (grouped ≡ false → told ≡ NEVER)
      → All (Later wakeup) (base_of Pinned b).items
      → All (InTime wakeup told) (base_of Global b).items
      → All (InTime wakeup (told_in grouped b)) (base_of Global b).items
  retold_global wakeup told grouped out pins answered k d low =
      let first = global_first b k d low in
      let comes : (get_or (base_of Global b).items k d).wheel < NEVER = global.all k d low in
      elim (cases_Bool grouped) [
        | inl is ↦
            let same : told_in grouped b ≡ next_in b = ap (λ g. told_in g b) is in
            elim (cases_lt (first_expiry Global b) (first_expiry Pinned b)) [
              | inl before ↦ let next = (next_is b).first before in
                  inr (omega (arith, first, same, next))
              | inr behind ↦
                  let pin = before_first wakeup (base_of Pinned b).items
                  (least (base_of Pinned b).items) refl pins
                  (omega (arith, first, behind, comes)) in
                  inl (omega (arith, first, behind, pin))
            ]
        | inr alone ↦
            elim (answered k d low) [
              | inl wakes ↦ inl wakes
              | inr early ↦ let never = out alone in absurd (omega (arith, early, never, comes))
            ]
      ]

-- ONE CPU CHANGES
module _ (now : ℕ) (t : Shape) (planned : IsPlanned t) (cpu : ℕ → Cpu)
    (migrators : ℕ → Option ℕ) where
  pub record Put (Owes More : ℕ → Type 0) (Topped : Type 0) (c : ℕ) (y : Cpu)
      (rules : ℕ → Option ℕ) : Type 0 where
    pub fits : Fits t now c y
    pub led : Led t (λ d. busy (put cpu c y d)) rules
    pub answers : (More c → ⊥) → Answers now y
    pub others : (d : ℕ) → (d ≡ c → ⊥) → (More d → ⊥) → Owes d → ⊥
    pub top : Topped → SomeWakes t (put cpu c y)

  pub put_kept : (Owes More : ℕ → Type 0) (Topped Keeps : Type 0) (c : ℕ) (y : Cpu)
      (rules : ℕ → Option ℕ)
      → Invariant now t Owes Topped cpu migrators → Put Owes More Keeps c y rules
      → Invariant now t More Keeps (put cpu c y) rules
  put_kept Owes More Topped Keeps c y rules inv new = record {
    each = each_put cpu c y (λ d x. Fits t now d x) new.fits (λ d other. inv.each d);
    led = new.led;
    answered = each_put cpu c y (λ d x. (More d → ⊥) → Answers now x) new.answers
        (λ d other free. inv.answered d (new.others d other free));
    top = new.top;
  }

  -- where activity stays, so do the migrators
  pub same_led : (c : ℕ) (y : Cpu) → busy y ≡ busy (cpu c) → Led t (λ d. busy (cpu d)) migrators
      → Led t (λ d. busy (put cpu c y d)) migrators
  same_led c y same led =
      subst (λ active. Led t active migrators) (λ i d. sym (put_alike cpu c y busy same d) i) led

  module _ (Owes : ℕ → Type 0) (Topped : Type 0) (inv : Invariant now t Owes Topped cpu migrators)
      (c : ℕ) where
    -- its bases change
    pub based_kept : (b : CpuBases) → IsBase Comes now (base_of Pinned b)
        → IsBase Comes now (base_of Global b)
        → ((Owes c → ⊥) → Answers now (record (cpu c) { bases = b }))
        → Invariant now t Owes Topped (put cpu c (record (cpu c) { bases = b })) migrators
    based_kept b pinned global answers =
        let y = record (cpu c) { bases = b } in
        let old = inv.each c in
        put_kept Owes Owes Topped Topped c y migrators inv (record {
          fits = record {
            away = old.away;
            offline = old.offline;
            ungrouped = old.ungrouped;
            pinned = pinned;
            global = global;
          };
          led = same_led c y refl inv.led;
          answers = answers;
          others = λ d other free. free;
          top = λ topped. alike_top t planned cpu (put cpu c y) (put_alike cpu c y busy refl)
              (λ d is. put_alike cpu c y rests refl d ∙ is)
              (put_alike cpu c y (λ x. x.wakeup) refl) (put_alike cpu c y (λ x. x.told) refl)
              (inv.top topped);
        })

    -- it tells again what its bases say
    pub retold_kept : rests (cpu c) ≡ true → (Topped → has_group_in t c ≡ false)
        → Invariant now t Owes Topped
        (put cpu c (record (cpu c) { told = told_in (has_group_in t c) (cpu c).bases })) migrators
    retold_kept sleeps out =
        let grouped = has_group_in t c in
        let m = told_in grouped (cpu c).bases in
        let y = record (cpu c) { told = m } in
        let old = inv.each c in
        let silent : grouped ≡ false → m ≡ NEVER =
        λ alone. ap (λ g. told_in g (cpu c).bases) alone in
        put_kept Owes Owes Topped Topped c y migrators inv (record {
          fits = record {
            away = λ off. absurd (both_ways (rests (cpu c)) off sleeps);
            offline = old.offline;
            ungrouped = silent;
            pinned = old.pinned;
            global = old.global;
          };
          led = same_led c y refl inv.led;
          answers = λ free rest. (
              let was = inv.answered c free sleeps in
              record {
                pinned = was.pinned;
                global = record {
                  all = retold_global now (cpu c).bases old.pinned old.global (cpu c).wakeup
                      (cpu c).told grouped old.ungrouped was.pinned.all was.global.all;
                  near = old.global.near;
                };
              });
          others = λ d other free. free;
          top = λ topped. apart_top t planned cpu now inv.each c y (out topped)
              (silent (out topped)) (inv.top topped);
        })

  -- it programs its wakeup, and then owes nothing any more
  pub programmed_kept : (c duty : ℕ) (Topped : Type 0) → rests (cpu c) ≡ true
      → (cpu c).told ≡ told_in (has_group_in t c) (cpu c).bases
      → (has_group_in t c ≡ false → duty ≡ next_in (cpu c).bases)
      → Invariant now t (λ d. d ≡ c) Topped cpu migrators
      → SomeWakes t (put cpu c (record (cpu c) { wakeup = min (pin_in (cpu c).bases) duty }))
      → Invariant now t (λ d. ⊥) (Unit {0})
      (put cpu c (record (cpu c) { wakeup = min (pin_in (cpu c).bases) duty })) migrators
  programmed_kept c duty Topped sleeps told own inv top =
      let y = record (cpu c) { wakeup = min (pin_in (cpu c).bases) duty } in
      let old = inv.each c in
      let grouped = has_group_in t c in
      put_kept (λ d. d ≡ c) (λ d. ⊥) Topped (Unit {0}) c y migrators inv (record {
        fits = record {
          away = λ off. absurd (both_ways (rests (cpu c)) off sleeps);
          offline = old.offline;
          ungrouped = old.ungrouped;
          pinned = old.pinned;
          global = old.global;
        };
        led = same_led c y refl inv.led;
        answers = λ free rest. record {
          pinned = record {
            all = programmed_pinned now (cpu c).bases old.pinned old.global duty;
            near = old.pinned.near;
          };
          global = record {
            all = subst (λ m. All (InTime (min (pin_in (cpu c).bases) duty) m)
                (base_of Global (cpu c).bases).items) (sym told)
                (programmed_global now (cpu c).bases old.pinned old.global grouped duty own);
            near = old.global.near;
          };
        };
        others = λ d other free is. other is;
        top = λ _. top;
      })
