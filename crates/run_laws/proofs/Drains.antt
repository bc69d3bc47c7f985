-- a drain by steps hands out what Play's drain hands out, in any core whose timers have one home
use Rattle.std.proofs.Common.{◌≡◌, ℕ, zero, suc, ◌<◌, ◌≤◌, List, [], length}
use Rattle.std.proofs.Common.{Some, None, refl, sym, ap, ◌∙◌, subst, arith, inl, inr, ◌⊎◌, Bool}
use Rattle.std.proofs.Common.{true, false}
use Rattle.std.specs.Prelude.{option_map}
use Rattle.std.proofs.lemmas.Bool.{both_ways}
use Rattle.std.proofs.lemmas.List.{set-set}
use Rattle.tm_base.specs.Classes.{same_class}
use Rattle.tm_base.specs.declared.limits.TheConstants.{SCRIPT_TIME_LIMIT}
use Rattle.tm_base.specs.declared.names.Class.{Class}
use Rattle.tm_base.specs.declared.names.Class.TheVariants.{Pinned, Global, Deferrable}
use Rattle.wheel_core.specs.declared.item.Item.{Item}
use Rattle.wheel_core.specs.PlainBase.{IsDue, OutIsDue, PlainBase, after_out, item_of, next_out}
use Rattle.wheel_core.specs.PlainBase.{taken}
use Rattle.wheel_core.proofs.Ids.{item_holds}
use Rattle.wheel_core.proofs.Plain.{due_out, one_fewer_after_out}
use Rattle.cpu_bases.specs.CpuBases.{CpuBases, base_of, class_in, drained, found_in, found_or}
use Rattle.cpu_bases.specs.CpuBases.{handed_out}
use Rattle.cpu_bases.proofs.Classes.{class_itself}
use Rattle.cpu_bases.proofs.Keeping.{or_item}
use Rattle.play_rules.specs.Interrupts.{cpu_id, timer_id}
use Rattle.play_rules.specs.State as play
use Rattle.play_rules.specs.Timers.{drained_on, due_items}
use Rattle.play_laws.proofs.Work.Drains.{drain_keeps}
use Rattle.play_laws.proofs.Work.Homes.{AreHomes, Home, IsHome, home_taken, homes_of, not_there}
use Rattle.core_world.specs.declared.step.Step.TheVariants as steps
use Rattle.core_world.specs.Lists.{after_all}
use Rattle.core_world.specs.Steps.{handed_of, stepped, with_bases}
use Rattle.core_world.specs.World.{CpuRecord, World, cpu_of}
use Rattle.step_play.specs.Rules.Seen.{state_of}
use Rattle.step_play.specs.Rules.StepRules.{drained_by_steps, hands}
use Rattle.step_play.proofs.Bases.{drained_last, drained_more, due_last, due_more, handed_base}
use Rattle.step_play.proofs.Drains.{rebased}
use Rattle.step_play.proofs.Held.{bases_seen}
use Rattle.step_play.proofs.Worlds.{bases_shown, own_is, put, put_count, put_same}

-- a timer that has its home in one base of a CPU is found there
module _ (timers now c : ℕ) (home : ℕ → Home) (may : ℕ → Bool) (b : CpuBases)
    (is : (k : Class) → IsHome timers now home may (c, k) (base_of k b)) where
  elsewhere : (id : ℕ) (here k : Class) → home id ≡ (c, here) → same_class here k ≡ false
      → item_of id (base_of k b).items ≡ None
  elsewhere id here k at apart =
      not_there id home (c, k) (base_of k b).items
      (homes_of timers now home may (c, k) (base_of k b).items (is k).all)
      (λ same. both_ways (same_class here k) apart (class_of (sym at ∙ same)))
    where
      class_of : ◌≡◌ {A = Home} (c, here) (c, k) → same_class here k ≡ true
      class_of e =
          subst (λ j. same_class here j ≡ true) (ap (λ (h : Home). h.1) e) (class_itself here)

  found_home : (k : Class) (item : Item) → item_of item.id (base_of k b).items ≡ Some item
      → home item.id ≡ (c, k) → found_in item.id b ≡ Some (k, item)
  found_home Pinned item there at =
      ap (λ o. found_or Pinned o (found_or Global (item_of item.id b.bases.global.items)
      (found_or Deferrable (item_of item.id b.bases.deferrable.items) None))) there
  found_home Global item there at =
      ap (λ o. found_or Pinned o (found_or Global (item_of item.id b.bases.global.items)
      (found_or Deferrable (item_of item.id b.bases.deferrable.items) None)))
      (elsewhere item.id Global Pinned at refl)
      ∙ ap (λ o. found_or Global o
      (found_or Deferrable (item_of item.id b.bases.deferrable.items) None)) there
  found_home Deferrable item there at =
      ap (λ o. found_or Pinned o (found_or Global (item_of item.id b.bases.global.items)
      (found_or Deferrable (item_of item.id b.bases.deferrable.items) None)))
      (elsewhere item.id Deferrable Pinned at refl)
      ∙ (ap (λ o. found_or Global o
      (found_or Deferrable (item_of item.id b.bases.deferrable.items) None))
      (elsewhere item.id Deferrable Global at refl)
      ∙ ap (λ o. found_or Deferrable o None) there)

module _ (timers : ℕ) (homes : ℕ → Home) (may : ℕ → Bool) (home runner : ℕ) (class : Class) where
  abbrev base_at : World → PlainBase
  base_at w = base_of class (cpu_of w home).bases

  abbrev after : ℕ → World → CpuBases
  after n w = drained n w.clock class (cpu_id runner) (cpu_of w home).bases

  abbrev AtHome : World → Type 0
  AtHome w =
      (k : Class) → IsHome timers w.clock homes may (home, k) (base_of k (cpu_of w home).bases)

  module _ (w : World) (low : home < length w.cpus) (early : w.clock < SCRIPT_TIME_LIMIT)
      (is : AtHome w) where
    -- nothing more is due
    ticks : (n : ℕ) → next_out w.clock (base_at w) ≡ None → (items : List Item) → items ≡ []
        → after_all w (hands home class runner items) ≡ rebased w home (after n w)
    ticks n none items nothing =
        ap (λ xs. after_all w (hands home class runner xs)) nothing
        ∙ (own_is w home _ ∙ ap (rebased w home)
        (sym (drained_last w.clock class (cpu_id runner) (cpu_of w home).bases n none)))

    -- an item goes out
    module _ (item : Item) (out : next_out w.clock (base_at w) ≡ Some item) where
      is_due : IsDue w.clock (base_at w).items item
      is_due = subst (OutIsDue w.clock (base_at w).items) out
          (due_out w.clock (base_at w) (is class).sound)

      queued_here : class_in item.id (cpu_of w home).bases ≡ Some class
      queued_here = ap (option_map (λ found. found.0))
          (found_home timers w.clock home homes may (cpu_of w home).bases is class item
          is_due.queued
          (item_holds (λ i. homes i.id ≡ (home, class)) item.id (base_at w).items item
          (homes_of timers w.clock homes may (home, class) (base_at w).items (is class).all)
          is_due.queued))

      abbrev left : CpuBases
      left = handed_out w.clock class (cpu_id runner) (cpu_of w home).bases

      abbrev next : World
      next = rebased w home left

      hand_is : stepped w (steps.Hand (cpu_id home) (timer_id item.id) (cpu_id runner)) ≡ next
      hand_is =
          own_is w home _
          ∙ ap (λ o. rebased w home (handed_of w.clock o (cpu_id runner) (cpu_of w home).bases))
          queued_here

      here : cpu_of next home ≡ with_bases (cpu_of w home) left
      here = put_same w home (with_bases (cpu_of w home) left) low

      low_after : home < length next.cpus
      low_after =
          let count = put_count w home (with_bases (cpu_of w home) left) low in
          omega (arith, low, count)

      home_after : AtHome next
      home_after k =
          subst (λ (y : CpuRecord). IsHome timers w.clock homes may (home, k) (base_of k y.bases))
          (sym here)
          (drain_keeps w.clock (IsHome timers w.clock homes may (home, k))
          (λ base at. home_taken timers w.clock homes may (home, k) early base at) k class
          (cpu_id runner) 0 (cpu_of w home).bases (is k))

      base_after : base_at next ≡ taken w.clock (base_at w)
      base_after =
          ap (λ (y : CpuRecord). base_of class y.bases) here
          ∙ handed_base w.clock class (cpu_id runner) (cpu_of w home).bases item out

      fewer : (n : ℕ) → length (base_at w).items ≤ suc n → length (base_at next).items ≤ n
      fewer n few =
          let less = one_fewer_after_out w.clock (base_at w) item
          (subst (OutIsDue w.clock (base_at w).items) out
          (due_out w.clock (base_at w) (is class).sound)) in
          let same : length (base_at next).items ≡ length (taken w.clock (base_at w)).items =
          ap (λ (x : PlainBase). length x.items) base_after in
          let out_is : length (taken w.clock (base_at w)).items
          ≡ length (after_out (base_at w) (Some item)).items =
          ap (λ o. length (after_out (base_at w) o).items) out in
          omega (arith, few, less, same, out_is)

      goes_on : (n : ℕ)
          → after_all next (hands home class runner (due_items n next.clock (base_at next)))
          ≡ rebased next home (after n next)
          → after_all w (hands home class runner (due_items (suc n) w.clock (base_at w)))
          ≡ rebased w home (after (suc n) w)
      goes_on n rest =
          ap (λ xs. after_all w (hands home class runner xs))
          (due_more n w.clock (base_at w) item out)
          ∙ (ap (λ b. after_all (stepped w (steps.Hand (cpu_id home) (timer_id item.id)
          (cpu_id runner))) (hands home class runner (due_items n w.clock b))) (sym base_after)
          ∙ (ap (λ v. after_all v (hands home class runner (due_items n w.clock (base_at next))))
          hand_is
          ∙ (rest
          ∙ (ap (λ (y : CpuRecord). put next home
          (with_bases y (drained n w.clock class (cpu_id runner) y.bases))) here
          ∙ (ap (λ ys. record w { cpus = ys }) (set-set w.cpus home _ _)
          ∙ ap (rebased w home)
          (sym (drained_more w.clock class (cpu_id runner) (cpu_of w home).bases n item out)))))))

  pub drains : (n : ℕ) (w : World) → home < length w.cpus → w.clock < SCRIPT_TIME_LIMIT → AtHome w
      → length (base_at w).items ≤ n
      → after_all w (hands home class runner (due_items n w.clock (base_at w)))
      ≡ rebased w home (after n w)
  drains n w low early is few = by_out n w low early is few (or_item (next_out w.clock (base_at w)))
    where
      by_out : (n : ℕ) (w : World) → home < length w.cpus → w.clock < SCRIPT_TIME_LIMIT → AtHome w
          → length (base_at w).items ≤ n
          → (next_out w.clock (base_at w) ≡ None)
          ⊎ ((item : Item) × (next_out w.clock (base_at w) ≡ Some item))
          → after_all w (hands home class runner (due_items n w.clock (base_at w)))
          ≡ rebased w home (after n w)
      by_out n w low early is few (inl none) =
          ticks w low early is n none (due_items n w.clock (base_at w))
          (due_last n w.clock (base_at w) none)
      by_out zero w low early is few (inr there) =
          let less = one_fewer_after_out w.clock (base_at w) there.0
          (subst (OutIsDue w.clock (base_at w).items) there.1
          (due_out w.clock (base_at w) (is class).sound)) in
          absurd (omega (arith, few, less))
      by_out (suc n) w low early is few (inr (item, out)) =
          let v = next w low early is item out in
          goes_on w low early is item out n
          (by_out n v (low_after w low early is item out) early (home_after w low early is item out)
          (fewer w low early is item out n few) (or_item (next_out v.clock (base_at v))))

-- WHAT PLAY SEES of a drain
pub record DrainSeen (w : World) (home : ℕ) (class : Class) (runner : ℕ) : Type 0 where
  pub items : (drained_by_steps w home class runner).items
      ≡ (drained_on (state_of w) home class runner).items
  pub state : state_of (drained_by_steps w home class runner).state
      ≡ (drained_on (state_of w) home class runner).state

pub drain_seen : (timers cpus levels : ℕ) (may : ℕ → Bool) (w : World)
    → AreHomes timers cpus levels may (state_of w) → (home : ℕ) → home < cpus
    → home < length w.cpus → (class : Class) (runner : ℕ) → DrainSeen w home class runner
drain_seen timers cpus levels may w is home below low class runner =
    let seen = bases_seen w home low in
    let b = (cpu_of w home).bases in
    let n = length (base_of class b).items in
    let all_home = λ (k : Class).
    subst (λ x. IsHome timers w.clock is.home may (home, k) (base_of k x)) seen
    (is.each home k below) in
    record {
      items = ap (λ x. due_items (length (base_of class x).items) w.clock (base_of class x))
          (sym seen);
      state =
          ap state_of (drains timers is.home may home runner class n w low is.early all_home
          (omega arith))
          ∙ (bases_shown w home (drained n w.clock class (cpu_id runner) b) low
          ∙ ap (λ x. play.with_bases (state_of w) home
          (drained (length (base_of class x).items) w.clock class (cpu_id runner) x)) (sym seen));
    }
