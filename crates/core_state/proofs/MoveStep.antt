-- a timer moves from one CPU to another
use Rattle.std.proofs.Common.{◌≡◌, ◌≢◌, inl, inr, ℕ, zero, suc, ◌^◌, ◌<◌, Bool, true, false}
use Rattle.std.proofs.Common.{true≢false, List, [], ◌∷◌, Option, Some, None, length, refl, ap, sym}
use Rattle.std.proofs.Common.{◌∙◌, subst, arith, get_or-set_other, get_or-set_same, length-set}
use Rattle.std.specs.Prelude.{◌==◌, ◌&&◌, ◌||◌, not, IfSome, is_some, option_map, slice_set}
use Rattle.std.proofs.lemmas.Bool.{cond-true, eq-eqb, ne_eqb}
use Rattle.std.proofs.lemmas.Option.{none-some, same_Some}
use Rattle.tm_base.specs.declared.names.Class.{Class}
use Rattle.tm_base.specs.declared.names.Class.TheVariants.{Pinned, Global, Deferrable}
use Rattle.tm_base.specs.declared.names.CpuId.{CpuId}
use Rattle.tm_base.specs.declared.names.TimerId.{TimerId}
use Rattle.wheel_core.specs.declared.item.Item.{Item}
use Rattle.wheel_core.specs.PlainBase.{item_of}
use Rattle.cpu_bases.specs.CpuBases.{CpuBases, IsConsistent, base_of, class_in, found_or, moved_in}
use Rattle.cpu_bases.specs.CpuBases.{moved_out, oldest_in}
use Rattle.cpu_bases.specs.Laws.{QueuedOnce}
use Rattle.core_parts.specs.core_world.declared.step.Step.TheVariants as steps
use Rattle.core_parts.specs.core_world.Enabled.{MayMove}
use Rattle.core_parts.specs.core_world.Steps.{first_moved, moved_with, stepped, with_bases}
use Rattle.core_parts.specs.core_world.World.{CpuRecord, World, cpu_of, is_active, no_cpu, own}
use Rattle.core_state.specs.Kept.{IsHeld, IsKept, StaysFit, WorldFits, but, holds, is_queued, noted}
use Rattle.core_state.specs.Tally.{CpuTally, IsTallied}
use Rattle.core_parts.specs.Moves.{MayTakeIn, after_moving, taken_in, wheel_in, wheel_moved}
use Rattle.core_parts.specs.Moves.{wheel_taken}
use Rattle.core_state.proofs.Holders.{came, note_low, queued_noted, went}
use Rattle.core_state.proofs.Queues.{moving_in_queues, moving_out_queues, some_or_none}
use Rattle.core_parts.proofs.Oldest.{oldest_in_time, oldest_narrow}
use Rattle.core_state.proofs.Tallies.{one_alike}
use Rattle.core_state.proofs.TimerSteps.{is_there}

twice : {A : Type 0} (xs : List A) (i : ℕ) (a b : A)
    → slice_set (slice_set xs i a) i b ≡ slice_set xs i b
twice [] i a b = refl
twice (x ∷ xs) zero a b = refl
twice (x ∷ xs) (suc i) a b = ap (λ ys. x ∷ ys) (twice xs i a b)

both_true : (a b : Bool) → (a && b) ≡ true → a ≡ true
both_true true b is = refl
both_true false b is = is

active_online : (y : CpuRecord) → is_active y ≡ true → y.online ≡ true
active_online y is = both_true y.online (not y.idle) is

-- the first to move is the first of its class
first_by : (p g d : List Item) (class : Class) (item : Item) (of_class : Class → List Item)
    → of_class Pinned ≡ p → of_class Global ≡ g → of_class Deferrable ≡ d
    → found_or Pinned (oldest_in p)
    (found_or Global (oldest_in g) (found_or Deferrable (oldest_in d) None)) ≡ Some (class, item)
    → oldest_in (of_class class) ≡ Some item
first_by (x ∷ p) g d class item of_class is_p is_g is_d first =
    let same = same_Some (Pinned, x) (class, item) first in
    ap (λ k. oldest_in (of_class k)) (sym (ap (λ q. q.0) same))
    ∙ (ap oldest_in is_p ∙ ap (λ q. Some q.1) same)
first_by [] (x ∷ g) d class item of_class is_p is_g is_d first =
    let same = same_Some (Global, x) (class, item) first in
    ap (λ k. oldest_in (of_class k)) (sym (ap (λ q. q.0) same))
    ∙ (ap oldest_in is_g ∙ ap (λ q. Some q.1) same)
first_by [] [] (x ∷ d) class item of_class is_p is_g is_d first =
    let same = same_Some (Deferrable, x) (class, item) first in
    ap (λ k. oldest_in (of_class k)) (sym (ap (λ q. q.0) same))
    ∙ (ap oldest_in is_d ∙ ap (λ q. Some q.1) same)
first_by [] [] [] class item of_class is_p is_g is_d first = absurd (none-some (class, item) first)

first_is : (bases : CpuBases) (class : Class) (item : Item) → first_moved bases ≡ Some (class, item)
    → oldest_in (base_of class bases).items ≡ Some item
first_is bases class item first =
    first_by (base_of Pinned bases).items (base_of Global bases).items
    (base_of Deferrable bases).items class item (λ k. (base_of k bases).items) refl refl refl first

oldest_there : (items : List Item) (item : Item) → oldest_in items ≡ Some item
    → item_of item.id items ≡ Some item
oldest_there [] item is = absurd (none-some item is)
oldest_there (x ∷ items) item is =
    let same = same_Some x item is in
    cond-true (x.id == item.id) (Some x) (item_of item.id items)
    (eq-eqb x.id item.id (ap (λ (i : Item). i.id) same))
    ∙ is

oldest_class : QueuedOnce → (bases : CpuBases) (class : Class) (item : Item) → IsConsistent bases
    → oldest_in (base_of class bases).items ≡ Some item → class_in item.id bases ≡ Some class
oldest_class once bases class item consistent is =
    ap (option_map (λ found. found.0))
    (once bases item.id class item consistent (oldest_there (base_of class bases).items item is))

not_in : (timer : ℕ) (bases : CpuBases) → is_queued timer bases ≡ false
    → class_in timer bases ≡ None
not_in timer bases is = elim (some_or_none (class_in timer bases)) [
  | inl none ↦ none
  | inr there ↦ absurd (true≢false (sym (ap is_some there.1) ∙ is))
]

module _ (w : World) (holders : List (Option CpuId)) (from to : CpuId) (t : TimerId)
    (held : IsHeld w holders) (fits : WorldFits w) (once : QueuedOnce)
    (here : IsConsistent (cpu_of w from.0).bases) (there : IsConsistent (cpu_of w to.0).bases)
    (may : MayMove w from.0 to.0 t.0) where
  oldest : oldest_in (base_of may.class (cpu_of w from.0).bases).items ≡ Some may.item
  oldest = first_is (cpu_of w from.0).bases may.class may.item may.first

  pub apart : from.0 ≢ to.0
  apart same =
      true≢false
      (sym (active_online (cpu_of w to.0) may.to_active)
      ∙ (ap (λ c. (cpu_of w c).online) (sym same) ∙ may.from_offline))

  queued : is_queued t.0 (cpu_of w from.0).bases ≡ true
  queued =
      ap (λ k. is_queued k (cpu_of w from.0).bases) (sym may.timers)
      ∙ is_there may.item.id (cpu_of w from.0).bases may.class
      (oldest_class once (cpu_of w from.0).bases may.class may.item here oldest)

  pub noted_here : noted holders t.0 ≡ Some from
  noted_here = queued_noted w holders t.0 from held queued

  not_there : class_in t.0 (cpu_of w to.0).bases ≡ None
  not_there =
      not_in t.0 (cpu_of w to.0).bases
      (held t.0 to.0 ∙ (ap (λ o. holds o to.0) noted_here ∙ ne_eqb from.0 to.0 apart))

  pub may_take_in : (class : Class) → class ≡ may.class
      → MayTakeIn class (cpu_of w from.0).bases (cpu_of w to.0).bases
  may_take_in class is =
      subst (λ k. MayTakeIn k (cpu_of w from.0).bases (cpu_of w to.0).bases) (sym is)
      (record {
        not_queued =
            subst (λ o. IfSome o (λ (item : Item). class_in item.id (cpu_of w to.0).bases ≡ None))
            (sym oldest)
            (ap (λ k. class_in k (cpu_of w to.0).bases) may.timers ∙ not_there);
        none_behind = may.none_behind;
      })

  abbrev given : CpuRecord
  given = with_bases (cpu_of w from.0) (moved_out w.clock may.class to (cpu_of w from.0).bases)

  abbrev taken : CpuRecord
  taken =
      with_bases (cpu_of w to.0)
      (moved_in w.clock may.class may.item.id may.item.expires may.item.job may.item.arg to
      (cpu_of w to.0).bases)

  left_held : IsHeld (own w from.0 given) (slice_set holders t.0 None)
  left_held =
      let bases = (cpu_of w from.0).bases in
      went w holders from.0 given held may.from_free.in_range t.0 from refl noted_here
      (λ timer.
      moving_out_queues w.clock may.class to bases here timer
      ∙ (ap (λ o. but (is_queued timer bases) o timer) oldest
      ∙ ap (λ id. is_queued timer bases && not (id == timer)) may.timers))

  other_there : cpu_of (own w from.0 given) to.0 ≡ cpu_of w to.0
  other_there = get_or-set_other w.cpus from.0 to.0 given no_cpu (λ e. apart (sym e))

  pub moved_held : IsHeld (stepped w (steps.Move from to t)) (slice_set holders t.0 (Some to))
  moved_held =
      let in_time = fits.in_time in
      let bases = (cpu_of w to.0).bases in
      let within = note_low holders t.0 from noted_here in
      let narrow = subst (λ o. IfSome o (λ (item : Item). item.id < 2 ^ 16)) oldest
      (oldest_narrow (cpu_of w from.0).bases may.class here) in
      let expires = subst (λ o. IfSome o (λ (item : Item). item.expires < 2 ^ 47)) oldest
      (oldest_in_time (cpu_of w from.0).bases may.class here) in
      let queues : (timer : ℕ) → is_queued timer taken.bases
      ≡ (is_queued timer (cpu_of (own w from.0 given) to.0).bases || t.0 == timer) = λ timer.
      moving_in_queues w.clock may.class may.item.id may.item.expires may.item.job may.item.arg to
      bases there (record {
        now_in_time = omega (arith, in_time);
        expires_in_time = expires;
        timer_fits = narrow;
        not_queued = ap (λ k. class_in k bases) may.timers ∙ not_there;
        none_behind = may.none_behind;
      }) timer
      ∙ ((λ i. is_queued timer bases || may.timers i == timer)
      ∙ ap (λ (y : CpuRecord). is_queued timer y.bases || t.0 == timer) (sym other_there)) in
      let low : to.0 < length (own w from.0 given).cpus =
      let len = length-set w.cpus from.0 given in
      let low = may.to_free.in_range in omega (arith, len, low) in
      let both =
      came (own w from.0 given) (slice_set holders t.0 None) to.0 taken left_held low t.0 to refl
      (let len = length-set holders t.0 None in omega (arith, len, within))
      (get_or-set_same holders t.0 None None within) queues in
      subst (λ u. IsHeld u (slice_set holders t.0 (Some to)))
      (sym (ap (moved_with w from.0 to.0) may.first))
      (subst (λ hs. IsHeld (own (own w from.0 given) to.0 taken) hs)
      (twice holders t.0 None (Some to)) both)

  moved_tallied : (tally : CpuTally) → IsTallied w.tree w.cpus tally
      → IsTallied (stepped w (steps.Move from to t)).tree (stepped w (steps.Move from to t)).cpus
      tally
  moved_tallied tally tallied =
      let low : to.0 < length (slice_set w.cpus from.0 given) =
      let len = length-set w.cpus from.0 given in
      let low = may.to_free.in_range in omega (arith, len, low) in
      subst (λ (u : World). IsTallied u.tree u.cpus tally)
      (sym (ap (moved_with w from.0 to.0) may.first))
      (one_alike w.tree (slice_set w.cpus from.0 given) to.0 taken tally low
      (ap (λ (y : CpuRecord). y.mark) (sym other_there))
      (ap (λ (y : CpuRecord). y.online) (sym other_there))
      (one_alike w.tree w.cpus from.0 given tally may.from_free.in_range refl refl tallied))

  -- what the code answers
  pub move_wheel : (v : World) (class : Class) (now : ℕ) → v ≡ w → class ≡ may.class → now ≡ w.clock
      → (wheel : Option ℕ)
      → wheel ≡ wheel_taken now class (cpu_of v from.0).bases (cpu_of v to.0).bases
      → wheel ≡ wheel_moved w from.0 to.0
  move_wheel v class now seen is time wheel told =
      told
      ∙ ((λ i. wheel_taken (time i) (is i) (cpu_of (seen i) from.0).bases
      (cpu_of (seen i) to.0).bases)
      ∙ (ap (option_map (wheel_in w.clock may.class (cpu_of w to.0).bases)) oldest
      ∙ sym (ap (option_map (λ (found : Class × Item).
      wheel_in w.clock found.0 (cpu_of w to.0).bases found.1)) may.first)))

  -- what the code leaves
  module _ (v : World) (ys : List CpuRecord) (class : Class) (now n : ℕ) (seen : v ≡ w)
      (is : class ≡ may.class) (time : now ≡ w.clock)
      (made : ys ≡ after_moving now class from to v.cpus) (same_timers : n ≡ v.timers) where
    pub move_done : record v { timers = n; cpus = ys } ≡ stepped w (steps.Move from to t)
    move_done =
        (λ i. record v { timers = same_timers i; cpus = made i })
        ∙ ((λ i. record (seen i) { cpus = after_moving (time i) (is i) from to (seen i).cpus })
        ∙ (ap (λ o. record w {
          cpus = slice_set (slice_set w.cpus from.0 given) to.0 (with_bases (cpu_of w to.0)
              (taken_in w.clock may.class to o (cpu_of w to.0).bases));
        }) oldest
        ∙ sym (ap (moved_with w from.0 to.0) may.first)))

    pub move_kept : (j : ℕ) (tally : CpuTally) → j ≡ t.0 → StaysFit w
        → length (slice_set holders j (Some to)) ≡ n → IsTallied v.tree v.cpus tally
        → IsKept (record v { timers = n; cpus = ys }) (slice_set holders j (Some to)) tally
    move_kept j tally at stays len tallied =
        subst (λ u. IsKept u (slice_set holders j (Some to)) tally) (sym move_done)
        (record {
          fits = stays (steps.Move from to t) may;
          held = subst
              (λ k. IsHeld (stepped w (steps.Move from to t)) (slice_set holders k (Some to)))
              (sym at) moved_held;
          tallied = moved_tallied tally
              (subst (λ (u : World). IsTallied u.tree u.cpus tally) seen tallied);
        })
