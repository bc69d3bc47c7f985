-- where timers are queued in a world at rest, by the words that spell it
use Rattle.std.proofs.Common.{◌≡◌, ◌≢◌, ◌⊎◌, ⊎_elim, ℕ, zero, suc, ◌<◌, ◌≤◌, List, length, Option}
use Rattle.std.proofs.Common.{Some}
use Rattle.std.proofs.Common.{Bool, false, None, refl, sym, ap, ◌∙◌, subst, inl, inr, arith}
use Rattle.std.specs.Prelude.{is_some, option_map}
use Rattle.std.proofs.lemmas.Bool.{eq-eqb, ne_eqb}
use Rattle.std.proofs.lemmas.List.{get_or_past}
use Rattle.std.proofs.lemmas.Option.{none-some, same_Some}
use Rattle.tm_base.specs.declared.names.Class.{Class}
use Rattle.tm_base.specs.declared.names.CpuId.{CpuId}
use Rattle.wheel_core.specs.declared.item.Item.{Item}
use Rattle.wheel_core.proofs.Ids.{item_holds}
use Rattle.cpu_bases.specs.CpuBases.{CpuBases, base_of, class_in, found_in}
use Rattle.cpu_bases.proofs.Keeping.{found_at}
use Rattle.core_world.specs.World.{World, cpu_of}
use Rattle.shared_rule.specs.core_state.Kept.{IsHeld, holds, is_queued, noted}
use Rattle.shared_words.specs.declared.spot.Spot.{Spot}
use Rattle.shared_words.specs.Laws.{WaysBack}
use Rattle.shared_words.specs.Words.{spot_of}
use Rattle.shared_rule.specs.CoreLaws.{CoreLaws}
use Rattle.shared_rule.specs.Whole.{timer_at}
use Rattle.shared_rule.proofs.Fits.{many}
use Rattle.shared_table.specs.Endings.{HeldWords, SpellsAtRest, cpu_of_spot, word_in}

below : (a b : ℕ) → (a < b) ⊎ (b ≤ a)
below a zero = inr (omega arith)
below zero (suc b) = inl (omega arith)
below (suc a) (suc b) =
    ⊎_elim (λ z. inl (omega (arith, z))) (λ z. inr (omega (arith, z))) (below a b)

same_or_not : (a b : ℕ) → (a ≡ b) ⊎ (a ≢ b)
same_or_not zero zero = inl refl
same_or_not zero (suc b) = inr (λ e. omega (arith, e))
same_or_not (suc a) zero = inr (λ e. omega (arith, e))
same_or_not (suc a) (suc b) =
    ⊎_elim (λ e. inl (ap suc e)) (λ ne. inr (λ e. ne (omega (arith, e)))) (same_or_not a b)

-- the item of a timer that is queued
found_item : (m : Option (Class × Item)) (class : Class) → option_map (λ found. found.0) m ≡ Some class
    → (item : Item) × (m ≡ Some (class, item))
found_item None class is = absurd (none-some class is)
found_item (Some (k, item)) class is = (item, ap (λ z. Some (z, item)) (same_Some _ _ is))

module _ (law : CoreLaws) (ways : WaysBack) (h : HeldWords) (w : World) (r : SpellsAtRest h w) where
  -- a timer's word spells where it is queued
  spot_is : (t : ℕ) → t < h.layout.timers → spot_of (word_in h (timer_at t)) ≡ r.whole.spot t
  spot_is t low =
      ap spot_of (r.spelled.each (timer_at t) low)
      ∙ ways.spot (r.whole.spot t) (λ p at.
      let a = (r.shown.queued t p at).0 in
      let b = many law r.opening r.whole r.shown in
      omega (arith, a, b))

  -- a timer that is queued is one of those that there are
  known : (t c : ℕ) (class : Class) → class_in t (cpu_of r.whole.world c).bases ≡ Some class
      → t < h.layout.timers
  known t c class is =
      let cpu : CpuBases = (cpu_of r.whole.world c).bases in
      let found = found_item (found_in t cpu) class is in
      let at = found_at t class found.0 cpu found.1 in
      let low = item_holds (λ i. i.id < r.whole.world.timers) t (base_of class cpu).items found.0
      (r.shown.fits.lawful.times.known c class) at.found in
      let a = at.same in
      let b = r.shown.same.timers in
      let l = ap (λ l. l.timers) r.layout in
      omega (arith, low, a, b, l)

  module _ (holders : List (Option CpuId)) (count : length holders ≡ h.layout.timers)
      (each : (t : ℕ) → t < h.layout.timers
      → noted holders t ≡ option_map cpu_of_spot (spot_of (word_in h (timer_at t)))) where
    nowhere : (t : ℕ) → h.layout.timers ≤ t → (m : Option Spot) → r.whole.spot t ≡ m
        → ◌≡◌ {A = Option CpuId} None (option_map cpu_of_spot m)
    nowhere t high None e = refl
    nowhere t high (Some p) e =
        let low = known t p.cpu.0 p.class (r.shown.queued t p e).1 in
        absurd (omega (arith, low, high))

    noted_is : (t : ℕ) → noted holders t ≡ option_map cpu_of_spot (r.whole.spot t)
    noted_is t = ⊎_elim
        (λ low. each t low ∙ ap (option_map cpu_of_spot) (spot_is t low))
        (λ high.
        get_or_past holders t None (omega (arith, high, count))
        ∙ nowhere t high (r.whole.spot t) refl)
        (below t h.layout.timers)

    other : (t c : ℕ) → class_in t (cpu_of r.whole.world c).bases ≡ None
        → (m : Option Spot) → r.whole.spot t ≡ m → ◌≡◌ {A = Bool} false (holds (option_map cpu_of_spot m) c)
    other t c none None e = refl
    other t c none (Some p) e = ⊎_elim
        (λ same.
        absurd (none-some p.class (sym none
        ∙ (ap (λ d. class_in t (cpu_of r.whole.world d).bases) (sym same)
        ∙ (r.shown.queued t p e).1))))
        (λ ne. sym (ne_eqb p.cpu.0 c ne))
        (same_or_not p.cpu.0 c)

    at : (t c : ℕ) (m : Option Class) → class_in t (cpu_of r.whole.world c).bases ≡ m
        → is_queued t (cpu_of r.whole.world c).bases ≡ holds (noted holders t) c
    at t c None none =
        ap is_some none
        ∙ (other t c none (r.whole.spot t) refl ∙ ap (λ d. holds d c) (sym (noted_is t)))
    at t c (Some class) there =
        ap is_some there
        ∙ (sym (eq-eqb c c refl)
        ∙ ap (λ d. holds d c)
        (sym (noted_is t ∙ ap (option_map cpu_of_spot) (r.shown.named t c class there))))

    -- the CPUs that the words of timers name are those on which timers are queued
    pub held : IsHeld w holders
    held = subst (λ (x : World). IsHeld x holders) r.is
        (λ t c. at t c (class_in t (cpu_of r.whole.world c).bases) refl)
