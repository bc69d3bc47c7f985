-- the CPU that is noted for a timer is the one on which it is queued
use Rattle.std.proofs.Common.{◌≡◌, ◌≢◌, ℕ, ◌<◌, Bool, true, false, true≢false, List, Option, Some}
use Rattle.std.proofs.Common.{None, length, refl, ap, sym, ◌∙◌, subst, arith, inl, inr, get_or}
use Rattle.std.proofs.Common.{get_or-set_other, get_or-set_same}
use Rattle.std.specs.Prelude.{◌==◌, ◌&&◌, ◌||◌, not, IfSome, slice_set}
use Rattle.std.proofs.lemmas.Bool.{cases_eq, cases_lt, eq-eqb, eqb-true, ne_eqb}
use Rattle.std.proofs.lemmas.List.{get_or_default, get_or_past}
use Rattle.std.proofs.lemmas.Option.{none-some}
use Rattle.tm_base.specs.declared.names.CpuId.{CpuId}
use Rattle.core_parts.specs.core_world.World.{CpuRecord, World, cpu_of, no_cpu, own}
use Rattle.core_state.specs.Kept.{IsHeld, holds, is_queued, noted}
use Rattle.core_state.proofs.Queues.{and_false, and_true, some_or_none}

or_true : (a b : Bool) → b ≡ true → (a || b) ≡ true
or_true true b e = refl
or_true false b e = e

or_no : (a : Bool) → (a || false) ≡ a
or_no true = refl
or_no false = refl

-- past the last CPU nothing is queued
pub queued_low : (w : World) (timer d : ℕ) → is_queued timer (cpu_of w d).bases ≡ true
    → d < length w.cpus
queued_low w timer d there = elim (cases_lt d (length w.cpus)) [
  | inl low ↦ low
  | inr past ↦
      absurd
      (true≢false
      (sym there ∙ ap (λ (y : CpuRecord). is_queued timer y.bases)
      (get_or_past w.cpus d no_cpu past)))
]

pub note_read : (holders : List (Option CpuId)) (timer i : ℕ) (x : Option CpuId) → i ≡ timer
    → timer < length holders → x ≡ get_or holders i x → noted holders timer ≡ x
note_read holders timer i x same low is =
    get_or_default holders timer None x low ∙ (ap (λ k. get_or holders k x) (sym same) ∙ sym is)

pub noted_there : (w : World) (holders : List (Option CpuId)) (timer : ℕ) (d : CpuId)
    → IsHeld w holders
    → noted holders timer ≡ Some d → is_queued timer (cpu_of w d.0).bases ≡ true
noted_there w holders timer d held is =
    held timer d.0 ∙ (ap (λ o. holds o d.0) is ∙ eq-eqb d.0 d.0 refl)

noted_low : (w : World) (holders : List (Option CpuId)) (timer : ℕ) (o : Option CpuId)
    → IsHeld w holders
    → noted holders timer ≡ o → IfSome o (λ d. d.0 < length w.cpus)
noted_low w holders timer None held is = tt
noted_low w holders timer (Some d) held is =
    queued_low w timer d.0 (noted_there w holders timer d held is)

pub read_low : (v w : World) (holders : List (Option CpuId)) (timer i : ℕ) (x : Option CpuId)
    → v ≡ w
    → v.timers ≡ length holders → IsHeld v holders → i ≡ timer → timer < w.timers
    → x ≡ get_or holders i x
    → IfSome x (λ d. d.0 < length w.cpus)
read_low v w holders timer i x seen count held same low is =
    let number = ap (λ (u : World). u.timers) seen in
    let low' : timer < length holders = omega (arith, number, count, low) in
    subst (λ (u : World). IfSome x (λ d. d.0 < length u.cpus)) seen
    (noted_low v holders timer x held (note_read holders timer i x same low' is))

-- where nothing is queued, nothing is noted
pub nowhere_noted : (w : World) (holders : List (Option CpuId)) (timer : ℕ) → IsHeld w holders
    → ((d : ℕ) → is_queued timer (cpu_of w d).bases ≡ false) → noted holders timer ≡ None
nowhere_noted w holders timer held none = elim (some_or_none (noted holders timer)) [
  | inl is ↦ is
  | inr there ↦
      absurd
      (true≢false (sym (noted_there w holders timer there.0 held there.1) ∙ none there.0.0))
]

-- and where a timer is queued on a CPU, that one is noted
noted_this : (o : Option CpuId) (c : CpuId) → holds o c.0 ≡ true → o ≡ Some c
noted_this None c is = absurd (true≢false (sym is))
noted_this (Some d) c is = let same = eqb-true d.0 c.0 is in λ k. Some (record { 0 = same k })

pub queued_noted : (w : World) (holders : List (Option CpuId)) (timer : ℕ) (c : CpuId)
    → IsHeld w holders
    → is_queued timer (cpu_of w c.0).bases ≡ true → noted holders timer ≡ Some c
queued_noted w holders timer c held there =
    noted_this (noted holders timer) c (sym (held timer c.0) ∙ there)

pub note_low : (holders : List (Option CpuId)) (timer : ℕ) (c : CpuId)
    → noted holders timer ≡ Some c
    → timer < length holders
note_low holders timer c is = elim (cases_lt timer (length holders)) [
  | inl low ↦ low
  | inr past ↦ absurd (none-some c (sym (get_or_past holders timer None past) ∙ is))
]

-- a change of the bases of one CPU, with what is noted beside it
module _ (w : World) (holders : List (Option CpuId)) (c : ℕ) (y : CpuRecord)
    (held : IsHeld w holders) (low : c < length w.cpus) where
  pub held_at : (after : List (Option CpuId))
      → ((timer : ℕ) → is_queued timer y.bases ≡ holds (noted after timer) c)
      → ((timer d : ℕ) → d ≢ c → holds (noted after timer) d ≡ holds (noted holders timer) d)
      → IsHeld (own w c y) after
  held_at after here others = λ timer d.
      elim (cases_eq d c) [
        | inl is ↦
            subst (λ k. is_queued timer (cpu_of (own w c y) k).bases ≡ holds (noted after timer) k)
            (sym is) (ap (λ (z : CpuRecord). is_queued timer z.bases)
            (get_or-set_same w.cpus c y no_cpu low) ∙ here timer)
        | inr apart ↦
            ap (λ (z : CpuRecord). is_queued timer z.bases)
            (get_or-set_other w.cpus c d y no_cpu apart)
            ∙ (held timer d ∙ sym (others timer d apart))
      ]

  -- a timer that was nowhere comes to this CPU
  pub came : (t : ℕ) (by : CpuId) → by.0 ≡ c → t < length holders → noted holders t ≡ None
      → ((timer : ℕ) → is_queued timer y.bases ≡ (is_queued timer (cpu_of w c).bases || t == timer))
      → IsHeld (own w c y) (slice_set holders t (Some by))
  came t by is_c within none queues =
      held_at (slice_set holders t (Some by))
      (λ timer.
      elim (cases_eq timer t) [
        | inl at ↦
            queues timer
            ∙ (or_true (is_queued timer (cpu_of w c).bases) (t == timer) (eq-eqb t timer (sym at))
            ∙ sym (ap (λ k. holds (noted (slice_set holders t (Some by)) k) c) at
            ∙ (ap (λ o. holds o c) (get_or-set_same holders t (Some by) None within)
            ∙ eq-eqb by.0 c is_c)))
        | inr apart ↦
            queues timer
            ∙ (ap (λ b. is_queued timer (cpu_of w c).bases || b)
            (ne_eqb t timer (λ e. apart (sym e)))
            ∙ (or_no (is_queued timer (cpu_of w c).bases)
            ∙ (held timer c
            ∙ sym (ap (λ o. holds o c)
            (get_or-set_other holders t timer (Some by) None apart)))))
      ])
      (λ timer d away.
      elim (cases_eq timer t) [
        | inl at ↦
            ap (λ k. holds (noted (slice_set holders t (Some by)) k) d) at
            ∙ (ap (λ o. holds o d) (get_or-set_same holders t (Some by) None within)
            ∙ (ne_eqb by.0 d (λ e. away (sym e ∙ is_c))
            ∙ sym (ap (λ k. holds (noted holders k) d) at ∙ ap (λ o. holds o d) none)))
        | inr apart ↦ ap (λ o. holds o d) (get_or-set_other holders t timer (Some by) None apart)
      ])

  -- a timer goes from this CPU
  pub went : (t : ℕ) (by : CpuId) → by.0 ≡ c → noted holders t ≡ Some by
      → ((timer : ℕ)
      → is_queued timer y.bases ≡ (is_queued timer (cpu_of w c).bases && not (t == timer)))
      → IsHeld (own w c y) (slice_set holders t None)
  went t by is_c was queues =
      let within = note_low holders t by was in
      held_at (slice_set holders t None)
      (λ timer.
      elim (cases_eq timer t) [
        | inl at ↦
            queues timer
            ∙ (ap (λ b. is_queued timer (cpu_of w c).bases && not b) (eq-eqb t timer (sym at))
            ∙ (and_false (is_queued timer (cpu_of w c).bases)
            ∙ sym (ap (λ k. holds (noted (slice_set holders t None) k) c) at
            ∙ ap (λ o. holds o c) (get_or-set_same holders t None None within))))
        | inr apart ↦
            queues timer
            ∙ (ap (λ b. is_queued timer (cpu_of w c).bases && not b)
            (ne_eqb t timer (λ e. apart (sym e)))
            ∙ (and_true (is_queued timer (cpu_of w c).bases)
            ∙ (held timer c
            ∙ sym (ap (λ o. holds o c) (get_or-set_other holders t timer None None apart)))))
      ])
      (λ timer d away.
      elim (cases_eq timer t) [
        | inl at ↦
            ap (λ k. holds (noted (slice_set holders t None) k) d) at
            ∙ (ap (λ o. holds o d) (get_or-set_same holders t None None within)
            ∙ sym (ap (λ k. holds (noted holders k) d) at
            ∙ (ap (λ o. holds o d) was ∙ ne_eqb by.0 d (λ e. away (sym e ∙ is_c)))))
        | inr apart ↦ ap (λ o. holds o d) (get_or-set_other holders t timer None None apart)
      ])
