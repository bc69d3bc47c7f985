-- for crates above: a timer is armed, unless it is queued
use Rattle.std.proofs.Common.{◌≡◌, ◌≢◌, ◌⊎◌, ⊎_elim, ℕ, ◌<◌, eqb, eq-eqb, ne_eqb}
use Rattle.std.proofs.Common.{[], ◌∷◌, length, true≢false, Option, Some, None, refl}
use Rattle.std.proofs.Common.{sym, ap, ◌∙◌, subst, inl, inr, arith}
use Rattle.std.proofs.lemmas.Bool.{cases_eq}
use Rattle.std.proofs.lemmas.Option.{none-some, same_Some}
use mathlib.Core.Option.{some}
use prog.Atomic.{either}
use Rattle.tm_base.specs.declared.names.Class.{Class}
use Rattle.tm_base.specs.declared.names.TimerId.{TimerId}
use Rattle.cpu_bases.specs.declared.entry.Act.TheVariants as deeds
use Rattle.cpu_bases.specs.declared.entry.Entry.{Entry}
use Rattle.cpu_bases.specs.CpuBases.{CpuBases, armed, class_in, entry_of, item_queued}
use Rattle.core_world.specs.declared.step.Step.TheVariants as steps
use Rattle.core_world.specs.Steps.{with_bases}
use Rattle.core_world.specs.World.{World, cpu_of, own}
use Rattle.shared_words.specs.declared.spot.Spot.{Spot}
use Rattle.shared_words.specs.Layout.{index_of}
use Rattle.shared_words.specs.Words.{spot_word}
use Rattle.shared_rule.specs.declared.parts.BoxView.{BoxView}
use Rattle.shared_rule.specs.declared.parts.PassView.{PassView}
use Rattle.shared_rule.specs.declared.parts.Said.TheVariants as saids
use Rattle.shared_rule.specs.CoreLaws.{CoreLaws}
use Rattle.shared_rule.specs.Whole.{Whole, box_of, layout_of, spot_at, timer_at}
use Rattle.shared_rule.specs.Shows.{CoreStep}
use Rattle.shared_rule.specs.Shows.{IsShown, set_at}
use Rattle.shared_rule.specs.Rule.{Goes, Me, seat_of}
use Rattle.shared_rule.specs.Plays.{on_pass, seen_pass}
use Rattle.shared_rule.specs.Timers.{ArmTells, armed_box, armed_pass}
use Rattle.shared_rule.specs.Turns.{on_pair}
use Rattle.shared_rule.specs.TimerLaws.{ArmStays, MayExchangeArm, queued_word}
use Rattle.shared_rule.proofs.Acted.{acts}
use Rattle.shared_rule.proofs.Going.{allows}
use Rattle.shared_rule.proofs.Moving.{set_else, set_here}
use Rattle.shared_rule.proofs.Noticing.{notices}
use Rattle.shared_rule.proofs.Queues.{armed_else, armed_here}
use Rattle.shared_rule.proofs.Seeing.{names_cpu, no_spot, or_class}
use Rattle.shared_rule.proofs.Waking.{none_shown}
use Rattle.shared_rule.specs.Laws.{none_made, where_made}
use Rattle.shared_rule.proofs.Reaching.{under}

-- an arming of a timer by the CPU of a pass, as it is asked for
module _ (law : CoreLaws) (o : World) (class : Class) (timer : TimerId)
    (expires job arg line : ℕ) (p : PassView) where
  abbrev word : ℕ
  word = index_of (layout_of o) (timer_at timer.0)

  -- what the try makes of the timer's word
  abbrev tried : (c : ℕ) → ℕ → ℕ
  tried c n = either (eqb n 0) (queued_word c class) n

  -- which step of the core it makes
  abbrev made_by : (c : ℕ) → ℕ → Option CoreStep
  made_by c n =
      where_made (eqb n 0) (steps.Arm (record { 0 = c }) timer class expires job arg line)

  -- what the seat of a box is told
  abbrev Told : BoxView → ℕ → Me → Type 0
  Told b n v =
      ArmTells (some (saids.Arm timer class expires job arg line)) (eqb n 0) word n
      (seat_of (b ∷ []) (p ∷ [])) v

  module _ (s : Whole) (h : IsShown o s) (c : ℕ)
      (may : MayExchangeArm o (box_of o s c) class timer expires p)
      (runner : p.cpu < length o.cpus) (is : p ≡ s.pass p.cpu)
      (free : (cpu_of s.world c).walk ≡ None) where
    abbrev w : World
    w = s.world

    abbrev bases : CpuBases
    bases =
        armed o.clock class timer.0 expires job arg line (record { 0 = p.cpu })
        (cpu_of w c).bases

    abbrev entry : Entry
    entry =
        entry_of deeds.Armed line o.clock class
        (item_queued o.clock class timer.0 expires job arg (cpu_of w c).bases)
        (record { 0 = p.cpu })

    -- the try finds that the timer is queued
    misses : spot_word (s.spot timer.0) ≢ 0
        → Goes o s (box_of o s c) (p ∷ []) (timer_at timer.0) (tried c) (made_by c)
        (Told (box_of o s c))
    misses there =
        under o s (box_of o s c) (p ∷ []) (timer_at timer.0) (tried c) none_made (made_by c)
        (Told (box_of o s c))
        (ap (λ z. where_made z (steps.Arm (record { 0 = c }) timer class expires job arg line))
        (ne_eqb _ _ there))
        (notices law o s h c p (timer_at timer.0) may.known is (tried c)
        (ap (λ z. either z (queued_word c class) (spot_word (s.spot timer.0))) (ne_eqb _ _ there))
        (Told (box_of o s c))
        (subst (λ z. ArmTells (some (saids.Arm timer class expires job arg line)) z word
        (spot_word (s.spot timer.0)) (seat_of (box_of o s c ∷ []) (p ∷ []))
        (on_pass (seen_pass word (spot_word (s.spot timer.0)))
        (seat_of (box_of o s c ∷ []) (p ∷ [])))) (sym (ne_eqb _ _ there))
        (refl, names_cpu law o s h timer.0 p is)))

    -- the try finds that it is queued nowhere
    module _ (free_word : spot_word (s.spot timer.0) ≡ 0) where
      abbrev spot : ℕ → Option Spot
      spot = set_at timer.0 (Some (spot_at c class)) s.spot

      here : spot timer.0 ≡ Some (spot_at c class)
      here = set_here timer.0 (Some (spot_at c class)) s.spot

      apart : (t : ℕ) → t ≢ timer.0 → spot t ≡ s.spot t
      apart t ne = set_else timer.0 (Some (spot_at c class)) s.spot t ne

      nowhere : (d : ℕ) → class_in timer.0 (cpu_of w d).bases ≡ None
      nowhere d = ⊎_elim (λ none. none)
          (λ (z : (k : Class) × (class_in timer.0 (cpu_of w d).bases ≡ Some k)).
          absurd (none-some (spot_at d z.0)
          (sym (no_spot (s.spot timer.0) free_word) ∙ h.named timer.0 d z.0 z.1)))
          (or_class (class_in timer.0 (cpu_of w d).bases))

      queued_there : class_in timer.0 bases ≡ Some class
      queued_there =
          armed_here o.clock class timer.0 expires job arg line (record { 0 = p.cpu })
          (cpu_of w c).bases (h.fits.lawful.timers.consistent c)
          (record {
            now_in_time = omega (arith, h.opening.in_time);
            expires_in_time = may.in_time;
            timer_fits = omega (arith, may.known, h.opening.few);
            not_queued = nowhere c;
            none_behind = may.none_behind;
          })

      others : (t : ℕ) → t ≢ timer.0 → class_in t bases ≡ class_in t (cpu_of w c).bases
      others t ne =
          armed_else o.clock class timer.0 expires job arg line (record { 0 = p.cpu })
          (cpu_of w c).bases t ne

      named : (t : ℕ) (k : Class) → class_in t bases ≡ Some k → spot t ≡ Some (spot_at c k)
      named t k at = elim (cases_eq t timer.0) [
        | inl it ↦
            let one : class ≡ k
            = same_Some class k
            (sym queued_there ∙ (ap (λ m. class_in m bases) (sym it) ∙ at)) in
            ap spot it ∙ (here ∙ ap (λ m. Some (spot_at c m)) one)
        | inr ne ↦ apart t ne ∙ h.named t c k (sym (others t ne) ∙ at)
      ]

      named_else : (t d : ℕ) (k : Class) → d ≢ c → class_in t (cpu_of w d).bases ≡ Some k
          → spot t ≡ Some (spot_at d k)
      named_else t d k ne at =
          apart t
          (λ it.
          none-some k
          (sym (nowhere d) ∙ (ap (λ m. class_in m (cpu_of w d).bases) (sym it) ∙ at)))
          ∙ h.named t d k at

      queued : (t : ℕ) (z : Spot) → spot t ≡ Some z
          → ((z.cpu.0 ≡ c) × (class_in t bases ≡ Some z.class))
          ⊎ ((z.cpu.0 ≢ c) × (s.spot t ≡ Some z))
      queued t z at = elim (cases_eq t timer.0) [
        | inl it ↦
            let one : spot_at c class ≡ z
            = same_Some (spot_at c class) z (sym here ∙ (ap spot (sym it) ∙ at)) in
            inl (
              ap (λ (x : Spot). x.cpu.0) (sym one),
              ap (λ m. class_in m bases) it
                  ∙ (queued_there ∙ ap (λ (x : Spot). Some x.class) one),
            )
        | inr ne ↦
            let old = sym (apart t ne) ∙ at in
            elim (cases_eq z.cpu.0 c) [
              | inl own_cpu ↦
                  inl (
                    own_cpu,
                    others t ne
                        ∙ (ap (λ d. class_in t (cpu_of w d).bases) (sym own_cpu)
                        ∙ (h.queued t z old).1),
                  )
              | inr other ↦ inr (other, old)
            ]
      ]

      hits : Goes o s (box_of o s c) (p ∷ []) (timer_at timer.0) (tried c) (made_by c)
          (Told (box_of o s c))
      hits =
          let hw : c < length w.cpus = omega (arith, may.cpu, h.same.cpus) in
          let armed_so : CoreStep
          = steps.Arm (record { 0 = c }) timer class expires job arg line in
          under o s (box_of o s c) (p ∷ []) (timer_at timer.0) (tried c) (λ n. Some armed_so)
          (made_by c) (Told (box_of o s c)) (ap (λ z. where_made z armed_so) (eq-eqb _ _ free_word))
          (acts law o s h c p.cpu bases entry spot p (timer_at timer.0) (tried c)
          (Told (box_of o s c))
          (record {
            step = steps.Arm (record { 0 = c }) timer class expires job arg line;
            enabled = record {
              is_free = record { in_range = hw; free = free };
              online = may.online;
              may_run = may.may_run;
              known = omega (arith, may.known, h.same.timers);
              not_queued = nowhere;
              to_come = omega (arith, may.to_come, h.clock);
              in_time = may.in_time;
              none_behind = may.none_behind;
            };
            is = λ i. own w c (with_bases (cpu_of w c)
                (armed (h.clock i) class timer.0 expires job arg line (record { 0 = sym may.own i })
                (cpu_of w c).bases));
            time = refl;
            online = refl;
            in_range = may.cpu;
            brought = is;
            whose = refl;
            written = refl;
            entry = record { runner = runner; at = refl; by = refl; armed = λ z. sym may.own };
            named = named;
            named_else = named_else;
            queued = queued;
            left = λ t off was. absurd (true≢false (sym may.online ∙ (h.online c ∙ off)));
            word =
                ap spot_word here
                ∙ sym (ap (λ b. either b (queued_word c class) (spot_word (s.spot timer.0)))
                (eq-eqb _ _ free_word));
            timers = λ t ne.
                apart t (λ it. ne (ap (λ m. index_of (layout_of o) (timer_at m)) it));
            told =
                subst (λ z. ArmTells (some (saids.Arm timer class expires job arg line)) z word
                (spot_word (s.spot timer.0)) (seat_of (box_of o s c ∷ []) (p ∷ []))
                (on_pair (armed_box class timer.0 expires job arg line)
                (armed_pass class timer.0 expires job arg line)
                (seat_of (box_of o s c ∷ []) (p ∷ [])))) (sym (eq-eqb _ _ free_word)) refl;
          }))

    tries : Goes o s (box_of o s c) (p ∷ []) (timer_at timer.0) (tried c) (made_by c)
        (Told (box_of o s c))
    tries = elim (cases_eq (spot_word (s.spot timer.0)) 0) [
      | inl none ↦ hits none
      | inr there ↦ misses there
    ]

pub arms : (law : CoreLaws) (o : World) → ArmStays o
arms law o slots id expires job arg line class timer b p may =
    allows law o slots id b (p ∷ []) (timer_at timer.0)
    (tried law o class timer expires job arg line p b.cpu)
    (made_by law o class timer expires job arg line p b.cpu)
    (Told law o class timer expires job arg line p b) may.known
    (λ s h hc is known fits.
    subst (λ (z : BoxView). Goes o s z (p ∷ []) (timer_at timer.0)
    (tried law o class timer expires job arg line p b.cpu)
    (made_by law o class timer expires job arg line p b.cpu)
    (Told law o class timer expires job arg line p z)) (sym is)
    (tries law o class timer expires job arg line p s h b.cpu
    (subst (λ (z : BoxView). MayExchangeArm o z class timer expires p) is may) known.0.0 known.0.1
    (none_shown _ (ap (λ (z : BoxView). z.own.walk) (sym is) ∙ may.free))))
