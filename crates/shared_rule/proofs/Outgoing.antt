-- for crates above: a timer goes out of the bases of a CPU, as a step of the table
use Rattle.std.proofs.Common.{◌≡◌, ◌≢◌, ◌⊎◌, ℕ, ◌<◌, eq-eqb, length, [], ◌∷◌, ◌++◌}
use Rattle.std.proofs.Common.{false, Option, Some, None, refl, sym, ap, ◌∙◌, subst, inl, inr}
use Rattle.std.proofs.lemmas.Bool.{cases_eq}
use Rattle.std.proofs.lemmas.Option.{none-some}
use prog.Atomic.{either}
use Rattle.tm_base.specs.declared.names.Class.{Class}
use Rattle.cpu_bases.specs.declared.entry.Entry.{Entry}
use Rattle.cpu_bases.specs.CpuBases.{CpuBases, class_in}
use Rattle.core_world.specs.World.{World, cpu_of, own}
use Rattle.core_world.specs.declared.step.Step.{Step}
use Rattle.core_world.specs.Enabled.{Enabled}
use Rattle.core_world.specs.Steps.{stepped}
use Rattle.core_state.specs.core_facts.Reach.{reach_of}
use Rattle.shared_words.specs.declared.spot.Spot.{Spot}
use Rattle.shared_words.specs.Layout.{index_of}
use Rattle.shared_words.specs.Words.{spot_word}
use Rattle.shared_rule.specs.declared.parts.PassView.{PassView}
use Rattle.shared_rule.specs.CoreLaws.{CoreLaws}
use Rattle.shared_rule.specs.Whole.{Whole, box_as, box_of, layout_of, leaf_of, spot_at, timer_at}
use Rattle.shared_rule.specs.Shows.{IsShown, journal_of, set_at}
use Rattle.shared_rule.specs.Rule.{Goes, Me, seat_of}
use Rattle.shared_rule.specs.TimerLaws.{queued_word, unqueued}
use Rattle.shared_rule.proofs.Acted.{acts, noted_pass}
use Rattle.shared_rule.proofs.Entering.{EntryFits}
use Rattle.shared_rule.proofs.Moving.{set_else, set_here}

-- what a step has to show by which the timer u goes out of the bases of c, with the pass p of the
-- CPU that takes it brought
pub record Outgoes (o : World) (s : Whole) (c u : ℕ) (class : Class) (bases : CpuBases) (e : Entry)
    (p : PassView) (then : ℕ → Me → Type 0) : Type 0 where
  pub step : Step
  pub enabled : Enabled s.world step
  pub is : stepped s.world step ≡ own s.world c (record (cpu_of s.world c) { bases = bases })
  pub time : (reach_of step).time ≡ false
  pub online : (reach_of step).online ≡ false
  pub in_range : c < length o.cpus
  pub brought : p ≡ s.pass p.cpu
  pub written : bases.journal ≡ journal_of s.world c ++ e ∷ []
  pub entry : EntryFits o c p.cpu e
  pub was : class_in u (cpu_of s.world c).bases ≡ Some class
  pub gone : class_in u bases ≡ None
  pub rest : (t : ℕ) → t ≢ u → class_in t bases ≡ class_in t (cpu_of s.world c).bases
  pub told : then (queued_word c class)
      (seat_of
      (box_as o c (record (cpu_of s.world c) { bases = bases }) (leaf_of s.world c) (s.read c)
      (s.looked c) ∷ [])
      (noted_pass c (length (journal_of s.world c)) e p ∷ []))

module _ (law : CoreLaws) (o : World) (s : Whole) (h : IsShown o s) (c u : ℕ) (class : Class)
    (bases : CpuBases) (e : Entry) (p : PassView) (then : ℕ → Me → Type 0)
    (q : Outgoes o s c u class bases e p then) where
  abbrev w : World
  w = s.world

  abbrev spot : ℕ → Option Spot
  spot = set_at u None s.spot

  here : spot u ≡ None
  here = set_here u None s.spot

  was_at : s.spot u ≡ Some (spot_at c class)
  was_at = h.named u c class q.was

  -- no other CPU has it
  elsewhere : (t d : ℕ) (k : Class) → d ≢ c → class_in t (cpu_of w d).bases ≡ Some k → t ≢ u
  elsewhere t d k ne at is =
      ne (h.fits.lawful.timers.one_cpu d c t k class at
      (ap (λ m. class_in m (cpu_of w c).bases) is ∙ q.was))

  kept : (t : ℕ) (k : Class) → class_in t bases ≡ Some k → t ≢ u
  kept t k at is =
      none-some k (sym q.gone ∙ (ap (λ m. class_in m bases) (sym is) ∙ at))

  left_there : (t : ℕ) (z : Spot) → spot t ≡ Some z → t ≢ u
  left_there t z at is = none-some z (sym here ∙ (ap spot (sym is) ∙ at))

  queued : (t : ℕ) (z : Spot) → spot t ≡ Some z
      → ((z.cpu.0 ≡ c) × (class_in t bases ≡ Some z.class))
      ⊎ ((z.cpu.0 ≢ c) × (s.spot t ≡ Some z))
  queued t z at =
      let ne = left_there t z at in
      let old = sym (set_else u None s.spot t ne) ∙ at in
      elim (cases_eq z.cpu.0 c) [
        | inl is ↦
            inl (
              is,
              q.rest t ne
                  ∙ (ap (λ d. class_in t (cpu_of w d).bases) (sym is) ∙ (h.queued t z old).1),
            )
        | inr other ↦ inr (other, old)
      ]

  left : (t : ℕ) → class_in t (cpu_of w c).bases ≡ None → class_in t bases ≡ None
  left t none = elim (cases_eq t u) [
    | inl is ↦ ap (λ m. class_in m bases) is ∙ q.gone
    | inr ne ↦ q.rest t ne ∙ none
  ]

  pub outgoes : Goes o s (box_of o s c) (p ∷ []) (timer_at u) (unqueued c class) (λ n. Some q.step)
      then
  outgoes =
      acts law o s h c p.cpu bases e spot p (timer_at u) (unqueued c class) then
      (record {
        step = q.step;
        enabled = q.enabled;
        is = q.is;
        time = q.time;
        online = q.online;
        in_range = q.in_range;
        brought = q.brought;
        whose = refl;
        written = q.written;
        entry = q.entry;
        named = λ t k at.
            let ne = kept t k at in
            set_else u None s.spot t ne ∙ h.named t c k (sym (q.rest t ne) ∙ at);
        named_else = λ t d k ne at.
            set_else u None s.spot t (elsewhere t d k ne at) ∙ h.named t d k at;
        queued = queued;
        left = λ t off none. left t none;
        word =
            ap spot_word here
            ∙ sym (ap (λ b. either b 0 (spot_word (s.spot u)))
            (eq-eqb (spot_word (s.spot u)) (queued_word c class) (ap spot_word was_at)));
        timers = λ t ne.
            set_else u None s.spot t
            (λ is. ne (ap (λ m. index_of (layout_of o) (timer_at m)) is));
        told = subst (λ n. then n
            (seat_of
            (box_as o c (record (cpu_of w c) { bases = bases }) (leaf_of w c) (s.read c)
            (s.looked c) ∷ [])
            (noted_pass c (length (journal_of w c)) e p ∷ []))) (sym (ap spot_word was_at)) q.told;
      })
