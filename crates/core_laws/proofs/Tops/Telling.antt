-- walks that tell events and look for the first one keep an idle top answered
use Rattle.std.proofs.Common.{◌≡◌, inl, inr, ℕ, ◌+◌, ◌<◌, ◌≤◌, Bool, true, false, cond, length}
use Rattle.std.proofs.Common.{Some, refl, sym, ap, ◌∙◌, subst, arith, eqb-true}
use Rattle.std.specs.Prelude.{◌==◌, unwrap_or}
use Rattle.std.proofs.lemmas.Bool.{cases_eq}
use Rattle.event_queue.specs.declared.event.Event.{Event}
use Rattle.event_queue.specs.EventMap.{Counts, event_at}
use Rattle.walk_rules.specs.declared.walk.Walk.{Walk}
use Rattle.walk_rules.specs.declared.walk.Stage.TheVariants as stages
use Rattle.walk_rules.specs.Hierarchy.{HasGroup, at_top}
use Rattle.walk_rules.specs.Stages.{first_next, forget, scan_next}
use Rattle.core_world.specs.IdleTop.{Answered, IsTopGroup, ReadsYet, TopAnswered, is_climbing}
use Rattle.core_world.specs.Steps.{child_here, here, walked, with_walk}
use Rattle.core_world.specs.World.{World, cpu_of, group_of, own}
use Rattle.core_laws.proofs.Tops.First.{first_low, first_takes}
use Rattle.core_laws.proofs.Tops.Answering.{By, answered_own, tame, tops_step}
use Rattle.core_laws.proofs.Tops.Answering.By.{activation, climbing, first, reading}
use Rattle.core_laws.proofs.Tops.Tops.{Before, one_top, slot_below}
use Rattle.core_laws.proofs.Tops.Walking.{climbs, goes_on, kept, one_kind, walk_is}

-- after Scan the events of the top are still to read
scanned : (child : ℕ) (q : Bool) (j : ℕ) → ReadsYet child (cond q stages.Store (stages.Scan j))
scanned child true j = tt
scanned child false j = tt

module _ (w : World) (c : ℕ) (k : Walk) (hc : c < length w.cpus) (b : Before w)
    (is : (cpu_of w c).walk ≡ Some k) where
  -- SCAN
  pub scan : (j : ℕ) → k.stage ≡ stages.Scan j → TopAnswered (walked w c k (stages.Scan j))
  scan j at =
      tops_step w 0 (group_of w 0) c _ false hc b.answered
      (tame w 0 (group_of w 0) c _ false hc refl (λ i e there counts. there))
      (λ h child e top was off event counts leaf by.
      kept w c k hc b is 0 (group_of w 0)
      (scan_next (event_at (group_of w (child_here w c k)).events j) j k) false child e.expiry
      refl (λ off. off) refl
      (λ last on yet. (last, on, scanned child (j == 7) (j + 1))) leaf by)

  -- FIRST
  abbrev looked : ℕ → Walk
  looked j = first_next (event_at (group_of w (here w c k)).events j) j k

  abbrev Looked : ℕ → World
  Looked j = own w c (with_walk (cpu_of w c) (Some (looked j)))

  reads_on : (j child time : ℕ) → HasGroup w.tree c → is_climbing k.kind ≡ true →
      at_top w.tree c k.level ≡ true → k.on ≡ false → j < child → child < 8
      → Answered (Looked j) child time
  reads_on j child time leaf climbs last on low eight =
      answered_own w 0 (group_of w 0) c _ false hc child time leaf
      (reading (looked j) refl climbs last on (by_test (j == 7) refl))
    where
      by_test : (q : Bool) → (j == 7) ≡ q →
          ReadsYet child (cond q stages.FreeGroup (stages.First (j + 1)))
      by_test true t = let seven = eqb-true j 7 t in absurd (omega (arith, seven, low, eight))
      by_test false t = omega (arith, low)

  pub looks : (j : ℕ) → k.stage ≡ stages.First j → TopAnswered (walked w c k (stages.First j))
  looks j at =
      tops_step w 0 (group_of w 0) c (with_walk (cpu_of w c) (Some (looked j))) false hc b.answered
      (tame w 0 (group_of w 0) c (with_walk (cpu_of w c) (Some (looked j))) false hc refl
      (λ i e there counts. there))
      (λ h child e top was off event counts leaf by.
      goes_on w c k hc b is 0 (group_of w 0) (Some (looked j)) false child e.expiry
      (one_kind k (looked j) refl) (record {
        activation = λ act. answer child e.expiry leaf (activation (looked j) refl act);
        climbing = λ climbs over. answer child e.expiry leaf (climbing (looked j) refl climbs over);
        reading = λ climbs last on yet. read_or h child e top event counts leaf climbs last on
            (subst (ReadsYet child) at yet);
        first = λ climbs low. answer child e.expiry leaf (first (looked j) refl climbs
            (let low_is = first_low k.first (event_at (group_of w (here w c k)).events j) in
            omega (arith, low, low_is)));
      }) leaf by)
    where
      answer : (child time : ℕ) → HasGroup w.tree c →
          By w.tree c (with_walk (cpu_of w c) (Some (looked j))) child time
          → Answered (Looked j) child time
      answer child time leaf a = answered_own w 0 (group_of w 0) c _ false hc child time leaf a

      -- the slot is read by this step, or is still to read
      read_or : (h child : ℕ) (e : Event) → IsTopGroup w h →
          event_at (group_of w h).events child ≡ Some e → Counts e → HasGroup w.tree c →
          is_climbing k.kind ≡ true → at_top w.tree c k.level ≡ true → k.on ≡ false → j ≤ child
          → Answered (Looked j) child e.expiry
      read_or h child e top event counts leaf climbs last on yet = elim (cases_eq j child) [
        | inl same ↦
            let g = (b.walks.placed.in_tree c (forget k) (walk_is w c k hc b is) leaf).there in
            let named : here w c k ≡ g.0 = ap (λ m. unwrap_or m 0) g.1 in
            let one : h ≡ g.0 = one_top w b h c k.level g.0 top g.1 last in
            let taken = first_takes k.first (event_at (group_of w (here w c k)).events j) e
            (ap (λ u. event_at (group_of w u).events j) (named ∙ sym one)
            ∙ (ap (event_at (group_of w h).events) same ∙ event)) counts in
            answer child e.expiry leaf (first (looked j) refl climbs taken)
        | inr ne ↦
            reads_on j child e.expiry leaf climbs last on (omega (arith, yet, ne))
            (slot_below w b h child e event)
      ]
