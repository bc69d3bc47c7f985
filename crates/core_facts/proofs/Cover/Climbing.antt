-- for crates above: from its leaf upwards a timer is told, until it is held, answered for at an idle top, or carried
use Rattle.std.proofs.Common.{◌≡◌, inl, inr, ℕ, zero, suc, ◌+◌, ◌≤◌, cond, Bool, true, false}
use Rattle.std.proofs.Common.{Option, Some, None, refl, sym, ap, ◌∙◌, subst, arith}
use Rattle.std.specs.Prelude.{is_none, is_some, option_and_then, option_map}
use Rattle.std.specs.Option.{option_map_or}
use Rattle.std.proofs.lemmas.Bool.{cases_eq}
use Rattle.std.proofs.lemmas.Option.{none-some, same_Some}
use Rattle.event_queue.specs.declared.event.Event.{Event}
use Rattle.event_queue.specs.EventMap.{Counts, event_at}
use Rattle.tm_base.specs.Children.{of_group}
use Rattle.tree_plan.specs.Shape.{Shape}
use Rattle.tree_plan.specs.Paths.{bit_of, child_towards, group_at_of, group_count_of, parent_of}
use Rattle.core_world.specs.coverage.Coverage.{HasEvent, Told, WakesBy}
use Rattle.walk_rules.specs.Hierarchy.{at_top, side}
use Rattle.walk_rules.specs.Queues.{HasTold}
use Rattle.core_world.specs.Covered.{Covered, at_idle_top, by_role, live_expiry, machine_of}
use Rattle.core_world.specs.Covered.{IsUnderWay, on_the_way}
use Rattle.core_world.specs.IdleTop.{Answered, by_activation, by_climbing, by_first, by_interrupt}
use Rattle.core_world.specs.IdleTop.{by_reading, by_wakeup}
use Rattle.core_world.specs.Lawful.{IsLawful}
use Rattle.core_world.specs.World.{World, cpu_of, group_of, scene_of}
use Rattle.core_facts.proofs.Cover.Chains.{level_short}
use Rattle.core_facts.proofs.Cover.Leading.{Ends, leads}
use Rattle.core_facts.proofs.Cover.Resting.{kept}

-- the event that counts, from its expiry
pub record IsLive (m : Option Event) (expiry : ℕ) : Type 0 where
  pub event : Event
  pub is : m ≡ Some event
  pub counts : Counts event
  pub when : event.expiry ≡ expiry

live_as : (e : Event) (ignored : Bool) (expiry : ℕ) → e.ignored ≡ ignored →
    live_expiry (Some e) ≡ Some expiry → IsLive (Some e) expiry
live_as e true expiry is live = absurd (none-some expiry
    (sym (ap (λ b. cond b None (Some e.expiry)) is) ∙ live))
live_as e false expiry is live = record {
  event = e;
  is = refl;
  counts = is;
  when = same_Some _ _ (sym (ap (λ b. cond b None (Some e.expiry)) is) ∙ live);
}

pub live : (m : Option Event) (expiry : ℕ) → live_expiry m ≡ Some expiry → IsLive m expiry
live None expiry e = absurd (none-some expiry e)
live (Some e) expiry is = live_as e e.ignored expiry refl is

pub counted : (m : Option Event) (e : Event) → m ≡ Some e → Counts e → live_expiry m ≡ Some e.expiry
counted m e is counts = ap live_expiry is ∙ ap (λ b. cond b None (Some e.expiry)) counts

none_is : (m : Option ℕ) → is_none m ≡ true → m ≡ None
none_is None e = refl
none_is (Some p) e = absurd (cc)

some_next : (m : Option ℕ) → is_none m ≡ false → (p : ℕ) × (m ≡ Some p)
some_next None e = absurd (cc)
some_next (Some p) e = (p, refl)

-- one level further on a path
pub parent_next : (t : Shape) (c level g p : ℕ) → group_at_of t c level ≡ Some g →
    group_at_of t c (suc level) ≡ Some p → parent_of t (of_group g) ≡ Some p
unfolding group_at_of
parent_next t c level g p here there = sym (ap (option_and_then (λ v. parent_of t (of_group v)))
    here) ∙ there

side_next : (t : Shape) (c level g : ℕ) → group_at_of t c level ≡ Some g →
    side t c (suc level) ≡ bit_of t (of_group g)
unfolding child_towards
side_next t c level g here = ap (λ m. option_map_or (bit_of t) (option_map of_group m) 0) here

module _ (w : World) (l : IsLawful w) (c wheel : ℕ) where
  abbrev To : ℕ → Type 0
  To level = Told (machine_of w) c wheel level

  -- told one level higher
  told_next : (level g p : ℕ) → To level → group_at_of w.tree c level ≡ Some g →
      (group_of w g).migrator ≡ None → group_at_of w.tree c (suc level) ≡ Some p →
      HasEvent (machine_of w) c wheel (suc level) → To (suc level)
  told_next level g p told here off there event = record {
    inactive = λ k h low at. elim (cases_eq k level) [
      | inl same ↦ let is : g ≡ h = same_Some _ _ (sym here
          ∙ subst (λ v. group_at_of w.tree c v ≡ Some h) same at) in
          subst (λ v. (group_of w v).migrator ≡ None) is off
      | inr ne ↦ told.inactive k h (omega (arith, low, ne)) at
    ];
    events = λ k low. elim (cases_eq k (suc level)) [
      | inl same ↦ subst (λ v. HasEvent (machine_of w) c wheel v) (sym same) event
      | inr ne ↦ told.events k (omega (arith, low, ne))
    ];
  }

  -- the CPU's event in a group of its path
  pub in_place : (level g : ℕ) (e : HasEvent (machine_of w) c wheel level) →
      group_at_of w.tree c level ≡ Some g → live_expiry
      (event_at (group_of w g).events (side w.tree c level)) ≡ Some e.expiry
  in_place level g e here = subst (λ v. live_expiry
      (event_at (group_of w v).events (side w.tree c level)) ≡ Some e.expiry)
      (same_Some _ _ (sym e.on_path ∙ here)) e.there

  -- what the group knows of was told to its parent, and so the CPU's event
  event_next : (level g p : ℕ) (e : HasEvent (machine_of w) c wheel level) →
      group_at_of w.tree c level ≡ Some g → group_at_of w.tree c (suc level) ≡ Some p →
      HasTold w.tree (scene_of w) g p → HasEvent (machine_of w) c wheel (suc level)
  event_next level g p e here there told =
      let is = live _ e.expiry (in_place level g e here) in
      let above = told (side w.tree c level) is.event is.is is.counts in
      let late = above.in_time in
      let when = is.when in
      let early = e.in_time in
      record {
        in_group = p;
        expiry = above.event.expiry;
        on_path = there;
        there = ap (λ k. live_expiry (event_at (group_of w p).events k))
            (side_next w.tree c level g here) ∙ counted _ above.event above.there above.counts;
        in_time = omega (arith, late, when, early);
      }

  -- at a group of the path that isn't active
  module _ (level g : ℕ) (told : To level) (here : group_at_of w.tree c level ≡ Some g)
      (off : (group_of w g).migrator ≡ None) where
    -- at an idle top a kept wakeup answers for the CPU's event, or something under way does
    module _ (e : Event) (top : at_top w.tree c level ≡ true)
        (is : event_at (group_of w g).events (side w.tree c level) ≡ Some e) (counts : Counts e)
      where
        carried : (by : Answered w (side w.tree c level) e.expiry) →
            IsUnderWay w (side w.tree c level) e.expiry by → Covered w c wheel
        carried by going = inr (inr (at_idle_top level g e told here top off is by going))

        woken : WakesBy (machine_of w) e.expiry → Covered w c wheel
        woken wakes = inr (inl (inr (record {
          level = level;
          top = g;
          expiry = e.expiry;
          on_path = here;
          is_top = (let next : suc level ≡ level + 1 = omega arith in
              subst (λ n. group_at_of w.tree c n ≡ None) next
              (none_is (group_at_of w.tree c (suc level)) top));
          told = told;
          inactive = off;
          event = counted _ e is counts;
          wakes = wakes;
        })))

        answered : Answered w (side w.tree c level) e.expiry → Covered w c wheel
        answered (by_wakeup d group keeps soon) = woken (record {
          waker = d;
          at = (cpu_of w d).wakeup;
          placed = l.hierarchy.has_group d group.0 group.1;
          keeps = kept (cpu_of w d) keeps;
          in_time = soon;
        })
        answered (by_activation d k group is kind) = carried (by_activation d k group is kind) tt
        answered (by_interrupt d group online idle inside goes_on) =
            carried (by_interrupt d group online idle inside goes_on) tt
        answered (by_climbing d k climbs over) = carried (by_climbing d k climbs over) tt
        answered (by_reading d k climbs top off yet) =
            carried (by_reading d k climbs top off yet) tt
        answered (by_first d k climbs soon) = carried (by_first d k climbs soon) tt

    at_last : at_top w.tree c level ≡ true → Covered w c wheel
    at_last top =
        let e = told.events level (omega arith) in
        let is = live _ e.expiry (in_place level g e here) in
        answered is.event top is.is is.counts
        (l.answered g (side w.tree c level) is.event
        (record { cpu = c; level = level; there = here; last = top }) off is.is is.counts)

    going_on : ((p : ℕ) → To (suc level) → Covered w c wheel) → at_top w.tree c level ≡ false →
        Covered w c wheel
    going_on higher more =
        let p = some_next (group_at_of w.tree c (suc level)) more in
        elim (l.told g p.0 (parent_next w.tree c level g p.0 here p.1) (ap is_some off)) [
          | inl has ↦ higher p.0 (told_next level g p.0 told here off p.1
              (event_next level g p.0 (told.events level (omega arith)) here p.1 has))
          | inr way ↦ inr (inr (on_the_way level g told here off more way))
        ]

    upwards : ((p : ℕ) → To (suc level) → Covered w c wheel) →
        (top : Bool) → at_top w.tree c level ≡ top → Covered w c wheel
    upwards higher true is = at_last is
    upwards higher false is = going_on higher is

  -- at an active group
  at_active : (level g : ℕ) → To level → group_at_of w.tree c level ≡ Some g → Ends w g →
      Covered w c wheel
  at_active level g told here (inl run) = inl (record {
    level = level;
    in_group = g;
    runner = run.runner;
    on_path = here;
    told = told;
    leads = run.leads;
  })
  at_active level g told here (inr left) = inr
      (inr (by_role level g left.child told here left.leads left.off left.cared))

  by_migrator : (level g : ℕ) → To level → group_at_of w.tree c level ≡ Some g →
      ((p : ℕ) → To (suc level) → Covered w c wheel) → (m : Option ℕ) →
      (group_of w g).migrator ≡ m → Covered w c wheel
  by_migrator level g told here higher None off =
      upwards level g told here off higher (at_top w.tree c level) refl
  by_migrator level g told here higher (Some k) on =
      at_active level g told here (leads w l c level g here k on)

  climb : (fuel level : ℕ) → group_count_of w.tree ≤ fuel + level → To level → Covered w c wheel
  climb zero level room told =
      let e = told.events level (omega arith) in
      let short = level_short w.tree l.hierarchy c level e.in_group e.on_path in
      absurd (omega (arith, room, short))
  climb (suc fuel) level room told =
      let e = told.events level (omega arith) in
      by_migrator level e.in_group told e.on_path
      (λ p more. climb fuel (suc level) (omega (arith, room)) more)
      (group_of w e.in_group).migrator refl

  pub climbed : Told (machine_of w) c wheel 0 → Covered w c wheel
  climbed told = climb (group_count_of w.tree) 0 (omega arith) told
