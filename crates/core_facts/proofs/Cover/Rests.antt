-- groups, events and wakeups at rest
use Rattle.std.proofs.Common.{◌≡◌, ◌≢◌, inl, inr, ℕ, zero, suc, ◌≤◌, cond, Bool, true, false}
use Rattle.std.proofs.Common.{true≢false, Option, Some, None, refl, sym, ap, ◌∙◌, subst, arith}
use Rattle.std.specs.Prelude.{◌&&◌, not, is_some, option_map, Contains}
use Rattle.std.specs.Int.{bit_at}
use Rattle.std.proofs.lemmas.Bool.{and_parts, cases_Bool, cases_eq}
use Rattle.std.proofs.lemmas.Option.{none-some, same_Some}
use Rattle.walk_rules.specs.group_word.Group.{GroupLaw, IsActive}
use Rattle.tm_base.specs.declared.names.Class.{Class}
use Rattle.tm_base.specs.declared.names.Class.TheVariants.{Deferrable, Global, Pinned}
use Rattle.tm_base.specs.declared.names.Child.{Child}
use Rattle.tm_base.specs.Children.{of_cpu, of_group}
use Rattle.wheel_core.specs.declared.item.Item.{Item}
use Rattle.wheel_core.specs.PlainBase.{least}
use Rattle.cpu_bases.specs.CpuBases.{base_of}
use Rattle.tree_plan.specs.Paths.{IsBelow, bit_of, group_at_of, parent_of}
use Rattle.core_world.specs.coverage.Coverage.{IsAnsweredFor, Leads, TopWakes, to_cpu, to_group}
use Rattle.walk_rules.specs.Locks.{HoldsBy}
use Rattle.walk_rules.specs.Queues.{HasTold}
use Rattle.walk_rules.specs.Scene.{HasBit, is_on}
use Rattle.walk_rules.specs.Stages.{forget}
use Rattle.core_world.specs.Covered.{IsSettled, kept_wakeup, machine_of}
use Rattle.core_world.specs.Lawful.{IsLawful}
use Rattle.core_world.specs.Wakeups.{WakeupHolds, is_undisturbed}
use Rattle.core_world.specs.World.{CpuRecord, World, cpu_of, group_of, is_active, scene_of}
use Rattle.core_facts.specs.Cover.Rest.{EachEventRests, EachRests, EachWakes, HasActive, LeadsDown}
use Rattle.core_facts.specs.Cover.Rest.{SomeWakes}
use Rattle.core_facts.proofs.Cover.Climbing.{in_place, parent_next}
use Rattle.core_facts.proofs.Cover.Covering.{first_below}
use Rattle.core_facts.proofs.Cover.Leading.{leads, some_of}
use Rattle.core_facts.proofs.Cover.Resting.{none_at, none_below, none_cares, none_carries}
use Rattle.core_facts.proofs.Cover.Resting.{none_sees_to}
use Rattle.core_facts.proofs.Cover.Resting.{woken_by}
use Rattle.core_facts.proofs.Cover.Settling.{each_settled}

-- a group with an active child is active
active_by : (active : ℕ) (m : Option ℕ) (k : ℕ) → GroupLaw active m → IsActive active k →
    is_some m ≡ true
active_by active None k law set = absurd (law k set)
active_by active (Some m) k law set = refl

-- migrators lead to a CPU that is active
runs : (w : World) (m g : ℕ) → Leads (machine_of w) m g → is_active (cpu_of w m) ≡ true
runs w m g (to_cpu x k is at on) = on
runs w m g (to_group x k h is at rest) = runs w m h rest

-- who isn't active is idle
idles : (online idle : Bool) → (online && not idle) ≡ false → online ≡ true → idle ≡ true
idles true true off is = refl
idles true false off is = absurd (true≢false off)
idles false idle off is = absurd (true≢false (sym is))

-- who keeps a wakeup is online
keeps_as : (b : Bool) (at wakeup : ℕ) → cond b (Some wakeup) None ≡ Some at →
    (b ≡ true) × (wakeup ≡ at)
keeps_as true at wakeup e = (refl, same_Some _ _ e)
keeps_as false at wakeup e = absurd (none-some at e)

keeper : (y : CpuRecord) (at : ℕ) → kept_wakeup y ≡ Some at → (y.online ≡ true) × (y.wakeup ≡ at)
keeper y at e =
    let p = keeps_as (y.online && (y.idle && (not y.inside && is_undisturbed y.walk))) at y.wakeup
    e in
    ((and_parts y.online (y.idle && (not y.inside && is_undisturbed y.walk)) p.0).0, p.1)

module _ (w : World) (l : IsLawful w) (s : IsSettled w) where
  free : (g : ℕ) → (group_of w g).lock ≡ None
  free g = by_lock (group_of w g).lock refl
    where
      by_lock : (m : Option ℕ) → (group_of w g).lock ≡ m → (group_of w g).lock ≡ None
      by_lock None e = e
      by_lock (Some c) e = absurd (subst (λ m. HoldsBy w.tree c (option_map forget m) g) (s.free c)
          (l.locks.held g c e))

  unmarked : (c : ℕ) → (cpu_of w c).mark ≡ None
  unmarked c = by_mark (cpu_of w c).mark refl
    where
      by_mark : (m : Option ℕ) → (cpu_of w c).mark ≡ m → (cpu_of w c).mark ≡ None
      by_mark None e = e
      by_mark (Some b) e = absurd (true≢false (sym (l.markers c b e).inside ∙ s.outside b))

  set_on : (m : Child) (g : ℕ) → parent_of w.tree m ≡ Some g → HasBit w.tree (scene_of w) m g →
      is_on (scene_of w) m ≡ true
  set_on m g parent set = elim (cases_Bool (is_on (scene_of w) m)) [
    | inl on ↦ on
    | inr off ↦ absurd (none_sees_to w s m (l.bits m g parent off set))
  ]

  on_set : (m : Child) (g : ℕ) → parent_of w.tree m ≡ Some g → is_on (scene_of w) m ≡ true →
      HasBit w.tree (scene_of w) m g
  on_set m g parent on = elim (cases_eq (bit_at (group_of w g).active (bit_of w.tree m)) 1) [
    | inl set ↦ set
    | inr unset ↦ absurd (none_at w s m (l.edges.needs m g parent on unset))
  ]

  -- what has an active child is active, and so on to the top
  above : (m : Child) (g : ℕ) → parent_of w.tree m ≡ Some g → is_on (scene_of w) m ≡ true →
      is_on (scene_of w) (of_group g) ≡ true
  above m g parent on = active_by (group_of w g).active (group_of w g).migrator (bit_of w.tree m)
      (l.groups.law g) (on_set m g parent on)

  all_above : (d level g : ℕ) → is_active (cpu_of w d) ≡ true →
      group_at_of w.tree d level ≡ Some g → is_on (scene_of w) (of_group g) ≡ true
  unfolding group_at_of
  all_above d zero g on here = above (of_cpu d) g here on
  all_above d (suc level) g on here =
      let x = l.hierarchy.lower d level g here in
      above (of_group x.0) g (parent_next w.tree d level x.0 g x.1 here)
      (all_above d level x.0 on x.1)

  down : (c g : ℕ) → IsBelow w.tree c g → is_on (scene_of w) (of_group g) ≡ true → LeadsDown w g
  down c g (level, here) on = let k = some_of (group_of w g).migrator on in
      elim (leads w l c level g here k.0 k.1) [
        | inl run ↦ run
        | inr left ↦ absurd (none_cares w s left.child left.cared)
      ]

  has_active : (c g : ℕ) → IsBelow w.tree c g → is_on (scene_of w) (of_group g) ≡ true →
      HasActive w g
  has_active c g below on = let run = down c g below on in
      (run.runner, run.below, runs w run.runner g run.leads)

  told : (x p : ℕ) → parent_of w.tree (of_group x) ≡ Some p →
      is_on (scene_of w) (of_group x) ≡ false → HasTold w.tree (scene_of w) x p
  told x p parent off = elim (l.told x p parent off) [
    | inl has ↦ has
    | inr way ↦ absurd (elim way [
      | inl stands ↦ none_below w s x stands
      | inr carries ↦ none_carries w s x carries
    ])
  ]

  wakeups : (c : ℕ) → (cpu_of w c).online ≡ true → (cpu_of w c).idle ≡ true → WakeupHolds w c
  wakeups c online idle = l.wakeups c (record {
    online = online;
    idle = idle;
    outside = s.outside c;
    undisturbed = ap is_undisturbed (s.free c);
  })

  module _ (nobody : (c : ℕ) → is_active (cpu_of w c) ≡ false) where
    by_top : (c wheel : ℕ) → TopWakes (machine_of w) c wheel → SomeWakes w wheel
    by_top c wheel top =
        let k = keeper (cpu_of w top.wakes.waker) top.wakes.at top.wakes.keeps in
        let e = top.told.events top.level (omega arith) in
        let event : top.expiry ≡ e.expiry = same_Some _ _ (sym top.event
        ∙ in_place w l c wheel top.level top.top e top.on_path) in
        let wakes : (cpu_of w top.wakes.waker).wakeup ≡ top.wakes.at = k.1 in
        let soon : top.wakes.at ≤ top.expiry = top.wakes.in_time in
        let late : e.expiry ≤ wheel = e.in_time in
        (top.wakes.waker, k.0, omega (arith, wakes, soon, late, event))

    by_answer : (c wheel : ℕ) → IsAnsweredFor (machine_of w) c wheel → SomeWakes w wheel
    by_answer c wheel (inl held) = absurd (true≢false
        (sym (runs w held.runner held.in_group held.leads) ∙ nobody held.runner))
    by_answer c wheel (inr (inl itself)) =
        let k = keeper (cpu_of w c) itself.at itself.keeps in
        let wakes : (cpu_of w c).wakeup ≡ itself.at = k.1 in
        let soon : itself.at ≤ wheel = itself.in_time in
        (c, k.0, omega (arith, wakes, soon))
    by_answer c wheel (inr (inr top)) = by_top c wheel top

    wakes_for : (c : ℕ) (class : Class) (item : Item) → (cpu_of w c).online ≡ true →
        class ≢ Deferrable → Contains (base_of class (cpu_of w c).bases).items item →
        SomeWakes w item.wheel
    wakes_for c Pinned item online other has =
        let early = first_below (base_of Pinned (cpu_of w c).bases).items item has
        (least (base_of Pinned (cpu_of w c).bases).items) refl in
        let holds = (wakeups c online (idles _ _ (nobody c) online)).pinned in
        (c, online, omega (arith, early, holds))
    wakes_for c Global item online other has =
        by_answer c item.wheel (each_settled w l s c item
        (record { online = online; idle = idles _ _ (nobody c) online; queued = has }))
    wakes_for c Deferrable item online other has = absurd (other refl)

pub each_rests : EachRests
each_rests w l s = record {
  free = free w l s;
  unmarked = unmarked w l s;
  bits = λ m g parent. (set_on w l s m g parent, on_set w l s m g parent);
  active = λ c g below. (
    has_active w l s c g below,
    λ (d, (level, here), on). all_above w l s d level g on here,
  );
  leads = down w l s;
}

pub each_event_rests : EachEventRests
each_event_rests w l s = record {
  told = told w l s;
  woken = λ g k e top off is counts. woken_by w s l k e.expiry (l.answered g k e top off is counts);
  wakeups = wakeups w l s;
}

pub each_wakes : EachWakes
each_wakes w l s nobody = wakes_for w l s nobody
