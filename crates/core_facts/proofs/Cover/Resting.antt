-- what isn't there where no walk and no interrupt is under way
use Rattle.std.proofs.Common.{◌≡◌, inl, inr, ℕ, cond, true≢false, Some, None, sym, ap, ◌∙◌}
use Rattle.std.specs.Prelude.{◌&&◌, not, option_and_then, option_map}
use Rattle.std.proofs.lemmas.Option.{none-some}
use Rattle.tm_base.specs.declared.names.Child.{Child}
use Rattle.tree_plan.specs.Paths.{child_towards, group_at_of}
use Rattle.core_world.specs.coverage.Coverage.{WakesBy}
use Rattle.walk_rules.specs.declared.walk.Walk.{Walk}
use Rattle.walk_rules.specs.Clearing.{IsSeenTo}
use Rattle.walk_rules.specs.Edges.{StandsAt, StandsBelow, edge_of}
use Rattle.walk_rules.specs.Queues.{IsCarried, tells_by, will_tell_by}
use Rattle.walk_rules.specs.Stages.{forget}
use Rattle.core_world.specs.Covered.{IsSettled, IsTakenCareOf, kept_wakeup, machine_of}
use Rattle.core_world.specs.Covered.{IsUnderWay, takes_out_by}
use Rattle.core_world.specs.IdleTop.{Answered, by_activation, by_climbing, by_first, by_interrupt}
use Rattle.core_world.specs.IdleTop.{by_reading, by_wakeup}
use Rattle.core_world.specs.Lawful.{IsLawful}
use Rattle.core_world.specs.Wakeups.{Keeps}
use Rattle.core_world.specs.World.{CpuRecord, World, cpu_of, scene_of}
use Rattle.core_facts.proofs.Cover.Leading.{taken_care_of}

-- what a CPU keeps
pub kept : (y : CpuRecord) → Keeps y → kept_wakeup y ≡ Some y.wakeup
kept y k = λ i. cond (k.online i && (k.idle i && (not (k.outside i) && k.undisturbed i)))
    (Some y.wakeup) None

module _ (w : World) (s : IsSettled w) where
  -- no walk stands anywhere
  pub none_at : (z : Child) → StandsAt w.tree (scene_of w) z → ⊥
  none_at z (d, e) = none-some z (sym (ap (λ m. option_and_then (child_towards w.tree d)
      (edge_of (option_map forget m))) (s.free d)) ∙ e)

  pub none_below : (x : ℕ) → StandsBelow w.tree (scene_of w) x → ⊥
  none_below x (d, e) = none-some x (sym (ap (λ m. option_and_then (group_at_of w.tree d)
      (edge_of (option_map forget m))) (s.free d)) ∙ e)

  -- none carries an event
  pub none_carries : (x : ℕ) → IsCarried w.tree (scene_of w) x → ⊥
  none_carries x (d, inl e) = none-some x (sym
      (ap (λ m. will_tell_by w.tree d (option_map forget m)) (s.free d)) ∙ e)
  none_carries x (d, inr e) = none-some x (sym
      (ap (λ m. tells_by w.tree d (option_map forget m)) (s.free d)) ∙ e)

  -- and none takes a child out
  pub none_cares : (z : Child) → IsTakenCareOf w z → ⊥
  none_cares z (inl (d, e)) = none-some z (sym (ap (takes_out_by w d) (s.free d)) ∙ e)
  none_cares z (inr (x, is, stands)) = none_below x stands

  pub none_sees_to : (z : Child) → IsSeenTo w.tree (scene_of w) z → ⊥
  none_sees_to z seen = none_cares z (taken_care_of w z seen)

  walks : (c : ℕ) (k : Walk) → (cpu_of w c).walk ≡ Some k → ⊥
  walks c k is = none-some k (sym (s.free c) ∙ is)

  -- nothing under way answers for an idle top
  pub none_goes : (child time : ℕ) (by : Answered w child time) → IsUnderWay w child time by → ⊥
  none_goes child time (by_activation d k group is kind) going = walks d k is
  none_goes child time (by_wakeup d group keeps soon) going = going
  none_goes child time (by_interrupt d group online idle inside goes_on) going =
      true≢false (sym inside ∙ s.outside d)
  none_goes child time (by_climbing d k climbs over) going = walks d k climbs.walk
  none_goes child time (by_reading d k climbs top on yet) going = walks d k climbs.walk
  none_goes child time (by_first d k climbs soon) going = walks d k climbs.walk

  -- so it is answered by a wakeup
  pub woken_by : IsLawful w → (child time : ℕ) → Answered w child time → WakesBy (machine_of w) time
  woken_by l child time (by_activation d k group is kind) = absurd (walks d k is)
  woken_by l child time (by_wakeup d group keeps soon) = record {
    waker = d;
    at = (cpu_of w d).wakeup;
    placed = l.hierarchy.has_group d group.0 group.1;
    keeps = kept (cpu_of w d) keeps;
    in_time = soon;
  }
  woken_by l child time (by_interrupt d group online idle inside goes_on) =
      absurd (true≢false (sym inside ∙ s.outside d))
  woken_by l child time (by_climbing d k climbs over) = absurd (walks d k climbs.walk)
  woken_by l child time (by_reading d k climbs top on yet) = absurd (walks d k climbs.walk)
  woken_by l child time (by_first d k climbs soon) = absurd (walks d k climbs.walk)
