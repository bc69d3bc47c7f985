-- for crates above: at rest each timer of an idle CPU is held or woken for
use Rattle.std.proofs.Common.{inl, inr, ℕ, true≢false, sym, ◌∙◌, arith}
use Rattle.std.proofs.lemmas.Option.{none-some}
use Rattle.cpu_bases.specs.CpuBases.{events_of}
use Rattle.core_world.specs.coverage.Coverage.{IsAnsweredFor}
use Rattle.walk_rules.specs.Hierarchy.{side}
use Rattle.core_world.specs.Covered.{Carried, Covered, IsSettled, at_idle_top, by_interrupt}
use Rattle.core_world.specs.Covered.{by_role, by_walk, on_the_way, machine_of}
use Rattle.core_world.specs.Lawful.{IsLawful}
use Rattle.core_world.specs.World.{World, cpu_of}
use Rattle.core_facts.specs.Cover.Headline.{EachSettled, FirstSettled}
use Rattle.core_facts.proofs.Cover.Covering.{covered_by, each_covered}
use Rattle.core_facts.proofs.Cover.Resting.{none_below, none_cares, none_carries, none_goes}

module _ (w : World) (l : IsLawful w) (s : IsSettled w) (c wheel : ℕ) where
  not_carried : Carried w c wheel → ⊥
  not_carried (by_walk k is other) = none-some k (sym (s.free c) ∙ is)
  not_carried (by_interrupt inside) = true≢false (sym inside ∙ s.outside c)
  not_carried (on_the_way level x told here off more (inl stands)) = none_below w s x stands
  not_carried (on_the_way level x told here off more (inr carries)) = none_carries w s x carries
  not_carried (by_role level g z told here leads off cared) = none_cares w s z cared
  not_carried (at_idle_top level top e told here last off is by going) =
      none_goes w s (side w.tree c level) e.expiry by going

  -- of what is covered, what isn't carried is left
  pub answered_for : Covered w c wheel → IsAnsweredFor (machine_of w) c wheel
  answered_for (inl held) = inl held
  answered_for (inr (inl wakes)) = inr wakes
  answered_for (inr (inr carried)) = absurd (not_carried carried)

pub each_settled : EachSettled
each_settled w l s c item waits = answered_for w l s c item.wheel (each_covered w l c item waits)

pub first_settled : FirstSettled
first_settled w l s c online idle = answered_for w l s c (events_of (cpu_of w c).bases).first_global
    (covered_by w l c online idle _ (omega arith))
