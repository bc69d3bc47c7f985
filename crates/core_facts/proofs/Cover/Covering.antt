-- for crates above: each timer of an idle CPU is covered
use Rattle.std.proofs.Common.{◌≡◌, ◌⊎◌, inl, inr, ℕ, ◌≤◌, true, false, List, [], length, Option}
use Rattle.std.proofs.Common.{Some, None, refl, ap, subst, arith}
use Rattle.std.specs.Prelude.{unwrap_or, Contains}
use Rattle.std.proofs.lemmas.Bool.{cases_Bool}
use Rattle.std.proofs.lemmas.List.Elements.{All-contains}
use Rattle.tm_base.specs.declared.names.Class.TheVariants.{Global}
use Rattle.tm_base.specs.declared.names.TheConstants.{NEVER}
use Rattle.wheel_core.specs.declared.item.Item.{Item}
use Rattle.wheel_core.specs.PlainBase.{least}
use Rattle.wheel_core.proofs.Leasts.{least_below, least_none}
use Rattle.cpu_bases.specs.CpuBases.{base_of, events_of}
use Rattle.core_world.specs.coverage.Coverage.{HasEvent, Told}
use Rattle.walk_rules.specs.declared.walk.Walk.{Walk}
use Rattle.walk_rules.specs.Stages.{is_remote}
use Rattle.core_world.specs.Covered.{Covered, by_interrupt, by_walk, machine_of}
use Rattle.core_world.specs.Lawful.{IsLawful}
use Rattle.core_world.specs.Wakeups.{HasLeafEvent, Keeps, is_undisturbed}
use Rattle.core_world.specs.World.{World, cpu_of}
use Rattle.core_facts.specs.Cover.Headline.{EachCovered}
use Rattle.core_facts.proofs.Cover.Climbing.{climbed, counted}
use Rattle.core_facts.proofs.Cover.Resting.{kept}

-- the first expiry of a list isn't later than any
pub first_below : (items : List Item) (item : Item) → Contains items item →
    (first : Option ℕ) → least items ≡ first → unwrap_or first NEVER ≤ item.wheel
first_below items item has None none = absurd (no_item items item has (least_none items none))
  where
    no_item : (items : List Item) (item : Item) → Contains items item → items ≡ [] → ⊥
    no_item items item (k, low, is) empty = let none = ap length empty in omega (arith, low, none)
first_below items item has (Some wheel) is = All-contains (λ other. wheel ≤ other.wheel) items item
    (least_below items wheel is) has

-- a walk that isn't Remote, or none
undisturbed : (m : Option Walk) → (is_undisturbed m ≡ true)
    ⊎ ((k : Walk) × (m ≡ Some k) × (is_remote k.kind ≡ false))
undisturbed None = inl refl
undisturbed (Some k) = elim (cases_Bool (is_remote k.kind)) [
  | inl remote ↦ inl remote
  | inr other ↦ inr (k, refl, other)
]

module _ (w : World) (l : IsLawful w) (c : ℕ) (online : (cpu_of w c).online ≡ true)
    (idle : (cpu_of w c).idle ≡ true)
    (wheel : ℕ) (soon : (events_of (cpu_of w c).bases).first_global ≤ wheel) where
  told_at_leaf : HasLeafEvent w c (events_of (cpu_of w c).bases).first_global →
      Told (machine_of w) c wheel 0
  told_at_leaf e = record {
    inactive = λ k g low at. absurd (omega (arith, low));
    events = λ k low. (let same : 0 ≡ k = omega (arith, low) in let time = e.in_time in
        subst (λ v. HasEvent (machine_of w) c wheel v) same (record {
          in_group = e.leaf;
          expiry = e.event.expiry;
          on_path = e.path;
          there = counted _ e.event e.there e.counts;
          in_time = omega (arith, time, soon);
        }));
  }

  by_own_wakeup : Keeps (cpu_of w c) → Covered w c wheel
  by_own_wakeup keeps =
      elim (l.wakeups c keeps).global [
        | inl early ↦ inr (inl (inl (record {
          at = (cpu_of w c).wakeup;
          keeps = kept (cpu_of w c) keeps;
          in_time = omega (arith, soon, early);
        })))
        | inr leaf ↦ climbed w l c wheel (told_at_leaf leaf)
      ]

  pub covered_by : Covered w c wheel
  covered_by = elim (undisturbed (cpu_of w c).walk) [
    | inl free ↦ elim (cases_Bool (cpu_of w c).inside) [
      | inl inside ↦ inr (inr (by_interrupt inside))
      | inr outside ↦ by_own_wakeup (record {
        online = online;
        idle = idle;
        outside = outside;
        undisturbed = free;
      })
    ]
    | inr walks ↦ inr (inr (by_walk walks.0 walks.1 walks.2))
  ]

pub each_covered : EachCovered
each_covered w l c item waits =
    covered_by w l c waits.online waits.idle item.wheel
    (first_below (base_of Global (cpu_of w c).bases).items item waits.queued
    (least (base_of Global (cpu_of w c).bases).items) refl)
