-- a walk of a world as its scene has it, and CPUs that aren't there
use Rattle.std.proofs.Common.{◌≡◌, ℕ, zero, suc, ◌<◌, ◌≤◌, true, length}
use Rattle.std.proofs.Common.{Some, sym, ap, ◌∙◌, arith, inl, inr, true≢false}
use Rattle.std.specs.Prelude.{option_map}
use Rattle.std.proofs.lemmas.Bool.{cases_lt}
use Rattle.std.proofs.lemmas.List.{get_or_past}
use Rattle.std.proofs.lemmas.Option.{none-some}
use Rattle.event_queue.specs.declared.event.Event.{Event}
use Rattle.tree_plan.specs.Shape.{Shape}
use Rattle.tree_plan.specs.Paths.{group_at_of}
use Rattle.walk_rules.specs.declared.walk.Walk.{Walk}
use Rattle.walk_rules.specs.declared.walk.Stage.TheVariants as stages
use Rattle.walk_rules.specs.Hierarchy.{HasGroup, IsHierarchy}
use Rattle.walk_rules.specs.Queues.{group_under}
use Rattle.walk_rules.specs.Stages.{forget}
use Rattle.core_laws.proofs.Walks.Stands.{leaf_or}
use Rattle.core_laws.specs.Walks.Fit.{WalksFit}
use Rattle.core_world.specs.Lawful.{IsLawful}
use Rattle.core_world.specs.World.{CpuRecord, World, cpu_of, no_cpu, scene_of}

pub walks_fit : (w : World) → IsLawful w → WalksFit w.tree (scene_of w)
walks_fit w l = record { placed = l.placed; flags = l.flags; walkers = l.walkers }

pub in_scene : (w : World) (c : ℕ) (k : Walk) → (cpu_of w c).walk ≡ Some k
    → (scene_of w).walk c ≡ Some (forget k)
in_scene w c k is = ap (option_map forget) is

pub no_cpu_there : (w : World) (c : ℕ) → length w.cpus ≤ c → cpu_of w c ≡ no_cpu
no_cpu_there w c past = get_or_past w.cpus c no_cpu past

-- an online CPU is one of the world's
pub online_there : (w : World) (c : ℕ) → (cpu_of w c).online ≡ true → c < length w.cpus
online_there w c on = elim (cases_lt c (length w.cpus)) [
  | inl low ↦ low
  | inr past ↦
      absurd (true≢false (sym on ∙ ap (λ (y : CpuRecord). y.online) (no_cpu_there w c past)))
]

-- and so is one that makes a walk
pub walker_there : (w : World) (c : ℕ) (k : Walk) → (cpu_of w c).walk ≡ Some k
    → c < length w.cpus
walker_there w c k is = elim (cases_lt c (length w.cpus)) [
  | inl low ↦ low
  | inr past ↦
      absurd (none-some k (sym (ap (λ (y : CpuRecord). y.walk) (no_cpu_there w c past)) ∙ is))
]

-- a CPU whose path has a group at some level has a leaf
pub has_leaf : (t : Shape) → IsHierarchy t → (c l g : ℕ) → group_at_of t c l ≡ Some g
    → HasGroup t c
has_leaf t tree c zero g at = (g, at)
has_leaf t tree c (suc l) g at =
    let lower = tree.lower c l g at in has_leaf t tree c l lower.0 lower.1

-- and so it has a group below each but the leaf
pub under_there : (t : Shape) → IsHierarchy t → (c l g : ℕ) → group_at_of t c l ≡ Some g → 0 < l
    → (h : ℕ) × (group_under t c l ≡ Some h)
under_there t tree c zero g at high = absurd (omega arith)
under_there t tree c (suc l) g at high = tree.lower c l g at

-- a walk that has read something stands at a group
pub best_stands : (w : World) → IsLawful w → (c : ℕ) (k : Walk) (e : Event)
    → (cpu_of w c).walk ≡ Some k → k.best ≡ Some e
    → (g : ℕ) × (group_at_of w.tree c k.level ≡ Some g)
best_stands w l c k e is best = elim (leaf_or (group_at_of w.tree c 0)) [
  | inl leaf ↦ (l.placed.in_tree c (forget k) (in_scene w c k is) leaf).there
  | inr none ↦
      let alone =
      l.placed.alone c (forget k) (in_scene w c k is)
      (λ leaf. none-some leaf.0 (sym none ∙ leaf.1)) in
      absurd (none-some e (sym alone.no_best ∙ best))
]

-- a walk that isn't about to finish is that of a CPU that has a group
pub stands_where : (w : World) → IsLawful w → (c : ℕ) (k : Walk) → (cpu_of w c).walk ≡ Some k
    → (k.stage ≡ stages.Finish → ⊥) → HasGroup w.tree c
stands_where w l c k is other = elim (leaf_or (group_at_of w.tree c 0)) [
  | inl leaf ↦ leaf
  | inr none ↦
      let alone =
      l.placed.alone c (forget k) (in_scene w c k is)
      (λ leaf. none-some leaf.0 (sym none ∙ leaf.1)) in
      absurd (other alone.finishing)
]
