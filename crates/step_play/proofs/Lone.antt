-- for crates above: a walk that alone goes on makes its next step: no lock that it waits for is
-- held
use Rattle.std.proofs.Common.{◌≡◌, ◌⊎◌, inl, inr, ℕ, zero, suc, ◌<◌, cond}
use Rattle.std.proofs.Common.{Bool, true, false}
use Rattle.std.proofs.Common.{Option, Some, None, length, refl, sym, ap, ◌∙◌, subst, arith}
use Rattle.std.specs.Prelude.{option_map, unwrap_or}
use Rattle.std.proofs.lemmas.Bool.{cases_eq}
use Rattle.std.proofs.lemmas.Option.{none-some}
use Rattle.tree_plan.specs.Shape.{Shape}
use Rattle.tree_plan.specs.Paths.{group_at_of}
use Rattle.walk_rules.specs.declared.walk.Walk.{Walk}
use Rattle.walk_rules.specs.declared.walk.Stage.{Stage}
use Rattle.walk_rules.specs.declared.walk.Stage.TheVariants as stages
use Rattle.walk_rules.specs.Locks.{HoldsBy, child_lock, group_lock}
use Rattle.walk_rules.specs.Queues.{group_under}
use Rattle.walk_rules.specs.Scene.{Group, no_group}
use Rattle.walk_rules.specs.Stages.{forget}
use Rattle.core_world.specs.Enabled.{MayGoOn, MayWalk}
use Rattle.core_world.specs.Lawful.{IsLawful}
use Rattle.core_world.specs.Steps.{child_here, here, swapped, walk_made, walked}
use Rattle.core_world.specs.World.{CpuRecord, World, cpu_of, group_of, moved, reads_at}
use Rattle.core_world.specs.World.{scene_of, stale_walk}
use Rattle.core_world.proofs.Moves.{beside, cpu_else}
use Rattle.core_facts.proofs.core_laws.Walks.Stands.{stands_in}
use Rattle.step_play.specs.Rules.Alone.{goes_on, is_handing}
use Rattle.step_play.specs.Rules.Seen.{InRun, Phase}
use Rattle.step_play.proofs.Activation.Calm.{handing, run_calm}
use Rattle.step_play.specs.Rules.Lone.{IsLone}

-- A WALK THAT DOESN'T GO ON holds no lock
idle_holds : (w : World) (d g : ℕ) (m : Option Walk) → goes_on m ≡ false →
    HoldsBy w.tree d (option_map forget m) g → ⊥
idle_holds w d g None e h = h
idle_holds w d g (Some k) e (inl at) =
    none-some g (sym (ap (group_lock w.tree d k.level) (handing k e)) ∙ at)
idle_holds w d g (Some k) e (inr at) =
    none-some g (sym (ap (child_lock w.tree d k.level) (handing k e)) ∙ at)

module _ (w : World) (c : ℕ) (k : Walk) (lawful : IsLawful w) (lone : IsLone w c)
    (is : (cpu_of w c).walk ≡ Some k) where
  seen : (scene_of w).walk c ≡ Some (forget k)
  seen = ap (option_map forget) is

  lock_free : (st : Stage) → k.stage ≡ st → (g : ℕ) →
      ((group_lock w.tree c k.level st ≡ Some g) ⊎ (child_lock w.tree c k.level st ≡ Some g) → ⊥) →
      (group_of w g).lock ≡ None
  lock_free st at g other = by_lock (group_of w g).lock refl
    where
      by_cpu : (d : ℕ) → HoldsBy w.tree d ((scene_of w).walk d) g → ⊥
      by_cpu d held = elim (cases_eq d c) [
        | inl same ↦
            let own : HoldsBy w.tree c (Some (forget k)) g =
            subst (λ m. HoldsBy w.tree c m g) seen
            (subst (λ n. HoldsBy w.tree n ((scene_of w).walk n) g) same held) in
            other (subst (λ s. (group_lock w.tree c k.level s ≡ Some g)
            ⊎ (child_lock w.tree c k.level s ≡ Some g)) at own)
        | inr ne ↦ idle_holds w d g (cpu_of w d).walk (lone d ne) held
      ]

      by_lock : (m : Option ℕ) → (group_of w g).lock ≡ m → (group_of w g).lock ≡ None
      by_lock None e = e
      by_lock (Some d) e = absurd (by_cpu d (lawful.locks.held g d e))

  child_free : k.stage ≡ stages.LockChild → (group_of w (child_here w c k)).lock ≡ None
  child_free at = lock_free stages.LockChild at (child_here w c k)
      (λ h. elim h [ inl e ↦ none-some _ e | inr e ↦ none-some _ e ])

  unfinished : k.stage ≡ stages.LockGroup → k.stage ≡ stages.Finish → ⊥
  unfinished at done = let e : stages.LockGroup ≡ stages.Finish = sym at ∙ done in cc

  there : k.stage ≡ stages.LockGroup → group_at_of w.tree c k.level ≡ Some (here w c k)
  there at =
      let g = stands_in w.tree (scene_of w) (record {
        placed = lawful.placed;
        flags = lawful.flags;
        walkers = lawful.walkers;
      }) c (forget k) seen (unfinished at) in
      g.1 ∙ ap Some (sym (ap (λ m. unwrap_or m 0) g.1))

  group_free : k.stage ≡ stages.LockGroup → (group_of w (here w c k)).lock ≡ None
  group_free at = lock_free stages.LockGroup at (here w c k)
      (λ h. elim h [ inl e ↦ none-some _ e | inr e ↦ apart k.level refl e ])
    where
      apart : (n : ℕ) → k.level ≡ n → group_under w.tree c n ≡ Some (here w c k) → ⊥
      apart zero e held = none-some _ held
      apart (suc l) e held =
          let same = lawful.hierarchy.one_level c c l k.level (here w c k) held (there at) in
          omega (arith, same, e)

  goes_by : (st : Stage) → k.stage ≡ st → is_handing st ≡ false → MayGoOn w c k st
  goes_by stages.Own at go = tt
  goes_by stages.Up at go = tt
  goes_by (stages.Mark more) at go = tt
  goes_by stages.Read at go = tt
  goes_by stages.Child at go = tt
  goes_by stages.Swap at go = tt
  goes_by stages.LockChild at go = child_free at
  goes_by stages.LockGroup at go = group_free at
  goes_by stages.SeeChild at go = tt
  goes_by stages.SeeGroup at go = tt
  goes_by (stages.Scan j) at go = tt
  goes_by stages.Store at go = tt
  goes_by (stages.First j) at go = tt
  goes_by stages.FreeGroup at go = tt
  goes_by stages.FreeChild at go = tt
  goes_by stages.Finish at go = tt
  goes_by stages.Handing at go = cc

pub on_unless : (b : Bool) → cond b false true ≡ true → b ≡ false
on_unless true e = cc
on_unless false e = refl

-- ENABLED
module _ (w : World) (c : ℕ) (low : c < length w.cpus) (lawful : IsLawful w)
    (lone : IsLone w c) where
  may_by : (m : Option Walk) → (cpu_of w c).walk ≡ m → goes_on m ≡ true → MayWalk w c
  may_by None is go = cc
  may_by (Some k) is go = record {
    in_range = low;
    made = k;
    walk = is;
    may_go_on = goes_by w c k lawful lone is k.stage refl (on_unless (is_handing k.stage) go);
  }

  pub may_walk : goes_on (cpu_of w c).walk ≡ true → MayWalk w c
  may_walk go = may_by (cpu_of w c).walk refl go

-- A STEP of CPU c leaves the others as they went on, or not
stage_stale : (b : Bool) (k : Walk) → (cond b (record k { fresh = false }) k).stage ≡ k.stage
stage_stale true k = refl
stage_stale false k = refl

goes_stale : (t : Shape) (g d : ℕ) (m : Option Walk) →
    goes_on (option_map (stale_walk t g d) m) ≡ goes_on m
goes_stale t g d None = refl
goes_stale t g d (Some k) =
    ap (λ st. cond (is_handing st) false true) (stage_stale (reads_at t g d k) k)

goes_beside : (t : Shape) (r : Bool) (g d : ℕ) (y : CpuRecord) →
    goes_on (beside t r g d y).walk ≡ goes_on y.walk
goes_beside t true g d y = goes_stale t g d y.walk
goes_beside t false g d y = refl

module _ (w : World) (c : ℕ) (lone : IsLone w c) where
  pub lone_moved : (g : ℕ) (x : Group) (y : CpuRecord) (r : Bool) → IsLone (moved w g x c y r) c
  lone_moved g x y r d ne =
      ap (λ (z : CpuRecord). goes_on z.walk) (cpu_else w g x c y r d ne)
      ∙ (goes_beside w.tree r g d (cpu_of w d) ∙ lone d ne)

  lone_swapped : (k : Walk) (b : Bool) → IsLone (swapped w c k b) c
  lone_swapped k true = lone_moved (here w c k) no_group _ true
  lone_swapped k false = lone_moved 0 no_group _ false

  lone_walked : (k : Walk) (st : Stage) → IsLone (walked w c k st) c
  lone_walked k stages.Own = lone_moved 0 no_group _ false
  lone_walked k stages.Up = lone_moved (here w c k) no_group _ true
  lone_walked k (stages.Mark more) = lone_moved 0 no_group _ false
  lone_walked k stages.Read = lone_moved 0 no_group _ false
  lone_walked k stages.Child = lone_moved 0 no_group _ false
  lone_walked k stages.Swap = lone_swapped k k.fresh
  lone_walked k stages.LockChild = lone_moved 0 no_group _ false
  lone_walked k stages.LockGroup = lone_moved 0 no_group _ false
  lone_walked k stages.SeeChild = lone_moved 0 no_group _ false
  lone_walked k stages.SeeGroup = lone_moved 0 no_group _ false
  lone_walked k (stages.Scan j) = lone_moved 0 no_group _ false
  lone_walked k stages.Store = lone_moved 0 no_group _ false
  lone_walked k (stages.First j) = lone_moved 0 no_group _ false
  lone_walked k stages.FreeGroup = lone_moved 0 no_group _ false
  lone_walked k stages.FreeChild = lone_moved 0 no_group _ false
  lone_walked k stages.Finish = lone_moved 0 no_group _ false
  lone_walked k stages.Handing = lone

  pub lone_made : (m : Option Walk) → IsLone (walk_made w c m) c
  lone_made None = lone
  lone_made (Some k) = lone_walked k k.stage

-- in a run that stands between two rules no walk goes on
pub run_lone : (ph : Phase) (w : World) (c : ℕ) → InRun ph w → IsLone w c
run_lone ph w c i d ne = run_calm ph w i d
