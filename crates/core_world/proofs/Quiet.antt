-- for crates above: steps that change nothing that walks see
use Rattle.std.proofs.Common.{◌≡◌, ℕ, zero, suc, ◌<◌, List, [], ◌∷◌, Bool, false, true≢false}
use Rattle.std.proofs.Common.{length, get_or, set, Option, Some, None, refl, sym, ap, ◌∙◌, subst}
use Rattle.std.proofs.Common.{inl, inr, arith}
use Rattle.std.specs.Prelude.{option_map}
use Rattle.std.specs.Option.{option_map_or}
use Rattle.std.proofs.lemmas.Bool.{cases_eq}
use Rattle.std.proofs.lemmas.List.{get_or-set_same, get_or-set_other, set-get_or}
use Rattle.std.proofs.Math.ListN.{length-set}
use Rattle.tm_base.specs.declared.names.Class.{Class}
use Rattle.cpu_bases.specs.wheel_core.declared.item.Item.{Item}
use Rattle.walk_rules.specs.declared.walk.Walk.{Walk}
use Rattle.walk_rules.specs.Scene.{Group, no_group}
use Rattle.walk_rules.specs.Stages.{forget}
use Rattle.core_world.specs.declared.step.Step.TheVariants as steps
use Rattle.core_world.specs.Frames.{QuietSteps}
use Rattle.core_world.specs.Steps.{first_moved, giver, moved_with, taker}
use Rattle.core_world.specs.World.{CpuRecord, World, cpu_of, group_of, moved, no_cpu, own, scene_of}
use Rattle.core_world.proofs.Moves.{cpu_same, cpu_else}

-- a step of the form `own` leaves each group
pub own_group : (w : World) (c : ℕ) (y : CpuRecord) (h : ℕ) → group_of (own w c y) h ≡ group_of w h
own_group w c y h = ap (λ gs. get_or gs h no_group) (set-get_or w.groups 0 no_group)

module _ (w : World) (c : ℕ) (y : CpuRecord) (hc : c < length w.cpus) where
  -- and what it leaves of its CPU it leaves of all
  pub own_field : {X : Type 0} (f : CpuRecord → X) → f y ≡ f (cpu_of w c) → (d : ℕ) → f (cpu_of (own w c y) d) ≡ f (cpu_of w d)
  own_field f e d = elim (cases_eq d c) [
    | inl same ↦ subst (λ n. f (cpu_of (own w c y) n) ≡ f (cpu_of w n)) (sym same) (ap f (cpu_same w 0 (group_of w 0) c y false hc) ∙ e)
    | inr ne ↦ ap f (cpu_else w 0 (group_of w 0) c y false d ne)
  ]

  pub own_quiet : y.walk ≡ (cpu_of w c).walk → y.online ≡ (cpu_of w c).online → y.idle ≡ (cpu_of w c).idle → scene_of (own w c y) ≡ scene_of w
  own_quiet walk online idle = λ i. record {
    walk = λ d. own_field (λ z. option_map forget z.walk) (ap (option_map forget) walk) d i;
    fresh = λ d. own_field (λ z. option_map_or (λ (k : Walk). k.fresh) z.walk false) (ap (λ m. option_map_or (λ (k : Walk). k.fresh) m false) walk) d i;
    online = λ d. own_field (λ z. z.online) online d i;
    idle = λ d. own_field (λ z. z.idle) idle d i;
    group = λ h. own_group w c y h i;
  }

two_field : (w : World) (from to : ℕ) (a b : CpuRecord) → from < length w.cpus → to < length w.cpus → {X : Type 0} (f : CpuRecord → X)
    → f a ≡ f (cpu_of w from) → f b ≡ f (cpu_of w to) → (d : ℕ) → f (get_or (set (set w.cpus from a) to b) d no_cpu) ≡ f (cpu_of w d)
two_field w from to a b hf ht f ea eb d = elim (cases_eq d to) [
  | inl same ↦ subst (λ n. f (get_or (set (set w.cpus from a) to b) n no_cpu) ≡ f (cpu_of w n)) (sym same)
      (ap f (get_or-set_same (set w.cpus from a) to b no_cpu (omega (arith, length-set w.cpus from a))) ∙ eb)
  | inr ne ↦ ap f (get_or-set_other (set w.cpus from a) to d b no_cpu ne) ∙ elim (cases_eq d from) [
    | inl same ↦ subst (λ n. f (get_or (set w.cpus from a) n no_cpu) ≡ f (cpu_of w n)) (sym same) (ap f (get_or-set_same w.cpus from a no_cpu hf) ∙ ea)
    | inr ne' ↦ ap f (get_or-set_other w.cpus from d a no_cpu ne')
  ]
]

moves_quiet : (w : World) (from to : ℕ) (m : Option (Class × Item)) → from < length w.cpus → to < length w.cpus → scene_of (moved_with w from to m) ≡ scene_of w
moves_quiet w from to None hf ht = refl
moves_quiet w from to (Some m) hf ht = λ i. record {
  walk = λ d. two_field w from to (giver w from to m.0) (taker w to m.0 m.1) hf ht (λ z. option_map forget z.walk) refl refl d i;
  fresh = λ d. two_field w from to (giver w from to m.0) (taker w to m.0 m.1) hf ht (λ z. option_map_or (λ (k : Walk). k.fresh) z.walk false) refl refl d i;
  online = λ d. two_field w from to (giver w from to m.0) (taker w to m.0 m.1) hf ht (λ z. z.online) refl refl d i;
  idle = λ d. two_field w from to (giver w from to m.0) (taker w to m.0 m.1) hf ht (λ z. z.idle) refl refl d i;
  group = λ h. group_of w h;
}

pub quiet_steps : QuietSteps
quiet_steps w (steps.Clock now) e q = refl
quiet_steps w (steps.Enter cpu) e q = own_quiet w cpu.0 _ e.is_free.in_range refl refl refl
quiet_steps w (steps.Leave cpu) e q = own_quiet w cpu.0 _ e.is_free.in_range refl refl refl
quiet_steps w (steps.Arm cpu timer class expires job arg line) e q = own_quiet w cpu.0 _ e.is_free.in_range refl refl refl
quiet_steps w (steps.Cancel cpu timer by line) e q = own_quiet w cpu.0 _ e.0.is_free.in_range refl refl refl
quiet_steps w (steps.Hand cpu timer runner) e q = own_quiet w cpu.0 _ e.is_free.in_range refl refl refl
quiet_steps w (steps.Ticked cpu class runner) e q = own_quiet w cpu.0 _ e.is_free.in_range refl refl refl
quiet_steps w (steps.Move from to timer) e q = moves_quiet w from.0 to.0 (first_moved (cpu_of w from.0).bases) e.from_free.in_range e.to_free.in_range
quiet_steps w (steps.Take cpu by) e q = own_quiet w cpu.0 _ e.is_free.in_range refl refl refl
quiet_steps w (steps.Release cpu) e q = own_quiet w cpu.0 _ e.is_free.in_range refl refl refl
quiet_steps w (steps.Idle cpu) e q = absurd (true≢false (sym q))
quiet_steps w (steps.Wake cpu) e q = absurd (true≢false (sym q))
quiet_steps w (steps.Offline cpu) e q = absurd (true≢false (sym q))
quiet_steps w (steps.Online cpu) e q = absurd (true≢false (sym q))
quiet_steps w (steps.Reeval cpu) e q = absurd (true≢false (sym q))
quiet_steps w (steps.Carry cpu) e q = absurd (true≢false (sym q))
quiet_steps w (steps.Walk cpu) e q = absurd (true≢false (sym q))
quiet_steps w (steps.HandOn cpu to) e q = absurd (true≢false (sym q))

field_set : {A X : Type 0} (xs : List A) (i : ℕ) (y d : A) (f : A → X) → f y ≡ f (get_or xs i d) → (k : ℕ) → f (get_or (set xs i y) k d) ≡ f (get_or xs k d)
field_set [] i y d f e k = refl
field_set (x ∷ xs) zero y d f e zero = e
field_set (x ∷ xs) zero y d f e (suc k) = refl
field_set (x ∷ xs) (suc i) y d f e zero = refl
field_set (x ∷ xs) (suc i) y d f e (suc k) = field_set xs i y d f e k

-- what a step of the general form leaves of its group it leaves of all
pub moved_group_field : (w : World) (g : ℕ) (x : Group) (c : ℕ) (y : CpuRecord) (r : Bool) {X : Type 0} (f : Group → X) → f x ≡ f (group_of w g)
    → (h : ℕ) → f (group_of (moved w g x c y r) h) ≡ f (group_of w h)
moved_group_field w g x c y r f e h = field_set w.groups g x no_group f e h
