-- for crates above: what a step of another CPU leaves of a CPU
use Rattle.std.proofs.Common.{◌≡◌, ◌≢◌, ℕ, ◌<◌, eq-eqb, ne_eqb, cond, Bool, true, false, length}
use Rattle.std.proofs.Common.{Option, Some}
use Rattle.std.proofs.Common.{None, refl, ap, sym, ◌∙◌, inl, inr}
use Rattle.std.specs.Prelude.{option_map}
use Rattle.tree_plan.specs.Shape.{Shape}
use Rattle.walk_rules.specs.declared.walk.Walk.{Walk}
use Rattle.walk_rules.specs.Stages.{forget}
use Rattle.core_world.specs.World.{CpuRecord, reads_at, stale_walk}
use Rattle.std.proofs.lemmas.Bool.{cases_eq}
use Rattle.event_queue.specs.EventMap.{EventMap, event_at}
use Rattle.tree_plan.specs.Paths.{group_at_of}
use Rattle.walk_rules.specs.Hierarchy.{side}
use Rattle.walk_rules.specs.Scene.{Group}
use Rattle.core_world.specs.World.{World, cpu_of, group_of, moved, own}
use Rattle.core_world.proofs.Quiet.{moved_group_field, own_group}
use Rattle.shared_rule.specs.declared.parts.PassView.{PassView}
use Rattle.shared_rule.specs.Whole.{leaf_in, leaf_of}
use Rattle.core_world.proofs.Moves.{beside, cpu_else, cpu_same}
use Rattle.shared_rule.specs.Whole.{quiet}
use Rattle.shared_rule.specs.Shows.{owes, set_at}

pub set_here : {X : Type 0} (c : ℕ) (x : X) (f : ℕ → X) → set_at c x f c ≡ x
set_here c x f = ap (λ b. cond b x (f c)) (eq-eqb c c refl)

pub set_else : {X : Type 0} (c : ℕ) (x : X) (f : ℕ → X) (d : ℕ) → d ≢ c → set_at c x f d ≡ f d
set_else c x f d ne = ap (λ b. cond b x (f d)) (ne_eqb d c ne)

forget_cond : (b : Bool) (k : Walk) → forget (cond b (record k { fresh = false }) k) ≡ forget k
forget_cond true k = refl
forget_cond false k = refl

forgets : (t : Shape) (g d : ℕ) (m : Option Walk) → option_map forget
    (option_map (stale_walk t g d) m) ≡ option_map forget m
forgets t g d None = refl
forgets t g d (Some k) = ap Some (forget_cond (reads_at t g d k) k)

pub quiet_else : (t : Shape) (r : Bool) (g d : ℕ) (y : CpuRecord)
    → quiet (beside t r g d y) ≡ quiet y
quiet_else t true g d y = λ i. record y { walk = forgets t g d y.walk i }
quiet_else t false g d y = refl

owes_cond : (t : Shape) (h d : ℕ) (b : Bool) (k : Walk)
    → owes t h d (Some (cond b (record k { fresh = false }) k)) ≡ owes t h d (Some k)
owes_cond t h d true k = refl
owes_cond t h d false k = refl

owes_stale : (t : Shape) (g h d : ℕ) (m : Option Walk)
    → owes t h d (option_map (stale_walk t g d) m) ≡ owes t h d m
owes_stale t g h d None = refl
owes_stale t g h d (Some k) = owes_cond t h d (reads_at t g d k) k

pub owes_else : (t : Shape) (r : Bool) (g h d : ℕ) (y : CpuRecord)
    → owes t h d (beside t r g d y).walk ≡ owes t h d y.walk
owes_else t true g h d y = owes_stale t g h d y.walk
owes_else t false g h d y = refl

-- a field that isn't of the walk
pub field_else : {X : Type 0} (f : CpuRecord → X) → ((y : CpuRecord) (m : Option Walk)
    → f (record y { walk = m }) ≡ f y) → (t : Shape) (r : Bool) (g d : ℕ) (y : CpuRecord)
    → f (beside t r g d y) ≡ f y
field_else f e t true g d y = e y _
field_else f e t false g d y = refl

-- a step that changes no group leaves each CPU its slot in its leaf
own_leaf_in : (w : World) (c d : ℕ) (y : CpuRecord) (m : Option ℕ)
    → leaf_in (own w c y) d m ≡ leaf_in w d m
own_leaf_in w c d y None = refl
own_leaf_in w c d y (Some g) = ap (λ (z : Group). event_at z.events (side w.tree d 0))
    (own_group w c y g)

pub own_leaf : (w : World) (c d : ℕ) (y : CpuRecord) → leaf_of (own w c y) d ≡ leaf_of w d
own_leaf w c d y = own_leaf_in w c d y (group_at_of w.tree d 0)

-- a field of the passes, where that of c became q
pub pass_field : {X : Type 0} (f : PassView → X) (pass : ℕ → PassView) (c : ℕ) (q : PassView)
    → f q ≡ f (pass c) → (d : ℕ) → f (set_at c q pass d) ≡ f (pass d)
pass_field f pass c q e d = elim (cases_eq d c) [
  | inl is ↦ ap (λ m. f (set_at c q pass m)) is ∙ (ap f (set_here c q pass)
      ∙ (e ∙ ap (λ m. f (pass m)) (sym is)))
  | inr ne ↦ ap f (set_else c q pass d ne)
]

-- a step that leaves the slots of its group leaves each CPU its slot in its leaf
pub leaf_stays : (w : World) (g : ℕ) (x : Group) (c : ℕ) (y : CpuRecord) (r : Bool)
    → x.events ≡ (group_of w g).events → (d : ℕ) → leaf_of (moved w g x c y r) d ≡ leaf_of w d
leaf_stays w g x c y r same d = by_leaf (group_at_of w.tree d 0)
  where
    by_leaf : (m : Option ℕ) → leaf_in (moved w g x c y r) d m ≡ leaf_in w d m
    by_leaf None = refl
    by_leaf (Some h) =
        ap (λ (z : EventMap). event_at z (side w.tree d 0))
        (moved_group_field w g x c y r (λ (z : Group). z.events) same h)

-- a field that isn't of the walk stays with each CPU, where it does with the one that steps
pub cpu_field : {X : Type 0} (w : World) (g : ℕ) (x : Group) (c : ℕ) (y : CpuRecord) (r : Bool)
    (f : CpuRecord → X) → ((z : CpuRecord) (m : Option Walk) → f (record z { walk = m }) ≡ f z)
    → c < length w.cpus → f y ≡ f (cpu_of w c) → (d : ℕ)
    → f (cpu_of (moved w g x c y r) d) ≡ f (cpu_of w d)
cpu_field w g x c y r f apart hc same d = elim (cases_eq d c) [
  | inl is ↦
      ap (λ n. f (cpu_of (moved w g x c y r) n)) is
      ∙ (ap f (cpu_same w g x c y r hc) ∙ (same ∙ ap (λ n. f (cpu_of w n)) (sym is)))
  | inr ne ↦
      ap f (cpu_else w g x c y r d ne) ∙ field_else f apart w.tree r g d (cpu_of w d)
]
