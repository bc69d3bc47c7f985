-- for crates above: steps that leave the timers of each CPU, and how the form of a step shows
use Rattle.std.proofs.Common.{◌≡◌, ℕ, ◌<◌, Bool, true, false, true≢false, length, Option, refl, sym}
use Rattle.std.proofs.Common.{ap, ◌∙◌, subst, inl, inr}
use Rattle.std.proofs.lemmas.Bool.{cases_eq}
use Rattle.tree_plan.specs.Shape.{Shape}
use Rattle.walk_rules.specs.declared.walk.Walk.{Walk}
use Rattle.walk_rules.specs.declared.walk.WalkKind.{WalkKind}
use Rattle.walk_rules.specs.declared.walk.WalkKind.TheVariants as kinds
use Rattle.walk_rules.specs.declared.walk.Stage.{Stage}
use Rattle.walk_rules.specs.declared.walk.Stage.TheVariants as stages
use Rattle.walk_rules.specs.Scene.{Group}
use Rattle.core_world.specs.declared.step.Step.{Step}
use Rattle.core_world.specs.declared.step.Step.TheVariants as steps
use Rattle.core_world.specs.Enabled.{Enabled}
use Rattle.core_world.specs.Steps.{finished, stepped, swapped, walk_made, walked}
use Rattle.core_world.specs.World.{CpuRecord, World, cpu_of, group_of, moved, own}
use Rattle.core_world.proofs.Moves.{beside, cpu_else, cpu_same}

-- what is said of CPUs and doesn't look at walks, of the CPUs beside the one that steps
pub blind_beside : {X : Type 0} (f : CpuRecord → X)
    → ((y : CpuRecord) (m : Option Walk) → f (record y { walk = m }) ≡ f y)
    → (t : Shape) (r : Bool) (g d : ℕ) (y : CpuRecord) → f (beside t r g d y) ≡ f y
blind_beside f blind t true g d y = blind y _
blind_beside f blind t false g d y = refl

-- A STEP OF THE GENERAL FORM: what it leaves of its CPU it leaves of all
pub moved_field : {X : Type 0} (f : CpuRecord → X)
    → ((y : CpuRecord) (m : Option Walk) → f (record y { walk = m }) ≡ f y)
    → (w : World) (g : ℕ) (x : Group) (c : ℕ) (y : CpuRecord) (r : Bool) → c < length w.cpus
    → f y ≡ f (cpu_of w c) → (d : ℕ) → f (cpu_of (moved w g x c y r) d) ≡ f (cpu_of w d)
moved_field f blind w g x c y r hc e d = elim (cases_eq d c) [
  | inl same ↦ subst (λ n. f (cpu_of (moved w g x c y r) n) ≡ f (cpu_of w n)) (sym same)
      (ap f (cpu_same w g x c y r hc) ∙ e)
  | inr ne ↦ ap f (cpu_else w g x c y r d ne) ∙ blind_beside f blind w.tree r g d (cpu_of w d)
]

-- each CPU has the timers that it had, at the same time
pub record SameBases (old new : World) : Type 0 where
  pub clock : new.clock ≡ old.clock
  pub each : (d : ℕ) → (cpu_of new d).bases ≡ (cpu_of old d).bases

pub moved_bases : (w : World) (g : ℕ) (x : Group) (c : ℕ) (y : CpuRecord) (r : Bool)
    → c < length w.cpus → y.bases ≡ (cpu_of w c).bases → SameBases w (moved w g x c y r)
moved_bases w g x c y r hc e = record {
  clock = refl;
  each =
      moved_field (λ y. y.bases) (λ y m. refl) w g x c y r hc e;
}

module _ (w : World) (c : ℕ) (k : Walk) (hc : c < length w.cpus) where
  finish : (kind : WalkKind) → SameBases w (own w c (finished (cpu_of w c) k kind))
  finish kinds.Activate = moved_bases w 0 (group_of w 0) c _ false hc refl
  finish kinds.Deactivate = moved_bases w 0 (group_of w 0) c _ false hc refl
  finish kinds.Offline = moved_bases w 0 (group_of w 0) c _ false hc refl
  finish kinds.Reeval = moved_bases w 0 (group_of w 0) c _ false hc refl
  finish (kinds.Remote by) = moved_bases w 0 (group_of w 0) c _ false hc refl

  swap : (fresh : Bool) → SameBases w (swapped w c k fresh)
  swap true = moved_bases w _ _ c _ true hc refl
  swap false = moved_bases w 0 (group_of w 0) c _ false hc refl

  by_stage : (st : Stage) → SameBases w (walked w c k st)
  by_stage stages.Own = moved_bases w _ _ c _ false hc refl
  by_stage stages.Up = moved_bases w _ _ c _ true hc refl
  by_stage (stages.Mark more) = moved_bases w _ _ c _ false hc refl
  by_stage stages.Read = moved_bases w 0 (group_of w 0) c _ false hc refl
  by_stage stages.Child = moved_bases w 0 (group_of w 0) c _ false hc refl
  by_stage stages.Swap = swap k.fresh
  by_stage stages.LockChild = moved_bases w _ _ c _ false hc refl
  by_stage stages.LockGroup = moved_bases w _ _ c _ false hc refl
  by_stage stages.SeeChild = moved_bases w 0 (group_of w 0) c _ false hc refl
  by_stage stages.SeeGroup = moved_bases w 0 (group_of w 0) c _ false hc refl
  by_stage (stages.Scan j) = moved_bases w 0 (group_of w 0) c _ false hc refl
  by_stage stages.Store = moved_bases w _ _ c _ false hc refl
  by_stage (stages.First j) = moved_bases w 0 (group_of w 0) c _ false hc refl
  by_stage stages.FreeGroup = moved_bases w _ _ c _ false hc refl
  by_stage stages.FreeChild = moved_bases w _ _ c _ false hc refl
  by_stage stages.Finish = finish k.kind
  by_stage stages.Handing = record { clock = refl; each = λ d. refl }

-- a step that changes timers or the time
abbrev pub changes_timers : Step → Bool
changes_timers (steps.Clock now) = true
changes_timers (steps.Enter cpu) = false
changes_timers (steps.Leave cpu) = false
changes_timers (steps.Arm cpu timer class expires job arg line) = true
changes_timers (steps.Cancel cpu timer by line) = true
changes_timers (steps.Hand cpu timer runner) = true
changes_timers (steps.Ticked cpu class runner) = true
changes_timers (steps.Move from to timer) = true
changes_timers (steps.Idle cpu) = false
changes_timers (steps.Wake cpu) = false
changes_timers (steps.Offline cpu) = false
changes_timers (steps.Online cpu) = false
changes_timers (steps.Reeval cpu) = false
changes_timers (steps.Take cpu by) = false
changes_timers (steps.Carry cpu) = false
changes_timers (steps.Release cpu) = false
changes_timers (steps.Walk cpu) = false
changes_timers (steps.HandOn cpu to) = false

pub same_bases : (w : World) (step : Step) → Enabled w step → changes_timers step ≡ false
    → SameBases w (stepped w step)
same_bases w (steps.Clock now) e q = absurd (true≢false q)
same_bases w (steps.Enter cpu) e q = moved_bases w 0 (group_of w 0) cpu.0 _ false e.is_free.in_range
    refl
same_bases w (steps.Leave cpu) e q = moved_bases w 0 (group_of w 0) cpu.0 _ false e.is_free.in_range
    refl
same_bases w (steps.Idle cpu) e q = moved_bases w 0 (group_of w 0) cpu.0 _ false e.is_free.in_range
    refl
same_bases w (steps.Wake cpu) e q = moved_bases w 0 (group_of w 0) cpu.0 _ false e.is_free.in_range
    refl
same_bases w (steps.Offline cpu) e q = moved_bases w 0 (group_of w 0) cpu.0 _ false
    e.is_free.in_range refl
same_bases w (steps.Online cpu) e q = moved_bases w 0 (group_of w 0) cpu.0 _ false
    e.is_free.in_range refl
same_bases w (steps.Reeval cpu) e q = moved_bases w 0 (group_of w 0) cpu.0 _ false
    e.is_free.in_range refl
same_bases w (steps.Take cpu by) e q = moved_bases w 0 (group_of w 0) cpu.0 _ false
    e.is_free.in_range refl
same_bases w (steps.Carry cpu) e q = moved_bases w 0 (group_of w 0) cpu.0 _ false e.is_free.in_range
    refl
same_bases w (steps.Release cpu) e q = moved_bases w 0 (group_of w 0) cpu.0 _ false
    e.is_free.in_range refl
same_bases w (steps.Walk cpu) e q = subst (λ m. SameBases w (walk_made w cpu.0 m)) (sym e.walk)
    (by_stage w cpu.0 e.made e.in_range e.made.stage)
same_bases w (steps.HandOn cpu to) e q = moved_bases w 0 (group_of w 0) cpu.0 _ false e.in_range
    refl
same_bases w (steps.Arm cpu timer class expires job arg line) e q = absurd (true≢false q)
same_bases w (steps.Cancel cpu timer by line) e q = absurd (true≢false q)
same_bases w (steps.Hand cpu timer runner) e q = absurd (true≢false q)
same_bases w (steps.Ticked cpu class runner) e q = absurd (true≢false q)
same_bases w (steps.Move from to timer) e q = absurd (true≢false q)
