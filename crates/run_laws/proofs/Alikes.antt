-- what changes no base: a CPU enters its interrupt, takes another one, lets it go, and ends
use Rattle.std.proofs.Common.{◌≡◌, ℕ, zero, suc, Bool, true, false, Option, Some}
use Rattle.std.proofs.Common.{None, length, refl, sym, ap, ◌∙◌, subst, arith, inl, inr}
use Rattle.std.specs.Prelude.{◌&&◌}
use Rattle.std.proofs.lemmas.Bool.{cases_eq, cases_lt, cond_both}
use Rattle.tree_plan.specs.Shape.{Shape}
use Rattle.walk_rules.specs.declared.walk.Walk.{Walk}
use Rattle.walk_rules.specs.declared.walk.WalkKind.{WalkKind}
use Rattle.walk_rules.specs.declared.walk.WalkKind.TheVariants as kinds
use Rattle.walk_rules.specs.declared.walk.Stage.{Stage}
use Rattle.walk_rules.specs.declared.walk.Stage.TheVariants as stages
use Rattle.walk_rules.specs.Scene.{Group}
use Rattle.play_rules.specs.State.{Cpu}
use Rattle.play_laws.proofs.Work.Homes.{Alike}
use Rattle.core_world.specs.declared.step.Step.TheVariants as steps
use Rattle.core_world.specs.Steps.{finished, stepped, swapped, walk_made, walked, with_walk}
use Rattle.core_world.specs.World.{CpuRecord, World, cpu_of, group_of, moved}
use Rattle.core_world.proofs.Moves.{beside, cpu_else, cpu_same, moved_laws}
use Rattle.step_play.specs.Rules.Alone.{goes_on, most_steps, walk_steps, walked_out}
use Rattle.step_play.specs.Rules.Seen.{state_of}
use Rattle.step_play.specs.Rules.StepRules.{step_rules}
use Rattle.step_play.proofs.Held.{bases_seen}
use Rattle.step_play.proofs.Queues.Sights.{count_seen, past_at, past_of}
use Rattle.run_laws.proofs.Built.{SameBuilt, built_then, moved_built, same_built}

-- the same machine at the same time, and each CPU's bases as they were
pub record SameBases (w v : World) : Type 0 where
  pub built : SameBuilt w v
  pub bases : (d : ℕ) → (cpu_of v d).bases ≡ (cpu_of w d).bases

pub same_bases : (w : World) → SameBases w w
same_bases w = record { built = same_built w; bases = λ d. refl }

pub bases_then : (u v w : World) → SameBases u v → SameBases v w → SameBases u w
bases_then u v w a b = record {
  built = built_then u v w a.built b.built;
  bases = λ d. b.bases d ∙ a.bases d;
}

-- WHAT PLAY SEES of it
pub seen_alike : (w v : World) → SameBases w v → Alike (state_of w) (state_of v)
seen_alike w v same = (
  same.built.clock,
  same.built.tree,
  count_seen v ∙ (same.built.cpus ∙ sym (count_seen w)),
  λ d. elim (cases_lt d (length w.cpus)) [
    | inl low ↦
        bases_seen v d (let count = same.built.cpus in omega (arith, low, count))
        ∙ (same.bases d ∙ sym (bases_seen w d low))
    | inr high ↦
        ap (λ (x : Cpu). x.bases)
        (past_at v d (let count = same.built.cpus in omega (arith, high, count))
        ∙ sym (past_at w d high))
  ],
)

-- the form of a step
beside_bases : (t : Shape) (r : Bool) (g d : ℕ) (y : CpuRecord) → (beside t r g d y).bases ≡ y.bases
beside_bases t true g d y = refl
beside_bases t false g d y = refl

module _ (w : World) (g : ℕ) (x : Group) (c : ℕ) (y : CpuRecord) (r : Bool)
    (same : y.bases ≡ (cpu_of w c).bases) where
  own_bases : (cpu_of (moved w g x c y r) c).bases ≡ (cpu_of w c).bases
  own_bases = elim (cases_lt c (length w.cpus)) [
    | inl low ↦ ap (λ (z : CpuRecord). z.bases) (cpu_same w g x c y r low) ∙ same
    | inr high ↦
        ap (λ (z : CpuRecord). z.bases)
        (past_of (moved w g x c y r) c
        (let count = (moved_laws w g x c y r).cpus in omega (arith, high, count))
        ∙ sym (past_of w c high))
  ]

  pub moved_bases : SameBases w (moved w g x c y r)
  moved_bases = record {
    built = moved_built w g x c y r;
    bases = λ d. elim (cases_eq d c) [
      | inl is ↦
          subst (λ n. (cpu_of (moved w g x c y r) n).bases ≡ (cpu_of w n).bases) (sym is) own_bases
      | inr ne ↦
          ap (λ (z : CpuRecord). z.bases) (cpu_else w g x c y r d ne)
          ∙ beside_bases w.tree r g d (cpu_of w d)
    ];
  }

-- a step of a walk
finished_bases : (y : CpuRecord) (k : Walk) (kind : WalkKind) → (finished y k kind).bases ≡ y.bases
finished_bases y k kinds.Activate = refl
finished_bases y k kinds.Deactivate = refl
finished_bases y k kinds.Offline = refl
finished_bases y k kinds.Reeval = refl
finished_bases y k (kinds.Remote by) = refl

module _ (w : World) (c : ℕ) where
  by_walk : (g : ℕ) (x : Group) (m : Option Walk) (r : Bool)
      → SameBases w (moved w g x c (with_walk (cpu_of w c) m) r)
  by_walk g x m r = moved_bases w g x c (with_walk (cpu_of w c) m) r refl

  by_swap : (k : Walk) (fresh : Bool) → SameBases w (swapped w c k fresh)
  by_swap k true = by_walk _ _ _ true
  by_swap k false = by_walk _ _ _ false

  by_stage : (k : Walk) (st : Stage) → SameBases w (walked w c k st)
  by_stage k stages.Own = by_walk _ _ _ false
  by_stage k stages.Up = by_walk _ _ _ true
  by_stage k (stages.Mark more) = by_walk _ _ _ false
  by_stage k stages.Read = by_walk _ _ _ false
  by_stage k stages.Child = by_walk _ _ _ false
  by_stage k stages.Swap = by_swap k k.fresh
  by_stage k stages.LockChild = by_walk _ _ _ false
  by_stage k stages.LockGroup = by_walk _ _ _ false
  by_stage k stages.SeeChild = by_walk _ _ _ false
  by_stage k stages.SeeGroup = by_walk _ _ _ false
  by_stage k (stages.Scan j) = by_walk _ _ _ false
  by_stage k stages.Store = by_walk _ _ _ false
  by_stage k (stages.First j) = by_walk _ _ _ false
  by_stage k stages.FreeGroup = by_walk _ _ _ false
  by_stage k stages.FreeChild = by_walk _ _ _ false
  by_stage k stages.Finish =
      moved_bases w 0 (group_of w 0) c (finished (cpu_of w c) k k.kind) false
      (finished_bases (cpu_of w c) k k.kind)
  by_stage k stages.Handing = same_bases w

  walk_bases : (o : Option Walk) → SameBases w (walk_made w c o)
  walk_bases None = same_bases w
  walk_bases (Some k) = by_stage k k.stage

steps_bases : (n c : ℕ) (w : World) → SameBases w (walk_steps n c w)
unfolding walk_steps
steps_bases zero c w = same_bases w
steps_bases (suc n) c w =
    let v = stepped w (steps.Walk (record { 0 = c })) in
    cond_both (goes_on (cpu_of w c).walk) (walk_steps n c v) w (SameBases w)
    (λ on. bases_then w v (walk_steps n c v) (walk_bases w c (cpu_of w c).walk) (steps_bases n c v))
    (λ off. same_bases w)

-- a step, and a walk made to its end
out_bases : (c : ℕ) (w v : World) → SameBases w v → SameBases w (walked_out c v)
out_bases c w v same = bases_then w v (walked_out c v) same (steps_bases (most_steps v) c v)

-- THE RULES
pub entered_alike : (w : World) (c : ℕ) → SameBases w (step_rules.entered w c)
entered_alike w c = moved_bases w 0 (group_of w 0) c _ false refl

pub taken_alike : (w : World) (c d : ℕ) → SameBases w (step_rules.taken w c d)
taken_alike w c d = moved_bases w 0 (group_of w 0) d _ false refl

pub let_go_alike : (w : World) (c d : ℕ) → SameBases w (step_rules.let_go w c d)
let_go_alike w c d =
    cond_both ((cpu_of w d).online && (cpu_of w d).idle)
    (walked_out d (stepped w (steps.Carry (record { 0 = d }))))
    (stepped w (steps.Release (record { 0 = d }))) (SameBases w)
    (λ asleep. out_bases d w _ (moved_bases w 0 (group_of w 0) d _ false refl))
    (λ awake. moved_bases w 0 (group_of w 0) d _ false refl)

pub ended_alike : (w : World) (c : ℕ) → SameBases w (step_rules.ended w c)
ended_alike w c =
    cond_both (cpu_of w c).idle (walked_out c (stepped w (steps.Reeval (record { 0 = c }))))
    (stepped w (steps.Leave (record { 0 = c }))) (SameBases w)
    (λ idle. out_bases c w _ (moved_bases w 0 (group_of w 0) c _ false refl))
    (λ busy. moved_bases w 0 (group_of w 0) c _ false refl)
