-- for crates above: what a walk that is made alone leaves of the world, besides groups
use Rattle.std.proofs.Common.{◌≡◌, ◌≢◌, ℕ, zero, suc, ◌<◌, Bool, true, false, Option, Some, None}
use Rattle.std.proofs.Common.{length, refl, sym, ◌∙◌, subst, arith, inl, inr}
use Rattle.std.proofs.lemmas.Bool.{cases_Bool}
use Rattle.walk_rules.specs.declared.walk.Walk.{Walk}
use Rattle.walk_rules.specs.declared.walk.WalkKind.{WalkKind}
use Rattle.walk_rules.specs.declared.walk.WalkKind.TheVariants as kinds
use Rattle.walk_rules.specs.declared.walk.Stage.{Stage}
use Rattle.walk_rules.specs.declared.walk.Stage.TheVariants as stages
use Rattle.walk_rules.specs.Scene.{Group}
use Rattle.core_world.specs.Steps.{finished, swapped, walk_made, walked, with_walk}
use Rattle.core_world.specs.World.{CpuRecord, World, cpu_of, group_of, moved, own}
use Rattle.core_world.proofs.Moves.{cpu_else, cpu_same, moved_laws}
use Rattle.step_play.specs.Rules.Alone.{goes_on, most_steps, walk_steps, walked_out}
use Rattle.step_play.proofs.Activation.Alongside.{beside_still}
use Rattle.step_play.proofs.Activation.Walking.{goes, onwards, stays}
use Rattle.step_play.specs.Rules.Lone.{IsLone}
use Rattle.step_play.proofs.Lone.{lone_made, lone_moved}

-- a CPU before and after steps of its walk
pub record Own (y z : CpuRecord) : Type 0 where
  pub online : z.online ≡ y.online
  pub idle : z.idle ≡ y.idle
  pub bases : z.bases ≡ y.bases
  pub outside : y.inside ≡ false → z.inside ≡ false

-- world w comes of the old one with record y for CPU c, by steps of CPU c's walk alone
pub record Framed (old : World) (c : ℕ) (y : CpuRecord) (w : World) : Type 0 where
  pub tree : w.tree ≡ old.tree
  pub timers : w.timers ≡ old.timers
  pub clock : w.clock ≡ old.clock
  pub cpus : length w.cpus ≡ length old.cpus
  pub others : (d : ℕ) → d ≢ c → cpu_of w d ≡ cpu_of old d
  pub itself : Own y (cpu_of w c)

pub own_same : (y : CpuRecord) → Own y y
own_same y = record { online = refl; idle = refl; bases = refl; outside = λ out. out }

own_then : (x y z : CpuRecord) → Own x y → Own y z → Own x z
own_then x y z a b = record {
  online = b.online ∙ a.online;
  idle = b.idle ∙ a.idle;
  bases = b.bases ∙ a.bases;
  outside = λ out. b.outside (a.outside out);
}

own_walks : (y : CpuRecord) (m : Option Walk) → Own y (with_walk y m)
own_walks y m = record { online = refl; idle = refl; bases = refl; outside = λ out. out }

own_finished : (y : CpuRecord) (k : Walk) (kind : WalkKind) → Own y (finished y k kind)
own_finished y k kinds.Activate = own_walks y None
own_finished y k kinds.Deactivate =
    record { online = refl; idle = refl; bases = refl; outside = λ out. out }
own_finished y k kinds.Offline = own_walks y _
own_finished y k kinds.Reeval =
    record { online = refl; idle = refl; bases = refl; outside = λ out. refl }
own_finished y k (kinds.Remote by) =
    record { online = refl; idle = refl; bases = refl; outside = λ out. out }

pub framed_same : (w : World) (c : ℕ) → Framed w c (cpu_of w c) w
framed_same w c = record {
  tree = refl;
  timers = refl;
  clock = refl;
  cpus = refl;
  others = λ d ne. refl;
  itself = own_same (cpu_of w c);
}

framed_then : (old : World) (c : ℕ) (y : CpuRecord) (w v : World) → Framed old c y w →
    Framed w c (cpu_of w c) v → Framed old c y v
framed_then old c y w v a b = record {
  tree = b.tree ∙ a.tree;
  timers = b.timers ∙ a.timers;
  clock = b.clock ∙ a.clock;
  cpus = b.cpus ∙ a.cpus;
  others = λ d ne. b.others d ne ∙ a.others d ne;
  itself = own_then y (cpu_of w c) (cpu_of v c) a.itself b.itself;
}

module _ (w : World) (c : ℕ) (low : c < length w.cpus) (lone : IsLone w c) where
  -- a step of the general form
  pub moved_framed : (g : ℕ) (x : Group) (z y : CpuRecord) (r : Bool) → Own y z →
      Framed w c y (moved w g x c z r)
  moved_framed g x z y r same = record {
    tree = refl;
    timers = refl;
    clock = refl;
    cpus = (moved_laws w g x c z r).cpus;
    others = λ d ne.
        cpu_else w g x c z r d ne ∙ beside_still w.tree r g d (cpu_of w d) (lone d ne);
    itself = subst (Own y) (sym (cpu_same w g x c z r low)) same;
  }

  -- a step of the walk
  by_walk : (g : ℕ) (x : Group) (m : Option Walk) (r : Bool) →
      Framed w c (cpu_of w c) (moved w g x c (with_walk (cpu_of w c) m) r)
  by_walk g x m r =
      moved_framed g x (with_walk (cpu_of w c) m) (cpu_of w c) r (own_walks (cpu_of w c) m)

  by_swap : (k : Walk) (b : Bool) → Framed w c (cpu_of w c) (swapped w c k b)
  by_swap k true = by_walk _ _ _ true
  by_swap k false = by_walk _ _ _ false

  by_stage : (k : Walk) (st : Stage) → Framed w c (cpu_of w c) (walked w c k st)
  by_stage k stages.Own = by_walk _ _ _ false
  by_stage k stages.Up = by_walk _ _ _ true
  by_stage k (stages.Mark more) = by_walk _ _ _ false
  by_stage k stages.Read = by_walk _ _ _ false
  by_stage k stages.Child = by_walk _ _ _ false
  by_stage k stages.Swap = by_swap k k.fresh
  by_stage k stages.LockChild = by_walk _ _ _ false
  by_stage k stages.LockGroup = by_walk _ _ _ false
  by_stage k stages.SeeChild = by_walk _ _ _ false
  by_stage k stages.SeeGroup = by_walk _ _ _ false
  by_stage k (stages.Scan j) = by_walk _ _ _ false
  by_stage k stages.Store = by_walk _ _ _ false
  by_stage k (stages.First j) = by_walk _ _ _ false
  by_stage k stages.FreeGroup = by_walk _ _ _ false
  by_stage k stages.FreeChild = by_walk _ _ _ false
  by_stage k stages.Finish =
      moved_framed 0 (group_of w 0) (finished (cpu_of w c) k k.kind) (cpu_of w c) false
      (own_finished (cpu_of w c) k k.kind)
  by_stage k stages.Handing = framed_same w c

  by_made : (m : Option Walk) → Framed w c (cpu_of w c) (walk_made w c m)
  by_made None = framed_same w c
  by_made (Some k) = by_stage k k.stage

  pub step_framed : Framed w c (cpu_of w c) (onwards c w)
  step_framed = by_made (cpu_of w c).walk

-- the walk made to its end
steps_framed : (n c : ℕ) (w : World) → c < length w.cpus → IsLone w c →
    Framed w c (cpu_of w c) (walk_steps n c w)
unfolding walk_steps
steps_framed zero c w low lone = framed_same w c
steps_framed (suc n) c w low lone = elim (cases_Bool (goes_on (cpu_of w c).walk)) [
  | inr off ↦
      subst (Framed w c (cpu_of w c)) (sym (stays c (suc n) w off)) (framed_same w c)
  | inl on ↦
      let step = step_framed w c low lone in
      let v = onwards c w in
      let within : c < length v.cpus = (let same = step.cpus in omega (arith, low, same)) in
      subst (Framed w c (cpu_of w c)) (sym (goes c n w on))
      (framed_then w c (cpu_of w c) v (walk_steps n c v) step
      (steps_framed n c v within (lone_made w c lone (cpu_of w c).walk)))
]

-- a CPU is written, and then its walk made to its end
pub begun_framed : (w : World) (c : ℕ) (y : CpuRecord) → c < length w.cpus → IsLone w c →
    Framed w c y (walked_out c (own w c y))
begun_framed w c y low lone =
    let v = own w c y in
    let first = moved_framed w c low lone 0 (group_of w 0) y y false (own_same y) in
    let within : c < length v.cpus = (let same = first.cpus in omega (arith, low, same)) in
    framed_then w c y v (walked_out c v) first
    (steps_framed (most_steps v) c v within
    (lone_moved w c lone 0 (group_of w 0) y false))
