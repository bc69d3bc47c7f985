-- for crates above: what a walk that is made alone leaves of the world before it
use Rattle.std.proofs.Common.{◌≡◌, ◌≢◌, ℕ, suc, ◌<◌, ◌&&◌, cond, Bool, true, false, length}
use Rattle.std.proofs.Common.{Option, Some, None, refl, ap, ◌∙◌, arith}
use Rattle.std.specs.Prelude.{◌==◌, is_some, option_map}
use Rattle.std.specs.Option.{option_map_or}
use Rattle.tree_plan.specs.Shape.{Shape}
use Rattle.tree_plan.specs.Paths.{group_at_of}
use Rattle.tree_plan.specs.Laws.{PathLaws}
use Rattle.walk_rules.specs.declared.walk.Walk.{Walk}
use Rattle.walk_rules.specs.Scene.{Group}
use Rattle.core_world.specs.Lawful.{IsLawful}
use Rattle.core_world.specs.Steps.{with_walk}
use Rattle.core_world.specs.World.{CpuRecord, World, cpu_of, group_of, is_reading, moved}
use Rattle.core_world.specs.World.{stale_walk}
use Rattle.core_world.proofs.Moves.{beside, cpu_else, cpu_same, moved_laws}
use Rattle.step_play.specs.Rules.Alone.{goes_on}
use Rattle.step_play.specs.Rules.Live.{told_by}
use Rattle.step_play.proofs.Activation.Calm.{handing}

-- the migrator of a group
abbrev pub role : World → (g : ℕ) → Option ℕ
role w g = (group_of w g).migrator

-- a walk that doesn't go on reads no word, and so no exchange makes it stale
unread : (t : Shape) (g d : ℕ) (k : Walk) → is_reading k.stage ≡ false → stale_walk t g d k ≡ k
unread t g d k e =
    ap (λ b. cond (b && option_map_or (λ h. h == g) (group_at_of t d k.level) false)
    (record k { fresh = false }) k) e

not_stale : (t : Shape) (g d : ℕ) (m : Option Walk) → goes_on m ≡ false →
    option_map (stale_walk t g d) m ≡ m
not_stale t g d None e = refl
not_stale t g d (Some k) e = ap Some (unread t g d k (ap is_reading (handing k e)))

pub beside_still : (t : Shape) (r : Bool) (g d : ℕ) (z : CpuRecord) → goes_on z.walk ≡ false →
    beside t r g d z ≡ z
beside_still t true g d z e = λ i. record z { walk = not_stale t g d z.walk e i }
beside_still t false g d z e = refl

-- World w comes of the old one by steps of CPU c's walk alone. y is CPU c, but for the walk; of the
-- path of c it is known that what is above an active group was active
pub record Alongside (old : World) (c : ℕ) (y : CpuRecord) (w : World) : Type 0 where
  pub tree : w.tree ≡ old.tree
  pub timers : w.timers ≡ old.timers
  pub clock : w.clock ≡ old.clock
  pub cpus : length w.cpus ≡ length old.cpus
  pub groups : length w.groups ≡ length old.groups
  pub in_range : c < length w.cpus
  pub lawful : IsLawful w
  pub paths : PathLaws w.tree
  pub others : (d : ℕ) → d ≢ c → cpu_of w d ≡ cpu_of old d
  pub still : (d : ℕ) → d ≢ c → goes_on (cpu_of w d).walk ≡ false
  pub itself : with_walk (cpu_of w c) None ≡ y
  pub told : (d : ℕ) → d ≢ c → told_by w d ≡ told_by old d
  pub upwards : (i g p : ℕ) → group_at_of w.tree c i ≡ Some g →
      group_at_of w.tree c (suc i) ≡ Some p → is_some (role old g) ≡ true →
      is_some (role old p) ≡ true

-- a step of the walk changes a group and the walk
module _ (old : World) (c : ℕ) (y : CpuRecord) (w : World) (a : Alongside old c y w) (g : ℕ)
    (x : Group) (m : Option Walk) (r : Bool) where
  abbrev new : World
  new = moved w g x c (with_walk (cpu_of w c) m) r

  pub now_walks : (cpu_of new c).walk ≡ m
  now_walks = ap (λ (z : CpuRecord). z.walk)
      (cpu_same w g x c (with_walk (cpu_of w c) m) r a.in_range)

  unmoved : (d : ℕ) → d ≢ c → cpu_of new d ≡ cpu_of w d
  unmoved d ne = cpu_else w g x c (with_walk (cpu_of w c) m) r d ne
      ∙ beside_still w.tree r g d (cpu_of w d) (a.still d ne)

  pub alongside : IsLawful new → ((d : ℕ) → d ≢ c → told_by new d ≡ told_by w d) →
      Alongside old c y new
  alongside lawful told =
      let laws = moved_laws w g x c (with_walk (cpu_of w c) m) r in
      record {
        tree = a.tree;
        timers = a.timers;
        clock = a.clock;
        cpus = laws.cpus ∙ a.cpus;
        groups = laws.groups ∙ a.groups;
        in_range = (let same = laws.cpus in let low = a.in_range in omega arith);
        lawful = lawful;
        paths = a.paths;
        others = λ d ne. unmoved d ne ∙ a.others d ne;
        still = λ d ne. ap (λ (z : CpuRecord). goes_on z.walk) (unmoved d ne) ∙ a.still d ne;
        itself = ap (λ (z : CpuRecord). with_walk z None)
            (cpu_same w g x c (with_walk (cpu_of w c) m) r a.in_range)
            ∙ a.itself;
        told = λ d ne. told d ne ∙ a.told d ne;
        upwards = a.upwards;
      }
