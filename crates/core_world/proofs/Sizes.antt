-- for crates above: no step changes the tree or how much there is
use Rattle.std.proofs.Common.{◌≡◌, ℕ, Bool, true, false, length, Option, Some, None, refl, ◌∙◌}
use Rattle.std.proofs.Math.ListN.{length-set}
use Rattle.tm_base.specs.declared.names.Class.{Class}
use Rattle.cpu_bases.specs.wheel_core.declared.item.Item.{Item}
use Rattle.walk_rules.specs.declared.walk.Walk.{Walk}
use Rattle.walk_rules.specs.declared.walk.Stage.{Stage}
use Rattle.walk_rules.specs.declared.walk.Stage.TheVariants as stages
use Rattle.walk_rules.specs.Scene.{Group}
use Rattle.walk_rules.specs.Stages.{left_by}
use Rattle.core_world.specs.declared.step.Step.TheVariants as steps
use Rattle.core_world.specs.Frames.{SameSize, SizesStay}
use Rattle.core_world.specs.Steps.{first_moved, giver, moved_with, swapped, taker, walk_made}
use Rattle.core_world.specs.Steps.{walked}
use Rattle.core_world.specs.World.{CpuRecord, World, cpu_of, group_of, moved}
use Rattle.core_world.proofs.Moves.{moved_laws}
use Rattle.core_world.proofs.Quiet.{moved_group_field}

sized : (w : World) (g : ℕ) (x : Group) (c : ℕ) (y : CpuRecord) (r : Bool) → length x.events ≡ length (group_of w g).events → SameSize w (moved w g x c y r)
sized w g x c y r e = record {
  tree = refl;
  groups = (moved_laws w g x c y r).groups;
  slots = moved_group_field w g x c y r (λ z. length z.events) e;
  cpus = (moved_laws w g x c y r).cpus;
  timers = refl;
}

same : (w : World) → SameSize w w
same w = record { tree = refl; groups = refl; slots = λ g. refl; cpus = refl; timers = refl }

leaving : (on : Bool) (x : Group) (k : ℕ) → length (left_by on x k).events ≡ length x.events
leaving true x k = refl
leaving false x k = refl

swap_sized : (w : World) (c : ℕ) (k : Walk) (fresh : Bool) → SameSize w (swapped w c k fresh)
swap_sized w c k true = sized w _ _ c _ true (leaving k.child_on _ _)
swap_sized w c k false = sized w _ _ c _ false refl

stage_sized : (w : World) (c : ℕ) (k : Walk) (st : Stage) → SameSize w (walked w c k st)
stage_sized w c k stages.Own = sized w _ _ c _ false (length-set _ _ _)
stage_sized w c k stages.Up = sized w _ _ c _ true refl
stage_sized w c k (stages.Mark more) = sized w _ _ c _ false (length-set _ _ _)
stage_sized w c k stages.Read = sized w _ _ c _ false refl
stage_sized w c k stages.Child = sized w _ _ c _ false refl
stage_sized w c k stages.LockChild = sized w _ _ c _ false refl
stage_sized w c k stages.LockGroup = sized w _ _ c _ false refl
stage_sized w c k stages.SeeChild = sized w _ _ c _ false refl
stage_sized w c k stages.SeeGroup = sized w _ _ c _ false refl
stage_sized w c k (stages.Scan j) = sized w _ _ c _ false refl
stage_sized w c k stages.Store = sized w _ _ c _ false (length-set _ _ _)
stage_sized w c k (stages.First j) = sized w _ _ c _ false refl
stage_sized w c k stages.FreeGroup = sized w _ _ c _ false refl
stage_sized w c k stages.FreeChild = sized w _ _ c _ false refl
stage_sized w c k stages.Finish = sized w _ _ c _ false refl
stage_sized w c k stages.Swap = swap_sized w c k k.fresh
stage_sized w c k stages.Handing = same w

walk_sized : (w : World) (c : ℕ) (m : Option Walk) → SameSize w (walk_made w c m)
walk_sized w c None = same w
walk_sized w c (Some k) = stage_sized w c k k.stage

move_sized : (w : World) (from to : ℕ) (m : Option (Class × Item)) → SameSize w (moved_with w from to m)
move_sized w from to None = same w
move_sized w from to (Some m) = record {
  tree = refl;
  groups = refl;
  slots = λ g. refl;
  cpus = length-set _ to (taker w to m.0 m.1) ∙ length-set w.cpus from (giver w from to m.0);
  timers = refl;
}

pub sizes_stay : SizesStay
sizes_stay w (steps.Clock now) = record { tree = refl; groups = refl; slots = λ g. refl; cpus = refl; timers = refl }
sizes_stay w (steps.Move from to timer) = move_sized w from.0 to.0 (first_moved (cpu_of w from.0).bases)
sizes_stay w (steps.Walk cpu) = walk_sized w cpu.0 (cpu_of w cpu.0).walk
sizes_stay w (steps.Enter cpu) = sized w _ _ cpu.0 _ false refl
sizes_stay w (steps.Leave cpu) = sized w _ _ cpu.0 _ false refl
sizes_stay w (steps.Arm cpu timer class expires job arg line) = sized w _ _ cpu.0 _ false refl
sizes_stay w (steps.Cancel cpu timer by line) = sized w _ _ cpu.0 _ false refl
sizes_stay w (steps.Hand cpu timer runner) = sized w _ _ cpu.0 _ false refl
sizes_stay w (steps.Ticked cpu class runner) = sized w _ _ cpu.0 _ false refl
sizes_stay w (steps.Idle cpu) = sized w _ _ cpu.0 _ false refl
sizes_stay w (steps.Wake cpu) = sized w _ _ cpu.0 _ false refl
sizes_stay w (steps.Offline cpu) = sized w _ _ cpu.0 _ false refl
sizes_stay w (steps.Online cpu) = sized w _ _ cpu.0 _ false refl
sizes_stay w (steps.Reeval cpu) = sized w _ _ cpu.0 _ false refl
sizes_stay w (steps.Take cpu by) = sized w _ _ cpu.0 _ false refl
sizes_stay w (steps.Carry cpu) = sized w _ _ cpu.0 _ false refl
sizes_stay w (steps.Release cpu) = sized w _ _ cpu.0 _ false refl
sizes_stay w (steps.HandOn cpu to) = sized w _ _ cpu.0 _ false refl
