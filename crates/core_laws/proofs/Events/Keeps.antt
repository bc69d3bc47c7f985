-- every step keeps the events on their way upwards
use Rattle.std.proofs.Common.{◌≡◌, ℕ, ◌<◌, Bool, true, false, length, Some, None, refl, sym, ap, ◌∙◌, subst}
use Rattle.std.specs.Prelude.{option_map}
use Rattle.event_queue.specs.EventMap.{event_at}
use Rattle.walk_rules.specs.Stages.{forget}
use Rattle.walk_rules.specs.declared.walk.Walk.{Walk}
use Rattle.walk_rules.specs.declared.walk.WalkKind.{WalkKind}
use Rattle.walk_rules.specs.declared.walk.WalkKind.TheVariants as kinds
use Rattle.walk_rules.specs.declared.walk.Stage.{Stage}
use Rattle.walk_rules.specs.declared.walk.Stage.TheVariants as stages
use Rattle.walk_rules.specs.Queues.{EventsTold, is_past_sight, read_of}
use Rattle.core_world.specs.declared.step.Step.{Step}
use Rattle.core_world.specs.declared.step.Step.TheVariants as steps
use Rattle.core_world.specs.Enabled.{Enabled, MayGoOn}
use Rattle.core_world.specs.Frames.{is_quiet}
use Rattle.core_world.specs.Steps.{child_here, child_on, finished, here, stepped, swapped, walk_made, walked, with_walk}
use Rattle.walk_rules.specs.Stages.{begun_where}
use Rattle.core_world.specs.World.{CpuRecord, World, cpu_of, group_of, own, scene_of}
use Rattle.core_world.proofs.Quiet.{quiet_steps}
use Rattle.core_laws.specs.Events.Layer.{EventsFit, EventsStayFit}
use Rattle.core_laws.proofs.Events.Bests.{calm_best, read_by, stage_best, unread_begun}
use Rattle.core_laws.proofs.Events.Rises.{marks_told, own_told, swap_told, up_told}
use Rattle.core_laws.proofs.Events.Sights.{free_sights, handed_sights, sees_by, stage_sights, unseen_begun}
use Rattle.core_laws.proofs.Events.Stores.{store_told}
use Rattle.core_laws.proofs.Events.Told.{child_told, finish_told, first_told, free_child_told, free_group_told, free_told, handed_told, lock_child_told, lock_group_told, read_told, scan_told, see_child_told, see_group_told, stale_told}
use Rattle.core_laws.proofs.Events.Walking.{BeforeStep}

-- STEPS OF WALKS
module _ (w : World) (c : ℕ) (k : Walk) (hc : c < length w.cpus) (a : BeforeStep w) (is : (cpu_of w c).walk ≡ Some k) where
  swapped_told : k.stage ≡ stages.Swap → (fresh : Bool) → EventsTold w.tree (scene_of (swapped w c k fresh))
  swapped_told e true = swap_told w c k hc a is e k.child_on
  swapped_told e false = stale_told w c k hc a is e

  stage_told : (st : Stage) → k.stage ≡ st → EventsTold w.tree (scene_of (walked w c k st))
  stage_told stages.Own e = own_told w c k hc a is e
  stage_told stages.Up e = up_told w c k hc a is e
  stage_told (stages.Mark more) e = marks_told w c k hc a is more e
  stage_told stages.Read e = read_told w c k hc a is e
  stage_told stages.Child e = child_told w c k hc a is e (child_on w c k.level)
  stage_told stages.Swap e = swapped_told e k.fresh
  stage_told stages.LockChild e = lock_child_told w c k hc a is e (child_here w c k) _ refl refl
  stage_told stages.LockGroup e = lock_group_told w c k hc a is e (here w c k) _ refl refl
  stage_told stages.SeeChild e = see_child_told w c k hc a is e (child_on w c k.level) refl
  stage_told stages.SeeGroup e = see_group_told w c k hc a is e
  stage_told (stages.Scan i) e = scan_told w c k hc a is i e (event_at (group_of w (child_here w c k)).events i)
  stage_told stages.Store e = store_told w c k hc a is e
  stage_told (stages.First i) e = first_told w c k hc a is i e (event_at (group_of w (here w c k)).events i)
  stage_told stages.FreeGroup e = free_group_told w c k hc a is e k.level (here w c k) _ refl refl
  stage_told stages.FreeChild e = free_child_told w c k hc a is e (child_here w c k) _ refl refl
  stage_told stages.Finish e = finish_told w c k hc a is e (finished (cpu_of w c) k k.kind)
  stage_told stages.Handing e = a.events.told

  by_stage : (st : Stage) → k.stage ≡ st → MayGoOn w c k st → EventsFit w.tree (scene_of (walked w c k st))
  by_stage st e may = record {
    told = stage_told st e;
    best = stage_best w c k hc a is st e;
    sights = stage_sights w c k hc a is st e may;
  }

  handed : k.stage ≡ stages.Handing → EventsFit w.tree (scene_of (own w c (with_walk (cpu_of w c) None)))
  handed e = record {
    told = handed_told w c k hc a is e (with_walk (cpu_of w c) None);
    best = calm_best w 0 (group_of w 0) c (with_walk (cpu_of w c) None) false hc a.events.best refl refl;
    sights = handed_sights w c k hc a is e;
  }

-- a free CPU's walk begins
begins_fit : (w : World) (c : ℕ) (y : CpuRecord) → c < length w.cpus → EventsFit w.tree (scene_of w) → (cpu_of w c).walk ≡ None → (q : Bool) (kind : WalkKind) (stage : Stage) (pin next : ℕ)
    → y.walk ≡ begun_where q kind stage pin next → read_of stage ≡ None → is_past_sight stage ≡ false → EventsFit w.tree (scene_of (own w c y))
begins_fit w c y hc f free q kind stage pin next begun unread unseen = record {
  told = free_told w c y f.told free;
  best = calm_best w 0 (group_of w 0) c y false hc f.best refl (ap (λ m. read_by (option_map forget m)) begun ∙ unread_begun q kind stage pin next unread);
  sights = free_sights w c y hc f.sights free (ap (λ m. sees_by (option_map forget m)) begun ∙ unseen_begun q kind stage pin next unseen);
}

quiet : (w : World) (step : Step) → EventsFit w.tree (scene_of w) → Enabled w step → is_quiet step ≡ true → EventsFit w.tree (scene_of (stepped w step))
quiet w step f e q = subst (EventsFit w.tree) (sym (quiet_steps w step e q)) f

pub events_stay_fit : EventsStayFit
events_stay_fit w (steps.Idle cpu) h sized walks edges marks locks f e = begins_fit w cpu.0 _ e.is_free.in_range f e.is_free.free _ kinds.Deactivate stages.Read _ _ refl refl refl
events_stay_fit w (steps.Offline cpu) h sized walks edges marks locks f e = begins_fit w cpu.0 _ e.is_free.in_range f e.is_free.free _ kinds.Offline stages.Read _ _ refl refl refl
events_stay_fit w (steps.Wake cpu) h sized walks edges marks locks f e = begins_fit w cpu.0 _ e.is_free.in_range f e.is_free.free _ kinds.Activate stages.Own _ _ refl refl refl
events_stay_fit w (steps.Online cpu) h sized walks edges marks locks f e = begins_fit w cpu.0 _ e.is_free.in_range f e.is_free.free _ kinds.Activate stages.Own _ _ refl refl refl
events_stay_fit w (steps.Reeval cpu) h sized walks edges marks locks f e = begins_fit w cpu.0 _ e.is_free.in_range f e.is_free.free _ kinds.Reeval stages.LockGroup _ _ refl refl refl
events_stay_fit w (steps.Carry cpu) h sized walks edges marks locks f e = begins_fit w cpu.0 _ e.is_free.in_range f e.is_free.free _ (kinds.Remote _) stages.LockGroup _ _ refl refl refl
events_stay_fit w (steps.HandOn cpu to) h sized walks edges marks locks f e =
    handed w cpu.0 e.made e.in_range (record { hierarchy = h; sized = sized; walks = walks; edges = edges; marks = marks; locks = locks; events = f }) e.walk e.handing
events_stay_fit w (steps.Walk cpu) h sized walks edges marks locks f e =
    subst (λ m. EventsFit w.tree (scene_of (walk_made w cpu.0 m))) (sym e.walk)
    (by_stage w cpu.0 e.made e.in_range (record { hierarchy = h; sized = sized; walks = walks; edges = edges; marks = marks; locks = locks; events = f }) e.walk e.made.stage refl e.may_go_on)
events_stay_fit w (steps.Clock now) h sized walks edges marks locks f e = quiet w (steps.Clock now) f e refl
events_stay_fit w (steps.Enter cpu) h sized walks edges marks locks f e = quiet w (steps.Enter cpu) f e refl
events_stay_fit w (steps.Leave cpu) h sized walks edges marks locks f e = quiet w (steps.Leave cpu) f e refl
events_stay_fit w (steps.Arm cpu timer class expires job arg line) h sized walks edges marks locks f e = quiet w (steps.Arm cpu timer class expires job arg line) f e refl
events_stay_fit w (steps.Cancel cpu timer by line) h sized walks edges marks locks f e = quiet w (steps.Cancel cpu timer by line) f e refl
events_stay_fit w (steps.Hand cpu timer runner) h sized walks edges marks locks f e = quiet w (steps.Hand cpu timer runner) f e refl
events_stay_fit w (steps.Ticked cpu class runner) h sized walks edges marks locks f e = quiet w (steps.Ticked cpu class runner) f e refl
events_stay_fit w (steps.Move from to timer) h sized walks edges marks locks f e = quiet w (steps.Move from to timer) f e refl
events_stay_fit w (steps.Take cpu by) h sized walks edges marks locks f e = quiet w (steps.Take cpu by) f e refl
events_stay_fit w (steps.Release cpu) h sized walks edges marks locks f e = quiet w (steps.Release cpu) f e refl
