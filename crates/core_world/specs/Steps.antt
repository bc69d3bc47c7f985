-- the steps of the core: where each is enabled, and what it makes of the world
use Rattle.std.specs.Prelude.{ℕ, zero, suc, ◌-◌, ◌==◌, Bool, true, false, Option, Some, None}
use Rattle.std.specs.Prelude.{is_none, is_some, min, if◌then◌else◌, slice_set, unwrap_or}
use Rattle.tm_base.specs.declared.names.TheConstants.{NEVER}
use Rattle.tm_base.specs.declared.names.CpuId.{CpuId}
use Rattle.tm_base.specs.declared.names.Class.{Class}
use Rattle.tm_base.specs.declared.names.Class.TheVariants.{Pinned, Global, Deferrable}
use Rattle.walk_rules.specs.event_queue.EventMap.{event_at}
use Rattle.cpu_bases.specs.wheel_core.declared.item.Item.{Item}
use Rattle.cpu_bases.specs.CpuBases.{CpuBases, armed, base_of, cancelled, class_in, events_of}
use Rattle.cpu_bases.specs.CpuBases.{found_or, handed_out, moved_in, moved_out, oldest_in}
use Rattle.walk_rules.specs.tree_plan.Paths.{group_at_of}
use Rattle.walk_rules.specs.declared.walk.Walk.{Walk}
use Rattle.walk_rules.specs.declared.walk.WalkKind.{WalkKind}
use Rattle.walk_rules.specs.declared.walk.WalkKind.TheVariants as kinds
use Rattle.walk_rules.specs.declared.walk.Stage.{Stage}
use Rattle.walk_rules.specs.declared.walk.Stage.TheVariants as stages
use Rattle.walk_rules.specs.Hierarchy.{group_on, side, at_top}
use Rattle.walk_rules.specs.Scene.{Group}
use Rattle.walk_rules.specs.Stages.{at_stage, begun_where, child_next, first_next, first_sight}
use Rattle.walk_rules.specs.Stages.{free_group_next, freed_next, joined_by, left_by, mark_next}
use Rattle.walk_rules.specs.Stages.{read_next, scan_next, see_child_next, see_group_next}
use Rattle.walk_rules.specs.Stages.{store_next, stored_event, swap_next, up_next, with_event}
use Rattle.walk_rules.specs.Stages.{with_lock, with_mark}
use Rattle.core_world.specs.declared.step.Step.{Step}
use Rattle.core_world.specs.declared.step.Step.TheVariants as steps
use Rattle.core_world.specs.World.{CpuRecord, World, cpu_of, group_of, moved, own}

-- a CPU with this walk, or none
abbrev pub with_walk : CpuRecord → Option Walk → CpuRecord
with_walk y k = record y { walk = k }

-- a CPU with these bases
abbrev pub with_bases : CpuRecord → CpuBases → CpuRecord
with_bases y bases = record y { bases = bases }

-- WALKS: the group of a walk's level on the path of its CPU
abbrev pub here : World → (c : ℕ) → Walk → ℕ
here w c k = group_on w.tree c k.level

-- the group one level below a walk's
abbrev pub child_here : World → (c : ℕ) → Walk → ℕ
child_here w c k = group_on w.tree c (k.level - 1)

-- whether the child is active; the CPU of a walk that looks is not
abbrev pub child_on : World → (c level : ℕ) → Bool
child_on w c zero = false
child_on w c (suc l) = is_some (group_of w (group_on w.tree c l)).migrator

-- a step of c's walk that changes its walk alone
abbrev pub walks_on : World → (c : ℕ) → Walk → World
walks_on w c k = own w c (with_walk (cpu_of w c) (Some k))

-- a step of c's walk that changes its walk and a group
abbrev pub walks_at : World → (c g : ℕ) → Group → Walk → World
walks_at w c g x k = moved w g x c (with_walk (cpu_of w c) (Some k)) false

-- Swap makes its exchange, or finds the word changed (atomic_try_cmpxchg in tmigr_inactive_up)
abbrev pub swapped : World → (c : ℕ) → Walk → (fresh : Bool) → World
swapped w c k true =
    moved w (here w c k) (left_by k.child_on (group_of w (here w c k)) (side w.tree c k.level)) c
    (with_walk (cpu_of w c) (Some (swap_next true k))) true
swapped w c k false = walks_on w c (swap_next false k)

-- what a walk leaves in its CPU's record as it ends: the wakeup (timer_use_tmigr); of one that went
-- offline, whether it has to hand on (tmigr_cpu_offline); of one whose timers another CPU ran, that
-- the mark is gone (tmigr_handle_remote_cpu)
abbrev pub finished : CpuRecord → Walk → WalkKind → CpuRecord
finished y k kinds.Activate = with_walk y None
finished y k kinds.Deactivate = record y { wakeup = min k.pin k.first; walk = None }
finished y k kinds.Offline =
    with_walk y (if k.first == NEVER then None else Some (at_stage k stages.Handing))
finished y k kinds.Reeval = record y { wakeup = min k.pin k.first; inside = false; walk = None }
finished y k (kinds.Remote by) = record y { mark = None; walk = None }

-- what `Walk` makes of the world, where c's walk stands at this stage: Own to Mark are
-- tmigr_cpu_activate and tmigr_active_up, Read to Swap tmigr_inactive_up, LockChild to FreeChild
-- tmigr_update_events, and the levels between them walk_groups
abbrev pub walked : World → (c : ℕ) → Walk → Stage → World
walked w c k stages.Own =
    walks_at w c (group_on w.tree c 0)
    (with_mark (group_of w (group_on w.tree c 0)) (side w.tree c 0)) (at_stage k stages.Up)
walked w c k stages.Up =
    moved w (here w c k) (joined_by (group_of w (here w c k)) (side w.tree c k.level)) c
    (with_walk (cpu_of w c)
    (up_next (at_top w.tree c k.level) (is_none (group_of w (here w c k)).migrator) k)) true
walked w c k (stages.Mark more) =
    moved w (group_on w.tree c (suc k.level))
    (with_mark (group_of w (group_on w.tree c (suc k.level))) (side w.tree c (suc k.level))) c
    (with_walk (cpu_of w c) (mark_next more k)) false
walked w c k stages.Read = walks_on w c (read_next k)
walked w c k stages.Child = walks_on w c (child_next (child_on w c k.level) k)
walked w c k stages.Swap = swapped w c k k.fresh
walked w c k stages.LockChild =
    walks_at w c (child_here w c k) (with_lock (group_of w (child_here w c k)) (Some c))
    (at_stage k stages.LockGroup)
walked w c k stages.LockGroup =
    walks_at w c (here w c k) (with_lock (group_of w (here w c k)) (Some c))
    (at_stage k (first_sight k.level))
walked w c k stages.SeeChild = walks_on w c (see_child_next (child_on w c k.level) k)
walked w c k stages.SeeGroup =
    walks_on w c
    (see_group_next (is_some (group_of w (here w c k)).migrator) (at_top w.tree c k.level) k)
walked w c k (stages.Scan j) =
    walks_on w c (scan_next (event_at (group_of w (child_here w c k)).events j) j k)
walked w c k stages.Store =
    walks_at w c (here w c k) (with_event (group_of w (here w c k)) (side w.tree c k.level)
    (stored_event k.level c k))
    (store_next (at_top w.tree c k.level) k)
walked w c k (stages.First j) =
    walks_on w c (first_next (event_at (group_of w (here w c k)).events j) j k)
walked w c k stages.FreeGroup =
    walks_at w c (here w c k) (with_lock (group_of w (here w c k)) None) (free_group_next k.level k)
walked w c k stages.FreeChild =
    walks_at w c (child_here w c k) (with_lock (group_of w (child_here w c k)) None)
    (freed_next k.over k)
walked w c k stages.Finish = own w c (finished (cpu_of w c) k k.kind)
walked w c k stages.Handing = w

-- what `Walk` makes of the world, where c has this walk or none
abbrev pub walk_made : World → (c : ℕ) → Option Walk → World
walk_made w c None = w
walk_made w c (Some k) = walked w c k k.stage

-- the walk that CPU c begins, which tells the time `next`
abbrev pub begins_with : World → (c : ℕ) → WalkKind → Stage → (next : ℕ) → Option Walk
begins_with w c kind stage next =
    begun_where (is_some (group_at_of w.tree c 0)) kind stage (events_of (cpu_of w c).bases).pin
    next

-- the walk that CPU c begins, which tells the CPU's first event (fetch_next_timer_interrupt)
abbrev pub begins : World → (c : ℕ) → WalkKind → Stage → Option Walk
begins w c kind stage = begins_with w c kind stage (events_of (cpu_of w c).bases).next

-- THE CPU that marked this one, as a number that a walk names
abbrev pub marker_of : CpuRecord → CpuId
marker_of y = record { 0 = unwrap_or y.mark 0 }

-- the bases after the next due item of this class goes out (expire_timers)
abbrev pub handed_of : (now : ℕ) → Option Class → CpuId → CpuBases → CpuBases
handed_of now None runner bases = bases
handed_of now (Some class) runner bases = handed_out now class runner bases

-- what is moved next from an offline CPU: pinned, then global, then deferrable, in arming order
-- (timers_dead_cpu, migrate_timer_list)
abbrev pub first_moved : CpuBases → Option (Class × Item)
first_moved bases =
    found_or Pinned (oldest_in (base_of Pinned bases).items)
    (found_or Global (oldest_in (base_of Global bases).items)
    (found_or Deferrable (oldest_in (base_of Deferrable bases).items) None))

-- MOVING (migrate_timer_list): the CPU that a timer of this class left
abbrev pub giver : World → (from to : ℕ) → Class → CpuRecord
giver w from to class =
    with_bases (cpu_of w from) (moved_out w.clock class (record { 0 = to }) (cpu_of w from).bases)

-- the CPU that the timer came to, armed there anew
abbrev pub taker : World → (to : ℕ) → Class → Item → CpuRecord
taker w to class item =
    with_bases (cpu_of w to)
    (moved_in w.clock class item.id item.expires item.job item.arg (record {
      0 =
          to;
    }) (cpu_of w to).bases)

-- the world after this timer moved from one CPU to another, or none did
abbrev pub moved_with : World → (from to : ℕ) → Option (Class × Item) → World
moved_with w from to None = w
moved_with w from to (Some (class, item)) =
    record w {
      cpus = slice_set (slice_set w.cpus from (giver w from to class)) to (taker w to
          class item);
    }

-- WHAT A STEP MAKES OF THE WORLD. Enter and Leave: a CPU's timer interrupt (run_timer_softirq).
-- Arm: __mod_timer. Cancel: timer_delete. Hand and Ticked: __run_timers. Move: migrate_timer_list.
-- Idle: timer_base_try_to_set_idle and tmigr_cpu_deactivate. Wake: timer_clear_idle and
-- tmigr_cpu_activate. Offline: tmigr_cpu_offline; HandOn: tmigr_trigger_active. Online:
-- tmigr_cpu_online. Reeval: tmigr_cpu_new_timer. Take, Carry and Release: tmigr_handle_remote_cpu.
-- Walk: one load, store, exchange or lock of walk_groups
abbrev pub stepped : World → Step → World
stepped w (steps.Clock now) = record w { clock = now }
stepped w (steps.Enter cpu) = own w cpu.0 (record (cpu_of w cpu.0) { inside = true })
stepped w (steps.Leave cpu) = own w cpu.0 (record (cpu_of w cpu.0) { inside = false })
stepped w (steps.Arm cpu timer class expires job arg line) =
    own w cpu.0 (with_bases (cpu_of w cpu.0)
    (armed w.clock class timer.0 expires job arg line cpu (cpu_of w cpu.0).bases))
stepped w (steps.Cancel cpu timer by line) =
    own w cpu.0 (with_bases (cpu_of w cpu.0)
    (cancelled w.clock timer.0 line by (cpu_of w cpu.0).bases))
stepped w (steps.Hand cpu timer runner) =
    own w cpu.0 (with_bases (cpu_of w cpu.0)
    (handed_of w.clock (class_in timer.0 (cpu_of w cpu.0).bases) runner (cpu_of w cpu.0).bases))
stepped w (steps.Ticked cpu class runner) =
    own w cpu.0 (with_bases (cpu_of w cpu.0)
    (handed_out w.clock class runner (cpu_of w cpu.0).bases))
stepped w (steps.Move from to timer) =
    moved_with w from.0 to.0 (first_moved (cpu_of w from.0).bases)
stepped w (steps.Idle cpu) =
    own w cpu.0
    (record (cpu_of w cpu.0) { idle = true; walk = begins w cpu.0 kinds.Deactivate stages.Read })
stepped w (steps.Wake cpu) =
    own w cpu.0
    (record (cpu_of w cpu.0) {
      idle = false;
      wakeup = NEVER;
      walk = begins w cpu.0 kinds.Activate stages.Own;
    })
stepped w (steps.Offline cpu) =
    own w cpu.0
    (record (cpu_of w cpu.0) {
      online = false;
      idle = true;
      walk = begins_with w cpu.0 kinds.Offline stages.Read NEVER;
    })
stepped w (steps.Online cpu) =
    own w cpu.0
    (record (cpu_of w cpu.0) {
      online = true;
      idle = false;
      walk = begins w cpu.0 kinds.Activate stages.Own;
    })
stepped w (steps.Reeval cpu) =
    own w cpu.0 (with_walk (cpu_of w cpu.0) (begins w cpu.0 kinds.Reeval stages.LockGroup))
stepped w (steps.Take cpu by) = own w cpu.0 (record (cpu_of w cpu.0) { mark = Some by.0 })
stepped w (steps.Carry cpu) =
    own w cpu.0
    (with_walk (cpu_of w cpu.0) (begins w cpu.0 (kinds.Remote (marker_of (cpu_of w cpu.0)))
    stages.LockGroup))
stepped w (steps.Release cpu) = own w cpu.0 (record (cpu_of w cpu.0) { mark = None })
stepped w (steps.Walk cpu) = walk_made w cpu.0 (cpu_of w cpu.0).walk
stepped w (steps.HandOn cpu to) = own w cpu.0 (with_walk (cpu_of w cpu.0) None)
