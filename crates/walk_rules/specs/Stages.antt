-- what each stage of a walk makes of the walk, of its group and of the event that it writes
use Rattle.std.specs.Prelude.{ℕ, zero, suc, ◌+◌, ◌==◌, ◌&&◌, ◌||◌, not, nat_lt, Bool, true, false}
use Rattle.std.specs.Prelude.{Option, Some, None, if◌then◌else◌, slice_set}
use Rattle.std.specs.Option.{option_or}
use Rattle.tm_base.specs.declared.names.TheConstants.{NEVER}
use Rattle.event_queue.specs.declared.event.Event.{Event}
use Rattle.event_queue.specs.EventMap.{marked_slot}
use Rattle.group_word.specs.State.{with_child, without_child, migrator_without}
use Rattle.walk_rules.specs.declared.walk.Walk.{Walk}
use Rattle.walk_rules.specs.declared.walk.WalkKind.{WalkKind}
use Rattle.walk_rules.specs.declared.walk.WalkKind.TheVariants as kinds
use Rattle.walk_rules.specs.declared.walk.Stage.{Stage}
use Rattle.walk_rules.specs.declared.walk.Stage.TheVariants as stages
use Rattle.walk_rules.specs.Scene.{Group}

-- A WALK (struct tmigr_walk): it starts at level 0, with what its CPU has to be woken for
abbrev pub started : WalkKind → Stage → (pin next first : ℕ) → Walk
started kind stage pin next first = record {
  kind = kind;
  level = 0;
  stage = stage;
  pin = pin;
  next = next;
  first = first;
  best = None;
  fresh = false;
  child_on = false;
  on = false;
  over = false;
}

-- a walk begins; without a group an activation ends at once, and the others have the wakeup alone
-- to set
abbrev pub begun_where : (has_group : Bool) → WalkKind → Stage → (pin next : ℕ) → Option Walk
begun_where true kind stage pin next = Some (started kind stage pin next NEVER)
begun_where false kinds.Activate stage pin next = None
begun_where false kinds.Deactivate stage pin next =
    Some (started kinds.Deactivate stages.Finish pin next next)
begun_where false kinds.Offline stage pin next =
    Some (started kinds.Offline stages.Finish pin next next)
begun_where false kinds.Reeval stage pin next =
    Some (started kinds.Reeval stages.Finish pin next next)
begun_where false (kinds.Remote by) stage pin next =
    Some (started (kinds.Remote by) stages.Finish pin next next)

-- the walk without its `fresh`, which its own reading sets and another CPU's exchange of its group
-- takes away
abbrev pub forget : Walk → Walk
forget k = record k { fresh = false }

-- the walk at another stage of its level
abbrev pub at_stage : Walk → Stage → Walk
at_stage k stage = record k { stage = stage }

-- the walk one level higher, where it knows nothing yet (__walk_groups)
abbrev pub higher : Walk → Stage → Walk
higher k stage = record k {
  level = suc k.level;
  stage = stage;
  best = None;
  fresh = false;
  child_on = false;
  on = false;
  over = false;
}

-- ACTIVATION (tmigr_active_up): after Up it ends at the top; else it goes on to mark the event of
-- its group in the parent
abbrev pub up_next : (top more : Bool) → Walk → Option Walk
up_next true more k = None
up_next false more k = Some (at_stage k (stages.Mark more))

-- after Mark it goes on where the group had no migrator before, and ends where it had one
-- (tmigr_active_up)
abbrev pub mark_next : (more : Bool) → Walk → Option Walk
mark_next true k = Some (higher k stages.Up)
mark_next false k = None

-- the child joins the active set, and is migrator where there was none (tmigr_active_up)
abbrev pub joined_by : Group → ℕ → Group
joined_by x k = record x {
  active = with_child x.active k;
  migrator =
      option_or x.migrator (Some k);
}

-- the event of a child is marked ignored, if there is one (tmigr_active_up sets the event's
-- `ignore`)
abbrev pub with_mark : Group → ℕ → Group
with_mark x k = record x { events = slice_set x.events k (marked_slot x.events k) }

-- DEACTIVATION (tmigr_inactive_up): the group's word is read, then the child's, and then the
-- exchange is made or fails
abbrev pub read_next : Walk → Walk
read_next k = record k { fresh = true; stage = stages.Child }

-- the child's word was read: whether the child was found active (tmigr_inactive_up)
abbrev pub child_next : (child_on : Bool) → Walk → Walk
child_next child_on k = record k { child_on = child_on; stage = stages.Swap }

-- the first lock that is taken at a level
abbrev pub first_lock : ℕ → Stage
first_lock zero = stages.LockGroup
first_lock (suc l) = stages.LockChild

-- an exchange that held leads to the event update; one that failed has read the group anew
-- (atomic_try_cmpxchg in tmigr_inactive_up)
abbrev pub swap_next : (fresh : Bool) → Walk → Walk
swap_next true k = at_stage k (first_lock k.level)
swap_next false k = read_next k

-- the child leaves the active set unless it was found active; where it was migrator, the lowest
-- that remains is (tmigr_inactive_up)
abbrev pub left_by : (child_on : Bool) → Group → ℕ → Group
left_by true x k = x
left_by false x k = record x {
  active = without_child x.active k;
  migrator = migrator_without x.migrator k (without_child x.active k);
}

-- EVENT UPDATE (tmigr_update_events), under both locks: the group with its lock taken or given back
abbrev pub with_lock : Group → Option ℕ → Group
with_lock x lock = record x { lock = lock }

-- the first word that is read under the locks at a level (tmigr_update_events)
abbrev pub first_sight : ℕ → Stage
first_sight zero = stages.SeeGroup
first_sight (suc l) = stages.SeeChild

-- a child that is active under its lock ends the walk, and nothing is stored (tmigr_update_events)
abbrev pub see_child_next : (child_on : Bool) → Walk → Walk
see_child_next true k = record k { over = true; stage = stages.FreeGroup }
see_child_next false k = at_stage k stages.SeeGroup

-- what comes after the group's word at a level: the child's first event is sought, or at a leaf the
-- CPU's is stored
abbrev pub after_sight : ℕ → Stage
after_sight zero = stages.Store
after_sight (suc l) = stages.Scan 0

-- a group that has a migrator, and the top, are where the walk ends (what tmigr_update_events and
-- tmigr_new_timer_up return)
abbrev pub see_group_next : (on top : Bool) → Walk → Walk
see_group_next on top k = record k { on = on; over = on || top; stage = after_sight k.level }

-- the sooner of the first event so far and one more, which counts where it is there and isn't
-- ignored (tmigr_next_groupevt)
abbrev pub sooner_event : Option Event → Option Event → Option Event
sooner_event best None = best
sooner_event None (Some e) = if e.ignored then None else Some e
sooner_event (Some b) (Some e) = if e.ignored then Some b else (if nat_lt e.expiry b.expiry then
    Some e else Some b)

-- a slot of the child was read: the first event so far, and then the next slot or the store
-- (tmigr_next_groupevt)
abbrev pub scan_next : Option Event → (number : ℕ) → Walk → Walk
scan_next e number k = record k {
  best = sooner_event k.best e;
  stage = if number == 7 then stages.Store else (stages.Scan (number + 1));
}

-- what Store writes at a leaf: the CPU's event, none where it has nothing to tell
abbrev pub leaf_event : (cpu next : ℕ) → Option Event
leaf_event cpu next =
    if next == NEVER then None else Some (record {
      expiry = next;
      cpu = record {
        0 =
            cpu;
      };
      ignored = false;
    })

-- what Store writes above: the first event of the child
abbrev pub best_event : Option Event → Option Event
best_event None = None
best_event (Some e) = Some (record e { ignored = false })

-- what Store writes at a level (tmigr_update_events)
abbrev pub stored_event : (level cpu : ℕ) → Walk → Option Event
stored_event zero cpu k = leaf_event cpu k.next
stored_event (suc l) cpu k = best_event k.best

-- the group with this event in a child's slot, or none (timerqueue_add and timerqueue_del in
-- tmigr_update_events)
abbrev pub with_event : Group → ℕ → Option Event → Group
with_event x k e = record x { events = slice_set x.events k e }

-- whether another CPU runs the timers of the walk's CPU (the kernel's tmigr_walk: remote)
abbrev pub is_remote : WalkKind → Bool
is_remote (kinds.Remote by) = true
is_remote kinds.Activate = false
is_remote kinds.Deactivate = false
is_remote kinds.Offline = false
is_remote kinds.Reeval = false

-- at a top without migrator the walk looks for what has to be woken for, unless another CPU makes
-- it (tmigr_update_events)
abbrev pub store_next : (top : Bool) → Walk → Walk
store_next top k =
    at_stage k
    (if top && (not k.on && not (is_remote k.kind)) then stages.First 0 else stages.FreeGroup)

-- the sooner of a time and the expiry of an event that isn't ignored
abbrev pub first_of : (first : ℕ) → Option Event → ℕ
first_of first None = first
first_of first (Some e) = if e.ignored then first else (if nat_lt e.expiry first then e.expiry
    else first)

-- a slot of the top was read: the first expiry so far, and then the next slot or the end
-- (tmigr_next_groupevt_expires)
abbrev pub first_next : Option Event → (number : ℕ) → Walk → Walk
first_next e number k = record k {
  first = first_of k.first e;
  stage = if number == 7 then stages.FreeGroup else (stages.First (number + 1));
}

-- where a level begins: a walk that goes away reads first, one that only tells an event takes the
-- locks
abbrev pub first_stage : WalkKind → Stage
first_stage kinds.Activate = stages.Up
first_stage kinds.Deactivate = stages.Read
first_stage kinds.Offline = stages.Read
first_stage kinds.Reeval = stages.LockChild
first_stage (kinds.Remote by) = stages.LockChild

-- after the last lock of a level was given back: the end, or the next level (walk_groups)
abbrev pub freed_next : (over : Bool) → Walk → Walk
freed_next true k = at_stage k stages.Finish
freed_next false k = higher k (first_stage k.kind)

-- after the group's lock was given back: the child's is, or at a leaf it was the last one
abbrev pub free_group_next : (level : ℕ) → Walk → Walk
free_group_next zero k = freed_next k.over k
free_group_next (suc l) k = at_stage k stages.FreeChild
