-- THE RULES OF STEPS: what a play asks of a core, each change a list of steps
use Rattle.std.specs.Prelude.{ℕ, ◌+◌, ◌-◌, ◌&&◌, not, Bool, false, List, [], ◌∷◌, ◌++◌, Option}
use Rattle.std.specs.Prelude.{Some, None, if◌then◌else◌, is_none, length, map, nat_le}
use Rattle.std.specs.Prelude.{option_and_then, option_map}
use Rattle.std.specs.FinSet.{FinSet}
use Rattle.std.specs.Ordering.{nat_cmp}
use Rattle.tm_base.specs.declared.names.Class.{Class}
use Rattle.tm_base.specs.declared.names.CpuId.{CpuId}
use Rattle.tm_base.specs.declared.names.TimerId.{TimerId}
use Rattle.wheel_core.specs.declared.item.Item.{Item}
use Rattle.wheel_core.specs.PlainBase.{least}
use Rattle.cpu_bases.specs.CpuBases.{base_of}
use Rattle.tree_plan.specs.Paths.{group_at_of, is_placed_in, level_count_of}
use Rattle.tm_report.specs.declared.lines.ShownCover.{ShownCover}
use Rattle.play_rules.specs.declared.asks.Answerer.{Answerer}
use Rattle.play_rules.specs.declared.asks.Arming.{Arming}
use Rattle.play_rules.specs.declared.asks.Cancelling.{Cancelling}
use Rattle.play_rules.specs.Rules.{Drained, Moved, Placed, Rules}
use Rattle.play_rules.specs.Hierarchy.{first_event, looks_after}
use Rattle.play_rules.specs.Timers.{armed_item, controller, count_on, due_items, first_to_move}
use Rattle.play_rules.specs.Timers.{moved_one, where_queued}
use Rattle.play_rules.specs.Play.{has_interrupt, next_interrupt, successor}
use Rattle.play_rules.specs.Covers.{answerer, by_migrator, by_wakeup, led_to, lowest_active_group}
use Rattle.play_rules.specs.Covers.{waker_by}
use Rattle.walk_rules.specs.Hierarchy.{side}
use Rattle.core_world.specs.declared.step.Step.{Step}
use Rattle.core_world.specs.declared.step.Step.TheVariants as steps
use Rattle.core_world.specs.Steps.{stepped}
use Rattle.core_world.specs.World.{World, cpu_of, group_of}
use Rattle.step_play.specs.Rules.Alone.{goes_on, walked_out}
use Rattle.step_play.specs.Rules.Live.{expiry_of, first_due_in, live, told_by}
use Rattle.step_play.specs.Rules.Seen.{state_of}
use Rattle.core_world.specs.Lists.{after_all}

-- a number as the id of a CPU
abbrev cpu_id : ℕ → CpuId
cpu_id c = record { 0 = c }

-- a number as the id of a timer
abbrev timer_id : ℕ → TimerId
timer_id t = record { 0 = t }

-- TIMERS: a drain is a `Hand` for each item that is due, and `Ticked`
abbrev pub hands : (home : ℕ) → Class → (runner : ℕ) → List Item → List Step
hands home class runner items =
    map (λ item. steps.Hand (cpu_id home) (timer_id item.id) (cpu_id runner)) items
    ++ steps.Ticked (cpu_id home) class (cpu_id runner) ∷ []

-- all that is due of a base of CPU `home`, in order of hand-out
abbrev pub items_due : World → (home : ℕ) → Class → List Item
items_due w home class =
    due_items (length (base_of class (cpu_of w home).bases).items) w.clock
    (base_of class (cpu_of w home).bases)

-- A DRAIN by steps: a Hand for each due item, and then Ticked
abbrev pub drained_by_steps : World → (home : ℕ) → Class → (runner : ℕ) → Drained World
drained_by_steps w home class runner = record {
  items = items_due w home class;
  state = after_all w (hands home class runner (items_due w home class));
}

-- ARMING by a step
abbrev pub armed_by_steps : World → (c : ℕ) → Arming → Placed World
armed_by_steps w c a = record {
  wheel = (armed_item (state_of w) c a).wheel;
  state =
      stepped w
      (steps.Arm (cpu_id c) a.timer a.class (w.clock + a.delay) a.job a.arg a.line);
}

-- CANCELLING by a step
abbrev pub cancelled_by_steps : World → (home : ℕ) → Cancelling → World
cancelled_by_steps w home a = stepped w (steps.Cancel (cpu_id home) a.timer a.by a.line)

-- INTERRUPTS: the CPU of the first due event of a group, besides those tried
abbrev pub named_at : World → FinSet nat_cmp → (g : ℕ) → Option ℕ
named_at w tried g =
    option_map (λ e. e.cpu.0) (first_due_in w.clock tried (group_of w g).events)

-- whom a look of CPU c at a level names, by the group's queue, besides those that were tried
-- (tmigr_handle_remote_up)
abbrev pub named_by_queue : World → (c level : ℕ) → FinSet nat_cmp → Option ℕ
named_by_queue w c level tried = option_and_then (named_at w tried) (group_at_of w.tree c level)

-- a CPU that is offline, active, marked or busy with a walk of its own, or that has no due event in
-- its leaf, is left alone
abbrev pub can_be_taken : World → (d : ℕ) → Bool
can_be_taken w d =
    (cpu_of w d).online && ((cpu_of w d).idle && (is_none (cpu_of w d).walk
    && (is_none (cpu_of w d).mark && nat_le (told_by w d) w.clock)))

-- an idle CPU is let go by the walk that tells its first event again, and one that woke at once
abbrev pub let_go_by_steps : World → (d : ℕ) → World
let_go_by_steps w d =
    if (cpu_of w d).online && (cpu_of w d).idle
    then walked_out d (stepped w (steps.Carry (cpu_id d)))
    else stepped w (steps.Release (cpu_id d))

-- THE END of an interrupt: an idle CPU re-evaluates by a walk, an active one leaves
abbrev pub ended_by_steps : World → (c : ℕ) → World
ended_by_steps w c =
    if (cpu_of w c).idle
    then walked_out c (stepped w (steps.Reeval (cpu_id c)))
    else stepped w (steps.Leave (cpu_id c))

-- IDLE, WAKE AND HOTPLUG: a step and the walk that it begins
abbrev pub idled_by_steps : World → (c : ℕ) → World
idled_by_steps w c = walked_out c (stepped w (steps.Idle (cpu_id c)))

-- WAKE by steps: Wake, and its walk made to its end
abbrev pub woken_by_steps : World → (c : ℕ) → World
woken_by_steps w c = walked_out c (stepped w (steps.Wake (cpu_id c)))

-- OFFLINE by steps: Offline, and its walk made to its end, or until it waits to hand on
abbrev pub gone_by_steps : World → (c : ℕ) → World
gone_by_steps w c = walked_out c (stepped w (steps.Offline (cpu_id c)))

-- ONLINE by steps: Online, and its walk made to its end
abbrev pub come_by_steps : World → (c : ℕ) → World
come_by_steps w c = walked_out c (stepped w (steps.Online (cpu_id c)))

-- a CPU that is active stays as it is
abbrev pub made_active : World → (d : ℕ) → World
made_active w d = if (cpu_of w d).idle then woken_by_steps w d else w

-- a walk that waits to hand on hands on to a CPU that is made active for it
abbrev pub is_waiting : World → (c : ℕ) → Bool
is_waiting w c = if is_none (cpu_of w c).walk then false else not (goes_on (cpu_of w c).walk)

-- CPU d is made active, and CPU c hands its duty on to it
abbrev pub handed_on_by_steps : World → (c d : ℕ) → World
handed_on_by_steps w c d = stepped (made_active w d) (steps.HandOn (cpu_id c) (cpu_id d))

-- MOVING: the first timer of a CPU
abbrev pub moved_by_steps : World → (from to : ℕ) → Class × Item → Moved World
moved_by_steps w from to found = record {
  mover = (moved_one (state_of w) from to found).mover;
  state = stepped w (steps.Move (cpu_id from) (cpu_id to) (timer_id found.1.id));
}

-- COVER: the CPU itself where its wakeup isn't past W; else the CPU to which the migrators lead
-- from the lowest active group of its path; where none is active, the lowest online idle placed
-- CPU that wakes by the top's event towards the CPU
abbrev pub event_at_top : World → (c : ℕ) → Option ℕ → ℕ
event_at_top w c None = expiry_of None
event_at_top w c (Some top) = expiry_of (live w top (side w.tree c (level_count_of w.tree - 1)))

-- the expiry of the top's event towards CPU c, as the slot shows it
abbrev pub time_at_top : World → (c : ℕ) → ℕ
time_at_top w c = event_at_top w c (group_at_of w.tree c (level_count_of w.tree - 1))

-- who covers CPU c by others: the CPU to which the migrators lead from the lowest active group of
-- its path; where there is none, the lowest CPU that wakes by the time at the top
abbrev pub cover_above : World → (c : ℕ) → Option ℕ → Option ShownCover
cover_above w c None =
    option_map (by_wakeup (state_of w)) (waker_by (state_of w) (time_at_top w c))
cover_above w c (Some g) = option_map (by_migrator (state_of w) g) (led_to (state_of w) g)

-- who covers CPU c for a wheel expiry: itself where its wakeup is in time, else others
abbrev pub cover_for : World → (c wheel : ℕ) → Option ShownCover
cover_for w c wheel =
    if nat_le (cpu_of w c).wakeup wheel then Some (by_wakeup (state_of w) c)
    else cover_above w c (lowest_active_group (state_of w) c)

-- who covers CPU c for the wheel expiry of its first global timer, where it has one
abbrev pub cover_where : World → (c : ℕ) → Option ℕ → Option Answerer
cover_where w c None = None
cover_where w c (Some wheel) = option_map (answerer wheel) (cover_for w c wheel)

-- who covers CPU c, which is online and idle and has a global timer, by the queues of its core
abbrev pub cover_by_queue : World → (c : ℕ) → Option Answerer
cover_by_queue w c =
    if (cpu_of w c).online && (cpu_of w c).idle
    then cover_where w c (least (cpu_of w c).bases.bases.global.items)
    else None

-- THE RULES
abbrev pub step_rules : Rules World
step_rules = record {
  clock = λ w. w.clock;
  timers = λ w. w.timers;
  cpus = λ w. length w.cpus;
  levels = λ w. level_count_of w.tree;
  is_online = λ w c. (cpu_of w c).online;
  is_idle = λ w c. (cpu_of w c).idle;
  is_placed = λ w c. is_placed_in w.tree c;
  wakeup = λ w c. (cpu_of w c).wakeup;
  queued = λ w timer. where_queued (state_of w) timer;
  at_clock = λ now w. stepped w (steps.Clock now);
  has_interrupt = λ w c. has_interrupt (state_of w) c;
  next_interrupt = λ w. next_interrupt (state_of w);
  drained = drained_by_steps;
  armed = armed_by_steps;
  cancelled = cancelled_by_steps;
  entered = λ w c. stepped w (steps.Enter (cpu_id c));
  looks_after = λ w c level. looks_after (state_of w) c level;
  named = named_by_queue;
  takes = λ w c d. can_be_taken w d;
  taken = λ w c d. stepped w (steps.Take (cpu_id d) (cpu_id c));
  let_go = λ w c d. let_go_by_steps w d;
  ended = ended_by_steps;
  first_event = λ w c. first_event (state_of w) c;
  idled = idled_by_steps;
  woken = woken_by_steps;
  successor = λ w c. successor (state_of w) c;
  gone_offline = gone_by_steps;
  hands_on = is_waiting;
  handed_on = handed_on_by_steps;
  come_online = come_by_steps;
  count_queued = λ w c. count_on (state_of w) c;
  controller = λ w. controller (state_of w);
  controlling = made_active;
  moved = λ w from to.
      option_map (moved_by_steps w from to) (first_to_move (cpu_of w from).bases);
  cover = cover_by_queue;
}
