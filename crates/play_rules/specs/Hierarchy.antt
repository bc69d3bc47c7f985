-- how CPUs go idle and wake in the tree of groups, what they wake for, and whom they look after
use Rattle.std.specs.Prelude.{ℕ, ◌&&◌, List, Bool, true, false, not, Option, Some, None}
use Rattle.std.specs.Prelude.{if◌then◌else◌, filter, find, map, min, nat_le, option_and_then}
use Rattle.std.specs.Prelude.{option_map, position, ◌==◌}
use Rattle.std.specs.List.{fold, list_any, range_with_len}
use Rattle.tm_base.specs.declared.names.TheConstants.{NEVER}
use Rattle.tm_base.specs.declared.names.Child.{Child}
use Rattle.tree_plan.specs.Shape.{Shape}
use Rattle.tree_plan.specs.Paths.{bit_of, child_towards, children_of, group_at_of, group_count_of}
use Rattle.tree_plan.specs.Paths.{is_below, is_placed_in, is_under, level_of}
use Rattle.cpu_bases.specs.CpuBases.{events_of}
use Rattle.play_rules.specs.State.{State, all_cpus, cpu_at, has_group, is_active, migrator_at}
use Rattle.play_rules.specs.State.{with_cpu}

-- the number is there and is this one
abbrev pub is_number : Option ℕ → ℕ → Bool
is_number None n = false
is_number (Some m) n = m == n

-- the child of group g through which the path of CPU c comes into it, and its number there
abbrev pub towards : Shape → (c g : ℕ) → Option Child
towards t c g = if is_below t c g then child_towards t c (level_of t g) else None

-- the number of the child of group g through which the path of CPU c comes into it, where c is
-- below it (the kernel's bit: childmask)
abbrev pub number_towards : Shape → (c g : ℕ) → Option ℕ
number_towards t c g = option_map (bit_of t) (towards t c g)

-- ACTIVE: a child, or a group, is active where an active CPU is below it
abbrev pub child_active : State → Child → Bool
child_active s m = list_any (λ d. is_active s d && is_under s.tree d m) (all_cpus s)

-- whether an active CPU is below a group
abbrev pub group_active : State → (g : ℕ) → Bool
group_active s g = list_any (λ d. is_active s d && is_below s.tree d g) (all_cpus s)

-- whether there is such a child, and no active CPU is below it
abbrev pub inactive_child : State → Option Child → Bool
inactive_child s None = false
inactive_child s (Some m) = not (child_active s m)

-- the migrators of all groups, each made by a rule of its own
abbrev pub with_migrators : State → (ℕ → Option ℕ) → State
with_migrators s rule = record s { migrators = map rule (range_with_len 0 (group_count_of s.tree)) }

-- WAKE: each inactive group of the path takes the child towards the CPU as its migrator
-- (tmigr_active_up)
abbrev pub woken_migrator : State → (c g : ℕ) → Option ℕ
woken_migrator s c g =
    if is_below s.tree c g && not (group_active s g) then number_towards s.tree c g
    else migrator_at s g

-- the CPU is active: it keeps no wakeup, and has told nothing (tmigr_cpu_activate, called by
-- timer_clear_idle)
abbrev pub woken : State → (c : ℕ) → State
woken s c =
    with_cpu (with_migrators s (woken_migrator s c)) c
    (record (cpu_at s c) { idle = false; wakeup = NEVER; told = NEVER })

-- whether a group of the path gives its migrator up: that is the child towards the CPU, which is
-- now inactive (tmigr_inactive_up)
abbrev pub gives_up : State → (c g : ℕ) → Option ℕ → Bool
gives_up s c g None = false
gives_up s c g (Some k) =
    is_number (number_towards s.tree c g) k && inactive_child s (towards s.tree c g)

-- the lowest active child of a group
abbrev pub lowest_active_child : State → (g : ℕ) → Option ℕ
lowest_active_child s g = position (child_active s) (children_of s.tree g)

-- REST: a group that gives its migrator up takes its lowest active child, or none
-- (tmigr_inactive_up)
abbrev pub rested_migrator : State → (c g : ℕ) → Option ℕ
rested_migrator s c g =
    if gives_up s c g (migrator_at s g) then lowest_active_child s g
    else migrator_at s g

-- the CPU is idle, and where it has a group it told its leaf the time n (tmigr_update_events, at
-- the leaf)
abbrev pub resting : State → (c n : ℕ) → State
resting s c n =
    with_cpu s c (record (cpu_at s c) { idle = true; told = if has_group s c then n else NEVER })

-- the CPU is idle, it told its leaf the time n, and the groups of its path have their migrators
-- (tmigr_cpu_deactivate)
abbrev pub rested : State → (c n : ℕ) → State
rested s c n = with_migrators (resting s c n) (rested_migrator (resting s c n) c)

-- FIRST EVENTS of a CPU (fetch_next_timer_interrupt): its least pinned wheel expiry
abbrev pub pin_of : State → (c : ℕ) → ℕ
pin_of s c = (events_of (cpu_at s c).bases).pin

-- what the CPU tells: its first global wheel expiry, where that comes before the pinned one
abbrev pub next_of : State → (c : ℕ) → ℕ
next_of s c = (events_of (cpu_at s c).bases).next

-- the first of its pinned and global wheel expiries
abbrev pub first_event : State → (c : ℕ) → ℕ
first_event s c = min (pin_of s c) (events_of (cpu_at s c).bases).first_global

-- the least that some CPUs told
abbrev pub least_told : State → List ℕ → ℕ
least_told s cpus = fold (λ least c. min least (cpu_at s c).told) NEVER cpus

-- whether a CPU is placed: in the tree, where it has one
abbrev pub is_placed : State → (c : ℕ) → Bool
is_placed s c = is_placed_in s.tree c

-- whether a placed CPU is active
abbrev pub some_placed_active : State → Bool
some_placed_active s = list_any (λ c. is_placed s c && is_active s c) (all_cpus s)

-- DUTY: what all CPUs with a group have to wake for in common: the least that was told, as long as
-- no placed CPU is active to answer for it (tmigr_next_groupevt_expires at the top)
abbrev pub common_duty : State → ℕ
common_duty s = if some_placed_active s then NEVER else least_told s (all_cpus s)

-- what an idle CPU has to wake for beside its pinned timers: the duty in common where it has a
-- group, else its own first event (what tmigr_cpu_deactivate and tmigr_cpu_new_timer return)
abbrev pub duty : State → (c : ℕ) → ℕ
duty s c = if has_group s c then common_duty s else next_of s c

-- the programmed wakeup is the least of pinned events and duty (timer_use_tmigr)
abbrev pub programmed : State → (c : ℕ) → State
programmed s c = with_cpu s c (record (cpu_at s c) { wakeup = min (pin_of s c) (duty s c) })

-- IDLE: rest, and then the wakeup (timer_base_try_to_set_idle)
abbrev pub idled : State → (c : ℕ) → State
idled s c = programmed (rested s c (next_of s c)) c

-- a CPU with a group tells its leaf its first event again (tmigr_new_timer, tmigr_update_events)
abbrev pub told_again : State → (c : ℕ) → State
told_again s c =
    with_cpu s c (record (cpu_at s c) { told = if has_group s c then next_of s c else NEVER })

-- RE-EVALUATION of an idle CPU: what it tells, and then its wakeup (tmigr_cpu_new_timer)
abbrev pub reevaluated : State → (c : ℕ) → State
reevaluated s c = programmed (told_again s c) c

-- OFFLINE: the CPU rests with nothing to tell (tmigr_cpu_offline)
abbrev pub gone_offline : State → (c : ℕ) → State
gone_offline s c =
    rested (with_cpu s c (record (cpu_at s c) { online = false; wakeup = NEVER })) c NEVER

-- ONLINE: the CPU comes up active (tmigr_cpu_online)
abbrev pub come_online : State → (c : ℕ) → State
come_online s c = woken (with_cpu s c (record (cpu_at s c) { online = true })) c

-- THE LOOK: a CPU looks after its group at a level where the group has no migrator or the child
-- towards it is the migrator (tmigr_check_migrator)
abbrev pub looks_at : Shape → (c g : ℕ) → Option ℕ → Bool
looks_at t c g None = true
looks_at t c g (Some k) = is_number (number_towards t c g) k

-- whether a CPU looks after this group of its path, where there is one
abbrev pub looks_after_where : State → (c : ℕ) → Option ℕ → Bool
looks_after_where s c None = false
looks_after_where s c (Some g) = looks_at s.tree c g (migrator_at s g)

-- whether a CPU looks after its group at a level (tmigr_handle_remote)
abbrev pub looks_after : State → (c level : ℕ) → Bool
looks_after s c level = looks_after_where s c (group_at_of s.tree c level)

-- whether CPU d, below an inactive child of group g, told a time that has come
abbrev pub is_due_sleeper : State → (g d : ℕ) → Bool
is_due_sleeper s g d = nat_le (cpu_at s d).told s.clock && inactive_child s (towards s.tree d g)

-- the CPUs below the inactive children of a group that told a time that has come
abbrev pub due_sleepers : State → (g : ℕ) → List ℕ
due_sleepers s g = filter (is_due_sleeper s g) (all_cpus s)

-- of some CPUs the leftmost of those that told the least
abbrev pub first_to_tell : State → List ℕ → Option ℕ
first_to_tell s cpus = find (λ d. (cpu_at s d).told == least_told s cpus) cpus

-- of the CPUs below the inactive children of a group that told a time which has come, the leftmost
-- of those that told the least (tmigr_next_expired_groupevt)
abbrev pub due_sleeper : State → (g : ℕ) → Option ℕ
due_sleeper s g = first_to_tell s (due_sleepers s g)

-- whom a look of CPU c at a level names (tmigr_handle_remote_up)
abbrev pub named : State → (c level : ℕ) → Option ℕ
named s c level = option_and_then (due_sleeper s) (group_at_of s.tree c level)
