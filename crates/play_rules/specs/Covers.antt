-- who answers for the first global timer of an idle CPU
use Rattle.std.specs.Prelude.{ℕ, zero, suc, ◌-◌, ◌&&◌, [], Bool, Option, Some, None, if◌then◌else◌}
use Rattle.std.specs.Prelude.{filter, find, is_some, nat_le, option_and_then, option_map}
use Rattle.tm_base.specs.declared.names.Child.{Child}
use Rattle.tm_base.specs.declared.names.Child.TheVariants.{Cpu, Group}
use Rattle.tm_report.specs.declared.lines.ShownCover.{ShownCover}
use Rattle.tm_report.specs.declared.lines.ShownCover.TheVariants as covers
use Rattle.tree_plan.specs.Paths.{child_at, child_towards, is_under, level_count_of, level_of}
use Rattle.tree_plan.specs.Paths.{path_of, place_of}
use Rattle.wheel_core.specs.PlainBase.{least}
use Rattle.play_rules.specs.declared.asks.Answerer.{Answerer}
use Rattle.play_rules.specs.State.{State, all_cpus, cpu_at, migrator_at}
use Rattle.play_rules.specs.Hierarchy.{is_placed, least_told}

-- the CPU to which the migrators lead from a group, where they come to one within n levels
abbrev pub led_through : Option Child → (ℕ → Option ℕ) → Option ℕ
led_through None down = None
led_through (Some (Cpu d)) down = Some d.0
led_through (Some (Group h)) down = down h.0

-- the CPU to which the migrators lead from group g, where they come to one within n levels
unfoldable pub led_from : State → (n g : ℕ) → Option ℕ
led_from s zero g = None
led_from s (suc n) g =
    led_through (option_and_then (child_at s.tree g) (migrator_at s g)) (led_from s n)

-- the CPU to which the migrators lead from group g
abbrev pub led_to : State → (g : ℕ) → Option ℕ
led_to s g = led_from s (level_count_of s.tree) g

-- the lowest active group of a CPU's path
abbrev pub lowest_active_group : State → (c : ℕ) → Option ℕ
lowest_active_group s c = find (λ g. is_some (migrator_at s g)) (path_of s.tree c)

-- the cover by a migrator, as a line shows it: the group by its level and place, and the CPU m
abbrev pub by_migrator : State → (g m : ℕ) → ShownCover
by_migrator s g m = covers.Migrator (level_of s.tree g) (place_of s.tree g) (record { 0 = m })

-- the cover by a wakeup, as a line shows it: CPU d, and when it wakes
abbrev pub by_wakeup : State → (d : ℕ) → ShownCover
by_wakeup s d = covers.Wake (record { 0 = d }) (cpu_at s d).wakeup

-- the least that was told below the child of the top towards the CPU, which is the CPU itself where
-- the top is its leaf
abbrev pub told_below : State → Option Child → ℕ
told_below s None = least_told s []
told_below s (Some m) = least_told s (filter (λ d. is_under s.tree d m) (all_cpus s))

-- the least that was told below the child of the top towards CPU c
abbrev pub told_to_top : State → (c : ℕ) → ℕ
told_to_top s c = told_below s (child_towards s.tree c (level_count_of s.tree - 1))

-- the lowest online idle placed CPU that wakes by a time
abbrev pub wakes_by : State → (time d : ℕ) → Bool
wakes_by s time d =
    (cpu_at s d).online && ((cpu_at s d).idle && (is_placed s d && nat_le (cpu_at s d).wakeup time))

-- the lowest online idle placed CPU that wakes by a time
abbrev pub waker_by : State → (time : ℕ) → Option ℕ
waker_by s time = find (wakes_by s time) (all_cpus s)

-- who covers CPU c by others: the CPU to which the migrators lead from the lowest active group of
-- its path; where there is none, the lowest CPU that wakes by what the top was told
abbrev pub cover_above : State → (c : ℕ) → Option ℕ → Option ShownCover
cover_above s c None = option_map (by_wakeup s) (waker_by s (told_to_top s c))
cover_above s c (Some g) = option_map (by_migrator s g) (led_to s g)

-- the CPU itself where its wakeup isn't past W; else the CPU to which the migrators lead from the
-- lowest active group of its path; else that waker
abbrev pub cover_for : State → (c wheel : ℕ) → Option ShownCover
cover_for s c wheel =
    if nat_le (cpu_at s c).wakeup wheel then Some (by_wakeup s c)
    else cover_above s c (lowest_active_group s c)

-- a cover with the wheel expiry that it is for
abbrev pub answerer : (wheel : ℕ) → ShownCover → Answerer
answerer wheel cover = record { wheel = wheel; cover = cover }

-- who covers CPU c for the wheel expiry of its first global timer, where it has one
abbrev pub cover_where : State → (c : ℕ) → Option ℕ → Option Answerer
cover_where s c None = None
cover_where s c (Some wheel) = option_map (answerer wheel) (cover_for s c wheel)

-- none where the CPU isn't online and idle, or has no global timer
abbrev pub cover_of : State → (c : ℕ) → Option Answerer
cover_of s c =
    if (cpu_at s c).online && (cpu_at s c).idle
    then cover_where s c (least (cpu_at s c).bases.bases.global.items)
    else None
