-- who answers for the first global timer of an idle CPU of a core
use Rattle.std.specs.Prelude.{ℕ, ◌<◌, ◌&&◌, Bool, Option, Some, None, if◌then◌else◌, is_some}
use Rattle.std.specs.Prelude.{length, nat_le, option_map}
use Rattle.tm_report.specs.declared.lines.ShownCover.{ShownCover}
use Rattle.tm_report.specs.declared.lines.ShownCover.TheVariants as lines
use Rattle.tm_base.specs.declared.names.Child.{Child}
use Rattle.tm_base.specs.declared.names.Child.TheVariants as sorts
use Rattle.wheel_core.specs.PlainBase.{least}
use Rattle.play_rules.specs.Covers.{led_to, lowest_active_group, waker_by}
use Rattle.tree_plan.specs.Paths.{level_of, place_of}
use Rattle.core_world.specs.World.{CpuRecord, World, cpu_of}
use Rattle.step_play.specs.Rules.Seen.{state_of}
use Rattle.step_play.specs.Rules.StepRules.{time_at_top}
use Rattle.core_machine.specs.declared.answers.cover.Cover.{Cover}
use Rattle.core_machine.specs.declared.answers.cover.Cover.TheVariants as covers

-- the cover by the migrators of group g, which lead to CPU m
abbrev pub cover_by_migrator : (g m : ℕ) → Cover
cover_by_migrator g m = covers.Migrator (record { 0 = g }) (record { 0 = m })

-- the cover by the wakeup of CPU d
abbrev pub cover_by_wakeup : World → (d : ℕ) → Cover
cover_by_wakeup w d = covers.Wake (record { 0 = d }) (cpu_of w d).wakeup

-- where the lowest active group of the CPU's path is this one, the CPU to which its migrators lead;
-- where none is active, the lowest online idle placed one that wakes by the top's event towards it
abbrev pub choice_above : World → (c : ℕ) → Option ℕ → Option Cover
choice_above w c None = option_map (cover_by_wakeup w) (waker_by (state_of w) (time_at_top w c))
choice_above w c (Some g) = option_map (cover_by_migrator g) (led_to (state_of w) g)

-- for a wheel expiry W: the CPU itself where its wakeup isn't past W
abbrev pub choice_for : World → (c wheel : ℕ) → Option Cover
choice_for w c wheel =
    if nat_le (cpu_of w c).wakeup wheel then Some (cover_by_wakeup w c)
    else choice_above w c (lowest_active_group (state_of w) c)

-- the choice for the wheel expiry of the first global timer, where there is one
abbrev pub choice_where : World → (c : ℕ) → Option ℕ → Option Cover
choice_where w c None = None
choice_where w c (Some wheel) = choice_for w c wheel

-- the least wheel expiry of a CPU's global timers
abbrev pub first_wheel : CpuRecord → Option ℕ
first_wheel y = least y.bases.bases.global.items

-- THE CHOICE: nobody where the CPU isn't online and idle, or has no global timer
abbrev pub choice_of : World → (c : ℕ) → Option Cover
choice_of w c =
    if (cpu_of w c).online && (cpu_of w c).idle
    then choice_where w c (first_wheel (cpu_of w c))
    else None

-- the CPU is online and idle, and has a global timer
abbrev pub waits : CpuRecord → Bool
waits y = y.online && (y.idle && is_some (first_wheel y))

-- the group and the CPU that a cover names are there
abbrev pub IsThere : World → Cover → Type 0
IsThere w (covers.Migrator g m) = (g.0 < length w.groups) × (m.0 < length w.cpus)
IsThere w (covers.Wake d at) = d.0 < length w.cpus

-- as a report shows it: the group by its level and place
abbrev pub cover_shown : World → Cover → ShownCover
cover_shown w (covers.Migrator g m) =
    lines.Migrator (level_of w.tree g.0) (place_of w.tree g.0) (record { 0 = m.0 })
cover_shown w (covers.Wake d at) = lines.Wake (record { 0 = d.0 }) at

-- a child of the tree is there (no public clause cites it)
abbrev pub IsInWorld : World → Child → Type 0
IsInWorld w (sorts.Cpu d) = d.0 < length w.cpus
IsInWorld w (sorts.Group g) = g.0 < length w.groups
