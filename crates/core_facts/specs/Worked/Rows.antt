-- rows: lists of steps from the start, and what they leave
use Rattle.std.specs.Prelude.{◌+◌, map, ◌≡◌, ℕ, List, [], ◌∷◌, ◌++◌, Some, None, true, false}
use Rattle.std.specs.Prelude.{Option, replicate, option_map, slice_set}
use Rattle.std.specs.FinSet.{empty}
use Rattle.std.specs.List.{range_with_len}
use Rattle.tm_base.specs.Children.{of_cpu}
use Rattle.tm_base.specs.declared.names.TheConstants.{NEVER}
use Rattle.tm_base.specs.declared.names.Class.TheVariants.{Global}
use Rattle.event_queue.specs.EventMap.{event_at}
use Rattle.cpu_bases.specs.CpuBases.{events_of}
use Rattle.tree_plan.specs.Shape.{Shape, levels_for, levels_from, tree_of}
use Rattle.walk_rules.specs.declared.walk.Walk.{Walk}
use Rattle.walk_rules.specs.declared.walk.Stage.TheVariants as stages
use Rattle.core_world.specs.coverage.Coverage.{Held, Woken}
use Rattle.core_world.specs.declared.step.Step.{Step}
use Rattle.core_world.specs.declared.step.Step.TheVariants as steps
use Rattle.core_world.specs.Covered.{Carried, Covered, machine_of}
use Rattle.core_world.specs.Enabled.{Enabled}
use Rattle.core_world.specs.Lawful.{IsLawful}
use Rattle.core_world.specs.Lists.{EachEnabled, after_all}
use Rattle.core_world.specs.Start.{start_of}
use Rattle.core_world.specs.Steps.{swapped}
use Rattle.core_world.specs.World.{CpuRecord, World, cpu_of, group_of, is_active}

-- the tree of one node of so many CPUs, none of them isolated
abbrev pub one_node_of : ℕ → Shape
one_node_of cpus = record {
  nodes = 1;
  cpus = cpus;
  isolated = empty;
  levels =
      levels_from (levels_for cpus) (levels_for cpus + levels_for 1) 0 0
      (map of_cpu (range_with_len 0 cpus) ∷ []);
}

-- so many steps of CPU c's walk
abbrev pub walks : (n c : ℕ) → List Step
walks n c = replicate n (steps.Walk (record { 0 = c }))

-- STALE-RUN: CPU 9 idles; CPU 8 idles after it and climbs, up to its exchange at the top; CPU 9
-- wakes, which makes that reading of the top stale; so CPU 8's exchange fails, and its next one
-- finds its group active
abbrev pub stale_steps : List Step
stale_steps =
    steps.Idle (record { 0 = 9 }) ∷ walks 8 9 ++ steps.Idle (record { 0 = 8 }) ∷ walks 9 8 ++
    steps.Wake (record { 0 = 9 }) ∷ walks 4 9 ++ walks 3 8

-- STALE-EXCHANGE and LOST-EXCHANGE: the start of one node of ten CPUs
abbrev pub stale_start : World
stale_start = start_of (one_node_of 10) 0

-- STALE-EXCHANGE: the world after these steps
abbrev pub stale_end : World
stale_end = after_all stale_start stale_steps

-- STALE-EXCHANGE: each step is enabled where it stands, and this is what they leave
pub record StaleRun : Type 0 where
  pub tree : tree_of 1 10 empty ≡ one_node_of 10
  pub enabled : EachEnabled stale_start stale_steps
  -- group 0:1 has the active set {1} and the migrator 1, the top has {0, 1} and 0
  pub leaf : (group_of stale_end 1).active ≡ 2
  pub leaf_migrator : (group_of stale_end 1).migrator ≡ Some 1
  pub top : (group_of stale_end 2).active ≡ 3
  pub top_migrator : (group_of stale_end 2).migrator ≡ Some 0
  -- CPU 8 is idle, and its walk is about to take the lock of its leaf
  pub idle : (cpu_of stale_end 8).idle ≡ true
  pub level : option_map (λ (k : Walk). k.level) (cpu_of stale_end 8).walk ≡ Some 1
  pub stage : option_map (λ (k : Walk). k.stage) (cpu_of stale_end 8).walk ≡ Some stages.LockChild

-- THE STALE EXCHANGE, had it been made: just before CPU 8's exchange at the top fails, with the
-- word that it read there stale
abbrev pub before_stale : World
before_stale =
    after_all stale_start
    (steps.Idle (record { 0 = 9 }) ∷ walks 8 9 ++ steps.Idle (record { 0 = 8 }) ∷ walks 9 8 ++
    steps.Wake (record { 0 = 9 }) ∷ walks 4 9)

-- THE STALE EXCHANGE: the world after the exchange of CPU c's walk, made as if its reading were
-- fresh
abbrev pub exchanged_by : World → (c : ℕ) → Option Walk → World
exchanged_by w c None = w
exchanged_by w c (Some k) = swapped w c k true

-- THE STALE EXCHANGE, made by CPU 8 with the word that it had read
abbrev pub stale_made : World
stale_made = exchanged_by before_stale 8 (cpu_of before_stale 8).walk

-- THE STALE EXCHANGE: what it would leave, and that this is no lawful world
pub record StaleExchangeBreaks : Type 0 where
  pub stage : option_map (λ (k : Walk). k.stage) (cpu_of before_stale 8).walk ≡ Some stages.Swap
  pub fresh : option_map (λ (k : Walk). k.fresh) (cpu_of before_stale 8).walk ≡ Some false
  -- CPU 9 is active, and so is its leaf, whose bit is gone at the top; and CPU 9's walk is over
  pub awake : is_active (cpu_of stale_made 9) ≡ true
  pub leaf : (group_of stale_made 1).active ≡ 2
  pub top : (group_of stale_made 2).active ≡ 1
  pub over : (cpu_of stale_made 9).walk ≡ None
  -- so the invariant doesn't hold
  pub unlawful : IsLawful stale_made → ⊥

-- a CPU whose walk has read the last word of its group
abbrev pub with_last_word : CpuRecord → CpuRecord
with_last_word y = record y { walk = option_map (λ (k : Walk). record k { fresh = true }) y.walk }

-- THE EARLY READ: just before CPU 8's exchange at the top, had it read its leaf before the top's
-- word: what it saw of the leaf is as old as before, and the word that it read is the last
abbrev pub read_early : World
read_early = record before_stale {
  cpus = slice_set before_stale.cpus 8 (with_last_word (cpu_of before_stale 8));
}

-- that the invariant doesn't hold there
pub record EarlyReadBreaks : Type 0 where
  pub stage : option_map (λ (k : Walk). k.stage) (cpu_of read_early 8).walk ≡ Some stages.Swap
  pub fresh : option_map (λ (k : Walk). k.fresh) (cpu_of read_early 8).walk ≡ Some true
  -- it saw its leaf asleep, which is awake, and no walk is on its way there
  pub saw : option_map (λ (k : Walk). k.child_on) (cpu_of read_early 8).walk ≡ Some false
  pub leaf : (group_of read_early 1).active ≡ 2
  pub over : (cpu_of read_early 9).walk ≡ None
  -- so the invariant doesn't hold
  pub unlawful : IsLawful read_early → ⊥

-- LOST-EXCHANGE: CPU 8 idles and reads the word of its leaf and its own; CPU 9 idles and makes its
-- exchange there, which makes that reading stale; so the exchange of CPU 8 fails
abbrev pub lost_steps : List Step
lost_steps =
    steps.Idle (record { 0 = 8 }) ∷ walks 2 8 ++ steps.Idle (record { 0 = 9 }) ∷ walks 3 9
    ++ walks 1 8

-- LOST-EXCHANGE: the world after these steps
abbrev pub lost_end : World
lost_end = after_all stale_start lost_steps

-- LOST-EXCHANGE: two steps of CPU 8 later, when it has read again and made its exchange
abbrev pub made_end : World
made_end = after_all lost_end (walks 2 8)

-- LOST-EXCHANGE: each step is enabled where it stands, and this is what they leave
pub record LostExchange : Type 0 where
  pub enabled : EachEnabled stale_start lost_steps
  -- CPU 9 alone has left the active set, and waits for the lock
  pub active : (group_of lost_end 1).active ≡ 1
  pub migrator : (group_of lost_end 1).migrator ≡ Some 0
  pub second : option_map (λ (k : Walk). k.stage) (cpu_of lost_end 9).walk ≡ Some stages.LockGroup
  -- CPU 8 has read the word anew, and has its own still to read
  pub stage : option_map (λ (k : Walk). k.stage) (cpu_of lost_end 8).walk ≡ Some stages.Child
  pub fresh : option_map (λ (k : Walk). k.fresh) (cpu_of lost_end 8).walk ≡ Some true
  -- its next exchange is made
  pub goes_on : EachEnabled lost_end (walks 2 8)
  pub none_active : (group_of made_end 1).active ≡ 0
  pub none_migrates : (group_of made_end 1).migrator ≡ None
  pub made : option_map (λ (k : Walk). k.stage) (cpu_of made_end 8).walk ≡ Some stages.LockGroup

-- an active CPU can't be woken
abbrev pub WakeRefused : Type 0
WakeRefused = Enabled stale_start (steps.Wake (record { 0 = 0 })) → ⊥

-- SETTLED-COVER: a global timer of CPU 1, which idles and tells it to CPU 0
abbrev pub cover_steps : List Step
cover_steps =
    steps.Clock 10 ∷ steps.Arm (record { 0 = 1 }) (record { 0 = 0 }) Global 60 0 0 0 ∷
    steps.Idle (record { 0 = 1 }) ∷ walks 8 1

-- SETTLED-COVER: the start of one node of two CPUs, with one timer
abbrev pub cover_start : World
cover_start = start_of (one_node_of 2) 1

-- SETTLED-COVER: the world after these steps
abbrev pub cover_end : World
cover_end = after_all cover_start cover_steps

-- SETTLED-COVER: each step is enabled where it stands, and this is what they leave
pub record SettledCover : Type 0 where
  pub tree : tree_of 1 2 empty ≡ one_node_of 2
  pub enabled : EachEnabled cover_start cover_steps
  -- no walk is under way
  pub first_done : (cpu_of cover_end 0).walk ≡ None
  pub second_done : (cpu_of cover_end 1).walk ≡ None
  -- the group's migrator is CPU 0, to which the event of CPU 1 at 61 was told
  pub migrator : (group_of cover_end 0).migrator ≡ Some 0
  pub told : event_at (group_of cover_end 0).events 1 ≡
      Some (record { expiry = 61; cpu = record { 0 = 1 }; ignored = false })
  pub wakeup : (cpu_of cover_end 1).wakeup ≡ NEVER

-- THE FORGOTTEN EVENT: the same, but that the group has lost the event that CPU 1 told
abbrev pub forgotten : World
forgotten = record cover_end {
  groups =
      slice_set cover_end.groups 0 (record (group_of cover_end 0) {
        events = slice_set (group_of cover_end 0).events 1 None;
      });
}

-- that nobody answers for the timer then
pub record ForgottenEvent : Type 0 where
  -- CPU 1 is idle with its timer at 61; no walk is under way, and CPU 0 is awake
  pub idle : (cpu_of forgotten 1).idle ≡ true
  pub first : (events_of (cpu_of forgotten 1).bases).first_global ≡ 61
  pub done : (cpu_of forgotten 1).walk ≡ None
  pub awake : is_active (cpu_of forgotten 0) ≡ true
  -- nobody answers for it, in none of the ways
  pub uncovered : Covered forgotten 1 61 → ⊥

-- CARRIED ALONE: the same up to where CPU 1 goes idle: its walk has told nothing yet
abbrev pub cover_begun : World
cover_begun =
    after_all cover_start
    (steps.Clock 10
    ∷ steps.Arm (record { 0 = 1 }) (record { 0 = 0 }) Global 60 0 0 0
    ∷ steps.Idle (record { 0 = 1 }) ∷ [])

-- that the walk answers for the timer, and nothing else does
pub record CarriedAlone : Type 0 where
  pub idle : (cpu_of cover_begun 1).idle ≡ true
  pub first : (events_of (cpu_of cover_begun 1).bases).first_global ≡ 61
  -- its walk answers for the timer, and nobody else yet
  pub carried : Carried cover_begun 1 61
  pub not_held : Held (machine_of cover_begun) 1 61 → ⊥
  pub not_woken : Woken (machine_of cover_begun) 1 61 → ⊥
