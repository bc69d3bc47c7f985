-- what a wrong rule loses: a run from the start of a machine, after which all walks are over and
-- nobody answers for a timer
use Rattle.std.specs.Prelude.{◌≡◌, ℕ, ◌+◌, ◌++◌, List, [], ◌∷◌, None, map, true}
use Rattle.std.specs.List.{range_with_len}
use Rattle.std.specs.FinSet.{empty}
use Rattle.tm_base.specs.declared.names.Class.TheVariants.{Global}
use Rattle.wheel_core.specs.declared.item.Item.{Item}
use Rattle.cpu_bases.specs.CpuBases.{base_of}
use Rattle.tm_base.specs.Children.{of_cpu}
use Rattle.tree_plan.specs.Shape.{Shape, levels_for, levels_from, tree_of}
use Rattle.core_world.specs.declared.step.Step.{Step}
use Rattle.core_world.specs.declared.step.Step.TheVariants as steps
use Rattle.core_world.specs.Covered.{Covered}
use Rattle.core_world.specs.Start.{start_of}
use Rattle.core_world.specs.Steps.{stepped}
use Rattle.core_world.specs.World.{World, cpu_of}
use Rattle.core_facts.specs.Worked.Rows.{one_node_of, walks}
use Rattle.orders_rules.specs.declared.rule.Rule.{Rule}
use Rattle.orders_rules.specs.declared.rule.Rule.TheVariants as rules
use Rattle.orders_rules.specs.Stepping.{EachEnabledBy, after_all_by, stepped_by}

-- under our own rule a step makes what it makes
abbrev pub IsOurs : Type 0
IsOurs = (w : World) (step : Step) → stepped_by rules.Tmig w step ≡ stepped w step

-- no CPU has a walk, and for a timer of CPU c, which is online and idle, nobody answers: neither a
-- migrator, nor a wakeup, nor a walk, nor an interrupt
pub record LeavesToNobody (w : World) (c : ℕ) (item : Item) : Type 0 where
  pub free : (d : ℕ) → (cpu_of w d).walk ≡ None
  pub online : (cpu_of w c).online ≡ true
  pub idle : (cpu_of w c).idle ≡ true
  pub queued : (base_of Global (cpu_of w c).bases).items ≡ item ∷ []
  pub uncovered : Covered w c item.wheel → ⊥

-- these steps are a run under a rule, from the start of a machine of this tree with one timer, and
-- leave a timer of CPU c to nobody
pub record Forgets (rule : Rule) (tree : Shape) (made : List Step) (c : ℕ) : Type 0 where
  pub planned : tree_of tree.nodes tree.cpus empty ≡ tree
  pub enabled : EachEnabledBy rule (start_of tree 1) made
  pub item : Item
  pub left : LeavesToNobody (after_all_by rule (start_of tree 1) made) c item

-- TEN CPUS of one node, of which CPUs 8 and 9 share a leaf: CPU 9 has a timer
abbrev pub timer_at_nine : List Step
timer_at_nine =
    steps.Clock 10 ∷ steps.Arm (record { 0 = 9 }) (record { 0 = 0 }) Global 60 0 0 0 ∷
    steps.Idle (record { 0 = 9 }) ∷ []

-- UNDER LINUX'S RULE: CPU 9 goes idle, and makes its exchange; CPU 8, the last one awake in that
-- leaf, goes idle too, and its walk goes to its end; then CPU 9's walk ends
abbrev pub linux_steps : List Step
linux_steps =
    timer_at_nine ++ walks 3 9 ++ steps.Idle (record { 0 = 8 }) ∷ walks 26 8 ++ walks 5 9

-- THE HEADLINE FAILS UNDER LINUX'S RULE
abbrev pub LinuxForgets : Type 0
LinuxForgets = Forgets rules.Linux (one_node_of 10) linux_steps 9

-- WHERE THE WORDS ARE READ BEFORE THE LOCKS: CPU 9 sees that its leaf is awake, and stores its
-- event there when CPU 8 has put the leaf to sleep
abbrev pub early_steps : List Step
early_steps =
    timer_at_nine ++ walks 4 9 ++ steps.Idle (record { 0 = 8 }) ∷ walks 26 8 ++ walks 4 9

-- THE HEADLINE FAILS WHERE THE WORDS ARE READ BEFORE THE LOCKS
abbrev pub EarlyReadForgets : Type 0
EarlyReadForgets = Forgets rules.EarlyRead (one_node_of 10) early_steps 9

-- TWO NODES of two CPUs each: the leaves are {0, 1} and {2, 3}
abbrev pub two_nodes : Shape
two_nodes = record {
  nodes = 2;
  cpus = 2;
  isolated = empty;
  levels =
      levels_from (levels_for 2) (levels_for 2 + levels_for 2) 0 0
      (map of_cpu (range_with_len 0 2) ∷ map of_cpu (range_with_len 2 2) ∷ []);
}

-- the timer of CPU 3
abbrev pub timer_at_three : List Step
timer_at_three =
    steps.Clock 10 ∷ steps.Arm (record { 0 = 3 }) (record { 0 = 0 }) Global 60 0 0 0 ∷ []

-- CPU 3 goes idle with its timer, then CPU 2, and so their leaf, and then CPU 1; a walk that ends
-- at its leaf has so many steps, one that goes on to the top so many
abbrev pub zero_alone : (low high : ℕ) → List Step
zero_alone low high =
    steps.Idle (record { 0 = 3 }) ∷ walks low 3 ++ steps.Idle (record { 0 = 2 }) ∷ walks high 2 ++
    steps.Idle (record { 0 = 1 }) ∷ walks low 1

-- THE STALE EXCHANGE: CPU 0, the last one awake, goes idle, and makes so many steps of its walk;
-- CPU 1 of the same leaf wakes, and its walk goes to its end; then CPU 0's walk goes to its end
abbrev pub meets : (before_it after_it : ℕ) → List Step
meets before_it after_it =
    steps.Idle (record { 0 = 0 }) ∷ walks before_it 0 ++ steps.Wake (record { 0 = 1 }) ∷
    walks 4 1 ++ walks after_it 0

-- THE HEADLINE FAILS WITHOUT THE SEQUENCE of a group's word
abbrev pub NoSequenceForgets : Type 0
NoSequenceForgets =
    Forgets rules.NoSequence two_nodes (timer_at_three ++ zero_alone 8 26 ++ meets 9 7) 3

-- THE HEADLINE FAILS where a failed exchange doesn't read the child again
abbrev pub NoSecondReadForgets : Type 0
NoSecondReadForgets =
    Forgets rules.NoSecondRead two_nodes (timer_at_three ++ zero_alone 8 26 ++ meets 9 8) 3

-- THE HEADLINE FAILS where the child is read before the group
abbrev pub ChildFirstForgets : Type 0
ChildFirstForgets =
    Forgets rules.ChildFirst two_nodes (timer_at_three ++ zero_alone 7 25 ++ meets 7 8) 3
