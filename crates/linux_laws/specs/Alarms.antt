-- what a trace could show of the core, and that the rules on words, exchanges and bits take it
use Rattle.std.specs.Prelude.{◌≡◌, ℕ, Bool, true, false, List, [], ◌∷◌, Some, is_some}
use Rattle.std.specs.List.{All}
use Rattle.tm_base.specs.declared.names.CpuId.{CpuId}
use Rattle.tm_base.specs.Children.{of_cpu, of_group}
use Rattle.group_word.specs.State.{migrator_bits}
use Rattle.tree_plan.specs.Paths.{bit_of, parent_of}
use Rattle.walk_rules.specs.declared.walk.Walk.{Walk}
use Rattle.walk_rules.specs.declared.walk.Stage.TheVariants as stages
use Rattle.walk_rules.specs.Hierarchy.{side}
use Rattle.walk_rules.specs.Scene.{Group}
use Rattle.core_world.specs.declared.step.Step.{Step}
use Rattle.core_world.specs.declared.step.Step.TheVariants as steps
use Rattle.core_world.specs.Covered.{IsSettled}
use Rattle.core_world.specs.Lawful.{IsLawful}
use Rattle.core_world.specs.Lists.{EachEnabled}
use Rattle.core_world.specs.Steps.{here, stepped}
use Rattle.core_world.specs.World.{World, cpu_of, group_of, is_active}
use Rattle.core_facts.specs.Exchanges.{Exchanges}
use Rattle.linux_lines.specs.declared.events.Place.{Place}
use Rattle.linux_lines.specs.declared.events.Exchange.{Exchange}
use Rattle.linux_seen.specs.declared.seen.Word.{Word}
use Rattle.linux_seen.specs.declared.seen.GroupSeen.{GroupSeen}
use Rattle.linux_seen.specs.declared.seen.CpuSeen.{CpuSeen}
use Rattle.linux_seen.specs.Seen.{Sight}
use Rattle.linux_seen.specs.Words.{follows, state_of}
use Rattle.linux_seen.specs.Rests.{known_word, rest_fits}

-- the word of a group of the core, as a trace shows it
abbrev pub shown : Group → Word
shown x = record { active = x.active; migrator = migrator_bits x.migrator }

-- the line of an exchange by which this child joins or leaves, and which leaves the group so;
-- whatever it says of place and parent
abbrev pub line_of_exchange : Place → (parent child : ℕ) → (joins : Bool) → Group → Exchange
line_of_exchange place parent child joins x = record {
  place = place;
  active = x.active;
  migrator = migrator_bits x.migrator;
  parent = parent;
  bit = child;
  joins = joins;
}

-- the words of all groups are lawful
abbrev pub WordsFit : World → Type 0
WordsFit w = (g : ℕ) → is_some (state_of (shown (group_of w g))) ≡ true

-- the line of an exchange that the step of c's walk k makes follows from the word before it
abbrev pub LineFollows : World → (cpu : CpuId) → Walk → (joins : Bool) → Type 0
LineFollows w cpu k joins = (place : Place) (parent : ℕ) →
    follows (shown (group_of w (here w cpu.0 k)))
    (line_of_exchange place parent (side w.tree cpu.0 k.level) joins
    (group_of (stepped w (steps.Walk cpu)) (here w cpu.0 k))) ≡ true

-- the step of c's walk makes an exchange on this group
abbrev pub ExchangesAt : World → Step → ℕ → Type 0
ExchangesAt w step g = (cpu : CpuId) × (k : Walk) × (step ≡ steps.Walk cpu)
    × ((cpu_of w cpu.0).walk ≡ Some k) × Exchanges k × (g ≡ here w cpu.0 k)

-- a step fits: an activation's exchange, a deactivation's that holds, and no other change of a word
pub record StepFits (w : World) (step : Step) : Type 0 where
  pub joins : (cpu : CpuId) (k : Walk) → step ≡ steps.Walk cpu →
      (cpu_of w cpu.0).walk ≡ Some k → k.stage ≡ stages.Up → LineFollows w cpu k true
  pub leaves : (cpu : CpuId) (k : Walk) → step ≡ steps.Walk cpu →
      (cpu_of w cpu.0).walk ≡ Some k → k.stage ≡ stages.Swap → k.fresh ≡ true →
      LineFollows w cpu k false
  pub others : (g : ℕ) → (ExchangesAt w step g → ⊥) →
      shown (group_of (stepped w step) g) ≡ shown (group_of w g)

-- .. each of these steps
abbrev pub RunFits : World → List Step → Type 0
RunFits w [] = WordsFit w
RunFits w (step ∷ rest) = WordsFit w × StepFits w step × RunFits (stepped w step) rest

-- NO FALSE ALARM on words and exchanges, of every list of enabled steps from a lawful world on
abbrev pub RunsFit : Type 0
RunsFit = (w : World) (run : List Step) → IsLawful w → EachEnabled w run → RunFits w run

-- what was seen of a group is so, where `name` gives each pointer the number of its group
pub record GroupShows (w : World) (name : ℕ → ℕ) (g : GroupSeen) : Type 0 where
  pub word : (seen : Word) → known_word g ≡ Some seen → seen ≡ shown (group_of w (name g.pointer))
  pub link : (p k : ℕ) → g.told ≡ true → g.parent ≡ Some p → g.bit ≡ Some k →
      (parent_of w.tree (of_group (name g.pointer)) ≡ Some (name p))
      × (bit_of w.tree (of_group (name g.pointer)) ≡ k)

-- .. of a CPU
pub record CpuShows (w : World) (name : ℕ → ℕ) (c : CpuSeen) : Type 0 where
  pub active : (awake : Bool) → c.active ≡ Some awake → is_active (cpu_of w c.cpu.0) ≡ awake
  pub link : (p k : ℕ) → c.told ≡ true → c.leaf ≡ Some p → c.bit ≡ Some k →
      (parent_of w.tree (of_cpu c.cpu.0) ≡ Some (name p)) × (bit_of w.tree (of_cpu c.cpu.0) ≡ k)

-- .. of all
pub record Shows (w : World) (name : ℕ → ℕ) (s : Sight) : Type 0 where
  pub groups : All (GroupShows w name) s.groups
  pub cpus : All (CpuShows w name) s.cpus

-- NO FALSE ALARM at rest: whatever was seen of a lawful settled world, its bits fit
abbrev pub RestsFit : Type 0
RestsFit = (w : World) (name : ℕ → ℕ) (s : Sight) → IsLawful w → IsSettled w → Shows w name s →
    rest_fits s ≡ true
