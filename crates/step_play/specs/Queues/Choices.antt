-- what the queues of a core at rest choose is what Play chooses
use Rattle.std.specs.Prelude.{◌≡◌, ◌↔◌, ℕ, ◌<◌, true, false, Some, None}
use Rattle.std.specs.Prelude.{if◌then◌else◌, is_none, is_some}
use Rattle.std.specs.List.{fold}
use Rattle.std.specs.FinSet.{contains}
use Rattle.tm_base.specs.CpuSet.{Cpus}
use Rattle.tm_base.specs.declared.names.TheConstants.{NEVER}
use Rattle.tm_base.specs.declared.names.Child.{Child}
use Rattle.tree_plan.specs.Paths.{IsBelow, IsTop, IsUnder, child_at, group_at_of, parent_of}
use Rattle.play_rules.specs.Covers.{cover_of}
use Rattle.play_rules.specs.State.{all_cpus}
use Rattle.play_rules.specs.Hierarchy.{child_active, common_duty, group_active, least_told, named}
use Rattle.play_rules.specs.Hierarchy.{some_placed_active}
use Rattle.walk_rules.specs.Hierarchy.{at_top}
use Rattle.walk_rules.specs.Scene.{HasBit, is_on}
use Rattle.walk_rules.specs.Stages.{first_of}
use Rattle.core_world.specs.World.{World, cpu_of, group_of, scene_of}
use Rattle.step_play.specs.Rules.Live.{expiry_of, first, live, told_by}
use Rattle.step_play.specs.Rules.Seen.{state_of}
use Rattle.step_play.specs.Rules.StepRules.{can_be_taken, cover_by_queue, named_by_queue}
use Rattle.step_play.specs.Queues.AtRest.{AtRest}
use Rattle.step_play.specs.Queues.Leftmost.{Leftmost}

-- ACTIVE BELOW: a group has a migrator exactly where an active CPU is below it, and then so has its
-- parent; a child is active as Play says; its bit is set exactly then
pub record ActiveBelow (w : World) : Type 0 where
  pub group : (g : ℕ) → is_some (group_of w g).migrator ≡ group_active (state_of w) g
  pub child : (m : Child) → is_on (scene_of w) m ≡ child_active (state_of w) m
  pub bits : (m : Child) (g : ℕ) → parent_of w.tree m ≡ Some g →
      HasBit w.tree (scene_of w) m g ↔ (is_on (scene_of w) m ≡ true)
  pub parent : (m : Child) (g : ℕ) → parent_of w.tree m ≡ Some g →
      is_on (scene_of w) m ≡ true → is_some (group_of w g).migrator ≡ true

-- in a world at rest a group has a migrator exactly where an active CPU is below it
abbrev pub EachActiveBelow : Type 0
EachActiveBelow = (w : World) → AtRest w → ActiveBelow w

-- QUIET FIRST: an inactive group's first event names the leftmost of those below it that told the
-- least
abbrev pub QuietFirst : Type 0
QuietFirst = (w : World) → AtRest w → (x : ℕ) → (group_of w x).migrator ≡ None →
    Leftmost (told_by w) (λ d. IsBelow w.tree d x) (first w x)

-- CPU d is below child k of group g, which is inactive
pub record IsBelowIdle (w : World) (g k d : ℕ) : Type 0 where
  pub child : Child
  pub there : child_at w.tree g k ≡ Some child
  pub under : IsUnder w.tree d child
  pub off : is_on (scene_of w) child ≡ false

-- ANY FIRST: a slot names the leftmost of those below its child that told the least, nobody where
-- the child is active; and a group's first event that of those below its inactive children
abbrev pub EachSlot : Type 0
EachSlot = (w : World) → AtRest w → (g k : ℕ) →
    Leftmost (told_by w) (λ d. IsBelowIdle w g k d) (live w g k)

-- in a world at rest the first event of a group names, of the CPUs below its inactive children, the
-- leftmost of those that told the least
abbrev pub AnyFirst : Type 0
AnyFirst = (w : World) → AtRest w → (g : ℕ) →
    Leftmost (told_by w) (λ d. (k : ℕ) × IsBelowIdle w g k d) (first w g)

-- THE LOOK: where what each CPU tried told is still to come, the look names whom Play names
abbrev pub NoneDue : World → Cpus → Type 0
NoneDue w tried = (d : ℕ) → contains tried d ≡ true → w.clock < told_by w d

-- in a world at rest a look names by the queue whom Play names, whichever CPUs were tried that have
-- nothing due
abbrev pub NamesAlike : Type 0
NamesAlike = (w : World) → AtRest w → (c level : ℕ) (tried : Cpus) → NoneDue w tried →
    named_by_queue w c level tried ≡ named (state_of w) c level

-- whoever is named can be taken where it has no walk and no mark
abbrev pub NamedCanBeTaken : Type 0
NamedCanBeTaken = (w : World) → AtRest w → (c level d : ℕ) (tried : Cpus) → NoneDue w tried →
    named_by_queue w c level tried ≡ Some d → (cpu_of w d).walk ≡ None →
    (cpu_of w d).mark ≡ None → can_be_taken w d ≡ true

-- THE TOP is active exactly where a placed CPU is; where none is, its first event comes when the
-- least comes that any CPU told
pub record TopSeen (w : World) (top : ℕ) : Type 0 where
  pub active : some_placed_active (state_of w) ≡ is_some (group_of w top).migrator
  pub first : (group_of w top).migrator ≡ None →
      expiry_of (first w top) ≡ least_told (state_of w) (all_cpus (state_of w))

-- in a world at rest the top is active where a placed CPU is, and else its first event is the least
-- that was told
abbrev pub EachTop : Type 0
EachTop = (w : World) → AtRest w → (top : ℕ) → IsTop w.tree top → TopSeen w top

-- FOUND: what a walk finds at the top is the duty that CPUs with a group have in common
abbrev pub found_in : World → (g : ℕ) → ℕ
found_in w g =
    if is_none (group_of w g).migrator then fold first_of NEVER (group_of w g).events else NEVER

-- in a world at rest what a walk finds at the top is the duty that all CPUs with a group have in
-- common
abbrev pub FoundIsDuty : Type 0
FoundIsDuty = (w : World) → AtRest w → (c level g : ℕ) → group_at_of w.tree c level ≡ Some g →
    at_top w.tree c level ≡ true → found_in w g ≡ common_duty (state_of w)

-- COVER
abbrev pub CoversAlike : Type 0
CoversAlike = (w : World) → AtRest w → (c : ℕ) →
    cover_by_queue w c ≡ cover_of (state_of w) c
