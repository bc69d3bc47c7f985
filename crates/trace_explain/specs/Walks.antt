-- what the next step of a walk does, in words
use Rattle.std.specs.Prelude.{ℕ, ◌+◌, ◌-◌, ◌==◌, Bool, true, false, List, [], ◌++◌, Option}
use Rattle.std.specs.Prelude.{Some, None, codes, min, if◌then◌else◌}
use Rattle.tm_base.specs.declared.names.TheConstants.{NEVER}
use Rattle.tm_report.specs.Words.{group_text, time_word}
use Rattle.tree_plan.specs.Shape.{Shape}
use Rattle.tree_plan.specs.Paths.{level_of, place_of}
use Rattle.walk_rules.specs.declared.walk.Walk.{Walk}
use Rattle.walk_rules.specs.declared.walk.WalkKind.{WalkKind}
use Rattle.walk_rules.specs.declared.walk.WalkKind.TheVariants as kinds
use Rattle.walk_rules.specs.declared.walk.Stage.{Stage}
use Rattle.walk_rules.specs.declared.walk.Stage.TheVariants as stages
use Rattle.walk_rules.specs.Hierarchy.{group_on}

-- the name of a group: its level and its place there
abbrev pub group_name : Shape → (g : ℕ) → List ℕ
group_name t g = group_text (level_of t g) (place_of t g)

-- THE LEVEL of the group that a walk's next step names, where the walk stands at a level and a
-- stage
abbrev pub level_named : (level : ℕ) → Stage → Option ℕ
level_named level stages.Own = Some 0
level_named level stages.Up = Some level
level_named level (stages.Mark more) = Some (level + 1)
level_named level stages.Read = Some level
level_named level stages.Child = Some level
level_named level stages.Swap = Some level
level_named level stages.LockChild = Some (level - 1)
level_named level stages.LockGroup = Some level
level_named level stages.SeeChild = Some (level - 1)
level_named level stages.SeeGroup = Some level
level_named level (stages.Scan k) = Some (level - 1)
level_named level stages.Store = Some level
level_named level (stages.First k) = Some level
level_named level stages.FreeGroup = Some level
level_named level stages.FreeChild = Some (level - 1)
level_named level stages.Finish = None
level_named level stages.Handing = None

-- the group of CPU c's path at a level, if one is named
abbrev pub spot_text : Shape → (c : ℕ) → Option ℕ → List ℕ
spot_text t c None = []
spot_text t c (Some level) = group_name t (group_on t c level)

-- an exchange: what it does where the word is still the one that was read, and where it isn't
abbrev pub swap_words : (fresh child_on : Bool) → List ℕ
swap_words true true = codes " finds its child awake, and takes nothing out of "
swap_words true false = codes " leaves "
swap_words false child_on = codes " finds that another CPU has changed "

-- the wakeup with which a walk ends
abbrev pub wakeup_text : Walk → List ℕ
wakeup_text k = codes " ends; wakeup:" ++ time_word (min k.pin k.first)

-- what a walk of a kind leaves as it ends
abbrev pub walk_end_text : WalkKind → Walk → List ℕ
walk_end_text kinds.Activate k = codes " ends"
walk_end_text kinds.Deactivate k = wakeup_text k
walk_end_text kinds.Offline k =
    if k.first == NEVER then codes " ends" else codes " ends; its duty is to be handed on"
walk_end_text kinds.Reeval k = wakeup_text k
walk_end_text (kinds.Remote by) k = codes " ends; its CPU is marked no more"

-- WHAT A WALK'S NEXT STEP DOES, in front of the group that it names
unfoldable pub deed_text : Stage → Walk → List ℕ
deed_text stages.Own k = codes " passes over its own event in "
deed_text stages.Up k = codes " joins "
deed_text (stages.Mark more) k = codes " passes over the event of its group in "
deed_text stages.Read k = codes " reads "
deed_text stages.Child k = codes " reads what is below "
deed_text stages.Swap k = swap_words k.fresh k.child_on
deed_text stages.LockChild k = codes " locks "
deed_text stages.LockGroup k = codes " locks "
deed_text stages.SeeChild k = codes " reads, under its lock, "
deed_text stages.SeeGroup k = codes " reads, under its lock, "
deed_text (stages.Scan j) k = codes " reads an event of "
deed_text stages.Store k = codes " tells "
deed_text (stages.First j) k = codes " reads an event of "
deed_text stages.FreeGroup k = codes " unlocks "
deed_text stages.FreeChild k = codes " unlocks "
deed_text stages.Finish k = walk_end_text k.kind k
deed_text stages.Handing k = codes " waits to hand on"

-- THE NEXT STEP of CPU c's walk
abbrev pub walk_text : Shape → (c : ℕ) → Option Walk → List ℕ
walk_text t c None = []
walk_text t c (Some k) = deed_text k.stage k ++ spot_text t c (level_named k.level k.stage)
