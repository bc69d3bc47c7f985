-- how far a walk that tells has come: what it has looked at by the stage where it stands (no public
-- clause cites these)
use Rattle.std.specs.Prelude.{◌≡◌, ℕ, zero, suc, Bool, true, false, List, [], ◌∷◌, ◌++◌, length}
use Rattle.std.specs.Prelude.{MatchBool, Some}
use Rattle.std.specs.List.{list_any}
use Rattle.tm_base.specs.declared.names.TheConstants.{NEVER}
use Rattle.walk_rules.specs.declared.walk.Walk.{Walk}
use Rattle.walk_rules.specs.declared.walk.WalkKind.{WalkKind}
use Rattle.walk_rules.specs.declared.walk.Stage.{Stage}
use Rattle.walk_rules.specs.declared.walk.Stage.TheVariants as stages
use Rattle.walk_rules.specs.Hierarchy.{HasGroup}
use Rattle.walk_rules.specs.Standing.{Tells}
use Rattle.core_world.specs.World.{World}
use Rattle.shared_words.specs.Exchanges.{shows_migrator}
use Rattle.shared_cpus.specs.shared_rule.declared.parts.Look.{Look}
use Rattle.shared_cpus.specs.shared_rule.Plays.{PartFits}
use Rattle.shared_cpus.specs.shared_rule.Whole.{no_looks}
use Rattle.shared_cpus.specs.shared_rule.Parts.{HeldPart}
use Rattle.walk_inactive.specs.Frames.{IsSameErrand, box_with}
use Rattle.shared_walks.specs.Steps.{on_part}
use Rattle.shared_walks.specs.Walks.{StepOf, is_under_way}
use Rattle.walk_inactive.specs.Ends.{box_leaf_of, told_leaf}
use Rattle.walk_inactive.specs.Looks.{FindsFirst, HasWalkLooked, first_by, group_looks, reads_slots}
use Rattle.walk_inactive.specs.Looks.{walk_slot_looks}

-- the walk has looked at the groups up to this level, those below it showed no migrator, and this
-- one did or not
pub record HasSeen (o : World) (cpu level : ℕ) (on : Bool) (looked : List Look) (first : ℕ) :
    Type 0 where
  pub below : List ℕ
  pub last : ℕ
  pub level_is : length below ≡ level
  pub looks : looked ≡ group_looks o cpu 0 (below ++ last ∷ [])
  pub passed : list_any shows_migrator below ≡ false
  pub seen : shows_migrator last ≡ on
  pub first_is : first ≡ NEVER

-- the walk has found every group below this level without migrator, and has looked at no other
abbrev pub HasPassedLevels : World → (cpu level : ℕ) → List Look → (first : ℕ) → Type 0
HasPassedLevels o cpu zero looked first = (looked ≡ []) × (first ≡ NEVER)
HasPassedLevels o cpu (suc l) looked first = HasSeen o cpu l false looked first

-- the walk has found the top idle, at this level, and has read so many of its slots
pub record HasReadSlots (o : World) (cpu level : ℕ) (kind : WalkKind) (count : ℕ)
    (looked : List Look) (first : ℕ) : Type 0 where
  pub below : List ℕ
  pub last : ℕ
  pub slots : List ℕ
  pub level_is : length below ≡ level
  pub looks : looked
      ≡ group_looks o cpu 0 (below ++ last ∷ []) ++ walk_slot_looks o cpu (length below) 0 slots
  pub passed : list_any shows_migrator below ≡ false
  pub reads : reads_slots o.tree cpu (length below) last kind ≡ true
  pub count_is : length slots ≡ count
  pub first_is : first ≡ first_by slots

-- past the stores of a level: all is looked at where the walk ends there, and else it rises
abbrev pub HasClosedLevel : World → (cpu : ℕ) → Walk → List Look → Type 0
HasClosedLevel o cpu k looked =
    MatchBool k.over (HasWalkLooked o cpu k.kind looked k.first)
    (HasPassedLevels o cpu (suc k.level) looked k.first)

-- WHAT A WALK HAS LOOKED AT, stage by stage
abbrev pub LooksAt : World → (cpu : ℕ) → Walk → List Look → Stage → Type 0
LooksAt o cpu k looked stages.Own = Unit {0}
LooksAt o cpu k looked stages.Up = Unit {0}
LooksAt o cpu k looked (stages.Mark more) = Unit {0}
LooksAt o cpu k looked stages.Read = HasPassedLevels o cpu k.level looked k.first
LooksAt o cpu k looked stages.Child = HasPassedLevels o cpu k.level looked k.first
LooksAt o cpu k looked stages.Swap = HasPassedLevels o cpu k.level looked k.first
LooksAt o cpu k looked stages.LockChild = HasPassedLevels o cpu k.level looked k.first
LooksAt o cpu k looked stages.LockGroup = HasPassedLevels o cpu k.level looked k.first
LooksAt o cpu k looked stages.SeeChild = HasPassedLevels o cpu k.level looked k.first
LooksAt o cpu k looked stages.SeeGroup = HasPassedLevels o cpu k.level looked k.first
LooksAt o cpu k looked (stages.Scan n) = HasSeen o cpu k.level k.on looked k.first
LooksAt o cpu k looked stages.Store = HasSeen o cpu k.level k.on looked k.first
LooksAt o cpu k looked (stages.First n) = HasReadSlots o cpu k.level k.kind n looked k.first
LooksAt o cpu k looked stages.FreeGroup = HasClosedLevel o cpu k looked
LooksAt o cpu k looked stages.FreeChild = HasClosedLevel o cpu k looked
LooksAt o cpu k looked stages.Finish = HasWalkLooked o cpu k.kind looked k.first
LooksAt o cpu k looked stages.Handing = Unit {0}

-- the part has a walk that tells, which has looked at nothing yet
pub record HasSetOut (part : HeldPart) (k : Walk) : Type 0 where
  pub walk : part.box.own.walk ≡ Some k
  pub tells : Tells k.kind
  pub none : part.box.looked ≡ no_looks
  pub looks : HasGroup part.box.opening.tree part.box.cpu →
      LooksAt part.box.opening part.box.cpu k [] k.stage

-- THE WALK SO FAR: it is for what it was for, all else of the part has stayed but what a walk's
-- steps change, and it has looked at what its stage says; without a group no step was made
pub record WalkSoFar (start now : HeldPart) (k : Walk) : Type 0 where
  pub walk : Walk
  pub has : now.box.own.walk ≡ Some walk
  pub rest : now
      ≡ on_part (λ b. box_with b now.box.own.walk now.box.leaf now.box.read now.box.looked) start
  pub errand : IsSameErrand k walk
  pub looks : HasGroup start.box.opening.tree start.box.cpu →
      LooksAt start.box.opening start.box.cpu walk now.box.looked.seen walk.stage
  pub unmoved : (HasGroup start.box.opening.tree start.box.cpu → ⊥) → now ≡ start

-- the walk of a part has made its step, or has come to its end
pub record HasAdvanced (more : Bool) (old new : HeldPart) : Type 0 where
  pub fits : PartFits old.box
  pub went : (k : Walk) → old.box.own.walk ≡ Some k →
      MatchBool more
      ((is_under_way k.stage ≡ true) × StepOf old.box.opening k k.stage true old new)
      ((is_under_way k.stage ≡ false) × (new ≡ old))

-- THE END OF THE WAY: the walk that set out stands where it finishes, and has found and told
pub record HasComeToEnd (start end : HeldPart) (k : Walk) : Type 0 where
  pub walk : Walk
  pub has : end.box.own.walk ≡ Some walk
  pub rest : end
      ≡ on_part (λ b. box_with b end.box.own.walk end.box.leaf end.box.read end.box.looked) start
  pub errand : IsSameErrand k walk
  pub stage : walk.stage ≡ stages.Finish
  pub found : FindsFirst (box_leaf_of start.box) start.box.opening start.box.cpu k.kind k.next
      end.box.looked.seen walk.first
  pub leaf : end.box.leaf ≡ told_leaf (box_leaf_of start.box) start.box.cpu k.next start.box.leaf
