-- how an activation climbs (no public clause cites it)
use Rattle.std.specs.Prelude.{◌≡◌, ℕ, suc, ◌-◌, ◌*◌, ◌<◌, Bool, true, false, Option, Some}
use Rattle.std.specs.Prelude.{None}
use Rattle.tm_base.specs.declared.gates.Point.{Point}
use Rattle.tm_base.specs.declared.gates.Point.TheVariants as points
use Rattle.event_queue.specs.declared.event.Event.{Event}
use Rattle.walk_rules.specs.declared.walk.Walk.{Walk}
use Rattle.walk_rules.specs.declared.walk.WalkKind.TheVariants as kinds
use Rattle.walk_rules.specs.declared.walk.Stage.{Stage}
use Rattle.walk_rules.specs.declared.walk.Stage.TheVariants as stages
use Rattle.shared_cpus.specs.shared_rule.declared.parts.BoxView.{BoxView}
use Rattle.shared_cpus.specs.shared_rule.Whole.{no_looks}
use Rattle.shared_cpus.specs.shared_rule.Parts.{HeldPart}
use Rattle.shared_walks.specs.Steps.{on_part}
use Rattle.walk_active.specs.Activated.{ignored_where}

-- the gate's point before a stage
abbrev pub climb_point_at : Stage → Option Point
climb_point_at stages.Up = Some points.BeforeUp
climb_point_at (stages.Mark more) = Some points.BeforeMark
climb_point_at other = None

-- whether the CPU's own slot is still to be marked
abbrev pub begins_at : Stage → Bool
begins_at stages.Own = true
begins_at other = false

-- the CPU's slot in its leaf as its walk is going to leave it
abbrev pub leaf_left : Option Walk → Option Event → Option Event
leaf_left None e = e
leaf_left (Some k) e = ignored_where (begins_at k.stage) e

-- a box as its activation is going to leave it
abbrev pub arrived_box : BoxView → BoxView
arrived_box b = record b {
  own = record b.own { walk = None };
  leaf = leaf_left b.own.walk b.leaf;
}

-- a part as its activation is going to leave it
abbrev pub arrived : HeldPart → HeldPart
arrived part = on_part arrived_box part

-- whoever walks is an activation
abbrev pub Climbs : Option Walk → Type 0
Climbs m = (k : Walk) → m ≡ Some k → k.kind ≡ kinds.Activate

-- how many steps there are at most at a stage and after it
abbrev pub left_at : (level : ℕ) → Stage → ℕ
left_at level stages.Own = 8
left_at level stages.Up = suc (2 * (3 - level))
left_at level (stages.Mark more) = 2 * (3 - level)
left_at level other = 0

-- how many steps a walk makes at most
abbrev pub steps_left : Option Walk → ℕ
steps_left None = 0
steps_left (Some k) = left_at k.level k.stage

-- a step of an activation: what it is going to leave is the same, with nothing to remember, and it
-- has fewer steps left
pub record HasClimbed (old new : HeldPart) : Type 0 where
  pub climbs : Climbs new.box.own.walk
  pub looked : new.box.looked ≡ no_looks
  pub same : arrived new ≡ arrived old
  pub fewer : steps_left new.box.own.walk < steps_left old.box.own.walk
