-- what a whole walk that tells makes of the box of its CPU, and of the pass that is brought
use Rattle.std.specs.Prelude.{◌≡◌, ℕ, suc, ◌==◌, ◌&&◌, not, Bool, true, false, List, [], ◌∷◌, ◌++◌}
use Rattle.std.specs.Prelude.{length, min, Option, Some, None}
use Rattle.event_queue.specs.declared.event.Event.{Event}
use Rattle.cpu_bases.specs.CpuBases.{events_of}
use Rattle.tree_plan.specs.Paths.{group_at_of}
use Rattle.walk_rules.specs.declared.walk.WalkKind.{WalkKind}
use Rattle.walk_rules.specs.declared.walk.WalkKind.TheVariants as kinds
use Rattle.walk_rules.specs.Stages.{leaf_event}
use Rattle.core_world.specs.World.{CpuRecord}
use Rattle.shared_cpus.specs.core_state.Shown.{as_cpu}
use Rattle.shared_cpus.specs.shared_rule.declared.parts.BoxView.{BoxView}
use Rattle.shared_cpus.specs.shared_rule.declared.parts.Deed.TheVariants as deeds
use Rattle.shared_cpus.specs.shared_rule.declared.parts.PassView.{PassView}
use Rattle.shared_cpus.specs.shared_rule.Plays.{head_pass}
use Rattle.shared_cpus.specs.shared_rule.Turns.{marks_without}
use Rattle.shared_cpus.specs.shared_rule.Parts.{HeldPart}
use Rattle.walk_inactive.specs.Looks.{FindsFirst}

-- the leaf of a box's CPU, where it has one
abbrev pub box_leaf_of : BoxView → Option ℕ
box_leaf_of b = group_at_of b.opening.tree b.cpu 0

-- the event that a box's CPU has for its leaf, in jiffies
abbrev pub next_of : BoxView → ℕ
next_of b = (events_of b.own.bases).next

-- the slot of a CPU in its leaf after a walk that tells: its next event, if there is a leaf
abbrev pub told_leaf : Option ℕ → (cpu next : ℕ) → Option Event → Option Event
told_leaf None cpu next old = old
told_leaf (Some leaf) cpu next old = leaf_event cpu next

-- A WHOLE WALK of a kind: by what it looked at it has found the first event to wake for, its CPU
-- has changed so by that, the CPU's slot in its leaf says its next event, and all else of the box
-- stays but the word that was read
pub record HasWalkTold (kind : WalkKind) (change : (first : ℕ) → CpuRecord → CpuRecord)
    (old new : BoxView) : Type 0 where
  pub first : ℕ
  pub found : FindsFirst (box_leaf_of old) old.opening old.cpu kind (next_of old)
      new.looked.seen first
  pub box : new ≡ record old {
    own = change first old.own;
    leaf = told_leaf (box_leaf_of old) old.cpu (next_of old) old.leaf;
    read = new.read;
    looked = new.looked;
  }

-- THE WAKEUP of a CPU: its first pinned timer, or what its walk has found, if that is sooner
abbrev pub wakeup_of : (first : ℕ) → CpuRecord → ℕ
wakeup_of first y = min (events_of y.bases).pin first

-- a CPU that has gone idle
abbrev pub gone_idle : (first : ℕ) → CpuRecord → CpuRecord
gone_idle first y = record y { idle = true; wakeup = wakeup_of first y }

-- the pass of a CPU that has gone idle, with the wakeup of its box
abbrev pub pass_at_rest : BoxView → PassView → PassView
pass_at_rest b p =
    record p { walks = suc p.walks; idle = true; reeval = false; wakeup = b.own.wakeup }

-- and with the journal of the box, as it is parted from it
abbrev pub pass_rested : BoxView → PassView → PassView
pass_rested b p = record (pass_at_rest b p) { journal = b.own.bases.journal }

-- a CPU that has re-evaluated
abbrev pub cpu_reevaluated : (first : ℕ) → CpuRecord → CpuRecord
cpu_reevaluated first y = record y { wakeup = wakeup_of first y; inside = false }

-- the pass of a CPU that has re-evaluated
abbrev pub pass_retold : BoxView → PassView → PassView
pass_retold b p = record p {
  walks = suc p.walks;
  wakeup = b.own.wakeup;
  inside = false;
  reeval = false;
}

-- a CPU whose next event was carried by the one that had marked it
abbrev pub unmarked : (first : ℕ) → CpuRecord → CpuRecord
unmarked first y = record y { mark = None }

-- the pass that had marked it, and has carried
abbrev pub has_carried : BoxView → PassView → PassView
has_carried b p = record p {
  walks = suc p.walks;
  marks = marks_without b.cpu p.marks;
  did =
      p.did
      ++ record { held = length p.receipts; deed = deeds.Carried b.cpu (next_of b) } ∷ [];
}

-- A WHOLE WALK with a pass that is brought: box and pass have changed by what it has found, and all
-- else of the part has stayed
pub record HasWalked (kind : WalkKind) (change : (first : ℕ) → CpuRecord → CpuRecord)
    (with_it : BoxView → PassView → PassView) (old new : HeldPart) : Type 0 where
  pub told : HasWalkTold kind change old.box new.box
  pub rest : new ≡ record old {
    box = new.box;
    brought = head_pass (with_it new.box) old.brought;
  }

-- whether a CPU's mark is that of this one
abbrev pub is_mark_of : Option ℕ → (cpu : ℕ) → Bool
is_mark_of None cpu = false
is_mark_of (Some by) cpu = by == cpu

-- whether a CPU re-evaluates with this pass, and isn't carried for: the pass is its own, and it
-- hasn't marked itself
abbrev pub retells_with : BoxView → List PassView → Bool
retells_with b [] = false
retells_with b (p ∷ ps) = (p.cpu == b.cpu) && not (is_mark_of b.own.mark b.cpu)

-- a walk of a part that carries for the CPU of the pass that is brought
abbrev pub HasCarried : HeldPart → HeldPart → Type 0
HasCarried old new =
    (p : PassView) → old.brought ≡ p ∷ [] →
    HasWalked (kinds.Remote (as_cpu p.cpu)) unmarked has_carried old new
