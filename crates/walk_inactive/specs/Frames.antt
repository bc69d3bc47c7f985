-- what every step of a walk leaves of the part of its CPU (no public clause cites it)
use Rattle.std.specs.Prelude.{◌≡◌, ℕ, Option, Some}
use Rattle.event_queue.specs.declared.event.Event.{Event}
use Rattle.walk_rules.specs.declared.walk.Walk.{Walk}
use Rattle.core_world.specs.Steps.{with_walk}
use Rattle.shared_cpus.specs.shared_rule.declared.parts.BoxView.{BoxView}
use Rattle.shared_cpus.specs.shared_rule.declared.parts.Looked.{Looked}
use Rattle.shared_cpus.specs.shared_rule.Parts.{HeldPart}
use Rattle.shared_walks.specs.Steps.{on_part}

-- a box with this walk, or none, and with what else a step of a walk changes
abbrev pub box_with : BoxView → Option Walk → Option Event → (read : ℕ) → Looked → BoxView
box_with b m leaf read looked =
    record b { own = with_walk b.own m; leaf = leaf; read = read; looked = looked }

-- a walk that goes on is for what it was for
pub record IsSameErrand (k j : Walk) : Type 0 where
  pub kind : j.kind ≡ k.kind
  pub pin : j.pin ≡ k.pin
  pub next : j.next ≡ k.next

-- THE FRAME of a step: all stays but the walk, the CPU's slot in its leaf, the word that was read
-- and what was found out, and the walk is for what it was for
pub record IsFramed (old new : HeldPart) : Type 0 where
  pub rest : new
      ≡ on_part (λ b. box_with b new.box.own.walk new.box.leaf new.box.read new.box.looked) old
  pub errand : (k j : Walk) → old.box.own.walk ≡ Some k → new.box.own.walk ≡ Some j
      → IsSameErrand k j
