-- what a step of a CPU makes of its part, and of the pass that is brought
use Rattle.std.specs.Prelude.{◌≡◌, ℕ, List, [], ◌∷◌}
use Rattle.walk_rules.specs.Hierarchy.{group_on, side}
use Rattle.core_world.specs.World.{World}
use Rattle.shared_words.specs.Layout.{index_of}
use Rattle.shared_rule.specs.declared.parts.BoxView.{BoxView}
use Rattle.shared_rule.specs.declared.parts.PassView.{PassView}
use Rattle.shared_rule.specs.Whole.{cpu_at, layout_of, slot_at}
use Rattle.shared_rule.specs.Plays.{head_pass, seen_pass}
use Rattle.shared_rule.specs.Parts.{HasGuest, HeldPart}

-- a box that changes by what the first pass is
abbrev pub box_by : (BoxView → PassView → BoxView) → BoxView → List PassView → BoxView
box_by f b [] = b
box_by f b (p ∷ ps) = f b p

-- BY PAIR: a part whose box and whose brought pass change, each by what both were; what there is
-- memory for stays
abbrev pub by_pair : (BoxView → PassView → BoxView) → (BoxView → PassView → PassView)
    → HeldPart → HeldPart
by_pair f h part = record part {
  box = box_by f part.box part.brought;
  brought = head_pass (h part.box) part.brought;
}

-- a box that changes whatever the pass is
abbrev pub of_box : (BoxView → BoxView) → BoxView → PassView → BoxView
of_box f b p = f b

-- a part whose brought pass has loaded a word
abbrev pub with_seen : (word found : ℕ) → HeldPart → HeldPart
with_seen word found = by_pair (λ b p. b) (λ b p. seen_pass word found p)

-- one pass is brought
abbrev pub HasOne : HeldPart → Type 0
HasOne part = (p : PassView) × (part.brought ≡ p ∷ [])

-- the own pass of the part's CPU is brought
abbrev pub HasOwn : HeldPart → Type 0
HasOwn part = HasGuest part.box.cpu part

-- where the word of a CPU stands
abbrev pub cpu_place : World → (cpu : ℕ) → ℕ
cpu_place o cpu = index_of (layout_of o) (cpu_at cpu)

-- where the slot of a CPU in its leaf stands
abbrev pub leaf_place : World → (cpu : ℕ) → ℕ
leaf_place o cpu = index_of (layout_of o) (slot_at (group_on o.tree cpu 0) (side o.tree cpu 0))
