-- whether the CPU of a part may be marked, and what a pass saw of it
use Rattle.std.specs.Prelude.{◌≡◌, ◌⊎◌, ℕ, true, None}
use Rattle.atomic_table.specs.Seated.{TableId}
use Rattle.event_queue.specs.Word.{slot_of}
use Rattle.tree_plan.specs.Paths.{group_at_of}
use Rattle.walk_rules.specs.Hierarchy.{HasGroup}
use Rattle.shared_cpus.specs.shared_rule.declared.parts.BoxView.{BoxView}
use Rattle.shared_cpus.specs.shared_rule.Whole.{own_word}
use Rattle.shared_cpus.specs.shared_rule.Parts.{HeldPart, pass_parted, with_guest}
use Rattle.shared_cpus.specs.shared_rule.Passes.{HeldPass}
use Rattle.shared_cpus.specs.Conditions.{IsDueThere}
use Rattle.shared_cpus.specs.Pairs.{cpu_place, leaf_place, with_seen}

-- MAY TAKE: the CPU of a part is online, idle and unmarked, and due in its leaf
pub record IsTakable (b : BoxView) : Type 0 where
  pub online : b.own.online ≡ true
  pub idle : b.own.idle ≡ true
  pub unmarked : b.own.mark ≡ None
  pub due : IsDueThere b

-- the word of the part's CPU was loaded
abbrev pub cpu_word_seen : (word : ℕ) → HeldPart → HeldPart
cpu_word_seen word part = with_seen (cpu_place part.box.opening part.box.cpu) word part

-- and then its slot in its leaf
abbrev pub leaf_seen : (word slot : ℕ) → HeldPart → HeldPart
leaf_seen word slot part =
    with_seen (leaf_place part.box.opening part.box.cpu) slot (cpu_word_seen word part)

-- THE LOADS: the word of the part's CPU, and where the CPU has a group its slot there; both are
-- what the part says
pub record IsNoticed (part new : HeldPart) : Type 0 where
  pub word : ℕ
  pub word_is : word ≡ own_word part.box.own
  pub then :
      ((group_at_of part.box.opening.tree part.box.cpu 0 ≡ None) × (new ≡ cpu_word_seen word part))
      ⊎ (HasGroup part.box.opening.tree part.box.cpu
      × ((slot : ℕ) × (slot_of slot ≡ part.box.leaf) × (new ≡ leaf_seen word slot part)))

-- the pass that was brought for them remembers them
pub record HasNoticed (table : TableId) (part : HeldPart) (held after : HeldPass) : Type 0 where
  pub seen : HeldPart
  pub noticed : IsNoticed (with_guest part held) seen
  pub pass_is : after ≡ pass_parted table held.cpu seen
