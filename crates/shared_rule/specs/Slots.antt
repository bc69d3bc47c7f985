-- a load of a slot by a pass
use Rattle.std.specs.Prelude.{◌≡◌, ◌<◌, ℕ, List, [], ◌∷◌, Some, length}
use mathlib.Core.Option.{none}
use Rattle.atomic_table.specs.Table.{step}
use Rattle.event_queue.specs.declared.event.Event.{Event}
use Rattle.event_queue.specs.Word.{slot_of}
use Rattle.walk_rules.specs.Hierarchy.{HasGroup}
use Rattle.core_world.specs.World.{World}
use Rattle.shared_words.specs.Layout.{index_of}
use Rattle.shared_rule.specs.declared.parts.PassView.{PassView}
use Rattle.shared_rule.specs.Rule.{Me, Step, seat_of}
use Rattle.shared_rule.specs.Plays.{on_pass, seen_pass}
use Rattle.shared_rule.specs.Whole.{layout_of, slot_at}
use Rattle.shared_rule.specs.Laws.{LoadStays}

-- a CPU of the run that has a group
abbrev pub IsGrouped : World → (c : ℕ) → Type 0
IsGrouped o c = (c < length o.cpus) × HasGroup o.tree c

-- the event in the word of a slot, where there is one, is that of a CPU of the run that has a
-- group, as the first of these passes knows it
abbrev pub HasEventOf : List PassView → (found : ℕ) → Type 0
HasEventOf [] found = ⊥
HasEventOf (p ∷ ps) found = (e : Event) → slot_of found ≡ Some e → IsGrouped p.opening e.cpu.0

-- a load of a slot by a pass, whose event is that of a CPU of the run that has a group
abbrev pub SeesSlot : Step → Me → ℕ → Me → Type 0
SeesSlot t v found w = (w ≡ on_pass (seen_pass t.word found) v) × HasEventOf v.0.passes found

-- the load keeps the rule, and the pass remembers what it found
abbrev pub SeeSlotStays : World → Type 0
SeeSlotStays o = (slots id g child : ℕ) (q : PassView) → g < length o.groups → child < 8 →
    LoadStays o slots id q (slot_at g child)
    (SeesSlot (step slots (index_of (layout_of o) (slot_at g child)) 0 0 none)
    (seat_of [] (q ∷ [])))
