-- the core with what the table knows beside it, and the word that stands at each place
use Rattle.std.specs.Prelude.{◌≡◌, ℕ, Bool, List, [], Option}
use Rattle.std.specs.Prelude.{Some, None, length, slice_index, option_map}
use Rattle.tm_base.specs.declared.names.Class.{Class}
use Rattle.event_queue.specs.declared.event.Event.{Event}
use Rattle.event_queue.specs.EventMap.{event_at}
use Rattle.group_word.specs.declared.state.GroupState.{GroupState}
use Rattle.group_word.specs.State.{state_word}
use Rattle.shared_words.specs.cpu_word.Word.{cpu_word}
use Rattle.tree_plan.specs.Paths.{group_at_of}
use Rattle.walk_rules.specs.Scene.{Group}
use Rattle.walk_rules.specs.Stages.{forget}
use Rattle.walk_rules.specs.Hierarchy.{side}
use Rattle.core_world.specs.World.{World, CpuRecord, cpu_of, group_of}
use Rattle.core_state.specs.Shown.{shown_cpu}
use Rattle.shared_words.specs.declared.layout.Layout.{Layout}
use Rattle.shared_words.specs.declared.layout.SharedWord.{SharedWord}
use Rattle.shared_words.specs.declared.layout.SharedWord.TheVariants.{State, Lock, Slot, Cpu, Timer}
use Rattle.shared_words.specs.declared.spot.Spot.{Spot}
use Rattle.shared_words.specs.Layout.{IsWordOf, count_of, index_of}
use Rattle.shared_words.specs.Words.{lock_word, spot_word, word_of_slot}
use Rattle.shared_rule.specs.declared.parts.BoxView.{BoxView}
use Rattle.shared_rule.specs.declared.parts.PassView.{PassView}
use Rattle.shared_rule.specs.declared.parts.Looked.{Looked}

-- PLACES: a word by the number of its group, CPU or timer
abbrev pub state_at : ℕ → SharedWord
state_at g = State (record { 0 = g })

-- the lock of a group
abbrev pub lock_at : ℕ → SharedWord
lock_at g = Lock (record { 0 = g })

-- the slot of a group's child
abbrev pub slot_at : (g k : ℕ) → SharedWord
slot_at g k = Slot (record { 0 = g }) k

-- the word of a CPU
abbrev pub cpu_at : ℕ → SharedWord
cpu_at c = Cpu (record { 0 = c })

-- the word of a timer
abbrev pub timer_at : ℕ → SharedWord
timer_at t = Timer (record { 0 = t })

-- how many groups, CPUs and timers a world has
abbrev pub layout_of : World → Layout
layout_of w = record { groups = length w.groups; cpus = length w.cpus; timers = w.timers }

-- a timer is queued in the base of a class on a CPU
abbrev pub spot_at : (c : ℕ) → Class → Spot
spot_at c class = record { cpu = record { 0 = c }; class = class }

-- a walk that has found out nothing
abbrev pub no_looks : Looked
no_looks = record { seen = []; tried = [] }

-- THE WHOLE: the core, and what only the table knows: of each group how many exchanges were made;
-- of each walk the word of a group that it read last and what it has found out; of each empty slot
-- whether it keeps the ignored bit; of each timer where it is queued; and the passes
pub record Whole : Type 0 where
  pub world : World
  pub seq : ℕ → ℕ
  pub read : ℕ → ℕ
  pub stray : ℕ → ℕ → Bool
  pub spot : ℕ → Option Spot
  pub looked : ℕ → Looked
  pub pass : ℕ → PassView

-- a group's state, with its sequence
abbrev pub group_state : Group → ℕ → GroupState
group_state x q = record { active = x.active; migrator = x.migrator; seq = q }

-- the word of a group's state
abbrev pub group_word : Whole → ℕ → ℕ
group_word s g = state_word (group_state (group_of s.world g) (s.seq g))

-- the word of a CPU
abbrev pub own_word : CpuRecord → ℕ
own_word y = cpu_word (shown_cpu y)

-- THE WORDS: what stands at each place
abbrev pub word_at : Whole → SharedWord → ℕ
word_at s (State g) = group_word s g.0
word_at s (Lock g) = lock_word (group_of s.world g.0).lock
word_at s (Slot g k) = word_of_slot (s.stray g.0 k) (event_at (group_of s.world g.0).events k)
word_at s (Cpu c) = own_word (cpu_of s.world c.0)
word_at s (Timer t) = spot_word (s.spot t.0)

-- the words spell the whole
pub record Spell (l : Layout) (words : List ℕ) (s : Whole) : Type 0 where
  pub count : length words ≡ count_of l
  pub each : (p : SharedWord) → IsWordOf l p → slice_index words (index_of l p) ≡ word_at s p

-- PARTS: a CPU without what another one's exchange may change
abbrev pub quiet : CpuRecord → CpuRecord
quiet y = record y { walk = option_map forget y.walk }

-- the slot of a CPU in this leaf, if there is one
abbrev pub leaf_in : World → ℕ → Option ℕ → Option Event
leaf_in w c None = None
leaf_in w c (Some g) = event_at (group_of w g).events (side w.tree c 0)

-- the slot of a CPU in its leaf
abbrev pub leaf_of : World → ℕ → Option Event
leaf_of w c = leaf_in w c (group_at_of w.tree c 0)

-- a box part, of its fields
abbrev pub box_as : World → ℕ → CpuRecord → Option Event → ℕ → Looked → BoxView
box_as o c y leaf read looked = record {
  opening = o;
  cpu = c;
  own = quiet y;
  leaf = leaf;
  read = read;
  looked = looked;
}

-- the box part of a CPU
abbrev pub box_of : World → Whole → ℕ → BoxView
box_of o s c =
    box_as o c (cpu_of s.world c) (leaf_of s.world c) (s.read c) (s.looked c)
