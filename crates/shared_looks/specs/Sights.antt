-- what a pass sees of the groups that its CPU looks after
use Rattle.std.specs.Prelude.{◌≡◌, ◌⊎◌, ℕ, zero, suc, ◌≤◌, List, [], ◌∷◌, Some, None, length}
use Rattle.std.specs.Prelude.{Bool, true, false, map}
use Rattle.atomic_table.specs.Seated.{TableId}
use Rattle.tm_base.specs.declared.names.CpuId.{CpuId}
use Rattle.tm_base.specs.CpuSet.{Cpus}
use Rattle.std.specs.FinSet.{empty}
use Rattle.event_queue.specs.declared.event.Event.{Event}
use Rattle.event_queue.specs.EventMap.{ChangesOnly, EventMap, IsTakenUp, IsFirst, NoneFits}
use Rattle.event_queue.specs.EventMap.{event_at}
use Rattle.event_queue.specs.Word.{slot_of}
use Rattle.group_word.specs.declared.state.GroupState.{GroupState}
use Rattle.group_word.specs.Group.{LooksAfter}
use Rattle.group_word.specs.State.{IsStateOf}
use Rattle.tree_plan.specs.Paths.{group_at_of, level_count_of}
use Rattle.walk_rules.specs.Hierarchy.{side}
use Rattle.core_world.specs.World.{World}
use Rattle.shared_words.specs.Layout.{index_of}
use Rattle.shared_cpus.specs.shared_rule.declared.parts.Look as loads
use Rattle.shared_cpus.specs.shared_rule.declared.parts.PassView.{PassView}
use Rattle.shared_cpus.specs.shared_rule.Plays.{seen_pass}
use Rattle.shared_cpus.specs.shared_rule.Slots.{IsGrouped}
use Rattle.shared_cpus.specs.shared_rule.Whole.{layout_of, slot_at, state_at}
use Rattle.shared_cpus.specs.shared_rule.Passes.{HeldPass, IsPassIn, with_pass}
use Rattle.shared_looks.specs.declared.sight.Look.{Look}
use Rattle.shared_looks.specs.declared.sight.Look.TheVariants as answers
use Rattle.shared_looks.specs.Looks.{seen_all}

-- GROUPS: a child looks after its group by this word, which is that of a state
abbrev pub LooksBy : (word child : ℕ) → Type 0
LooksBy word child = (s : GroupState) × IsStateOf word s × LooksAfter s.migrator child

-- and another child does
abbrev pub OtherBy : (word child : ℕ) → Type 0
OtherBy word child = (s : GroupState) × IsStateOf word s × (LooksAfter s.migrator child → ⊥)

-- the load of a group's word
abbrev pub state_look : World → (g found : ℕ) → loads.Look
state_look o g found = record { word = index_of (layout_of o) (state_at g); found = found }

-- the load of a slot
abbrev pub slot_look : World → (g child found : ℕ) → loads.Look
slot_look o g child found =
    record { word = index_of (layout_of o) (slot_at g child); found = found }

-- the loads of slots one after the other, from that of a child on
abbrev pub slot_looks : World → (g child : ℕ) → List ℕ → List loads.Look
slot_looks o g child [] = []
slot_looks o g child (found ∷ founds) =
    slot_look o g child found ∷ slot_looks o g (suc child) founds

-- the events in the words of slots, from that of child 0 on
abbrev pub events_in : List ℕ → EventMap
events_in founds = map slot_of founds

-- ONE SLOT: its word is loaded, and its event is put into a map; it is of a CPU of the run that
-- has a group (no public clause cites it)
pub record HasSeenSlot (table : TableId) (o : World) (g child : ℕ) (held after : HeldPass)
    (old new : EventMap) : Type 0 where
  pub found : ℕ
  pub pass_is : after ≡ with_pass (seen_pass (slot_look o g child found).word found) held
  pub changes : ChangesOnly old new child (slot_of found)
  pub named : (p : PassView) (e : Event) → IsPassIn table held p → slot_of found ≡ Some e →
      IsGrouped p.opening e.cpu.0

-- SO MANY SLOTS of a group, from that of child 0 on: their words are loaded, and their events put
-- into a map (no public clause cites it)
pub record HasSeenSlots (table : TableId) (o : World) (g count : ℕ) (held after : HeldPass)
    (events : EventMap) : Type 0 where
  pub founds : List ℕ
  pub count_is : length founds ≡ count
  pub pass_is : after ≡ with_pass (seen_all (slot_looks o g 0 founds)) held
  pub events_are : (k : ℕ) → event_at events k ≡ event_at (events_in founds) k
  pub named : (p : PassView) (k : ℕ) (e : Event) → IsPassIn table held p →
      event_at (events_in founds) k ≡ Some e → IsGrouped p.opening e.cpu.0

-- LOOKED AT, the group of a CPU's path at a level: its word, by which the CPU's side looks after
-- it, and then its eight slots
pub record HasSeenGroup (o : World) (cpu level : ℕ) (held after : HeldPass) : Type 0 where
  pub group : ℕ
  pub path : group_at_of o.tree cpu level ≡ Some group
  pub word : ℕ
  pub looks : LooksBy word (side o.tree cpu level)
  pub founds : List ℕ
  pub eight : length founds ≡ 8
  pub pass_is :
      after ≡ with_pass (seen_all (state_look o group word ∷ slot_looks o group 0 founds)) held

-- the group has another migrator: its word alone was loaded
pub record IsOthers (o : World) (cpu level : ℕ) (held after : HeldPass) : Type 0 where
  pub group : ℕ
  pub path : group_at_of o.tree cpu level ≡ Some group
  pub word : ℕ
  pub other : OtherBy word (side o.tree cpu level)
  pub pass_is : after ≡ with_pass (seen_pass (state_look o group word).word word) held

-- nothing that the group's slots showed is due and untried
pub record ShowsNothing (o : World) (now : ℕ) (tried : Cpus) (cpu level : ℕ)
    (held after : HeldPass) : Type 0 where
  pub seen : HasSeenGroup o cpu level held after
  pub none : NoneFits (IsTakenUp now tried) (events_in seen.founds)

-- the first event that they showed due and untried is that of a CPU, which is one of the run and
-- has a group
pub record ShowsDue (table : TableId) (o : World) (now : ℕ) (tried : Cpus) (cpu level : ℕ)
    (held after : HeldPass) (due : CpuId) : Type 0 where
  pub seen : HasSeenGroup o cpu level held after
  pub child : ℕ
  pub event : Event
  pub first : IsFirst (IsTakenUp now tried) (events_in seen.founds) child event
  pub cpu_is : event.cpu ≡ due
  pub of_run : (p : PassView) → IsPassIn table held p → IsGrouped p.opening due.0

-- LOOK: what a look of a CPU at its group at a level answers, by what it loaded
abbrev pub HasLooked : TableId → World → (now : ℕ) → Cpus → (cpu level : ℕ)
    → (held after : HeldPass) → Look → Type 0
HasLooked table o now tried cpu level held after answers.NoGroup =
    (group_at_of o.tree cpu level ≡ None) × (after ≡ held)
HasLooked table o now tried cpu level held after answers.Other =
    IsOthers o cpu level held after
HasLooked table o now tried cpu level held after answers.Nothing =
    ShowsNothing o now tried cpu level held after
HasLooked table o now tried cpu level held after (answers.Due due) =
    ShowsDue table o now tried cpu level held after due

-- LEVEL BY LEVEL: looks at so many levels, from the leaf on, showed nothing due
abbrev pub NothingBelow : TableId → World → (now cpu level : ℕ) → (held after : HeldPass) → Type 0
NothingBelow table o now cpu zero held after = after ≡ held
NothingBelow table o now cpu (suc l) held after =
    (mid : HeldPass) × NothingBelow table o now cpu l held mid
    × HasLooked table o now empty cpu l mid after answers.Nothing

-- at the next level no group is, or one that another CPU looks after
abbrev pub IsNoFurther : TableId → World → (now cpu level : ℕ) → (held after : HeldPass) → Type 0
IsNoFurther table o now cpu level held after =
    ((level_count_of o.tree ≤ level) × (after ≡ held))
    ⊎ (HasLooked table o now empty cpu level held after answers.NoGroup
    ⊎ HasLooked table o now empty cpu level held after answers.Other)

-- NEEDS: below a level nothing was due, and there an event was; or there was no further group of
-- the CPU
abbrev pub NeedsRemote : TableId → World → (now cpu : ℕ) → (held after : HeldPass) → Bool → Type 0
NeedsRemote table o now cpu held after true =
    (l : ℕ) × (mid : HeldPass) × (due : CpuId) × NothingBelow table o now cpu l held mid
    × HasLooked table o now empty cpu l mid after (answers.Due due)
NeedsRemote table o now cpu held after false =
    (l : ℕ) × (mid : HeldPass) × NothingBelow table o now cpu l held mid
    × IsNoFurther table o now cpu l mid after
