-- the words of a closed table, and the world at rest that they spell
use Rattle.std.specs.Prelude.{◌≡◌, ℕ, List, Some, length, map, slice_get, slice_index}
use Rattle.tm_base.specs.declared.names.CpuId.{CpuId}
use Rattle.tree_plan.specs.Shape.{Shape}
use Rattle.core_world.specs.Covered.{IsSettled}
use Rattle.core_world.specs.World.{CpuRecord, World}
use Rattle.shared_words.specs.declared.layout.Layout.{Layout}
use Rattle.shared_words.specs.declared.layout.SharedWord.{SharedWord}
use Rattle.shared_words.specs.declared.spot.Spot.{Spot}
use Rattle.shared_words.specs.Layout.{index_of}
use Rattle.shared_rule.specs.declared.parts.BoxView.{BoxView}
use Rattle.shared_rule.specs.declared.parts.PassView.{PassView}
use Rattle.shared_rule.specs.declared.parts.View.{View}
use Rattle.shared_rule.specs.Shows.{IsShown}
use Rattle.shared_rule.specs.Starts.{HasAll}
use Rattle.shared_rule.specs.Whole.{Spell, Whole, layout_of}

-- the words, and where each of them stands
pub record HeldWords : Type 0 where
  pub layout : Layout
  pub words : List ℕ

-- the word at a place
abbrev pub word_in : HeldWords → SharedWord → ℕ
word_in h p = slice_index h.words (index_of h.layout p)

-- the CPU of a place where a timer is queued
abbrev pub cpu_of_spot : Spot → CpuId
cpu_of_spot p = p.cpu

-- the world is at rest, is shown after some beginning, and is what the words spell
pub record SpellsAtRest (h : HeldWords) (w : World) : Type 0 where
  pub opening : World
  pub whole : Whole
  pub is : whole.world ≡ w
  pub layout : h.layout ≡ layout_of opening
  pub shown : IsShown opening whole
  pub spelled : Spell h.layout h.words whole
  pub settled : IsSettled whole.world

-- the world at rest that the words spell has this tree, this clock and these CPUs
pub record RebuildsAs (h : HeldWords) (tree : Shape) (clock : ℕ) (cpus : List CpuRecord) (w : World)
    : Type 0 where
  pub spelled : SpellsAtRest h w
  pub tree_is : tree ≡ w.tree
  pub clock_is : clock ≡ w.clock
  pub cpus_are : cpus ≡ w.cpus

-- the CPU of a box part
abbrev pub own_of : BoxView → CpuRecord
own_of b = b.own

-- a view that has all parts, no box with a walk and no pass inside an interrupt; the CPUs are those
-- of its boxes, in order
pub record HasAllParts (o : World) (v : View) (cpus : List CpuRecord) : Type 0 where
  pub all : HasAll o v.boxes v.passes
  pub cpus_are : cpus ≡ map own_of v.boxes

-- THE END of a run: the world is settled and is shown after the opening, with these passes, so that
-- their receipts are exactly the entries that are new (`IsShown.noted`)
pub record IsEnd (o w : World) (passes : List PassView) : Type 0 where
  pub whole : Whole
  pub is : whole.world ≡ w
  pub shown : IsShown o whole
  pub settled : IsSettled w
  pub count : length passes ≡ length o.cpus
  pub passes_are : (i : ℕ) (p : PassView) → slice_get passes i ≡ Some p → p ≡ whole.pass i
