-- what the passes and boxes of a run have together
use Rattle.std.specs.Prelude.{◌≡◌, ℕ, ◌+◌, ◌≤◌, List, [], ◌∷◌, ◌++◌, length, map}
use Rattle.atomic_table.specs.Seated.{TableId}
use Rattle.core_world.specs.World.{CpuRecord, World}
use Rattle.shared_rule.specs.declared.parts.BoxView.{BoxView}
use Rattle.shared_rule.specs.declared.parts.PassView.{PassView}
use Rattle.shared_rule.specs.Rule.{Each, Me, seen, together}
use Rattle.shared_rule.specs.Parts.{HeldPart}
use Rattle.shared_rule.specs.Passes.{HeldPass, IsOfRun, passes_of}
use Rattle.shared_table.specs.Begun.{IsFree}
use Rattle.shared_table.specs.Ended.{BeganWith}

-- the parts of these passes, in order
abbrev pub parts_of : List HeldPass → List PassView
parts_of [] = []
parts_of (p ∷ ps) = passes_of p.seated ++ parts_of ps

-- the box of a part
abbrev pub box_in : HeldPart → BoxView
box_in p = p.box

-- the CPU of a part
abbrev pub own_in : HeldPart → CpuRecord
own_in p = p.box.own

-- the boxes of these parts, in order
abbrev pub boxes_of : List HeldPart → List BoxView
boxes_of ps = map box_in ps

-- the CPUs of these parts, in order
abbrev pub owns_of : List HeldPart → List CpuRecord
owns_of ps = map own_in ps

-- what a seat has, and these passes behind its own
abbrev pub with_passes : Me → List HeldPass → Me
with_passes m ps = (together m.0 (seen [] (parts_of ps)), m.1)

-- what a seat has, and these boxes behind its own
abbrev pub with_boxes : Me → List HeldPart → Me
with_boxes m ps = (together m.0 (seen (boxes_of ps) []), m.1)

-- PASSES SO FAR: those that are left make of the seat what all make of the one that it was (no
-- public clause cites it)
pub record PassesLeft (table seat : TableId) (me first : Me) (rest all : List HeldPass) : Type 0
  where
    pub seated : seat ≡ table
    pub of_run : Each (IsOfRun table) rest
    pub joined : with_passes me rest ≡ with_passes first all

-- BOXES SO FAR: the same of boxes, and of the CPUs that are written (no public clause cites it)
pub record BoxesLeft (o : World) (table seat : TableId) (me first : Me) (rest all : List HeldPart)
    (cpus before : List CpuRecord) (capacity : ℕ) : Type 0 where
  pub seated : seat ≡ table
  pub room : length cpus + length rest ≤ capacity
  pub joined : with_boxes me rest ≡ with_boxes first all
  pub written : cpus ++ owns_of rest ≡ before ++ owns_of all
  pub free : Each IsFree rest → Each IsFree all
  pub began : Each (BeganWith o) rest → Each (BeganWith o) all
