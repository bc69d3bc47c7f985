-- a run as it begins: the parts of its CPUs, in order, and what is kept for its end
use Rattle.std.specs.Prelude.{◌≡◌, ℕ, ◌-◌, ◌≤◌, List, [], Some, drop, length, map}
use Rattle.std.specs.List.{range_with_len}
use Rattle.atomic_table.specs.Seated.{TableId}
use Rattle.core_world.specs.World.{CpuRecord, World}
use Rattle.shared_rule.specs.declared.parts.BoxView.{BoxView}
use Rattle.shared_rule.specs.declared.parts.PassView.{PassView}
use Rattle.shared_rule.specs.Rule.{Me, seat_of}
use Rattle.shared_rule.specs.Starts.{first_pass_of, first_whole}
use Rattle.shared_rule.specs.Whole.{box_of}
pub use Rattle.shared_rule.specs.Free.{IsFree}
use Rattle.shared_rule.specs.Passes.{HeldPass}
use Rattle.shared_table.specs.Readied.{IsRoomFor}

-- the box part of a CPU as a run begins (no public clause cites it)
abbrev pub first_box_of : World → ℕ → BoxView
first_box_of o c = box_of o (first_whole o 0) c

-- so many box parts from a CPU on (no public clause cites it)
abbrev pub boxes_from : World → (c count : ℕ) → List BoxView
boxes_from o c count = map (first_box_of o) (range_with_len c count)

-- so many pass parts from a CPU on (no public clause cites it)
abbrev pub passes_from : World → (made c count : ℕ) → List PassView
passes_from o made c count = map (first_pass_of o made) (range_with_len c count)

-- the pass of a CPU as a run begins, without room for a receipt
abbrev pub begun_pass : TableId → World → (made c : ℕ) → HeldPass
begun_pass table o made c = record {
  cpu = c;
  room = 0;
  seated = Some (record { table = table; pass = first_pass_of o made c });
}

-- the passes of all CPUs as a run begins, in order
abbrev pub begun_passes : TableId → World → (made : ℕ) → List HeldPass
begun_passes table o made = map (begun_pass table o made) (range_with_len 0 (length o.cpus))

-- there is memory for so many boxes, and none of them is there yet (no public clause cites it)
pub record IsBoxRoom (n count capacity : ℕ) : Type 0 where
  pub none : count ≡ 0
  pub enough : n ≤ capacity

-- the seat that is kept for the end is the run's and has no part, and the run's table has no slot
-- (no public clause cites it)
pub record IsSpareSeat (name seat : TableId) (me : Me) : Type 0 where
  pub seated : seat ≡ name
  pub knows : me ≡ seat_of [] []
  pub slots : name.slots ≡ 0

-- what is kept of the core for the end: its clock, and room for its groups, for where its timers
-- are, for its CPUs and for what it counts of them (no public clause cites it)
pub record RoomsFit (o : World) (clock groups holders : ℕ) (cpus : List CpuRecord)
    (capacity marks : ℕ) : Type 0 where
  pub clock_is : clock ≡ o.clock
  pub groups_are : groups ≡ length o.groups
  pub holders_are : holders ≡ o.timers
  pub cpus_fit : IsRoomFor o cpus capacity
  pub marks_are : marks ≡ length o.cpus

-- BOXES SO FAR: those of the CPUs below c are made, and the seat has the parts of the others (no
-- public clause cites it)
pub record BoxesSoFar (o : World) (table : TableId) (c : ℕ) (seat : TableId) (me : Me)
    (passes : List PassView) (rest : List CpuRecord) (left made capacity : ℕ) : Type 0 where
  pub seated : seat ≡ table
  pub knows : me ≡ seat_of (boxes_from o c (length o.cpus - c)) passes
  pub rest_are : rest ≡ drop c o.cpus
  pub left_are : left ≡ length o.cpus - c
  pub made_are : made ≡ c
  pub room : length o.cpus ≤ capacity

-- PASSES SO FAR: those of the CPUs below c are made, and the seat has the parts of the others (no
-- public clause cites it)
pub record PassesSoFar (o : World) (table : TableId) (made c : ℕ) (seat : TableId) (me : Me)
    (passes : List HeldPass) (count capacity : ℕ) : Type 0 where
  pub seated : seat ≡ table
  pub knows : me ≡ seat_of [] (passes_from o made c (length o.cpus - c))
  pub made_are : passes ≡ map (begun_pass table o made) (range_with_len 0 c)
  pub count_is : count ≡ c
  pub room : length o.cpus ≤ capacity
