-- a table that no thread has yet, as its holder sees it
use Rattle.std.specs.Prelude.{◌≡◌, ℕ, ◌≤◌, List, [], length}
use Rattle.atomic_table.specs.Seated.{TableId}
use Rattle.core_world.specs.Covered.{IsSettled}
use Rattle.core_world.specs.World.{CpuRecord, World, cpu_of}
use Rattle.shared_words.specs.Layout.{count_of}
use Rattle.shared_rule.specs.Rule.{Me}
use Rattle.shared_rule.specs.Starts.{first_view}
use Rattle.shared_rule.specs.Whole.{layout_of}
pub use Rattle.shared_rule.specs.Free.{HasNoneBehind}
use Rattle.shared_table.specs.declared.ready.TheConstants.{MOST_MADE}

-- the core, how many walks count as begun with each pass, and the identity of the table
pub record HeldReady : Type 0 where
  pub core : World
  pub made : ℕ
  pub table : TableId

-- a core with which a run may begin: at rest, with no base behind, and walks left for each pass
pub record MayBegin (o : World) (made : ℕ) : Type 0 where
  pub settled : IsSettled o
  pub whole : (c : ℕ) → HasNoneBehind (cpu_of o c).bases
  pub few : made ≤ MOST_MADE

-- the table has a word for each place of the core, which it was told, and no slot, and the one seat
-- knows all of it
pub record IsTableOf (o : World) (made : ℕ) (table : TableId) (key : World) (seat : TableId)
    (me : Me) : Type 0 where
  pub opened : key ≡ o
  pub count : table.words ≡ count_of (layout_of o)
  pub slots : table.slots ≡ 0
  pub seated : seat ≡ table
  pub knows : me ≡ (first_view o made, [])

-- there is memory for the CPUs of the core, and none of them is there yet
pub record IsRoomFor (o : World) (cpus : List CpuRecord) (capacity : ℕ) : Type 0 where
  pub none : cpus ≡ []
  pub enough : length o.cpus ≤ capacity
