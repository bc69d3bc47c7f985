use Rattle.std.proofs.Common.{◌≡◌, ℕ, ◌<◌, length}
use Rattle.std.specs.Prelude.{slice_index_or}
use Rattle.walk_rules.specs.Scene.{no_group}
use Rattle.core_world.specs.World.{World, group_of}
use Rattle.shared_table.specs.Endings.{SpellsAtRest}
use Rattle.shared_table.proofs.groups.read_groups.Given as goal

abbrev pub invariant-loop-group : goal.invariant-loop-group
invariant-loop-group l =
    record {
      count : length l.groups.items ≡ l.words.layout.groups;
      each : (w : World) → SpellsAtRest l.words w → (g : ℕ) → g < l.group
          → slice_index_or l.groups.items g no_group ≡ group_of w g;
    }
