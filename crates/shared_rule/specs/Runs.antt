-- the table of a run, and the core with which it began
use Rattle.std.specs.Prelude.{◌≡◌, [], length}
use Rattle.std.specs.FinSet.{empty}
use Rattle.atomic_table.specs.Seated.{TableId}
use Rattle.tree_plan.specs.Shape.{Shape}
use Rattle.tree_plan.specs.Paths.{cpu_count_of, group_count_of}
use Rattle.core_world.specs.World.{World}
use Rattle.shared_words.specs.declared.layout.Layout.{Layout}
use Rattle.shared_words.specs.Layout.{count_of}
use Rattle.shared_rule.specs.Whole.{layout_of}

-- a run is the one that is named: its table, of the core with which it began; its tree and its
-- layout are that core's, and the table has a word for each place
pub record RunFits (name : TableId) (o : World) (table : TableId) (key : World) (tree : Shape)
    (layout : Layout) : Type 0 where
  pub named : table ≡ name
  pub opened : key ≡ o
  pub shape : tree ≡ o.tree
  pub places : layout ≡ layout_of o
  pub count : table.words ≡ count_of layout
  -- the core has the groups and CPUs of its tree
  pub groups : length o.groups ≡ group_count_of o.tree
  pub cpus : length o.cpus ≡ cpu_count_of o.tree

-- the table that no run has
abbrev pub no_table : TableId
no_table = record {
  words = 0;
  slots = 0;
  views_name = 0;
  atom = 0;
  block = 0;
  offset = 0;
  slot_names = [];
}

-- a core without CPUs
abbrev pub no_world : World
no_world = record {
  tree = record { nodes = 0; cpus = 0; isolated = empty; levels = [] };
  timers = 0;
  clock = 0;
  groups = [];
  cpus = [];
}
