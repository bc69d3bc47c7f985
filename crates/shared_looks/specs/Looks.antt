-- what a pass has seen, load by load
use Rattle.std.specs.Prelude.{◌≡◌, List, [], ◌∷◌}
use Rattle.atomic_table.specs.Seated.{TableId}
use Rattle.core_world.specs.World.{World}
use Rattle.shared_cpus.specs.shared_rule.declared.parts.Look.{Look}
use Rattle.shared_cpus.specs.shared_rule.declared.parts.PassView.{PassView}
use Rattle.shared_cpus.specs.shared_rule.Plays.{seen_pass}
use Rattle.shared_cpus.specs.shared_rule.Passes.{HeldPass, IsPassIn}

-- a pass of the run, which began with this core
pub record IsPassBegunWith (table : TableId) (o : World) (held : HeldPass) : Type 0 where
  pub pass : PassView
  pub seated : IsPassIn table held pass
  pub opening : pass.opening ≡ o

-- a pass after these loads, in order
abbrev pub seen_all : List Look → PassView → PassView
seen_all [] p = p
seen_all (x ∷ xs) p = seen_all xs (seen_pass x.word x.found p)
