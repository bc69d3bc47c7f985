-- what a core in a run is between two moments
use Rattle.std.specs.Prelude.{◌↔◌, ℕ}
use Rattle.tm_base.specs.declared.names.Class.{Class}
use Rattle.wheel_core.specs.PlainBase.{NoneBehind}
use Rattle.cpu_bases.specs.CpuBases.{base_of}
use Rattle.tree_plan.specs.Shape.{IsPlanned}
use Rattle.core_world.specs.Covered.{IsSettled}
use Rattle.core_world.specs.Lawful.{IsLawful}
use Rattle.core_world.specs.World.{World, cpu_of}
use Rattle.step_play.specs.Rules.Seen.{InRun, resting}

-- no queued wheel expiry of any CPU is below its base's clock
abbrev pub NoneIsBehind : World → Type 0
NoneIsBehind w = (c : ℕ) (class : Class) → NoneBehind (base_of class (cpu_of w c).bases)

-- between two moments a lawful core of a planned tree is in a run exactly where it is settled and
-- nothing is behind a base's clock, whatever steps led to it
abbrev pub SettledIsInRun : Type 0
SettledIsInRun = (w : World) → IsLawful w → IsPlanned w.tree →
    InRun resting w ↔ (IsSettled w × NoneIsBehind w)
