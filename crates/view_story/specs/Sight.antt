-- what was told so far, as the contracts see it
use Rattle.std.specs.Prelude.{List}
use Rattle.view_story.specs.declared.seen.TimerSeen.{TimerSeen}
use Rattle.view_story.specs.declared.seen.CpuSeen.{CpuSeen}
use Rattle.view_story.specs.declared.seen.Point.{Point}

-- the timers and the CPUs by number, and where the lines stand
pub record StorySight : Type 0 where
  pub timers : List TimerSeen
  pub cpus : List CpuSeen
  pub point : Point
