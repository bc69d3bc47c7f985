-- what a step that changes the timers of one CPU makes of a world (no public clause cites it)
use Rattle.std.specs.Prelude.{ℕ}
use Rattle.cpu_bases.specs.CpuBases.{CpuBases}
use Rattle.core_world.specs.Steps.{with_bases}
use Rattle.core_world.specs.World.{World, cpu_of, own}

-- the world where the timers of CPU c are changed
abbrev pub with_timers : (CpuBases → CpuBases) → World → (c : ℕ) → World
with_timers change w c = own w c (with_bases (cpu_of w c) (change (cpu_of w c).bases))
