-- a plain moment of a run: that of a play, with its lines by ascending CPU
use Rattle.std.specs.Prelude.{ℕ}
use Rattle.play_rules.specs.Parts.{Played}
use Rattle.run_story.specs.Stories.{by_cpu}

-- a part of a play with its lines by ascending CPU
abbrev pub by_cpus : {S : Type 0} → (cpus : ℕ) → Played S → Played S
by_cpus cpus p = record { lines = by_cpu cpus p.lines; work = p.work; state = p.state }
