-- what a load of a timer's word named; and loads as shared_looks has them, for crates above
use Rattle.std.specs.Prelude.{◌≡◌, ℕ, ◌<◌, Some, length}
use Rattle.core_world.specs.World.{World}
use Rattle.shared_words.specs.declared.spot.Spot.{Spot}
use Rattle.shared_words.specs.Words.{spot_of}
use Rattle.shared_table.specs.shared_rule.declared.parts.Look.{Look}
use Rattle.shared_timers.specs.Exchanging.{timer_word}
pub use Rattle.shared_looks.specs.Looks.{IsPassBegunWith, seen_all}

-- a load of a timer's word that named a CPU of the run
pub record NamesHome (o : World) (timer : ℕ) (x : Look) : Type 0 where
  pub word : x.word ≡ timer_word o timer
  pub spot : Spot
  pub names : spot_of x.found ≡ Some spot
  pub of_run : spot.cpu.0 < length o.cpus
