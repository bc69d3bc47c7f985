-- what fits a machine on a core
use Rattle.std.specs.Prelude.{Bool, true, false}
use Rattle.core_world.specs.World.{World}
use Rattle.step_play.specs.Rules.Seen.{InPlay, InRun, Phase}

-- when a core fits a place of a moment: one in play, where its events are to be exact, or else one
-- in a run
abbrev pub CoreFits : (exact : Bool) → Phase → World → Type 0
CoreFits true = InPlay
CoreFits false = InRun
