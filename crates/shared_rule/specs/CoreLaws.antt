-- the laws of the core that the table stands on, as one record
use Rattle.tree_plan.specs.Shape.{Shape, IsPlanned}
use Rattle.tree_plan.specs.Laws.{PathLaws, CutLaws}
use Rattle.core_world.specs.Frames.{SizesStay}
use Rattle.core_state.specs.core_facts.Cover.Rest.{EachRests}
use Rattle.core_state.specs.core_facts.Exchanges.{EachGoesOn}
use Rattle.core_state.specs.core_facts.Holders.{EachLockIsHeld}
use Rattle.core_state.specs.core_facts.Levels.{EachLevelIsLow, LevelsStayFit}
use Rattle.core_state.specs.core_facts.Marked.{EachMarkFits}
use Rattle.core_state.specs.core_facts.Invariant.{StepsStayLawful}
use Rattle.core_state.specs.core_facts.Places.{EachPlaceFits}
use Rattle.core_state.specs.core_facts.Played.{EachAddsReplay, StaysPlayed}
use Rattle.core_state.specs.core_facts.Ranges.{EachInRange}
use Rattle.core_state.specs.core_facts.Reach.{EachKeeps}
use Rattle.core_state.specs.core_facts.Told.{EachHasToldOwn}
use Rattle.core_state.specs.core_facts.Walkers.{EachWalkerIs}

-- what is true of every lawful core and of every step: each law as the crate that has it says it
pub record CoreLaws : Type 0 where
  -- steps: they keep the invariant, sizes, journals, levels, and all that they don't reach
  pub steps : StepsStayLawful
  pub sizes : SizesStay
  pub adds : EachAddsReplay
  pub played : StaysPlayed
  pub levels : LevelsStayFit
  pub frame : EachKeeps
  -- worlds: ranges, places of walks, their kinds, levels and exchanges, locks, marks, what is told
  pub low : EachLevelIsLow
  pub bounds : EachInRange
  pub places : EachPlaceFits
  pub walkers : EachWalkerIs
  pub goes_on : EachGoesOn
  pub locks : EachLockIsHeld
  pub marks : EachMarkFits
  pub told : EachHasToldOwn
  pub rests : EachRests
  -- trees
  pub cuts : (t : Shape) → IsPlanned t → CutLaws t
  pub paths : (t : Shape) → IsPlanned t → PathLaws t
