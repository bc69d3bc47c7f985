-- timers, journals and times: part 10 of the invariant and Times, and the law that every step keeps
-- them
use Rattle.core_world.specs.declared.step.Step.{Step}
use Rattle.core_world.specs.Enabled.{Enabled}
use Rattle.core_world.specs.Frames.{IsSized}
use Rattle.core_world.specs.Steps.{stepped}
use Rattle.core_world.specs.Timers.{TimersHold, TimesHold}
use Rattle.core_world.specs.World.{World}

-- 10 and TIMES of the invariant: journals are legal, each timer is on one CPU, and times are in
-- range
pub record TimersFit (w : World) : Type 0 where
  pub timers : TimersHold w
  pub times : TimesHold w

-- THE LAW
abbrev pub TimersStayFit : Type 0
TimersStayFit = (w : World) (step : Step) → IsSized w → TimersFit w → Enabled w step →
    TimersFit (stepped w step)
