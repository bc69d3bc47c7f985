-- watching changes nothing
use Rattle.std.specs.Prelude.{◌≡◌, map}
use Rattle.tm_script.specs.declared.syntax.Script.{Script}
use Rattle.core_world.specs.World.{World}
use Rattle.core_machine.specs.step_play.Rules.StepRules.{step_rules}
use Rattle.play_rules.specs.Interrupts.{Replies}
use Rattle.play_driver.specs.Outcomes.{script_turns}
use Rattle.view_stat.specs.Stats.{core_rules}
use Rattle.view_stat.specs.Watched.{Watched, unwatched_turn}

-- THE WATCHED PLAY IS THE PLAY: from any core, whatever was counted before, the play of a script
-- that is watched is the play by steps, moment by moment: the same times, lines, work and cores
abbrev pub WatchedIsPlay : Type 0
WatchedIsPlay =
    (jobs : Replies) (script : Script) (s : Watched World) →
    map unwatched_turn (script_turns jobs core_rules script s)
    ≡ script_turns jobs step_rules script s.world
