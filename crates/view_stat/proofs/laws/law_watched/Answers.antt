use Rattle.std.proofs.Common.{◌+◌}
use Rattle.core_machine.specs.step_play.Rules.StepRules.{step_rules}
use Rattle.view_stat.specs.Stats.{is_due}
use Rattle.view_stat.proofs.Unwatched.{turns_seen}
use Rattle.view_stat.proofs.laws.law_watched.Goals as goal

pub returns : goal.returns
returns c jobs script s =
    turns_seen step_rules is_due jobs (script.end + 1) script.end 0 script.moments s
