use Rattle.play_laws.proofs.Told.Journals.{each_timer_is_told, runs_are_hand_outs}
use Rattle.play_laws.proofs.Told.Runners.{runners_may_run}
use Rattle.play_laws.proofs.told_laws.law_lines.Goals as goal

pub returns-clause-runs : goal.returns-clause-runs
returns-clause-runs c = runs_are_hand_outs

pub returns-clause-timers : goal.returns-clause-timers
returns-clause-timers c = each_timer_is_told

pub returns-clause-runners : goal.returns-clause-runners
returns-clause-runners c = runners_may_run
