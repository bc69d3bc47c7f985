use Rattle.std.proofs.Common.{◌≡◌}
use Rattle.std.specs.Prelude.{drop}
use Rattle.play_rules.specs.Jobs.{first_unknown_job}
use Rattle.play_driver.proofs.playing.first_unknown_job.Given as goal

abbrev pub invariant-loop-moment : goal.invariant-loop-moment
invariant-loop-moment g l = first_unknown_job (g.J.Jobs.count l.jobs) (drop l.moment-index l.script.moments) ≡ first_unknown_job (g.J.Jobs.count l.jobs) l.script.moments
