use Rattle.play_laws.proofs.Told.LeftLaw.{left_are_queued}
use Rattle.play_laws.proofs.told_laws.law_left.Goals as goal

pub returns : goal.returns
returns c = left_are_queued
