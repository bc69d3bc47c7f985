use Rattle.play_laws.proofs.Told.CoverTurns.{covers_are_true}
use Rattle.play_laws.proofs.told_laws.law_covers.Goals as goal

pub returns : goal.returns
returns c = covers_are_true
