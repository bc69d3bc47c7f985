use Rattle.core_world.proofs.Moves.{moved_laws}
use Rattle.core_world.proofs.laws.law_moved.Goals as goal

pub returns : goal.returns
returns c = λ w g x c y exchanges. moved_laws w g x c y exchanges
