use Rattle.core_world.proofs.Sizes.{sizes_stay}
use Rattle.core_world.proofs.laws.law_sizes.Goals as goal

pub returns : goal.returns
returns c = sizes_stay
