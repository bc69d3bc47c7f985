use Rattle.core_laws.proofs.Edges.KeepsBits.{bits_stay_fit}
use Rattle.core_laws.proofs.edge_laws.law_bits.Goals as goal

pub returns : goal.returns
returns c = bits_stay_fit
