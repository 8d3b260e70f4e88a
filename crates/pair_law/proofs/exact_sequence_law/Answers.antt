use Rattle.pair_law.proofs.PairMaps.{exact_cocycles}
use Rattle.pair_law.proofs.exact_sequence_law.Goals as goal

pub returns : goal.returns
returns c = exact_cocycles
