use Rattle.pair_law.proofs.PairMaps.{pair_maps}
use Rattle.pair_law.proofs.pair_map_law.Goals as goal

pub returns : goal.returns
returns c = pair_maps
